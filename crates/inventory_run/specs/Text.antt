-- The text of an inventory (this project's own).
use Rattle.std.specs.Prelude.{ℕ, ◌+◌, List, [], ◌∷◌, ◌++◌, length, codes, decimal}
use Rattle.std.specs.List.{flat_map}
use Rattle.hex.specs.Hex.{encode_lower}
use Rattle.inventory.specs.Tags.{Tag, in_order}

-- The line of a transaction's inventory: the numbers of lane and transaction, and how many cards there are (this project's own).
abbrev pub inventory_line : (lane txn count : ℕ) → List ℕ
inventory_line lane txn count =
    codes "inventory " ++ (decimal lane ++ (codes "." ++ (decimal txn ++ (codes " tags=" ++ (decimal count ++ codes "\n")))))

-- The line of a card: its UID, and its SAK in two digits (this project's own).
abbrev pub tag_line : Tag → List ℕ
tag_line t = codes "tag " ++ (encode_lower t.uid ++ (codes " sak=" ++ (encode_lower (t.sak ∷ []) ++ codes "\n")))

-- The lines of cards, one after another (this project's own).
abbrev pub tag_lines : List Tag → List ℕ
tag_lines tags = flat_map tag_line tags

-- The text of a transaction with these cards: its line, and those of the cards in their order (this project's own).
abbrev pub inventory_text : (lane txn : ℕ) → List Tag → List ℕ
inventory_text lane txn tags = inventory_line lane txn (length tags) ++ tag_lines (in_order tags)

-- The text of a lane, whose next transaction has the number `txn` (this project's own).
abbrev pub lane_from : (lane txn : ℕ) → List (List Tag) → List ℕ
lane_from lane txn [] = []
lane_from lane txn (tags ∷ rest) = inventory_text lane txn tags ++ lane_from lane (txn + 1) rest

-- The text of lanes, of which the next one has the number `lane`; the transactions of each are numbered from 1 (this project's own).
abbrev pub lanes_from : (lane : ℕ) → List (List (List Tag)) → List ℕ
lanes_from lane [] = []
lanes_from lane (transactions ∷ rest) = lane_from lane 1 transactions ++ lanes_from (lane + 1) rest

-- The text of all lanes, which are numbered from 1 (this project's own).
abbrev pub lanes_text : List (List (List Tag)) → List ℕ
lanes_text lanes = lanes_from 1 lanes
