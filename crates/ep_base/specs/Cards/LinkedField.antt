-- A field in which one card has the open link (this project's own).
use Rattle.std.specs.Prelude.{◌≡◌, ℕ, zero, suc, ◌^◌, nat_lt, ◌&&◌, Bool, true, false, not, if◌then◌else◌, List, [], ◌∷◌}
use Rattle.ep_base.specs.declared.air.CardKind.{CardKind}
use Rattle.ep_base.specs.Air.FrameSize.{frame_size}
use Rattle.ep_base.specs.Air.Heard.{Activated, same_kind}
use Rattle.ep_base.specs.Link.Block.{same}
use Rattle.ep_base.specs.Link.CardEnd.{is_halted, fresh_card}
use Rattle.ep_base.specs.Air.Fates.{Way, Passes, Loses, Bursts, Leaves, Fate}
use Rattle.ep_base.specs.Link.Wire.{Party}
use Rattle.ep_base.specs.Cards.Field.{Placed, Field, no_party}
use Rattle.ep_base.specs.Cards.Inside.{is_inside, is_out, all_out}
use Rattle.ep_base.specs.Cards.Lawful.{kind_of, id_of, reset_faces}

-- Whether a burst is one run of at most sixteen bits (this project's own).
abbrev pub is_way : Way → Bool
is_way Passes = true
is_way Loses = true
is_way (Bursts start mask) = nat_lt mask (2 ^ 16)
is_way Leaves = true

-- Whether all bursts of these fates are (this project's own).
abbrev pub are_fates : List Fate → Bool
are_fates [] = true
are_fates (f ∷ fates) = is_way f.down && (is_way f.up && are_fates fates)

-- Whether the card has the open link: both its rules are of this kind, it is there until the cards are gone, and it is in the block protocol
-- until it has answered S(DESELECT) (ISO/IEC 14443-4).
abbrev pub is_link : CardKind → Bool → Placed → Bool
is_link kind gone p =
    same p.present (not gone) && (same_kind p.party.kind kind && (same_kind (kind_of p.outside) kind
    && (if is_halted p.party.card then is_out p.outside else is_inside p.outside)))

-- Whether the card after so many others has it, and all others are outside the block protocol (this project's own).
abbrev pub linked_at : CardKind → Bool → ℕ → List Placed → Bool
linked_at kind gone n [] = false
linked_at kind gone zero (p ∷ ps) = is_link kind gone p && all_out ps
linked_at kind gone (suc n) (p ∷ ps) = is_out p.outside && linked_at kind gone n ps

-- Whether the field has an open link with the card after so many others, and lawful fates (this project's own).
abbrev pub is_open : CardKind → ℕ → Field → Bool
is_open kind n f = linked_at kind f.air.gone n f.cards && are_fates f.air.fates

-- The end of the link of the card after so many others (this project's own).
abbrev pub party_at : ℕ → List Placed → Party
party_at n [] = no_party
party_at zero (p ∷ ps) = p.party
party_at (suc n) (p ∷ ps) = party_at n ps

-- All cards but the one after so many others (this project's own).
abbrev pub without : ℕ → List Placed → List Placed
without n [] = []
without zero (p ∷ ps) = ps
without (suc n) (p ∷ ps) = p ∷ without n ps

-- A card with a link that was just opened: it is the card that was found, is present and in the block protocol, and its end of the link is fresh,
-- with the reader's frame size (ISO/IEC 14443-4).
pub record HasLink (fsdi : ℕ) (card : Activated) (p : Placed) : Type 0 where
  pub present : p.present ≡ true
  pub inside : is_inside p.outside ≡ true
  pub kind : kind_of p.outside ≡ card.kind
  pub id : id_of p.outside ≡ card.id
  pub link_kind : p.party.kind ≡ card.kind
  pub frame : p.party.fsd ≡ frame_size fsdi
  pub fresh : p.party.card ≡ fresh_card

-- The log and its room stay, and so do the plans and images of the cards but for the selected applications (this project's own).
pub record SameCards (s t : Field) : Type 0 where
  pub log : t.log ≡ s.log
  pub room : t.room ≡ s.room
  pub cards : reset_faces t.cards ≡ reset_faces s.cards
