-- How long a command takes, whatever the reader hears.
use Rattle.std.specs.Prelude.{◌≡◌, ℕ, ◌+◌, ◌-◌, ◌≤◌, Bool, List, [], ◌∷◌, length, if◌then◌else◌}
use Rattle.ep_base.specs.declared.limits.TheConstants.{COMMAND, COMMAND_EXCHANGES, EXCHANGES, TOGGLES}
use Rattle.ep_base.specs.Link.Block.{ReadBlock, is_bad, same, count}
use Rattle.ep_base.specs.Link.ReaderEnd.{Reader, ReaderTurn, Asks, Gives, Spends, Breaks, reader_hears, begin}
use Rattle.ep_base.specs.Link.CardEnd.{CommandRules, Card}
use Rattle.ep_base.specs.Link.OneLink.{Frames, BlockFate, End, Open, Done, Spent, Breach, run_command}

-- The reader after these hearings, until a command ends.
abbrev pub after_all : ℕ → List ReadBlock → ReaderTurn → ReaderTurn
after_all frame [] t = t
after_all frame (h ∷ hs) (Asks r) = after_all frame hs (reader_hears frame r h)
after_all frame (h ∷ hs) (Gives response r) = Gives response r
after_all frame (h ∷ hs) (Spends r) = Spends r
after_all frame (h ∷ hs) (Breaks r) = Breaks r

-- Fewer than `EXCHANGES` hearings without a toggle while it asks; the link is spent exactly at the third bad one.
abbrev pub IsBounded : ReaderTurn → Type 0
IsBounded (Asks r) = (length r.since ≤ EXCHANGES - 1) × (count is_bad r.since ≤ 2)
IsBounded (Gives response r) = r.since ≡ []
IsBounded (Spends r) = (length r.since ≤ EXCHANGES) × (count is_bad r.since ≡ 3)
IsBounded (Breaks r) = length r.since ≤ EXCHANGES - 1

abbrev pub IsEnded : ReaderTurn → Type 0
IsEnded (Asks r) = ⊥
IsEnded (Gives response r) = Unit {0}
IsEnded (Spends r) = Unit {0}
IsEnded (Breaks r) = Unit {0}

abbrev pub IsOver : End → Type 0
IsOver (Open r card) = ⊥
IsOver (Done response r card fates) = Unit {0}
IsOver (Spent r card) = Unit {0}
IsOver (Breach r card) = Unit {0}

-- Whatever is heard, at most `EXCHANGES` exchanges lie between two toggles.
abbrev pub BoundedToggles : Type 0
BoundedToggles = (card_frame frame : ℕ) (command : List ℕ) (r : Reader) (hearings : List ReadBlock) → r.since ≡ [] →
    IsBounded (after_all frame hearings (Asks (begin card_frame command r)))

-- And a command ends.
abbrev pub CommandEnds : Type 0
CommandEnds = (card_frame frame : ℕ) (command : List ℕ) (r : Reader) (hearings : List ReadBlock) → r.since ≡ [] →
    16 ≤ card_frame → length command ≤ COMMAND → COMMAND_EXCHANGES ≤ length hearings →
    IsEnded (after_all frame hearings (Asks (begin card_frame command r)))

-- On a link too.
abbrev pub LinkEnds : Type 0
LinkEnds = (frames : Frames) (image : CommandRules) (fates : List BlockFate) (r : Reader) (card : Card) (command : List ℕ) → r.since ≡ [] →
    16 ≤ frames.card → length command ≤ COMMAND → COMMAND_EXCHANGES ≤ length fates →
    IsOver (run_command frames image fates (begin frames.card command r) card)

-- One where the number changes from one turn to the next.
abbrev pub toggle_of : Bool → Bool → ℕ
toggle_of old now = if same now old then 0 else 1

abbrev pub toggle : Reader → ReaderTurn → ℕ
toggle old (Asks r) = toggle_of old.number r.number
toggle old (Gives response r) = toggle_of old.number r.number
toggle old (Spends r) = 0
toggle old (Breaks r) = 0

-- How often the reader toggles over these hearings, until a command ends.
abbrev pub toggles_in : ℕ → List ReadBlock → ReaderTurn → ℕ
toggles_in frame [] t = 0
toggles_in frame (h ∷ hs) (Asks r) = toggle r (reader_hears frame r h) + toggles_in frame hs (reader_hears frame r h)
toggles_in frame (h ∷ hs) (Gives response r) = 0
toggles_in frame (h ∷ hs) (Spends r) = 0
toggles_in frame (h ∷ hs) (Breaks r) = 0

-- A command takes at most `TOGGLES` toggles.
abbrev pub FewToggles : Type 0
FewToggles = (card_frame frame : ℕ) (command : List ℕ) (r : Reader) (hearings : List ReadBlock) → r.since ≡ [] →
    16 ≤ card_frame → length command ≤ COMMAND →
    toggles_in frame hearings (Asks (begin card_frame command r)) ≤ TOGGLES
