-- What can follow where the checker stands, and for which readers it stands.
use Rattle.std.proofs.Common.{◌≡◌, ℕ, ◌-◌, ◌<◌, Bool, true, false, List, [], ◌∷◌, ◌++◌, length, Option, Some, None}
use Rattle.ep_base.specs.Air.Heard.{Goes}
use Rattle.ep_base.specs.Cards.Apdu.{is_command}
use Rattle.ep_base.specs.Link.Block.{I, RAck, RNak, Deselect, Wtx, ReadBlock, Bad, Junk, Intact, is_bad, is_wtx, count}
use Rattle.ep_base.specs.Link.Parts.{cut}
use Rattle.ep_base.specs.Link.ReaderEnd.{Reader, Idle, Sending, Receiving, Asks}
use Rattle.ep_base.specs.Link.LinkFrames.{LinkSetting, block_ask}
use Rattle.trace_check.specs.Lines.{Line}
use Rattle.trace_check.specs.Allowed.{Sends as IsAsked, IsCut}
use Rattle.trace_check.specs.declared.watch.Watch.{Watch}
use Rattle.trace_check.specs.declared.watch.Watch.TheVariants as Watching
use Rattle.trace_check.specs.Held.{RoundAt, Tally, Parts}
use Rattle.trace_check.specs.declared.latest.Latest.{Latest}
use Rattle.trace_check.specs.declared.latest.Latest.TheVariants.{Plain, Lost, Waits}
use Rattle.trace_check.proofs.Cuts.{FromRest, FromTurn, FromRound}

-- what the next block goes by
abbrev pub latest_of : List ReadBlock → Latest
latest_of [] = Plain
latest_of (Bad ∷ s) = Lost
latest_of (Junk ∷ s) = Plain
latest_of (Intact (I k ch inf) ∷ s) = Plain
latest_of (Intact (RAck k) ∷ s) = Plain
latest_of (Intact (RNak k) ∷ s) = Plain
latest_of (Intact Deselect ∷ s) = Plain
latest_of (Intact (Wtx p m) ∷ s) = Waits m

-- these were heard since the toggle
pub record Matches (t : Tally) (since : List ReadBlock) : Type 0 where
  pub latest : latest_of since ≡ t.latest
  pub bad : count is_bad since ≡ t.bad
  pub wtx : count is_wtx since ≡ t.wtx

-- a command goes on with these bytes after those that were sent, and its parts after those are these
pub record GoesOn (size : ℕ) (bytes : List ℕ) (left : List (List ℕ)) : Type 0 where
  pub more : List ℕ
  pub some : 0 < length more
  pub is : is_command (bytes ++ more) ≡ true
  pub parts : left ≡ (cut size more).first ∷ (cut size more).others

-- the parts that are left
abbrev pub Left : ℕ → List ℕ → Bool → List (List ℕ) → Type 0
Left size bytes false left = left ≡ []
Left size bytes true left = GoesOn size bytes left

-- some parts can be left
pub record SomeLeft (size : ℕ) (p : Parts) : Type 0 where
  pub left : List (List ℕ)
  pub is : Left size (p.sent ++ p.part) p.chained left

-- the reader of a link with no command open
abbrev pub rested : Bool → Reader
rested number = record { number = number; phase = Idle; since = [] }

-- the reader that sent a part
abbrev pub sending : Tally → Parts → List (List ℕ) → List ReadBlock → Reader
sending t p left since = record { number = t.number; phase = Sending p.part left; since = since }

-- the reader that heard so many bytes
abbrev pub receiving : Tally → List ℕ → List ReadBlock → Reader
receiving t got since = record { number = t.number; phase = Receiving got; since = since }

-- the reader with the next parts
abbrev pub sending_next : Bool → ℕ → List ℕ → Reader
sending_next number size more = record { number = number; phase = Sending (cut size more).first (cut size more).others; since = [] }

-- a command goes on, and these lines can follow
pub record FromNext (After : List Line → Type 0) (set : LinkSetting) (number : Bool) (sent : List ℕ) (ls : List Line) : Type 0 where
  pub more : List ℕ
  pub some : 0 < length more
  pub is : is_command (sent ++ more) ≡ true
  pub goes : FromTurn After set (Asks (sending_next number (set.frames.card - 3) more)) ls

-- in a round
abbrev pub FromRoundAt : ℕ → RoundAt → List Line → Type 0
FromRoundAt fsdi round ls = (round.fsdi ≡ fsdi) × FromRound fsdi (Goes round.stage) ls

-- the link is being closed
abbrev pub FromClosing : (List Line → Type 0) → LinkSetting → List Line → Type 0
FromClosing After set [] = ⊥
FromClosing After set (l ∷ ls) = IsAsked l (block_ask set.kind set.fwi Deselect) × After ls

-- for some reader that sent this part
pub record SomeSending (After : List Line → Type 0) (t : Tally) (p : Parts) (ls : List Line) : Type 0 where
  pub left : List (List ℕ)
  pub since : List ReadBlock
  pub is : Left (t.set.frames.card - 3) (p.sent ++ p.part) p.chained left
  pub matches : Matches t since
  pub goes : FromTurn After t.set (Asks (sending t p left since)) ls

-- for some reader that heard so many bytes
pub record SomeReceiving (After : List Line → Type 0) (t : Tally) (got : ℕ) (ls : List Line) : Type 0 where
  pub bytes : List ℕ
  pub since : List ReadBlock
  pub len : length bytes ≡ got
  pub matches : Matches t since
  pub goes : FromTurn After t.set (Asks (receiving t bytes since)) ls

-- these lines can follow for some reader for which the checker stands
abbrev pub Follows : (List Line → Type 0) → (RoundAt → List Line → Type 0) → Watch → List Line → Type 0
Follows After Round Watching.Ready ls = After ls
Follows After Round (Watching.InRound round) ls = Round round ls
Follows After Round (Watching.Resting set number) ls = FromRest After set (rested number) ls
Follows After Round (Watching.Closing set) ls = FromClosing After set ls
Follows After Round (Watching.Between set number sent) ls = FromNext After set number sent ls
Follows After Round (Watching.Sending t p) ls = SomeSending After t p ls
Follows After Round (Watching.Receiving t got) ls = SomeReceiving After t got ls

-- for each reader that sent this part of some command
pub record EachSending (After : List Line → Type 0) (t : Tally) (p : Parts) (ls : List Line) : Type 0 where
  pub left : List (List ℕ)
  pub is : Left (t.set.frames.card - 3) (p.sent ++ p.part) p.chained left
  pub goes : (since : List ReadBlock) → Matches t since → FromTurn After t.set (Asks (sending t p left since)) ls

-- for each reader that heard so many bytes
abbrev pub EachReceiving : (List Line → Type 0) → Tally → ℕ → List Line → Type 0
EachReceiving After t got ls =
    (bytes : List ℕ) (since : List ReadBlock) → length bytes ≡ got → Matches t since → FromTurn After t.set (Asks (receiving t bytes since)) ls

-- these lines can follow for each reader for which the checker stands
abbrev pub Fits : ℕ → Watch → List Line → Type 0
Fits fsdi Watching.Ready ls = IsCut fsdi ls
Fits fsdi (Watching.InRound round) ls = FromRoundAt fsdi round ls
Fits fsdi (Watching.Resting set number) ls = FromRest (IsCut fsdi) set (rested number) ls
Fits fsdi (Watching.Closing set) ls = FromClosing (IsCut fsdi) set ls
Fits fsdi (Watching.Between set number sent) ls = FromNext (IsCut fsdi) set number sent ls
Fits fsdi (Watching.Sending t p) ls = EachSending (IsCut fsdi) t p ls
Fits fsdi (Watching.Receiving t got) ls = EachReceiving (IsCut fsdi) t got ls

-- where the checker goes on
abbrev pub MayFollow : (List Line → Type 0) → (RoundAt → List Line → Type 0) → Option Watch → List Line → Type 0
MayFollow After Round None ls = ⊥
MayFollow After Round (Some w) ls = Follows After Round w ls

abbrev pub MayFit : ℕ → Option Watch → List Line → Type 0
MayFit fsdi None ls = ⊥
MayFit fsdi (Some w) ls = Fits fsdi w ls
