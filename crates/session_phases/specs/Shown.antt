-- What is shown of a transaction's last Start B and of its last link.
use Rattle.std.specs.Prelude.{◌≡◌, ℕ, ◌+◌, ◌-◌, Bool, true, false, All, List, [], ◌∷◌, ◌++◌, length, Option, Some, None, if◌then◌else◌}
use Rattle.ep_base.specs.Link.Carry.{turn_on}
use Rattle.ep_base.specs.Air.Heard.{Heard, RoundEnd, Empty, Collision, Unsupported, Broken, Found, RoundTurn, Goes, Ends}
use Rattle.ep_base.specs.Link.LinkEvents.{kept_after, exchange_of}
use Rattle.ep_base.specs.Link.LinkFrames.{Kept}
use Rattle.ep_base.specs.Poll.Round.{Stage, round_hears}
use Rattle.ep_base.specs.Poll.Radio.{OpenLink}
use Rattle.ep_base.specs.declared.limits.TheConstants.{ROUNDS}
use Rattle.ep_rules.specs.EntryPoint.Talk.{Result, Round, Response, Closed}
use Rattle.block_reader.specs.Stands.{Held}
use Rattle.ep_claim.specs.Lanes.Standing.{Doing, Rounds, Carries, Closing, Stopped, Astray, Standing}
use Rattle.kernel_port.specs.declared.event.End.{End}
use Rattle.kernel_port.specs.declared.event.End.TheVariants as ending
use Rattle.session_phases.specs.Causes.{FindsNone, IsNoCard, FailsOver, FailedIn}
use Rattle.session_phases.specs.Plain as plain
use Rattle.session_phases.specs.Plain.{Step, Onward}

-- How the rounds of a Start B ended, and whether its presentation was closed since (this project's own).
pub record Rounded : Type 0 where
  pub ends : List RoundEnd
  pub closed : Bool

-- The ends so far of the Start B that is under way: after a close it is a new one (this project's profile).
abbrev pub under_way : Rounded → List RoundEnd
under_way r = if r.closed then [] else r.ends

-- After a result (this project's own).
abbrev pub after_result : Result → Rounded → Rounded
after_result (Round e) r = record { ends = under_way r ++ e ∷ []; closed = false }
after_result (Response response) r = r
after_result Closed r = record { ends = r.ends; closed = true }

-- After further results (this project's own).
abbrev pub rounded_from : Rounded → List Result → Rounded
rounded_from r [] = r
rounded_from r (x ∷ xs) = rounded_from (after_result x r) xs

-- After these results (this project's own).
abbrev pub rounded : List Result → Rounded
rounded results = rounded_from (record { ends = []; closed = false }) results

-- While rounds are made, the ends of the Start B that is under way; else those of the last one (this project's own).
abbrev pub ends_at : Doing → Rounded → List RoundEnd
ends_at (Rounds stage) r = under_way r
ends_at (Carries l) r = r.ends
ends_at (Closing l) r = r.ends
ends_at (Stopped ending) r = r.ends
ends_at Astray r = r.ends

-- How the rounds of the last Start B ended, in order (this project's profile).
abbrev pub rounds_of : Standing → List RoundEnd
rounds_of st = ends_at st.doing (rounded st.results)

-- As many rounds may still come after this one as were not made, of `ROUNDS`, and none of those that ended found a card (this project's profile).
pub record FitsRound (ends : List RoundEnd) (left : ℕ) : Type 0 where
  pub count : length ends + left ≡ ROUNDS - 1
  pub none : All FindsNone ends

-- Where a round is made, the rounds fit (this project's profile).
abbrev pub Fits : Step → List RoundEnd → Type 0
Fits (plain.Polling round) ends = FitsRound ends round.left
Fits (plain.Waiting wish) ends = Unit {0}

-- At an end without a card all rounds have ended without one (this project's profile).
abbrev pub EndFits : End → List RoundEnd → Type 0
EndFits ending.Done ends = Unit {0}
EndFits ending.Link ends = Unit {0}
EndFits ending.NoCard ends = IsNoCard ends
EndFits ending.Breach ends = Unit {0}

-- The same after an exchange (this project's own).
abbrev pub FitsThen : Onward → List RoundEnd → Type 0
FitsThen (plain.Ask ask step) ends = Fits step ends
FitsThen (plain.Ended end) ends = EndFits end ends

-- A Start B ends only without a card, and after its last round (this project's profile).
abbrev pub EndLeft : End → ℕ → Type 0
EndLeft ending.Done left = ⊥
EndLeft ending.Link left = ⊥
EndLeft ending.NoCard left = left ≡ 0
EndLeft ending.Breach left = ⊥

-- So many rounds are left before this one (this project's own).
abbrev pub LeftThen : Onward → ℕ → Type 0
LeftThen (plain.Ask ask (plain.Polling round)) left = round.left + 1 ≡ left
LeftThen (plain.Ask ask (plain.Waiting wish)) left = Unit {0}
LeftThen (plain.Ended end) left = EndLeft end left

-- Where rounds go on after this end of one, or none is left, it found no card (this project's own).
abbrev pub NoneThen : Onward → RoundEnd → Type 0
NoneThen (plain.Ask ask (plain.Polling round)) e = FindsNone e
NoneThen (plain.Ask ask (plain.Waiting wish)) e = Unit {0}
NoneThen (plain.Ended end) e = FindsNone e

-- A round comes next, with so many after it (this project's own).
abbrev pub PollsThen : Onward → ℕ → Type 0
PollsThen (plain.Ask ask (plain.Polling round)) left = round.left ≡ left
PollsThen (plain.Ask ask (plain.Waiting wish)) left = ⊥
PollsThen (plain.Ended end) left = ⊥

-- The end isn't one without a card (this project's own).
abbrev pub IsCarded : End → Type 0
IsCarded ending.Done = Unit {0}
IsCarded ending.Link = Unit {0}
IsCarded ending.NoCard = ⊥
IsCarded ending.Breach = Unit {0}

-- No round comes next, and none was (this project's own).
abbrev pub NoRoundThen : Onward → Type 0
NoRoundThen (plain.Ask ask (plain.Polling round)) = ⊥
NoRoundThen (plain.Ask ask (plain.Waiting wish)) = Unit {0}
NoRoundThen (plain.Ended end) = IsCarded end

-- The end isn't that of a failed link (this project's own).
abbrev pub IsUnfailed : End → Type 0
IsUnfailed ending.Done = Unit {0}
IsUnfailed ending.Link = ⊥
IsUnfailed ending.NoCard = Unit {0}
IsUnfailed ending.Breach = ⊥

-- No link has failed (this project's own).
abbrev pub NoFailureThen : Onward → Type 0
NoFailureThen (plain.Ask ask step) = Unit {0}
NoFailureThen (plain.Ended end) = IsUnfailed end

-- Nothing but what Entry Point decides ends it (this project's own).
abbrev pub IsDone : End → Type 0
IsDone ending.Done = Unit {0}
IsDone ending.Link = ⊥
IsDone ending.NoCard = ⊥
IsDone ending.Breach = ⊥

-- The same, where it has ended (this project's own).
abbrev pub DoneThen : Onward → Type 0
DoneThen (plain.Ask ask step) = Unit {0}
DoneThen (plain.Ended end) = IsDone end

-- Where the open command's link has failed, what its reader's end keeps shows it (this project's profile).
abbrev pub FailsThen : Onward → Heard → OpenLink → Held → Type 0
FailsThen (plain.Ask ask step) heard l e = Unit {0}
FailsThen (plain.Ended end) heard l e = FailsOver end heard l e

-- An end of a failed link shows it (this project's profile).
abbrev pub EndFailed : End → Heard → Doing → Option Held → Type 0
EndFailed ending.Done heard doing link = Unit {0}
EndFailed ending.Link heard doing link = FailedIn ending.Link heard doing link
EndFailed ending.NoCard heard doing link = Unit {0}
EndFailed ending.Breach heard doing link = FailedIn ending.Breach heard doing link

-- The same after an exchange (this project's own).
abbrev pub FailedThen : Onward → Heard → Doing → Option Held → Type 0
FailedThen (plain.Ask ask step) heard doing link = Unit {0}
FailedThen (plain.Ended end) heard doing link = EndFailed end heard doing link

-- The ends after one more turn of a round (this project's own).
abbrev pub ends_after : RoundTurn Stage → List RoundEnd → List RoundEnd
ends_after (Goes stage) ends = ends
ends_after (Ends e) ends = ends ++ e ∷ []

-- What the reader's end of the last link lends: the exchanges since its block number's last toggle (this project's profile).
abbrev pub kept_of : Option Held → List Kept
kept_of None = []
kept_of (Some e) = e.since

-- A card that is found has a new link (this project's profile).
abbrev pub kept_found : RoundEnd → List Kept → List Kept
kept_found Empty ks = ks
kept_found Collision ks = ks
kept_found Unsupported ks = ks
kept_found Broken ks = ks
kept_found (Found card) ks = []

-- After a turn of a round (this project's own).
abbrev pub kept_turned : RoundTurn Stage → List Kept → List Kept
kept_turned (Goes stage) ks = ks
kept_turned (Ends e) ks = kept_found e ks

-- What is lent after a hearing: while a command is open, by the block number's toggles; a close changes nothing (this project's profile).
abbrev pub kept_by : Heard → Doing → List Kept → List Kept
kept_by heard (Rounds stage) ks = kept_turned (round_hears stage heard) ks
kept_by heard (Carries l) ks = kept_after ks l.reader (turn_on l.set l.reader heard) (exchange_of l.set l.reader heard)
kept_by heard (Closing l) ks = ks
kept_by heard (Stopped ending) ks = ks
kept_by heard Astray ks = ks

-- The same after the hearing of a standing's next exchange (this project's profile).
abbrev pub kept_then : Heard → Standing → List Kept → List Kept
kept_then heard st ks = kept_by heard st.doing ks
