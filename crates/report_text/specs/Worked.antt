-- A purchase whose report was worked out by hand.
use Rattle.std.specs.Prelude.{ℕ, List, [], ◌∷◌, false, None}
use Rattle.ep_base.specs.declared.air.CardKind.TheVariants as kinds
use Rattle.ep_base.specs.declared.outcome.OutcomeKind.TheVariants as outcomes
use Rattle.ep_base.specs.declared.outcome.Message.TheVariants as messages
use Rattle.ep_rules.specs.EntryPoint.Configuration.{Combination}
use Rattle.ep_rules.specs.EntryPoint.PreProcessing.{Indicators}
use Rattle.ep_rules.specs.EntryPoint.Event.{Start, Pre, Notice, Card, Candidates, Activate, Outcome, Finished, Event as EventData, Tells, Apdu, End}

abbrev aid : List ℕ
aid = 0xa0 ∷ 0x00 ∷ 0x00 ∷ 0x00 ∷ 0x03 ∷ 0x10 ∷ 0x10 ∷ []

abbrev select_ppse : List ℕ
select_ppse = 0x00 ∷ 0xa4 ∷ 0x04 ∷ 0x00 ∷ 0x0e ∷ 0x32 ∷ 0x50 ∷ 0x41 ∷ 0x59 ∷ 0x2e ∷ 0x53 ∷ 0x59 ∷ 0x53 ∷ 0x2e ∷ 0x44 ∷ 0x44 ∷ 0x46 ∷ 0x30 ∷ 0x31 ∷ 0x00 ∷ []

abbrev directory : List ℕ
directory = 0x6f ∷ 0x23 ∷ 0x84 ∷ 0x0e ∷ 0x32 ∷ 0x50 ∷ 0x41 ∷ 0x59 ∷ 0x2e ∷ 0x53 ∷ 0x59 ∷ 0x53 ∷ 0x2e ∷ 0x44 ∷ 0x44 ∷ 0x46 ∷ 0x30 ∷ 0x31 ∷ 0xa5 ∷ 0x11 ∷ 0xbf ∷ 0x0c ∷ 0x0e ∷ 0x61 ∷ 0x0c ∷ 0x4f ∷ 0x07 ∷ 0xa0 ∷ 0x00 ∷ 0x00 ∷ 0x00 ∷ 0x03 ∷ 0x10 ∷ 0x10 ∷ 0x87 ∷ 0x01 ∷ 0x01 ∷ 0x90 ∷ 0x00 ∷ []

abbrev select_name : List ℕ
select_name = 0x00 ∷ 0xa4 ∷ 0x04 ∷ 0x00 ∷ 0x07 ∷ 0xa0 ∷ 0x00 ∷ 0x00 ∷ 0x00 ∷ 0x03 ∷ 0x10 ∷ 0x10 ∷ 0x00 ∷ []

abbrev selected : List ℕ
selected = 0x6f ∷ 0x09 ∷ 0x84 ∷ 0x07 ∷ 0xa0 ∷ 0x00 ∷ 0x00 ∷ 0x00 ∷ 0x03 ∷ 0x10 ∷ 0x10 ∷ 0x90 ∷ 0x00 ∷ []

abbrev get_options : List ℕ
get_options = 0x80 ∷ 0xa8 ∷ 0x00 ∷ 0x00 ∷ 0x02 ∷ 0x83 ∷ 0x00 ∷ 0x00 ∷ []

abbrev options : List ℕ
options = 0x80 ∷ 0x06 ∷ 0x20 ∷ 0x00 ∷ 0x08 ∷ 0x01 ∷ 0x01 ∷ 0x00 ∷ 0x90 ∷ 0x00 ∷ []

abbrev clear : Indicators
clear = record { not_allowed = false; status = false; zero = false; floor = false; cvm = false }

abbrev combination : Combination
combination = record { txn_type = 0; aid = aid; kernel = 3; status_check = false; zero_allowed = None; limit = None; floor = None; terminal_floor = None; cvm = None; extended = false; ttq = None }

abbrev purchase_events : List EventData
purchase_events =
    Tells (Start 0 1000)
    ∷ Tells (Pre 1 (record { combination = combination; indicators = clear; ttq = None }))
    ∷ Tells (Notice messages.PresentCard)
    ∷ Tells (Card kinds.A (0x01 ∷ 0x02 ∷ 0x03 ∷ 0x04 ∷ []))
    ∷ Apdu select_ppse directory
    ∷ Tells (Candidates 1)
    ∷ Apdu select_name selected
    ∷ Tells (Activate (record { kernel = 3; combination = 1; name = aid; indicators = clear; ttq = None; fci = 0x6f ∷ 0x09 ∷ 0x84 ∷ 0x07 ∷ 0xa0 ∷ 0x00 ∷ 0x00 ∷ 0x00 ∷ 0x03 ∷ 0x10 ∷ 0x10 ∷ [] }))
    ∷ Apdu get_options options
    ∷ Tells (Outcome outcomes.Approved)
    ∷ Tells (Notice messages.Approved)
    ∷ End Finished
    ∷ []

abbrev purchase_log : List (ℕ × List ℕ)
purchase_log = (1, select_ppse) ∷ (1, select_name) ∷ (1, get_options) ∷ []

abbrev pub purchase : List EventData × List (ℕ × List ℕ)
purchase = (purchase_events, purchase_log)
