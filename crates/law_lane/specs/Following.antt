-- What follows in a transaction from each of its exchanges (this project's own).
use Rattle.std.specs.Prelude.{◌≡◌, ℕ, List, [], ◌∷◌, ◌++◌, Some}
use Rattle.ep_base.specs.Air.Heard.{Heard}
use Rattle.ep_base.specs.Cards.Field.{Field}
use Rattle.ep_rules.specs.EntryPoint.Event.{Event as EventData}
use Rattle.ep_rules.specs.EntryPoint.Talk.{Talk}
use Rattle.ep_claim.specs.Lanes.Standing.{Standing, started, asked_by, after_hearing, events_of}
use Rattle.ep_claim.specs.Lanes.Exchanges.{Exchange, field_answers, opened_lane, lane_after}

-- Whatever is heard next, the events so far stay, and others may follow them (this project's own).
abbrev pub EventsGrow : Type 0
EventsGrow = (fsdi : ℕ) (talk : Talk) (heard : Heard) (s : Standing) →
    (more : List EventData) × (events_of talk (after_hearing fsdi talk heard s) ≡ events_of talk s ++ more)

-- From this standing and this field on these exchanges were made: each asks what is asked then, hears what the field answers, and goes on from
-- there; they lead to that standing and that field (this project's own).
abbrev pub AreMade : ℕ → Talk → Standing → Field → List Exchange → Standing → Field → Type 0
AreMade fsdi talk s f [] t g = (s ≡ t) × (f ≡ g)
AreMade fsdi talk s f (x ∷ xs) t g =
    (asked_by fsdi s.doing ≡ Some x.asked)
    × (u : Field) × (field_answers x.asked f ≡ (Some x.heard, u)) × AreMade fsdi talk (after_hearing fsdi talk x.heard s) u xs t g

-- The exchanges of a transaction, after however many of them, are those that were made from its start on (this project's own).
abbrev pub ExchangesAreMade : Type 0
ExchangesAreMade = (fsdi : ℕ) (talk : Talk) (f : Field) (n : ℕ) →
    AreMade fsdi talk (started talk) f (lane_after fsdi talk n (opened_lane talk f)).exchanges
    (lane_after fsdi talk n (opened_lane talk f)).standing (lane_after fsdi talk n (opened_lane talk f)).field
