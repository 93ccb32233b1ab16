-- A field without cards stays so.
use Rattle.std.proofs.Common.{◌≡◌, ℕ, Bool, true, false, List, [], ap, ◌∙◌, Option, Some, None}
use Rattle.std.specs.Prelude.{if◌then◌else◌}
use Rattle.ep_base.specs.declared.air.Wave.{Wave}
use Rattle.ep_base.specs.Air.Heard.{Ask}
use Rattle.ep_base.specs.Air.Fates.{next_fate}
use Rattle.ep_base.specs.Cards.Field.{CardsHeard, Field, Placed, all_hear, all_reset, all_take, away, field_hears, field_reset, field_send, left_by}
use Rattle.ep_base.specs.Link.Wire.{comes_down}
use Rattle.ep_claim.specs.Lanes.Exchanges.{field_answers}
use Rattle.lane_run.specs.Blank.{IsBlank}

blank_reset : (f : Field) → IsBlank f → IsBlank (field_reset f)
blank_reset f b = record { cards = ap (λ (ps : List Placed). all_reset f.air.gone f.presence 1 ps) b.cards; log = b.log }

-- what no card hears
taken : (f : Field) (wave : Wave) → IsBlank f → (bytes : Option (List ℕ)) → ((all_take f wave bytes).cards ≡ []) × ((all_take f wave bytes).log ≡ [])
taken f wave b None = (b.cards, b.log)
taken f wave b (Some bytes) =
    let none : all_hear f.room wave bytes f.log f.cards ≡ record { cards = []; log = f.log; answers = [] } =
    ap (λ (ps : List Placed). all_hear f.room wave bytes f.log ps) b.cards in
    (ap (λ (h : CardsHeard). h.cards) none, ap (λ (h : CardsHeard). h.log) none ∙ b.log)

left_none : (ps : List Placed) → ps ≡ [] → (gone : Bool) → (if gone then left_by ps else ps) ≡ []
left_none ps none true = ap left_by none
left_none ps none false = none

blank_send : (f : Field) (wave : Wave) (bytes : List ℕ) → IsBlank f → IsBlank (field_send f wave bytes).1
blank_send f wave bytes b =
    let h = taken f wave b (comes_down (next_fate f.air.fates).down wave bytes) in
    record { cards = left_none (field_hears f wave bytes).cards h.0 (away (next_fate f.air.fates)); log = h.1 }

blank_by : (f : Field) (reset : Bool) → IsBlank f → IsBlank (if reset then field_reset f else f)
blank_by f true b = blank_reset f b
blank_by f false b = b

-- it stays so with each exchange
pub blank_after : (ask : Ask) (f : Field) → IsBlank f → IsBlank (field_answers ask f).1
blank_after ask f b = blank_send (if ask.reset then field_reset f else f) ask.wave ask.bytes (blank_by f ask.reset b)
