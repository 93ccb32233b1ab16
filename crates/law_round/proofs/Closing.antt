-- S(DESELECT) executes nothing.
use Rattle.std.proofs.Common.{◌≡◌, ◌&&◌, true, List, [], ◌∷◌, Option, sym, ap, ◌∙◌}
use Rattle.std.proofs.lemmas.Bool.{and_parts}
use Rattle.ep_base.specs.Air.Frame.{sealed}
use Rattle.ep_base.specs.Air.Heard.{Heard, wave_of_kind}
use Rattle.ep_base.specs.Link.Block.{Deselect}
use Rattle.ep_base.specs.Link.Spelling.{spelled}
use Rattle.ep_base.specs.Air.Fates.{Fate, AreFates}
use Rattle.ep_base.specs.Link.Wire.{Wire, wire_send}
use Rattle.law_wire.proofs.Passing.{closes_quietly}
use Rattle.law_round.specs.Acting.{shown}
use Rattle.ep_base.specs.Cards.LinkedField.{is_way, linked_at, are_fates}
use Rattle.law_round.specs.Once.{ClosesQuietly}
use Rattle.law_round.proofs.Acting.{way_is, field_acts_law}

fates_are : (fates : List Fate) → are_fates fates ≡ true → AreFates fates
fates_are [] e = tt
fates_are (f ∷ fates) e =
    let a = and_parts (is_way f.down) (is_way f.up && are_fates fates) e in
    let b = and_parts (is_way f.up) (are_fates fates) a.1 in
    (way_is f.down a.0, way_is f.up b.0, fates_are fates b.1)

pub closes_quietly_law : ClosesQuietly
closes_quietly_law set n s t heard good sends =
    let a = field_acts_law set n s Deselect heard t good sends in
    let exchange_fates = (and_parts (linked_at set.kind s.air.gone n s.cards) (are_fates s.air.fates) good).1 in
    let quiet = closes_quietly set.kind (shown n s) (fates_are s.air.fates exchange_fates) in
    let same : (wire_send (shown n s) (wave_of_kind set.kind) (sealed (wave_of_kind set.kind) (spelled Deselect))).1 ≡ shown n t = ap (λ (x : Option Heard × Wire). x.1) a.0 in
    (sym (ap (λ (x : Wire). x.log) same) ∙ quiet.0, sym (ap (λ (x : Wire). x.party.image) same) ∙ quiet.1, a.1)
