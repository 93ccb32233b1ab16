use Rattle.std.proofs.Common.{◌≡◌, ◌≤◌, ◌+◌, length, List, Bool, Ok, Err, inr, Some, subst, sym, arith}
use Rattle.inventory.specs.Turns.{spent}
use Rattle.inventory.specs.Walks.{Walk, Turned, IsWalk}
use Rattle.inventory.proofs.Leading.{leads, LeadsBy, GoesOn, begun_stands}
use Rattle.inventory.proofs.Places.{spent_most}
use Rattle.inventory.proofs.Ending.{empty_list, begun_finds, none_finds, device_finds, refused_finds, over_finds, begun_makes, none_makes, failed_makes, few_listed}
use Rattle.inventory.proofs.Making.{Sofar, OnwardBy, turn_makes}
use Rattle.inventory.proofs.Finding.{Partway, FinishesBy}
use Rattle.inventory.specs.Exchanges.{ComesTo}
use Rattle.inventory.specs.Finds.{Finds}
use Rattle.inventory.specs.Tags.{Tag}
use Rattle.inventory.specs.Told.{tags_of}
use Rattle.inventory.proofs.Selecting.{turn_finds}
use Rattle.inventory.proofs.listing.inventory.Goals as goal

pub turns-init : goal.turns-init
turns-init g c = record {
  stands = subst IsWalk (sym c.start-walk.ensures) begun_stands;
  few = omega (arith, c.requires);
  spends = subst (λ (w : Walk). 1 ≤ spent w (length c.args.found.now.items)) (sym c.start-walk.ensures) (omega arith);
  number = λ small. omega (arith, c.reset.ensures.count, c.wake.ensures.count, small);
  later = omega (arith, c.reset.ensures.cause.later, c.wake.ensures.cause.later);
  makes = (
    g.F.BitField.state c.reset.new.self,
    c.in-Ok.ensures.step,
    subst (λ (w : Walk). Sofar g.F.BitField.steps (g.F.BitField.state c.reset.new.self) w c.args.found.now.items 1 (g.F.BitField.state c.wake.new.self)) (sym c.start-walk.ensures)
        (begun_makes g.F.BitField.steps (g.F.BitField.state c.reset.new.self) (g.F.BitField.state c.wake.new.self)
        (subst (λ (b : Bool). g.F.BitField.steps.wakes (g.F.BitField.state c.reset.new.self) (Some b) (g.F.BitField.state c.wake.new.self)) c.in-Ok-true.field-0-test c.in-Ok-true.ensures.step)
        c.args.found.now.items (empty_list c.args.found.now.items c.requires)),
  );
  finds = λ shown told are.
      subst (λ (w : Walk). Partway (tags_of (shown (g.F.BitField.state c.args.field.now))) (shown (g.F.BitField.state c.wake.new.self)) w c.args.found.now.items) (sym c.start-walk.ensures)
      (begun_finds g.F.BitField.steps shown told (g.F.BitField.state c.args.field.now) (g.F.BitField.state c.reset.new.self) (g.F.BitField.state c.wake.new.self) c.in-Ok.ensures.step
      (subst (λ (b : Bool). g.F.BitField.steps.wakes (g.F.BitField.state c.reset.new.self) (Some b) (g.F.BitField.state c.wake.new.self)) c.in-Ok-true.field-0-test c.in-Ok-true.ensures.step)
      c.args.found.now.items (empty_list c.args.found.now.items c.requires));
}

pub overflow_add-exchanges : goal.overflow_add-exchanges
overflow_add-exchanges g c = omega (arith, c.turns.invariant.spends, spent_most c.turns.walk (length c.turns.found.items) c.turns.invariant.stands c.turns.invariant.few)

pub turns-preserved : goal.turns-preserved
turns-preserved g c =
    let at = c.turns in
    let n = length at.found.items in
    let u : Turned = record { over = c.in-Ok-turn.over; walk = c.turn.new.walk; found = c.turn.new.found.items } in
    let led : LeadsBy c.in-Ok-turn.over at.walk n u =
    leads g.F.BitField.steps at.walk at.found.items (g.F.BitField.state at.field) (Ok u) (g.F.BitField.state c.turn.new.field) at.invariant.stands at.invariant.few c.in-Ok-turn.ensures.turns in
    let on : GoesOn at.walk n u = subst (λ (b : Bool). LeadsBy b at.walk n u) c.if-over.false led in
    let m = at.invariant.makes in
    let made = turn_makes g.F.BitField.steps m.0 at.walk at.found.items at.exchanges (g.F.BitField.state at.field) (Ok u) (g.F.BitField.state c.turn.new.field) at.invariant.stands m.2 c.in-Ok-turn.ensures.turns in
    record {
      stands = on.stands;
      few = on.few;
      spends = omega (arith, on.spends, at.invariant.spends);
      number = λ small. omega (arith, c.turn.ensures.count, small, at.invariant.number (omega (arith, c.turn.ensures.count, small)));
      later = omega (arith, at.invariant.later, c.turn.ensures.cause.later);
      makes = (m.0, m.1, subst (λ (b : Bool). OnwardBy b g.F.BitField.steps m.0 (at.exchanges + 1) (g.F.BitField.state c.turn.new.field) u) c.if-over.false made);
      finds = λ shown told are.
          let ts = tags_of (shown (g.F.BitField.state c.args.field.now)) in
          let f = turn_finds g.F.BitField.steps shown told ts are at.walk at.found.items (g.F.BitField.state at.field) (Ok u) (g.F.BitField.state c.turn.new.field) at.invariant.stands (at.invariant.finds shown told are) c.in-Ok-turn.ensures.turns in
          subst (λ (b : Bool). FinishesBy b ts (shown (g.F.BitField.state c.turn.new.field)) u) c.if-over.false f;
    }

pub turns-smaller : goal.turns-smaller
turns-smaller g c =
    let at = c.turns in
    let n = length at.found.items in
    let u : Turned = record { over = c.in-Ok-turn.over; walk = c.turn.new.walk; found = c.turn.new.found.items } in
    let led : LeadsBy c.in-Ok-turn.over at.walk n u =
    leads g.F.BitField.steps at.walk at.found.items (g.F.BitField.state at.field) (Ok u) (g.F.BitField.state c.turn.new.field) at.invariant.stands at.invariant.few c.in-Ok-turn.ensures.turns in
    let on : GoesOn at.walk n u = subst (λ (b : Bool). LeadsBy b at.walk n u) c.if-over.false led in
    on.falls

pub returns-in_default-clause-finds : goal.returns-in_default-clause-finds
returns-in_default-clause-finds g c =
    λ shown told are. device_finds (tags_of (shown (g.F.BitField.state c.args.field.now))) c.args.found.now.items (empty_list c.args.found.now.items c.requires)

pub returns-in-Err-clause-finds : goal.returns-in-Err-clause-finds
returns-in-Err-clause-finds g c = λ shown told are. device_finds (tags_of (shown (g.F.BitField.state c.args.field.now))) c.args.found.now.items (empty_list c.args.found.now.items c.requires)

pub returns-in-Ok-false-clause-finds : goal.returns-in-Ok-false-clause-finds
returns-in-Ok-false-clause-finds g c = λ shown told are.
    none_finds g.F.BitField.steps shown told (g.F.BitField.state c.args.field.now) (g.F.BitField.state c.reset.new.self) (g.F.BitField.state c.wake.new.self) c.in-Ok.ensures.step
    (subst (λ (b : Bool). g.F.BitField.steps.wakes (g.F.BitField.state c.reset.new.self) (Some b) (g.F.BitField.state c.wake.new.self)) c.in-Ok-false.field-0-test c.in-Ok-false.ensures.step)
    c.args.found.now.items (empty_list c.args.found.now.items c.requires)

pub returns-in-Err-turn-clause-finds : goal.returns-in-Err-turn-clause-finds
returns-in-Err-turn-clause-finds g c = λ shown told are.
    let at = c.turns in
    let pw = at.invariant.finds shown told are in
    let ts = tags_of (shown (g.F.BitField.state c.args.field.now)) in
    let f = turn_finds g.F.BitField.steps shown told ts are at.walk at.found.items (g.F.BitField.state at.field) (Err c.in-Err-turn.end) (g.F.BitField.state c.turn.new.field) at.invariant.stands pw c.in-Err-turn.ensures.turns in
    let kept : c.turn.new.found.items ≡ at.found.items = c.in-Err-turn.ensures.kept in
    subst (λ (us : List Tag). Finds ts us (Err c.in-Err-turn.end)) (sym kept)
    (refused_finds ts (shown (g.F.BitField.state at.field)) (shown (g.F.BitField.state c.turn.new.field)) at.walk at.found.items c.in-Err-turn.end pw f)

pub returns-in-Err-turn-clause-clear : goal.returns-in-Err-turn-clause-clear
returns-in-Err-turn-clause-clear g c =
    let at = c.turns in
    (leads g.F.BitField.steps at.walk at.found.items (g.F.BitField.state at.field) (Err c.in-Err-turn.end) (g.F.BitField.state c.turn.new.field) at.invariant.stands at.invariant.few c.in-Err-turn.ensures.turns)

pub returns-then-over-clause-finds : goal.returns-then-over-clause-finds
returns-then-over-clause-finds g c = λ shown told are.
    let at = c.turns in
    let u : Turned = record { over = c.in-Ok-turn.over; walk = c.turn.new.walk; found = c.turn.new.found.items } in
    let ts = tags_of (shown (g.F.BitField.state c.args.field.now)) in
    let pw = at.invariant.finds shown told are in
    let f = turn_finds g.F.BitField.steps shown told ts are at.walk at.found.items (g.F.BitField.state at.field) (Ok u) (g.F.BitField.state c.turn.new.field) at.invariant.stands pw c.in-Ok-turn.ensures.turns in
    let m = at.invariant.makes in
    let made = turn_makes g.F.BitField.steps m.0 at.walk at.found.items at.exchanges (g.F.BitField.state at.field) (Ok u) (g.F.BitField.state c.turn.new.field) at.invariant.stands m.2 c.in-Ok-turn.ensures.turns in
    let ends : ComesTo g.F.BitField.steps m.0 (Ok (at.exchanges + 1)) c.turn.new.found.items (g.F.BitField.state c.turn.new.field) =
    subst (λ (b : Bool). OnwardBy b g.F.BitField.steps m.0 (at.exchanges + 1) (g.F.BitField.state c.turn.new.field) u) c.if-over.true made in
    over_finds ts (shown (g.F.BitField.state c.turn.new.field)) u (at.exchanges + 1) c.if-over.true f (few_listed g.F.BitField.steps m.0 (at.exchanges + 1) c.turn.new.found.items (g.F.BitField.state c.turn.new.field) ends)

pub returns-in-Err-clause-comes : goal.returns-in-Err-clause-comes
returns-in-Err-clause-comes g c = inr (
  g.F.BitField.state c.reset.new.self,
  c.in-Ok.ensures.step,
  failed_makes g.F.BitField.steps (g.F.BitField.state c.reset.new.self) (g.F.BitField.state c.wake.new.self) c.in-Err.ensures.step c.args.found.now.items (empty_list c.args.found.now.items c.requires),
)

pub returns-in-Ok-false-clause-comes : goal.returns-in-Ok-false-clause-comes
returns-in-Ok-false-clause-comes g c = inr (
  g.F.BitField.state c.reset.new.self,
  c.in-Ok.ensures.step,
  none_makes g.F.BitField.steps (g.F.BitField.state c.reset.new.self) (g.F.BitField.state c.wake.new.self)
      (subst (λ (b : Bool). g.F.BitField.steps.wakes (g.F.BitField.state c.reset.new.self) (Some b) (g.F.BitField.state c.wake.new.self)) c.in-Ok-false.field-0-test c.in-Ok-false.ensures.step)
      c.args.found.now.items (empty_list c.args.found.now.items c.requires),
)

pub returns-in-Err-turn-clause-comes : goal.returns-in-Err-turn-clause-comes
returns-in-Err-turn-clause-comes g c =
    let at = c.turns in
    let m = at.invariant.makes in
    let made = turn_makes g.F.BitField.steps m.0 at.walk at.found.items at.exchanges (g.F.BitField.state at.field) (Err c.in-Err-turn.end) (g.F.BitField.state c.turn.new.field) at.invariant.stands m.2 c.in-Err-turn.ensures.turns in
    let kept : c.turn.new.found.items ≡ at.found.items = c.in-Err-turn.ensures.kept in
    rw kept (inr (m.0, m.1, made))

pub returns-then-over-clause-comes : goal.returns-then-over-clause-comes
returns-then-over-clause-comes g c =
    let at = c.turns in
    let u : Turned = record { over = c.in-Ok-turn.over; walk = c.turn.new.walk; found = c.turn.new.found.items } in
    let m = at.invariant.makes in
    let made = turn_makes g.F.BitField.steps m.0 at.walk at.found.items at.exchanges (g.F.BitField.state at.field) (Ok u) (g.F.BitField.state c.turn.new.field) at.invariant.stands m.2 c.in-Ok-turn.ensures.turns in
    inr (m.0, m.1, subst (λ (b : Bool). OnwardBy b g.F.BitField.steps m.0 (at.exchanges + 1) (g.F.BitField.state c.turn.new.field) u) c.if-over.true made)
