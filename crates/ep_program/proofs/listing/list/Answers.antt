use Rattle.std.proofs.Common.{◌≤◌, List, All, length, map, ap, subst, sym, ◌≡◌}
use Rattle.ep_base.specs.declared.limits.TheConstants.{TRANSACTIONS}
use Rattle.std.specs.Io.KnownBytes.{Appends}
use Rattle.ep_base.specs.Streams.Io.{AppendsPrefix}
use Rattle.inventory_run.specs.Tagged.{CanBeListed, work_tags}
use Rattle.inventory_run.specs.Text.{lanes_text}
use Rattle.scenario.specs.Scenario.{Work, Scenario}
use Rattle.ep_program.specs.Inventory.{scenario_text}
use Rattle.ep_program.proofs.Inventorying.{lanes_text_is}
use Rattle.ep_program.proofs.Ready.{all_map}
use Rattle.ep_program.proofs.listing.list.Goals as goal

pub inventory_lanes-requires-clause-short : goal.inventory_lanes-requires-clause-short
inventory_lanes-requires-clause-short g c =
    all_map (λ lane. lane.items) (λ (lane : List Work). length lane ≤ TRANSACTIONS) c.scenario.inside.lanes.items
    (subst (λ (s : Scenario). All (λ lane. length lane ≤ TRANSACTIONS) s.lanes) (sym c.scenario.view_is) c.requires.listable.short)

pub inventory_lanes-requires-clause-cards : goal.inventory_lanes-requires-clause-cards
inventory_lanes-requires-clause-cards g c =
    all_map (λ lane. lane.items) (λ (lane : List Work). All CanBeListed lane) c.scenario.inside.lanes.items
    (subst (λ (s : Scenario). All (All CanBeListed) s.lanes) (sym c.scenario.view_is) c.requires.listable.cards)

pub returns-in-Ok-clause-lists : goal.returns-in-Ok-clause-lists
returns-in-Ok-clause-lists g c =
    let text : lanes_text (map (λ lane. map work_tags lane.items) c.scenario.inside.lanes.items) ≡ scenario_text c.args.scenario =
    lanes_text_is (λ lane. lane.items) c.scenario.inside.lanes.items c.args.scenario (ap (λ (s : Scenario). s.lanes) c.scenario.view_is) in
    subst (λ t. Appends (g.K.Sink.written c.args.output.now) (g.K.Sink.written c.inventory_lanes.new.output) t) text c.in-Ok.ensures.lists

pub returns-clause-lists : goal.returns-clause-lists
returns-clause-lists g c =
    let text : lanes_text (map (λ lane. map work_tags lane.items) c.scenario.inside.lanes.items) ≡ scenario_text c.args.scenario =
    lanes_text_is (λ lane. lane.items) c.scenario.inside.lanes.items c.args.scenario (ap (λ (s : Scenario). s.lanes) c.scenario.view_is) in
    subst (λ t. AppendsPrefix (g.K.Sink.written c.args.output.now) (g.K.Sink.written c.inventory_lanes.new.output) t) text (rw c.in-Err-SinkFailed.field-0-is at c.in-Err-SinkFailed.ensures.lists)
