use Rattle.std.proofs.Common.{◌≡◌, [], ◌∷◌, ◌++◌, List, map, sym, ap, ◌∙◌, slice_index_or, slice_set}
use Rattle.std.proofs.lemmas.List.{map-set, get_or-map}
use Rattle.scenario.specs.Plan.{Transaction}
use Rattle.ep_load.proofs.load.append.Goals as goal

pub returns-in-Ok-clause-lanes : goal.returns-in-Ok-clause-lanes
returns-in-Ok-clause-lanes c =
    let before : List (List Transaction) = map (λ lane. lane.items) c.args.lanes.items in
    let at : slice_index_or before c.args.place [] ≡ c.index_mut.result.now.items =
    get_or-map (λ lane. lane.items) c.args.lanes.items c.args.place c.index_mut.result.now [] c.requires ∙ ap (λ lane. lane.items) (sym c.index_mut.ensures.value) in
    map-set (λ lane. lane.items) c.args.lanes.items c.args.place c.push.new.self
    ∙ ap (λ lane. slice_set before c.args.place lane) (c.in-Ok.ensures.items ∙ ap (λ lane. lane ++ c.args.transaction ∷ []) (sym at))
