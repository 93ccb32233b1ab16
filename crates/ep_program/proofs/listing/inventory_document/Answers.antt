use Rattle.ep_program.proofs.Given.{taken_without}
use Rattle.ep_program.proofs.Inventorying.{opened_listable, listed, list_not_long}
use Rattle.ep_program.proofs.listing.inventory_document.Goals as goal

pub list-requires : goal.list-requires
list-requires g c = record { listable = opened_listable _ _ c.in-Ok.ensures.ok }

pub returns-in-Ok-clause-given : goal.returns-in-Ok-clause-given
returns-in-Ok-clause-given g c =
    taken_without _ _ _ (list_not_long c.in-Ok.scenario (g.K.Sink.written c.args.output.now) (g.K.Sink.written c.list.new.output) c.list.result c.list.ensures.lists) c.in-Ok.ensures.given

pub returns-in-Ok-clause-inventories : goal.returns-in-Ok-clause-inventories
returns-in-Ok-clause-inventories g c =
    listed (g.S.Source.left c.args.input.now) (g.K.Sink.written c.args.output.now) (g.K.Sink.written c.list.new.output) c.in-Ok.scenario c.in-Ok.ensures.ok c.list.result c.list.ensures.lists
