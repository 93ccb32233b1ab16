use Rattle.toml.specs.View.{table_view}
use Rattle.scenario.proofs.Accepted.{accepted_plan}
use Rattle.scenario.proofs.scenario.of_table.Goals as goal

pub returns-clause-says : goal.returns-clause-says
returns-clause-says c = record {
  document = c.in_ok-document.document;
  reads = c.in_ok-document.ensures;
  scene = c.in_ok-scenario.ensures;
  accepted = accepted_plan (table_view c.args.table.now) c.in_ok-document.document c.in_ok-document.ensures;
}
