use Rattle.std.proofs.Common.{rules, ◌≡◌, length, map, None, Ok, Err, ap, sym, ◌∙◌}
use Rattle.std.specs.Prelude.{option_map}
use Rattle.std.proofs.lemmas.List.{length-map}
use Rattle.std.proofs.lemmas.Result.{err_from_is_err_and}
use Rattle.doc_table.specs.Section.{place}
use Rattle.doc_table.specs.declared.fault.TableEnd.{TableEnd}
use Rattle.acquirer_config.specs.Config.{config_at}
use Rattle.trace_io.specs.Meaning.{traced_of}
use Rattle.scenario.specs.Plan.{Plan}
use Rattle.scenario.proofs.Root.{whole_root, bad_trace}
use Rattle.scenario.proofs.document.plan_at.Goals as goal

pub returns-in_err-trace : goal.returns-in_err-trace
returns-in_err-trace c =
    let p = err_from_is_err_and c.from_residual-in_err-trace.result c.from_residual-in_err-trace.ensures.1 in
    let from : c.from_residual-in_err-trace.result ≡ Err c.in_err-trace.field-0.0 = p.1 ∙ ap (λ (x : TableEnd). Err x) p.2 in
    let is_config : config_at (place c.args.root.now) ≡ Ok c.in_ok-config.config = search rules in
    let count : c.len.result ≡ length c.in_ok-lanes.lanes.items = search rules in
    let is_count = count ∙ sym (length-map c.in_ok-lanes.lanes.items (λ lane. lane.items)) in
    let plan : Plan = record {
      config = c.in_ok-config.config;
      fsdi = c.in_ok-fsdi.fsdi;
      turns = c.in_ok-turns.turns.items;
      lanes = map (λ lane. lane.items) c.in_ok-lanes.lanes.items;
      trace = None;
    } in
    rw from (bad_trace (place c.args.root.now) c.len.result plan c.in_err-trace.field-0.0 (record {
      version = c.in_ok-_version._version;
      is_version = sym c.in_ok-_version.ensures.value;
      is_fsdi = sym c.in_ok-fsdi.ensures.value;
      is_config = is_config;
      is_lanes = c.in_ok-lanes.ensures.value;
      is_count = is_count;
      is_turns = c.in_ok-turns.ensures;
    }) c.in_err-trace.ensures)

pub returns : goal.returns
returns c =
    let is_config : config_at (place c.args.root.now) ≡ Ok c.in_ok-config.config = search rules in
    let count : c.len.result ≡ length c.in_ok-lanes.lanes.items = search rules in
    let is_count = count ∙ sym (length-map c.in_ok-lanes.lanes.items (λ lane. lane.items)) in
    let plan : Plan = record {
      config = c.in_ok-config.config;
      fsdi = c.in_ok-fsdi.fsdi;
      turns = c.in_ok-turns.turns.items;
      lanes = map (λ lane. lane.items) c.in_ok-lanes.lanes.items;
      trace = option_map (λ v. map traced_of v.items) c.in_ok-trace.trace;
    } in
    whole_root (place c.args.root.now) c.len.result plan (record {
      version = c.in_ok-_version._version;
      is_version = sym c.in_ok-_version.ensures.value;
      is_fsdi = sym c.in_ok-fsdi.ensures.value;
      is_config = is_config;
      is_lanes = c.in_ok-lanes.ensures.value;
      is_count = is_count;
      is_turns = c.in_ok-turns.ensures;
    }) c.in_ok-trace.ensures
