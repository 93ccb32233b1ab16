use Rattle.std.proofs.Common.{◌∙◌, ap, refl, sym, inl, inr}
use Rattle.std.proofs.lemmas.List.{length-map}
use Rattle.trace_io.specs.Meaning.{traced_of}
use Rattle.ep_program.specs.Check.{good_text}
use Rattle.ep_program.proofs.checking.push_judgement.Goals as goal

pub returns-in-Ok : goal.returns-in-Ok
returns-in-Ok c = inl (c.in-Ok.ensures.allowed.0 refl, c.push_good.ensures ∙ ap good_text (sym (length-map c.args.lines.now traced_of)))

pub returns-in-Err : goal.returns-in-Err
returns-in-Err c = inr (c.in-Err.verdict, c.in-Err.ensures.bad, c.push_bad.ensures)
