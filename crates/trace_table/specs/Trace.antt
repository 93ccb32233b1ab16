-- The key `trace` of a document's root (this project's own).
use Rattle.std.specs.Prelude.{codes, pos, List, length, Result}
use Rattle.std.specs.declared.option.Option.{Option}
use Rattle.toml.specs.Data.{as_str}
use Rattle.ep_claim.specs.Text.TraceLine.{TraceLine, read_trace_line}
use Rattle.doc_table.specs.Fault.{Fault}
use Rattle.doc_table.specs.declared.list.ElementKind.TheVariants.{Text}
use Rattle.doc_table.specs.Read.{◌>>=◌, Reader, Place, of_kind, allowed, optional, list_of}
use Rattle.ep_base.specs.declared.limits.TheConstants.{TRACE_LINES}

-- A trace line without its newline (this project's own).
abbrev pub line : Reader TraceLine
line path d = do
  text ← of_kind path (as_str d)
  allowed path (pos (length text)) (read_trace_line text)

-- The exchanges of at most `TRACE_LINES` trace lines, or nothing where the key is absent (this project's own).
abbrev pub trace_at : Place → Result (Option (List TraceLine)) Fault
trace_at place = optional (list_of Text 0 TRACE_LINES line) (codes "trace") place
