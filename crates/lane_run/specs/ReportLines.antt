-- The lines of a text that was written, and which of them tell a trace or a log (this project's own).
use Rattle.std.specs.Prelude.{ℕ, ◌==◌, nat_eq, Bool, not, if◌then◌else◌, List, [], ◌∷◌, codes}
use Rattle.std.specs.List.{concat, filter, starts_with}

-- A byte before the first of these lines (this project's own).
abbrev pub onto_line : ℕ → List (List ℕ) → List (List ℕ)
onto_line b [] = (b ∷ []) ∷ []
onto_line b (line ∷ lines) = (b ∷ line) ∷ lines

-- The lines of a text, each with the newline that ends it (this project's own).
abbrev pub lines_in : List ℕ → List (List ℕ)
lines_in [] = []
lines_in (b ∷ bytes) = if b == 10 then (b ∷ []) ∷ lines_in bytes else onto_line b (lines_in bytes)

-- What stands after the first space of a line (this project's own).
abbrev pub after_space : List ℕ → List ℕ
after_space [] = []
after_space (b ∷ bytes) = if b == 32 then bytes else after_space bytes

-- Whether it is a line of a log: its second word is `log` (this project's own).
abbrev pub is_log_line : List ℕ → Bool
is_log_line line = starts_with nat_eq (after_space line) (codes "log ")

-- Whether it is a line of a trace: its first word is `x` (this project's own).
abbrev pub is_trace_line : List ℕ → Bool
is_trace_line line = starts_with nat_eq line (codes "x ")

-- The text without its log lines (this project's own).
abbrev pub without_log : List ℕ → List ℕ
without_log text = concat (filter (λ line. not (is_log_line line)) (lines_in text))

-- The text without its trace lines (this project's own).
abbrev pub without_trace : List ℕ → List ℕ
without_trace text = concat (filter (λ line. not (is_trace_line line)) (lines_in text))

-- Its trace lines alone (this project's own).
abbrev pub trace_in : List ℕ → List ℕ
trace_in text = concat (filter is_trace_line (lines_in text))
