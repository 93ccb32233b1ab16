-- What the source and the sink in memory show (this project's own).
use Rattle.std.specs.Prelude.{◌≡◌, ℕ, ⊤, ◌+◌, ◌-◌, ◌^◌, ◌||◌, min, nat_eq, nat_lt, Bool, List, drop, length}
use Rattle.std.specs.List.{list_any}
use Rattle.ep_base.specs.declared.memory.MemorySource.{MemorySource}
use Rattle.ep_base.specs.declared.memory.MemorySink.{MemorySink}
use Rattle.ep_base.specs.declared.streams.Pulled.{Pulled}
use Rattle.ep_base.specs.declared.streams.Pulled.TheVariants.{Got, End, Failed}

abbrev pub bytes_left : MemorySource → List ℕ
bytes_left s = drop s.at s.bytes.items

abbrev pub bytes_held : MemorySink → List ℕ
bytes_held s = s.held.items

-- The number of the call after so many; it stands still at the end of a counter of 32 bits.
abbrev pub next_call : ℕ → ℕ
next_call calls = min (calls + 1) (2 ^ 32 - 1)

-- The call after so many is among these.
abbrev pub is_listed : List ℕ → ℕ → Bool
is_listed fails calls = list_any (λ k. nat_eq k (next_call calls)) fails

-- A pull that doesn't fail gives exactly so many bytes, and `End` where that is none.
abbrev pub GaveAll : Pulled → ℕ → Type 0
GaveAll (Got n) count = n ≡ count
GaveAll End count = count ≡ 0
GaveAll Failed count = ⊤

-- The next push of so many bytes is listed, or the room doesn't hold them.
abbrev pub sink_refuses : MemorySink → ℕ → Bool
sink_refuses s count = is_listed s.fails.items s.calls || nat_lt (s.room - length s.held.items) count
