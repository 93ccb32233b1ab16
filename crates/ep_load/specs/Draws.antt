-- The numbers that a load is drawn from (this project's own).
use Rattle.std.specs.Prelude.{ℕ, ◌+◌, ◌*◌, ◌/◌, ◌%◌, ◌^◌, ◌<◌}

-- The state after one draw (this project's own).
unfoldable pub state_after : ℕ → ℕ
state_after x = (x * 1103515245 + 12345) % 2 ^ 31

-- From a state something is drawn, and another state is left (this project's own).
abbrev pub Drawing : Type 0 → Type 0
Drawing A = ℕ → A × ℕ

-- One drawing after another (this project's own).
infixl 10 ◌>>=◌
abbrev pub ◌>>=◌ : {A B : Type 0} → Drawing A → (A → Drawing B) → Drawing B
d >>= f = λ x. f (d x).0 (d x).1

-- Nothing more is drawn (this project's own).
abbrev pub drawn : {A : Type 0} → A → Drawing A
drawn a = λ x. (a, x)

-- A draw below m (this project's own).
abbrev pub below : ℕ → Drawing ℕ
below m = λ x. (state_after x / 65536 % m, state_after x)

-- What is drawn for a transaction: how much its amount is above 100, whether its card is of Type B, which Combination its application is of, the code
-- of the frame size that its card takes, how much its first run of clean exchanges is above 7, what becomes of the frames after it, how many S(WTX)
-- come before the kernel's response, and the outcome (this project's own).
pub record Draws : Type 0 where
  pub amount : ℕ
  pub kind : ℕ
  pub choice : ℕ
  pub fsci : ℕ
  pub clean : ℕ
  pub loss : ℕ
  pub wtx : ℕ
  pub outcome : ℕ

-- The draws of a transaction, in their order (this project's own).
abbrev pub draws : Drawing Draws
draws = do
  amount ← below 10000
  kind ← below 2
  choice ← below 3
  fsci ← below 9
  clean ← below 6
  loss ← below 8
  wtx ← below 3
  outcome ← below 4
  drawn (record { amount = amount; kind = kind; choice = choice; fsci = fsci; clean = clean; loss = loss; wtx = wtx; outcome = outcome })

-- Draws within their limits (this project's own).
pub record AreDraws (d : Draws) : Type 0 where
  pub amount : d.amount < 10000
  pub kind : d.kind < 2
  pub choice : d.choice < 3
  pub fsci : d.fsci < 9
  pub clean : d.clean < 6
  pub loss : d.loss < 8
  pub wtx : d.wtx < 3
  pub outcome : d.outcome < 4
