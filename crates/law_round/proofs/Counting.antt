-- Each answer leaves fewer exchanges of a round.
use Rattle.std.proofs.Common.{◌≡◌, ℕ, ◌+◌, ◌-◌, ◌*◌, ◌≤◌, ◌<◌, ◌==◌, nat_lt, leb-true, ◌&&◌, true, false, List, [], ◌∷◌, ◌++◌, length, take, drop, refl, arith}
use Rattle.std.specs.Prelude.{slice_index, Result, Ok, Err, ◌%◌}
use Rattle.std.proofs.lemmas.Bool.{and_parts}
use Rattle.ep_base.specs.declared.air.Wave.TheVariants.{ABare, A, B}
use Rattle.ep_base.specs.declared.activation.Ats.{Ats}
use Rattle.ep_base.specs.declared.activation.AtsFault.{AtsFault}
use Rattle.ep_base.specs.declared.activation.Atqb.{Atqb}
use Rattle.ep_base.specs.declared.activation.AtqbFault.{AtqbFault}
use Rattle.ep_base.specs.Cards.Activation.{ats, atqb, bit}
use Rattle.ep_base.specs.Air.Heard.{Heard, RoundEnd, RoundTurn, Goes, Ends, is_silent}
use Rattle.ep_base.specs.Cards.TypeA.{AStage, Woken, Level, Select, Complete, is_level, continues, a_says, after_sak, after_ats}
use Rattle.ep_base.specs.Cards.TypeB.{BStage, b_says, after_atqb}
use Rattle.ep_base.specs.Poll.Round.{Stage, Waking, Halting, WakingB, InA, InB, round_hears, in_a, in_b, round_goes_on}
use Rattle.law_round.specs.Ending.{EndsInEleven}
use Rattle.law_round.proofs.Presenting.{either, when, answered}

-- how many exchanges a stage leaves at most, its own included
abbrev a_left : AStage → ℕ
a_left Woken = 8
a_left (Level n before) = 9 - 2 * n
a_left (Select n before part) = 8 - 2 * n
a_left (Complete read) = 1

abbrev pub left : RoundTurn Stage → ℕ
left (Goes Waking) = 11
left (Goes Halting) = 10
left (Goes (WakingB woke)) = 9
left (Goes (InA stage)) = a_left stage
left (Goes (InB stage)) = 1
left (Ends e) = 0

-- a level is the first, second or third
abbrev AtMostThree : AStage → Type 0
AtMostThree Woken = Unit {0}
AtMostThree (Level n before) = (1 ≤ n) × (n ≤ 3)
AtMostThree (Select n before part) = (1 ≤ n) × (n ≤ 3)
AtMostThree (Complete read) = Unit {0}

abbrev pub Leveled : RoundTurn Stage → Type 0
Leveled (Goes Waking) = Unit {0}
Leveled (Goes Halting) = Unit {0}
Leveled (Goes (WakingB woke)) = Unit {0}
Leveled (Goes (InA stage)) = AtMostThree stage
Leveled (Goes (InB stage)) = Unit {0}
Leveled (Ends e) = Unit {0}

abbrev pub Leaves : ℕ → RoundTurn Stage → Type 0
Leaves k t = Leveled t × (left t ≤ k)

next_level : (n : ℕ) (before part : List ℕ) → 1 ≤ n → continues n part ≡ true → Leaves (7 - 2 * n) (in_a (Goes (Level (n + 1) (before ++ take 3 (drop 1 part)))))
next_level n before part f c =
    let few : n < 3 = leb-true _ _ (and_parts (nat_lt n 3) (slice_index part 0 == 0x88) c).0 in
    ((omega arith, omega (arith, few)), omega (arith, few))

sak_leaves : (n : ℕ) (before part : List ℕ) (sak : ℕ) → 1 ≤ n → n ≤ 3 → Leaves (7 - 2 * n) (in_a (after_sak n before part sak))
sak_leaves n before part sak f l =
    let P : RoundTurn AStage → Type 0 = λ t. Leaves (7 - 2 * n) (in_a t) in
    either P (bit sak 4 == 1) _ _
    (when P (continues n part) _ _ (λ c. next_level n before part f c) (λ c. (tt, omega arith)))
    (either P (continues n part) _ _ (tt, omega arith) (either P (bit sak 32 == 1) _ _ (tt, omega (arith, l)) (tt, omega arith)))

ats_leaves : (read : List ℕ) (r : Result Ats AtsFault) → Leaves 0 (in_a (after_ats read r))
ats_leaves read (Ok a) = (tt, omega arith)
ats_leaves read (Err e) = (tt, omega arith)

atqb_leaves : (r : Result Atqb AtqbFault) → Leaves 8 (in_b (after_atqb r))
atqb_leaves (Ok a) = either (λ t. Leaves 8 (in_b t)) a.iso4 _ _ (tt, omega arith) (tt, omega arith)
atqb_leaves (Err e) = (tt, omega arith)

a_leaves : (stage : AStage) (heard : Heard) → AtMostThree stage → Leaves (a_left stage - 1) (round_hears (InA stage) heard)
a_leaves Woken heard h =
    answered (λ t. Leaves 7 (in_a t)) (a_says Woken) ABare heard (tt, omega arith) (tt, omega arith)
    (λ m. either (λ t. Leaves 7 (in_a t)) (length m == 2) _ _ ((omega arith, omega arith), omega arith) (tt, omega arith))
a_leaves (Level n before) heard h =
    answered (λ t. Leaves (9 - 2 * n - 1) (in_a t)) (a_says (Level n before)) ABare heard (tt, omega arith) (tt, omega arith)
    (λ m. either (λ t. Leaves (9 - 2 * n - 1) (in_a t)) (is_level m) _ _ (h, omega arith) (tt, omega arith))
a_leaves (Select n before part) heard h =
    let P : RoundTurn AStage → Type 0 = λ t. Leaves (8 - 2 * n - 1) (in_a t) in
    answered P (a_says (Select n before part)) A heard (tt, omega arith) (tt, omega arith)
    (λ m. either P (length m == 1) _ _
    (let x = sak_leaves n before part (slice_index m 0) h.0 h.1 in (x.0, omega (arith, x.1))) (tt, omega arith))
a_leaves (Complete read) heard h =
    answered (λ t. Leaves 0 (in_a t)) (a_says (Complete read)) A heard (tt, omega arith) (tt, omega arith) (λ m. ats_leaves read (ats m))

b_leaves : (stage : BStage) (heard : Heard) → Leaves 0 (round_hears (InB stage) heard)
b_leaves stage heard =
    answered (λ t. Leaves 0 (in_b t)) (b_says stage) B heard (tt, omega arith) (tt, omega arith)
    (λ m. either (λ t. Leaves 0 (in_b t)) (nat_lt 0 (length m) && (slice_index m 0 % 16 == 0)) _ _ (tt, omega arith) (tt, omega arith))

pub leaves : (stage : Stage) (heard : Heard) → Leveled (Goes stage) → Leaves (left (Goes stage) - 1) (round_hears stage heard)
leaves Waking heard h = either (λ s. Leaves 10 (Goes s)) (is_silent heard) (WakingB false) Halting (tt, omega arith) (tt, omega arith)
leaves Halting heard h = (tt, omega arith)
leaves (WakingB true) heard h = either (Leaves 8) (is_silent heard) _ _ (tt, omega arith) (tt, omega arith)
leaves (WakingB false) heard h =
    either (Leaves 8) (is_silent heard) _ _ (tt, omega arith)
    (answered (λ t. Leaves 8 (in_b t)) (λ m. after_atqb (atqb m)) B heard (tt, omega arith) (tt, omega arith) (λ m. atqb_leaves (atqb m)))
leaves (InA stage) heard h = a_leaves stage heard h
leaves (InB stage) heard h = b_leaves stage heard

a_one : (stage : AStage) → AtMostThree stage → 1 ≤ a_left stage
a_one Woken h = omega arith
a_one (Level n before) h = omega (arith, h.0, h.1)
a_one (Select n before part) h = omega (arith, h.0, h.1)
a_one (Complete read) h = omega arith

pub one_left : (stage : Stage) → Leveled (Goes stage) → 1 ≤ left (Goes stage)
one_left Waking h = omega arith
one_left Halting h = omega arith
one_left (WakingB woke) h = omega arith
one_left (InA stage) h = a_one stage h
one_left (InB stage) h = omega arith

ends_by : (t : RoundTurn Stage) (answers : List Heard) → Leveled t → left t ≤ length answers → (e : RoundEnd) × (round_goes_on t answers ≡ Ends e)
ends_by (Ends e) [] h l = (e, refl)
ends_by (Ends e) (a ∷ more) h l = (e, refl)
ends_by (Goes stage) [] h l = absurd (omega (arith, l, one_left stage h))
ends_by (Goes stage) (a ∷ more) h l =
    let x = leaves stage a h in
    let fewer : left (round_hears stage a) ≤ length more = omega (arith, x.1, l, one_left stage h) in
    ends_by (round_hears stage a) more x.0 fewer

pub exchanges_law : EndsInEleven
exchanges_law answers l = ends_by (Goes Waking) answers tt l
