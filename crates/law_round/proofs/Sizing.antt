-- The frame size of the card with which a round ends.
use Rattle.std.proofs.Common.{◌≡◌, ℕ, zero, suc, ◌+◌, ◌==◌, nat_lt, ◌&&◌, true, false, List, length, Option, Some, None, subst, refl}
use Rattle.std.specs.Prelude.{slice_index, Result, Ok, not, ◌%◌, ◌/◌}
use Rattle.ep_base.specs.declared.air.Wave.TheVariants.{ABare, A, B}
use Rattle.ep_base.specs.declared.activation.Ats.{Ats}
use Rattle.ep_base.specs.declared.activation.AtsFault.{AtsFault}
use Rattle.ep_base.specs.declared.activation.Atqb.{Atqb}
use Rattle.ep_base.specs.declared.activation.AtqbFault.{AtqbFault}
use Rattle.ep_base.specs.declared.limits.TheConstants.{ROUND_EXCHANGES}
use Rattle.ep_base.specs.Air.FrameSize.{frame_size}
use Rattle.ep_base.proofs.Sizes.{IsSize, frame_sized}
use Rattle.ep_base.specs.Cards.Activation.{ats, atqb, bit, interface_bytes, ats_fwi}
use Rattle.ep_base.specs.Air.Heard.{Heard, Activated, RoundEnd, Empty, Collision, Unsupported, Broken, Found, RoundTurn, Goes, Ends, is_silent}
use Rattle.ep_base.specs.Cards.TypeA.{AStage, Woken, Level, Select, Complete, is_level, continues, a_says, after_sak, after_ats}
use Rattle.ep_base.specs.Cards.TypeB.{b_says, after_atqb}
use Rattle.ep_base.specs.Poll.Round.{Stage, Waking, Halting, WakingB, InA, InB, round_hears, in_a, in_b}
use Rattle.ep_base.specs.Air.Medium.{MediumSteps}
use Rattle.ep_base.specs.Poll.Polling.{AfterExchange, Plays, PlaysRound}
use Rattle.law_round.proofs.Presenting.{either, answered}

-- what is known of the card's frame size
abbrev Sized : RoundTurn Stage → Type 0
Sized (Goes Waking) = Unit {0}
Sized (Goes Halting) = Unit {0}
Sized (Goes (WakingB woke)) = Unit {0}
Sized (Goes (InA stage)) = Unit {0}
Sized (Goes (InB stage)) = IsSize stage.fsc
Sized (Ends Empty) = Unit {0}
Sized (Ends Collision) = Unit {0}
Sized (Ends Unsupported) = Unit {0}
Sized (Ends Broken) = Unit {0}
Sized (Ends (Found card)) = IsSize card.fsc

ats_sized : (read : List ℕ) (bytes : List ℕ) → Sized (in_a (after_ats read (ats bytes)))
unfolding ats
ats_sized read bytes =
    let P : Result Ats AtsFault → Type 0 = λ r. Sized (in_a (after_ats read r)) in
    either P (length bytes == 0) _ _ tt
    (either P (not (slice_index bytes 0 == length bytes)) _ _ tt
    (either P (length bytes == 1) (Ok (record { fsc = frame_size 2; fwi = 4 })) _ (frame_sized 2)
    (either P (nat_lt (length bytes) (2 + interface_bytes (slice_index bytes 1))) _ (Ok (record { fsc = frame_size (slice_index bytes 1 % 16); fwi = ats_fwi bytes (slice_index bytes 1) })) tt (frame_sized (slice_index bytes 1 % 16)))))

atqb_of_sized : (a : Atqb) → IsSize a.fsc → Sized (in_b (after_atqb (Ok a)))
atqb_of_sized a h = either (λ t. Sized (in_b t)) a.iso4 (Goes (record { pupi = a.pupi; fsc = a.fsc; fwi = a.fwi })) (Ends Unsupported) h tt

atqb_sized : (bytes : List ℕ) → Sized (in_b (after_atqb (atqb bytes)))
unfolding atqb
atqb_sized bytes =
    let P : Result Atqb AtqbFault → Type 0 = λ r. Sized (in_b (after_atqb r)) in
    either P (not (length bytes == 12)) _ _ tt
    (either P (not (slice_index bytes 0 == 0x50)) _ _ tt (atqb_of_sized _ (frame_sized (slice_index bytes 10 / 16))))

sak_sized : (n : ℕ) (before part : List ℕ) (sak : ℕ) → Sized (in_a (after_sak n before part sak))
sak_sized n before part sak =
    let P : RoundTurn AStage → Type 0 = λ t. Sized (in_a t) in
    either P (bit sak 4 == 1) _ _ (either P (continues n part) _ _ tt tt) (either P (continues n part) _ _ tt (either P (bit sak 32 == 1) _ _ tt tt))

sized : (stage : Stage) (heard : Heard) → Sized (Goes stage) → Sized (round_hears stage heard)
sized Waking heard h = either (λ s. Sized (Goes s)) (is_silent heard) (WakingB false) Halting tt tt
sized Halting heard h = tt
sized (WakingB true) heard h = either Sized (is_silent heard) _ _ tt tt
sized (WakingB false) heard h =
    either Sized (is_silent heard) _ _ tt (answered (λ t. Sized (in_b t)) (λ m. after_atqb (atqb m)) B heard tt tt (λ m. atqb_sized m))
sized (InA Woken) heard h = answered (λ t. Sized (in_a t)) (a_says Woken) ABare heard tt tt (λ m. either (λ t. Sized (in_a t)) (length m == 2) _ _ tt tt)
sized (InA (Level n before)) heard h = answered (λ t. Sized (in_a t)) (a_says (Level n before)) ABare heard tt tt (λ m. either (λ t. Sized (in_a t)) (is_level m) _ _ tt tt)
sized (InA (Select n before part)) heard h =
    answered (λ t. Sized (in_a t)) (a_says (Select n before part)) A heard tt tt
    (λ m. either (λ t. Sized (in_a t)) (length m == 1) _ _ (sak_sized n before part (slice_index m 0)) tt)
sized (InA (Complete read)) heard h = answered (λ t. Sized (in_a t)) (a_says (Complete read)) A heard tt tt (λ m. ats_sized read m)
sized (InB stage) heard h =
    answered (λ t. Sized (in_b t)) (b_says stage) B heard tt tt
    (λ m. either (λ t. Sized (in_b t)) (nat_lt 0 (length m) && (slice_index m 0 % 16 == 0)) _ _ h tt)

module _ {S : Type 0} (steps : MediumSteps S) (fsdi : ℕ) where
  by_heard : (n : ℕ) (stage : Stage) (heard : Option Heard) (u : S) (ending : Option RoundEnd) (t : S) (card : Activated) → Sized (Goes stage) → ending ≡ Some (Found card)
      → ((turn : RoundTurn Stage) → Sized turn → Plays steps fsdi n turn u ending t → IsSize card.fsc)
      → AfterExchange steps fsdi (λ h. Plays steps fsdi n (round_hears stage h)) heard u ending t → IsSize card.fsc
  by_heard n stage None u ending t card h e more x = absurd cc
  by_heard n stage (Some heard) u ending t card h e more x = more (round_hears stage heard) (sized stage heard h) x

  at_end : (e : RoundEnd) (ending : Option RoundEnd) (card : Activated) → Sized (Ends e) → ending ≡ Some e → ending ≡ Some (Found card) → IsSize card.fsc
  at_end e ending card h is found = let same : e ≡ Found card = cc in subst (λ r. Sized (Ends r)) same h

  plays_sized : (n : ℕ) (turn : RoundTurn Stage) (s : S) (ending : Option RoundEnd) (t : S) (card : Activated) → Sized turn → ending ≡ Some (Found card) → Plays steps fsdi n turn s ending t → IsSize card.fsc
  unfolding Plays
  plays_sized zero (Goes stage) s ending t card h e x = absurd x
  plays_sized zero (Ends r) s ending t card h e x = at_end r ending card h x.0 e
  plays_sized (suc n) (Ends r) s ending t card h e x = at_end r ending card h x.0 e
  plays_sized (suc n) (Goes stage) s ending t card h e x =
      by_heard n stage x.0 x.1 ending t card h e (λ turn g p. plays_sized n turn x.1 ending t card g e p) x.3

  pub round_sized : (s t : S) (card : Activated) → PlaysRound steps fsdi s (Some (Found card)) t → IsSize card.fsc
  round_sized s t card x = plays_sized ROUND_EXCHANGES (Goes Waking) s (Some (Found card)) t card tt refl x
