-- The frame size of the card with which a round ends.
use Rattle.std.proofs.Common.{ℕ, ◌+◌, ◌==◌, nat_lt, ◌&&◌, Bool, true, false, List, length, Option, Some, None}
use Rattle.std.specs.Prelude.{slice_index, Result, Ok, not, ◌%◌, ◌/◌, if◌then◌else◌}
use Rattle.ep_base.specs.declared.air.Wave.{Wave}
use Rattle.ep_base.specs.declared.air.Wave.TheVariants.{ABare, A, B}
use Rattle.ep_base.specs.declared.activation.Ats.{Ats}
use Rattle.ep_base.specs.declared.activation.AtsFault.{AtsFault}
use Rattle.ep_base.specs.declared.activation.Atqb.{Atqb}
use Rattle.ep_base.specs.declared.activation.AtqbFault.{AtqbFault}
use Rattle.ep_base.specs.Air.FrameSize.{frame_size}
use Rattle.ep_base.proofs.Sizes.{IsSize, frame_sized}
use Rattle.ep_base.specs.Cards.Activation.{ats, atqb, bit, interface_bytes, ats_fwi}
use Rattle.ep_base.specs.Air.Heard.{Heard, Empty, Collision, Unsupported, Broken, Found, RoundTurn, Goes, Ends, RoundAnswer, Fails, awaited, on_answer, says_opened, is_silent, same_wave, Silence, Noise, Overlap, Frame}
use Rattle.ep_base.specs.Air.Frame.{opened}
use Rattle.ep_base.specs.Cards.TypeA.{AStage, Woken, Level, Select, Complete, is_level, continues, a_says, after_sak, after_ats}
use Rattle.ep_base.specs.Cards.TypeB.{b_says, after_atqb}
use Rattle.ep_base.specs.Poll.Round.{Stage, Waking, Halting, WakingB, InA, InB, round_hears, in_a, in_b}

-- what is known of the card's frame size
abbrev pub Sized : RoundTurn Stage → Type 0
Sized (Goes Waking) = Unit {0}
Sized (Goes Halting) = Unit {0}
Sized (Goes (WakingB woke)) = Unit {0}
Sized (Goes (InA stage)) = Unit {0}
Sized (Goes (InB stage)) = IsSize stage.fsc
Sized (Ends Empty) = Unit {0}
Sized (Ends Collision) = Unit {0}
Sized (Ends Unsupported) = Unit {0}
Sized (Ends Broken) = Unit {0}
Sized (Ends (Found card)) = IsSize card.fsc

-- either way
pub either : {X : Type 0} (P : X → Type 0) (b : Bool) (x y : X) → P x → P y → P (if b then x else y)
either P true x y p q = p
either P false x y p q = q

-- an awaited answer says something, or ends the round
said : {S : Type 0} (P : RoundTurn S → Type 0) (next : List ℕ → RoundTurn S) (o : Option (List ℕ)) → P (Ends Broken) → ((m : List ℕ) → P (next m)) → P (on_answer next (says_opened o))
said P next None broken says = broken
said P next (Some m) broken says = says m

answered : {S : Type 0} (P : RoundTurn S → Type 0) (next : List ℕ → RoundTurn S) (wave : Wave) (h : Heard) → P (Ends Broken) → P (Ends Collision) → ((m : List ℕ) → P (next m)) → P (on_answer next (awaited wave h))
answered P next wave Silence broken collision says = broken
answered P next wave Noise broken collision says = broken
answered P next wave Overlap broken collision says = collision
answered P next wave (Frame w bytes) broken collision says =
    either (λ (a : RoundAnswer). P (on_answer next a)) (same_wave w wave) (says_opened (opened wave bytes)) (Fails Broken) (said P next (opened wave bytes) broken says) broken

ats_sized : (read : List ℕ) (bytes : List ℕ) → Sized (in_a (after_ats read (ats bytes)))
unfolding ats
ats_sized read bytes =
    let P : Result Ats AtsFault → Type 0 = λ r. Sized (in_a (after_ats read r)) in
    either P (length bytes == 0) _ _ tt
    (either P (not (slice_index bytes 0 == length bytes)) _ _ tt
    (either P (length bytes == 1) (Ok (record { fsc = frame_size 2; fwi = 4 })) _ (frame_sized 2)
    (either P (nat_lt (length bytes) (2 + interface_bytes (slice_index bytes 1))) _ (Ok (record { fsc = frame_size (slice_index bytes 1 % 16); fwi = ats_fwi bytes (slice_index bytes 1) })) tt (frame_sized (slice_index bytes 1 % 16)))))

atqb_of_sized : (a : Atqb) → IsSize a.fsc → Sized (in_b (after_atqb (Ok a)))
atqb_of_sized a h = either (λ t. Sized (in_b t)) a.iso4 (Goes (record { pupi = a.pupi; fsc = a.fsc; fwi = a.fwi })) (Ends Unsupported) h tt

atqb_sized : (bytes : List ℕ) → Sized (in_b (after_atqb (atqb bytes)))
unfolding atqb
atqb_sized bytes =
    let P : Result Atqb AtqbFault → Type 0 = λ r. Sized (in_b (after_atqb r)) in
    either P (not (length bytes == 12)) _ _ tt
    (either P (not (slice_index bytes 0 == 0x50)) _ _ tt (atqb_of_sized _ (frame_sized (slice_index bytes 10 / 16))))

sak_sized : (n : ℕ) (before part : List ℕ) (sak : ℕ) → Sized (in_a (after_sak n before part sak))
sak_sized n before part sak =
    let P : RoundTurn AStage → Type 0 = λ t. Sized (in_a t) in
    either P (bit sak 4 == 1) _ _ (either P (continues n part) _ _ tt tt) (either P (continues n part) _ _ tt (either P (bit sak 32 == 1) _ _ tt tt))

pub sized : (stage : Stage) (heard : Heard) → Sized (Goes stage) → Sized (round_hears stage heard)
sized Waking heard h = either (λ s. Sized (Goes s)) (is_silent heard) (WakingB false) Halting tt tt
sized Halting heard h = tt
sized (WakingB true) heard h = either Sized (is_silent heard) _ _ tt tt
sized (WakingB false) heard h =
    either Sized (is_silent heard) _ _ tt (answered (λ t. Sized (in_b t)) (λ m. after_atqb (atqb m)) B heard tt tt (λ m. atqb_sized m))
sized (InA Woken) heard h = answered (λ t. Sized (in_a t)) (a_says Woken) ABare heard tt tt (λ m. either (λ t. Sized (in_a t)) (length m == 2) _ _ tt tt)
sized (InA (Level n before)) heard h = answered (λ t. Sized (in_a t)) (a_says (Level n before)) ABare heard tt tt (λ m. either (λ t. Sized (in_a t)) (is_level m) _ _ tt tt)
sized (InA (Select n before part)) heard h =
    answered (λ t. Sized (in_a t)) (a_says (Select n before part)) A heard tt tt
    (λ m. either (λ t. Sized (in_a t)) (length m == 1) _ _ (sak_sized n before part (slice_index m 0)) tt)
sized (InA (Complete read)) heard h = answered (λ t. Sized (in_a t)) (a_says (Complete read)) A heard tt tt (λ m. ats_sized read m)
sized (InB stage) heard h =
    answered (λ t. Sized (in_b t)) (b_says stage) B heard tt tt
    (λ m. either (λ t. Sized (in_b t)) (nat_lt 0 (length m) && (slice_index m 0 % 16 == 0)) _ _ h tt)
