-- What a card's reply tells of it: a link that it opens has frames of 16 to 256 bytes, and a frame that it passes on leaves it as it is.
use Rattle.std.proofs.Common.{◌≡◌, ℕ, ◌+◌, ◌*◌, ◌/◌, ◌≤◌, ◌==◌, ◌&&◌, Bool, true, false, not, nat_lt, if◌then◌else◌, List, [], ◌∷◌, take, drop, slice_index, Option, Some, None, refl, ap, arith}
use Rattle.std.proofs.lemmas.Bool.Decides.{nat_tests}
use Rattle.std.specs.Str.{bytes_eq}
use Rattle.ep_base.specs.declared.air.Wave.{Wave}
use Rattle.ep_base.specs.declared.air.Wave.TheVariants as waves
use Rattle.ep_base.specs.Cards.Activation.{bit}
use Rattle.ep_base.specs.Air.Frame.{opened}
use Rattle.ep_base.specs.Air.FrameSize.{frame_size}
use Rattle.ep_base.specs.Air.Heard.{framed, same_wave, CardHear, Mute, Sends, Opens, Passes}
use Rattle.ep_base.specs.Cards.TypeA as a
use Rattle.ep_base.specs.Cards.TypeB as b
use Rattle.ep_base.specs.Cards.Field.{Outside, OfA, OfB, outside_after, outside_reply}

-- the size of a reader's frames
abbrev pub IsSize : ℕ → Type 0
IsSize n = (16 ≤ n) × (n ≤ 256)

-- a reply in a state, with the state after it
abbrev pub Tame : {S : Type 0} → S → S → CardHear → Type 0
Tame old new Mute = Unit {0}
Tame old new (Sends f) = Unit {0}
Tame old new (Opens f fsd) = IsSize fsd
Tame old new Passes = new ≡ old

one_of : {S : Type 0} (t : Bool) (old : S) (x y : S × CardHear) → Tame old x.0 x.1 → Tame old y.0 y.1 → Tame old (if t then x else y).0 (if t then x else y).1
one_of true old x y p q = p
one_of false old x y p q = q

either : {S : Type 0} (t : Bool) (old : S) → Tame old old (if t then Passes else Mute)
either true old = refl
either false old = tt

size_of : (t : Bool) (x y : ℕ) → (t ≡ true → IsSize x) → IsSize y → IsSize (if t then x else y)
size_of true x y p q = p refl
size_of false x y p q = q

small : (n : ℕ) → nat_lt n 5 ≡ true → 16 + 8 * n ≤ 256
small n e = grind (arith, nat_tests)

fixed : (n : ℕ) → 16 ≤ n → n ≤ 256 → IsSize n
fixed n p q = (p, q)

sized : (n : ℕ) → IsSize (frame_size n)
unfolding frame_size
sized n =
    size_of (nat_lt n 5) (16 + 8 * n) (if n == 5 then 64 else (if n == 6 then 96 else (if n == 7 then 128 else 256))) (λ e. (omega arith, small n e))
    (size_of (n == 5) 64 (if n == 6 then 96 else (if n == 7 then 128 else 256)) (λ e. (omega arith, omega arith))
    (size_of (n == 6) 96 (if n == 7 then 128 else 256) (λ e. (omega arith, omega arith))
    (size_of (n == 7) 128 256 (λ e. (omega arith, omega arith)) (omega arith, omega arith))))

a_selects : (old : a.AState) (plan : a.APlan) (level : ℕ) (part : List ℕ) → Tame old (a.a_select plan level part).0 (a.a_select plan level part).1
a_selects old plan level part =
    one_of (bytes_eq part (a.level_part plan.uid level)) old (a.after_select plan level, Sends (framed waves.A (a.sak_of plan level ∷ []))) (a.Idle, Mute) tt tt

a_readies : (old : a.AState) (plan : a.APlan) (level : ℕ) (wave : Wave) (message : List ℕ) → Tame old (a.a_ready plan level wave message).0 (a.a_ready plan level wave message).1
a_readies old plan level wave message =
    let other : a.AState × CardHear = if same_wave wave waves.A && bytes_eq (take 2 message) (a.sel level ∷ 0x70 ∷ []) then a.a_select plan level (drop 2 message) else (a.Ready level, Mute) in
    one_of (same_wave wave waves.ABare && bytes_eq message (a.sel level ∷ 0x20 ∷ [])) old (a.Ready level, Sends (framed waves.ABare (a.level_part plan.uid level))) other tt
    (one_of (same_wave wave waves.A && bytes_eq (take 2 message) (a.sel level ∷ 0x70 ∷ [])) old (a.a_select plan level (drop 2 message)) (a.Ready level, Mute) (a_selects old plan level (drop 2 message)) tt)

a_actives : (old : a.AState) (plan : a.APlan) (wave : Wave) (message : List ℕ) → Tame old (a.a_active plan wave message).0 (a.a_active plan wave message).1
a_actives old plan wave message =
    one_of (a.is_rats wave message && (bit plan.sak 32 == 1)) old (a.Protocol, Opens (framed waves.A (a.ats_of plan)) (frame_size (slice_index message 1 / 16))) (a.Active, Mute) (sized (slice_index message 1 / 16)) tt

a_others : (old : a.AState) (plan : a.APlan) (state : a.AState) (wave : Wave) (message : List ℕ) → Tame old (a.a_other plan state wave message).0 (a.a_other plan state wave message).1
a_others old plan a.Idle wave message = tt
a_others old plan (a.Ready level) wave message = a_readies old plan level wave message
a_others old plan a.Active wave message = a_actives old plan wave message
a_others old plan a.Protocol wave message = tt
a_others old plan a.Halted wave message = tt

a_taken : (old : a.AState) (plan : a.APlan) (state : a.AState) (wave : Wave) (message : List ℕ) → Tame old (a.a_takes plan state wave message).0 (a.a_takes plan state wave message).1
unfolding a.a_takes
a_taken old plan state wave message =
    let other : a.AState × CardHear = if same_wave wave waves.A && bytes_eq message a.hlta then (a.Halted, Mute) else a.a_other plan state wave message in
    one_of (same_wave wave waves.AShort && bytes_eq message a.wupa) old (a.Ready 1, Sends (framed waves.ABare (a.atqa plan.uid))) other tt
    (one_of (same_wave wave waves.A && bytes_eq message a.hlta) old (a.Halted, Mute) (a.a_other plan state wave message) tt (a_others old plan state wave message))

a_opens : (old : a.AState) (plan : a.APlan) (state : a.AState) (wave : Wave) (message : Option (List ℕ)) → Tame old (a.a_opened plan state wave message).0 (a.a_opened plan state wave message).1
a_opens old plan state wave None = tt
a_opens old plan state wave (Some message) = a_taken old plan state wave message

a_tame : (plan : a.APlan) (state : a.AState) (wave : Wave) (bytes : List ℕ) → Tame state (a.a_card plan state wave bytes).0 (a.a_card plan state wave bytes).1
a_tame plan a.Idle wave bytes = a_opens a.Idle plan a.Idle wave (opened wave bytes)
a_tame plan (a.Ready level) wave bytes = a_opens (a.Ready level) plan (a.Ready level) wave (opened wave bytes)
a_tame plan a.Active wave bytes = a_opens a.Active plan a.Active wave (opened wave bytes)
a_tame plan a.Halted wave bytes = a_opens a.Halted plan a.Halted wave (opened wave bytes)
a_tame plan a.Protocol wave bytes = either (same_wave wave waves.A) a.Protocol

b_readies : (old : b.BState) (plan : b.BPlan) (message : List ℕ) → Tame old (b.b_ready plan message).0 (b.b_ready plan message).1
b_readies old plan message =
    one_of (b.is_attrib plan.pupi message && plan.iso4) old (b.BProtocol, Opens (framed waves.B (0 ∷ [])) (frame_size (slice_index message 6))) (b.BReady, Mute) (sized (slice_index message 6)) tt

b_others : (old : b.BState) (plan : b.BPlan) (state : b.BState) (message : List ℕ) → Tame old (b.b_other plan state message).0 (b.b_other plan state message).1
b_others old plan b.BIdle message = tt
b_others old plan b.BReady message = b_readies old plan message
b_others old plan b.BProtocol message = tt

b_taken : (old : b.BState) (plan : b.BPlan) (state : b.BState) (wave : Wave) (message : List ℕ) → Tame old (b.b_takes plan state wave message).0 (b.b_takes plan state wave message).1
unfolding b.b_takes
b_taken old plan state wave message =
    let other : b.BState × CardHear = if bytes_eq message b.wupb then (b.BReady, Sends (framed waves.B (b.atqb_of plan))) else b.b_other plan state message in
    one_of (not (same_wave wave waves.B)) old (state, Mute) other tt
    (one_of (bytes_eq message b.wupb) old (b.BReady, Sends (framed waves.B (b.atqb_of plan))) (b.b_other plan state message) tt (b_others old plan state message))

b_opens : (old : b.BState) (plan : b.BPlan) (state : b.BState) (wave : Wave) (message : Option (List ℕ)) → Tame old (b.b_opened plan state wave message).0 (b.b_opened plan state wave message).1
b_opens old plan state wave None = tt
b_opens old plan state wave (Some message) = b_taken old plan state wave message

b_tame : (plan : b.BPlan) (state : b.BState) (wave : Wave) (bytes : List ℕ) → Tame state (b.b_card plan state wave bytes).0 (b.b_card plan state wave bytes).1
b_tame plan b.BIdle wave bytes = b_opens b.BIdle plan b.BIdle wave (opened wave bytes)
b_tame plan b.BReady wave bytes = b_opens b.BReady plan b.BReady wave (opened wave bytes)
b_tame plan b.BProtocol wave bytes = either (same_wave wave waves.B) b.BProtocol

-- the same of a state that is a part
within : {S T : Type 0} (f : S → T) (old new : S) (reply : CardHear) → Tame old new reply → Tame (f old) (f new) reply
within f old new Mute t = tt
within f old new (Sends answer) t = tt
within f old new (Opens answer fsd) t = t
within f old new Passes t = ap f t

pub tame : (o : Outside) (wave : Wave) (bytes : List ℕ) → Tame o (outside_after wave bytes o) (outside_reply wave bytes o)
tame (OfA plan state) wave bytes = within (OfA plan) state (a.a_card plan state wave bytes).0 (a.a_card plan state wave bytes).1 (a_tame plan state wave bytes)
tame (OfB plan state) wave bytes = within (OfB plan) state (b.b_card plan state wave bytes).0 (b.b_card plan state wave bytes).1 (b_tame plan state wave bytes)
