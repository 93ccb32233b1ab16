-- A round leaves no other card of Type A in Protocol.
use Rattle.std.proofs.Common.{◌≡◌, ℕ, zero, suc, ◌+◌, ◌-◌, ◌*◌, ◌/◌, ◌%◌, ◌≤◌, ◌==◌, nat_eq, nat_lt, ◌&&◌, Bool, true, false, List, [], ◌∷◌, ◌++◌, length, take, drop, Option, Some, None, sym, ap, ◌∙◌, subst, refl, arith, eq-eqb, if◌then◌else◌}
use Rattle.std.specs.Prelude.{slice_index, Result, Ok, Err}
use Rattle.std.specs.Str.{bytes_eq}
use Rattle.ep_base.specs.declared.air.Wave.{Wave}
use Rattle.ep_base.specs.declared.air.Wave.TheVariants.{AShort, ABare, A, B}
use Rattle.std.proofs.lemmas.Slice.Eq.{bytes_eq-Decides}
use Rattle.ep_base.specs.declared.air.CardKind.TheVariants as kinds
use Rattle.ep_base.specs.declared.activation.Ats.{Ats}
use Rattle.ep_base.specs.declared.activation.AtsFault.{AtsFault}
use Rattle.ep_base.specs.declared.activation.Atqb.{Atqb}
use Rattle.ep_base.specs.declared.activation.AtqbFault.{AtqbFault}
use Rattle.ep_base.specs.Air.Frame.{sealed, opened}
use Rattle.ep_base.specs.Air.Heard.{Activated, Empty, Collision, Unsupported, Broken, Found, Fails, CardHear, Mute, Sends, Opens, Heard, Silence, Noise, Overlap, Frame, RoundTurn, Goes, Ends, framed, same_wave, says_opened, on_answer, awaited, is_silent}
use Rattle.ep_base.specs.Cards.Activation.{ats, atqb, bit}
use Rattle.ep_base.specs.Air.FrameSize.{frame_size}
use Rattle.ep_base.specs.Cards.TypeA.{AStage, Woken, Level, Select, Complete, sel, is_level, continues, a_says, a_hears, after_sak, after_ats, APlan, AState, Idle, Ready, Active, Protocol, Halted, levels, level_part, sak_of, ats_of, after_select, a_takes, a_opened, a_card}
use Rattle.ep_base.specs.Cards.TypeB.{BStage, b_says, after_atqb}
use Rattle.ep_base.specs.Poll.Round.{Stage, Waking, Halting, WakingB, InA, InB, round_asks, round_hears, in_a, in_b}
use Rattle.ep_base.specs.Cards.Lawful.{IsUid, Four, Seven, Ten}
use Rattle.law_round.proofs.Fitting.{Early, Begins, AtLevel, Chosen, NotOpen, FitsA, NextA, EndsA}
use Rattle.rf_frame.proofs.Opening.{opened_sealed}

-- where another level follows, the card that sent this level has another one, and what is read stays its UID's beginning
more : (uid : List ℕ) → IsUid uid → (n : ℕ) (before : List ℕ) → 1 ≤ n → n ≤ levels uid → take (3 * (n - 1)) uid ≡ before
    → continues n (level_part uid n) ≡ true
    → (nat_eq n (levels uid) ≡ false) × (n + 1 ≤ levels uid) × (take (3 * (n + 1 - 1)) uid ≡ before ++ take 3 (drop 1 (level_part uid n)))
more uid u zero before f l e c = absurd (omega arith)
more _ (Four a b c d first) (suc zero) before f l e h = let clash : true ≡ false = sym h ∙ first in cc
more _ (Four a b c d first) (suc (suc n)) before f l e h = absurd (omega arith)
more _ (Seven a b c d e f g fourth) (suc zero) before h0 l eq h = (refl, omega arith, ap (λ x. x ++ (a ∷ b ∷ c ∷ [])) eq)
more _ (Seven a b c d e f g fourth) (suc (suc zero)) before h0 l eq h = let clash : true ≡ false = sym h ∙ fourth in cc
more _ (Seven a b c d e f g fourth) (suc (suc (suc n))) before h0 l eq h = absurd (omega arith)
more _ (Ten a b c d e f g i j k) (suc zero) before h0 l eq h = (refl, omega arith, ap (λ x. x ++ (a ∷ b ∷ c ∷ [])) eq)
more _ (Ten a b c d e f g i j k) (suc (suc zero)) before h0 l eq h = (refl, omega arith, ap (λ x. x ++ (d ∷ e ∷ f ∷ [])) eq)
more _ (Ten a b c d e f g i j k) (suc (suc (suc zero))) before h0 l eq h = cc
more _ (Ten a b c d e f g i j k) (suc (suc (suc (suc n)))) before h0 l eq h = absurd (omega arith)

-- where none follows, it was the card's last, and its UID is what was read
last : (uid : List ℕ) → IsUid uid → (n : ℕ) (before : List ℕ) → 1 ≤ n → n ≤ levels uid → take (3 * (n - 1)) uid ≡ before
    → continues n (level_part uid n) ≡ false
    → (nat_eq n (levels uid) ≡ true) × (uid ≡ before ++ take 4 (level_part uid n))
last uid u zero before f l e c = absurd (omega arith)
last _ (Four a b c d first) (suc zero) before f l e h = (refl, ap (λ x. x ++ (a ∷ b ∷ c ∷ d ∷ [])) e)
last _ (Four a b c d first) (suc (suc n)) before f l e h = absurd (omega arith)
last _ (Seven a b c d e f g fourth) (suc zero) before h0 l eq h = cc
last _ (Seven a b c d e f g fourth) (suc (suc zero)) before h0 l eq h = (refl, ap (λ x. x ++ (d ∷ e ∷ f ∷ g ∷ [])) eq)
last _ (Seven a b c d e f g fourth) (suc (suc (suc n))) before h0 l eq h = absurd (omega arith)
last _ (Ten a b c d e f g i j k) (suc zero) before h0 l eq h = cc
last _ (Ten a b c d e f g i j k) (suc (suc zero)) before h0 l eq h = cc
last _ (Ten a b c d e f g i j k) (suc (suc (suc zero))) before h0 l eq h = (refl, ap (λ x. x ++ (g ∷ i ∷ j ∷ k ∷ [])) eq)
last _ (Ten a b c d e f g i j k) (suc (suc (suc (suc n)))) before h0 l eq h = absurd (omega arith)

pub one_level : (uid : List ℕ) → IsUid uid → 1 ≤ levels uid
one_level _ (Four a b c d first) = omega arith
one_level _ (Seven a b c d e f g fourth) = omega arith
one_level _ (Ten a b c d e f g i j k) = omega arith

pub by_wave : {S : Type 0} (P : RoundTurn S → Type 0) (next : List ℕ → RoundTurn S) (same : Bool) (o : Option (List ℕ))
    → P (Ends Broken) → ((m : List ℕ) → P (next m)) → P (on_answer next (if same then says_opened o else Fails Broken))
by_wave P next true (Some m) b f = f m
by_wave P next true None b f = b
by_wave P next false o b f = b

-- what holds after each way to hear an awaited answer
pub answered : {S : Type 0} (P : RoundTurn S → Type 0) (next : List ℕ → RoundTurn S) (wave : Wave) (heard : Heard)
    → P (Ends Broken) → P (Ends Collision) → ((m : List ℕ) → P (next m)) → P (on_answer next (awaited wave heard))
answered P next wave Silence b c f = b
answered P next wave Noise b c f = b
answered P next wave Overlap b c f = c
answered P next wave (Frame w bytes) b c f = by_wave P next (same_wave w wave) (opened wave bytes) b f

pub either : {X : Type 0} (P : X → Type 0) (b : Bool) (x y : X) → P x → P y → P (if b then x else y)
either P true x y hx hy = hx
either P false x y hx hy = hy

pub when : {X : Type 0} (P : X → Type 0) (b : Bool) (x y : X) → (b ≡ true → P x) → (b ≡ false → P y) → P (if b then x else y)
when P true x y hx hy = hx refl
when P false x y hx hy = hy refl

pub takes : (p : APlan) (s : AState) (wave : Wave) (bytes m : List ℕ) → NotOpen s → opened wave bytes ≡ Some m → a_card p s wave bytes ≡ a_takes p s wave m
takes p Idle wave bytes m o e = ap (λ x. a_opened p Idle wave x) e
takes p Halted wave bytes m o e = ap (λ x. a_opened p Halted wave x) e
takes p Protocol wave bytes m o e = absurd o
takes p (Ready level) wave bytes m o e = ap (λ x. a_opened p (Ready level) wave x) e
takes p Active wave bytes m o e = ap (λ x. a_opened p Active wave x) e

-- an Idle or a Halted card fits whatever follows
quiet_idle : (t : RoundTurn AStage) (uid : List ℕ) → NextA (in_a t) uid Idle
quiet_idle (Goes Woken) uid = tt
quiet_idle (Goes (Level n before)) uid = tt
quiet_idle (Goes (Select n before part)) uid = tt
quiet_idle (Goes (Complete read)) uid = tt
quiet_idle (Ends Empty) uid = tt
quiet_idle (Ends Collision) uid = tt
quiet_idle (Ends Unsupported) uid = tt
quiet_idle (Ends Broken) uid = tt
quiet_idle (Ends (Found found)) uid = λ e. absurd cc

quiet_halted : (t : RoundTurn AStage) (uid : List ℕ) → NextA (in_a t) uid Halted
quiet_halted (Goes Woken) uid = tt
quiet_halted (Goes (Level n before)) uid = tt
quiet_halted (Goes (Select n before part)) uid = tt
quiet_halted (Goes (Complete read)) uid = tt
quiet_halted (Ends Empty) uid = tt
quiet_halted (Ends Collision) uid = tt
quiet_halted (Ends Unsupported) uid = tt
quiet_halted (Ends Broken) uid = tt
quiet_halted (Ends (Found found)) uid = λ e. absurd cc

-- WUPA makes it Ready
woken_waking : (fsdi : ℕ) (p : APlan) (heard : Heard) → NextA (round_hears Waking heard) p.uid (Ready 1)
woken_waking fsdi p heard = either (λ st. FitsA st p.uid (Ready 1)) (is_silent heard) _ _ refl refl

begins : (uid : List ℕ) → IsUid uid → Begins uid 1 [] 1
begins uid u = record { same = refl; first = omega arith; last = one_level uid u; front = refl }

woken_again : (p : APlan) (heard : Heard) → IsUid p.uid → NextA (round_hears (InA Woken) heard) p.uid (Ready 1)
woken_again p heard u =
    answered (λ t. NextA (in_a t) p.uid (Ready 1)) (a_says Woken) ABare heard tt tt
    (λ m. either (λ t. NextA (in_a t) p.uid (Ready 1)) (length m == 2) _ _ (begins p.uid u) tt)

pub waking_state : (p : APlan) (s : AState) → Early s → (a_card p s AShort (0x52 ∷ [])).0 ≡ Ready 1
unfolding a_takes
waking_state p Idle e = refl
waking_state p (Ready level) e = refl
waking_state p Active e = absurd e
waking_state p Protocol e = absurd e
waking_state p Halted e = refl

pub early_closed : (s : AState) → Early s → NotOpen s
early_closed Idle e = tt
early_closed (Ready level) e = tt
early_closed Active e = absurd e
early_closed Protocol e = absurd e
early_closed Halted e = tt

pub level_closed : (uid : List ℕ) (n : ℕ) (before : List ℕ) (s : AState) → AtLevel uid n before s → NotOpen s
level_closed uid n before Idle e = tt
level_closed uid n before (Ready level) e = tt
level_closed uid n before Active e = absurd e
level_closed uid n before Protocol e = absurd e
level_closed uid n before Halted e = tt

pub halts : (p : APlan) (s : AState) → Early s → (a_card p s A (sealed A (0x50 ∷ 0 ∷ []))).0 ≡ Halted
unfolding a_takes
halts p s e = ap (λ (x : AState × CardHear). x.0) (takes p s A (sealed A (0x50 ∷ 0 ∷ [])) (0x50 ∷ 0 ∷ []) (early_closed s e) (opened_sealed A (0x50 ∷ 0 ∷ []) (omega arith)))

pub keeps_b : (p : APlan) (s : AState) (m : List ℕ) → NotOpen s → a_takes p s B m ≡ (s, Mute)
unfolding a_takes
keeps_b p Idle m o = refl
keeps_b p Halted m o = refl
keeps_b p Protocol m o = absurd o
keeps_b p (Ready level) m o = refl
keeps_b p Active m o = refl

keeps_opened : (p : APlan) (s : AState) (o : Option (List ℕ)) → NotOpen s → (a_opened p s B o).0 ≡ s
keeps_opened p s None h = refl
keeps_opened p s (Some m) h = ap (λ (x : AState × CardHear). x.0) (keeps_b p s m h)

-- frames of Type B leave it as it is
stays_b : (p : APlan) (s : AState) (bytes : List ℕ) → NotOpen s → (a_card p s B bytes).0 ≡ s
stays_b p Idle bytes h = keeps_opened p Idle (opened B bytes) h
stays_b p Halted bytes h = keeps_opened p Halted (opened B bytes) h
stays_b p Protocol bytes h = absurd h
stays_b p (Ready level) bytes h = keeps_opened p (Ready level) (opened B bytes) h
stays_b p Active bytes h = keeps_opened p Active (opened B bytes) h

-- SEL 20 leaves it as it is
asked_level : (p : APlan) (s : AState) (n : ℕ) (before : List ℕ) → AtLevel p.uid n before s → (a_card p s ABare (sel n ∷ 0x20 ∷ [])).0 ≡ s
unfolding a_takes
asked_level p Idle n before h = refl
asked_level p Halted n before h = refl
asked_level p Protocol n before h = absurd h
asked_level p Active n before h = absurd h
asked_level p (Ready level) n before h =
    either (λ (x : AState × CardHear). x.0 ≡ Ready level) (bytes_eq (sel n ∷ 0x20 ∷ []) (sel level ∷ 0x20 ∷ [])) (Ready level, Sends (framed ABare (level_part p.uid level))) (Ready level, Mute) refl refl

pub skip : (a : Bool) (x y : AState × CardHear) → (if a && false then x else y) ≡ y
skip true x y = refl
skip false x y = refl

-- SEL 70 of its level
pub selected : (p : APlan) (n : ℕ) (part : List ℕ)
    → a_card p (Ready n) A (sealed A (sel n ∷ 0x70 ∷ part)) ≡ (if bytes_eq part (level_part p.uid n) then (after_select p n, Sends (framed A (sak_of p n ∷ []))) else (Idle, Mute))
unfolding a_takes
selected p n part =
    let choice : AState × CardHear = (if bytes_eq part (level_part p.uid n) then (after_select p n, Sends (framed A (sak_of p n ∷ []))) else (Idle, Mute)) in
    takes p (Ready n) A (sealed A (sel n ∷ 0x70 ∷ part)) (sel n ∷ 0x70 ∷ part) tt (opened_sealed A (sel n ∷ 0x70 ∷ part) (omega arith))
    ∙ skip (nat_eq (sel n) 0x50) (Halted, Mute) (if nat_eq (sel n) (sel n) && true then choice else (Ready n, Mute))
    ∙ ap (λ b. if b && true then choice else (Ready n, Mute)) (eq-eqb _ _ refl)

goes_more : (p : APlan) (u : IsUid p.uid) (n : ℕ) (before part : List ℕ) → Begins p.uid n before n → part ≡ level_part p.uid n → continues n part ≡ true
    → FitsA (InA (Level (n + 1) (before ++ take 3 (drop 1 part)))) p.uid (after_select p n)
goes_more p u n before part b e c =
    let m = more p.uid u n before b.first b.last b.front (ap (λ l. continues n l) (sym e) ∙ c) in
    subst (λ s. AtLevel p.uid (n + 1) (before ++ take 3 (drop 1 part)) s) (sym (ap (λ x. if x then Active else Ready (n + 1)) m.0))
    (record { same = refl; first = omega arith; last = m.1; front = m.2 ∙ ap (λ l. before ++ take 3 (drop 1 l)) (sym e) })

goes_last : (p : APlan) (u : IsUid p.uid) (n : ℕ) (before part : List ℕ) → Begins p.uid n before n → part ≡ level_part p.uid n → continues n part ≡ false
    → FitsA (InA (Complete (before ++ take 4 part))) p.uid (after_select p n)
goes_last p u n before part b e c =
    let m = last p.uid u n before b.first b.last b.front (ap (λ l. continues n l) (sym e) ∙ c) in
    subst (λ s. Chosen p.uid (before ++ take 4 part) s) (sym (ap (λ x. if x then Active else Ready (n + 1)) m.0))
    (m.1 ∙ ap (λ l. before ++ take 4 l) (sym e))

after_part : (p : APlan) (u : IsUid p.uid) (n : ℕ) (before part : List ℕ) (sak : ℕ) → Begins p.uid n before n → part ≡ level_part p.uid n
    → NextA (in_a (after_sak n before part sak)) p.uid (after_select p n)
after_part p u n before part sak b e =
    let s = after_select p n in
    let P : RoundTurn AStage → Type 0 = λ t. NextA (in_a t) p.uid s in
    either P (bit sak 4 == 1) _ _
    (when P (continues n part) _ _ (λ c. goes_more p u n before part b e c) (λ c. tt))
    (when P (continues n part) _ _ (λ c. tt) (λ c. either P (bit sak 32 == 1) _ _ (goes_last p u n before part b e c) tt))

pub same_part : (part own : List ℕ) → bytes_eq part own ≡ true → part ≡ own
same_part part own h = (bytes_eq-Decides part own).0 h

select_ready : (p : APlan) (u : IsUid p.uid) (n : ℕ) (before part : List ℕ) (heard : Heard) → Begins p.uid n before n
    → NextA (round_hears (InA (Select n before part)) heard) p.uid (a_card p (Ready n) A (sealed A (sel n ∷ 0x70 ∷ part))).0
select_ready p u n before part heard b =
    let t = round_hears (InA (Select n before part)) heard in
    subst (λ (x : AState × CardHear). NextA t p.uid x.0) (sym (selected p n part))
    (when (λ (x : AState × CardHear). NextA t p.uid x.0) (bytes_eq part (level_part p.uid n)) (after_select p n, Sends (framed A (sak_of p n ∷ []))) (Idle, Mute)
    (λ e. answered (λ t. NextA (in_a t) p.uid (after_select p n)) (a_says (Select n before part)) A heard tt tt
    (λ m. either (λ t. NextA (in_a t) p.uid (after_select p n)) (length m == 1) _ _
    (after_part p u n before part (slice_index m 0) b (same_part part (level_part p.uid n) e)) tt))
    (λ e. quiet_idle (a_hears (Select n before part) heard) p.uid))

select_a : (p : APlan) (u : IsUid p.uid) (s : AState) (n : ℕ) (before part : List ℕ) (heard : Heard) → AtLevel p.uid n before s
    → NextA (round_hears (InA (Select n before part)) heard) p.uid (a_card p s A (sealed A (sel n ∷ 0x70 ∷ part))).0
unfolding a_takes
select_a p u Idle n before part heard h =
    let t = a_hears (Select n before part) heard in
    subst (λ (x : AState × CardHear). NextA (in_a t) p.uid x.0) (sym (takes p Idle A (sealed A (sel n ∷ 0x70 ∷ part)) (sel n ∷ 0x70 ∷ part) tt (opened_sealed A (sel n ∷ 0x70 ∷ part) (omega arith))))
    (either (λ (x : AState × CardHear). NextA (in_a t) p.uid x.0) (nat_eq (sel n) 0x50 && false) (Halted, Mute) (Idle, Mute) (quiet_halted t p.uid) (quiet_idle t p.uid))
select_a p u Halted n before part heard h =
    let t = a_hears (Select n before part) heard in
    subst (λ (x : AState × CardHear). NextA (in_a t) p.uid x.0) (sym (takes p Halted A (sealed A (sel n ∷ 0x70 ∷ part)) (sel n ∷ 0x70 ∷ part) tt (opened_sealed A (sel n ∷ 0x70 ∷ part) (omega arith))))
    (either (λ (x : AState × CardHear). NextA (in_a t) p.uid x.0) (nat_eq (sel n) 0x50 && false) (Halted, Mute) (Halted, Mute) (quiet_halted t p.uid) (quiet_halted t p.uid))
select_a p u Protocol n before part heard h = absurd h
select_a p u Active n before part heard h = absurd h
select_a p u (Ready level) n before part heard h =
    subst (λ k. NextA (round_hears (InA (Select n before part)) heard) p.uid (a_card p (Ready k) A (sealed A (sel n ∷ 0x70 ∷ part))).0) (sym h.same)
    (select_ready p u n before part heard (record { same = refl; first = h.first; last = h.last; front = h.front }))

opened_round : (uid read : List ℕ) (r : Result Ats AtsFault) → uid ≡ read → NextA (in_a (after_ats read r)) uid Protocol
opened_round uid read (Ok a) e = λ _. (refl, sym e)
opened_round uid read (Err f) e = tt

still_active : (uid read : List ℕ) (r : Result Ats AtsFault) → NextA (in_a (after_ats read r)) uid Active
still_active uid read (Ok a) = λ e. absurd cc
still_active uid read (Err f) = tt

complete_a : (fsdi : ℕ) (p : APlan) (s : AState) (read : List ℕ) (heard : Heard) → Chosen p.uid read s
    → NextA (round_hears (InA (Complete read)) heard) p.uid (a_card p s A (sealed A (0xe0 ∷ 16 * fsdi ∷ []))).0
unfolding a_takes
complete_a fsdi p Idle read heard h =
    let t = a_hears (Complete read) heard in
    subst (λ (x : AState × CardHear). NextA (in_a t) p.uid x.0) (sym (takes p Idle A (sealed A (0xe0 ∷ 16 * fsdi ∷ [])) (0xe0 ∷ 16 * fsdi ∷ []) tt (opened_sealed A (0xe0 ∷ 16 * fsdi ∷ []) (omega arith)))) (quiet_idle t p.uid)
complete_a fsdi p Halted read heard h =
    let t = a_hears (Complete read) heard in
    subst (λ (x : AState × CardHear). NextA (in_a t) p.uid x.0) (sym (takes p Halted A (sealed A (0xe0 ∷ 16 * fsdi ∷ [])) (0xe0 ∷ 16 * fsdi ∷ []) tt (opened_sealed A (0xe0 ∷ 16 * fsdi ∷ []) (omega arith)))) (quiet_halted t p.uid)
complete_a fsdi p (Ready level) read heard h = absurd h
complete_a fsdi p Protocol read heard h = absurd h
complete_a fsdi p Active read heard h =
    let t = a_hears (Complete read) heard in
    let m : List ℕ = 0xe0 ∷ 16 * fsdi ∷ [] in
    subst (λ (x : AState × CardHear). NextA (in_a t) p.uid x.0) (sym (takes p Active A (sealed A m) m tt (opened_sealed A m (omega arith))))
    (either (λ (x : AState × CardHear). NextA (in_a t) p.uid x.0) (nat_eq (16 * fsdi % 16) 0 && nat_eq (bit p.sak 32) 1) (Protocol, Opens (framed A (ats_of p)) (frame_size (16 * fsdi / 16))) (Active, Mute)
    (answered (λ t. NextA (in_a t) p.uid Protocol) (a_says (Complete read)) A heard tt tt (λ m. opened_round p.uid read (ats m) h))
    (answered (λ t. NextA (in_a t) p.uid Active) (a_says (Complete read)) A heard tt tt (λ m. still_active p.uid read (ats m))))

closed_end : (found : Activated) (uid : List ℕ) (s : AState) → NotOpen s → EndsA (Found found) uid s
closed_end found uid Idle o = λ e. absurd cc
closed_end found uid Halted o = λ e. absurd cc
closed_end found uid (Ready level) o = λ e. absurd cc
closed_end found uid Active o = λ e. absurd cc
closed_end found uid Protocol o = absurd o

found_b_next : (uid : List ℕ) (s : AState) (r : Result Atqb AtqbFault) → NotOpen s → NextA (in_b (after_atqb r)) uid s
found_b_next uid s (Ok a) o = either (λ t. NextA (in_b t) uid s) a.iso4 _ _ o tt
found_b_next uid s (Err e) o = tt

waking_b : (p : APlan) (s : AState) (woke : Bool) (heard : Heard) → Early s → NextA (round_hears (WakingB woke) heard) p.uid s
waking_b p s true heard h = either (λ t. NextA t p.uid s) (is_silent heard) _ _ h tt
waking_b p s false heard h =
    either (λ t. NextA t p.uid s) (is_silent heard) _ _ tt
    (answered (λ t. NextA (in_b t) p.uid s) (λ m. after_atqb (atqb m)) B heard tt tt (λ m. found_b_next p.uid s (atqb m) (early_closed s h)))

in_b_next : (p : APlan) (s : AState) (stage : BStage) (heard : Heard) → NotOpen s → NextA (round_hears (InB stage) heard) p.uid s
in_b_next p s stage heard o =
    answered (λ t. NextA (in_b t) p.uid s) (b_says stage) B heard tt tt
    (λ m. either (λ t. NextA (in_b t) p.uid s) (nat_lt 0 (length m) && (slice_index m 0 % 16 == 0)) _ _ (closed_end (record { kind = kinds.B; id = stage.pupi; fsc = stage.fsc; fwi = stage.fwi }) p.uid s o) tt)

-- a card of Type A that heard the reader's frame, whatever the reader hears then
pub step_a : (fsdi : ℕ) (p : APlan) (u : IsUid p.uid) (stage : Stage) (s : AState) (heard : Heard) → FitsA stage p.uid s
    → NextA (round_hears stage heard) p.uid (a_card p s (round_asks fsdi stage).wave (round_asks fsdi stage).bytes).0
step_a fsdi p u Waking s heard h = subst (λ x. NextA (round_hears Waking heard) p.uid x) (sym (waking_state p s h)) (woken_waking fsdi p heard)
step_a fsdi p u Halting s heard h = subst (λ x. NextA (round_hears Halting heard) p.uid x) (sym (halts p s h)) tt
step_a fsdi p u (WakingB woke) s heard h = subst (λ x. NextA (round_hears (WakingB woke) heard) p.uid x) (sym (stays_b p s _ (early_closed s h))) (waking_b p s woke heard h)
step_a fsdi p u (InA Woken) s heard h = subst (λ x. NextA (round_hears (InA Woken) heard) p.uid x) (sym (waking_state p s h)) (woken_again p heard u)
step_a fsdi p u (InA (Level n before)) s heard h =
    subst (λ x. NextA (round_hears (InA (Level n before)) heard) p.uid x) (sym (asked_level p s n before h))
    (answered (λ t. NextA (in_a t) p.uid s) (a_says (Level n before)) ABare heard tt tt (λ m. either (λ t. NextA (in_a t) p.uid s) (is_level m) _ _ h tt))
step_a fsdi p u (InA (Select n before part)) s heard h = select_a p u s n before part heard h
step_a fsdi p u (InA (Complete read)) s heard h = complete_a fsdi p s read heard h
step_a fsdi p u (InB stage) s heard h = subst (λ x. NextA (round_hears (InB stage) heard) p.uid x) (sym (stays_b p s _ h)) (in_b_next p s stage heard h)
