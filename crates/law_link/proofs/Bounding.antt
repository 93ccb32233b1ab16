-- What bounds the exchanges of a command.
use Rattle.std.proofs.Common.{◌≡◌, ℕ, zero, suc, ◌+◌, ◌-◌, ◌*◌, ◌<◌, ◌≤◌, Bool, true, false, List, [], ◌∷◌, ◌++◌, length, drop, refl, ⊎_elim, arith, length-append, length-drop}
use Rattle.std.specs.Prelude.{if◌then◌else◌}
use Rattle.std.proofs.lemmas.Bool.Decides.{leb_tells, nat_tests}
use Rattle.ep_base.specs.declared.limits.TheConstants.{COMMAND, COMMAND_EXCHANGES, EXCHANGES, RESPONSE, WAITS}
use Rattle.ep_base.specs.Link.Block.{I, RAck, RNak, Deselect, Wtx, ReadBlock, Bad, Junk, Intact, other, same, is_bad, is_wtx, is_nak, count}
use Rattle.ep_base.specs.Link.Parts.{cut_by, cut}
use Rattle.ep_base.specs.Link.ReaderEnd.{Phase, Idle, Sending, Receiving, Reader, question, asked, ReaderTurn, Asks, Gives, Spends, Breaks, is_fit, takes, appended, on_i, on_ack, on_bad, on_wtx, kept, reader_hears, begin}
use Rattle.ep_base.specs.Link.CardEnd.{CommandRules, Card, Answer}
use Rattle.ep_base.specs.Link.OneLink.{Frames, BlockFate, goes_down, comes_up, goes_on_by, hears_answer, run_command}
use Rattle.law_link.specs.Bounds.{after_all, IsBounded, IsEnded, IsOver, toggle_of, toggle, toggles_in, BoundedToggles, CommandEnds, LinkEnds, FewToggles}

-- an R(ACK) without a toggle
abbrev is_ack : ReadBlock → Bool
is_ack Bad = false
is_ack Junk = false
is_ack (Intact (I k ch inf)) = false
is_ack (Intact (RAck k)) = true
is_ack (Intact (RNak k)) = false
is_ack (Intact Deselect) = false
is_ack (Intact (Wtx p m)) = false

-- 1 where the latest hearing was bad
abbrev top : List ReadBlock → ℕ
top [] = 0
top (Bad ∷ s) = 1
top (Junk ∷ s) = 0
top (Intact b ∷ s) = 0

-- an R(NAK) is sent after a bad hearing alone
nak_top : (n : Bool) (phase : Phase) (s : List ReadBlock) → is_nak (question n phase s) ≡ true → top s ≡ 1
nak_top n phase (Bad ∷ s) e = refl
nak_top n Idle [] e = cc
nak_top n Idle (Junk ∷ s) e = cc
nak_top n Idle (Intact b ∷ s) e = cc
nak_top n (Sending part left) [] e = cc
nak_top n (Sending part left) (Junk ∷ s) e = cc
nak_top n (Sending part left) (Intact (I k ch inf) ∷ s) e = cc
nak_top n (Sending part left) (Intact (RAck k) ∷ s) e = cc
nak_top n (Sending part left) (Intact (RNak k) ∷ s) e = cc
nak_top n (Sending part left) (Intact Deselect ∷ s) e = cc
nak_top n (Sending part left) (Intact (Wtx p m) ∷ s) e = cc
nak_top n (Receiving got) [] e = cc
nak_top n (Receiving got) (Junk ∷ s) e = cc
nak_top n (Receiving got) (Intact (I k ch inf) ∷ s) e = cc
nak_top n (Receiving got) (Intact (RAck k) ∷ s) e = cc
nak_top n (Receiving got) (Intact (RNak k) ∷ s) e = cc
nak_top n (Receiving got) (Intact Deselect ∷ s) e = cc
nak_top n (Receiving got) (Intact (Wtx p m) ∷ s) e = cc

-- what holds of the hearings since the toggle
record IsKept (s : List ReadBlock) : Type 0 where
  bad : count is_bad s ≤ 2
  waits : count is_wtx s ≤ WAITS
  acks : count is_ack s + top s ≤ count is_bad s
  all : length s ≡ count is_bad s + count is_wtx s + count is_ack s

kept_none : IsKept []
kept_none = record { bad = omega arith; waits = omega arith; acks = omega arith; all = refl }

few : (s : List ReadBlock) → IsKept s → length s ≤ EXCHANGES - 1
few s k = omega (arith, k.bad, k.waits, k.acks, k.all)

-- the toggles that a command may still take
abbrev toggles : Phase → ℕ
toggles Idle = 0
toggles (Sending part left) = length left + (RESPONSE + 1)
toggles (Receiving got) = RESPONSE + 1 - length got

-- the exchanges that it may still take
abbrev work : Reader → ℕ
work r = EXCHANGES * toggles r.phase - length r.since

-- at least one more toggle
abbrev IsOpen : Phase → Type 0
IsOpen Idle = ⊥
IsOpen (Sending part left) = Unit {0}
IsOpen (Receiving got) = length got ≤ RESPONSE

-- a step keeps the bound, and takes from the work and the toggles
abbrev Falls : Reader → ReaderTurn → Type 0
Falls old (Asks r) = IsKept r.since × IsOpen r.phase × (work r < work old) × (toggle old (Asks r) + toggles r.phase ≤ toggles old.phase)
Falls old (Gives response r) = (r.since ≡ []) × (toggle old (Gives response r) ≤ toggles old.phase)
Falls old (Spends r) = (length r.since ≤ EXCHANGES) × (count is_bad r.since ≡ 3)
Falls old (Breaks r) = IsKept r.since

some_toggle : (phase : Phase) → IsOpen phase → 1 ≤ toggles phase
some_toggle Idle o = absurd o
some_toggle (Sending part left) o = omega arith
some_toggle (Receiving got) o = omega arith

fit_chained_only : (frame : ℕ) (got inf : List ℕ) → is_fit frame got true inf ≡ true → (0 < length inf) × (length (got ++ inf) ≤ RESPONSE)
fit_chained_only frame got inf e = (grind (arith, nat_tests), grind (arith, nat_tests))

stays : (n : Bool) → toggle_of n n ≡ 0
stays true = refl
stays false = refl

moves : (n : Bool) → toggle_of n (other n) ≡ 1
moves true = refl
moves false = refl

module _ (frame : ℕ) (n : Bool) (s : List ReadBlock) (k : IsKept s) where
  abbrev at : Phase → Reader
  at phase = record { number = n; phase = phase; since = s }

  falls_bad : (phase : Phase) → IsOpen phase → Falls (at phase) (on_bad (kept Bad (at phase)))
  falls_bad phase o =
      ⊎_elim
      (λ h. rw h.0 (record { bad = omega (arith, h.1); waits = k.waits; acks = omega (arith, k.acks); all = omega (arith, k.all) }, o, omega (arith, few s k, some_toggle phase o), omega (arith, stays n)))
      (λ h. rw h.0 (omega (arith, few s k), omega (arith, h.1, k.bad)))
      (leb_tells (suc (suc (count is_bad s))) 3)

  falls_wtx : (p m : ℕ) (phase : Phase) → IsOpen phase → Falls (at phase) (on_wtx (Intact (Wtx p m)) (at phase))
  falls_wtx p m phase o =
      ⊎_elim
      (λ h. rw h.0 (record { bad = k.bad; waits = h.1; acks = omega (arith, k.acks); all = omega (arith, k.all) }, o, omega (arith, few s k, some_toggle phase o), omega (arith, stays n)))
      (λ h. rw h.0 k)
      (leb_tells (suc (count is_wtx s)) WAITS)

  falls_part : (got inf : List ℕ) (ch : Bool) (phase : Phase) → length got ≤ RESPONSE → RESPONSE + 1 - length got ≤ toggles phase → Falls (at phase) (takes frame got ch inf (at phase))
  falls_part got inf true phase o most =
      elim (is_fit frame got true inf) as (λ (b : Bool). is_fit frame got true inf ≡ b → Falls (at phase) (if b then appended got true inf (at phase) else Breaks (at phase))) [
        | true ↦ λ e. let f = fit_chained_only frame got inf e in (kept_none, f.1, omega (arith, f.0, f.1, few s k, length-append got inf), omega (arith, f.0, f.1, length-append got inf, moves n))
        | false ↦ λ e. k
      ] refl
  falls_part got inf false phase o most =
      elim (is_fit frame got false inf) as (λ (b : Bool). Falls (at phase) (if b then appended got false inf (at phase) else Breaks (at phase))) [ true ↦ (refl, omega (arith, moves n)) | false ↦ k ]

  falls_i : (phase : Phase) → IsOpen phase → (ch : Bool) (inf : List ℕ) → Falls (at phase) (on_i frame phase ch inf (at phase))
  falls_i Idle o ch inf = k
  falls_i (Sending part []) o ch inf = falls_part [] inf ch (Sending part []) (omega arith) (omega arith)
  falls_i (Sending part (next ∷ left)) o ch inf = k
  falls_i (Receiving got) o ch inf = falls_part got inf ch (Receiving got) o (omega arith)

  falls_ack : (phase : Phase) → IsOpen phase → Falls (at phase) (on_ack phase (at phase))
  falls_ack Idle o = k
  falls_ack (Sending part []) o = k
  falls_ack (Sending part (next ∷ left)) o = (kept_none, tt, omega (arith, few s k), omega (arith, moves n))
  falls_ack (Receiving got) o = k

  falls_again : (j : Bool) (phase : Phase) → IsOpen phase → Falls (at phase) (if is_nak (question n phase s) then Asks (kept (Intact (RAck j)) (at phase)) else Breaks (at phase))
  falls_again j phase o =
      elim (is_nak (question n phase s)) as (λ (b : Bool). is_nak (question n phase s) ≡ b → Falls (at phase) (if b then Asks (kept (Intact (RAck j)) (at phase)) else Breaks (at phase))) [
        | true ↦ λ e. let t = nak_top n phase s e in (record { bad = k.bad; waits = k.waits; acks = omega (arith, k.acks); all = omega (arith, k.all) }, o, omega (arith, few s k, some_toggle phase o), omega (arith, stays n))
        | false ↦ λ e. k
      ] refl

  falls : (phase : Phase) → IsOpen phase → (h : ReadBlock) → Falls (at phase) (reader_hears frame (at phase) h)
  falls phase o Bad = falls_bad phase o
  falls phase o Junk = k
  falls phase o (Intact (I j ch inf)) =
      elim (same j n) as (λ (b : Bool). Falls (at phase) (if b then on_i frame phase ch inf (at phase) else Breaks (at phase))) [ true ↦ falls_i phase o ch inf | false ↦ k ]
  falls phase o (Intact (RAck j)) =
      elim (same j n) as (λ (b : Bool). Falls (at phase) (if b then on_ack phase (at phase) else if is_nak (question n phase s) then Asks (kept (Intact (RAck j)) (at phase)) else Breaks (at phase))) [ true ↦ falls_ack phase o | false ↦ falls_again j phase o ]
  falls phase o (Intact (RNak j)) = k
  falls phase o (Intact Deselect) = k
  falls phase o (Intact (Wtx p m)) = falls_wtx p m phase o

reader_falls : (frame : ℕ) (r : Reader) → IsKept r.since → IsOpen r.phase → (h : ReadBlock) → Falls r (reader_hears frame r h)
reader_falls frame r k o h = falls frame r.number r.since k r.phase o h

-- the number of parts
parts_few : (k size : ℕ) (bytes : List ℕ) → length bytes ≤ k → 13 ≤ size → 13 * length (cut_by k size bytes).others ≤ length bytes
parts_few zero size bytes fuel wide = omega arith
parts_few (suc k) size bytes fuel wide =
    ⊎_elim
    (λ h. rw h.0 (omega arith))
    (λ h. rw h.0 (omega (arith, h.1, length-drop size bytes, parts_few k size (drop size bytes) (omega (arith, h.1, length-drop size bytes)) wide)))
    (leb_tells (length bytes) size)

-- the reader alone
bounded_from : (frame : ℕ) (hs : List ReadBlock) (old : Reader) → ((r : Reader) → IsKept r.since → IsOpen r.phase → IsBounded (after_all frame hs (Asks r))) → (t : ReaderTurn) → Falls old t → IsBounded (after_all frame hs t)
bounded_from frame hs old next (Asks r) f = next r f.0 f.1
bounded_from frame [] old next (Gives response r) f = f.0
bounded_from frame (h ∷ hs) old next (Gives response r) f = f.0
bounded_from frame [] old next (Spends r) f = f
bounded_from frame (h ∷ hs) old next (Spends r) f = f
bounded_from frame [] old next (Breaks r) f = few r.since f
bounded_from frame (h ∷ hs) old next (Breaks r) f = few r.since f

bounded : (frame : ℕ) (hs : List ReadBlock) (r : Reader) → IsKept r.since → IsOpen r.phase → IsBounded (after_all frame hs (Asks r))
bounded frame [] r k o = (few r.since k, k.bad)
bounded frame (h ∷ hs) r k o = bounded_from frame hs r (bounded frame hs) (reader_hears frame r h) (reader_falls frame r k o h)

ended_from : (frame : ℕ) (hs : List ReadBlock) (old : Reader) → ((r : Reader) → IsKept r.since → IsOpen r.phase → work r ≤ length hs → IsEnded (after_all frame hs (Asks r))) → work old ≤ suc (length hs) → (t : ReaderTurn) → Falls old t → IsEnded (after_all frame hs t)
ended_from frame hs old next le (Asks r) f = next r f.0 f.1 (omega (arith, f.2, le))
ended_from frame [] old next le (Gives response r) f = tt
ended_from frame (h ∷ hs) old next le (Gives response r) f = tt
ended_from frame [] old next le (Spends r) f = tt
ended_from frame (h ∷ hs) old next le (Spends r) f = tt
ended_from frame [] old next le (Breaks r) f = tt
ended_from frame (h ∷ hs) old next le (Breaks r) f = tt

-- work is left while a command is open
some_work : (r : Reader) → IsKept r.since → IsOpen r.phase → 1 ≤ work r
some_work r k o = omega (arith, few r.since k, some_toggle r.phase o)

ended : (frame : ℕ) (hs : List ReadBlock) (r : Reader) → IsKept r.since → IsOpen r.phase → work r ≤ length hs → IsEnded (after_all frame hs (Asks r))
ended frame [] r k o le = absurd (omega (arith, some_work r k o, le))
ended frame (h ∷ hs) r k o le = ended_from frame hs r (ended frame hs) le (reader_hears frame r h) (reader_falls frame r k o h)

-- the link
over_from : (frames : Frames) (image : CommandRules) (fates : List BlockFate) (card : Card) (old : Reader) → ((r : Reader) → IsKept r.since → IsOpen r.phase → work r ≤ length fates → IsOver (run_command frames image fates r card)) → work old ≤ suc (length fates) → (t : ReaderTurn) → Falls old t → IsOver (goes_on_by (run_command frames image fates) fates t card)
over_from frames image fates card old next le (Asks r) f = next r f.0 f.1 (omega (arith, f.2, le))
over_from frames image fates card old next le (Gives response r) f = tt
over_from frames image fates card old next le (Spends r) f = tt
over_from frames image fates card old next le (Breaks r) f = tt

over : (frames : Frames) (image : CommandRules) (fates : List BlockFate) (card : Card) (r : Reader) → IsKept r.since → IsOpen r.phase → work r ≤ length fates → IsOver (run_command frames image fates r card)
over frames image [] card r k o le = absurd (omega (arith, some_work r k o, le))
over frames image (f ∷ fates) card r k o le =
    let a : Answer = goes_down f.down frames image card (asked r) in
    over_from frames image fates a.card r (over frames image fates a.card) le (hears_answer f.up frames r a) (reader_falls frames.reader r k o (comes_up f.up a.block))

-- the toggles
toggled_from : (frame : ℕ) (hs : List ReadBlock) (old : Reader) → ((r : Reader) → IsKept r.since → IsOpen r.phase → toggles_in frame hs (Asks r) ≤ toggles r.phase) → (t : ReaderTurn) → Falls old t → toggle old t + toggles_in frame hs t ≤ toggles old.phase
toggled_from frame hs old next (Asks r) f = omega (arith, next r f.0 f.1, f.3)
toggled_from frame [] old next (Gives response r) f = omega (arith, f.1)
toggled_from frame (h ∷ hs) old next (Gives response r) f = omega (arith, f.1)
toggled_from frame [] old next (Spends r) f = omega arith
toggled_from frame (h ∷ hs) old next (Spends r) f = omega arith
toggled_from frame [] old next (Breaks r) f = omega arith
toggled_from frame (h ∷ hs) old next (Breaks r) f = omega arith

toggled : (frame : ℕ) (hs : List ReadBlock) (r : Reader) → IsKept r.since → IsOpen r.phase → toggles_in frame hs (Asks r) ≤ toggles r.phase
toggled frame [] r k o = omega arith
toggled frame (h ∷ hs) r k o = toggled_from frame hs r (toggled frame hs) (reader_hears frame r h) (reader_falls frame r k o h)

begun_work : (card_frame : ℕ) (command : List ℕ) (r : Reader) → 16 ≤ card_frame → length command ≤ COMMAND → work (begin card_frame command r) ≤ COMMAND_EXCHANGES
begun_work card_frame command r wide short =
    let p : 13 * length (cut (card_frame - 3) command).others ≤ length command = parts_few (length command) (card_frame - 3) command (omega arith) (omega arith) in
    omega (arith, p, short)

none_kept : (s : List ReadBlock) → s ≡ [] → IsKept s
none_kept s e = rw e kept_none

pub bounded_toggles : BoundedToggles
bounded_toggles card_frame frame command r hearings e = bounded frame hearings (begin card_frame command r) (none_kept r.since e) tt

pub few_toggles : FewToggles
few_toggles card_frame frame command r hearings e wide short =
    let p : 13 * length (cut (card_frame - 3) command).others ≤ length command = parts_few (length command) (card_frame - 3) command (omega arith) (omega arith) in
    omega (arith, p, short, toggled frame hearings (begin card_frame command r) (none_kept r.since e) tt)

pub command_ends : CommandEnds
command_ends card_frame frame command r hearings e wide short long =
    ended frame hearings (begin card_frame command r) (none_kept r.since e) tt (omega (arith, begun_work card_frame command r wide short))

pub link_ends : LinkEnds
link_ends frames image fates r card command e wide short long =
    over frames image fates card (begin frames.card command r) (none_kept r.since e) tt (omega (arith, begun_work frames.card command r wide short))
