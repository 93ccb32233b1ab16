-- How the reader's hearings count: with a toggle or without.
use Rattle.std.proofs.Common.{◌≡◌, ◌⊎◌, inl, inr, ℕ, ◌+◌, nat_le, nat_lt, Bool, true, false, List, [], ◌∷◌, ◌++◌, length, refl, sym, ap, ◌∙◌, arith}
use Rattle.std.specs.Prelude.{if◌then◌else◌}
use Rattle.ep_base.specs.declared.limits.TheConstants.{WAITS}
use Rattle.ep_base.specs.Link.Block.{I, RAck, RNak, Deselect, Wtx, ReadBlock, Bad, Junk, Intact, other, same, is_bad, is_wtx, is_nak, count}
use Rattle.ep_base.specs.Link.ReaderEnd.{Phase, Idle, Sending, Receiving, Reader, ReaderTurn, Asks, Gives, Spends, Breaks, asked, kept, is_fit, takes, appended, on_i, on_ack, reader_hears}
use Rattle.law_link.specs.Bounds.{toggle, toggles_in}
use Rattle.law_link.specs.Bounds as links
use Rattle.law_round.proofs.Presenting.{either}

-- ---- a hearing without a toggle is one more, and a toggle leaves none

differs : (n : Bool) → same (other n) n ≡ false
differs true = refl
differs false = refl

agrees : (n : Bool) → same n n ≡ true
agrees true = refl
agrees false = refl

abbrev pub Stays : Reader → Reader → Type 0
Stays old now = (same now.number old.number ≡ true) × (length now.since ≡ length old.since + 1)

abbrev pub Moves : Reader → Reader → Type 0
Moves old now = (same now.number old.number ≡ false) × (now.since ≡ [])

abbrev pub Goes_on : Reader → ReaderTurn → Type 0
Goes_on old (Asks now) = Stays old now ⊎ Moves old now
Goes_on old (Gives response now) = Moves old now
Goes_on old (Spends now) = Unit {0}
Goes_on old (Breaks now) = Unit {0}

moved : (phase : Phase) (r : Reader) → Moves r (record { number = other r.number; phase = phase; since = [] })
moved phase r = (differs r.number, refl)

stayed : (h : ReadBlock) (r : Reader) → Stays r (kept h r)
stayed h r = (agrees r.number, omega arith)

takes_goes : (frame : ℕ) (got : List ℕ) (ch : Bool) (inf : List ℕ) (r : Reader) → Goes_on r (takes frame got ch inf r)
takes_goes frame got true inf r = either (Goes_on r) (is_fit frame got true inf) (appended got true inf r) (Breaks r) (inr (moved (Receiving (got ++ inf)) r)) tt
takes_goes frame got false inf r = either (Goes_on r) (is_fit frame got false inf) (appended got false inf r) (Breaks r) (moved Idle r) tt

i_goes : (frame : ℕ) (phase : Phase) (ch : Bool) (inf : List ℕ) (r : Reader) → Goes_on r (on_i frame phase ch inf r)
i_goes frame Idle ch inf r = tt
i_goes frame (Sending part []) ch inf r = takes_goes frame [] ch inf r
i_goes frame (Sending part (next ∷ left)) ch inf r = tt
i_goes frame (Receiving got) ch inf r = takes_goes frame got ch inf r

ack_goes : (phase : Phase) (r : Reader) → Goes_on r (on_ack phase r)
ack_goes Idle r = tt
ack_goes (Sending part []) r = tt
ack_goes (Sending part (next ∷ left)) r = inr (moved (Sending next left) r)
ack_goes (Receiving got) r = tt

pub reader_goes : (frame : ℕ) (r : Reader) (h : ReadBlock) → Goes_on r (reader_hears frame r h)
reader_goes frame r Bad = either (Goes_on r) (nat_lt (count is_bad (kept Bad r).since) 3) (Asks (kept Bad r)) (Spends (kept Bad r)) (inl (stayed Bad r)) tt
reader_goes frame r Junk = tt
reader_goes frame r (Intact (I k ch inf)) = either (Goes_on r) (same k r.number) (on_i frame r.phase ch inf r) (Breaks r) (i_goes frame r.phase ch inf r) tt
reader_goes frame r (Intact (RAck k)) =
    either (Goes_on r) (same k r.number) (on_ack r.phase r) _ (ack_goes r.phase r)
    (either (Goes_on r) (is_nak (asked r)) (Asks (kept (Intact (RAck k)) r)) (Breaks r) (inl (stayed (Intact (RAck k)) r)) tt)
reader_goes frame r (Intact (RNak k)) = tt
reader_goes frame r (Intact Deselect) = tt
reader_goes frame r (Intact (Wtx p m)) =
    either (Goes_on r) (nat_le (count is_wtx (Intact (Wtx p m) ∷ r.since)) WAITS) (Asks (kept (Intact (Wtx p m)) r)) (Breaks r) (inl (stayed (Intact (Wtx p m)) r)) tt

-- the exchanges since the toggle
pub since_now : (old now : Reader) (n : ℕ) → n ≡ length old.since → Stays old now ⊎ Moves old now → (if same now.number old.number then n + 1 else 0) ≡ length now.since
since_now old now n is (inl (same_number, more)) =
    ap (λ b. if b then n + 1 else 0) same_number ∙ (let e : n + 1 ≡ length now.since = omega (arith, is, more) in e)
since_now old now n is (inr (other_number, none)) = ap (λ b. if b then n + 1 else 0) other_number ∙ sym (ap (λ (l : List ReadBlock). length l) none)

pub toggles_now : (b : Bool) (n m : ℕ) → m ≡ n → m + (if b then 0 else 1) ≡ (if b then n else n + 1)
toggles_now true n m e = omega (arith, e)
toggles_now false n m e = omega (arith, e)

-- ---- one more hearing of a command

module _ (frame : ℕ) (h : ReadBlock) (r : Reader) where
  pub after_more : (hs : List ReadBlock) (t : ReaderTurn) → links.after_all frame hs t ≡ Asks r → links.after_all frame (hs ++ h ∷ []) t ≡ reader_hears frame r h
  after_more [] t e = ap (λ u. links.after_all frame (h ∷ []) u) e
  after_more (x ∷ xs) (Asks q) e = after_more xs (reader_hears frame q x) e
  after_more (x ∷ xs) (Gives response q) e = absurd (let clash : ⊥ = cc in clash)
  after_more (x ∷ xs) (Spends q) e = absurd (let clash : ⊥ = cc in clash)
  after_more (x ∷ xs) (Breaks q) e = absurd (let clash : ⊥ = cc in clash)

  pub toggles_more : (hs : List ReadBlock) (t : ReaderTurn) → links.after_all frame hs t ≡ Asks r
      → toggles_in frame (hs ++ h ∷ []) t ≡ toggles_in frame hs t + toggle r (reader_hears frame r h)
  toggles_more [] t e =
      ap (λ u. toggles_in frame (h ∷ []) u) e
      ∙ (let n = toggle r (reader_hears frame r h) in let z : n + 0 ≡ 0 + n = omega arith in z)
  toggles_more (x ∷ xs) (Asks q) e =
      let more = toggles_more xs (reader_hears frame q x) e in
      omega (arith, more)
  toggles_more (x ∷ xs) (Gives response q) e = absurd (let clash : ⊥ = cc in clash)
  toggles_more (x ∷ xs) (Spends q) e = absurd (let clash : ⊥ = cc in clash)
  toggles_more (x ∷ xs) (Breaks q) e = absurd (let clash : ⊥ = cc in clash)
