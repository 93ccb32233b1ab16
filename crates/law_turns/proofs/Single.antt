-- The promise of a lane fixes its text.
use Rattle.std.proofs.Common.{◌≡◌, ℕ, ◌<◌, ◌≤◌, List, [], ◌∷◌, sym, ap, ◌∙◌, ⊎_elim, arith, Some, None}
use Rattle.std.proofs.lemmas.Bool.Decides.{leb_tells}
use Rattle.ep_claim.specs.Lanes.LaneText.{Job}
use Rattle.ep_claim.specs.Promise.Transaction.{Cards, TransactionPromise}
use Rattle.ep_claim.specs.Promise.Lane.{AreKept, lane_lines, OneText}

module _ (fsdi : ℕ) (j : Job) (c : Cards) where
  -- a smaller count isn't over
  not_before : (m n : ℕ) → TransactionPromise fsdi j c m → TransactionPromise fsdi j c n → m < n → ⊥
  not_before m n p q lt =
      let asks = q.goes_on m lt in
      let clash : None ≡ Some asks.0 = sym p.over ∙ asks.1 in
      cc

  one_count : (m n : ℕ) → TransactionPromise fsdi j c m → TransactionPromise fsdi j c n → m ≡ n
  one_count m n p q =
      ⊎_elim
      (λ h. ⊎_elim (λ k. let le : m ≤ n = h.1 in let ge : n ≤ m = k.1 in omega (arith, le, ge)) (λ k. absurd (not_before m n p q k.1)) (leb_tells n m))
      (λ h. absurd (not_before n m q p h.1))
      (leb_tells m n)

one_list : (fsdi : ℕ) (jobs : List Job) (cards : List Cards) (ms ns : List ℕ) → AreKept fsdi jobs cards ms → AreKept fsdi jobs cards ns → ms ≡ ns
one_list fsdi [] cards ms ns p q = p.1 ∙ sym q.1
one_list fsdi (j ∷ js) [] ms ns p q = absurd p
one_list fsdi (j ∷ js) (c ∷ cs) [] ns p q = absurd p
one_list fsdi (j ∷ js) (c ∷ cs) (m ∷ ms) [] p q = absurd q
one_list fsdi (j ∷ js) (c ∷ cs) (m ∷ ms) (n ∷ ns) p q =
    ap (λ k. k ∷ ms) (one_count fsdi j c m n p.0 q.0) ∙ ap (λ ks. n ∷ ks) (one_list fsdi js cs ms ns p.1 q.1)

pub one_text_law : OneText
one_text_law traced fsdi lane jobs cards s t p q =
    p.lines
    ∙ (ap (λ counts. lane_lines traced fsdi lane 1 jobs counts) (one_list fsdi jobs cards p.counts q.counts p.transactions q.transactions)
    ∙ sym q.lines)
