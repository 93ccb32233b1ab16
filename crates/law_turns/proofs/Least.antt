-- The count of exchanges after which a transaction is over: the least one.
use Rattle.std.proofs.Common.{◌≡◌, ℕ, zero, suc, ◌<◌, Bool, List, [], ◌++◌, refl, sym, ap, ◌∙◌, arith, Option, Some, None}
use Rattle.ep_base.specs.Air.Heard.{Ask}
use Rattle.ep_rules.specs.EntryPoint.Talk.{Talk}
use Rattle.ep_claim.specs.Lanes.Exchanges.{Lane, goes_by, lane_step, lane_after}
use Rattle.ep_claim.specs.Lanes.Standing.{asked_by}
use Rattle.ep_claim.specs.Lanes.Telling.{exchange_by, exchanges_text}

module _ (traced : Bool) (fsdi lane txn : ℕ) (talk : Talk) where
  abbrev text : ℕ → Lane → List ℕ
  text n l = exchanges_text traced fsdi lane txn talk n l

  abbrev next : Lane → Option Ask
  next l = asked_by fsdi l.standing.doing

  -- something is asked before each of so many exchanges
  abbrev GoesOn : Lane → ℕ → Type 0
  GoesOn l n = (k : ℕ) → k < n → (ask : Ask) × (next (lane_after fsdi talk k l) ≡ Some ask)

  -- the least count, which leaves the same lane and the same text as this one
  pub record Least (l : Lane) (n : ℕ) : Type 0 where
    pub count : ℕ
    pub goes_on : (k : ℕ) → k < count → (ask : Ask) × (asked_by fsdi (lane_after fsdi talk k l).standing.doing ≡ Some ask)
    pub none : asked_by fsdi (lane_after fsdi talk count l).standing.doing ≡ None
    pub same_lane : lane_after fsdi talk count l ≡ lane_after fsdi talk n l
    pub same_text : exchanges_text traced fsdi lane txn talk count l ≡ exchanges_text traced fsdi lane txn talk n l

  stays : (n : ℕ) (l : Lane) → next l ≡ None → lane_after fsdi talk n l ≡ l
  stays zero l e = refl
  stays (suc n) l e = ap (λ o. lane_after fsdi talk n (goes_by fsdi talk o l)) e ∙ stays n l e

  quiet : (n : ℕ) (l : Lane) → next l ≡ None → text n l ≡ []
  quiet zero l e = refl
  quiet (suc n) l e = ap (λ o. exchange_by traced fsdi lane txn talk l o ++ text n (goes_by fsdi talk o l)) e ∙ quiet n l e

  never : (l : Lane) → GoesOn l 0
  never l k lt = absurd (omega (arith, lt))

  one_more : (l : Lane) (m : ℕ) (ask : Ask) → next l ≡ Some ask → GoesOn (lane_step fsdi talk l) m → GoesOn l (suc m)
  one_more l m ask e more zero lt = (ask, e)
  one_more l m ask e more (suc k) lt = more k (omega (arith, lt))

  by_ask : (l : Lane) (n : ℕ) (o : Option Ask) → next l ≡ o → Least (lane_step fsdi talk l) n → Least l (suc n)
  by_ask l n None e more =
      record { count = 0; goes_on = never l; none = e; same_lane = sym (stays (suc n) l e); same_text = sym (quiet (suc n) l e) }
  by_ask l n (Some ask) e more = record {
    count = suc more.count;
    goes_on = one_more l more.count ask e more.goes_on;
    none = more.none;
    same_lane = more.same_lane;
    same_text = ap (λ t. exchange_by traced fsdi lane txn talk l (next l) ++ t) more.same_text;
  }

  pub least : (n : ℕ) (l : Lane) → next (lane_after fsdi talk n l) ≡ None → Least l n
  least zero l e = record { count = 0; goes_on = never l; none = e; same_lane = refl; same_text = refl }
  least (suc n) l e = by_ask l n (next l) refl (least n (lane_step fsdi talk l) e)
