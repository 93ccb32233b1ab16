-- Whose turn it is, step by step as the code looks for it.
use Rattle.std.proofs.Common.{◌≡◌, ⊎_elim, ℕ, zero, suc, ◌+◌, ◌-◌, ◌<◌, ◌≤◌, Bool, true, false, List, [], ◌∷◌, drop, get_or, length, refl, sym, ◌∙◌, ap, subst, arith, rules, Option, Some, None}
use Rattle.std.specs.Prelude.{if◌then◌else◌, ◌↔◌, IsNone, IfSome}
use Rattle.std.proofs.lemmas.List.{drop_more}
use Rattle.ep_claim.specs.Lanes.Order.{Order, listed, lowest, or_else, in_round, round_turn, turn_by, next_turn}
use Rattle.law_turns.proofs.Ordering.{Anyhow, anyhow}
use Rattle.ep_lanes.specs.Lanes.{Held, is_live, count_of, next_of, lane_in, next_lane}
use Rattle.ep_lanes.proofs.Numbering.{there_or_not}

module _ (live : ℕ → Bool) where
  -- none of no lanes
  pub lowest_none : (lane past : ℕ) → past ≤ lane → lowest live lane (past - lane) ≡ None
  unfolding lowest
  lowest_none lane past most = let e : past - lane ≡ 0 = omega arith in subst (λ n. lowest live lane n ≡ None) (sym e) refl

  -- a lane that isn't live is passed over
  pub lowest_passed : (lane past : ℕ) → lane < past → live lane ≡ false → lowest live (lane + 1) (past - (lane + 1)) ≡ lowest live lane (past - lane)
  unfolding lowest
  lowest_passed lane past less e =
      let s : past - lane ≡ suc (past - (lane + 1)) = omega arith in
      subst (λ n. lowest live (lane + 1) (past - (lane + 1)) ≡ lowest live lane n) (sym s)
      (subst (λ (b : Bool). lowest live (lane + 1) (past - (lane + 1)) ≡ (if b then Some lane else lowest live (lane + 1) (past - (lane + 1)))) (sym e) refl)

  -- a live one is found
  pub lowest_found : (lane past : ℕ) → lane < past → live lane ≡ true → lowest live lane (past - lane) ≡ Some lane
  unfolding lowest
  lowest_found lane past less e =
      let s : past - lane ≡ suc (past - (lane + 1)) = omega arith in
      subst (λ n. lowest live lane n ≡ Some lane) (sym s)
      (subst (λ (b : Bool). (if b then Some lane else lowest live (lane + 1) (past - (lane + 1))) ≡ Some lane) (sym e) refl)

  -- the same along the turn list
  pub listed_passed : (turns : List ℕ) (i d : ℕ) → i < length turns → live (get_or turns i d) ≡ false → listed live (drop (i + 1) turns) ≡ listed live (drop i turns)
  listed_passed turns i d less e =
      subst (λ ns. listed live (drop (i + 1) turns) ≡ listed live ns) (sym (drop_more turns i d less))
      (subst (λ (b : Bool). listed live (drop (i + 1) turns) ≡ (if b then Some (get_or turns i d, drop (i + 1) turns) else listed live (drop (i + 1) turns))) (sym e) refl)

  pub listed_found : (turns : List ℕ) (i d : ℕ) → i < length turns → live (get_or turns i d) ≡ true
      → listed live (drop i turns) ≡ Some (get_or turns i d, drop (i + 1) turns)
  listed_found turns i d less e =
      subst (λ ns. listed live ns ≡ Some (get_or turns i d, drop (i + 1) turns)) (sym (drop_more turns i d less))
      (subst (λ (b : Bool). (if b then Some (get_or turns i d, drop (i + 1) turns) else listed live (drop (i + 1) turns)) ≡ Some (get_or turns i d, drop (i + 1) turns)) (sym e) refl)

-- What a turn, or that there is none, tells of the live lanes.
module _ {S : Type 0} (h : Held S) where
  abbrev NoneLive : Type 0
  NoneLive = (lane : ℕ) → is_live h lane ≡ false

  abbrev TellsNone : Option ℕ → Type 0
  TellsNone r = IsNone r ↔ NoneLive

  abbrev TellsLive : Option ℕ → Type 0
  TellsLive r = IfSome r (λ lane. is_live h lane ≡ true)

  none_live : ((lane : ℕ) → (1 ≤ lane) × (lane ≤ count_of h) → is_live h lane ≡ false) → NoneLive
  none_live all lane = ⊎_elim (λ e. ap (λ l. l.live) e) (λ there. all lane there) (there_or_not h.lanes lane)

  told_none : (t : Option (ℕ × Order)) → Anyhow (is_live h) (count_of h) t → TellsNone (lane_in t)
  told_none None all = ((λ is. none_live all), (λ none. search rules))
  told_none (Some (lane, order)) live = ((λ is. search rules), (λ none. let never : true ≡ false = sym live ∙ none lane in cc))

  told_live : (t : Option (ℕ × Order)) → Anyhow (is_live h) (count_of h) t → TellsLive (lane_in t)
  told_live None all = tt
  told_live (Some (lane, order)) live = live

  pub tells_none : (r : Option ℕ) → r ≡ next_lane h → TellsNone r
  tells_none r e = subst TellsNone (sym e) (told_none (next_of h) (anyhow (is_live h) (count_of h) h.order))

  pub tells_live : (r : Option ℕ) → r ≡ next_lane h → TellsLive r
  tells_live r e = subst TellsLive (sym e) (told_live (next_of h) (anyhow (is_live h) (count_of h) h.order))

-- The next turn is the same where the same lanes are live.
module _ (f g : ℕ → Bool) (same : (n : ℕ) → f n ≡ g n) where
  listed_same : (ns : List ℕ) → listed f ns ≡ listed g ns
  listed_same [] = refl
  listed_same (n ∷ ns) =
      subst (λ (b : Bool). (if f n then Some (n, ns) else listed f ns) ≡ (if b then Some (n, ns) else listed g ns)) (same n)
      (ap (λ t. if f n then Some (n, ns) else t) (listed_same ns))

  lowest_same : (many first : ℕ) → lowest f first many ≡ lowest g first many
  unfolding lowest
  lowest_same zero first = refl
  lowest_same (suc many) first =
      subst (λ (b : Bool). (if f first then Some first else lowest f (first + 1) many) ≡ (if b then Some first else lowest g (first + 1) many)) (same first)
      (ap (λ t. if f first then Some first else t) (lowest_same many (first + 1)))

  round_same : (count last : ℕ) → in_round f count last ≡ in_round g count last
  round_same count last =
      ap (λ t. or_else t (lowest f 1 last)) (lowest_same (count - last) (last + 1)) ∙ ap (λ t. or_else (lowest g (last + 1) (count - last)) t) (lowest_same last 1)

  turn_same : (count : ℕ) (o : Order) (l : Option (ℕ × List ℕ)) → turn_by f count o l ≡ turn_by g count o l
  turn_same count o None = ap (λ r. round_turn r) (round_same count o.last)
  turn_same count o (Some (n, ns)) = refl

  pub same_turn : (count : ℕ) (o : Order) → next_turn f count o ≡ next_turn g count o
  same_turn count o = ap (λ l. turn_by f count o l) (listed_same o.turns) ∙ turn_same count o (listed g o.turns)

-- The lane whose turn it is, is live.
pub next_live : {S : Type 0} (h : Held S) (lane : ℕ) → next_lane h ≡ Some lane → is_live h lane ≡ true
next_live h lane e = tells_live h (Some lane) (sym e)
