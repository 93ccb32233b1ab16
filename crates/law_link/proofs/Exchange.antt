-- The induction over exchanges.
use Rattle.std.proofs.Common.{◌≡◌, ◌⊎◌, ℕ, zero, suc, ◌+◌, ◌-◌, ◌<◌, ◌≤◌, Bool, true, false, List, [], ◌∷◌, ◌++◌, length, Option, Some, refl, sym, ap, ◌∙◌, subst, inl, inr, ⊎_elim, arith, append_assoc, length-append}
use Rattle.std.specs.Prelude.{nat_le, cond, if◌then◌else◌}
use Rattle.std.specs.List.{concat}
use Rattle.std.proofs.lemmas.List.{append-nil}
use Rattle.std.proofs.lemmas.Bool.Decides.{leb_tells, nat_tests}
use Rattle.ep_base.specs.declared.limits.TheConstants.{COMMAND, RESPONSE, WAITS}
use Rattle.ep_base.specs.Link.Block.{Block, I, RAck, RNak, Deselect, Wtx, ReadBlock, Bad, Intact, other, same, is_bad, is_wtx, is_nak, count}
use Rattle.ep_base.specs.Link.Parts.{Cut, cut, more}
use Rattle.ep_base.specs.Link.ReaderEnd.{Phase, Idle, Sending, Receiving, Reader, question, asked, ReaderTurn, Asks, Gives, Spends, Breaks, is_fit, takes, appended, on_i, kept, reader_hears}
use Rattle.ep_base.specs.Link.ReaderEnd as Rules
use Rattle.ep_base.specs.Link.ReaderEnd.{begin}
use Rattle.ep_base.specs.Cards.CardAnswer.{Answered}
use Rattle.ep_base.specs.Link.CardEnd.{CommandRules, Parts, Waits, Card, Answer, sends_first, executes, card_hears}
use Rattle.ep_base.specs.Link.OneLink.{Frames, BlockFate, goes_down, goes_on_by, hears_answer, run_command}
use Rattle.law_link.specs.Once.{IsImage, AreFrames, IsIdle, ExactlyOnce, OneCommand, is_loss, losses, IsSafe}
use Rattle.law_link.proofs.Cutting.{AllFit, cut_joins, cut_fits}

-- how far both ends are with a command
pub data Place : Type 0 where
  -- the card hasn't taken this part of the command; it has those before it
  Before : (last : Option Block) (sent part : List ℕ) (left : List (List ℕ)) → Place
  -- it has, and waits for the next one
  Between : (sent part next : List ℕ) (left : List (List ℕ)) → Place
  -- it has executed the command, and its last block is an S(WTX), with so many to come
  Working : (part : List ℕ) (wtx : ℕ) → Place
  -- its last block is the first part of the response
  Replied : (part : List ℕ) → Place
  -- it hasn't taken the R(ACK) that asks for this part of the response
  Asking : (last : Option Block) (got next : List ℕ) (others : List (List ℕ)) → Place
  -- it has, and its last block is that part
  Given : (got part : List ℕ) (others : List (List ℕ)) → Place

same_true : (b : Bool) → same b b ≡ true
same_true true = refl
same_true false = refl

same_false : (b : Bool) → same b (other b) ≡ false
same_false true = refl
same_false false = refl

other_false : (b : Bool) → same (other b) b ≡ false
other_false true = refl
other_false false = refl

fit_last : (frame : ℕ) (got inf : List ℕ) → length inf + 3 ≤ frame → 2 ≤ length (got ++ inf) → length (got ++ inf) ≤ RESPONSE → is_fit frame got false inf ≡ true
fit_last frame got inf a b c = grind (arith, nat_tests)

fit_chained : (frame : ℕ) (got inf : List ℕ) → length inf + 3 ≤ frame → 0 < length inf → length (got ++ inf) ≤ RESPONSE → is_fit frame got true inf ≡ true
fit_chained frame got inf a b c = grind (arith, nat_tests)

module _ (frames : Frames) (image : CommandRules) (before : List (List ℕ)) (command : List ℕ) where
  abbrev pub after : List (List ℕ)
  after = before ++ command ∷ []

  abbrev pub reply : Answered
  reply = image.answer after

  abbrev pub pieces : Cut
  pieces = cut (frames.reader - 3) reply.response

  abbrev pub phase_at : Place → Phase
  phase_at (Before last sent part left) = Sending part left
  phase_at (Between sent part next left) = Sending part (next ∷ left)
  phase_at (Working part wtx) = Sending part []
  phase_at (Replied part) = Sending part []
  phase_at (Asking last got next others) = Receiving got
  phase_at (Given got part others) = Receiving got

  -- the reader's number is other m
  abbrev pub reader_at : Bool → Place → List ReadBlock → Reader
  reader_at m place s = record { number = other m; phase = phase_at place; since = s }

  -- the card's number is m where it hasn't taken the reader's block, and other m where it has
  abbrev pub card_at : Bool → Place → Card
  card_at m (Before last sent part left) = record { number = m; last = last; taken = sent; left = Parts []; log = before }
  card_at m (Between sent part next left) = record { number = other m; last = Some (RAck (other m)); taken = sent ++ part; left = Parts []; log = before }
  card_at m (Working part wtx) = record { number = other m; last = Some (Wtx 0 reply.wtxm); taken = []; left = Waits wtx reply.wtxm pieces.first pieces.others; log = after }
  card_at m (Replied part) = record { number = other m; last = Some (I (other m) (more pieces.others) pieces.first); taken = []; left = Parts pieces.others; log = after }
  card_at m (Asking last got next others) = record { number = m; last = last; taken = []; left = Parts (next ∷ others); log = after }
  card_at m (Given got part others) = record { number = other m; last = Some (I (other m) (more others) part); taken = []; left = Parts others; log = after }

  -- what the card has just sent
  abbrev pub answer_at : Bool → Place → Block
  answer_at m (Before last sent part left) = RAck m
  answer_at m (Between sent part next left) = RAck (other m)
  answer_at m (Working part wtx) = Wtx 0 reply.wtxm
  answer_at m (Replied part) = I (other m) (more pieces.others) pieces.first
  answer_at m (Asking last got next others) = Deselect
  answer_at m (Given got part others) = I (other m) (more others) part

  -- the parts make up the command, or the response
  abbrev pub Fine : Place → Type 0
  Fine (Before last sent part left) = sent ++ (part ++ concat left) ≡ command
  Fine (Between sent part next left) = (sent ++ part) ++ (next ++ concat left) ≡ command
  Fine (Working part wtx) = Unit {0}
  Fine (Replied part) = Unit {0}
  Fine (Asking last got next others) = (got ++ (next ++ concat others) ≡ reply.response) × AllFit frames.reader (next ∷ others)
  Fine (Given got part others) = (got ++ (part ++ concat others) ≡ reply.response) × AllFit frames.reader (part ∷ others)

  -- what the hearings since the toggle say at any time
  abbrev Holds : Place → List ReadBlock → Type 0
  Holds (Before last sent part left) s = count is_wtx s ≡ 0
  Holds (Between sent part next left) s = Unit {0}
  Holds (Working part wtx) s = count is_wtx s + wtx ≤ reply.wtx + count is_bad s
  Holds (Replied part) s = Unit {0}
  Holds (Asking last got next others) s = Unit {0}
  Holds (Given got part others) s = Unit {0}

  -- what the reader sends before an exchange
  abbrev pub Fits : Bool → Place → List ReadBlock → Type 0
  Fits m (Before last sent part left) s =
      (count is_wtx s ≡ 0) × ((question (other m) (Sending part left) s ≡ I (other m) (more left) part) ⊎ (question (other m) (Sending part left) s ≡ RNak (other m)))
  Fits m (Between sent part next left) s = question (other m) (Sending part (next ∷ left)) s ≡ RNak (other m)
  Fits m (Working part wtx) s =
      ((question (other m) (Sending part []) s ≡ RNak (other m)) × (count is_wtx s + wtx + 1 ≤ reply.wtx + count is_bad s))
      ⊎ ((question (other m) (Sending part []) s ≡ Wtx 0 reply.wtxm) × (count is_wtx s + wtx ≤ reply.wtx + count is_bad s))
  Fits m (Replied part) s = question (other m) (Sending part []) s ≡ RNak (other m)
  Fits m (Asking last got next others) s = question (other m) (Receiving got) s ≡ RAck (other m)
  Fits m (Given got part others) s = question (other m) (Receiving got) s ≡ RAck (other m)

  -- what it has sent where the card has just answered
  abbrev pub Answers : Bool → Place → List ReadBlock → Type 0
  Answers m (Before last sent part left) s = (count is_wtx s ≡ 0) × (question (other m) (Sending part left) s ≡ RNak (other m))
  Answers m (Between sent part next left) s = Unit {0}
  Answers m (Working part wtx) s = count is_wtx s + wtx + 1 ≤ reply.wtx + count is_bad s
  Answers m (Replied part) s = Unit {0}
  Answers m (Asking last got next others) s = ⊥
  Answers m (Given got part others) s = Unit {0}

  -- what the reader does next, and the card then
  abbrev pub GoodTurn : ReaderTurn → Card → Type 0
  GoodTurn (Asks r) card =
      (m : Bool) × (place : Place) × (s : List ReadBlock) × Fine place × Fits m place s × (count is_bad s ≤ 2) × (r ≡ reader_at m place s) × (card ≡ card_at m place)
  GoodTurn (Gives response r) card = (response ≡ reply.response) × (card.log ≡ after) × IsIdle r card
  GoodTurn (Spends r) card = (count is_bad r.since ≡ 3) × ((card.log ≡ before) ⊎ (card.log ≡ after))
  GoodTurn (Breaks r) card = ⊥

  pub log_at : (m : Bool) (place : Place) → ((card_at m place).log ≡ before) ⊎ ((card_at m place).log ≡ after)
  log_at m (Before last sent part left) = inl refl
  log_at m (Between sent part next left) = inl refl
  log_at m (Working part wtx) = inr refl
  log_at m (Replied part) = inr refl
  log_at m (Asking last got next others) = inr refl
  log_at m (Given got part others) = inr refl

  holds_fits : (m : Bool) (place : Place) (s : List ReadBlock) → Fits m place s → Holds place s
  holds_fits m (Before last sent part left) s f = f.0
  holds_fits m (Between sent part next left) s f = tt
  holds_fits m (Working part wtx) s f = ⊎_elim (λ h. omega (arith, h.1)) (λ h. h.1) f
  holds_fits m (Replied part) s f = tt
  holds_fits m (Asking last got next others) s f = tt
  holds_fits m (Given got part others) s f = tt

  holds_answers : (m : Bool) (place : Place) (s : List ReadBlock) → Answers m place s → Holds place s
  holds_answers m (Before last sent part left) s f = f.0
  holds_answers m (Between sent part next left) s f = tt
  holds_answers m (Working part wtx) s f = omega arith
  holds_answers m (Replied part) s f = tt
  holds_answers m (Asking last got next others) s f = tt
  holds_answers m (Given got part others) s f = tt

  bad_fits : (m : Bool) (place : Place) (s : List ReadBlock) → Holds place s → Fits m place (Bad ∷ s)
  bad_fits m (Before last sent part left) s h = (h, inr refl)
  bad_fits m (Between sent part next left) s h = refl
  bad_fits m (Working part wtx) s h = inl (refl, omega arith)
  bad_fits m (Replied part) s h = refl
  bad_fits m (Asking last got next others) s h = refl
  bad_fits m (Given got part others) s h = refl

  -- a bad hearing
  bad_turn : (m : Bool) (place : Place) (s : List ReadBlock) → Fine place → Holds place s → count is_bad s ≤ 2 → GoodTurn (reader_hears frames.reader (reader_at m place s) Bad) (card_at m place)
  bad_turn m place s fine holds le =
      ⊎_elim
      (λ h. rw h.0 (m, place, Bad ∷ s, fine, bad_fits m place s holds, omega (arith, h.1), refl, refl))
      (λ h. rw h.0 (omega (arith, h.1), log_at m place))
      (leb_tells (suc (suc (count is_bad s))) 3)

  -- a part of the response comes
  receives : IsImage image → (m : Bool) (phase : Phase) (s : List ReadBlock) (last : Option Block) (got part : List ℕ) (others : List (List ℕ)) → got ++ (part ++ concat others) ≡ reply.response → AllFit frames.reader (part ∷ others) → GoodTurn (takes frames.reader got (more others) part (record { number = other m; phase = phase; since = s })) (record { number = other m; last = last; taken = []; left = Parts others; log = after })
  receives is m phase s last got part [] joins fit =
      let whole : got ++ part ≡ reply.response = ap (λ l. got ++ l) (sym (append-nil part)) ∙ joins in
      let two : 2 ≤ length (got ++ part) = rw whole ((is.responses after).0) in
      let most : length (got ++ part) ≤ RESPONSE = rw whole ((is.responses after).1) in
      rw (fit_last frames.reader got part fit.0.1 two most) (whole, refl, record { differ = refl; closed = refl; fresh = refl; none_taken = refl; none_left = refl })
  receives is m phase s last got part (q ∷ qs) joins fit =
      let most : length (got ++ part) ≤ RESPONSE = omega (arith, (is.responses after).1, ap length joins, length-append got (part ++ (q ++ concat qs)), length-append part (q ++ concat qs), length-append got part) in
      rw (fit_chained frames.reader got part fit.0.1 fit.0.0 most) (other m, Asking last (got ++ part) q qs, [], (append_assoc got part (q ++ concat qs) ∙ joins, fit.1), refl, omega arith, refl, refl)

  -- the card's answer
  good_turn : AreFrames frames → IsImage image → (m : Bool) (place : Place) (s : List ReadBlock) → Fine place → Answers m place s → count is_bad s ≤ 2 → GoodTurn (reader_hears frames.reader (reader_at m place s) (Intact (answer_at m place))) (card_at m place)
  good_turn sized is m (Before last sent part left) s fine a le =
      rw (same_false m, a.1) (m, Before last sent part left, Intact (RAck m) ∷ s, fine, (a.0, inl refl), le, refl, refl)
  good_turn sized is m (Between sent part next left) s fine a le =
      rw (same_true (other m)) (other m, Before (Some (RAck (other m))) (sent ++ part) next left, [], fine, (refl, inl refl), omega arith, refl, refl)
  good_turn sized is m (Working part wtx) s fine a le =
      let few : nat_le (suc (count is_wtx s)) WAITS ≡ true = ⊎_elim (λ h. h.0) (λ h. absurd (omega (arith, h.1, is.waits after))) (leb_tells (suc (count is_wtx s)) WAITS) in
      rw few (m, Working part wtx, Intact (Wtx 0 reply.wtxm) ∷ s, tt, inr (refl, omega arith), le, refl, refl)
  good_turn sized is m (Replied part) s fine a le =
      rw (same_true (other m)) (receives is m _ s _ [] pieces.first pieces.others (cut_joins (frames.reader - 3) reply.response) (cut_fits frames.reader reply.response sized.reader (omega (arith, (is.responses after).0))))
  good_turn sized is m (Asking last got next others) s fine a le = absurd a
  good_turn sized is m (Given got part others) s fine a le =
      rw (same_true (other m)) (receives is m _ s _ got part others fine.0 fine.1)

  -- the card has heard the frame
  pub record Taken (m : Bool) (place : Place) (s : List ReadBlock) : Type 0 where
    pub next : Place
    pub fine : Fine next
    pub answers : Answers m next s
    pub phase : phase_at next ≡ phase_at place
    pub is : card_hears frames.reader image (card_at m place) (question (other m) (phase_at place) s) ≡ record { card = card_at m next; block = Some (answer_at m next) }

  -- the card executes the command
  executed : (m : Bool) (last : Option Block) (sent part : List ℕ) (s : List ReadBlock) → count is_wtx s ≡ 0 → (k : ℕ) → reply.wtx ≡ k → (next : Place) × Fine next × Answers m next s × (phase_at next ≡ Sending part []) × (sends_first (other m) k reply.wtxm pieces after ≡ record { card = card_at m next; block = Some (answer_at m next) })
  executed m last sent part s none zero e = (Replied part, tt, tt, refl, refl)
  executed m last sent part s none (suc k) e = (Working part k, tt, omega arith, refl, refl)

  -- by what the reader's question is
  asks : (m : Bool) (place : Place) (s : List ReadBlock) (block : Block) (a : Answer) → question (other m) (phase_at place) s ≡ block → card_hears frames.reader image (card_at m place) block ≡ a → card_hears frames.reader image (card_at m place) (question (other m) (phase_at place) s) ≡ a
  asks m place s block a e h = ap (λ (b : Block). card_hears frames.reader image (card_at m place) b) e ∙ h

  pub taken : IsImage image → image.is_command command ≡ true → (m : Bool) (place : Place) (s : List ReadBlock) → Fine place → Fits m place s → Taken m place s
  taken is legal m (Before last sent part []) s fine fits =
      let whole : sent ++ part ≡ command = ap (λ l. sent ++ l) (sym (append-nil part)) ∙ fine in
      let most : length (sent ++ part) ≤ COMMAND = rw whole (is.commands command legal) in
      let room : nat_le (length (sent ++ part)) COMMAND ≡ true = ⊎_elim (λ h. h.0) (λ h. absurd (omega (arith, h.1, most))) (leb_tells (length (sent ++ part)) COMMAND) in
      let x = executed m last sent part s fits.0 reply.wtx refl in
      let run_it : executes frames.reader image (other m) (sent ++ part) before ≡ record { card = card_at m x.0; block = Some (answer_at m x.0) } = rw (whole, legal) x.4 in
      ⊎_elim
      (λ e. record { next = x.0; fine = x.1; answers = x.2; phase = x.3; is = asks m (Before last sent part []) s _ _ e (rw (room) run_it) })
      (λ e. record { next = Before (Some (RAck m)) sent part []; fine = fine; answers = (fits.0, e); phase = refl; is = asks m (Before last sent part []) s _ _ e (rw (other_false m) refl) })
      fits.1
  taken is legal m (Before last sent part (q ∷ qs)) s fine fits =
      let most : length (sent ++ part) ≤ COMMAND = omega (arith, is.commands command legal, ap length fine, length-append sent (part ++ (q ++ concat qs)), length-append part (q ++ concat qs), length-append sent part) in
      let room : nat_le (length (sent ++ part)) COMMAND ≡ true = ⊎_elim (λ h. h.0) (λ h. absurd (omega (arith, h.1, most))) (leb_tells (length (sent ++ part)) COMMAND) in
      ⊎_elim
      (λ e. record { next = Between sent part q qs; fine = append_assoc sent part (q ++ concat qs) ∙ fine; answers = tt; phase = refl; is = asks m (Before last sent part (q ∷ qs)) s _ _ e (rw (room) refl) })
      (λ e. record { next = Before (Some (RAck m)) sent part (q ∷ qs); fine = fine; answers = (fits.0, e); phase = refl; is = asks m (Before last sent part (q ∷ qs)) s _ _ e (rw (other_false m) refl) })
      fits.1
  taken is legal m (Between sent part next left) s fine fits =
      record { next = Between sent part next left; fine = fine; answers = tt; phase = refl; is = asks m (Between sent part next left) s _ _ fits (rw (same_true (other m)) refl) }
  taken is legal m (Working part zero) s fine fits =
      ⊎_elim
      (λ e. record { next = Working part zero; fine = tt; answers = e.1; phase = refl; is = asks m (Working part zero) s _ _ e.0 (rw (same_true (other m)) refl) })
      (λ e. record { next = Replied part; fine = tt; answers = tt; phase = refl; is = asks m (Working part zero) s _ _ e.0 refl })
      fits
  taken is legal m (Working part (suc k)) s fine fits =
      ⊎_elim
      (λ e. record { next = Working part (suc k); fine = tt; answers = e.1; phase = refl; is = asks m (Working part (suc k)) s _ _ e.0 (rw (same_true (other m)) refl) })
      (λ e. record { next = Working part k; fine = tt; answers = omega (arith, e.1); phase = refl; is = asks m (Working part (suc k)) s _ _ e.0 refl })
      fits
  taken is legal m (Replied part) s fine fits =
      record { next = Replied part; fine = tt; answers = tt; phase = refl; is = asks m (Replied part) s _ _ fits (rw (same_true (other m)) refl) }
  taken is legal m (Asking last got next others) s fine fits =
      record { next = Given got next others; fine = fine; answers = tt; phase = refl; is = asks m (Asking last got next others) s _ _ fits (rw (other_false m) refl) }
  taken is legal m (Given got part others) s fine fits =
      record { next = Given got part others; fine = fine; answers = tt; phase = refl; is = asks m (Given got part others) s _ _ fits (rw (same_true (other m)) refl) }

  -- the answer of the card, where it has heard the frame
  came : (m : Bool) (place : Place) (s : List ReadBlock) (up : Bool) → (t : Taken m place s) → GoodTurn (hears_answer up frames (reader_at m t.next s) (record { card = card_at m t.next; block = Some (answer_at m t.next) })) (card_at m t.next) → GoodTurn (hears_answer up frames (reader_at m place s) (goes_down true frames image (card_at m place) (asked (reader_at m place s)))) (goes_down true frames image (card_at m place) (asked (reader_at m place s))).card
  came m place s up t g =
      let r : Reader = reader_at m place s in
      let here : GoodTurn (hears_answer up frames r (record { card = card_at m t.next; block = Some (answer_at m t.next) })) (card_at m t.next) = subst (λ (p : Phase). GoodTurn (hears_answer up frames (record { number = other m; phase = p; since = s }) (record { card = card_at m t.next; block = Some (answer_at m t.next) })) (card_at m t.next)) t.phase g in
      subst (λ (a : Answer). GoodTurn (hears_answer up frames r a) a.card) (sym t.is) here

  -- one exchange
  pub exchange : AreFrames frames → IsImage image → image.is_command command ≡ true → (m : Bool) (place : Place) (s : List ReadBlock) → Fine place → Fits m place s → count is_bad s ≤ 2 → (down up : Bool) → GoodTurn (hears_answer up frames (reader_at m place s) (goes_down down frames image (card_at m place) (asked (reader_at m place s)))) (goes_down down frames image (card_at m place) (asked (reader_at m place s))).card
  exchange sized is legal m place s fine fits le false true = bad_turn m place s fine (holds_fits m place s fits) le
  exchange sized is legal m place s fine fits le false false = bad_turn m place s fine (holds_fits m place s fits) le
  exchange sized is legal m place s fine fits le true true =
      let t = taken is legal m place s fine fits in
      came m place s true t (good_turn sized is m t.next s t.fine t.answers le)
  exchange sized is legal m place s fine fits le true false =
      let t = taken is legal m place s fine fits in
      came m place s false t (bad_turn m t.next s t.fine (holds_answers m t.next s t.answers) le)

  -- the exchanges that are left
  Rest : List BlockFate → Type 0
  Rest fates = (m : Bool) (place : Place) (s : List ReadBlock) → Fine place → Fits m place s → count is_bad s ≤ 2 → ExactlyOnce image before command (run_command frames image fates (reader_at m place s) (card_at m place))

  then_rest : (fates : List BlockFate) → Rest fates → (t : ReaderTurn) (card : Card) → GoodTurn t card → ExactlyOnce image before command (goes_on_by (run_command frames image fates) fates t card)
  unfolding Rest
  then_rest fates rest (Asks r) card g = rw (g.6, g.7) (rest g.0 g.1 g.2 g.3 g.4 g.5)
  then_rest fates rest (Gives response r) card g = g
  then_rest fates rest (Spends r) card g = g
  then_rest fates rest (Breaks r) card g = g

  all_exchanges : AreFrames frames → IsImage image → image.is_command command ≡ true → (fates : List BlockFate) → Rest fates
  unfolding Rest
  all_exchanges sized is legal [] m place s fine fits le = log_at m place
  all_exchanges sized is legal (f ∷ fates) m place s fine fits le =
      then_rest fates (all_exchanges sized is legal fates) _ _ (exchange sized is legal m place s fine fits le f.down f.up)

  -- a loss at most, where a bad hearing is counted
  abbrev pub Keeps : ℕ → ReaderTurn → Type 0
  Keeps n (Asks r) = count is_bad r.since ≤ n
  Keeps n (Gives response r) = Unit {0}
  Keeps n (Spends r) = 3 ≤ n
  Keeps n (Breaks r) = Unit {0}

  keeps_bad : (r : Reader) → Keeps (suc (count is_bad r.since)) (reader_hears frames.reader r Bad)
  keeps_bad r =
      ⊎_elim
      (λ h. rw h.0 (omega arith))
      (λ h. rw h.0 (omega (arith, h.1)))
      (leb_tells (suc (suc (count is_bad r.since))) 3)

  keeps_takes : (got inf : List ℕ) (ch : Bool) (r : Reader) → Keeps (count is_bad r.since) (takes frames.reader got ch inf r)
  keeps_takes got inf true r = elim (is_fit frames.reader got true inf) as (λ (b : Bool). Keeps (count is_bad r.since) (if b then appended got true inf r else Breaks r)) [ true ↦ omega arith | false ↦ tt ]
  keeps_takes got inf false r = elim (is_fit frames.reader got false inf) as (λ (b : Bool). Keeps (count is_bad r.since) (if b then appended got false inf r else Breaks r)) [ true ↦ tt | false ↦ tt ]

  keeps_i : (phase : Phase) (ch : Bool) (inf : List ℕ) (r : Reader) → Keeps (count is_bad r.since) (on_i frames.reader phase ch inf r)
  keeps_i Idle ch inf r = tt
  keeps_i (Sending part []) ch inf r = keeps_takes [] inf ch r
  keeps_i (Sending part (next ∷ left)) ch inf r = tt
  keeps_i (Receiving got) ch inf r = keeps_takes got inf ch r

  keeps_ack : (phase : Phase) (r : Reader) → Keeps (count is_bad r.since) (Rules.on_ack phase r)
  keeps_ack Idle r = tt
  keeps_ack (Sending part []) r = tt
  keeps_ack (Sending part (next ∷ left)) r = omega arith
  keeps_ack (Receiving got) r = tt

  keeps_intact : (r : Reader) (block : Block) → Keeps (count is_bad r.since) (reader_hears frames.reader r (Intact block))
  keeps_intact r (I k ch inf) = elim (same k r.number) as (λ (b : Bool). Keeps (count is_bad r.since) (if b then on_i frames.reader r.phase ch inf r else Breaks r)) [ true ↦ keeps_i r.phase ch inf r | false ↦ tt ]
  keeps_intact r (RAck k) =
      let again : Keeps (count is_bad r.since) (if is_nak (asked r) then Asks (kept (Intact (RAck k)) r) else Breaks r) = elim (is_nak (asked r)) as (λ (b : Bool). Keeps (count is_bad r.since) (if b then Asks (kept (Intact (RAck k)) r) else Breaks r)) [ true ↦ omega arith | false ↦ tt ] in
      elim (same k r.number) as (λ (b : Bool). Keeps (count is_bad r.since) (if b then Rules.on_ack r.phase r else if is_nak (asked r) then Asks (kept (Intact (RAck k)) r) else Breaks r)) [ true ↦ keeps_ack r.phase r | false ↦ again ]
  keeps_intact r (RNak k) = tt
  keeps_intact r Deselect = tt
  keeps_intact r (Wtx p m) = elim (nat_le (suc (count is_wtx r.since)) WAITS) as (λ (b : Bool). Keeps (count is_bad r.since) (if b then Asks (kept (Intact (Wtx p m)) r) else Breaks r)) [ true ↦ omega arith | false ↦ tt ]

  -- the bad hearings after an exchange
  pub keeps : IsImage image → image.is_command command ≡ true → (m : Bool) (place : Place) (s : List ReadBlock) → Fine place → Fits m place s → (f : BlockFate) (n : ℕ) → count is_bad s + losses (f ∷ []) ≤ n → Keeps n (hears_answer f.up frames (reader_at m place s) (goes_down f.down frames image (card_at m place) (asked (reader_at m place s))))
  keeps is legal m place s fine fits f n le = go f.down f.up refl refl
    where
      r : Reader
      r = reader_at m place s

      more_room : (k : ℕ) (t : ReaderTurn) → k ≤ n → Keeps k t → Keeps n t
      more_room k (Asks r) a b = omega arith
      more_room k (Gives response r) a b = tt
      more_room k (Spends r) a b = omega arith
      more_room k (Breaks r) a b = tt

      go : (down up : Bool) → f.down ≡ down → f.up ≡ up → Keeps n (hears_answer up frames r (goes_down down frames image (card_at m place) (asked r)))
      go true true e e' =
          let none : is_loss f ≡ false = rw (e, e') refl in
          let k : count is_bad s ≤ n = omega (arith, simp none at le) in
          let t = taken is legal m place s fine fits in
          subst (λ (a : Answer). Keeps n (hears_answer true frames r a)) (sym t.is) (more_room (count is_bad s) _ k (keeps_intact r (answer_at m t.next)))
      go true false e e' =
          let one : is_loss f ≡ true = rw (e, e') refl in
          more_room (suc (count is_bad s)) _ (omega (arith, simp one at le)) (keeps_bad r)
      go false true e e' =
          let one : is_loss f ≡ true = rw e refl in
          more_room (suc (count is_bad s)) _ (omega (arith, simp one at le)) (keeps_bad r)
      go false false e e' =
          let one : is_loss f ≡ true = rw e refl in
          more_room (suc (count is_bad s)) _ (omega (arith, simp one at le)) (keeps_bad r)

  -- the exchanges that are left, with few losses
  Few : List BlockFate → Type 0
  Few fates = (m : Bool) (place : Place) (s : List ReadBlock) → Fine place → Fits m place s → count is_bad s ≤ 2 → count is_bad s + losses fates ≤ 2 → IsSafe (run_command frames image fates (reader_at m place s) (card_at m place))

  then_few : (fates : List BlockFate) → Few fates → (n : ℕ) → n + losses fates ≤ 2 → (t : ReaderTurn) (card : Card) → GoodTurn t card → Keeps n t → IsSafe (goes_on_by (run_command frames image fates) fates t card)
  unfolding Few
  then_few fates few n le (Asks r) card g k =
      let same_count : count is_bad r.since ≡ count is_bad g.2 = ap (λ (x : Reader). count is_bad x.since) g.6 in
      rw (g.6, g.7) (few g.0 g.1 g.2 g.3 g.4 g.5 (omega (arith, k, same_count, le)))
  then_few fates few n le (Gives response r) card g k = tt
  then_few fates few n le (Spends r) card g k = absurd (omega (arith, k, le))
  then_few fates few n le (Breaks r) card g k = g

  losses_of : (f : BlockFate) (fates : List BlockFate) → losses (f ∷ fates) ≡ losses (f ∷ []) + losses fates
  losses_of f fates = elim (is_loss f) as (λ (b : Bool). cond b (suc (losses fates)) (losses fates) ≡ cond b 1 0 + losses fates) [ true ↦ omega arith | false ↦ omega arith ]

  few_exchanges : AreFrames frames → IsImage image → image.is_command command ≡ true → (fates : List BlockFate) → Few fates
  unfolding Few
  few_exchanges sized is legal [] m place s fine fits le all = tt
  few_exchanges sized is legal (f ∷ fates) m place s fine fits le all =
      then_few fates (few_exchanges sized is legal fates) (count is_bad s + losses (f ∷ [])) (omega (arith, all, losses_of f fates)) _ _
      (exchange sized is legal m place s fine fits le f.down f.up) (keeps is legal m place s fine fits f _ (omega arith))

idle_card : (card : Card) → card.taken ≡ [] → card.left ≡ Parts [] → card ≡ record { number = card.number; last = card.last; taken = []; left = Parts []; log = card.log }
idle_card card p q = λ i. record { number = card.number; last = card.last; taken = p i; left = q i; log = card.log }

pub one_command_lem : OneCommand
unfolding Rest
one_command_lem frames image fates r card command sized is idle legal =
    let number : r.number ≡ other card.number = idle.differ in
    let fresh : r.since ≡ [] = idle.fresh in
    let first = (cut (frames.card - 3) command).first in
    let left = (cut (frames.card - 3) command).others in
    let still = idle_card card idle.none_taken idle.none_left in
    rw (number, fresh) (subst (λ (c : Card). ExactlyOnce image card.log command (run_command frames image fates (reader_at frames image card.log command card.number (Before card.last [] first left) []) c)) (sym still) (all_exchanges frames image card.log command sized is legal fates card.number (Before card.last [] first left) [] (cut_joins (frames.card - 3) command) (refl, inl refl) (omega arith)))

-- two losses at most
pub few_lem : (frames : Frames) (image : CommandRules) (fates : List BlockFate) (r : Reader) (card : Card) (command : List ℕ) → AreFrames frames → IsImage image → IsIdle r card → image.is_command command ≡ true → losses fates ≤ 2 → IsSafe (run_command frames image fates (begin frames.card command r) card)
unfolding Few
few_lem frames image fates r card command sized is idle legal le =
    let number : r.number ≡ other card.number = idle.differ in
    let fresh : r.since ≡ [] = idle.fresh in
    let first = (cut (frames.card - 3) command).first in
    let left = (cut (frames.card - 3) command).others in
    let still = idle_card card idle.none_taken idle.none_left in
    rw (number, fresh) (subst (λ (c : Card). IsSafe (run_command frames image fates (reader_at frames image card.log command card.number (Before card.last [] first left) []) c)) (sym still) (few_exchanges frames image card.log command sized is legal fates card.number (Before card.last [] first left) [] (cut_joins (frames.card - 3) command) (refl, inl refl) (omega arith) (omega arith)))
