-- A transaction over a field comes to an end, and keeps to the perfect run: by recursion on what is left of its talk.
use Rattle.std.proofs.Common.{◌≡◌, ◌⊎◌, inl, inr, ℕ, ◌+◌, ◌-◌, ◌<◌, ◌≤◌, Bool, true, false, List, [], ◌∷◌, ◌++◌, length, refl, sym, ap, subst, ◌∙◌, append_assoc, append-nil, arith, Option, Some, None}
use Rattle.ep_base.specs.declared.limits.TheConstants.{ROUND_EXCHANGES}
use Rattle.ep_base.specs.Air.Heard.{Activated, Heard, RoundEnd, Goes}
use Rattle.ep_base.specs.Poll.Round.{Waking}
use Rattle.ep_base.specs.Link.Block.{Deselect}
use Rattle.ep_base.specs.Cards.Apdu.{is_command}
use Rattle.ep_rules.specs.EntryPoint.Event.{OwnEvent, Ending}
use Rattle.ep_rules.specs.EntryPoint.Talk.{Talk, Over, Say, Poll, Command, Close, Result, Round, Response, Closed, so_far, is_found, IsLegal, ends_of}
use Rattle.ep_base.specs.Cards.CardAnswer.{Image, card_answer}
use Rattle.ep_base.specs.Air.Medium.{told}
use Rattle.ep_base.specs.Poll.Polling.{PlaysRound}
use Rattle.ep_base.specs.Link.ReaderEnd.{Reader, ReaderTurn, Asks, Gives, Spends, Breaks, begin}
use Rattle.ep_base.specs.Link.Carry.{Follows}
use Rattle.ep_base.specs.Cards.Field.{Field, field}
use Rattle.ep_base.specs.Poll.Radio.{OpenLink, Radio, Comes}
use Rattle.ep_rules.specs.EntryPoint.TransportRun.{HearEnd, Whole, AtLink}
use Rattle.ep_rules.specs.EntryPoint.Perfect.{Channel, Perfect, channel, presents, perfect, at_command, gave, with_command}
use Rattle.ep_rules.specs.EntryPoint.Bounds.{AtMost}
use Rattle.law_wire.proofs.Limits.{images_keep}
use Rattle.ep_base.specs.Cards.LinkedField.{party_at}
use Rattle.law_round.proofs.Playing.{always_plays_law}
use Rattle.law_round.proofs.Linking.{keeps_cards_law}
use Rattle.law_round.proofs.Lossless.{Passing}
use Rattle.ep_claim.specs.Promise.Perfection.{IsNew, IsCarried, Keeps}
use Rattle.ep_claim.specs.Promise.Closings.{ClosesFound}
use Rattle.law_radio.proofs.Cards.{have_all}
use Rattle.law_radio.proofs.Kept.{Fails, keeps, whole_by, Kept, say_kept, poll_kept, close_kept, answer_kept}
use Rattle.law_link.specs.Bounds.{IsEnded}
use Rattle.ep_claim.specs.Lanes.Standing.{Standing, Stopped, doing_by, standing, link_by, after_turn}
use Rattle.law_lane.specs.Hearing.{HearsRounds}
use Rattle.ep_claim.specs.Lanes.Exchanges.{Lane, lane_after, opened_lane}
use Rattle.law_lane.specs.LaneLaw.{LaneEnds, LanesEnd}
use Rattle.ep_claim.specs.Lanes.Limits.{round_most, command_most, TakesAtMost}
use Rattle.law_lane.proofs.Commanding.{heard_of, field_then, sends, ends_so}
use Rattle.law_lane.proofs.Moving.{Leads, LeadsIn, leads_nowhere, leads_on, plays_lead, follows_lead, closing_leads}
use Rattle.law_lane.proofs.Known.{one, Knows, HasCard, ByLink, after_round, after_closing, after_answer, once, unspent, answered_channel, closed_channel}

both_within : (k m most n : ℕ) → k ≤ most → most ≤ n → m ≤ n - most → k + m ≤ n
both_within k m most n a b c = omega (arith, a, b, c)

at_most : (k most n : ℕ) → k ≤ most → most ≤ n → k ≤ n
at_most k most n a b = omega (arith, a, b)

not_both : (b : Bool) → b ≡ true → b ≡ false → ⊥
not_both true e d = cc
not_both false e d = cc

-- Q stands for what makes every frame pass
module _ (number_of : Activated → ℕ) (Q : Type 0) (fsdi : ℕ) (start : Talk) where
  -- the talk wishes after these results, and any more, what the rest of it does after those
  abbrev Wishes : List Result → Talk → Type 0
  Wishes results rest = (more : List Result) → (so_far start (results ++ more)).wish ≡ (so_far rest more).wish

  abbrev stopped_at : List Result → HearEnd → Standing
  stopped_at results ending = record { results = results; doing = Stopped ending }

  abbrev Goal : Talk → List Result → HearEnd → Channel Image → Field → Field → List RoundEnd → Type 0
  Goal rest heard ending ch f g later =
      (log : List (ℕ × List ℕ)) × (g.log ≡ f.log ++ log) × Kept (Fails Q) rest heard log (perfect (one number_of) rest (ends_of heard ++ later) ch) ending

  -- the rest of the talk comes to an end
  record Course (rest : Talk) (results : List Result) (link : Option OpenLink) (f : Field) (ch : Channel Image) : Type 0 where
    heard : List Result
    ending : HearEnd
    after : Field
    count : ℕ
    leads : Leads fsdi start count (standing start results link) f (stopped_at (results ++ heard) ending) after
    within : (n : ℕ) → TakesAtMost n rest → count ≤ n
    hears : HearsRounds (told field) fsdi rest link f heard ending after
    keeps : (later : List RoundEnd) → Goal rest heard ending ch f after later

  abbrev Ends : Talk → Type 0
  Ends rest = (found : Bool) (m : ℕ) (results : List Result) (link : Option OpenLink) (f : Field) (ch : Channel Image)
      → Wishes results rest → Knows number_of Q m f ch.images → ByLink number_of Q m found f ch link → IsLegal is_command found rest → ClosesFound found rest → AtMost m rest
      → Course rest results link f ch

  -- ---- what is wished now, and after one more result

  wish_now : (results : List Result) (rest : Talk) → Wishes results rest → (so_far start results).wish ≡ (so_far rest []).wish
  wish_now results rest w = ap (λ r. (so_far start r).wish) (sym (append-nil results)) ∙ w []

  wish_next : (results : List Result) (x : Result) (rest next : Talk) → Wishes results rest → ((more : List Result) → (so_far rest (x ∷ more)).wish ≡ (so_far next more).wish) → Wishes (results ++ x ∷ []) next
  wish_next results x rest next w e = λ more. ap (λ r. (so_far start r).wish) (append_assoc results (x ∷ []) more) ∙ (w (x ∷ more) ∙ e more)

  by_wish : (n : ℕ) (results : List Result) (rest : Talk) (link : Option OpenLink) (f g : Field) (t : Standing) → Wishes results rest
      → Leads fsdi start n (record { results = results; doing = doing_by (so_far rest []).wish link }) f t g → Leads fsdi start n (standing start results link) f t g
  by_wish n results rest link f g t w x =
      subst (λ y. Leads fsdi start n (record { results = results; doing = doing_by y link }) f t g) (sym (wish_now results rest w)) x

  -- what leads to the end after one more result leads to it
  leads_by : (m n : ℕ) (results rest : List Result) (x : Result) (s t : Standing) (f g h : Field) (ending : HearEnd) → Leads fsdi start m s f t g
      → Leads fsdi start n t g (stopped_at ((results ++ x ∷ []) ++ rest) ending) h → Leads fsdi start (m + n) s f (stopped_at (results ++ x ∷ rest) ending) h
  leads_by m n results rest x s t f g h ending a b =
      subst (λ r. Leads fsdi start (m + n) s f (stopped_at r ending) h) (append_assoc results (x ∷ []) rest)
      (leads_on fsdi start m n s t (stopped_at ((results ++ x ∷ []) ++ rest) ending) f g h a b)

  -- ---- the end, and what is said

  over_ends : (e : Ending) → Ends (Over e)
  over_ends e found m results link f ch w k b legal closes most = record {
    heard = [];
    ending = Whole;
    after = f;
    count = 0;
    within = λ n most. omega arith;
    leads = by_wish 0 results (Over e) link f f (stopped_at (results ++ []) Whole) w
        (subst (λ r. Leads fsdi start 0 (stopped_at results Whole) f (stopped_at r Whole) f) (sym (append-nil results)) (leads_nowhere fsdi start (stopped_at results Whole) f));
    hears = (refl, refl, refl);
    keeps = λ later. ([], sym (append-nil f.log), record { results = refl; executed = refl; over = refl });
  }

  say_ends : (x : OwnEvent) (next : Talk) → Ends next → Ends (Say x next)
  say_ends x next again found m results link f ch w k b legal closes most =
      let r = again found m results link f ch w k b legal closes most in
      record {
        heard = r.heard;
        ending = r.ending;
        after = r.after;
        count = r.count;
        leads = r.leads;
        within = λ n most. r.within n most;
        hears = r.hears;
        keeps = λ later.
            let y = r.keeps later in
            (y.0, y.1, say_kept (Fails Q) x next r.heard y.0 (perfect (one number_of) next (ends_of r.heard ++ later) ch) r.ending y.2);
      }

  -- ---- a poll round

  -- some round is played
  some_round : (m : ℕ) (f : Field) (ch : Channel Image) → Knows number_of Q m f ch.images → (e : RoundEnd) × (g : Field) × PlaysRound (told field) fsdi f (Some e) g
  some_round m f ch k =
      let x = always_plays_law fsdi f in
      let is = (keeps_cards_law fsdi f x.1 x.0 k.lawful x.2).0 in
      (is.0, x.1, subst (λ o. PlaysRound (told field) fsdi f o x.1) is.1 x.2)

  poll_ends : (next : RoundEnd → Talk) → ((e : RoundEnd) → Ends (next e)) → Ends (Poll next)
  poll_ends next again found m results link f ch w k b legal closes most =
      let x = some_round m f ch k in
      let e = x.0 in
      let g = x.1 in
      let after = after_round number_of Q m fsdi f g ch e k x.2 in
      let c = presents (one number_of) ch e in
      let now = results ++ Round e ∷ [] in
      let r = again e (is_found e) m now (link_by fsdi e) g c (wish_next results (Round e) (Poll next) (next e) w (λ more. refl)) after.knows after.link (legal e) (closes e) (most e) in
      let there = standing start now (link_by fsdi e) in
      let moves = plays_lead fsdi start results ROUND_EXCHANGES (Goes Waking) f g e x.2 in
      record {
        heard = Round e ∷ r.heard;
        ending = r.ending;
        after = r.after;
        count = moves.0 + r.count;
        leads = leads_by moves.0 r.count results r.heard (Round e) (standing start results link) there f g r.after r.ending
            (by_wish moves.0 results (Poll next) link f g there w moves.2) r.leads;
        within = λ n fits. both_within moves.0 r.count round_most n moves.1 fits.0 (r.within (n - round_most) (fits.1 e));
        hears = (e, g, x.2, r.heard, refl, r.hears);
        keeps = λ later.
            let y = r.keeps later in (
              y.0,
              y.1 ∙ ap (λ (l : List (ℕ × List ℕ)). l ++ y.0) after.log,
              poll_kept (Fails Q) e next r.heard y.0 (perfect (one number_of) (next e) (ends_of r.heard ++ later) c) r.ending y.2,
            );
      }

  -- ---- the closing of a link

  close_over : (next : Talk) → Ends next → (found : Bool) (m : ℕ) (results : List Result) (link : Option OpenLink) (f : Field) (ch : Channel Image)
      → Wishes results (Close next) → Knows number_of Q m f ch.images → found ≡ true → ByLink number_of Q m found f ch link → IsLegal is_command false next → ClosesFound false next → AtMost m next
      → Course (Close next) results link f ch
  close_over next again found m results None f ch w k is b legal closes most = absurd (not_both found is b)
  close_over next again found m results (Some l) f ch w k is b legal closes most =
      let h = heard_of l.set Deselect f in
      let g = field_then l.set Deselect f in
      let sent = sends l.set Deselect f in
      let after = after_closing number_of Q m f g ch l h k b sent in
      let c = closed_channel ch in
      let now = results ++ Closed ∷ [] in
      let r = again false m now None g c (wish_next results Closed (Close next) next w (λ more. refl)) after.knows refl legal closes most in
      let there = standing start now None in
      record {
        heard = Closed ∷ r.heard;
        ending = r.ending;
        after = r.after;
        count = 1 + r.count;
        leads = leads_by 1 r.count results r.heard Closed (standing start results (Some l)) there f g r.after r.ending
            (by_wish 1 results (Close next) (Some l) f g there w (closing_leads fsdi start results l f g h sent)) r.leads;
        within = λ n fits. both_within 1 r.count 1 n (omega arith) fits.0 (r.within (n - 1) fits.1);
        hears = (h, g, sent, r.heard, refl, r.hears);
        keeps = λ later.
            let y = r.keeps later in (
              y.0,
              y.1 ∙ ap (λ (x : List (ℕ × List ℕ)). x ++ y.0) after.log,
              close_kept (Fails Q) next r.heard y.0 (perfect (one number_of) next (ends_of r.heard ++ later) c) r.ending y.2,
            );
      }

  -- ---- a command

  abbrev run_of : List ℕ → (List ℕ → Talk) → List RoundEnd → Channel Image → ℕ → Image → Perfect
  run_of c next es ch k i =
      with_command k c (gave (Response (card_answer i c).0.response) (perfect (one number_of) (next (card_answer i c).0.response) es (answered_channel ch k i c)))

  run_is : (c : List ℕ) (next : List ℕ → Talk) (es : List RoundEnd) (ch : Channel Image) (i : Image) → ch.presented ≡ Some i.number → ch.images i.number ≡ i
      → perfect (one number_of) (Command c next) es ch ≡ run_of c next es ch i.number i
  run_is c next es ch i presented image =
      ap (λ o. at_command (one number_of) ch c (λ r q. perfect (one number_of) (next r) es q) o) presented ∙ ap (λ j. run_of c next es ch i.number j) image

  -- a command that may be sent, with a command more to come
  record Sends (m : ℕ) (found : Bool) (c : List ℕ) (next : List ℕ → Talk) : Type 0 where
    form : is_command c ≡ true
    some : 0 < m
    legal : (r : List ℕ) → IsLegal is_command found (next r)
    closes : (r : List ℕ) → ClosesFound found (next r)
    most : (r : List ℕ) → AtMost (m - 1) (next r)

  module _ (c : List ℕ) (next : List ℕ → Talk) (found : Bool) (m : ℕ) (results : List Result) (l : OpenLink) (f : Field) (ch : Channel Image)
      (w : Wishes results (Command c next)) (k : Knows number_of Q m f ch.images) (b : HasCard number_of Q m f ch l) (x : Sends m found c next) where
    abbrev card_image : Image
    card_image = (party_at b.place f.cards).image

    abbrev begun : Reader
    begun = begin l.set.frames.card c l.reader

    sent : (hs : List Heard) (turn : ReaderTurn) (g : Field) → length hs ≤ command_most → Follows (told field) l.set hs begun f turn g
        → LeadsIn fsdi start command_most (standing start results (Some l)) f (after_turn start results l.set turn) g
    sent hs turn g few follows =
        let moves = follows_lead fsdi start results l.set hs begun f g turn follows in
        let most : moves.0 ≤ length hs = moves.1 in
        (moves.0, omega (arith, most, few), by_wish moves.0 results (Command c next) (Some l) f g (after_turn start results l.set turn) w moves.2)

    answered : (a : List ℕ) (q : Reader) (hs : List Heard) (g : Field) → length hs ≤ command_most → ((r : List ℕ) → Ends (next r)) → Follows (told field) l.set hs begun f (Gives a q) g
        → Course (Command c next) results (Some l) f ch
    answered a q hs g few again follows =
        let after = after_answer number_of Q c x.form m x.some f g ch l k b a q hs follows in
        let d = answered_channel ch card_image.number card_image c in
        let on : OpenLink = record { set = l.set; reader = q } in
        let now = results ++ Response a ∷ [] in
        let r = again a found (m - 1) now (Some on) g d (wish_next results (Response a) (Command c next) (next a) w (λ more. refl)) after.knows after.card (x.legal a) (x.closes a) (x.most a) in
        let there = standing start now (Some on) in
        let moves = sent hs (Gives a q) g few follows in
        record {
          heard = Response a ∷ r.heard;
          ending = r.ending;
          after = r.after;
          count = moves.0 + r.count;
          leads = leads_by moves.0 r.count results r.heard (Response a) (standing start results (Some l)) there f g r.after r.ending moves.2 r.leads;
          within = λ n fits. both_within moves.0 r.count command_most n moves.1 fits.0 (r.within (n - command_most) (fits.1 a));
          hears = (Gives a q, g, record { hearings = hs; follows = follows }, (r.heard, refl, r.hears));
          keeps = λ later.
              let y = r.keeps later in
              let es = ends_of r.heard ++ later in
              let log : List (ℕ × List ℕ) = (card_image.number, c) ∷ y.0 in
              let kept : Kept (Fails Q) (Command c next) (Response a ∷ r.heard) log (with_command card_image.number c (gave (Response a) (perfect (one number_of) (next a) es d))) r.ending =
              answer_kept (Fails Q) card_image.number c a next r.heard y.0 (perfect (one number_of) (next a) es d) r.ending y.2 in
              let kept_so : Kept (Fails Q) (Command c next) (Response a ∷ r.heard) log (run_of c next es ch card_image.number card_image) r.ending =
              subst (λ z. Kept (Fails Q) (Command c next) (Response a ∷ r.heard) log (with_command card_image.number c (gave (Response z) (perfect (one number_of) (next z) es d))) r.ending) after.said kept in (
                log,
                y.1 ∙ (ap (λ (z : List (ℕ × List ℕ)). z ++ y.0) after.log ∙ append_assoc f.log ((card_image.number, c) ∷ []) y.0),
                subst (λ p. Kept (Fails Q) (Command c next) (Response a ∷ r.heard) log p r.ending) (sym (run_is c next es ch card_image b.presented b.image)) kept_so,
              );
        }

    spent_goal : (g : Field) (log : List (ℕ × List ℕ)) (later : List RoundEnd) → (log ≡ []) ⊎ (log ≡ (card_image.number, c) ∷ []) → Fails Q c → g.log ≡ f.log ++ log
        → Goal (Command c next) [] AtLink ch f g later
    spent_goal g log later executed third is =
        let d = answered_channel ch card_image.number card_image c in
        let response : List ℕ = (card_answer card_image c).0.response in
        let run : Perfect = perfect (one number_of) (next response) later d in
        let kept : Kept (Fails Q) (Command c next) [] log (run_of c next later ch card_image.number card_image) AtLink = (
          record {
            number = card_image.number;
            command = c;
            wished = refl;
            response = response;
            before = [];
            after = (so_far (next response) run.results).events;
            perfect_said = refl;
            said = refl;
            earlier = [];
            later = run.commands;
            perfect_executed = refl;
            all_earlier = refl;
            executed = executed;
          },
          third,
        ) in
        (log, is, subst (λ p. Kept (Fails Q) (Command c next) [] log p AtLink) (sym (run_is c next later ch card_image b.presented b.image)) kept)

    spent : (q : Reader) (hs : List Heard) (g : Field) → length hs ≤ command_most → Follows (told field) l.set hs begun f (Spends q) g → Course (Command c next) results (Some l) f ch
    spent q hs g few follows =
        let o = (once number_of Q c x.form m x.some f g ch l k b (Spends q) hs follows).0 in
        let comes : Comes (told field) l c f (Spends q) g = record { hearings = hs; follows = follows } in
        let third : Fails Q c = record {
          never = λ holds. unspent number_of Q c x.form m x.some f g ch l k b q hs holds follows;
        } in
        let moves = sent hs (Spends q) g few follows in
        record {
          heard = [];
          ending = AtLink;
          after = g;
          count = moves.0;
          leads = subst (λ r. Leads fsdi start moves.0 (standing start results (Some l)) f (stopped_at r AtLink) g) (sym (append-nil results)) moves.2;
          within = λ n fits. at_most moves.0 command_most n moves.1 fits.0;
          hears = (Spends q, g, comes, (refl, refl, refl));
          keeps = λ later. elim o.1 [
            | inl e ↦ spent_goal g [] later (inl refl) third (e ∙ sym (append-nil f.log))
            | inr e ↦ spent_goal g ((card_image.number, c) ∷ []) later (inr refl) third e
          ];
        }

    by_turn : ((r : List ℕ) → Ends (next r)) → (turn : ReaderTurn) (hs : List Heard) (g : Field) → length hs ≤ command_most → Follows (told field) l.set hs begun f turn g → IsEnded turn
        → Course (Command c next) results (Some l) f ch
    by_turn again (Asks q) hs g few follows e = absurd e
    by_turn again (Gives a q) hs g few follows e = answered a q hs g few again follows
    by_turn again (Spends q) hs g few follows e = spent q hs g few follows
    by_turn again (Breaks q) hs g few follows e = absurd (once number_of Q c x.form m x.some f g ch l k b (Breaks q) hs follows).0

  command_over : (c : List ℕ) (next : List ℕ → Talk) → ((r : List ℕ) → Ends (next r)) → (found : Bool) (m : ℕ) (results : List Result) (link : Option OpenLink) (f : Field) (ch : Channel Image)
      → Wishes results (Command c next) → Knows number_of Q m f ch.images → found ≡ true → ByLink number_of Q m found f ch link → Sends m found c next → Course (Command c next) results link f ch
  command_over c next again found m results None f ch w k is b x = absurd (not_both found is b)
  command_over c next again found m results (Some l) f ch w k is b x =
      let ready = b.ready x.some in
      let e = ends_so l.set l.reader f c ready.1.fresh ready.0.card_least ((images_keep number_of).commands c x.form) in
      by_turn c next found m results l f ch w k b x again e.turn e.hearings e.after e.few e.follows e.ends

  -- ---- the whole talk

  ends_all : (talk : Talk) → Ends talk
  ends_all (Over e) = over_ends e
  ends_all (Say x next) = say_ends x next (ends_all next)
  ends_all (Poll next) = poll_ends next (λ e. ends_all (next e))
  ends_all (Command c next) = λ found m results link f ch w k b legal closes most.
      command_over c next (λ r. ends_all (next r)) found m results link f ch w k legal.0 b (record { form = legal.1; some = most.0; legal = legal.2; closes = closes; most = most.1 })
  ends_all (Close next) = λ found m results link f ch w k b legal closes most.
      close_over next (ends_all next) found m results link f ch w k closes.0 b legal closes.1 most

-- the end of a whole transaction, which is whole where every frame passes
pub whole_ends : (number_of : Activated → ℕ) (images : ℕ → Image) (talk : Talk) (s : Radio Field) → IsNew number_of images s → IsCarried talk s.medium.room → ClosesFound false talk
    → (e : LaneEnds number_of images talk s) × (Passing s.medium → e.ending ≡ Whole)
whole_ends number_of images talk s new carried closes =
    let f : Field = s.medium in
    let ch : Channel Image = channel images in
    let size : length f.log ≡ 0 = ap (λ (log : List (ℕ × List ℕ)). length log) new.empty in
    let less : carried.commands < f.room = carried.free in
    let knows : Knows number_of (Passing s.medium) carried.commands f ch.images = record {
      lawful = new.lawful;
      numbered = new.numbered;
      distinct = new.distinct;
      all = have_all images f.cards new.have;
      room = omega (arith, size, less);
      pass = λ all. all;
    } in
    let r = ends_all number_of (Passing s.medium) s.fsdi talk talk false carried.commands [] None f ch (λ more. refl) knows refl carried.legal closes carried.most in
    let x = r.leads [] in
    let lane : Lane = record { standing = record { results = r.heard; doing = Stopped r.ending }; field = r.after; exchanges = x.0 } in
    let is : lane_after s.fsdi talk r.count (opened_lane talk f) ≡ lane = x.1 in (
      record {
        count = r.count;
        within = r.within;
        ending = r.ending;
        stopped = ap (λ l. l.standing.doing) is;
        hears = subst (λ z. HearsRounds (told field) s.fsdi talk None f z.standing.results r.ending z.field) (sym is) r.hears;
        keeps = λ later.
            let y = r.keeps later in
            let log : r.after.log ≡ y.0 = y.1 ∙ ap (λ (z : List (ℕ × List ℕ)). z ++ y.0) new.empty in
            let p : Perfect = perfect (one number_of) talk (ends_of r.heard ++ later) ch in
            let kept : Keeps talk r.heard r.after p r.ending =
            keeps (Passing s.medium) talk r.heard r.after p r.ending (subst (λ z. Kept (Fails (Passing s.medium)) talk r.heard z p r.ending) (sym log) y.2) in
            subst (λ z. Keeps talk z.standing.results z.field (perfect (one number_of) talk (ends_of z.standing.results ++ later) ch) r.ending) (sym is) kept;
      },
      λ all. let y = r.keeps [] in whole_by (Passing s.medium) talk r.heard r.after y.0 (perfect (one number_of) talk (ends_of r.heard ++ []) ch) r.ending all y.2,
    )

pub lanes_end_law : LanesEnd
lanes_end_law number_of images talk s new carried closes = (whole_ends number_of images talk s new carried closes).0
