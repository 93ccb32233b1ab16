-- A run over the perfect channel is the perfect run: by recursion on the talk, each step adds its events and its command before those of the rest.
use Rattle.std.proofs.Common.{◌≡◌, inl, inr, ℕ, zero, suc, ◌+◌, ◌-◌, ◌<◌, ◌≤◌, nat_lt, cond, Bool, true, false, List, [], ◌∷◌, ◌++◌, length, replicate, refl, sym, ap, subst, ◌∙◌, append_assoc, arith, length-append, eq-eqb, sub-one, Some, None, Option}
use Rattle.std.proofs.lemmas.Bool.{lt-ltb}
use Rattle.std.proofs.lemmas.List.{append-nil}
use Rattle.ep_base.specs.Air.Heard.{Activated, RoundEnd, Found}
use Rattle.ep_rules.specs.EntryPoint.Event.{OwnEvent, Ending, Event as EventData, Tells, Apdu, End}
use Rattle.ep_rules.specs.EntryPoint.Talk.{Talk, Over, Say, Poll, Command, Close, so_far, IsLegal}
use Rattle.ep_base.specs.Cards.CardAnswer.{Image, card_answer, deselected}
use Rattle.ep_base.specs.Poll.Transport.{Reply, Answered, Lost}
use Rattle.ep_rules.specs.EntryPoint.EventSteps.{EventSteps}
use Rattle.ep_rules.specs.EntryPoint.TransportRun.{RunEnd, Ended, DeviceFailed, EventsFailed, RunLeft, Leaves, TakesEvent, AfterPresent, AfterReply, AfterClose, Runs, all_taken}
use Rattle.ep_base.specs.Cards.Images.{Rules, stored}
use Rattle.ep_rules.specs.EntryPoint.Perfect.{Channel, channel, presents, perfect, at_command}
use Rattle.ep_base.specs.Cards.Direct.{Direct, direct, direct_reply, presented_anew, image_rules}
use Rattle.ep_rules.specs.EntryPoint.Bounds.{AtMost, AtMostStarts}
use Rattle.law_run.specs.OverPerfect.{OverPerfect}
use Rattle.ep_rules.specs.EntryPoint.OverChannel.{channel_after, channel_asked, PerfectBy}
use Rattle.law_run.proofs.Hearing.{all_taken_more}
use Rattle.ep_base.proofs.Images.{card_number}

abbrev direct_of : Activated → Image → List (ℕ × List ℕ) → ℕ → Direct
direct_of card image log room = record { card = card; image = image; log = log; room = room }

module _ {E : Type 0} (events : EventSteps E) (left : RunLeft Direct E) where
  -- What a run from a second place says is said of the run from the first.
  module _ (xs : List EventData) (ys : List (ℕ × List ℕ)) (said : List EventData) (commands : List (ℕ × List ℕ)) (image : Image) (d u : Direct) (e f : E)
      (taken_is : f ≡ all_taken events.take e xs) (card_is : u.card ≡ d.card) (log_is : u.log ≡ d.log ++ ys) (room_is : u.room ≡ d.room) where
    taken_more : (zs : List EventData) → all_taken events.take f zs ≡ all_taken events.take e (xs ++ zs)
    taken_more zs = ap (λ g. all_taken events.take g zs) taken_is ∙ sym (all_taken_more events.take e xs zs)

    log_more : (zs : List (ℕ × List ℕ)) → u.log ++ zs ≡ d.log ++ (ys ++ zs)
    log_more zs = ap (λ l. l ++ zs) log_is ∙ append_assoc d.log ys zs

    now_more : direct_of u.card image (u.log ++ commands) u.room ≡ direct_of d.card image (d.log ++ (ys ++ commands)) d.room
    now_more =
        ap (λ c. direct_of c image (u.log ++ commands) u.room) card_is
        ∙ (ap (λ l. direct_of d.card image l u.room) (log_more commands) ∙ ap (λ r. direct_of d.card image (d.log ++ (ys ++ commands)) r) room_is)

    lifted : (end : RunEnd) → PerfectBy events said commands image u f left end → PerfectBy events (xs ++ said) (ys ++ commands) image d e left end
    lifted (Ended last) r = record {
      ending = r.ending;
      last_is = r.last_is;
      before = xs ++ r.before;
      said_is = ap (λ zs. xs ++ zs) r.said_is ∙ sym (append_assoc xs r.before (last ∷ []));
      taken = r.taken ∙ taken_more said;
      now = r.now ∙ now_more;
    }
    lifted DeviceFailed r = r
    lifted EventsFailed r = record {
      before = xs ++ r.before;
      next = r.next;
      after = r.after;
      said_is = ap (λ zs. xs ++ zs) r.said_is ∙ sym (append_assoc xs r.before (r.next ∷ r.after));
      cut = subst (λ g. events.cut g r.next left.taken) (taken_more r.before) r.cut;
      executed = ys ++ r.executed;
      later = r.later;
      commands_are = ap (λ zs. ys ++ zs) r.commands_are ∙ sym (append_assoc ys r.executed r.later);
      log_is = r.log_is ∙ log_more r.executed;
    }

  -- The first event is cut.
  cut_at : (x : EventData) (after : List EventData) (executed later : List (ℕ × List ℕ)) (image : Image) (d u : Direct) (e l : E) → u.log ≡ d.log ++ executed → events.cut e x l → Leaves left EventsFailed u l
      → PerfectBy events (x ∷ after) (executed ++ later) image d e left left.ending
  cut_at x after executed later image d u e l log cut is = subst (PerfectBy events (x ∷ after) (executed ++ later) image d e left) (sym is.0) (record {
    before = [];
    next = x;
    after = after;
    said_is = refl;
    cut = subst (events.cut e x) (sym is.2) cut;
    executed = executed;
    later = later;
    commands_are = refl;
    log_is = ap (λ (v : Direct). v.log) is.1 ∙ log;
  })

  module _ (n : ℕ) where
    abbrev one : Rules Image
    one = image_rules (λ card. n)

    -- The channel's card n is the one of d.
    record At (found : Bool) (d : Direct) (ch : Channel Image) : Type 0 where
      number : d.image.number ≡ n
      image : ch.images n ≡ d.image
      here : found ≡ true → ch.presented ≡ Some n

    abbrev Outcome : Talk → List RoundEnd → Channel Image → Direct → E → Type 0
    Outcome talk ends ch d e =
        PerfectBy events (so_far talk (perfect one talk ends ch).results).events (perfect one talk ends ch).commands ((channel_after one talk ends ch).images n) d e left left.ending

    same_log : (d : Direct) → d.log ≡ d.log ++ []
    same_log d = sym (append-nil d.log)

    -- Each run of the talk is its perfect run.
    abbrev Plays : Talk → Type 0
    Plays talk = (found : Bool) (d : Direct) (ch : Channel Image) (ends m : ℕ) (e : E) → At found d ch → IsLegal (λ c. true) found talk → AtMost m talk → length d.log + m ≤ d.room → AtMostStarts ends talk
        → Runs direct events talk [] d e left → Outcome talk (replicate ends (Found d.card)) ch d e

    over_plays : (ending : Ending) → Plays (Over ending)
    over_plays ending found d ch ends m e at legal most room starts (inl (l, cut, is)) = cut_at (End ending) [] [] [] (ch.images n) d d e l (same_log d) cut is
    over_plays ending found d ch ends m e at legal most room starts (inr is) = subst (PerfectBy events (End ending ∷ []) [] (ch.images n) d e left) (sym is.0) (record {
      ending = ending;
      last_is = refl;
      before = [];
      said_is = refl;
      taken = is.2;
      now = is.1 ∙ (ap (λ i. direct_of d.card i d.log d.room) (sym at.image) ∙ ap (λ l. direct_of d.card (ch.images n) l d.room) (same_log d));
    })

    say_plays : (x : OwnEvent) (next : Talk) → Plays next → Plays (Say x next)
    say_plays x next again found d ch ends m e at legal most room starts (inl (l, cut, is)) =
        let p = perfect one next (replicate ends (Found d.card)) ch in
        cut_at (Tells x) (so_far next p.results).events [] p.commands ((channel_after one next (replicate ends (Found d.card)) ch).images n) d d e l (same_log d) cut is
    say_plays x next again found d ch ends m e at legal most room starts (inr runs) =
        let p = perfect one next (replicate ends (Found d.card)) ch in
        lifted (Tells x ∷ []) [] (so_far next p.results).events p.commands ((channel_after one next (replicate ends (Found d.card)) ch).images n) d d e (events.take e (Tells x)) refl refl (same_log d) refl left.ending
        (again found d ch ends m (events.take e (Tells x)) at legal most room starts runs)

    poll_plays : (next : RoundEnd → Talk) → ((x : RoundEnd) → Plays (next x)) → Plays (Poll next)
    poll_plays next again found d ch zero m e at legal most room starts runs = let none : 0 < 0 = starts.0 in absurd (omega arith)
    poll_plays next again found d ch (suc k) m e at legal most room starts (p, u, is, runs) =
        let x = Found d.card in
        let v = presented_anew d in
        let c = presents one ch x in
        let fewer : AtMostStarts k (next x) = subst (λ j. AtMostStarts j (next x)) (sub-one (suc k)) (starts.1 x) in
        let here : Runs direct events (next x) [] v e left =
        subst (λ w. Runs direct events (next x) [] w e left) is.1 (subst (λ q. AfterPresent direct events (λ x more. Runs direct events (next x) more) q u e left) is.0 runs) in
        let now : At true v c = record { number = at.number; image = ap deselected at.image; here = λ h. refl } in
        let q = perfect one (next x) (replicate k x) c in
        lifted [] [] (so_far (next x) q.results).events q.commands ((channel_after one (next x) (replicate k x) c).images n) d v e e refl refl (same_log d) refl left.ending
        (again x true v c k m e now (legal x) (most x) room fewer here)

    -- After an answer.
    answered_plays : (c : List ℕ) (next : List ℕ → Talk) (ends m : ℕ) (d : Direct) (ch : Channel Image) (e : E) (a : List ℕ) (i : Image) (h : Channel Image) → Plays (next a)
        → At true (direct_of d.card i (d.log ++ (d.image.number, c) ∷ []) d.room) h → d.image.number ≡ n → IsLegal (λ c. true) true (next a) → AtMost (m - 1) (next a) → 0 < m → length d.log + m ≤ d.room → AtMostStarts ends (next a)
        → TakesEvent direct events (Apdu c a) (direct_of d.card i (d.log ++ (d.image.number, c) ∷ []) d.room) e left (λ f. Runs direct events (next a) [] (direct_of d.card i (d.log ++ (d.image.number, c) ∷ []) d.room) f left)
        → PerfectBy events (Apdu c a ∷ (so_far (next a) (perfect one (next a) (replicate ends (Found d.card)) h).results).events) ((n, c) ∷ (perfect one (next a) (replicate ends (Found d.card)) h).commands)
        ((channel_after one (next a) (replicate ends (Found d.card)) h).images n) d e left left.ending
    answered_plays c next ends m d ch e a i h again now number legal most some room starts (inl (l, cut, is)) =
        let p = perfect one (next a) (replicate ends (Found d.card)) h in
        let v = direct_of d.card i (d.log ++ (d.image.number, c) ∷ []) d.room in
        cut_at (Apdu c a) (so_far (next a) p.results).events ((n, c) ∷ []) p.commands ((channel_after one (next a) (replicate ends (Found d.card)) h).images n) d v e l
        (ap (λ k. d.log ++ (k, c) ∷ []) number) cut is
    answered_plays c next ends m d ch e a i h again now number legal most some room starts (inr runs) =
        let p = perfect one (next a) (replicate ends (Found d.card)) h in
        let v = direct_of d.card i (d.log ++ (d.image.number, c) ∷ []) d.room in
        let room_left : length (d.log ++ (d.image.number, c) ∷ []) + (m - 1) ≤ d.room = omega (arith, length-append d.log ((d.image.number, c) ∷ [])) in
        lifted (Apdu c a ∷ []) ((n, c) ∷ []) (so_far (next a) p.results).events p.commands ((channel_after one (next a) (replicate ends (Found d.card)) h).images n) d v e (events.take e (Apdu c a))
        refl refl (ap (λ k. d.log ++ (k, c) ∷ []) number) refl left.ending
        (again true v h ends (m - 1) (events.take e (Apdu c a)) now legal most room_left starts runs)

    -- The channel after a command whose card had this image.
    abbrev then_stored : Channel Image → Image → List ℕ → Channel Image
    then_stored ch i c = record { images = stored n (card_answer i c).1 ch.images; presented = Some n }

    -- The outcome of a command, by the image that the channel has and by the card that is presented.
    abbrev ByImage : List ℕ → (List ℕ → Talk) → List RoundEnd → Channel Image → Direct → E → Image → Type 0
    ByImage c next ends ch d e i =
        PerfectBy events
        (Apdu c (card_answer i c).0.response ∷ (so_far (next (card_answer i c).0.response) (perfect one (next (card_answer i c).0.response) ends (then_stored ch i c)).results).events)
        ((n, c) ∷ (perfect one (next (card_answer i c).0.response) ends (then_stored ch i c)).commands)
        ((channel_after one (next (card_answer i c).0.response) ends (then_stored ch i c)).images n) d e left left.ending

    abbrev ByPresented : List ℕ → (List ℕ → Talk) → List RoundEnd → Channel Image → Direct → E → Option ℕ → Type 0
    ByPresented c next ends ch d e o =
        PerfectBy events (so_far (Command c next) (at_command one ch c (λ r q. perfect one (next r) ends q) o).results).events
        (at_command one ch c (λ r q. perfect one (next r) ends q) o).commands
        ((channel_asked one ch c (λ r q. channel_after one (next r) ends q) o).images n) d e left left.ending

    command_plays : (c : List ℕ) (next : List ℕ → Talk) → ((a : List ℕ) → Plays (next a)) → Plays (Command c next)
    command_plays c next again found d ch ends m e at legal most room starts (r, u, is, runs) =
        let i = d.image in
        let a = (card_answer i c).0.response in
        let v = direct_of d.card (card_answer i c).1 (d.log ++ (i.number, c) ∷ []) d.room in
        let some : 0 < m = most.0 in
        let test : nat_lt (length d.log) d.room ≡ true = lt-ltb (length d.log) d.room (omega arith) in
        let reply : direct_reply d c ≡ (Answered a, v) = ap (λ (b : Bool). cond b (Answered a, v) (Lost, d)) test in
        let pair : (Answered a, v) ≡ (r, u) = sym reply ∙ is in
        let here : AfterReply direct events c (λ x. Runs direct events (next x) []) (Answered a) v e left =
        subst (λ (x : Reply × Direct). AfterReply direct events c (λ x. Runs direct events (next x) []) x.0 x.1 e left) (sym pair) runs in
        let now : At true v (then_stored ch i c) = record {
          number = card_number i c ∙ at.number;
          image = ap (λ (b : Bool). cond b (card_answer i c).1 (ch.images n)) (eq-eqb n n refl);
          here = λ h. refl;
        } in
        let asked : ByImage c next (replicate ends (Found d.card)) ch d e i =
        answered_plays c next ends m d ch e a (card_answer i c).1 (then_stored ch i c) (again a) now at.number (subst (λ b. IsLegal (λ c. true) b (next a)) legal.0 (legal.2 a)) (most.1 a) some room (starts a) here in
        subst (ByPresented c next (replicate ends (Found d.card)) ch d e) (sym (at.here legal.0)) (subst (ByImage c next (replicate ends (Found d.card)) ch d e) (sym at.image) asked)

    close_plays : (next : Talk) → Plays next → Plays (Close next)
    close_plays next again found d ch ends m e at legal most room starts (well, u, is, runs) =
        let c : Channel Image = record { images = ch.images; presented = None } in
        let here : Runs direct events next [] d e left =
        subst (λ w. Runs direct events next [] w e left) is.1 (subst (λ b. AfterClose direct events (Runs direct events next []) b u e left) is.0 runs) in
        let now : At false d c = record { number = at.number; image = at.image; here = λ (h : false ≡ true). absurd (let g : ⊥ = cc in g) } in
        again false d c ends m e now legal most room starts here

    plays : (talk : Talk) → Plays talk
    plays (Over ending) = over_plays ending
    plays (Say x next) = say_plays x next (plays next)
    plays (Poll next) = poll_plays next (λ x. plays (next x))
    plays (Command c next) = command_plays c next (λ a. plays (next a))
    plays (Close next) = close_plays next (plays next)

module _ {E : Type 0} (events : EventSteps E) where
  pub perfect_lem : OverPerfect events
  perfect_lem talk d images ends e left carries runs =
      plays events left d.image.number talk false d (channel images) ends carries.commands e
      (record { number = refl; image = carries.image; here = λ (h : false ≡ true). absurd (let g : ⊥ = cc in g) })
      carries.legal carries.most carries.room carries.enough runs
