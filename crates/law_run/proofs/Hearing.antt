-- What became of a run: by recursion on the talk, each step adds its result and its events before those of the rest.
use Rattle.std.proofs.Common.{◌≡◌, inl, inr, ℕ, Bool, true, false, List, [], ◌∷◌, ◌++◌, refl, sym, ap, subst, ◌∙◌, append_assoc}
use Rattle.ep_base.specs.Air.Heard.{RoundEnd}
use Rattle.ep_rules.specs.EntryPoint.Event.{OwnEvent, Event as EventData, Tells, Apdu, End, EndLink, EndBreach}
use Rattle.ep_rules.specs.EntryPoint.Talk.{Talk, Over, Say, Poll, Command, Close, Result, Round, Response, Closed, Polls, Commands, Closes, Nothing, so_far}
use Rattle.ep_base.specs.Poll.Transport.{TransportSteps, PresentResult, Here, Nobody, Gone, Reply, Answered, Spent, Breached, Lost}
use Rattle.ep_rules.specs.EntryPoint.EventSteps.{EventSteps}
use Rattle.ep_rules.specs.EntryPoint.TransportRun.{RunEnd, Ended, DeviceFailed, EventsFailed, RunLeft, Leaves, TakesEvent, Ends, AfterPresent, AfterReply, AfterClose, Runs, first_end, more_ends, HearEnd, Whole, AtLink, AtBreach, AtDevice, Hears, all_taken, said_for, end_said}
use Rattle.law_run.specs.Heard.{Hearing}
use Rattle.ep_rules.specs.EntryPoint.Became.{Says, Wishes, HearsPart, RanBy}

pub all_taken_more : {E : Type 0} (take : E → EventData → E) (e : E) (xs ys : List EventData) → all_taken take e (xs ++ ys) ≡ all_taken take (all_taken take e xs) ys
all_taken_more take e [] ys = refl
all_taken_more take e (x ∷ xs) ys = all_taken_more take (take e x) xs ys

module _ {T E : Type 0} (link : TransportSteps T) (events : EventSteps E) where
  -- Every talk may stop where it is.
  stops_here : (talk : Talk) (more : List RoundEnd) (t u : T) → u ≡ t → HearsPart link talk more t [] Whole u
  stops_here (Over ending) more t u is = (refl, refl, is)
  stops_here (Say x next) more t u is = stops_here next more t u is
  stops_here (Poll next) [] t u is = inl (refl, refl, is)
  stops_here (Poll next) (x ∷ more) t u is = inl (refl, refl, is)
  stops_here (Command c next) more t u is = inl (refl, refl, is)
  stops_here (Close next) more t u is = inl (refl, refl, is)

  -- A run from a second talk on, as one from the first: the results go on behind `pre`, and the events behind xs.
  module _ (talk : Talk) (more : List RoundEnd) (t : T) (e : E) (left : RunLeft T E) (pre : List Result → List Result) (xs : List EventData) (after : Talk) (rest : List RoundEnd) (u : T) (f : E)
      (hears : (h : List Result) (ending : HearEnd) (v : T) → Hears link after rest u h ending v → Hears link talk more t (pre h) ending v)
      (parts : (h : List Result) (ending : HearEnd) (v : T) → HearsPart link after rest u h ending v → HearsPart link talk more t (pre h) ending v)
      (events_are : (h : List Result) → (so_far talk (pre h)).events ≡ xs ++ (so_far after h).events)
      (wish_is : (h : List Result) → (so_far talk (pre h)).wish ≡ (so_far after h).wish)
      (taken_is : f ≡ all_taken events.take e xs) where
    said_more : (h : List Result) (ending : HearEnd) → said_for talk (pre h) ending ≡ xs ++ said_for after h ending
    said_more h ending = ap (λ ys. ys ++ end_said ending) (events_are h) ∙ append_assoc xs (so_far after h).events (end_said ending)

    taken_more : (ys : List EventData) → all_taken events.take f ys ≡ all_taken events.take e (xs ++ ys)
    taken_more ys = ap (λ g. all_taken events.take g ys) taken_is ∙ sym (all_taken_more events.take e xs ys)

    lifted : (end : RunEnd) → RanBy link events after rest u f left end → RanBy link events talk more t e left end
    lifted (Ended last) r = record {
      heard = pre r.heard;
      ending = r.ending;
      hears = hears r.heard r.ending left.transport r.hears;
      taken = r.taken ∙ (taken_more (said_for after r.heard r.ending) ∙ ap (all_taken events.take e) (sym (said_more r.heard r.ending)));
      before = xs ++ r.before;
      said = said_more r.heard r.ending ∙ (ap (λ ys. xs ++ ys) r.said ∙ sym (append_assoc xs r.before (last ∷ [])));
      says = r.says;
      wishes = subst (Wishes r.ending) (sym (wish_is r.heard)) r.wishes;
    }
    lifted DeviceFailed r = record {
      heard = pre r.heard;
      hears = hears r.heard AtDevice left.transport r.hears;
      taken = r.taken ∙ (taken_more (so_far after r.heard).events ∙ ap (all_taken events.take e) (sym (events_are r.heard)));
      wishes = subst (Wishes AtDevice) (sym (wish_is r.heard)) r.wishes;
    }
    lifted EventsFailed r = record {
      heard = pre r.heard;
      ending = r.ending;
      hears = parts r.heard r.ending left.transport r.hears;
      before = xs ++ r.before;
      next = r.next;
      after = r.after;
      said = said_more r.heard r.ending ∙ (ap (λ ys. xs ++ ys) r.said ∙ sym (append_assoc xs r.before (r.next ∷ r.after)));
      cut = subst (λ g. events.cut g r.next left.taken) (taken_more r.before) r.cut;
    }

  -- The ends of a run, each at the talk where it comes.
  module _ (talk : Talk) (more : List RoundEnd) (t : T) (e : E) (left : RunLeft T E) where
    abbrev Ran : Type 0
    Ran = RanBy link events talk more t e left left.ending

    cut_at : (x : EventData) (heard : List Result) (ending : HearEnd) (after : List EventData) (u : T) (l : E) → said_for talk heard ending ≡ x ∷ after → (left.transport ≡ u → HearsPart link talk more t heard ending left.transport) → events.cut e x l → Leaves left EventsFailed u l → Ran
    cut_at x heard ending after u l said hears cut is = subst (RanBy link events talk more t e left) (sym is.0) (record {
      heard = heard;
      ending = ending;
      hears = hears is.1;
      before = [];
      next = x;
      after = after;
      said = said;
      cut = subst (events.cut e x) (sym is.2) cut;
    })

    lost_at : (u : T) → Hears link talk more t [] AtDevice left.transport → (so_far talk []).events ≡ [] → Wishes AtDevice (so_far talk []).wish → Leaves left DeviceFailed u e → Ran
    lost_at u hears none wishes is = subst (RanBy link events talk more t e left) (sym is.0) (record {
      heard = [];
      hears = hears;
      taken = is.2 ∙ ap (all_taken events.take e) (sym none);
      wishes = wishes;
    })

    ended_at : (last : EventData) (ending : HearEnd) (u : T) → said_for talk [] ending ≡ last ∷ [] → Says ending last → Wishes ending (so_far talk []).wish → (left.transport ≡ u → Hears link talk more t [] ending left.transport) → (left.transport ≡ u → HearsPart link talk more t [] ending left.transport) → Ends link events last u e left → Ran
    ended_at last ending u said says wishes hears parts (inl (l, cut, is)) = cut_at last [] ending [] u l said parts cut is
    ended_at last ending u said says wishes hears parts (inr is) = subst (RanBy link events talk more t e left) (sym is.0) (record {
      heard = [];
      ending = ending;
      hears = hears is.1;
      taken = is.2 ∙ ap (all_taken events.take e) (sym said);
      before = [];
      said = said;
      says = says;
      wishes = wishes;
    })

  abbrev Again : (A : Type 0) → (A → Talk) → RunLeft T E → Type 0
  Again A next left = (a : A) (more : List RoundEnd) (t : T) (e : E) → Runs link events (next a) more t e left → RanBy link events (next a) more t e left left.ending

  say_ran : (x : OwnEvent) (next : Talk) (more : List RoundEnd) (t : T) (e : E) (left : RunLeft T E)
      → (Runs link events next more t (events.take e (Tells x)) left → RanBy link events next more t (events.take e (Tells x)) left left.ending)
      → TakesEvent link events (Tells x) t e left (λ f. Runs link events next more t f left)
      → RanBy link events (Say x next) more t e left left.ending
  say_ran x next more t e left again (inl (l, cut, is)) =
      cut_at (Say x next) more t e left (Tells x) [] Whole ((so_far next []).events ++ []) t l refl (stops_here next more t left.transport) cut is
  say_ran x next more t e left again (inr runs) =
      lifted (Say x next) more t e left (λ h. h) (Tells x ∷ []) next more t (events.take e (Tells x)) (λ h ending v g. g) (λ h ending v g. g) (λ h. refl) (λ h. refl) refl left.ending (again runs)

  waits_ran : (next : RoundEnd → Talk) (x : RoundEnd) (more : List RoundEnd) (t : T) (e : E) (left : RunLeft T E)
      → RanBy link events (next x) more t e left left.ending → RanBy link events (Poll next) (x ∷ more) t e left left.ending
  waits_ran next x more t e left ran =
      lifted (Poll next) (x ∷ more) t e left (λ h. Round x ∷ h) [] (next x) more t e (λ h ending v g. (h, refl, g)) (λ h ending v g. inr (h, refl, g)) (λ h. refl) (λ h. refl) refl left.ending ran

  present_ran : (next : RoundEnd → Talk) (t : T) (e : E) (left : RunLeft T E) → Again RoundEnd next left
      → (p : PresentResult) (u : T) → link.presents t p u → AfterPresent link events (λ x more. Runs link events (next x) more) p u e left
      → RanBy link events (Poll next) [] t e left left.ending
  present_ran next t e left again (Here collided card) u h runs =
      let p = Here collided card in
      lifted (Poll next) [] t e left (λ hs. Round (first_end p) ∷ hs) [] (next (first_end p)) (more_ends p) u e
      (λ hs ending v g. (p, u, h, (hs, refl, g))) (λ hs ending v g. inr (p, u, h, (hs, refl, g))) (λ hs. refl) (λ hs. refl) refl left.ending
      (again (first_end p) (more_ends p) u e runs)
  present_ran next t e left again (Nobody collided) u h runs =
      let p = Nobody collided in
      lifted (Poll next) [] t e left (λ hs. Round (first_end p) ∷ hs) [] (next (first_end p)) (more_ends p) u e
      (λ hs ending v g. (p, u, h, (hs, refl, g))) (λ hs ending v g. inr (p, u, h, (hs, refl, g))) (λ hs. refl) (λ hs. refl) refl left.ending
      (again (first_end p) (more_ends p) u e runs)
  present_ran next t e left again Gone u h runs =
      lost_at (Poll next) [] t e left u (Gone, u, h, (refl, refl, runs.1)) refl (λ (same : Polls ≡ Nothing). cc) runs

  reply_ran : (c : List ℕ) (next : List ℕ → Talk) (more : List RoundEnd) (t : T) (e : E) (left : RunLeft T E) → Again (List ℕ) next left
      → (r : Reply) (u : T) → link.transacts t c r u → AfterReply link events c (λ a. Runs link events (next a) more) r u e left
      → RanBy link events (Command c next) more t e left left.ending
  reply_ran c next more t e left again (Answered a) u h (inl (l, cut, is)) =
      cut_at (Command c next) more t e left (Apdu c a) (Response a ∷ []) Whole ((so_far (next a) []).events ++ []) u l refl
      (λ same. inr (Answered a, u, h, ([], refl, stops_here (next a) more u left.transport same))) cut is
  reply_ran c next more t e left again (Answered a) u h (inr runs) =
      lifted (Command c next) more t e left (λ hs. Response a ∷ hs) (Apdu c a ∷ []) (next a) more u (events.take e (Apdu c a))
      (λ hs ending v g. (Answered a, u, h, (hs, refl, g))) (λ hs ending v g. inr (Answered a, u, h, (hs, refl, g))) (λ hs. refl) (λ hs. refl) refl left.ending
      (again a more u (events.take e (Apdu c a)) runs)
  reply_ran c next more t e left again Spent u h runs =
      ended_at (Command c next) more t e left EndLink AtLink u refl refl (c, refl)
      (λ same. (Spent, u, h, (refl, refl, same))) (λ same. inr (Spent, u, h, (refl, refl, same))) runs
  reply_ran c next more t e left again Breached u h runs =
      ended_at (Command c next) more t e left EndBreach AtBreach u refl refl (c, refl)
      (λ same. (Breached, u, h, (refl, refl, same))) (λ same. inr (Breached, u, h, (refl, refl, same))) runs
  reply_ran c next more t e left again Lost u h runs =
      lost_at (Command c next) more t e left u (Lost, u, h, (refl, refl, runs.1)) refl (λ (same : Commands c ≡ Nothing). cc) runs

  close_ran : (next : Talk) (more : List RoundEnd) (t : T) (e : E) (left : RunLeft T E)
      → ((t : T) (e : E) → Runs link events next more t e left → RanBy link events next more t e left left.ending)
      → (well : Bool) (u : T) → link.closes t well u → AfterClose link events (Runs link events next more) well u e left
      → RanBy link events (Close next) more t e left left.ending
  close_ran next more t e left again true u h runs =
      lifted (Close next) more t e left (λ hs. Closed ∷ hs) [] next more u e (λ hs ending v g. (true, u, h, (hs, refl, g))) (λ hs ending v g. inr (true, u, h, (hs, refl, g)))
      (λ hs. refl) (λ hs. refl) refl left.ending (again u e runs)
  close_ran next more t e left again false u h runs =
      lost_at (Close next) more t e left u (false, u, h, (refl, refl, runs.1)) refl (λ (same : Closes ≡ Nothing). cc) runs

  pub ran_lem : (talk : Talk) (more : List RoundEnd) (t : T) (e : E) (left : RunLeft T E) → Runs link events talk more t e left → RanBy link events talk more t e left left.ending
  ran_lem (Over ending) more t e left runs =
      ended_at (Over ending) more t e left (End ending) Whole t refl (ending, refl) refl (λ same. (refl, refl, same)) (λ same. (refl, refl, same)) runs
  ran_lem (Say x next) more t e left runs = say_ran x next more t e left (λ r. ran_lem next more t (events.take e (Tells x)) left r) runs
  ran_lem (Poll next) [] t e left runs = present_ran next t e left (λ a more t e r. ran_lem (next a) more t e left r) runs.0 runs.1 runs.2 runs.3
  ran_lem (Poll next) (x ∷ more) t e left runs = waits_ran next x more t e left (ran_lem (next x) more t e left runs)
  ran_lem (Command c next) more t e left runs = reply_ran c next more t e left (λ a more t e r. ran_lem (next a) more t e left r) runs.0 runs.1 runs.2 runs.3
  ran_lem (Close next) more t e left runs = close_ran next more t e left (λ t e r. ran_lem next more t e left r) runs.0 runs.1 runs.2 runs.3

  pub hearing_lem : Hearing link events
  hearing_lem talk t e left runs = ran_lem talk [] t e left runs

  -- What the run of a talk is, by its end.
  pub ran_so : (end : RunEnd) (talk : Talk) (more : List RoundEnd) (t : T) (e : E) (left : RunLeft T E) → left.ending ≡ end → Runs link events talk more t e left → RanBy link events talk more t e left end
  ran_so end talk more t e left is runs = subst (RanBy link events talk more t e left) is (ran_lem talk more t e left runs)
