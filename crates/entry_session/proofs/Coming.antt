-- What a talk comes to, runs as it does: what it says by all results settles how it runs.
use Rattle.std.proofs.Common.{◌≡◌, ℕ, inl, inr, Bool, true, false, List, [], ◌∷◌, ◌++◌, refl, ap, sym, subst, ◌∙◌}
use Rattle.ep_base.specs.Air.Heard.{RoundEnd}
use Rattle.ep_base.specs.Poll.Transport.{TransportSteps, Here, Nobody, Gone, Answered, Spent, Breached, Lost, PresentResult, Reply}
use Rattle.ep_rules.specs.EntryPoint.Event.{Event as EventData, OwnEvent, Tells, Apdu, End, Ending}
use Rattle.ep_rules.specs.EntryPoint.EventSteps.{EventSteps}
use Rattle.ep_rules.specs.EntryPoint.Talk.{Talk, Over, Say, Poll, Command, Close, Result, Round, Response, Closed, SoFar, Wish, Polls, Commands, Closes, Nothing, so_far, after_event}
use Rattle.ep_rules.specs.EntryPoint.TransportRun.{RunLeft, EventsFailed, Leaves, TakesEvent, AfterPresent, AfterReply, AfterClose, Runs, all_taken, first_end, more_ends}
use Rattle.session_phases.specs.Told.{after_events}
use Rattle.entry_session.specs.Meaning.{IsCutIn}

-- After these events the talk goes on as the rest, whatever is heard.
abbrev pub ComesTo : Talk → List EventData → Talk → Type 0
ComesTo t said rest = (more : List Result) → so_far t more ≡ after_events said (so_far rest more)

-- ---- the rest of a talk that says nothing more has its form

over_is : (x : Ending) (rest : Talk) → ComesTo (Over x) [] rest → rest ≡ Over x
over_is x (Over y) h = let es : End x ∷ [] ≡ End y ∷ [] = ap (λ (s : SoFar). s.events) (h []) in cc
over_is x (Say v next) h = absurd (let es : End x ∷ [] ≡ Tells v ∷ (so_far next []).events = ap (λ (s : SoFar). s.events) (h []) in let g : ⊥ = cc in g)
over_is x (Poll next) h = absurd (let w : Nothing ≡ Polls = ap (λ (s : SoFar). s.wish) (h []) in let g : ⊥ = cc in g)
over_is x (Command c next) h = absurd (let w : Nothing ≡ Commands c = ap (λ (s : SoFar). s.wish) (h []) in let g : ⊥ = cc in g)
over_is x (Close next) h = absurd (let w : Nothing ≡ Closes = ap (λ (s : SoFar). s.wish) (h []) in let g : ⊥ = cc in g)

-- One event less.
one_less : (x y : EventData) (s r : SoFar) → after_event x s ≡ after_event y r → (x ≡ y) × (s ≡ r)
one_less x y s r h =
    let es : x ∷ s.events ≡ y ∷ r.events = ap (λ (s : SoFar). s.events) h in
    let w : s.wish ≡ r.wish = ap (λ (s : SoFar). s.wish) h in
    let first : x ≡ y = cc in
    let more : s.events ≡ r.events = cc in (
      first,
      ap (λ (es : List EventData). let t : SoFar = record { events = es; wish = s.wish } in t) more
          ∙ ap (λ (w : Wish). let t : SoFar = record { events = r.events; wish = w } in t) w,
    )

say_is : (x : OwnEvent) (next rest : Talk) → ComesTo (Say x next) [] rest → (other : Talk) × (rest ≡ Say x other) × ComesTo next [] other
say_is x next (Over y) h = absurd (let es : Tells x ∷ (so_far next []).events ≡ End y ∷ [] = ap (λ (s : SoFar). s.events) (h []) in let g : ⊥ = cc in g)
say_is x next (Say v other) h =
    let first : Tells x ≡ Tells v = (one_less (Tells x) (Tells v) (so_far next []) (so_far other []) (h [])).0 in
    let same : v ≡ x = cc in
    (other, ap (λ (v : OwnEvent). Say v other) same, λ more. (one_less (Tells x) (Tells v) (so_far next more) (so_far other more) (h more)).1)
say_is x next (Poll other) h = absurd (let es : Tells x ∷ (so_far next []).events ≡ [] = ap (λ (s : SoFar). s.events) (h []) in let g : ⊥ = cc in g)
say_is x next (Command c other) h = absurd (let es : Tells x ∷ (so_far next []).events ≡ [] = ap (λ (s : SoFar). s.events) (h []) in let g : ⊥ = cc in g)
say_is x next (Close other) h = absurd (let es : Tells x ∷ (so_far next []).events ≡ [] = ap (λ (s : SoFar). s.events) (h []) in let g : ⊥ = cc in g)

poll_is : (next : RoundEnd → Talk) (rest : Talk) → ComesTo (Poll next) [] rest → (other : RoundEnd → Talk) × (rest ≡ Poll other) × ((e : RoundEnd) → ComesTo (next e) [] (other e))
poll_is next (Over y) h = absurd (let w : Polls ≡ Nothing = ap (λ (s : SoFar). s.wish) (h []) in let g : ⊥ = cc in g)
poll_is next (Say v other) h = absurd (let es : [] ≡ Tells v ∷ (so_far other []).events = ap (λ (s : SoFar). s.events) (h []) in let g : ⊥ = cc in g)
poll_is next (Poll other) h = (other, refl, λ e more. h (Round e ∷ more))
poll_is next (Command c other) h = absurd (let w : Polls ≡ Commands c = ap (λ (s : SoFar). s.wish) (h []) in let g : ⊥ = cc in g)
poll_is next (Close other) h = absurd (let w : Polls ≡ Closes = ap (λ (s : SoFar). s.wish) (h []) in let g : ⊥ = cc in g)

command_is : (c : List ℕ) (next : List ℕ → Talk) (rest : Talk) → ComesTo (Command c next) [] rest → (other : List ℕ → Talk) × (rest ≡ Command c other) × ((r : List ℕ) → ComesTo (next r) [] (other r))
command_is c next (Over y) h = absurd (let w : Commands c ≡ Nothing = ap (λ (s : SoFar). s.wish) (h []) in let g : ⊥ = cc in g)
command_is c next (Say v other) h = absurd (let es : [] ≡ Tells v ∷ (so_far other []).events = ap (λ (s : SoFar). s.events) (h []) in let g : ⊥ = cc in g)
command_is c next (Poll other) h = absurd (let w : Commands c ≡ Polls = ap (λ (s : SoFar). s.wish) (h []) in let g : ⊥ = cc in g)
command_is c next (Command d other) h =
    let w : Commands c ≡ Commands d = ap (λ (s : SoFar). s.wish) (h []) in
    let same : d ≡ c = cc in
    (other, ap (λ (d : List ℕ). Command d other) same, λ r more. (one_less (Apdu c r) (Apdu d r) (so_far (next r) more) (so_far (other r) more) (h (Response r ∷ more))).1)
command_is c next (Close other) h = absurd (let w : Commands c ≡ Closes = ap (λ (s : SoFar). s.wish) (h []) in let g : ⊥ = cc in g)

close_is : (next rest : Talk) → ComesTo (Close next) [] rest → (other : Talk) × (rest ≡ Close other) × ComesTo next [] other
close_is next (Over y) h = absurd (let w : Closes ≡ Nothing = ap (λ (s : SoFar). s.wish) (h []) in let g : ⊥ = cc in g)
close_is next (Say v other) h = absurd (let es : [] ≡ Tells v ∷ (so_far other []).events = ap (λ (s : SoFar). s.events) (h []) in let g : ⊥ = cc in g)
close_is next (Poll other) h = absurd (let w : Closes ≡ Polls = ap (λ (s : SoFar). s.wish) (h []) in let g : ⊥ = cc in g)
close_is next (Command c other) h = absurd (let w : Closes ≡ Commands c = ap (λ (s : SoFar). s.wish) (h []) in let g : ⊥ = cc in g)
close_is next (Close other) h = (other, refl, λ more. h (Closed ∷ more))

-- What is over says its end, and nothing after that.
over_last : (x : Ending) (y : EventData) (said : List EventData) (rest : Talk) → ComesTo (Over x) (y ∷ said) rest → (y ≡ End x) × (said ≡ []) × ((so_far rest []).events ≡ [])
over_last x y [] rest h = let es : End x ∷ [] ≡ y ∷ (so_far rest []).events = ap (λ (s : SoFar). s.events) (h []) in (cc, refl, cc)
over_last x y (z ∷ said) rest h = absurd (let es : End x ∷ [] ≡ y ∷ z ∷ (said ++ (so_far rest []).events) = ap (λ (s : SoFar). s.events) (h []) in let g : ⊥ = cc in g)

-- So nothing comes after its end.
over_once : (x : Ending) (y : EventData) (said : List EventData) (rest : Talk) → ComesTo (Over x) (y ∷ said) rest → ⊥
over_once x y said (Over z) h = let es : End z ∷ [] ≡ [] = (over_last x y said (Over z) h).2 in let g : ⊥ = cc in g
over_once x y said (Say v next) h = let es : Tells v ∷ (so_far next []).events ≡ [] = (over_last x y said (Say v next) h).2 in let g : ⊥ = cc in g
over_once x y said (Poll next) h = let w : Nothing ≡ Polls = ap (λ (s : SoFar). s.wish) (h []) in let g : ⊥ = cc in g
over_once x y said (Command c next) h = let w : Nothing ≡ Commands c = ap (λ (s : SoFar). s.wish) (h []) in let g : ⊥ = cc in g
over_once x y said (Close next) h = let w : Nothing ≡ Closes = ap (λ (s : SoFar). s.wish) (h []) in let g : ⊥ = cc in g

-- Where nothing is said yet, no event comes first.
said_none : (w : Wish) (y : EventData) (said : List EventData) (s : SoFar) → (let t : SoFar = record { events = []; wish = w } in t) ≡ after_events (y ∷ said) s → ⊥
said_none w y said s h = let es : [] ≡ y ∷ (said ++ s.events) = ap (λ (s : SoFar). s.events) h in let g : ⊥ = cc in g

-- ---- runs

module _ {T E : Type 0} (link : TransportSteps T) (events : EventSteps E) where
  present_on : (next other : RoundEnd → Talk) (p : PresentResult) (u : T) (e : E) (left : RunLeft T E)
      → ((x : RoundEnd) (more : List RoundEnd) → Runs link events (other x) more u e left → Runs link events (next x) more u e left)
      → AfterPresent link events (λ x more. Runs link events (other x) more) p u e left → AfterPresent link events (λ x more. Runs link events (next x) more) p u e left
  present_on next other (Here collided card) u e left on runs = on (first_end (Here collided card)) (more_ends (Here collided card)) runs
  present_on next other (Nobody collided) u e left on runs = on (first_end (Nobody collided)) (more_ends (Nobody collided)) runs
  present_on next other Gone u e left on runs = runs

  reply_on : (c : List ℕ) (more : List RoundEnd) (next other : List ℕ → Talk) (r : Reply) (u : T) (e : E) (left : RunLeft T E)
      → ((a : List ℕ) (f : E) → Runs link events (other a) more u f left → Runs link events (next a) more u f left)
      → AfterReply link events c (λ a. Runs link events (other a) more) r u e left → AfterReply link events c (λ a. Runs link events (next a) more) r u e left
  reply_on c more next other (Answered a) u e left on (inl cut) = inl cut
  reply_on c more next other (Answered a) u e left on (inr runs) = inr (on a (events.take e (Apdu c a)) runs)
  reply_on c more next other Spent u e left on runs = runs
  reply_on c more next other Breached u e left on runs = runs
  reply_on c more next other Lost u e left on runs = runs

  close_on : (more : List RoundEnd) (next other : Talk) (well : Bool) (u : T) (e : E) (left : RunLeft T E)
      → (Runs link events other more u e left → Runs link events next more u e left)
      → AfterClose link events (Runs link events other more) well u e left → AfterClose link events (Runs link events next more) well u e left
  close_on more next other true u e left on runs = on runs
  close_on more next other false u e left on runs = runs

  takes_on : (x : EventData) (u : T) (e : E) (left : RunLeft T E) (P Q : E → Type 0) → ((f : E) → P f → Q f) → TakesEvent link events x u e left P → TakesEvent link events x u e left Q
  takes_on x u e left P Q on (inl cut) = inl cut
  takes_on x u e left P Q on (inr h) = inr (on (events.take e x) h)

  -- What runs so from the rest, once the events before it are taken, runs so from the talk.
  pub runs_from : (t rest : Talk) (said : List EventData) → ComesTo t said rest → (more : List RoundEnd) (u : T) (e : E) (left : RunLeft T E)
      → Runs link events rest more u (all_taken events.take e said) left → Runs link events t more u e left
  runs_from (Over x) rest [] h more u e left runs = subst (λ (t : Talk). Runs link events t more u e left) (over_is x rest h) runs
  runs_from (Over x) rest (y ∷ said) h more u e left runs = absurd (over_once x y said rest h)
  runs_from (Say x next) rest [] h more u e left runs =
      let is : (other : Talk) × (rest ≡ Say x other) × ComesTo next [] other = say_is x next rest h in
      takes_on (Tells x) u e left (λ f. Runs link events is.0 more u f left) (λ f. Runs link events next more u f left) (λ f. runs_from next is.0 [] is.2 more u f left)
      (subst (λ (t : Talk). Runs link events t more u e left) is.1 runs)
  runs_from (Say x next) rest (y ∷ said) h more u e left runs =
      let same : Tells x ≡ y = (one_less (Tells x) y (so_far next []) (after_events said (so_far rest [])) (h [])).0 in
      inr (runs_from next rest said (λ more. (one_less (Tells x) y (so_far next more) (after_events said (so_far rest more)) (h more)).1) more u (events.take e (Tells x)) left
      (subst (λ (y : EventData). Runs link events rest more u (all_taken events.take (events.take e y) said) left) (sym same) runs))
  runs_from (Poll next) rest (y ∷ said) h more u e left runs = absurd (said_none Polls y said (so_far rest []) (h []))
  runs_from (Poll next) rest [] h (x ∷ more) u e left runs =
      let is : (other : RoundEnd → Talk) × (rest ≡ Poll other) × ((e : RoundEnd) → ComesTo (next e) [] (other e)) = poll_is next rest h in
      runs_from (next x) (is.0 x) [] (is.2 x) more u e left (subst (λ (t : Talk). Runs link events t (x ∷ more) u e left) is.1 runs)
  runs_from (Poll next) rest [] h [] u e left runs =
      let is : (other : RoundEnd → Talk) × (rest ≡ Poll other) × ((e : RoundEnd) → ComesTo (next e) [] (other e)) = poll_is next rest h in
      let on : Runs link events (Poll is.0) [] u e left = subst (λ (t : Talk). Runs link events t [] u e left) is.1 runs in
      (on.0, on.1, on.2, present_on next is.0 on.0 on.1 e left (λ x more. runs_from (next x) (is.0 x) [] (is.2 x) more on.1 e left) on.3)
  runs_from (Command c next) rest (y ∷ said) h more u e left runs = absurd (said_none (Commands c) y said (so_far rest []) (h []))
  runs_from (Command c next) rest [] h more u e left runs =
      let is : (other : List ℕ → Talk) × (rest ≡ Command c other) × ((r : List ℕ) → ComesTo (next r) [] (other r)) = command_is c next rest h in
      let on : Runs link events (Command c is.0) more u e left = subst (λ (t : Talk). Runs link events t more u e left) is.1 runs in
      (on.0, on.1, on.2, reply_on c more next is.0 on.0 on.1 e left (λ a f. runs_from (next a) (is.0 a) [] (is.2 a) more on.1 f left) on.3)
  runs_from (Close next) rest (y ∷ said) h more u e left runs = absurd (said_none Closes y said (so_far rest []) (h []))
  runs_from (Close next) rest [] h more u e left runs =
      let is : (other : Talk) × (rest ≡ Close other) × ComesTo next [] other = close_is next rest h in
      let on : Runs link events (Close is.0) more u e left = subst (λ (t : Talk). Runs link events t more u e left) is.1 runs in
      (on.0, on.1, on.2, close_on more next is.0 on.0 on.1 e left (runs_from next is.0 [] is.2 more on.1 e left) on.3)

  -- Where one of the events before the rest is cut, the talk runs to that.
  pub cut_from : (t rest : Talk) (said : List EventData) → ComesTo t said rest → (more : List RoundEnd) (u : T) (e f : E) (left : RunLeft T E)
      → IsCutIn events e said f → Leaves left EventsFailed u f → Runs link events t more u e left
  cut_from t rest [] h more u e f left cut leaves = absurd cut
  cut_from (Over x) rest (y ∷ said) h more u e f left cut leaves = absurd (over_once x y said rest h)
  cut_from (Say x next) rest (y ∷ said) h more u e f left (inl cut) leaves =
      let same : Tells x ≡ y = (one_less (Tells x) y (so_far next []) (after_events said (so_far rest [])) (h [])).0 in
      inl (f, subst (λ (y : EventData). events.cut e y f) (sym same) cut, leaves)
  cut_from (Say x next) rest (y ∷ said) h more u e f left (inr cut) leaves =
      let same : Tells x ≡ y = (one_less (Tells x) y (so_far next []) (after_events said (so_far rest [])) (h [])).0 in
      inr (cut_from next rest said (λ more. (one_less (Tells x) y (so_far next more) (after_events said (so_far rest more)) (h more)).1) more u (events.take e (Tells x)) f left
      (subst (λ (y : EventData). IsCutIn events (events.take e y) said f) (sym same) cut) leaves)
  cut_from (Poll next) rest (y ∷ said) h more u e f left cut leaves = absurd (said_none Polls y said (so_far rest []) (h []))
  cut_from (Command c next) rest (y ∷ said) h more u e f left cut leaves = absurd (said_none (Commands c) y said (so_far rest []) (h []))
  cut_from (Close next) rest (y ∷ said) h more u e f left cut leaves = absurd (said_none Closes y said (so_far rest []) (h []))

-- ---- a response

-- A response is the first event.
first_response : (c r : List ℕ) (told : List EventData) (next rest : Talk) → ((more : List Result) → after_event (Apdu c r) (so_far next more) ≡ after_events told (so_far rest more))
    → (others : List EventData) × (told ≡ Apdu c r ∷ others) × ComesTo next others rest
first_response c r (y ∷ others) next rest h =
    let same : Apdu c r ≡ y = (one_less (Apdu c r) y (so_far next []) (after_events others (so_far rest [])) (h [])).0 in
    (others, ap (λ (y : EventData). y ∷ others) (sym same), λ more. (one_less (Apdu c r) y (so_far next more) (after_events others (so_far rest more)) (h more)).1)
first_response c r [] next (Over z) h = absurd (let es : Apdu c r ∷ (so_far next []).events ≡ End z ∷ [] = ap (λ (s : SoFar). s.events) (h []) in let g : ⊥ = cc in g)
first_response c r [] next (Say v other) h = absurd (let es : Apdu c r ∷ (so_far next []).events ≡ Tells v ∷ (so_far other []).events = ap (λ (s : SoFar). s.events) (h []) in let g : ⊥ = cc in g)
first_response c r [] next (Poll other) h = absurd (let es : Apdu c r ∷ (so_far next []).events ≡ [] = ap (λ (s : SoFar). s.events) (h []) in let g : ⊥ = cc in g)
first_response c r [] next (Command d other) h = absurd (let es : Apdu c r ∷ (so_far next []).events ≡ [] = ap (λ (s : SoFar). s.events) (h []) in let g : ⊥ = cc in g)
first_response c r [] next (Close other) h = absurd (let es : Apdu c r ∷ (so_far next []).events ≡ [] = ap (λ (s : SoFar). s.events) (h []) in let g : ⊥ = cc in g)

module _ {T E : Type 0} (link : TransportSteps T) (events : EventSteps E) (c r : List ℕ) (told : List EventData) (next rest : Talk) (u : T) (e : E) (left : RunLeft T E)
    (h : (more : List Result) → after_event (Apdu c r) (so_far next more) ≡ after_events told (so_far rest more)) where
  pub response_runs : Runs link events rest [] u (all_taken events.take e told) left → TakesEvent link events (Apdu c r) u e left (λ f. Runs link events next [] u f left)
  response_runs runs =
      let is : (others : List EventData) × (told ≡ Apdu c r ∷ others) × ComesTo next others rest = first_response c r told next rest h in
      inr (runs_from link events next rest is.0 is.2 [] u (events.take e (Apdu c r)) left (subst (λ (told : List EventData). Runs link events rest [] u (all_taken events.take e told) left) is.1 runs))

  pub response_cut : (f : E) → IsCutIn events e told f → Leaves left EventsFailed u f → TakesEvent link events (Apdu c r) u e left (λ f. Runs link events next [] u f left)
  response_cut f cut leaves =
      let is : (others : List EventData) × (told ≡ Apdu c r ∷ others) × ComesTo next others rest = first_response c r told next rest h in
      by_first is.0 is.2 (subst (λ (told : List EventData). IsCutIn events e told f) is.1 cut)
    where
      by_first : (others : List EventData) → ComesTo next others rest → IsCutIn events e (Apdu c r ∷ others) f → TakesEvent link events (Apdu c r) u e left (λ f. Runs link events next [] u f left)
      by_first others comes (inl cut) = inl (f, cut, leaves)
      by_first others comes (inr cut) = inr (cut_from link events next rest others comes [] u (events.take e (Apdu c r)) f left cut leaves)
