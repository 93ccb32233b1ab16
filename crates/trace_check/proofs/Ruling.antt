-- The rule that the checker names is the first that applies.
use Rattle.std.proofs.Common.{◌≡◌, ◌≢◌, ℕ, ◌==◌, ◌&&◌, Bool, true, false, List, [], ◌∷◌, ◌++◌, Option, Some, None, refl, sym, ap, ◌∙◌, subst}
use Rattle.std.specs.Prelude.{if◌then◌else◌}
use Rattle.std.proofs.lemmas.Bool.{eq-eqb}
use Rattle.ep_base.specs.Air.Heard.{Ask, Silence}
use Rattle.trace_check.specs.Held.{RoundAt}
use Rattle.trace_check.specs.Lines.{Line}
use Rattle.trace_check.specs.Allowed.{IsAllowed, IsOpenAfter}
use Rattle.trace_check.specs.Verdicts.{silenced, IsCards, IsOfWait, IsRule}
use Rattle.trace_check.specs.declared.watch.Watch.{Watch}
use Rattle.trace_check.specs.declared.watch.Watch.TheVariants as Watching
use Rattle.trace_check.specs.declared.verdict.Rule.{Rule}
use Rattle.trace_check.specs.declared.verdict.Rule.TheVariants as rules
use Rattle.trace_check.specs.Watch.{is_open, asks, settles, hears, has_frame, has_wait, is_frame, is_wait, steps_settled, steps_by, steps, rule_by, rule_settled, rule_of}
use Rattle.trace_check.proofs.Running.{runs, runs_append, IsGoing, allowed_going, going_allowed, IfSettled, settled}
use Rattle.trace_check.proofs.Opening.{Opened, after_opened, opened_after}

-- nothing is known of what follows
abbrev Any : List Line → Type 0
Any ls = Unit {0}

abbrev AnyRound : RoundAt → List Line → Type 0
AnyRound round ls = Unit {0}

module _ (fsdi : ℕ) where
  -- ---- one more line

  pub last_line : (xs : List Line) (w : Watch) (l : Line) → runs fsdi (Some Watching.Ready) xs ≡ Some w → runs fsdi (Some Watching.Ready) (xs ++ l ∷ []) ≡ steps fsdi w l
  last_line xs w l e = runs_append fsdi (Some Watching.Ready) xs (l ∷ []) ∙ ap (λ (o : Option Watch). runs fsdi o (l ∷ [])) e

  pub line_going : (xs : List Line) (w : Watch) (l : Line) → runs fsdi (Some Watching.Ready) xs ≡ Some w → IsAllowed fsdi (xs ++ l ∷ []) → IsGoing (steps fsdi w l)
  line_going xs w l e a = subst IsGoing (last_line xs w l e) (allowed_going fsdi (xs ++ l ∷ []) a)

  pub line_allowed : (xs : List Line) (w : Watch) (l : Line) → runs fsdi (Some Watching.Ready) xs ≡ Some w → IsGoing (steps fsdi w l) → IsAllowed fsdi (xs ++ l ∷ [])
  line_allowed xs w l e g = going_allowed fsdi (xs ++ l ∷ []) (subst IsGoing (sym (last_line xs w l e)) g)

  -- ---- silence

  silence_goes : (w : Watch) → IfSettled fsdi Any AnyRound (Some w) → IsGoing (hears w Silence)
  silence_goes Watching.Ready s = absurd s
  silence_goes (Watching.InRound round) s = tt
  silence_goes (Watching.Resting set number) s = absurd s
  silence_goes (Watching.Closing set) s = tt
  silence_goes (Watching.Between set number sent) s = absurd s
  silence_goes (Watching.Sending t p) s = tt
  silence_goes (Watching.Receiving t got) s = tt

  module _ (opened : Bool) (l : Line) where
    -- the rules, by what is asked
    abbrev OfCard : Option Watch → Type 0
    OfCard o = IsGoing (steps_by o (silenced l.wait l))

    abbrev OfWait : Option Watch → Type 0
    OfWait o = (wait : ℕ) × (wait ≢ l.wait) × IsGoing (steps_by o (silenced wait l))

    abbrev Applies : Option Watch → Rule → Type 0
    Applies o rules.Card = OfCard o
    Applies o rules.Wait = (OfCard o → ⊥) × OfWait o
    Applies o rules.Reader = (OfCard o → ⊥) × (OfWait o → ⊥) × (opened ≡ true)
    Applies o rules.Activation = (OfCard o → ⊥) × (OfWait o → ⊥) × (opened ≡ true → ⊥)

    by_opened : (o : Option Watch) (b : Bool) → opened ≡ b → (OfCard o → ⊥) → (OfWait o → ⊥) → Applies o (rule_by b)
    by_opened o true e c w = (c, w, e)
    by_opened o false e c w = (c, w, λ t. cc (t, e))

    wrong_frame : (w : Watch) → is_frame (asks w) l ≡ false → (wait : ℕ) → IsGoing (steps_settled w (silenced wait l)) → ⊥
    wrong_frame w e wait g = subst (λ (b : Bool). IsGoing (if b && has_wait (asks w) wait then hears w Silence else None)) e g

    some_wait : (w : Watch) (o : Option Ask) → asks w ≡ o → IfSettled fsdi Any AnyRound (Some w) → is_frame o l ≡ true → is_wait o l ≡ false → OfWait (Some w)
    some_wait w None e s f t = absurd (cc (f))
    some_wait w (Some ask) e s f t = (
      ask.wait,
      (λ same. let yes_wait : (l.wait == ask.wait) ≡ true = eq-eqb l.wait ask.wait (sym same) in cc (yes_wait, t)),
      subst (λ (o : Option Ask). IsGoing (if has_frame o l.wave l.frame && has_wait o ask.wait then hears w Silence else None)) (sym e)
          (subst (λ (b : Bool). IsGoing (if b && (ask.wait == ask.wait) then hears w Silence else None)) (sym f)
          (subst (λ (b : Bool). IsGoing (if b then hears w Silence else None)) (sym (eq-eqb ask.wait ask.wait refl)) (silence_goes w s))),
    )

    right_frame : (w : Watch) (t : Bool) → IfSettled fsdi Any AnyRound (Some w) → is_frame (asks w) l ≡ true → is_wait (asks w) l ≡ t → Applies (Some w) (if t then rules.Card else rules.Wait)
    right_frame w true s f t =
        subst (λ (b : Bool). IsGoing (if b && is_wait (asks w) l then hears w Silence else None)) (sym f)
        (subst (λ (b : Bool). IsGoing (if b then hears w Silence else None)) (sym t) (silence_goes w s))
    right_frame w false s f t = (
      (λ g. let h = subst (λ (b : Bool). IsGoing (if b && is_wait (asks w) l then hears w Silence else None)) f g in
          subst (λ (b : Bool). IsGoing (if b then hears w Silence else None)) t h),
      some_wait w (asks w) refl s f t,
    )

    by_frame : (w : Watch) (f : Bool) → IfSettled fsdi Any AnyRound (Some w) → is_frame (asks w) l ≡ f → Applies (Some w) (if f then (if is_wait (asks w) l then rules.Card else rules.Wait) else rule_by opened)
    by_frame w true s e = right_frame w (is_wait (asks w) l) s e refl
    by_frame w false s e = by_opened (Some w) opened refl (λ g. wrong_frame w e l.wait g) (λ g. wrong_frame w e g.0 g.2)

    applies : (o : Option Watch) → IfSettled fsdi Any AnyRound o → Applies o (rule_settled opened o l)
    applies None s = by_opened None opened refl (λ g. g) (λ g. g.2)
    applies (Some w) s = by_frame w (is_frame (asks w) l) s refl

  -- ---- the rules as they are defined

  module _ (xs : List Line) (w : Watch) (l : Line) (e : runs fsdi (Some Watching.Ready) xs ≡ Some w) where
    abbrev at : Option Watch
    at = settles fsdi w l.wave l.frame

    cards : IsCards fsdi xs l → OfCard (is_open w) l at
    cards a = line_going xs w (silenced l.wait l) e a

    of_wait : IsOfWait fsdi xs l → OfWait (is_open w) l at
    of_wait a = (a.0, a.1, line_going xs w (silenced a.0 l) e a.2)

    opens : IsOpenAfter fsdi xs → is_open w ≡ true
    opens a = subst Opened e (after_opened fsdi xs a)

    is_rule : (r : Rule) → Applies (is_open w) l at r → IsRule fsdi xs l r
    is_rule rules.Card h = line_allowed xs w (silenced l.wait l) e h
    is_rule rules.Wait h = ((λ a. h.0 (cards a)), (h.1.0, h.1.1, line_allowed xs w (silenced h.1.0 l) e h.1.2))
    is_rule rules.Reader h = ((λ a. h.0 (cards a)), (λ a. h.1 (of_wait a)), opened_after fsdi xs (subst Opened (sym e) h.2))
    is_rule rules.Activation h = ((λ a. h.0 (cards a)), (λ a. h.1 (of_wait a)), (λ a. h.2 (opens a)))

    pub rule_is : IsRule fsdi xs l (rule_of fsdi w l)
    rule_is = is_rule (rule_of fsdi w l) (applies (is_open w) l at (settled fsdi Any AnyRound w l.wave l.frame))
