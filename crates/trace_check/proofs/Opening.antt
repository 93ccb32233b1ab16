-- A link is open exactly where the checker says so.
use Rattle.std.proofs.Common.{◌≡◌, ◌≢◌, ◌⊎◌, ℕ, Bool, true, false, List, [], ◌∷◌, ◌++◌, Option, Some, None, inl, inr, refl, sym, ap, ◌∙◌, subst, ⊎_elim, append-nil, append_assoc}
use Rattle.ep_base.specs.Air.Heard.{Activated, RoundEnd, Found, RoundTurn, Goes, Ends}
use Rattle.ep_base.specs.Link.LinkFrames.{LinkSetting}
use Rattle.ep_base.specs.Poll.Round.{Stage, Waking, round_asks, round_hears}
use Rattle.ep_base.specs.Poll.Polling.{card_in}
use Rattle.ep_base.specs.Poll.Radio.{setting_of}
use Rattle.trace_check.specs.Held.{RoundAt}
use Rattle.trace_check.specs.Lines.{Line}
use Rattle.trace_check.specs.Allowed.{RoundGoes, IsRound, IsLink, IsCut, NoLine, ARound, ALink, IsOpenAfter}
use Rattle.trace_check.specs.declared.watch.Watch.{Watch}
use Rattle.trace_check.specs.declared.watch.Watch.TheVariants as Watching
use Rattle.trace_check.specs.Watch.{is_open, after_end, after_round, steps}
use Rattle.trace_check.proofs.Cuts.{Closed, Begun, from_rest}
use Rattle.trace_check.proofs.Futures.{FromRoundAt, Follows, MayFollow, rested}
use Rattle.trace_check.proofs.Settling.{OpensBy, Wide}
use Rattle.trace_check.proofs.Stepping.{RoundsOn, steps_asked}
use Rattle.trace_check.proofs.Lawful.{IfLawful}
use Rattle.trace_check.proofs.Running.{runs, runs_append, IsGoing, runs_forward, cut_forward, runs_lawful, going_allowed}

-- a link is open
abbrev pub Opened : Option Watch → Type 0
Opened None = ⊥
Opened (Some w) = is_open w ≡ true

-- two ways to cut the same lines
pub record Past (xs rest a b : List Line) : Type 0 where
  pub between : List Line
  pub first : xs ≡ a ++ between
  pub second : b ≡ between ++ rest

pub record Short (xs a : List Line) : Type 0 where
  pub line : Line
  pub lines : List Line
  pub is : a ≡ xs ++ line ∷ lines

split : (xs rest a b : List Line) → xs ++ rest ≡ a ++ b → Past xs rest a b ⊎ Short xs a
split xs rest [] b e = inl (record { between = xs; first = refl; second = sym e })
split [] rest (c ∷ a) b e = inr (record { line = c; lines = a; is = refl })
split (x ∷ xs) rest (c ∷ a) b e =
    let head : x ≡ c = cc (e) in
    let tail : xs ++ rest ≡ a ++ b = cc (e) in
    ⊎_elim
    (λ (p : Past xs rest a b). let f : xs ≡ a ++ p.between = p.first in inl (record { between = p.between; first = cc (head, f); second = p.second }))
    (λ (s : Short xs a). let f : a ≡ xs ++ s.line ∷ s.lines = s.is in inr (record { line = s.line; lines = s.lines; is = cc (head, f) }))
    (split xs rest a b tail)

-- a link with no command open isn't over
none_rest : (After : List Line → Type 0) (set : LinkSetting) (number : Bool) → Follows After (λ (r : RoundAt) (ls : List Line). ⊥) (Watching.Resting set number) [] → ⊥
none_rest After set number f =
    ⊎_elim
    (λ (c : Closed After set []). let e : [] ≡ c.line ∷ c.rest = c.parts in cc (e))
    (λ (b : Begun After set (rested number) []). b.goes)
    (from_rest After set (rested number) [] f)

module _ (fsdi : ℕ) where
  -- ---- rounds

  round_step : (stage : Stage) (l : Line) (ls : List Line) (e : RoundEnd) → RoundGoes fsdi (Goes stage) (l ∷ ls) e
      → steps fsdi (Watching.InRound (record { fsdi = fsdi; stage = stage })) l ≡ Some (after_round fsdi (round_hears stage l.heard))
  round_step stage l ls e g = steps_asked (Watching.InRound (record { fsdi = fsdi; stage = stage })) (round_asks fsdi stage) l refl g.0

  turn_runs : (turn : RoundTurn Stage) (ls : List Line) (e : RoundEnd) → RoundGoes fsdi turn ls e → runs fsdi (Some (after_round fsdi turn)) ls ≡ Some (after_end fsdi (card_in e))
  turn_runs (Goes stage) [] e g = absurd g
  turn_runs (Goes stage) (l ∷ ls) e g = ap (λ (o : Option Watch). runs fsdi o ls) (round_step stage l ls e g) ∙ turn_runs (round_hears stage l.heard) ls e g.1
  turn_runs (Ends end) [] e g = ap (λ (x : RoundEnd). Some (after_end fsdi (card_in x))) g
  turn_runs (Ends end) (l ∷ ls) e g = absurd g

  round_runs : (ls : List Line) (e : RoundEnd) → IsRound fsdi ls e → runs fsdi (Some Watching.Ready) ls ≡ Some (after_end fsdi (card_in e))
  round_runs [] e g = absurd g
  round_runs (l ∷ ls) e g = turn_runs (Goes Waking) (l ∷ ls) e g

  turn_inside : (turn : RoundTurn Stage) (xs : List Line) (l : Line) (ls : List Line) (e : RoundEnd) → RoundGoes fsdi turn (xs ++ l ∷ ls) e → Opened (runs fsdi (Some (after_round fsdi turn)) xs) → ⊥
  turn_inside (Goes stage) [] l ls e g o = cc (o)
  turn_inside (Goes stage) (x ∷ xs) l ls e g o =
      turn_inside (round_hears stage x.heard) xs l ls e g.1 (subst (λ (w : Option Watch). Opened (runs fsdi w xs)) (round_step stage x (xs ++ l ∷ ls) e g) o)
  turn_inside (Ends end) [] l ls e g o = absurd g
  turn_inside (Ends end) (x ∷ xs) l ls e g o = absurd g

  round_inside : (xs round : List Line) (e : RoundEnd) → IsRound fsdi round e → Short xs round → Opened (runs fsdi (Some Watching.Ready) xs) → ⊥
  round_inside [] round e g s o = cc (o)
  round_inside (x ∷ xs) round e g s o = turn_inside (Goes Waking) (x ∷ xs) s.line s.lines e (subst (λ (r : List Line). IsRound fsdi r e) s.is g) o

  -- ---- what is whole

  ended : (o : Option Watch) → MayFollow (IsCut fsdi) (FromRoundAt fsdi) o [] → o ≡ Some Watching.Ready
  ended None f = absurd f
  ended (Some Watching.Ready) f = refl
  ended (Some (Watching.InRound round)) f = absurd f.1
  ended (Some (Watching.Resting set number)) f = absurd (none_rest (IsCut fsdi) set number f)
  ended (Some (Watching.Closing set)) f = absurd f
  ended (Some (Watching.Between set number sent)) f = absurd f.goes
  ended (Some (Watching.Sending t p)) f = absurd f.goes
  ended (Some (Watching.Receiving t got)) f = absurd f.goes

  cut_runs : (ls : List Line) → IsCut fsdi ls → runs fsdi (Some Watching.Ready) ls ≡ Some Watching.Ready
  cut_runs ls cut = ended (runs fsdi (Some Watching.Ready) ls) (cut_forward fsdi ls [] (Some Watching.Ready) tt (subst (IsCut fsdi) (sym (append-nil ls)) cut))

  -- ---- links

  -- nothing follows a link
  abbrev Nothing : List Line → Type 0
  Nothing ls = ls ≡ []

  abbrev NoRound : RoundAt → List Line → Type 0
  NoRound round ls = ⊥

  never_opens : OpensBy Nothing NoRound fsdi
  never_opens l ls e = cc (e)

  no_rounds : RoundsOn Nothing NoRound
  no_rounds round l ls f = absurd f

  link_follows : (set : LinkSetting) (ls : List Line) → IsLink set ls → Follows Nothing NoRound (Watching.Resting set false) ls
  link_follows set ls is = record { link = ls; rest = []; commands = is.0; parts = sym (append-nil ls); goes = is.1; cut = refl }

  link_ended : (o : Option Watch) → MayFollow Nothing NoRound o [] → o ≡ Some Watching.Ready
  link_ended None f = absurd f
  link_ended (Some Watching.Ready) f = refl
  link_ended (Some (Watching.InRound round)) f = absurd f
  link_ended (Some (Watching.Resting set number)) f = absurd (none_rest Nothing set number f)
  link_ended (Some (Watching.Closing set)) f = absurd f
  link_ended (Some (Watching.Between set number sent)) f = absurd f.goes
  link_ended (Some (Watching.Sending t p)) f = absurd f.goes
  link_ended (Some (Watching.Receiving t got)) f = absurd f.goes

  link_runs : (set : LinkSetting) (ls : List Line) → Wide set → IsLink set ls → runs fsdi (Some (Watching.Resting set false)) ls ≡ Some Watching.Ready
  link_runs set ls wide is =
      link_ended (runs fsdi (Some (Watching.Resting set false)) ls)
      (runs_forward fsdi Nothing NoRound never_opens no_rounds ls [] (Some (Watching.Resting set false)) wide (subst (λ (x : List Line). Follows Nothing NoRound (Watching.Resting set false) x) (sym (append-nil ls)) (link_follows set ls is)))

  opened_by : (o : Option Watch) (ls : List Line) → ls ≢ [] → MayFollow Nothing NoRound o ls → Opened o
  opened_by None ls some f = absurd f
  opened_by (Some Watching.Ready) ls some f = absurd (some f)
  opened_by (Some (Watching.InRound round)) ls some f = absurd f
  opened_by (Some (Watching.Resting set number)) ls some f = refl
  opened_by (Some (Watching.Closing set)) ls some f = refl
  opened_by (Some (Watching.Between set number sent)) ls some f = refl
  opened_by (Some (Watching.Sending t p)) ls some f = refl
  opened_by (Some (Watching.Receiving t got)) ls some f = refl

  link_opened : (set : LinkSetting) (part rest : List Line) → Wide set → rest ≢ [] → IsLink set (part ++ rest) → Opened (runs fsdi (Some (Watching.Resting set false)) part)
  link_opened set part rest wide some is =
      opened_by (runs fsdi (Some (Watching.Resting set false)) part) rest some
      (runs_forward fsdi Nothing NoRound never_opens no_rounds part rest (Some (Watching.Resting set false)) wide (link_follows set (part ++ rest) is))

  wide_after : (round : List Line) (card : Activated) → IsRound fsdi round (Found card) → Wide (setting_of fsdi card)
  wide_after round card g = subst (IfLawful fsdi) (round_runs round (Found card) g) (runs_lawful fsdi round (Some Watching.Ready) tt)

  -- ---- both ways

  pub after_opened : (xs : List Line) → IsOpenAfter fsdi xs → Opened (runs fsdi (Some Watching.Ready) xs)
  after_opened xs a =
      let set : LinkSetting = setting_of fsdi a.card in
      let first : runs fsdi (Some Watching.Ready) (a.before ++ (a.round ++ a.part)) ≡ runs fsdi (Some Watching.Ready) (a.round ++ a.part) =
      runs_append fsdi (Some Watching.Ready) a.before (a.round ++ a.part) ∙ ap (λ (o : Option Watch). runs fsdi o (a.round ++ a.part)) (cut_runs a.before a.cut) in
      let second : runs fsdi (Some Watching.Ready) (a.round ++ a.part) ≡ runs fsdi (Some (Watching.Resting set false)) a.part =
      runs_append fsdi (Some Watching.Ready) a.round a.part ∙ ap (λ (o : Option Watch). runs fsdi o a.part) (round_runs a.round (Found a.card) a.found) in
      subst Opened (sym (ap (runs fsdi (Some Watching.Ready)) a.parts ∙ first ∙ second))
      (link_opened set a.part a.rest (wide_after a.round a.card a.found) a.going a.link)

  after_round_opened : (xs round between : List Line) (e : RoundEnd) → IsRound fsdi round e → xs ≡ round ++ between → Opened (runs fsdi (Some Watching.Ready) xs) → Opened (runs fsdi (Some (after_end fsdi (card_in e))) between)
  after_round_opened xs round between e g is o =
      subst Opened (ap (runs fsdi (Some Watching.Ready)) is ∙ runs_append fsdi (Some Watching.Ready) round between ∙ ap (λ (w : Option Watch). runs fsdi w between) (round_runs round e g)) o

  with_round : (xs round between : List Line) (e : RoundEnd) → IsRound fsdi round e → card_in e ≡ None → xs ≡ round ++ between → IsOpenAfter fsdi between → IsOpenAfter fsdi xs
  with_round xs round between e g none is a = record {
    before = round ++ a.before;
    round = a.round;
    part = a.part;
    rest = a.rest;
    card = a.card;
    parts = is ∙ ap (λ (l : List Line). round ++ l) a.parts ∙ sym (append_assoc round a.before (a.round ++ a.part));
    cut = ARound (round ++ a.before) round a.before e refl g none a.cut;
    found = a.found;
    link = a.link;
    going = a.going;
  }

  with_link : (xs round link between : List Line) (card : Activated) → IsRound fsdi round (Found card) → IsLink (setting_of fsdi card) link → xs ≡ round ++ (link ++ between) → IsOpenAfter fsdi between → IsOpenAfter fsdi xs
  with_link xs round link between card g l is a = record {
    before = round ++ (link ++ a.before);
    round = a.round;
    part = a.part;
    rest = a.rest;
    card = a.card;
    parts =
        is ∙ ap (λ (x : List Line). round ++ (link ++ x)) a.parts ∙ ap (λ (x : List Line). round ++ x) (sym (append_assoc link a.before (a.round ++ a.part)))
        ∙ sym (append_assoc round (link ++ a.before) (a.round ++ a.part));
    cut = ALink (round ++ (link ++ a.before)) round link a.before card refl g l a.cut;
    found = a.found;
    link = a.link;
    going = a.going;
  }

  within : (xs round part link : List Line) (card : Activated) → IsRound fsdi round (Found card) → IsLink (setting_of fsdi card) link → xs ≡ round ++ part → Short part link → IsOpenAfter fsdi xs
  within xs round part link card g l is s = record {
    before = [];
    round = round;
    part = part;
    rest = s.line ∷ s.lines;
    card = card;
    parts = is;
    cut = NoLine [] refl;
    found = g;
    link = subst (IsLink (setting_of fsdi card)) s.is l;
    going = λ e. cc (e);
  }

  no_lines : (xs rest : List Line) → xs ++ rest ≡ [] → Opened (runs fsdi (Some Watching.Ready) xs) → ⊥
  no_lines [] rest e o = cc (o)
  no_lines (x ∷ xs) rest e o = cc (e)

  by_cut : (ys : List Line) → IsCut fsdi ys → (xs rest : List Line) → xs ++ rest ≡ ys → Opened (runs fsdi (Some Watching.Ready) xs) → IsOpenAfter fsdi xs
  by_cut _ (NoLine ys e) xs rest same o = absurd (no_lines xs rest (same ∙ e) o)
  by_cut _ (ARound ys round later e parts g none cut) xs rest same o =
      ⊎_elim
      (λ (p : Past xs rest round later).
      with_round xs round p.between e g none p.first
      (by_cut later cut p.between rest (sym p.second) (subst (λ (c : Option Activated). Opened (runs fsdi (Some (after_end fsdi c)) p.between)) none (after_round_opened xs round p.between e g p.first o))))
      (λ (s : Short xs round). absurd (round_inside xs round e g s o))
      (split xs rest round later (same ∙ parts))
  by_cut _ (ALink ys round link later card parts g l cut) xs rest same o =
      ⊎_elim
      (λ (p : Past xs rest round (link ++ later)).
      let opened : Opened (runs fsdi (Some (Watching.Resting (setting_of fsdi card) false)) p.between) = after_round_opened xs round p.between (Found card) g p.first o in
      ⊎_elim
      (λ (q : Past p.between rest link later).
      with_link xs round link q.between card g l (p.first ∙ ap (λ (x : List Line). round ++ x) q.first)
      (by_cut later cut q.between rest (sym q.second)
      (subst Opened
      (ap (runs fsdi (Some (Watching.Resting (setting_of fsdi card) false))) q.first ∙ runs_append fsdi (Some (Watching.Resting (setting_of fsdi card) false)) link q.between
      ∙ ap (λ (w : Option Watch). runs fsdi w q.between) (link_runs (setting_of fsdi card) link (wide_after round card g) l))
      opened)))
      (λ (s : Short p.between link). within xs round p.between link card g l p.first s)
      (split p.between rest link later (sym p.second)))
      (λ (s : Short xs round). absurd (round_inside xs round (Found card) g s o))
      (split xs rest round (link ++ later) (same ∙ parts))

  going_of : (o : Option Watch) → Opened o → IsGoing o
  going_of None h = absurd h
  going_of (Some w) h = tt

  pub opened_after : (xs : List Line) → Opened (runs fsdi (Some Watching.Ready) xs) → IsOpenAfter fsdi xs
  opened_after xs o =
      let a = going_allowed fsdi xs (going_of (runs fsdi (Some Watching.Ready) xs) o) in
      by_cut (xs ++ a.0) a.1 xs a.0 refl o
