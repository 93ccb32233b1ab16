-- Lines are allowed exactly where the checker takes each of them.
use Rattle.std.proofs.Common.{◌≡◌, ℕ, Bool, true, false, List, [], ◌∷◌, ◌++◌, Option, Some, None, refl, sym, subst, ⊎_elim}
use Rattle.std.specs.Prelude.{if◌then◌else◌}
use Rattle.ep_base.specs.declared.air.Wave.{Wave}
use Rattle.ep_base.specs.Link.LinkFrames.{LinkSetting}
use Rattle.ep_base.specs.Poll.Round.{round_asks, round_hears}
use Rattle.trace_check.specs.Held.{RoundAt, Inf}
use Rattle.trace_check.specs.Lines.{Line}
use Rattle.trace_check.specs.Allowed.{Sends, IsCut, IsAllowed}
use Rattle.trace_check.specs.declared.watch.Watch.{Watch}
use Rattle.trace_check.specs.declared.watch.Watch.TheVariants as Watching
use Rattle.trace_check.specs.Watch.{part_in, is_part, fresh, settles_rest, settles_next, settles, steps_by, steps}
use Rattle.trace_check.proofs.Cuts.{from_cut}
use Rattle.trace_check.proofs.Futures.{FromRoundAt, Follows, MayFollow, MayFit}
use Rattle.trace_check.proofs.Settling.{OpensBy, settles_forward, settles_back}
use Rattle.trace_check.proofs.Stepping.{RoundsOn, IsSettled, asked_forward, asked_back, round_after, follows_round}
use Rattle.trace_check.proofs.Lawful.{Lawful, IfLawful, is_wide, has_left, settles_lawful, steps_lawful}
use Rattle.trace_check.proofs.Completing.{Completion, completes}

-- the lane after one more line
abbrev pub then_steps : ℕ → Option Watch → Line → Option Watch
then_steps fsdi None l = None
then_steps fsdi (Some w) l = steps fsdi w l

-- the lane after further lines
abbrev pub runs : ℕ → Option Watch → List Line → Option Watch
runs fsdi o [] = o
runs fsdi o (l ∷ ls) = runs fsdi (then_steps fsdi o l) ls

pub runs_append : (fsdi : ℕ) (o : Option Watch) (xs ys : List Line) → runs fsdi o (xs ++ ys) ≡ runs fsdi (runs fsdi o xs) ys
runs_append fsdi o [] ys = refl
runs_append fsdi o (x ∷ xs) ys = runs_append fsdi (then_steps fsdi o x) xs ys

-- each line was taken
abbrev pub IsGoing : Option Watch → Type 0
IsGoing None = ⊥
IsGoing (Some w) = Unit {0}

-- ---- forward

module _ (fsdi : ℕ) (After : List Line → Type 0) (Round : RoundAt → List Line → Type 0) where
  abbrev pub IfSettled : Option Watch → Type 0
  IfSettled None = Unit {0}
  IfSettled (Some w) = IsSettled After Round w

  begins_settled : (set : LinkSetting) (number : Bool) (sent : List ℕ) (inf : Inf) (b : Bool)
      → IfSettled (if b then Some (Watching.Sending (fresh set number) (record { sent = sent; part = inf.bytes; chained = inf.chained })) else None)
  begins_settled set number sent inf true = tt
  begins_settled set number sent inf false = tt

  rest_settled : (set : LinkSetting) (number : Bool) (o : Option Inf) → IfSettled (settles_rest set number o)
  rest_settled set number None = tt
  rest_settled set number (Some inf) = begins_settled set number [] inf (is_part _ [] inf)

  next_settled : (set : LinkSetting) (number : Bool) (sent : List ℕ) (o : Option Inf) → IfSettled (settles_next set number sent o)
  next_settled set number sent None = tt
  next_settled set number sent (Some inf) = begins_settled set number sent inf (is_part _ sent inf)

  pub settled : (w : Watch) (wave : Wave) (frame : List ℕ) → IfSettled (settles fsdi w wave frame)
  settled Watching.Ready wave frame = tt
  settled (Watching.InRound round) wave frame = tt
  settled (Watching.Resting set number) wave frame = rest_settled set number (part_in set wave frame)
  settled (Watching.Closing set) wave frame = tt
  settled (Watching.Between set number sent) wave frame = next_settled set number sent (part_in set wave frame)
  settled (Watching.Sending t p) wave frame = tt
  settled (Watching.Receiving t got) wave frame = tt

  by_settled : RoundsOn After Round → (o : Option Watch) (l : Line) (ls : List Line) → IfSettled o → MayFollow After Round o (l ∷ ls) → MayFollow After Round (steps_by o l) ls
  by_settled on None l ls s f = absurd f
  by_settled on (Some w) l ls s f = asked_forward After Round on w l ls s f

  pub steps_forward : OpensBy After Round fsdi → RoundsOn After Round → (w : Watch) (l : Line) (ls : List Line) → Lawful fsdi w → Follows After Round w (l ∷ ls) → MayFollow After Round (steps fsdi w l) ls
  steps_forward opens on w l ls h f =
      by_settled on (settles fsdi w l.wave l.frame) l ls (settled w l.wave l.frame) (settles_forward After Round fsdi opens w l ls (is_wide fsdi w h) f)

  pub runs_forward : OpensBy After Round fsdi → RoundsOn After Round → (xs rest : List Line) (o : Option Watch) → IfLawful fsdi o → MayFollow After Round o (xs ++ rest) → MayFollow After Round (runs fsdi o xs) rest
  runs_forward opens on [] rest o h f = f
  runs_forward opens on (x ∷ xs) rest None h f = absurd f
  runs_forward opens on (x ∷ xs) rest (Some w) h f = runs_forward opens on xs rest (steps fsdi w x) (steps_lawful fsdi w x h) (steps_forward opens on w x (xs ++ rest) h f)

module _ (fsdi : ℕ) where
  -- lines that can be cut begin with a round
  opens : OpensBy (IsCut fsdi) (FromRoundAt fsdi) fsdi
  opens l ls cut = ⊎_elim (λ (e : l ∷ ls ≡ []). absurd cc) (λ f. (refl, f)) (from_cut fsdi (l ∷ ls) cut)

  rounds_on : RoundsOn (IsCut fsdi) (FromRoundAt fsdi)
  rounds_on round l ls f = (
    subst (λ (n : ℕ). Sends l (round_asks n round.stage)) (sym f.0) f.1.0,
    follows_round fsdi round.fsdi (round_hears round.stage l.heard) ls (round_after fsdi round.fsdi (round_hears round.stage l.heard) ls f.0 f.1.1),
  )

  pub cut_forward : (xs rest : List Line) (o : Option Watch) → IfLawful fsdi o → MayFollow (IsCut fsdi) (FromRoundAt fsdi) o (xs ++ rest) → MayFollow (IsCut fsdi) (FromRoundAt fsdi) (runs fsdi o xs) rest
  cut_forward xs rest o h f = runs_forward fsdi (IsCut fsdi) (FromRoundAt fsdi) opens rounds_on xs rest o h f

  going_by : (o : Option Watch) (rest : List Line) → MayFollow (IsCut fsdi) (FromRoundAt fsdi) o rest → IsGoing o
  going_by None rest f = absurd f
  going_by (Some w) rest f = tt

  pub allowed_going : (xs : List Line) → IsAllowed fsdi xs → IsGoing (runs fsdi (Some Watching.Ready) xs)
  allowed_going xs a = going_by (runs fsdi (Some Watching.Ready) xs) a.0 (cut_forward xs a.0 (Some Watching.Ready) tt a.1)

  -- ---- back

  by_back : (o : Option Watch) (l : Line) (ls : List Line) → IfLawful fsdi o → MayFit fsdi (steps_by o l) ls → MayFit fsdi o (l ∷ ls)
  by_back None l ls h f = absurd f
  by_back (Some w) l ls h f = asked_back fsdi w l ls (has_left fsdi w h) f

  runs_back : (xs rest : List Line) (o : Option Watch) → IfLawful fsdi o → MayFit fsdi (runs fsdi o xs) rest → MayFit fsdi o (xs ++ rest)
  runs_back [] rest o h f = f
  runs_back (x ∷ xs) rest None h f = runs_back xs rest None h f
  runs_back (x ∷ xs) rest (Some w) h f =
      settles_back fsdi w x.wave x.frame (x ∷ (xs ++ rest)) (is_wide fsdi w h)
      (by_back (settles fsdi w x.wave x.frame) x (xs ++ rest) (settles_lawful fsdi w x.wave x.frame h) (runs_back xs rest (steps fsdi w x) (steps_lawful fsdi w x h) f))

  pub runs_lawful : (xs : List Line) (o : Option Watch) → IfLawful fsdi o → IfLawful fsdi (runs fsdi o xs)
  runs_lawful [] o h = h
  runs_lawful (x ∷ xs) None h = runs_lawful xs None h
  runs_lawful (x ∷ xs) (Some w) h = runs_lawful xs (steps fsdi w x) (steps_lawful fsdi w x h)

  -- some lines complete them
  abbrev SomeRest : Option Watch → Type 0
  SomeRest o = (rest : List Line) × MayFit fsdi o rest

  some_rest : (o : Option Watch) → IfLawful fsdi o → IsGoing o → SomeRest o
  some_rest None h g = absurd g
  some_rest (Some w) h g = let c : Completion fsdi w = completes fsdi w h in (c.rest, c.fits)

  pub going_allowed : (xs : List Line) → IsGoing (runs fsdi (Some Watching.Ready) xs) → IsAllowed fsdi xs
  going_allowed xs g =
      let r : SomeRest (runs fsdi (Some Watching.Ready) xs) = some_rest (runs fsdi (Some Watching.Ready) xs) (runs_lawful xs (Some Watching.Ready) tt) g in
      (r.0, runs_back xs r.0 (Some Watching.Ready) tt r.1)
