-- How the cause of an end shows.
use Rattle.std.proofs.Common.{◌≡◌, ℕ, suc, ◌+◌, ◌-◌, ◌∷◌, ◌++◌, Bool, true, false, List, [], length, map, Option, Some, refl, ap, sym, subst, ◌∙◌, arith, append_assoc}
use Rattle.std.specs.Prelude.{All, cond, reverse, nat_le, ◌&&◌}
use Rattle.std.proofs.lemmas.List.{map-append, reverse-append, reverse-reverse, length-append}
use Rattle.std.proofs.lemmas.List.Elements.{All-append, All-cons, All-nil}
use Rattle.block_reader.specs.Stands.{Held, Says, KeepsLast, is_spent}
use Rattle.block_reader.specs.declared.ends.Next.TheVariants as nexts
use Rattle.block_reader.specs.declared.ends.LinkEnd.{LinkEnd}
use Rattle.block_reader.specs.declared.ends.LinkEnd.TheVariants as failures
use Rattle.ep_base.specs.declared.limits.TheConstants.{ROUNDS}
use Rattle.ep_base.specs.Link.Block.{ReadBlock, is_bad, count}
use Rattle.ep_base.specs.Link.Carry.{turn_on}
use Rattle.ep_base.specs.declared.outcome.OutcomeKind.{OutcomeKind}
use Rattle.ep_base.specs.Air.Heard.{Heard, RoundEnd}
use Rattle.ep_base.specs.Link.LinkEvents.{AreSince, kept_after, exchange_of}
use Rattle.ep_base.specs.Link.LinkFrames.{LinkSetting, Kept, heard_block}
use Rattle.ep_base.specs.Poll.Radio.{OpenLink}
use Rattle.ep_base.specs.Link.ReaderEnd.{Reader, Phase, ReaderTurn, Asks, Gives, Spends, Breaks}
use Rattle.ep_rules.specs.EntryPoint.Event.{Event as EventData, Tells, Outcome, Verdict}
use Rattle.ep_claim.specs.Lanes.Standing.{Doing, Carries}
use Rattle.kernel_port.specs.declared.event.End.{End}
use Rattle.kernel_port.specs.declared.event.End.TheVariants as ending
use Rattle.session_phases.specs.Causes.{FindsNone, block_in, bad_in, SpentOver, BrokenOver, FailsOver, HasOutcome}
use Rattle.session_phases.specs.Plain as plain
use Rattle.session_phases.specs.Shown.{FitsThen, LeftThen, NoneThen, PollsThen, NoRoundThen, NoFailureThen, DoneThen, FailsThen, FailedThen}
use Rattle.session_phases.specs.Told.{message_said, outcome_said}

-- The end of a transaction whose link has failed so.
abbrev pub end_of_failure : LinkEnd → End
end_of_failure (failures.Spent bad) = ending.Link
end_of_failure (failures.Breach b) = ending.Breach
end_of_failure failures.Device = ending.Link

-- ---- the exchanges that are kept

counted_so : (a b : Bool) (n : ℕ) → cond a (suc (cond b (suc n) n)) (cond b (suc n) n) ≡ cond b (suc (cond a (suc n) n)) (cond a (suc n) n)
counted_so true true n = refl
counted_so true false n = refl
counted_so false true n = refl
counted_so false false n = refl

-- One more at the end counts as one more at the front.
count_more : (p : ReadBlock → Bool) (x : ReadBlock) (xs : List ReadBlock) → count p (xs ++ x ∷ []) ≡ count p (x ∷ xs)
count_more p x [] = refl
count_more p x (y ∷ ys) = ap (λ (n : ℕ). cond (p y) (suc n) n) (count_more p x ys) ∙ counted_so (p y) (p x) (count p ys)

-- As many exchanges are bad as hearings since the toggle.
bad_kept : (set : LinkSetting) (n : Bool) (phase : Phase) (hs : List ReadBlock) (ks : List Kept) → AreSince set n phase hs ks → bad_in set (reverse ks) ≡ count is_bad hs
bad_kept set n phase [] [] all = refl
bad_kept set n phase [] (k ∷ ks) all = absurd all
bad_kept set n phase (h ∷ hs) [] all = absurd all
bad_kept set n phase (h ∷ hs) (k ∷ ks) all =
    ap (λ (js : List Kept). bad_in set js) (reverse-append (k ∷ []) ks)
    ∙ ap (λ (xs : List ReadBlock). count is_bad xs) (map-append (block_in set) (reverse ks) (k ∷ []))
    ∙ count_more is_bad (block_in set k) (map (block_in set) (reverse ks))
    ∙ ap (λ (n : ℕ). cond (is_bad (block_in set k)) (suc n) n) (bad_kept set n phase hs ks all.2)
    ∙ ap (λ (x : ReadBlock). count is_bad (x ∷ hs)) all.1

-- ---- a failed link

both : (a b : Bool) → true ≡ (a && b) → a ≡ true
both true b is = refl
both false b is = sym is

module _ (set : LinkSetting) (r : Reader) (heard : Heard) (e : Held) (old : List Kept) where
  spent : (bad : ℕ) (t : ReaderTurn) → turn_on set r heard ≡ t → Says (nexts.Failed (failures.Spent bad)) e.set heard t → KeepsLast e heard t → e.set ≡ set
      → e.since ≡ kept_after old r t (exchange_of set r heard) → is_bad (heard_block set.kind set.frames.reader heard) ≡ true → SpentOver heard (record { set = set; reader = r }) e
  spent bad (Spends q) is says last same kept was = record {
    reader = q;
    turn = is;
    third = says.1;
    set_is = same;
    last = record { before = old; kept_is = kept };
    bad = was;
    three = subst (λ (s : LinkSetting). bad_in s e.since ≡ 3) same
        (ap (λ (js : List Kept). bad_in e.set js) (sym (reverse-reverse e.since)) ∙ bad_kept e.set q.number q.phase q.since (reverse e.since) last ∙ says.1);
  }
  spent bad (Asks q) is says last same kept was = absurd says
  spent bad (Gives response q) is says last same kept was = absurd says
  spent bad (Breaks q) is says last same kept was = absurd says

  broken : (b : _) (t : ReaderTurn) → turn_on set r heard ≡ t → Says (nexts.Failed (failures.Breach b)) e.set heard t → e.set ≡ set
      → e.since ≡ kept_after old r t (exchange_of set r heard) → BrokenOver heard (record { set = set; reader = r }) e
  broken b (Breaks q) is says same kept = record { reader = q; turn = is; set_is = same; last = record { before = old; kept_is = kept } }
  broken b (Asks q) is says same kept = absurd says
  broken b (Gives response q) is says same kept = absurd says
  broken b (Spends q) is says same kept = absurd says

  no_device : (t : ReaderTurn) → Says (nexts.Failed failures.Device) e.set heard t → ⊥
  no_device (Asks q) says = says
  no_device (Gives response q) says = says
  no_device (Spends q) says = says
  no_device (Breaks q) says = says

  -- A link that failed shows it.
  pub fails_so : (f : LinkEnd) (n : ℕ) (t : ReaderTurn) → turn_on set r heard ≡ t → Says (nexts.Failed f) e.set heard t → KeepsLast e heard t → e.set ≡ set
      → e.since ≡ kept_after old r t (exchange_of set r heard)
      → is_spent (nexts.Failed f) ≡ (is_bad (heard_block set.kind set.frames.reader heard) && nat_le 2 n)
      → FailsOver (end_of_failure f) heard (record { set = set; reader = r }) e
  fails_so (failures.Spent bad) n t is says last same kept was = spent bad t is says last same kept (both (is_bad (heard_block set.kind set.frames.reader heard)) (nat_le 2 n) was)
  fails_so (failures.Breach b) n t is says last same kept was = broken b t is says same kept
  fails_so failures.Device n t is says last same kept was = absurd (no_device t says)

-- ---- after an exchange

-- The open command's link is the one that failed.
pub carried_failed : (o : plain.Onward) (heard : Heard) (l : OpenLink) (e : Held) (doing : Doing) → doing ≡ Carries l → FailsThen o heard l e → FailedThen o heard doing (Some e)
carried_failed (plain.Ask ask step) heard l e doing is h = tt
carried_failed (plain.Ended ending.Done) heard l e doing is h = tt
carried_failed (plain.Ended ending.Link) heard l e doing is h = record { over = l; carried = is; e = e; link_is = refl; fails = h }
carried_failed (plain.Ended ending.NoCard) heard l e doing is h = tt
carried_failed (plain.Ended ending.Breach) heard l e doing is h = record { over = l; carried = is; e = e; link_is = refl; fails = h }

pub none_failed : (o : plain.Onward) (heard : Heard) (doing : Doing) (link : Option Held) → NoFailureThen o → FailedThen o heard doing link
none_failed (plain.Ask ask step) heard doing link h = tt
none_failed (plain.Ended ending.Done) heard doing link h = tt
none_failed (plain.Ended ending.Link) heard doing link h = absurd h
none_failed (plain.Ended ending.NoCard) heard doing link h = tt
none_failed (plain.Ended ending.Breach) heard doing link h = absurd h

pub left_unfailed : (o : plain.Onward) (left : ℕ) → LeftThen o left → NoFailureThen o
left_unfailed (plain.Ask ask step) left h = tt
left_unfailed (plain.Ended ending.Done) left h = tt
left_unfailed (plain.Ended ending.Link) left h = h
left_unfailed (plain.Ended ending.NoCard) left h = tt
left_unfailed (plain.Ended ending.Breach) left h = h

pub polls_unfailed : (o : plain.Onward) (left : ℕ) → PollsThen o left → NoFailureThen o
polls_unfailed (plain.Ask ask step) left h = tt
polls_unfailed (plain.Ended end) left h = absurd h

pub polls_done : (o : plain.Onward) (left : ℕ) → PollsThen o left → DoneThen o
polls_done (plain.Ask ask step) left h = tt
polls_done (plain.Ended end) left h = absurd h

-- The rounds of a new Start B fit.
pub polls_fit : (o : plain.Onward) (ends : List RoundEnd) → ends ≡ [] → PollsThen o (ROUNDS - 1) → FitsThen o ends
polls_fit (plain.Ask ask (plain.Polling round)) ends none h =
    let empty : length ends ≡ 0 = ap (λ (es : List RoundEnd). length es) none in
    let all : round.left ≡ ROUNDS - 1 = h in
    record { count = omega (arith, empty, all); none = subst (λ (es : List RoundEnd). All FindsNone es) (sym none) (All-nil FindsNone) }
polls_fit (plain.Ask ask (plain.Waiting wish)) ends none h = tt
polls_fit (plain.Ended end) ends none h = absurd h

pub no_round_fits : (o : plain.Onward) (ends : List RoundEnd) → NoRoundThen o → FitsThen o ends
no_round_fits (plain.Ask ask (plain.Polling round)) ends h = absurd h
no_round_fits (plain.Ask ask (plain.Waiting wish)) ends h = tt
no_round_fits (plain.Ended ending.Done) ends h = tt
no_round_fits (plain.Ended ending.Link) ends h = tt
no_round_fits (plain.Ended ending.NoCard) ends h = absurd h
no_round_fits (plain.Ended ending.Breach) ends h = tt

-- A round that found no card.
pub none_then : (o : plain.Onward) (e : RoundEnd) → FindsNone e → NoneThen o e
none_then (plain.Ask ask (plain.Polling round)) e h = h
none_then (plain.Ask ask (plain.Waiting wish)) e h = tt
none_then (plain.Ended end) e h = h

-- After a round that found one, none comes.
pub some_then : (o : plain.Onward) (e : RoundEnd) → ((left : ℕ) → LeftThen o left) → NoneThen o e
some_then (plain.Ask ask (plain.Polling round)) e h = let never : round.left + 1 ≡ 0 = h 0 in absurd (omega (arith, never))
some_then (plain.Ask ask (plain.Waiting wish)) e h = tt
some_then (plain.Ended ending.Done) e h = absurd (h 0)
some_then (plain.Ended ending.Link) e h = absurd (h 0)
some_then (plain.Ended ending.NoCard) e h = let never : 1 ≡ 0 = h 1 in absurd (omega (arith, never))
some_then (plain.Ended ending.Breach) e h = absurd (h 0)

-- After one more round the rounds fit.
pub one_more_fits : (o : plain.Onward) (old new : List RoundEnd) (e : RoundEnd) (left : ℕ) → new ≡ old ++ e ∷ [] → length old + left ≡ ROUNDS - 1 → All FindsNone old
    → LeftThen o left → NoneThen o e → FitsThen o new
one_more_fits o old new e left is room none before found =
    subst (λ (es : List RoundEnd). FitsThen o es) (sym is) (fits o before found)
  where
    longer : length (old ++ e ∷ []) ≡ length old + 1
    longer = length-append old (e ∷ [])

    with_it : FindsNone e → All FindsNone (old ++ e ∷ [])
    with_it h = All-append FindsNone old (e ∷ []) none (All-cons FindsNone e [] h (All-nil FindsNone))

    fits : (o : plain.Onward) → LeftThen o left → NoneThen o e → FitsThen o (old ++ e ∷ [])
    fits (plain.Ask ask (plain.Polling round)) before found =
        let one_less : round.left + 1 ≡ left = before in
        record { count = omega (arith, longer, room, one_less); none = with_it found }
    fits (plain.Ask ask (plain.Waiting wish)) before found = tt
    fits (plain.Ended ending.Done) before found = tt
    fits (plain.Ended ending.Link) before found = tt
    fits (plain.Ended ending.NoCard) before found =
        let last : left ≡ 0 = before in
        record { all = omega (arith, longer, room, last); none = with_it found }
    fits (plain.Ended ending.Breach) before found = tt

-- ---- an outcome

-- An outcome is noted, and its message.
pub outcome_noted : (before old new : List EventData) (v : Verdict) → new ≡ old ++ outcome_said v → HasOutcome (before ++ new)
outcome_noted before old new v is = record {
  before = before ++ old;
  kind = v.kind;
  after = message_said v.message;
  said_is = ap (λ (es : List EventData). before ++ es) is ∙ sym (append_assoc before old (outcome_said v));
}

-- An outcome is noted, and then another event.
pub outcome_before : (before old middle new : List EventData) (kind : OutcomeKind) (what : EventData) → middle ≡ old ++ Tells (Outcome kind) ∷ [] → new ≡ middle ++ what ∷ []
    → HasOutcome (before ++ new)
outcome_before before old middle new kind what first second = record {
  before = before ++ old;
  kind = kind;
  after = what ∷ [];
  said_is = ap (λ (es : List EventData). before ++ es)
      (second ∙ ap (λ (es : List EventData). es ++ what ∷ []) first ∙ append_assoc old (Tells (Outcome kind) ∷ []) (what ∷ []))
      ∙ sym (append_assoc before old (Tells (Outcome kind) ∷ what ∷ []));
}
