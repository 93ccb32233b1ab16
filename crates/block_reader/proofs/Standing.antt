-- Where a reader's end stands after a step.
use Rattle.std.proofs.Common.{◌≡◌, ℕ, ◌-◌, Bool, true, false, List, [], ◌∷◌, ◌++◌, refl, sym, ap, ◌∙◌, subst}
use Rattle.std.specs.Prelude.{reverse}
use Rattle.std.proofs.lemmas.List.{reverse-append}
use Rattle.ep_base.specs.Air.Heard.{Ask as AskData, Heard}
use Rattle.ep_base.specs.Link.Block.{Block, ReadBlock, other, same}
use Rattle.ep_base.specs.Link.ReaderEnd.{Reader, Phase, ReaderTurn, Asks, Gives, Spends, Breaks, question, asked, begin, reader_hears}
use Rattle.ep_base.specs.Link.Dialogue.{block_of}
use Rattle.ep_base.specs.Link.Spelling.{number_bit}
use Rattle.ep_base.specs.Link.LinkFrames.{LinkSetting, Kept, BreachData, block_ask, heard_block, breach_of, frame_heard, phase_shown}
use Rattle.ep_base.specs.Link.LinkEvents.{AreSince, LinkEvent, Begins, Hears, LinkStanding, frame_of, exchange_of, kept_after, then_stands, then_link, standing_from, standing_after}
use Rattle.ep_base.specs.Link.Carry.{turn_on}
use Rattle.block_reader.specs.declared.stages.Stage.{Stage}
use Rattle.block_reader.specs.declared.stages.Stage.TheVariants as stage
use Rattle.block_reader.specs.declared.stages.Question.{Question}
use Rattle.block_reader.specs.declared.stages.Step.{Step}
use Rattle.block_reader.specs.declared.stages.Step.TheVariants as step
use Rattle.block_reader.specs.declared.ends.Next.{Next}
use Rattle.block_reader.specs.declared.ends.Next.TheVariants.{Ask, Done, Failed}
use Rattle.block_reader.specs.declared.ends.LinkEnd.TheVariants.{Spent, Breach}
use Rattle.ep_base.specs.declared.blocks.Phase as phases
use Rattle.block_reader.specs.Counts as counts
use Rattle.block_reader.specs.Progress.{Course, phase_by, block_due, block_from, carried, IsAt, Sends, StepShows}
use Rattle.block_reader.specs.Stands.{Held, is_open, is_resting, Rests, Asking, StandsAt, StandsWith, StandsFor, Says, Shows}

-- ---- the exchanges that are kept

latest : (ks : List Kept) (k : Kept) → reverse (ks ++ k ∷ []) ≡ k ∷ reverse ks
latest ks k = reverse-append ks (k ∷ [])

keeps_more : (set : LinkSetting) (n : Bool) (phase : Phase) (hs : List ReadBlock) (h : Heard) (ks news : List Kept) → news ≡ ks ++ record { sent = frame_of set (question n phase hs); heard = h } ∷ [] → AreSince set n phase hs (reverse ks) → AreSince set n phase (heard_block set.kind set.frames.reader h ∷ hs) (reverse news)
keeps_more set n phase hs h ks news e all = rw (e, latest ks (record { sent = frame_of set (question n phase hs); heard = h })) (refl, refl, all)

same_self : (n : Bool) → same n n ≡ true
same_self true = refl
same_self false = refl

same_other : (n : Bool) → same n (other n) ≡ false
same_other true = refl
same_other false = refl

-- ---- the counts

pub counted_open : (s : Stage) (q : Question) (bad wtx len : ℕ) → counts.is_open s ≡ true → counts.IsCounted s q bad wtx len → counts.Counted q bad wtx len
counted_open stage.Resting q bad wtx len e c = cc
counted_open stage.Sending q bad wtx len e c = c
counted_open stage.Receiving q bad wtx len e c = c
counted_open stage.Failed q bad wtx len e c = cc
counted_open stage.Closed q bad wtx len e c = cc

pub open_counted : (s : Stage) (q : Question) (bad wtx len : ℕ) → counts.is_open s ≡ true → counts.Counted q bad wtx len → counts.IsCounted s q bad wtx len
open_counted stage.Resting q bad wtx len e c = cc
open_counted stage.Sending q bad wtx len e c = c
open_counted stage.Receiving q bad wtx len e c = c
open_counted stage.Failed q bad wtx len e c = cc
open_counted stage.Closed q bad wtx len e c = cc

-- the exchange that is kept, whose block is still the same
abbrev sent_with : LinkSetting → Heard → Block → Kept
sent_with set h b = record { sent = frame_of set b; heard = h }

pub kept_as : (old : Held) (e : Course) (r : Reader) (h : Heard) → carried e ≡ carried old.course → asked r ≡ block_due old.course → sent_with old.set h (block_from old.course.question (carried e)) ≡ exchange_of old.set r h
kept_as old e r h same is = ap (sent_with old.set h) (ap (block_from old.course.question) same ∙ sym is)

-- the breach is that of the reader
abbrev shown_by : Course → phases.Phase → Heard → BreachData
shown_by mid p h = record { frame = frame_heard h; number = number_bit mid.number; phase = p; wtx = mid.wtx }

pub breach_as : (mid : Course) (p : phases.Phase) (h : Heard) (q : Reader) → IsAt mid q → p ≡ phase_shown q.phase → shown_by mid p h ≡ breach_of q h
breach_as mid p h q s is = rw (is, s.number, s.wtx) refl

-- ---- a hearing

-- what was read is what was heard
pub step_on : (s : Step) (e : Course) (x y : ReadBlock) (frame : ℕ) (r : Reader) → x ≡ y → StepShows s e x r (reader_hears frame r x) → StepShows s e y r (reader_hears frame r y)
step_on s e x y frame r is shows = subst (λ (h : ReadBlock). StepShows s e h r (reader_hears frame r h)) is shows

-- without a toggle
pub asks_again : (old new : Held) (h : Heard) (r : Reader) (t : ReaderTurn) (a : AskData) → StepShows step.Again new.course (heard_block old.set.kind old.set.frames.reader h) r t → Asking old r → new.set ≡ old.set → is_open new ≡ true → new.since ≡ old.since ++ exchange_of old.set r h ∷ [] → a ≡ block_ask new.set.kind new.set.fwi (block_due new.course) → Shows (Ask a) new h t
asks_again old new h r (Asks q) a s was set on since is = record {
  says = is ∙ ap (block_ask new.set.kind new.set.fwi) (sym s.sends.block);
  stands = record {
    opened = on;
    sends = s.sends;
    kept = rw (set, s.same) (keeps_more old.set r.number r.phase r.since h old.since new.since since was.kept);
  };
  last = tt;
}
asks_again old new h r (Gives response q) a s was set on since is = absurd s
asks_again old new h r (Spends q) a s was set on since is = absurd s
asks_again old new h r (Breaks q) a s was set on since is = absurd s

pub kept_again : (e : Course) (h : ReadBlock) (r : Reader) (t : ReaderTurn) (ks : List Kept) (k : Kept) → StepShows step.Again e h r t → ks ++ k ∷ [] ≡ kept_after ks r t k
kept_again e h r (Asks q) ks k s = rw (s.same, same_self r.number) refl
kept_again e h r (Gives response q) ks k s = absurd s
kept_again e h r (Spends q) ks k s = absurd s
kept_again e h r (Breaks q) ks k s = absurd s

-- after a toggle
pub asks_next : (new : Held) (h : Heard) (x : ReadBlock) (r : Reader) (t : ReaderTurn) (a : AskData) → StepShows step.Toggled new.course x r t → is_open new ≡ true → new.since ≡ [] → a ≡ block_ask new.set.kind new.set.fwi (block_due new.course) → Shows (Ask a) new h t
asks_next new h x r (Asks q) a s on none is = record {
  says = is ∙ ap (block_ask new.set.kind new.set.fwi) (sym s.sends.block);
  stands = record { opened = on; sends = s.sends; kept = rw (s.fresh, none) tt };
  last = tt;
}
asks_next new h x r (Gives response q) a s on none is = absurd s
asks_next new h x r (Spends q) a s on none is = absurd s
asks_next new h x r (Breaks q) a s on none is = absurd s

pub kept_next : (e : Course) (h : ReadBlock) (r : Reader) (t : ReaderTurn) (ks : List Kept) (k : Kept) → StepShows step.Toggled e h r t → [] ≡ kept_after ks r t k
kept_next e h r (Asks q) ks k s = rw (s.number, same_other r.number) refl
kept_next e h r (Gives response q) ks k s = absurd s
kept_next e h r (Spends q) ks k s = absurd s
kept_next e h r (Breaks q) ks k s = absurd s

-- with the response
pub gives : (new : Held) (h : Heard) (x : ReadBlock) (r : Reader) (t : ReaderTurn) (response : List ℕ) → StepShows step.Done new.course x r t → new.since ≡ [] → response ≡ new.course.got → Shows (Done response) new h t
gives new h x r (Asks q) response s none is = absurd s
gives new h x r (Gives given q) response s none is = record {
  says = is ∙ s.got;
  stands = record {
    state = s.state;
    resting = ap counts.is_resting s.closed;
    closed = s.state.phase ∙ ap (λ (g : Stage). phase_by g (new.course.card_frame - 3) new.course.command new.course.place new.course.got) s.closed;
    fresh = s.fresh;
    none_kept = none;
  };
  last = tt;
}
gives new h x r (Spends q) response s none is = absurd s
gives new h x r (Breaks q) response s none is = absurd s

pub kept_given : (e : Course) (h : ReadBlock) (r : Reader) (t : ReaderTurn) (ks : List Kept) (k : Kept) → StepShows step.Done e h r t → [] ≡ kept_after ks r t k
kept_given e h r (Asks q) ks k s = absurd s
kept_given e h r (Gives response q) ks k s = refl
kept_given e h r (Spends q) ks k s = absurd s
kept_given e h r (Breaks q) ks k s = absurd s

-- outside the rules
pub breaks : (old new : Held) (e : Course) (h : Heard) (r : Reader) (t : ReaderTurn) (b : BreachData) → StepShows step.Breach e (heard_block old.set.kind old.set.frames.reader h) r t → Asking old r → new.set ≡ old.set → new.course ≡ record e { stage = stage.Failed } → new.since ≡ old.since ++ exchange_of old.set r h ∷ [] → ((q : Reader) → IsAt e q → b ≡ breach_of q h) → Shows (Failed (Breach b)) new h t
breaks old new e h r (Asks q) b s was set is since shows = absurd s
breaks old new e h r (Gives response q) b s was set is since shows = absurd s
breaks old new e h r (Spends q) b s was set is since shows = absurd s
breaks old new e h r (Breaks q) b s was set is since shows = record {
  says = shows q s.state;
  stands = rw is (record { failed = refl; number = s.state.number; bad = s.state.bad });
  last = rw (set, s.same) (keeps_more old.set r.number r.phase r.since h old.since new.since since was.kept);
}

pub kept_broken : (e : Course) (h : ReadBlock) (r : Reader) (t : ReaderTurn) (ks : List Kept) (k : Kept) → StepShows step.Breach e h r t → ks ++ k ∷ [] ≡ kept_after ks r t k
kept_broken e h r (Asks q) ks k s = absurd s
kept_broken e h r (Gives response q) ks k s = absurd s
kept_broken e h r (Spends q) ks k s = absurd s
kept_broken e h r (Breaks q) ks k s = refl

-- three bad
pub spends : (old new : Held) (e : Course) (h : Heard) (r : Reader) (t : ReaderTurn) → StepShows step.Spent e (heard_block old.set.kind old.set.frames.reader h) r t → Asking old r → new.set ≡ old.set → new.course ≡ record e { stage = stage.Failed } → new.since ≡ old.since ++ exchange_of old.set r h ∷ [] → Shows (Failed (Spent 3)) new h t
spends old new e h r (Asks q) s was set is since = absurd s
spends old new e h r (Gives response q) s was set is since = absurd s
spends old new e h r (Spends q) s was set is since = record {
  says = (refl, sym s.bad ∙ s.three);
  stands = rw is (record { failed = refl; number = s.number; bad = s.bad });
  last = rw (set, s.same) (keeps_more old.set r.number r.phase r.since h old.since new.since since was.kept);
}
spends old new e h r (Breaks q) s was set is since = absurd s

pub kept_spent : (e : Course) (h : ReadBlock) (r : Reader) (t : ReaderTurn) (ks : List Kept) (k : Kept) → StepShows step.Spent e h r t → ks ++ k ∷ [] ≡ kept_after ks r t k
kept_spent e h r (Asks q) ks k s = absurd s
kept_spent e h r (Gives response q) ks k s = absurd s
kept_spent e h r (Spends q) ks k s = refl
kept_spent e h r (Breaks q) ks k s = absurd s

-- ---- the events of a link

standing_from-append : (set : LinkSetting) (st : LinkStanding) (es : List LinkEvent) (e : LinkEvent) → standing_from set st (es ++ e ∷ []) ≡ then_link set (standing_from set st es) e
standing_from-append set st [] e = refl
standing_from-append set st (x ∷ es) e = standing_from-append set (then_link set st x) es e

-- one more event
pub standing_after-append : (set : LinkSetting) (es : List LinkEvent) (e : LinkEvent) → standing_after set (es ++ e ∷ []) ≡ then_link set (standing_after set es) e
standing_after-append set es e = standing_from-append set _ es e

-- an end whose link failed has no command open, and none can be begun
failed_closed : (s : Stage) → s ≡ stage.Failed → (counts.is_open s ≡ false) × (counts.is_resting s ≡ false)
failed_closed s e = rw e (refl, refl)

pub open_rests : (s : Stage) → counts.is_open s ≡ true → counts.is_resting s ≡ false
open_rests stage.Resting e = cc
open_rests stage.Sending e = refl
open_rests stage.Receiving e = refl
open_rests stage.Failed e = cc
open_rests stage.Closed e = cc

clash : (b : Bool) → b ≡ true → b ≡ false → ⊥
clash true a b = cc
clash false a b = cc

-- a command begins
pub begins : (old new : Held) (command : List ℕ) (a : AskData) → is_open new ≡ true → new.since ≡ old.since → ((r : Reader) → IsAt old.course r → r.since ≡ [] → Sends new.course (begin old.set.frames.card command r)) → a ≡ block_ask old.set.kind old.set.fwi (block_due new.course) → (r : Reader) → Rests old r → Asking new (begin old.set.frames.card command r) × (a ≡ block_ask old.set.kind old.set.fwi (asked (begin old.set.frames.card command r)))
begins old new command a on alike rules is r s =
    let sends = rules r s.state s.fresh in
    (record { opened = on; sends = sends; kept = rw (s.fresh, alike, s.none_kept) tt }, is ∙ ap (block_ask old.set.kind old.set.fwi) (sym sends.block))

begun_at : (old new : Held) (command : List ℕ) (t : ReaderTurn) (ks : List Kept) (a : AskData) → new.since ≡ old.since → is_resting old ≡ true → ((r : Reader) → Rests old r → Asking new (begin old.set.frames.card command r) × (a ≡ block_ask old.set.kind old.set.fwi (asked (begin old.set.frames.card command r)))) → StandsAt old t → old.since ≡ ks → StandsWith new (then_stands old.set t ks (Begins command)) × (a ≡ block_ask old.set.kind old.set.fwi (block_of (then_stands old.set t ks (Begins command)).turn))
begun_at old new command (Asks r) ks a alike rest rules s is = absurd (clash (is_resting old) rest (open_rests old.course.stage s.opened))
begun_at old new command (Gives response r) ks a alike rest rules s is = (record { turn = (rules r s).0; kept = alike ∙ is }, (rules r s).1)
begun_at old new command (Spends r) ks a alike rest rules s is = absurd (clash (is_resting old) rest (failed_closed old.course.stage s.failed).1)
begun_at old new command (Breaks r) ks a alike rest rules s is = absurd (clash (is_resting old) rest (failed_closed old.course.stage s.failed).1)

pub begun : (old new : Held) (command : List ℕ) (a : AskData) → new.set ≡ old.set → new.since ≡ old.since → is_resting old ≡ true → ((r : Reader) → Rests old r → Asking new (begin old.set.frames.card command r) × (a ≡ block_ask old.set.kind old.set.fwi (asked (begin old.set.frames.card command r)))) → (es : List LinkEvent) → StandsFor old es → StandsFor new (es ++ Begins command ∷ []) × (a ≡ block_ask old.set.kind old.set.fwi (block_of (standing_after old.set (es ++ Begins command ∷ [])).turn))
begun old new command a set alike rest rules es stands =
    let st = standing_after old.set es in
    let here = begun_at old new command st.turn st.kept a alike rest rules stands.turn stands.kept in
    let after : standing_after old.set (es ++ Begins command ∷ []) ≡ then_link old.set st (Begins command) = standing_after-append old.set es (Begins command) in
    let now : standing_after new.set (es ++ Begins command ∷ []) ≡ then_link old.set st (Begins command) = ap (λ (l : LinkSetting). standing_after l (es ++ Begins command ∷ [])) set ∙ after in (
      subst (StandsWith new) (sym now) here.0,
      subst (λ (x : LinkStanding). a ≡ block_ask old.set.kind old.set.fwi (block_of x.turn)) (sym after) here.1,
    )

-- an exchange was heard
heard_at : (old new : Held) (h : Heard) (t : ReaderTurn) (ks : List Kept) → is_open old ≡ true → ((r : Reader) → Asking old r → StandsAt new (turn_on old.set r h)) → ((r : Reader) → Asking old r → new.since ≡ kept_after old.since r (turn_on old.set r h) (exchange_of old.set r h)) → StandsAt old t → old.since ≡ ks → StandsWith new (then_stands old.set t ks (Hears h))
heard_at old new h (Asks r) ks on rules keeps s is = record { turn = rules r s; kept = keeps r s ∙ ap (λ (l : List Kept). kept_after l r (turn_on old.set r h) (exchange_of old.set r h)) is }
heard_at old new h (Gives response r) ks on rules keeps s is = absurd (clash (is_resting old) s.resting (open_rests old.course.stage on))
heard_at old new h (Spends r) ks on rules keeps s is = absurd (clash (is_open old) on (failed_closed old.course.stage s.failed).0)
heard_at old new h (Breaks r) ks on rules keeps s is = absurd (clash (is_open old) on (failed_closed old.course.stage s.failed).0)

pub heard_on : (old new : Held) (h : Heard) → new.set ≡ old.set → is_open old ≡ true → ((r : Reader) → Asking old r → StandsAt new (turn_on old.set r h)) → ((r : Reader) → Asking old r → new.since ≡ kept_after old.since r (turn_on old.set r h) (exchange_of old.set r h)) → (es : List LinkEvent) → StandsFor old es → StandsFor new (es ++ Hears h ∷ [])
heard_on old new h set on rules keeps es stands =
    let st = standing_after old.set es in
    let now : standing_after new.set (es ++ Hears h ∷ []) ≡ then_link old.set st (Hears h) = ap (λ (l : LinkSetting). standing_after l (es ++ Hears h ∷ [])) set ∙ standing_after-append old.set es (Hears h) in
    subst (StandsWith new) (sym now) (heard_at old new h st.turn st.kept on rules keeps stands.turn stands.kept)

-- and the answer is that of the turn
said_at : (old : Held) (h : Heard) (result : Next) (t : ReaderTurn) (ks : List Kept) → is_open old ≡ true → ((r : Reader) → Asking old r → Says result old.set h (turn_on old.set r h)) → StandsAt old t → Says result old.set h (then_stands old.set t ks (Hears h)).turn
said_at old h result (Asks r) ks on says s = says r s
said_at old h result (Gives response r) ks on says s = absurd (clash (is_resting old) s.resting (open_rests old.course.stage on))
said_at old h result (Spends r) ks on says s = absurd (clash (is_open old) on (failed_closed old.course.stage s.failed).0)
said_at old h result (Breaks r) ks on says s = absurd (clash (is_open old) on (failed_closed old.course.stage s.failed).0)

pub said_on : (old : Held) (h : Heard) (result : Next) → is_open old ≡ true → ((r : Reader) → Asking old r → Says result old.set h (turn_on old.set r h)) → (es : List LinkEvent) → StandsFor old es → Says result old.set h (standing_after old.set (es ++ Hears h ∷ [])).turn
said_on old h result on says es stands =
    let st = standing_after old.set es in
    subst (λ (x : LinkStanding). Says result old.set h x.turn) (sym (standing_after-append old.set es (Hears h))) (said_at old h result st.turn st.kept on says stands.turn)
