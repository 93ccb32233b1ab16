-- What a transaction takes, exchange by exchange, whatever is heard.
use Rattle.std.proofs.Common.{◌≡◌, ◌⊎◌, ⊎_elim, ℕ, suc, ◌+◌, ◌-◌, ◌*◌, ◌<◌, ◌≤◌, Bool, false, List, [], ◌∷◌, ◌++◌, length, length-append, refl, sym, ap, subst, ◌∙◌, append-nil, arith, Option, Some, None}
use Rattle.std.specs.Prelude.{if◌then◌else◌}
use Rattle.std.proofs.lemmas.Bool.Decides.{leb_tells}
use Rattle.ep_base.specs.declared.limits.TheConstants.{COMMAND, COMMAND_EXCHANGES, ROUND_EXCHANGES, ROUNDS, START_EXCHANGES}
use Rattle.ep_base.specs.Air.Heard.{Heard, RoundEnd, Empty, Collision, Unsupported, Broken, Found}
use Rattle.ep_base.specs.Air.Heard as rounds
use Rattle.ep_base.specs.Cards.Apdu.{is_command}
use Rattle.ep_base.specs.Air.Medium.{untold}
use Rattle.ep_base.specs.Poll.Round.{Stage, round_hears}
use Rattle.ep_base.specs.Link.Block.{ReadBlock, same}
use Rattle.ep_base.specs.Link.ReaderEnd.{Reader, ReaderTurn, Asks, Gives, Spends, Breaks, reader_hears, begin}
use Rattle.ep_base.specs.Link.LinkFrames.{heard_block}
use Rattle.ep_base.specs.Poll.Radio.{OpenLink}
use Rattle.ep_rules.specs.EntryPoint.Talk.{Talk, Over, Say, Poll, Command, Close, Result, Round, Response, Closed, so_far, is_found, IsLegal}
use Rattle.law_link.specs.Bounds.{IsEnded, toggle, toggles_in}
use Rattle.law_link.specs.Bounds as links
use Rattle.law_link.proofs.Bounding.{bounded_toggles, few_toggles, command_ends}
use Rattle.ep_rules.specs.EntryPoint.Bounds.{AtMost, starts_left, AtMostStarts}
use Rattle.law_wire.proofs.Limits.{images_keep}
use Rattle.law_round.proofs.Counting.{left, Leveled, Leaves, leaves, one_left}
use Rattle.law_round.proofs.Sizing.{round_sized}
use Rattle.ep_claim.specs.Lanes.Standing.{Standing, Doing, Rounds, Carries, Closing, Stopped, Astray, doing_by, standing, started, link_by, after_stage, after_turn, hears_by, after_hearing}
use Rattle.ep_claim.specs.Lanes.Counting.{rounds_left, AtMostRounds, after_hearings}
use Rattle.ep_claim.specs.Promise.Counts.{Counts, no_counts, count_round, count_asked, count_given, count_turn, count_closing, counted, all_counted, NextFits, BoundedCount}
use Rattle.law_turns.proofs.Counting.{IsReady, HasSize, link_ready, held, Sizes, sizes_next, end_sized, Wishes, wish_next, most, round_cost, rounds_fit}
use Rattle.law_turns.proofs.Toggling.{Stays, Moves, Goes_on, reader_goes, since_now, toggles_now, after_more, toggles_more}

module _ (fsdi : ℕ) (start : Talk) (commands starts : ℕ) where
  abbrev total : ℕ
  total = COMMAND_EXCHANGES * commands + START_EXCHANGES * starts

  -- what the rest of the talk may still take
  record Rests (results : List Result) (rest : Talk) (found : Bool) (n m few : ℕ) (c : Counts) : Type 0 where
    wishes : Wishes fsdi start results rest
    legal : IsLegal is_command found rest
    few_commands : AtMost n rest
    few_starts : AtMostStarts m rest
    few_rounds : AtMostRounds ROUNDS few rest
    fits : few ≤ ROUNDS
    commands_fit : c.commands + n ≤ commands
    starts_fit : c.starts + m ≤ starts
    rounds_fit : c.rounds + few ≤ ROUNDS

  -- the link was just opened, or its last exchange toggled
  abbrev Fresh : Option OpenLink → Counts → Type 0
  Fresh None c = Unit {0}
  Fresh (Some l) c = c.since ≡ 0

  -- ---- what holds by what the next exchange is of

  record InRound (results : List Result) (stage : Stage) (c : Counts) : Type 0 where
    next : RoundEnd → Talk
    found : Bool
    n : ℕ
    m : ℕ
    few : ℕ
    link : Option OpenLink
    rests : Rests results (Poll next) found n m few c
    more : ℕ
    enough : left (rounds.Goes stage) ≤ more
    in_round : more + c.round ≤ ROUND_EXCHANGES
    sizes : Sizes fsdi start more (rounds.Goes stage)
    leveled : Leveled (rounds.Goes stage)
    toggles : c.toggles ≡ 0
    cost : c.exchanges + more + (most fsdi start n m few + held link - ROUND_EXCHANGES) ≤ total

  record InCommand (results : List Result) (l : OpenLink) (c : Counts) : Type 0 where
    command : List ℕ
    next : List ℕ → Talk
    found : Bool
    n : ℕ
    m : ℕ
    few : ℕ
    rests : Rests results (Command command next) found n m few c
    reader : Reader
    fresh : reader.since ≡ []
    wide : 16 ≤ l.set.frames.card
    heard : List ReadBlock
    asks : links.after_all l.set.frames.reader heard (Asks (begin l.set.frames.card command reader)) ≡ Asks l.reader
    toggles : toggles_in l.set.frames.reader heard (Asks (begin l.set.frames.card command reader)) ≡ c.toggles
    since : c.since ≡ length l.reader.since
    round : c.round ≡ 0
    cost : c.exchanges + (COMMAND_EXCHANGES - length heard) + most fsdi start (n - 1) m few + 1 ≤ total

  record InClosing (results : List Result) (c : Counts) : Type 0 where
    next : Talk
    found : Bool
    n : ℕ
    m : ℕ
    few : ℕ
    rests : Rests results (Close next) found n m few c
    since : c.since ≡ 0
    round : c.round ≡ 0
    toggles : c.toggles ≡ 0
    cost : c.exchanges + most fsdi start n m few + 1 ≤ total

  abbrev Holds : List Result → Doing → Counts → Type 0
  Holds results (Rounds stage) c = InRound results stage c
  Holds results (Carries l) c = InCommand results l c
  Holds results (Closing l) c = InClosing results c
  Holds results (Stopped ending) c = c.exchanges ≤ total
  Holds results Astray c = c.exchanges ≤ total

  -- ---- then the next exchange fits

  round_fits : (results : List Result) (stage : Stage) (c : Counts) → InRound results stage c → NextFits commands starts (Rounds stage) c
  round_fits results stage c x =
      let one = one_left stage x.leveled in
      let some : 0 < x.m = x.rests.few_starts.0 in
      let any : 0 < x.few = x.rests.few_rounds.0 in (
        record {
          round = omega (arith, one, x.enough, x.in_round);
          rounds = omega (arith, any, x.rests.rounds_fit);
          starts = omega (arith, some, x.rests.starts_fit);
        },
        omega (arith, one, x.enough, x.cost),
      )

  module _ (results : List Result) (l : OpenLink) (c : Counts) (x : InCommand results l c) where
    abbrev frame : ℕ
    frame = l.set.frames.reader

    abbrev begun : ReaderTurn
    begun = Asks (begin l.set.frames.card x.command x.reader)

    short : length x.command ≤ COMMAND
    short = (images_keep (λ card. 0)).commands x.command x.rests.legal.1

    some_command : 0 < x.n
    some_command = x.rests.few_commands.0

    few_heard : length x.heard < COMMAND_EXCHANGES
    few_heard =
        ⊎_elim
        (λ h. absurd (subst IsEnded x.asks (command_ends l.set.frames.card frame x.command x.reader x.heard x.fresh x.wide short h.1)))
        (λ h. omega (arith, h.1)) (leb_tells COMMAND_EXCHANGES (length x.heard))

    command_fits : NextFits commands starts (Carries l) c
    command_fits =
        let bounded = subst links.IsBounded x.asks (bounded_toggles l.set.frames.card frame x.command x.reader x.heard x.fresh) in
        let few = few_toggles l.set.frames.card frame x.command x.reader x.heard x.fresh x.wide short in
        let fit = few_heard in
        let some = some_command in (
          record {
            since = omega (arith, bounded.0, x.since);
            toggles = omega (arith, few, x.toggles);
            commands = omega (arith, some, x.rests.commands_fit);
          },
          omega (arith, fit, x.cost),
        )

  next_fits : (results : List Result) (doing : Doing) (c : Counts) → Holds results doing c → NextFits commands starts doing c
  next_fits results (Rounds stage) c x = round_fits results stage c x
  next_fits results (Carries l) c x = command_fits results l c x
  next_fits results (Closing l) c x = (omega (arith, x.since), omega (arith, x.cost))
  next_fits results (Stopped ending) c x = x
  next_fits results Astray c x = x

  -- ---- between a result and the next exchange

  record Between (results : List Result) (rest : Talk) (link : Option OpenLink) (c : Counts) : Type 0 where
    found : Bool
    n : ℕ
    m : ℕ
    few : ℕ
    rests : Rests results rest found n m few c
    ready : IsReady link
    fresh : Fresh link c
    round : c.round ≡ 0
    toggles : c.toggles ≡ 0
    cost : c.exchanges + (most fsdi start n m few + held link) ≤ total

  abbrev Begins : List Result → Talk → Option OpenLink → Counts → Type 0
  Begins results rest link c = Holds results (doing_by (so_far rest []).wish link) c

  poll_begins : (results : List Result) (next : RoundEnd → Talk) (link : Option OpenLink) (c : Counts) → Between results (Poll next) link c → Begins results (Poll next) link c
  poll_begins results next link c b =
      let cost = round_cost fsdi start b.n b.m b.few link Empty b.rests.few_starts.0 b.rests.few_rounds.0 b.rests.fits in
      record {
        next = next;
        found = b.found;
        n = b.n;
        m = b.m;
        few = b.few;
        link = link;
        rests = b.rests;
        more = ROUND_EXCHANGES;
        enough = omega arith;
        in_round = omega (arith, b.round);
        sizes = λ card x. (round_sized untold fsdi tt tt card x).0;
        leveled = tt;
        toggles = b.toggles;
        cost = omega (arith, b.cost, cost);
      }

  command_begins : (results : List Result) (command : List ℕ) (next : List ℕ → Talk) (link : Option OpenLink) (c : Counts) → Between results (Command command next) link c
      → Begins results (Command command next) link c
  command_begins results command next None c b = omega (arith, b.cost)
  command_begins results command next (Some l) c b =
      let some : 0 < b.n = b.rests.few_commands.0 in
      let none : length l.reader.since ≡ 0 = ap (λ (s : List ReadBlock). length s) b.ready.0 in
      record {
        command = command;
        next = next;
        found = b.found;
        n = b.n;
        m = b.m;
        few = b.few;
        rests = b.rests;
        reader = l.reader;
        fresh = b.ready.0;
        wide = b.ready.1;
        heard = [];
        asks = refl;
        toggles = sym b.toggles;
        since = b.fresh ∙ sym none;
        round = b.round;
        cost = omega (arith, b.cost, some);
      }

  close_begins : (results : List Result) (next : Talk) (link : Option OpenLink) (c : Counts) → Between results (Close next) link c → Begins results (Close next) link c
  close_begins results next None c b = omega (arith, b.cost)
  close_begins results next (Some l) c b = record {
    next = next;
    found = b.found;
    n = b.n;
    m = b.m;
    few = b.few;
    rests = b.rests;
    since = b.fresh;
    round = b.round;
    toggles = b.toggles;
    cost = omega (arith, b.cost);
  }

  begins : (results : List Result) (rest : Talk) (link : Option OpenLink) (c : Counts) → Between results rest link c → Begins results rest link c
  begins results (Over e) link c b = omega (arith, b.cost)
  begins results (Say what next) link c b =
      begins results next link c
      (record {
        found = b.found;
        n = b.n;
        m = b.m;
        few = b.few;
        rests = record {
          wishes = b.rests.wishes;
          legal = b.rests.legal;
          few_commands = b.rests.few_commands;
          few_starts = b.rests.few_starts;
          few_rounds = b.rests.few_rounds;
          fits = b.rests.fits;
          commands_fit = b.rests.commands_fit;
          starts_fit = b.rests.starts_fit;
          rounds_fit = b.rests.rounds_fit;
        };
        ready = b.ready;
        fresh = b.fresh;
        round = b.round;
        toggles = b.toggles;
        cost = b.cost;
      })
  begins results (Poll next) link c b = poll_begins results next link c b
  begins results (Command command next) link c b = command_begins results command next link c b
  begins results (Close next) link c b = close_begins results next link c b

  abbrev HoldsAt : Standing → Counts → Type 0
  HoldsAt s c = Holds s.results s.doing c

  stands : (results : List Result) (rest : Talk) (link : Option OpenLink) (c : Counts) → Between results rest link c → HoldsAt (standing start results link) c
  stands results rest link c b =
      let same = ap (λ r. (so_far start r).wish) (sym (append-nil results)) ∙ b.rests.wishes [] in
      subst (λ w. Holds results (doing_by w link) c) (sym same) (begins results rest link c b)

  -- ---- an exchange of a poll round

  after_end : (results : List Result) (stage : Stage) (c : Counts) (x : InRound results stage c) (e : RoundEnd) → HasSize e
      → Between (results ++ Round e ∷ []) (x.next e) (link_by fsdi e) (count_round (rounds.Ends e) c)
  after_end results stage c x e size =
      let some : 0 < x.m = x.rests.few_starts.0 in
      let any : 0 < x.few = x.rests.few_rounds.0 in
      let first = round_cost fsdi start x.n x.m x.few x.link Empty some any x.rests.fits in
      let cost = round_cost fsdi start x.n x.m x.few x.link e some any x.rests.fits in
      let one = one_left stage x.leveled in
      record {
        found = is_found e;
        n = x.n;
        m = starts_left x.m e;
        few = rounds_left ROUNDS x.few e;
        rests = record {
          wishes = wish_next fsdi start results (Round e) (Poll x.next) (x.next e) x.rests.wishes (λ more. refl);
          legal = x.rests.legal e;
          few_commands = x.rests.few_commands e;
          few_starts = x.rests.few_starts.1 e;
          few_rounds = x.rests.few_rounds.1 e;
          fits = rounds_fit fsdi start x.few e x.rests.fits;
          commands_fit = x.rests.commands_fit;
          starts_fit = starts_by e some;
          rounds_fit = rounds_by e any;
        };
        ready = link_ready fsdi e size;
        fresh = fresh_by e;
        round = refl;
        toggles = x.toggles;
        cost = omega (arith, cost, x.cost, one, x.enough, first);
      }
    where
      starts_by : (d : RoundEnd) → 0 < x.m → (count_round (rounds.Ends d) c).starts + starts_left x.m d ≤ starts
      starts_by Empty some = x.rests.starts_fit
      starts_by Collision some = x.rests.starts_fit
      starts_by Unsupported some = x.rests.starts_fit
      starts_by Broken some = x.rests.starts_fit
      starts_by (Found card) some = omega (arith, some, x.rests.starts_fit)

      rounds_by : (d : RoundEnd) → 0 < x.few → (count_round (rounds.Ends d) c).rounds + rounds_left ROUNDS x.few d ≤ ROUNDS
      rounds_by Empty any = omega (arith, any, x.rests.rounds_fit)
      rounds_by Collision any = omega (arith, any, x.rests.rounds_fit)
      rounds_by Unsupported any = omega (arith, any, x.rests.rounds_fit)
      rounds_by Broken any = omega (arith, any, x.rests.rounds_fit)
      rounds_by (Found card) any = omega arith

      fresh_by : (d : RoundEnd) → Fresh (link_by fsdi d) (count_round (rounds.Ends d) c)
      fresh_by Empty = tt
      fresh_by Collision = tt
      fresh_by Unsupported = tt
      fresh_by Broken = tt
      fresh_by (Found card) = refl

  after_stage_holds : (results : List Result) (stage : Stage) (c : Counts) (x : InRound results stage c) (k : ℕ) → x.more ≡ suc k → (turn : rounds.RoundTurn Stage)
      → Leaves (left (rounds.Goes stage) - 1) turn → Sizes fsdi start k turn → HoldsAt (after_stage fsdi start results turn) (count_round turn c)
  after_stage_holds results stage c x k is (rounds.Goes now) leaves_so sizes = record {
    next = x.next;
    found = x.found;
    n = x.n;
    m = x.m;
    few = x.few;
    link = x.link;
    rests = record {
      wishes = x.rests.wishes;
      legal = x.rests.legal;
      few_commands = x.rests.few_commands;
      few_starts = x.rests.few_starts;
      few_rounds = x.rests.few_rounds;
      fits = x.rests.fits;
      commands_fit = x.rests.commands_fit;
      starts_fit = x.rests.starts_fit;
      rounds_fit = x.rests.rounds_fit;
    };
    more = k;
    enough = omega (arith, leaves_so.1, x.enough, is);
    in_round = omega (arith, x.in_round, is);
    sizes = sizes;
    leveled = leaves_so.0;
    toggles = x.toggles;
    cost = omega (arith, x.cost, is);
  }
  after_stage_holds results stage c x k is (rounds.Ends e) leaves_so sizes =
      stands (results ++ Round e ∷ []) (x.next e) (link_by fsdi e) (count_round (rounds.Ends e) c) (after_end results stage c x e (end_sized fsdi start k e sizes))

  round_holds : (results : List Result) (stage : Stage) (c : Counts) (h : Heard) → InRound results stage c → HoldsAt (after_stage fsdi start results (round_hears stage h)) (count_round (round_hears stage h) c)
  round_holds results stage c h x =
      let k = x.more - 1 in
      let one = one_left stage x.leveled in
      let is : x.more ≡ suc k = omega (arith, one, x.enough) in
      after_stage_holds results stage c x k is (round_hears stage h) (leaves stage h x.leveled)
      (sizes_next fsdi start k stage h (subst (λ z. Sizes fsdi start z (rounds.Goes stage)) is x.sizes))

  -- ---- an exchange of a command

  module _ (results : List Result) (l : OpenLink) (c : Counts) (x : InCommand results l c) (h : ReadBlock) where
    abbrev size : ℕ
    size = l.set.frames.reader

    abbrev first : ReaderTurn
    first = Asks (begin l.set.frames.card x.command x.reader)

    one_more : length (x.heard ++ h ∷ []) ≡ length x.heard + 1
    one_more = length-append x.heard (h ∷ [])

    asked_on : (q : Reader) → reader_hears size l.reader h ≡ Asks q → Stays l.reader q ⊎ Moves l.reader q
        → InCommand results (record { set = l.set; reader = q }) (count_asked l.reader q c)
    asked_on q is goes =
        let more = one_more in
        let few = few_heard results l c x in
        let counts : toggles_in size (x.heard ++ h ∷ []) first ≡ c.toggles + toggle l.reader (Asks q) =
        toggles_more size h l.reader x.heard first x.asks ∙ (ap (λ t. toggles_in size x.heard first + toggle l.reader t) is ∙ ap (λ n. n + toggle l.reader (Asks q)) x.toggles) in
        record {
          command = x.command;
          next = x.next;
          found = x.found;
          n = x.n;
          m = x.m;
          few = x.few;
          rests = record {
            wishes = x.rests.wishes;
            legal = x.rests.legal;
            few_commands = x.rests.few_commands;
            few_starts = x.rests.few_starts;
            few_rounds = x.rests.few_rounds;
            fits = x.rests.fits;
            commands_fit = x.rests.commands_fit;
            starts_fit = x.rests.starts_fit;
            rounds_fit = x.rests.rounds_fit;
          };
          reader = x.reader;
          fresh = x.fresh;
          wide = x.wide;
          heard = x.heard ++ h ∷ [];
          asks = after_more size h l.reader x.heard first x.asks ∙ is;
          toggles = counts ∙ toggles_now (same q.number l.reader.number) c.toggles c.toggles refl;
          since = since_now l.reader q c.since x.since goes;
          round = x.round;
          cost = omega (arith, x.cost, more, few);
        }

    given : (a : List ℕ) (q : Reader) → reader_hears size l.reader h ≡ Gives a q → Moves l.reader q
        → Between (results ++ Response a ∷ []) (x.next a) (Some (record { set = l.set; reader = q })) (count_given l.reader q c)
    given a q is moves =
        let some = some_command results l c x in
        let few = few_heard results l c x in
        record {
          found = x.found;
          n = x.n - 1;
          m = x.m;
          few = x.few;
          rests = record {
            wishes = wish_next fsdi start results (Response a) (Command x.command x.next) (x.next a) x.rests.wishes (λ more. refl);
            legal = x.rests.legal.2 a;
            few_commands = x.rests.few_commands.1 a;
            few_starts = x.rests.few_starts a;
            few_rounds = x.rests.few_rounds a;
            fits = x.rests.fits;
            commands_fit = omega (arith, some, x.rests.commands_fit);
            starts_fit = x.rests.starts_fit;
            rounds_fit = x.rests.rounds_fit;
          };
          ready = (moves.1, x.wide);
          fresh = ap (λ b. if b then c.since + 1 else 0) moves.0;
          round = x.round;
          toggles = refl;
          cost = omega (arith, x.cost, few);
        }

    turn_holds : (turn : ReaderTurn) → reader_hears size l.reader h ≡ turn → Goes_on l.reader turn → HoldsAt (after_turn start results l.set turn) (count_turn l.reader turn c)
    turn_holds (Asks q) is goes = asked_on q is goes
    turn_holds (Gives a q) is goes =
        stands (results ++ Response a ∷ []) (x.next a) (Some (record { set = l.set; reader = q })) (count_given l.reader q c) (given a q is goes)
    turn_holds (Spends q) is goes = let few = few_heard results l c x in omega (arith, x.cost, few)
    turn_holds (Breaks q) is goes = let few = few_heard results l c x in omega (arith, x.cost, few)

  -- ---- the closing of a link

  closing_holds : (results : List Result) (c : Counts) → InClosing results c → HoldsAt (standing start (results ++ Closed ∷ []) None) (count_closing c)
  closing_holds results c x =
      stands (results ++ Closed ∷ []) x.next None (count_closing c)
      (record {
        found = false;
        n = x.n;
        m = x.m;
        few = x.few;
        rests = record {
          wishes = wish_next fsdi start results Closed (Close x.next) x.next x.rests.wishes (λ more. refl);
          legal = x.rests.legal;
          few_commands = x.rests.few_commands;
          few_starts = x.rests.few_starts;
          few_rounds = x.rests.few_rounds;
          fits = x.rests.fits;
          commands_fit = x.rests.commands_fit;
          starts_fit = x.rests.starts_fit;
          rounds_fit = x.rests.rounds_fit;
        };
        ready = tt;
        fresh = tt;
        round = x.round;
        toggles = x.toggles;
        cost = omega (arith, x.cost);
      })

  -- ---- every exchange

  heard_holds : (results : List Result) (doing : Doing) (c : Counts) (h : Heard) → Holds results doing c → HoldsAt (hears_by fsdi start results h doing) (counted doing h c)
  heard_holds results (Rounds stage) c h x = round_holds results stage c h x
  heard_holds results (Carries l) c h x =
      let block = heard_block l.set.kind l.set.frames.reader h in
      let turn = reader_hears l.set.frames.reader l.reader block in
      turn_holds results l c x block turn refl (reader_goes l.set.frames.reader l.reader block)
  heard_holds results (Closing l) c h x = closing_holds results c x
  heard_holds results (Stopped ending) c h x = x
  heard_holds results Astray c h x = x

  all_hold : (hs : List Heard) (s : Standing) (c : Counts) → HoldsAt s c → NextFits commands starts (after_hearings fsdi start hs s).doing (all_counted fsdi start hs s c)
  all_hold [] s c x = next_fits s.results s.doing c x
  all_hold (h ∷ hs) s c x = all_hold hs (after_hearing fsdi start h s) (counted s.doing h c) (heard_holds s.results s.doing c h x)

pub bounded_count_law : BoundedCount
bounded_count_law fsdi talk commands starts b = λ hearings.
    all_hold fsdi talk commands starts hearings (started talk) no_counts
    (stands fsdi talk commands starts [] talk None no_counts
    (record {
      found = false;
      n = commands;
      m = starts;
      few = ROUNDS;
      rests = record {
        wishes = λ more. refl;
        legal = b.legal;
        few_commands = b.few_commands;
        few_starts = b.few_starts;
        few_rounds = b.few_rounds;
        fits = omega arith;
        commands_fit = omega arith;
        starts_fit = omega arith;
        rounds_fit = omega arith;
      };
      ready = tt;
      fresh = tt;
      round = refl;
      toggles = refl;
      cost = omega arith;
    }))
