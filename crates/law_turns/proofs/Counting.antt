-- A transaction is over after so many exchanges, whatever is heard.
use Rattle.std.proofs.Common.{◌≡◌, ℕ, zero, suc, ◌+◌, ◌-◌, ◌*◌, ◌<◌, ◌≤◌, Bool, true, false, List, [], ◌∷◌, ◌++◌, length, take, drop, length-append, length-drop, refl, sym, ap, subst, ◌∙◌, append_assoc, append-nil, arith, Option, Some, None}
use Rattle.std.proofs.lemmas.List.{take-append-drop, length-take-le}
use Rattle.ep_base.specs.declared.limits.TheConstants.{COMMAND, COMMAND_EXCHANGES, ROUND_EXCHANGES, ROUNDS, START_EXCHANGES}
use Rattle.ep_base.specs.Air.Heard.{Activated, Ask, Heard, RoundEnd, Empty, Collision, Unsupported, Broken, Found}
use Rattle.ep_base.specs.Air.Heard as rounds
use Rattle.ep_base.specs.Cards.Apdu.{is_command}
use Rattle.ep_base.specs.Air.Medium.{untold, ExchangesBy}
use Rattle.ep_base.specs.Poll.Polling.{Plays}
use Rattle.ep_base.specs.Poll.Round.{Stage, Waking, round_asks, round_hears}
use Rattle.ep_base.specs.Link.Block.{ReadBlock}
use Rattle.ep_base.specs.Link.ReaderEnd.{Reader, ReaderTurn, Asks, Gives, Spends, Breaks, begin}
use Rattle.ep_base.specs.Link.LinkFrames.{LinkSetting, heard_block}
use Rattle.ep_base.specs.Link.Carry.{turn_on}
use Rattle.ep_base.specs.Poll.Radio.{OpenLink}
use Rattle.ep_rules.specs.EntryPoint.Event.{Ending}
use Rattle.ep_rules.specs.EntryPoint.Talk.{Talk, Over, Say, Poll, Command, Close, Result, Round, Response, Closed, so_far, is_found, IsLegal}
use Rattle.ep_rules.specs.EntryPoint.TransportRun.{AtLink, AtBreach}
use Rattle.law_link.specs.Bounds.{IsBounded, IsEnded}
use Rattle.law_link.specs.Bounds as links
use Rattle.law_link.proofs.Bounding.{bounded_toggles, command_ends}
use Rattle.ep_rules.specs.EntryPoint.Bounds.{AtMost, starts_left, AtMostStarts}
use Rattle.law_wire.proofs.Limits.{images_keep}
use Rattle.law_round.proofs.Counting.{left, Leveled, leaves, one_left}
use Rattle.law_round.proofs.Sizing.{round_sized}
use Rattle.ep_claim.specs.Lanes.Standing.{Standing, Doing, Rounds, Carries, Closing, Stopped, Astray, doing_by, standing, started, asked_by, link_by, after_stage, after_turn, after_hearing}
use Rattle.ep_claim.specs.Lanes.Counting.{rounds_left, AtMostRounds, after_hearings, IsOverAfter, EveryExchangeCounts}

-- ---- a link that is ready for a command

abbrev pub IsReady : Option OpenLink → Type 0
IsReady None = Unit {0}
IsReady (Some l) = (l.reader.since ≡ []) × (16 ≤ l.set.frames.card)

abbrev pub HasSize : RoundEnd → Type 0
HasSize Empty = Unit {0}
HasSize Collision = Unit {0}
HasSize Unsupported = Unit {0}
HasSize Broken = Unit {0}
HasSize (Found card) = 16 ≤ card.fsc

pub link_ready : (fsdi : ℕ) (e : RoundEnd) → HasSize e → IsReady (link_by fsdi e)
link_ready fsdi Empty h = tt
link_ready fsdi Collision h = tt
link_ready fsdi Unsupported h = tt
link_ready fsdi Broken h = tt
link_ready fsdi (Found card) h = (refl, h)

-- one exchange more where a link is open, which closes it
abbrev pub held : Option OpenLink → ℕ
held None = 0
held (Some l) = 1

module _ (fsdi : ℕ) (start : Talk) where
  abbrev OverIn : ℕ → Standing → Type 0
  OverIn k s = IsOverAfter fsdi start k s

  abbrev Quiet : List Heard → Standing → Type 0
  Quiet hs s = asked_by fsdi (after_hearings fsdi start hs s).doing ≡ None

  -- ---- counts

  stays : (hs : List Heard) (results : List Result) (doing : Doing) → asked_by fsdi doing ≡ None → Quiet hs (record { results = results; doing = doing })
  stays [] results doing e = e
  stays (h ∷ hs) results (Rounds stage) e = absurd (let clash : ⊥ = cc in clash)
  stays (h ∷ hs) results (Carries l) e = absurd (let clash : ⊥ = cc in clash)
  stays (h ∷ hs) results (Closing l) e = absurd (let clash : ⊥ = cc in clash)
  stays (h ∷ hs) results (Stopped ending) e = stays hs results (Stopped ending) refl
  stays (h ∷ hs) results Astray e = stays hs results Astray refl

  over_now : (k : ℕ) (s : Standing) → asked_by fsdi s.doing ≡ None → OverIn k s
  over_now k s e = λ hs le. stays hs s.results s.doing e

  over_more : (k m : ℕ) (s : Standing) → k ≤ m → OverIn k s → OverIn m s
  over_more k m s le over = λ hs many. over hs (omega (arith, le, many))

  step_quiet : (k m : ℕ) (s : Standing) (hs : List Heard) → k + 1 ≤ m → m ≤ length hs → ((h : Heard) → OverIn k (after_hearing fsdi start h s)) → Quiet hs s
  step_quiet k m s [] le many next = absurd (omega (arith, le, many))
  step_quiet k m s (h ∷ hs) le many next = next h hs (omega (arith, le, many))

  over_step : (k m : ℕ) (s : Standing) → k + 1 ≤ m → ((h : Heard) → OverIn k (after_hearing fsdi start h s)) → OverIn m s
  over_step k m s le next = λ hs many. step_quiet k m s hs le many next

  -- ---- a poll round

  any_exchange : (reset : Bool) (ask : Ask) (h : Heard) → ExchangesBy untold reset tt ask (Some h) tt
  any_exchange true ask h = (true, tt, tt, tt)
  any_exchange false ask h = tt

  -- the cards with which a round may end from here have a lawful frame size
  abbrev pub Sizes : ℕ → rounds.RoundTurn Stage → Type 0
  Sizes n turn = (card : Activated) → Plays untold fsdi n turn tt (Some (Found card)) tt → 16 ≤ card.fsc

  pub sizes_next : (n : ℕ) (stage : Stage) (h : Heard) → Sizes (suc n) (rounds.Goes stage) → Sizes n (round_hears stage h)
  unfolding Plays
  sizes_next n stage h sizes = λ card x. sizes card (Some h, tt, any_exchange (round_asks fsdi stage).reset (round_asks fsdi stage) h, x)

  at_end : (n : ℕ) (e : RoundEnd) → Plays untold fsdi n (rounds.Ends e) tt (Some e) tt
  unfolding Plays
  at_end zero e = (refl, refl)
  at_end (suc n) e = (refl, refl)

  pub end_sized : (n : ℕ) (e : RoundEnd) → Sizes n (rounds.Ends e) → HasSize e
  end_sized n Empty sizes = tt
  end_sized n Collision sizes = tt
  end_sized n Unsupported sizes = tt
  end_sized n Broken sizes = tt
  end_sized n (Found card) sizes = sizes card (at_end n (Found card))

  module _ (results : List Result) (k : ℕ) (next : (e : RoundEnd) → HasSize e → OverIn k (standing start (results ++ Round e ∷ []) (link_by fsdi e))) where
    stage_over : (n m : ℕ) (turn : rounds.RoundTurn Stage) → left turn ≤ n → n + k ≤ m → Sizes n turn
        → ((stage : Stage) → left (rounds.Goes stage) ≤ n → Sizes n (rounds.Goes stage) → Leveled (rounds.Goes stage) → OverIn m (record { results = results; doing = Rounds stage }))
        → Leveled turn → OverIn m (after_stage fsdi start results turn)
    stage_over n m (rounds.Goes stage) few le sizes again leveled = again stage few sizes leveled
    stage_over n m (rounds.Ends e) few le sizes again leveled =
        over_more k m (standing start (results ++ Round e ∷ []) (link_by fsdi e)) (omega (arith, le)) (next e (end_sized n e sizes))

    round_over : (n m : ℕ) (stage : Stage) → left (rounds.Goes stage) ≤ n → n + k ≤ m → Sizes n (rounds.Goes stage) → Leveled (rounds.Goes stage)
        → OverIn m (record { results = results; doing = Rounds stage })
    round_over zero m stage few le sizes leveled = absurd (omega (arith, few, one_left stage leveled))
    round_over (suc n) m stage few le sizes leveled =
        over_step (n + k) m (record { results = results; doing = Rounds stage }) (omega (arith, le))
        (λ h.
        let x = leaves stage h leveled in
        stage_over n (n + k) (round_hears stage h) (omega (arith, x.1, few)) (omega arith) (sizes_next n stage h sizes)
        (λ now fewer fit level. round_over n (n + k) now fewer (omega arith) fit level) x.0)

    polls_over : (m : ℕ) → ROUND_EXCHANGES + k ≤ m → OverIn m (record { results = results; doing = Rounds Waking })
    polls_over m le = round_over ROUND_EXCHANGES m Waking (omega arith) le (λ card x. (round_sized untold fsdi tt tt card x).0) tt

  -- ---- a command

  module _ (results : List Result) (k : ℕ) (set : LinkSetting)
      (next : (a : List ℕ) (q : Reader) → q.since ≡ [] → OverIn k (standing start (results ++ Response a ∷ []) (Some (record { set = set; reader = q })))) where
    abbrev frame : ℕ
    frame = set.frames.reader

    abbrev blocks : List Heard → List ReadBlock
    blocks [] = []
    blocks (h ∷ hs) = heard_block set.kind frame h ∷ blocks hs

    blocks_length : (hs : List Heard) → length (blocks hs) ≡ length hs
    blocks_length [] = refl
    blocks_length (h ∷ hs) = ap suc (blocks_length hs)

    settles : (hs more : List Heard) (t : ReaderTurn) → IsEnded (links.after_all frame (blocks hs) t) → IsBounded (links.after_all frame (blocks hs) t) → k ≤ length more
        → Quiet (hs ++ more) (after_turn start results set t)
    settles [] more (Asks r) ended bounded many = absurd ended
    settles [] more (Gives a q) ended bounded many = next a q bounded more many
    settles [] more (Spends r) ended bounded many = stays more results (Stopped AtLink) refl
    settles [] more (Breaks r) ended bounded many = stays more results (Stopped AtBreach) refl
    settles (h ∷ hs) more (Asks r) ended bounded many = settles hs more (turn_on set r h) ended bounded many
    settles (h ∷ hs) more (Gives a q) ended bounded many = next a q bounded (h ∷ (hs ++ more)) (omega (arith, many, length-append hs more))
    settles (h ∷ hs) more (Spends r) ended bounded many = stays (h ∷ (hs ++ more)) results (Stopped AtLink) refl
    settles (h ∷ hs) more (Breaks r) ended bounded many = stays (h ∷ (hs ++ more)) results (Stopped AtBreach) refl

    command_over : (c : List ℕ) (r : Reader) (m : ℕ) → r.since ≡ [] → 16 ≤ set.frames.card → length c ≤ COMMAND → COMMAND_EXCHANGES + k ≤ m
        → OverIn m (after_turn start results set (Asks (begin set.frames.card c r)))
    command_over c r m fresh wide short le = λ hs many.
        let n = COMMAND_EXCHANGES in
        let now = take n hs in
        let more = drop n hs in
        let begun = begin set.frames.card c r in
        let size : length now ≡ n = length-take-le n hs (omega (arith, le, many)) in
        let rest : length more ≡ length hs - n = length-drop n hs in
        let read : length (blocks now) ≡ length now = blocks_length now in
        let ended : IsEnded (links.after_all frame (blocks now) (Asks begun)) = command_ends set.frames.card frame c r (blocks now) fresh wide short (omega (arith, size, read)) in
        let bounded : IsBounded (links.after_all frame (blocks now) (Asks begun)) = bounded_toggles set.frames.card frame c r (blocks now) fresh in
        subst (λ l. Quiet l (after_turn start results set (Asks begun))) (take-append-drop n hs) (settles now more (Asks begun) ended bounded (omega (arith, rest, le, many)))

  -- ---- the talk

  abbrev pub Wishes : List Result → Talk → Type 0
  Wishes results rest = (more : List Result) → (so_far start (results ++ more)).wish ≡ (so_far rest more).wish

  pub wish_next : (results : List Result) (x : Result) (rest next : Talk) → Wishes results rest → ((more : List Result) → (so_far rest (x ∷ more)).wish ≡ (so_far next more).wish) → Wishes (results ++ x ∷ []) next
  wish_next results x rest next w e = λ more. ap (λ r. (so_far start r).wish) (append_assoc results (x ∷ []) more) ∙ (w (x ∷ more) ∙ e more)

  by_wish : (k : ℕ) (results : List Result) (rest : Talk) (link : Option OpenLink) → Wishes results rest
      → OverIn k (record { results = results; doing = doing_by (so_far rest []).wish link }) → OverIn k (standing start results link)
  by_wish k results rest link w x =
      subst (λ y. OverIn k (record { results = results; doing = doing_by y link })) (sym (ap (λ r. (so_far start r).wish) (sym (append-nil results)) ∙ w [])) x

  -- the exchanges of so many commands and Start Bs, with so many rounds left of the first
  abbrev pub most : (n m left : ℕ) → ℕ
  most n m left = COMMAND_EXCHANGES * n + (START_EXCHANGES * m - ROUND_EXCHANGES * (ROUNDS - left))

  abbrev Ends : Talk → Type 0
  Ends rest = (n m left : ℕ) (found : Bool) (results : List Result) (link : Option OpenLink)
      → Wishes results rest → IsReady link → IsLegal is_command found rest → AtMost n rest → AtMostStarts m rest → AtMostRounds ROUNDS left rest → left ≤ ROUNDS
      → OverIn (most n m left + held link) (standing start results link)

  over_ends : (e : Ending) → Ends (Over e)
  over_ends e n m left found results link w ready legal few starts rounds le =
      let k = most n m left + held link in
      by_wish k results (Over e) link w (over_now k (record { results = results; doing = doing_by (so_far (Over e) []).wish link }) refl)

  pub round_cost : (n m left : ℕ) (link : Option OpenLink) (e : RoundEnd) → 0 < m → 0 < left → left ≤ ROUNDS
      → most n (starts_left m e) (rounds_left ROUNDS left e) + held (link_by fsdi e) + ROUND_EXCHANGES ≤ most n m left + held link
  round_cost n m left link Empty some any le = omega (arith, some, any, le)
  round_cost n m left link Collision some any le = omega (arith, some, any, le)
  round_cost n m left link Unsupported some any le = omega (arith, some, any, le)
  round_cost n m left link Broken some any le = omega (arith, some, any, le)
  round_cost n m left link (Found card) some any le = omega (arith, some, any, le)

  pub rounds_fit : (left : ℕ) (e : RoundEnd) → left ≤ ROUNDS → rounds_left ROUNDS left e ≤ ROUNDS
  rounds_fit left Empty le = omega (arith, le)
  rounds_fit left Collision le = omega (arith, le)
  rounds_fit left Unsupported le = omega (arith, le)
  rounds_fit left Broken le = omega (arith, le)
  rounds_fit left (Found card) le = omega arith

  poll_ends : (next : RoundEnd → Talk) → ((e : RoundEnd) → Ends (next e)) → Ends (Poll next)
  poll_ends next again n m left found results link w ready legal few starts rounds le =
      let total = most n m left + held link in
      let k = total - ROUND_EXCHANGES in
      let some = round_cost n m left link Empty starts.0 rounds.0 le in
      by_wish total results (Poll next) link w
      (polls_over results k
      (λ e size.
      let now = results ++ Round e ∷ [] in
      let cost = round_cost n m left link e starts.0 rounds.0 le in
      over_more (most n (starts_left m e) (rounds_left ROUNDS left e) + held (link_by fsdi e)) k (standing start now (link_by fsdi e)) (omega (arith, cost))
      (again e n (starts_left m e) (rounds_left ROUNDS left e) (is_found e) now (link_by fsdi e) (wish_next results (Round e) (Poll next) (next e) w (λ more. refl)) (link_ready fsdi e size) (legal e) (few e)
      (starts.1 e) (rounds.1 e) (rounds_fit left e le))) total (omega (arith, some)))

  close_over : (next : Talk) → Ends next → (n m left : ℕ) (results : List Result) (link : Option OpenLink) → Wishes results (Close next) → IsLegal is_command false next → AtMost n next
      → AtMostStarts m next → AtMostRounds ROUNDS left next → left ≤ ROUNDS → OverIn (most n m left + held link) (record { results = results; doing = doing_by (so_far (Close next) []).wish link })
  close_over next again n m left results None w legal few starts rounds le = over_now (most n m left + 0) (record { results = results; doing = Astray }) refl
  close_over next again n m left results (Some l) w legal few starts rounds le =
      let k = most n m left + 0 in
      over_step k (most n m left + 1) (record { results = results; doing = Closing l }) (omega arith)
      (λ h. again n m left false (results ++ Closed ∷ []) None (wish_next results Closed (Close next) next w (λ more. refl)) tt legal few starts rounds le)

  close_ends : (next : Talk) → Ends next → Ends (Close next)
  close_ends next again n m left found results link w ready legal few starts rounds le =
      by_wish (most n m left + held link) results (Close next) link w (close_over next again n m left results link w legal few starts rounds le)

  command_by : (c : List ℕ) (next : List ℕ → Talk) → ((a : List ℕ) → Ends (next a)) → (n m left : ℕ) (found : Bool) (results : List Result) (link : Option OpenLink) → Wishes results (Command c next)
      → IsReady link → is_command c ≡ true → ((a : List ℕ) → IsLegal is_command found (next a)) → AtMost n (Command c next) → AtMostStarts m (Command c next) → AtMostRounds ROUNDS left (Command c next)
      → left ≤ ROUNDS → OverIn (most n m left + held link) (record { results = results; doing = doing_by (so_far (Command c next) []).wish link })
  command_by c next again n m left found results None w ready form legal few starts rounds le = over_now (most n m left + 0) (record { results = results; doing = Astray }) refl
  command_by c next again n m left found results (Some l) w ready form legal few starts rounds le =
      let k = most (n - 1) m left + 1 in
      let some : 0 < n = few.0 in
      let short : length c ≤ COMMAND = (images_keep (λ card. 0)).commands c form in
      command_over results k l.set
      (λ a q fresh.
      again a (n - 1) m left found (results ++ Response a ∷ []) (Some (record { set = l.set; reader = q })) (wish_next results (Response a) (Command c next) (next a) w (λ more. refl))
      (fresh, ready.1) (legal a) (few.1 a) (starts a) (rounds a) le) c l.reader (most n m left + 1) ready.0 ready.1 short (omega (arith, some))

  command_ends_so : (c : List ℕ) (next : List ℕ → Talk) → ((a : List ℕ) → Ends (next a)) → Ends (Command c next)
  command_ends_so c next again n m left found results link w ready legal few starts rounds le =
      by_wish (most n m left + held link) results (Command c next) link w (command_by c next again n m left found results link w ready legal.1 legal.2 few starts rounds le)

  talk_ends : (rest : Talk) → Ends rest
  talk_ends (Over e) = over_ends e
  talk_ends (Say x next) = λ n m left found results link w ready legal few starts rounds le. talk_ends next n m left found results link w ready legal few starts rounds le
  talk_ends (Poll next) = poll_ends next (λ e. talk_ends (next e))
  talk_ends (Command c next) = command_ends_so c next (λ a. talk_ends (next a))
  talk_ends (Close next) = close_ends next (talk_ends next)

pub every_exchange_counts_law : EveryExchangeCounts
every_exchange_counts_law fsdi talk commands starts b =
    over_more fsdi talk (COMMAND_EXCHANGES * commands + (START_EXCHANGES * starts - ROUND_EXCHANGES * (ROUNDS - ROUNDS)) + 0) (COMMAND_EXCHANGES * commands + START_EXCHANGES * starts) (started talk) (omega arith)
    (talk_ends fsdi talk talk commands starts ROUNDS false [] None (λ more. refl) tt b.legal b.few_commands b.few_starts b.few_rounds (omega arith))
