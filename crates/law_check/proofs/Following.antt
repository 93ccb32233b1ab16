-- The lines of a transaction's exchanges, followed from where it stands.
use Rattle.std.proofs.Common.{◌≡◌, ℕ, Bool, true, false, List, [], ◌∷◌, ◌++◌, Option, Some, None, refl, sym, ap, ◌∙◌, subst, append_assoc, append-nil}
use Rattle.std.specs.Prelude.{is_some}
use Rattle.ep_base.specs.Air.Heard.{Ask, RoundEnd, Empty, Collision, Unsupported, Broken, Found, RoundTurn, Goes, Ends}
use Rattle.ep_base.specs.Cards.Apdu.{is_command}
use Rattle.ep_base.specs.Cards.Field.{Field}
use Rattle.ep_base.specs.Link.Block.{Deselect}
use Rattle.ep_base.specs.Link.ReaderEnd.{ReaderTurn, Asks, Gives, Spends, Breaks, asked}
use Rattle.ep_base.specs.Link.Carry.{turn_on}
use Rattle.ep_base.specs.Poll.Round.{Stage, round_asks, round_hears}
use Rattle.ep_base.specs.Poll.Polling.{card_in}
use Rattle.ep_base.specs.Poll.Radio.{OpenLink}
use Rattle.ep_rules.specs.EntryPoint.Talk.{Talk, Over, Say, Poll, Command, Close, Result, Round, Response, Closed, Wish, so_far, is_found, IsLegal}
use Rattle.ep_rules.specs.EntryPoint.TransportRun.{Whole, AtLink, AtBreach, AtDevice}
use Rattle.ep_claim.specs.Promise.Closings.{ClosesFound}
use Rattle.ep_claim.specs.Lanes.Standing.{Standing, Doing, Rounds, Carries, Closing, Stopped, Astray, doing_by, started, asks_block, asked_by, link_by, after_stage, after_turn, hears_by, after_hearing}
use Rattle.ep_claim.specs.Lanes.Exchanges.{Exchange}
use Rattle.law_lane.specs.Following.{AreMade}
use Rattle.trace_check.specs.Lines.{Line}
use Rattle.trace_check.specs.Allowed.{Sends, IsCut}
use Rattle.trace_check.proofs.Cuts.{FromRest, FromTurn, FromRound, AfterEnd, Closed as ClosedFirst, to_cut, to_rest_closed, to_rest_begun}
use Rattle.law_check.specs.Openings.{ClosesOpened}
use Rattle.law_check.specs.Allowing.{exchange_lines}

-- a talk that sends commands to a found card, and closes what it opened and nothing else
pub record Orderly (found : Bool) (t : Talk) : Type 0 where
  pub legal : IsLegal is_command found t
  pub closes : ClosesFound found t
  pub opened : ClosesOpened found t

abbrev ask_or : Ask → Option Ask → Ask
ask_or a None = a
ask_or a (Some b) = b

abbrev line_of : Exchange → Line
line_of x = record { wave = x.asked.wave; frame = x.asked.bytes; wait = x.asked.wait; heard = x.heard }

-- the line of an exchange has the frame that is asked
sends : (ask : Ask) (x : Exchange) → Some ask ≡ Some x.asked → Sends (line_of x) ask
sends ask x e =
    let is : x.asked ≡ ask = sym (ap (λ o. ask_or ask o) e) in
    record { wave = ap (λ (a : Ask). a.wave) is; frame = ap (λ (a : Ask). a.bytes) is; wait = ap (λ (a : Ask). a.wait) is }

not_asked : (ask : Ask) → None ≡ Some ask → ⊥
not_asked ask e = cc

module _ (fsdi : ℕ) where
  -- these lines can follow where a transaction stands
  abbrev pub Completes : Doing → List Line → Type 0
  Completes (Rounds stage) ls = FromRound fsdi (Goes stage) ls
  Completes (Carries l) ls = FromTurn (IsCut fsdi) l.set (Asks l.reader) ls
  Completes (Closing l) ls = ClosedFirst (IsCut fsdi) l.set ls
  Completes (Stopped Whole) ls = IsCut fsdi ls
  Completes (Stopped AtLink) ls = IsCut fsdi ls
  Completes (Stopped AtBreach) ls = ⊥
  Completes (Stopped AtDevice) ls = ⊥
  Completes Astray ls = ⊥

  -- these lines can follow between two wishes, with this link
  abbrev AfterLink : Option OpenLink → List Line → Type 0
  AfterLink None ls = IsCut fsdi ls
  AfterLink (Some l) ls = FromRest (IsCut fsdi) l.set l.reader ls

  linked : (e : RoundEnd) → is_found e ≡ is_some (link_by fsdi e)
  linked Empty = refl
  linked Collision = refl
  linked Unsupported = refl
  linked Broken = refl
  linked (Found card) = refl

  after_end : (e : RoundEnd) (ls : List Line) → AfterLink (link_by fsdi e) ls → AfterEnd fsdi (card_in e) ls
  after_end Empty ls x = x
  after_end Collision ls x = x
  after_end Unsupported ls x = x
  after_end Broken ls x = x
  after_end (Found card) ls x = x

  clash : false ≡ true → ⊥
  clash e = cc

  open_clash : true ≡ false → ⊥
  open_clash e = cc

  -- what follows from a wish, follows with the link
  by_wish : (now : Talk) (link : Option OpenLink) (w : Wish) (ls : List Line) → w ≡ (so_far now []).wish → Orderly (is_some link) now → Completes (doing_by w link) ls → AfterLink link ls
  by_wish (Over ending) None w ls e o c = subst (λ (v : Wish). Completes (doing_by v None) ls) e c
  by_wish (Over ending) (Some l) w ls e o c = absurd (open_clash o.opened)
  by_wish (Say what next) link w ls e o c = by_wish next link w ls e (record { legal = o.legal; closes = o.closes; opened = o.opened }) c
  by_wish (Poll next) None w ls e o c = to_cut fsdi ls (subst (λ (v : Wish). Completes (doing_by v None) ls) e c)
  by_wish (Poll next) (Some l) w ls e o c = absurd (open_clash o.opened.0)
  by_wish (Command command next) None w ls e o c = absurd (clash o.legal.0)
  by_wish (Command command next) (Some l) w ls e o c =
      to_rest_begun (IsCut fsdi) l.set l.reader command ls o.legal.1 (subst (λ (v : Wish). Completes (doing_by v (Some l)) ls) e c)
  by_wish (Close next) None w ls e o c = absurd (clash o.closes.0)
  by_wish (Close next) (Some l) w ls e o c =
      let d : ClosedFirst (IsCut fsdi) l.set ls = subst (λ (v : Wish). Completes (doing_by v (Some l)) ls) e c in
      subst (λ (xs : List Line). FromRest (IsCut fsdi) l.set l.reader xs) (sym d.parts) (to_rest_closed (IsCut fsdi) l.set l.reader d.line d.rest d.sends d.cut)

  module _ (talk : Talk) where
    -- with these results the talk goes on as this one
    pub record Rest (results : List Result) (found : Bool) (now : Talk) : Type 0 where
      pub tie : (more : List Result) → (so_far talk (results ++ more)).wish ≡ (so_far now more).wish
      pub orderly : Orderly found now

    abbrev pub Stands : List Result → Doing → Type 0
    Stands results (Rounds stage) = (next : RoundEnd → Talk) × ((e : RoundEnd) → Rest (results ++ Round e ∷ []) (is_found e) (next e))
    Stands results (Carries l) = (next : List ℕ → Talk) × ((r : List ℕ) → Rest (results ++ Response r ∷ []) true (next r))
    Stands results (Closing l) = (next : Talk) × Rest (results ++ Closed ∷ []) false next
    Stands results (Stopped ending) = Unit {0}
    Stands results Astray = ⊥

    -- with one more result
    tie_next : (results : List Result) (now next : Talk) (x : Result) → ((more : List Result) → (so_far talk (results ++ more)).wish ≡ (so_far now more).wish)
        → ((more : List Result) → (so_far now (x ∷ more)).wish ≡ (so_far next more).wish) → (more : List Result) → (so_far talk ((results ++ x ∷ []) ++ more)).wish ≡ (so_far next more).wish
    tie_next results now next x tie on more = ap (λ rs. (so_far talk rs).wish) (append_assoc results (x ∷ []) more) ∙ (tie (x ∷ more) ∙ on more)

    stands_by : (now : Talk) (results : List Result) (link : Option OpenLink) (w : Wish) → w ≡ (so_far now []).wish → Rest results (is_some link) now → Stands results (doing_by w link)
    stands_by (Over ending) results link w e r = subst (λ (v : Wish). Stands results (doing_by v link)) (sym e) tt
    stands_by (Say what next) results link w e r =
        stands_by next results link w e (record { tie = r.tie; orderly = record { legal = r.orderly.legal; closes = r.orderly.closes; opened = r.orderly.opened } })
    stands_by (Poll next) results link w e r =
        subst (λ (v : Wish). Stands results (doing_by v link)) (sym e) (
          next,
          λ d. record {
            tie = tie_next results (Poll next) (next d) (Round d) r.tie (λ more. refl);
            orderly = record { legal = r.orderly.legal d; closes = r.orderly.closes d; opened = r.orderly.opened.1 d };
          },
        )
    stands_by (Command command next) results None w e r = absurd (clash r.orderly.legal.0)
    stands_by (Command command next) results (Some l) w e r =
        subst (λ (v : Wish). Stands results (doing_by v (Some l))) (sym e) (
          next,
          λ a. record {
            tie = tie_next results (Command command next) (next a) (Response a) r.tie (λ more. refl);
            orderly = record { legal = r.orderly.legal.2 a; closes = r.orderly.closes a; opened = r.orderly.opened a };
          },
        )
    stands_by (Close next) results None w e r = absurd (clash r.orderly.closes.0)
    stands_by (Close next) results (Some l) w e r =
        subst (λ (v : Wish). Stands results (doing_by v (Some l))) (sym e) (
          next,
          record {
            tie = tie_next results (Close next) next Closed r.tie (λ more. refl);
            orderly = record { legal = r.orderly.legal; closes = r.orderly.closes.1; opened = r.orderly.opened };
          },
        )

    module _ (ls : List Line) where
      -- what follows from where it stands is known
      abbrev Goes_on : Standing → Type 0
      Goes_on s = Stands s.results s.doing → Completes s.doing ls

      result_on : (results : List Result) (link : Option OpenLink) (now : Talk) → Rest results (is_some link) now
          → (Stands results (doing_by (so_far talk results).wish link) → Completes (doing_by (so_far talk results).wish link) ls) → AfterLink link ls
      result_on results link now r more =
          let w = (so_far talk results).wish in
          let e : w ≡ (so_far now []).wish = ap (λ rs. (so_far talk rs).wish) (sym (append-nil results)) ∙ r.tie [] in
          by_wish now link w ls e r.orderly (more (stands_by now results link w e r))

      stage_on : (results : List Result) (stage : Stage) (turn : RoundTurn Stage) → Stands results (Rounds stage) → Goes_on (after_stage fsdi talk results turn) → FromRound fsdi turn ls
      stage_on results stage (Goes next) s more = more s
      stage_on results stage (Ends e) (next, rest) more =
          after_end e ls
          (result_on (results ++ Round e ∷ []) (link_by fsdi e) (next e) (subst (λ (b : Bool). Rest (results ++ Round e ∷ []) b (next e)) (linked e) (rest e)) more)

      turn_on_lines : (results : List Result) (l : OpenLink) (turn : ReaderTurn) → Stands results (Carries l) → Goes_on (after_turn talk results l.set turn) → FromTurn (IsCut fsdi) l.set turn ls
      turn_on_lines results l (Asks r) s more = more s
      turn_on_lines results l (Gives response r) (next, rest) more =
          result_on (results ++ Response response ∷ []) (Some (record { set = l.set; reader = r })) (next response) (rest response) more
      turn_on_lines results l (Spends r) s more = more tt
      turn_on_lines results l (Breaks r) s more = more tt

      -- one exchange
      leg : (results : List Result) (doing : Doing) (x : Exchange) → Stands results doing → asked_by fsdi doing ≡ Some x.asked → Goes_on (hears_by fsdi talk results x.heard doing)
          → Completes doing (line_of x ∷ ls)
      leg results (Rounds stage) x s asks more = (sends (round_asks fsdi stage) x asks, stage_on results stage (round_hears stage x.heard) s more)
      leg results (Carries l) x s asks more = (sends (asks_block l.set (asked l.reader)) x asks, turn_on_lines results l (turn_on l.set l.reader x.heard) s more)
      leg results (Closing l) x (next, rest) asks more =
          record { line = line_of x; rest = ls; parts = refl; sends = sends (asks_block l.set Deselect) x asks; cut = result_on (results ++ Closed ∷ []) None next rest more }
      leg results (Stopped ending) x s asks more = absurd (not_asked x.asked asks)
      leg results Astray x s asks more = absurd s

    -- all exchanges
    completes : (xs : List Exchange) (s t : Standing) (f g : Field) (rest : List Line) → Stands s.results s.doing → AreMade fsdi talk s f xs t g → Completes t.doing rest
        → Completes s.doing (exchange_lines xs ++ rest)
    completes [] s t f g rest stands made c = subst (λ (z : Standing). Completes z.doing rest) (sym made.0) c
    completes (x ∷ xs) s t f g rest stands (asks, u, answers, made) c =
        leg (exchange_lines xs ++ rest) s.results s.doing x stands asks (λ now. completes xs (after_hearing fsdi talk x.heard s) t u g rest now made c)

    -- from the transaction's start on
    pub all_cut : (xs : List Exchange) (t : Standing) (f g : Field) (rest : List Line) → Orderly false talk → AreMade fsdi talk (started talk) f xs t g → Completes t.doing rest
        → IsCut fsdi (exchange_lines xs ++ rest)
    all_cut xs t f g rest orderly made c =
        result_on (exchange_lines xs ++ rest) [] None talk (record { tie = λ more. refl; orderly = orderly }) (λ now. completes xs (started talk) t f g rest now made c)
