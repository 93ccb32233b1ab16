-- A link fails exactly with the third bad exchange of an open command.
use Rattle.std.proofs.Common.{◌≡◌, ℕ, zero, suc, ◌+◌, ◌≤◌, Bool, true, false, List, [], ◌∷◌, ◌++◌, refl, sym, ap, subst, ◌∙◌, arith, Option, Some, None}
use Rattle.std.specs.Prelude.{if◌then◌else◌, nat_lt, nat_le}
use Rattle.std.proofs.lemmas.Bool.Decides.{nat_tests}
use Rattle.ep_base.specs.declared.limits.TheConstants.{WAITS}
use Rattle.ep_base.specs.Link.Block.{I, RAck, RNak, Deselect, Wtx, ReadBlock, Bad, Junk, Intact, same, is_bad, is_wtx, is_nak, count}
use Rattle.ep_base.specs.Air.Heard.{Ask, Heard, RoundEnd, Empty, Collision, Unsupported, Broken, Found}
use Rattle.ep_base.specs.Air.Heard as rounds
use Rattle.ep_base.specs.Link.LinkFrames.{LinkSetting, heard_block}
use Rattle.ep_base.specs.Poll.Radio.{OpenLink}
use Rattle.ep_base.specs.Link.ReaderEnd.{Phase, Idle, Sending, Receiving, Reader, ReaderTurn, Asks, Gives, Spends, Breaks, asked, is_fit, appended, takes, on_i, on_ack, on_bad, kept, reader_hears}
use Rattle.ep_base.specs.Poll.Round.{Stage, round_hears}
use Rattle.ep_rules.specs.EntryPoint.Talk.{Talk, Result, Round, Response, Closed, Wish, Polls, Commands, Closes, Nothing, so_far}
use Rattle.ep_rules.specs.EntryPoint.TransportRun.{Whole, AtLink, AtBreach, AtDevice}
use Rattle.ep_claim.specs.Lanes.Exchanges.{Lane, field_answers, or_silence, opened_lane, goes_by, lane_step, lane_after}
use Rattle.ep_claim.specs.Lanes.Standing.{Doing, Rounds, Carries, Closing, Stopped, Astray, doing_by, standing, asks_block, asked_by, link_by, after_stage, after_turn, hears_by}
use Rattle.ep_claim.specs.Lanes.LaneText.{Job}
use Rattle.ep_claim.specs.Lanes.Telling.{job_after}
use Rattle.ep_claim.specs.Promise.Thirds.{FailsAtThird, FailsOnlyAtThird, TwoBadAtMost, FailsExactlyAtThird}
use Rattle.law_turns.proofs.Stepping.{times_end}

-- ---- a hearing of an open command

-- What a turn after this hearing leaves: at most two bad hearings where it goes on, and a link is spent by a third one alone.
abbrev Falls : Reader → ReadBlock → ReaderTurn → Type 0
Falls r h (Asks q) = count is_bad q.since ≤ 2
Falls r h (Gives response q) = count is_bad q.since ≤ 2
Falls r h (Spends q) = (h ≡ Bad) × (count is_bad r.since ≡ 2)
Falls r h (Breaks q) = Unit {0}

below : (n : ℕ) → nat_lt (suc n) 3 ≡ true → suc n ≤ 2
below n e = grind (arith, nat_tests)

third : (n : ℕ) → n ≤ 2 → nat_lt (suc n) 3 ≡ false → n ≡ 2
third n few e = let least : 2 ≤ n = grind (arith, nat_tests) in omega (arith, few, least)

module _ (frame : ℕ) (r : Reader) (few : count is_bad r.since ≤ 2) where
  falls_bad : Falls r Bad (on_bad (kept Bad r))
  falls_bad =
      elim (nat_lt (suc (count is_bad r.since)) 3) as (λ (b : Bool). nat_lt (suc (count is_bad r.since)) 3 ≡ b → Falls r Bad (if b then Asks (kept Bad r) else Spends (kept Bad r))) [
        | true ↦ λ e. below (count is_bad r.since) e
        | false ↦ λ e. (refl, third (count is_bad r.since) few e)
      ] refl

  falls_part : (h : ReadBlock) (got inf : List ℕ) (ch : Bool) → Falls r h (takes frame got ch inf r)
  falls_part h got inf true =
      elim (is_fit frame got true inf) as (λ (b : Bool). Falls r h (if b then appended got true inf r else Breaks r)) [ true ↦ omega arith | false ↦ tt ]
  falls_part h got inf false =
      elim (is_fit frame got false inf) as (λ (b : Bool). Falls r h (if b then appended got false inf r else Breaks r)) [ true ↦ omega arith | false ↦ tt ]

  falls_i : (h : ReadBlock) (phase : Phase) (ch : Bool) (inf : List ℕ) → Falls r h (on_i frame phase ch inf r)
  falls_i h Idle ch inf = tt
  falls_i h (Sending part []) ch inf = falls_part h [] inf ch
  falls_i h (Sending part (next ∷ left)) ch inf = tt
  falls_i h (Receiving got) ch inf = falls_part h got inf ch

  falls_ack : (h : ReadBlock) (phase : Phase) → Falls r h (on_ack phase r)
  falls_ack h Idle = tt
  falls_ack h (Sending part []) = tt
  falls_ack h (Sending part (next ∷ left)) = omega arith
  falls_ack h (Receiving got) = tt

  -- whatever is heard
  falls : (h : ReadBlock) → Falls r h (reader_hears frame r h)
  falls Bad = falls_bad
  falls Junk = tt
  falls (Intact (I k ch inf)) =
      elim (same k r.number) as (λ (b : Bool). Falls r (Intact (I k ch inf)) (if b then on_i frame r.phase ch inf r else Breaks r)) [
        | true ↦ falls_i (Intact (I k ch inf)) r.phase ch inf
        | false ↦ tt
      ]
  falls (Intact (RAck k)) =
      elim (same k r.number) as (λ (b : Bool). Falls r (Intact (RAck k)) (if b then on_ack r.phase r else if is_nak (asked r) then Asks (kept (Intact (RAck k)) r) else Breaks r)) [
        | true ↦ falls_ack (Intact (RAck k)) r.phase
        | false ↦ elim (is_nak (asked r)) as (λ (b : Bool). Falls r (Intact (RAck k)) (if b then Asks (kept (Intact (RAck k)) r) else Breaks r)) [ true ↦ few | false ↦ tt ]
      ]
  falls (Intact (RNak k)) = tt
  falls (Intact Deselect) = tt
  falls (Intact (Wtx p m)) =
      elim (nat_le (count is_wtx (Intact (Wtx p m) ∷ r.since)) WAITS) as (λ (b : Bool). Falls r (Intact (Wtx p m)) (if b then Asks (kept (Intact (Wtx p m)) r) else Breaks r)) [ true ↦ few | false ↦ tt ]

-- ---- a transaction between two exchanges

abbrev FewIn : Option OpenLink → Type 0
FewIn None = Unit {0}
FewIn (Some l) = count is_bad l.reader.since ≤ 2

-- no more than two hearings of an open command were bad
abbrev Few : Doing → Type 0
Few (Rounds stage) = Unit {0}
Few (Carries l) = count is_bad l.reader.since ≤ 2
Few (Closing l) = Unit {0}
Few (Stopped ending) = Unit {0}
Few Astray = Unit {0}

-- it has ended by the failure of its link
abbrev at_link : Doing → Bool
at_link (Rounds stage) = false
at_link (Carries l) = false
at_link (Closing l) = false
at_link (Stopped Whole) = false
at_link (Stopped AtLink) = true
at_link (Stopped AtBreach) = false
at_link (Stopped AtDevice) = false
at_link Astray = false

not_failed : (d : Doing) → at_link d ≡ false → d ≡ Stopped AtLink → ⊥
not_failed d other fails = let clash : false ≡ true = sym other ∙ ap at_link fails in cc

few_wish : (w : Wish) (link : Option OpenLink) → FewIn link → Few (doing_by w link)
few_wish Polls link few = tt
few_wish (Commands command) (Some l) few = few
few_wish (Commands command) None few = tt
few_wish Closes (Some l) few = tt
few_wish Closes None few = tt
few_wish Nothing link few = tt

wish_fails_no_link : (w : Wish) (link : Option OpenLink) → at_link (doing_by w link) ≡ false
wish_fails_no_link Polls link = refl
wish_fails_no_link (Commands command) (Some l) = refl
wish_fails_no_link (Commands command) None = refl
wish_fails_no_link Closes (Some l) = refl
wish_fails_no_link Closes None = refl
wish_fails_no_link Nothing link = refl

few_link : (fsdi : ℕ) (e : RoundEnd) → FewIn (link_by fsdi e)
few_link fsdi Empty = tt
few_link fsdi Collision = tt
few_link fsdi Unsupported = tt
few_link fsdi Broken = tt
few_link fsdi (Found card) = omega arith

-- An exchange of this standing is the third bad one of its open command.
abbrev IsThird : Doing → Heard → Type 0
IsThird d heard =
    (link : OpenLink) × (d ≡ Carries link) × (count is_bad link.reader.since ≡ 2)
    × (heard_block link.set.kind link.set.frames.reader heard ≡ Bad)

abbrev or_ask : Ask → Option Ask → Ask
or_ask a None = a
or_ask a (Some b) = b

module _ (fsdi : ℕ) (talk : Talk) where
  few_stage : (results : List Result) (t : rounds.RoundTurn Stage) → Few (after_stage fsdi talk results t).doing
  few_stage results (rounds.Goes stage) = tt
  few_stage results (rounds.Ends e) = few_wish (so_far talk (results ++ Round e ∷ [])).wish (link_by fsdi e) (few_link fsdi e)

  stage_fails_no_link : (results : List Result) (t : rounds.RoundTurn Stage) → at_link (after_stage fsdi talk results t).doing ≡ false
  stage_fails_no_link results (rounds.Goes stage) = refl
  stage_fails_no_link results (rounds.Ends e) = wish_fails_no_link (so_far talk (results ++ Round e ∷ [])).wish (link_by fsdi e)

  few_turn : (results : List Result) (set : LinkSetting) (r : Reader) (h : ReadBlock) (t : ReaderTurn) → Falls r h t → Few (after_turn talk results set t).doing
  few_turn results set r h (Asks q) f = f
  few_turn results set r h (Gives response q) f =
      few_wish (so_far talk (results ++ Response response ∷ [])).wish (Some (record { set = set; reader = q })) f
  few_turn results set r h (Spends q) f = tt
  few_turn results set r h (Breaks q) f = tt

  third_turn : (results : List Result) (set : LinkSetting) (r : Reader) (h : ReadBlock) (t : ReaderTurn) → Falls r h t
      → (after_turn talk results set t).doing ≡ Stopped AtLink → (h ≡ Bad) × (count is_bad r.since ≡ 2)
  third_turn results set r h (Asks q) f e = absurd (not_failed (Carries (record { set = set; reader = q })) refl e)
  third_turn results set r h (Gives response q) f e =
      let now = results ++ Response response ∷ [] in
      let link : Option OpenLink = Some (record { set = set; reader = q }) in
      absurd (not_failed (standing talk now link).doing (wish_fails_no_link (so_far talk now).wish link) e)
  third_turn results set r h (Spends q) f e = f
  third_turn results set r h (Breaks q) f e = absurd (not_failed (Stopped AtBreach) refl e)

  few_by : (results : List Result) (heard : Heard) (d : Doing) → Few d → Few (hears_by fsdi talk results heard d).doing
  few_by results heard (Rounds stage) few = few_stage results (round_hears stage heard)
  few_by results heard (Carries l) few =
      let h = heard_block l.set.kind l.set.frames.reader heard in
      few_turn results l.set l.reader h (reader_hears l.set.frames.reader l.reader h) (falls l.set.frames.reader l.reader few h)
  few_by results heard (Closing l) few = few_wish (so_far talk (results ++ Closed ∷ [])).wish None tt
  few_by results heard (Stopped ending) few = tt
  few_by results heard Astray few = tt

  third_by : (results : List Result) (heard : Heard) (ask : Ask) (d : Doing) → Few d → asked_by fsdi d ≡ Some ask
      → (hears_by fsdi talk results heard d).doing ≡ Stopped AtLink → IsThird d heard
  third_by results heard ask (Rounds stage) few asks e =
      absurd (not_failed (after_stage fsdi talk results (round_hears stage heard)).doing (stage_fails_no_link results (round_hears stage heard)) e)
  third_by results heard ask (Carries l) few asks e =
      let h = heard_block l.set.kind l.set.frames.reader heard in
      let is = third_turn results l.set l.reader h (reader_hears l.set.frames.reader l.reader h) (falls l.set.frames.reader l.reader few h) e in
      (l, refl, is.1, is.0)
  third_by results heard ask (Closing l) few asks e =
      let now = results ++ Closed ∷ [] in
      absurd (not_failed (standing talk now None).doing (wish_fails_no_link (so_far talk now).wish None) e)
  third_by results heard ask (Stopped ending) few asks e = absurd (let clash : None ≡ Some ask = asks in cc)
  third_by results heard ask Astray few asks e = absurd (let clash : None ≡ Some ask = asks in cc)

  few_goes : (o : Option Ask) (l : Lane) → Few l.standing.doing → Few (goes_by fsdi talk o l).standing.doing
  few_goes None l few = few
  few_goes (Some ask) l few = few_by l.standing.results (or_silence (field_answers ask l.field).0) l.standing.doing few

  few_after : (n : ℕ) (l : Lane) → Few l.standing.doing → Few (lane_after fsdi talk n l).standing.doing
  few_after zero l few = few
  few_after (suc n) l few = few_after n (lane_step fsdi talk l) (few_goes (asked_by fsdi l.standing.doing) l few)

  -- the exchange of a lane with which its link fails
  third_at : (l : Lane) (ask : Ask) → Few l.standing.doing → asked_by fsdi l.standing.doing ≡ Some ask
      → (lane_step fsdi talk l).standing.doing ≡ Stopped AtLink → IsThird l.standing.doing (or_silence (field_answers ask l.field).0)
  third_at l ask few asks e =
      let heard = or_silence (field_answers ask l.field).0 in
      third_by l.standing.results heard ask l.standing.doing few asks
      (ap (λ (o : Option Ask). (goes_by fsdi talk o l).standing.doing) (sym asks) ∙ e)

-- ---- a transaction over its own field

few_at : (fsdi : ℕ) (j : Job) (n : ℕ) → Few (job_after fsdi j n).standing.doing
few_at fsdi j n = few_after fsdi j.talk n (opened_lane j.talk j.field) (few_wish (so_far j.talk []).wish None tt)

next_is : (fsdi : ℕ) (j : Job) (n : ℕ) → job_after fsdi j (suc n) ≡ lane_step fsdi j.talk (job_after fsdi j n)
next_is fsdi j n = times_end (lane_step fsdi j.talk) n (opened_lane j.talk j.field)

pub only_third_lem : (fsdi : ℕ) (j : Job) → FailsOnlyAtThird fsdi j
only_third_lem fsdi j n (ask, asks) fails =
    let l = job_after fsdi j n in
    let e = ap (λ (k : Lane). k.standing.doing) (sym (next_is fsdi j n)) ∙ fails in
    let (link, carries, two, bad) = third_at fsdi j.talk l ask (few_at fsdi j n) asks e in
    let same : ask ≡ asks_block link.set (asked link.reader) =
    ap (λ (o : Option Ask). or_ask ask o) (sym asks ∙ ap (λ (d : Doing). asked_by fsdi d) carries) in
    record {
      link = link;
      carries = carries;
      two = two;
      bad = subst (λ a. heard_block link.set.kind link.set.frames.reader (or_silence (field_answers a l.field).0) ≡ Bad) same bad;
    }

pub two_bad_lem : (fsdi : ℕ) (j : Job) → TwoBadAtMost fsdi j
two_bad_lem fsdi j n link carries = subst Few carries (few_at fsdi j n)

-- ---- the third one ends it

module _ (fsdi : ℕ) (talk : Talk) (l : Lane) (link : OpenLink) (carries : l.standing.doing ≡ Carries link)
    (two : count is_bad link.reader.since ≡ 2) where
  abbrev ask : Ask
  ask = asks_block link.set (asked link.reader)

  abbrev heard : ReadBlock
  heard = heard_block link.set.kind link.set.frames.reader (or_silence (field_answers ask l.field).0)

  -- the reader with one more bad hearing
  abbrev worse : Reader
  worse = kept Bad link.reader

  step_fails : heard ≡ Bad → (lane_step fsdi talk l).standing.doing ≡ Stopped AtLink
  step_fails bad =
      ap (λ (d : Doing). (goes_by fsdi talk (asked_by fsdi d) l).standing.doing) carries
      ∙ (ap (λ (d : Doing). (hears_by fsdi talk l.standing.results (or_silence (field_answers ask l.field).0) d).doing) carries
      ∙ (ap (λ (h : ReadBlock). (after_turn talk l.standing.results link.set (reader_hears link.set.frames.reader link.reader h)).doing) bad
      ∙ ap (λ (n : ℕ). (after_turn talk l.standing.results link.set (if nat_lt (suc n) 3 then Asks worse else Spends worse)).doing) two))

pub third_lem : (fsdi : ℕ) (j : Job) → FailsAtThird fsdi j
third_lem fsdi j n at =
    ap (λ (l : Lane). l.standing.doing) (next_is fsdi j n)
    ∙ step_fails fsdi j.talk (job_after fsdi j n) at.link at.carries at.two at.bad

pub fails_exactly_law : (fsdi : ℕ) (j : Job) → FailsExactlyAtThird fsdi j
fails_exactly_law fsdi j = record { third = third_lem fsdi j; only_third = only_third_lem fsdi j; at_most_two = two_bad_lem fsdi j }
