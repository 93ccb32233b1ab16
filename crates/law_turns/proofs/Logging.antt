-- A transaction's log always has a free record.
use Rattle.std.proofs.Common.{◌≡◌, ◌⊎◌, ⊎_elim, ℕ, zero, suc, ◌+◌, ◌≤◌, true, false, List, [], ◌∷◌, ◌++◌, length, length-append, refl, sym, ap, subst, ◌∙◌, append-nil, arith, Option, Some, None}
use Rattle.std.specs.Prelude.{if◌then◌else◌}
use Rattle.ep_base.specs.declared.air.Wave.{Wave}
use Rattle.ep_base.specs.Air.Heard.{Ask, RoundEnd}
use Rattle.ep_base.specs.Air.Fates.{next_fate}
use Rattle.ep_base.specs.Link.Wire.{comes_down}
use Rattle.ep_base.specs.Air.Medium.{told}
use Rattle.ep_base.specs.Cards.Field.{Placed, Field, field, field_reset, all_hear, all_take, one_hears}
use Rattle.ep_base.specs.Link.ReaderEnd.{ReaderTurn, Asks, Gives, Spends, Breaks}
use Rattle.ep_base.specs.Link.LinkFrames.{LinkSetting}
use Rattle.ep_base.specs.Poll.Radio.{OpenLink}
use Rattle.ep_base.specs.Cards.Images.{Rules, stored}
use Rattle.ep_rules.specs.EntryPoint.Perfect.{Channel, Perfect, at_command, perfect, channel, presents}
use Rattle.ep_base.specs.Cards.Direct.{image_rules}
use Rattle.ep_rules.specs.EntryPoint.Talk.{ends_of}
use Rattle.ep_rules.specs.EntryPoint.Talk.{Talk, Over, Say, Poll, Command, Close, Result, so_far}
use Rattle.ep_rules.specs.EntryPoint.TransportRun.{HearEnd, Whole, AtLink, AtBreach, AtDevice}
use Rattle.ep_rules.specs.EntryPoint.Bounds.{apdus, commands_wished}
use Rattle.law_run.proofs.Bounding.{few_apdus_lem}
use Rattle.ep_claim.specs.Promise.Perfection.{Keeps, responses}
use Rattle.law_lane.specs.Hearing.{HearsRounds, HearsTurn}
use Rattle.ep_claim.specs.Lanes.Standing.{asked_by, link_by}
use Rattle.ep_claim.specs.Lanes.Exchanges.{Lane, field_answers, opened_lane, goes_by, lane_step, lane_after}
use Rattle.law_lane.proofs.Ending.{lanes_end_law}
use Rattle.law_lane.proofs.Moving.{times_more}
use Rattle.ep_claim.specs.Promise.Transaction.{radio_of}
use Rattle.ep_claim.specs.Promise.Logs.{LogsFit}

-- ---- a log grows, and its room stays

all_grow : (room : ℕ) (wave : Wave) (bytes : List ℕ) (cards : List Placed) (log : List (ℕ × List ℕ)) → length log ≤ length (all_hear room wave bytes log cards).log
all_grow room wave bytes [] log = omega arith
all_grow room wave bytes (p ∷ ps) log =
    let own = (one_hears room wave bytes log p).executed in
    let size : length (log ++ own) ≡ length log + length own = length-append log own in
    let rest = all_grow room wave bytes ps (log ++ own) in
    omega (arith, size, rest)

take_grows : (f : Field) (wave : Wave) (o : Option (List ℕ)) → length f.log ≤ length (all_take f wave o).log
take_grows f wave None = omega arith
take_grows f wave (Some bytes) = all_grow f.room wave bytes f.cards f.log

abbrev Grows : Field → Field → Type 0
Grows f g = (length f.log ≤ length g.log) × (g.room ≡ f.room)

answer_grows : (ask : Ask) (f : Field) → Grows f (field_answers ask f).1
answer_grows ask f =
    let grown = take_grows (if ask.reset then field_reset f else f) ask.wave (comes_down (next_fate (if ask.reset then field_reset f else f).air.fates).down ask.wave ask.bytes) in
    let both : Grows f (if ask.reset then field_reset f else f) =
    elim ask.reset as (λ b. Grows f (if b then field_reset f else f)) [ true ↦ (omega arith, refl) | false ↦ (omega arith, refl) ] in
    let more = both.0 in
    (omega (arith, grown, more), both.1)

module _ (fsdi : ℕ) (talk : Talk) where
  step_grows : (l : Lane) → Grows l.field (lane_step fsdi talk l).field
  step_grows l =
      elim (asked_by fsdi l.standing.doing) as (λ (a : Option Ask). Grows l.field (goes_by fsdi talk a l).field) [
        | None ↦ (omega arith, refl)
        | Some ask ↦ answer_grows ask l.field
      ]

  lane_grows : (n : ℕ) (l : Lane) → Grows l.field (lane_after fsdi talk n l).field
  lane_grows zero l = (omega arith, refl)
  lane_grows (suc n) l =
      let first = step_grows l in
      let rest = lane_grows n (lane_step fsdi talk l) in
      let a = first.0 in
      let b = rest.0 in
      (omega (arith, a, b), rest.1 ∙ first.1)

  stays_over : (n : ℕ) (l : Lane) → asked_by fsdi l.standing.doing ≡ None → lane_after fsdi talk n l ≡ l
  stays_over zero l e = refl
  stays_over (suc n) l e = ap (λ o. lane_after fsdi talk n (goes_by fsdi talk o l)) e ∙ stays_over n l e

  -- a log has never more records than at the end
  most_at_end : (n count : ℕ) (l : Lane) → asked_by fsdi (lane_after fsdi talk count l).standing.doing ≡ None
      → length (lane_after fsdi talk n l).field.log ≤ length (lane_after fsdi talk count l).field.log
  most_at_end n count l over =
      let last = lane_after fsdi talk count l in
      let grown = (lane_grows count (lane_after fsdi talk n l)).0 in
      let turned : n + count ≡ count + n = omega arith in
      let same : lane_after fsdi talk count (lane_after fsdi talk n l) ≡ last =
      sym (times_more (lane_step fsdi talk) n count l)
      ∙ (ap (λ k. lane_after fsdi talk k l) turned ∙ (times_more (lane_step fsdi talk) count n l ∙ stays_over n last over)) in
      subst (λ (z : Lane). length (lane_after fsdi talk n l).field.log ≤ length z.field.log) same grown

-- ---- each response has its command's event

module _ (fsdi : ℕ) where
  abbrev Hears : Talk → Option OpenLink → Field → List Result → HearEnd → Field → Type 0
  Hears talk link f heard ending g = HearsRounds (told field) fsdi talk link f heard ending g

  abbrev Said : Talk → List Result → Type 0
  Said talk heard = responses heard ≡ apdus (so_far talk heard).events

  turn_said : (c : List ℕ) (next : List ℕ → Talk) (set : LinkSetting) (turn : ReaderTurn) (f g : Field) (heard : List Result) (ending : HearEnd)
      → ((r : List ℕ) (link : Option OpenLink) (rest : List Result) (v : Field) → Hears (next r) link v rest ending g → Said (next r) rest)
      → HearsTurn (told field) fsdi (λ response n v. Hears (next response) (Some n) v) set turn f heard ending g → Said (Command c next) heard
  turn_said c next set (Asks r) f g heard ending again x = absurd x
  turn_said c next set (Gives response r) f g heard ending again (rest, is, more) =
      let e = again response (Some (record { set = set; reader = r })) rest f more in
      let one : suc (responses rest) ≡ 1 + apdus (so_far (next response) rest).events = omega (arith, e) in
      subst (λ z. Said (Command c next) z) (sym is) one
  turn_said c next set (Spends r) f g heard ending again x = subst (λ z. Said (Command c next) z) (sym x.0) refl
  turn_said c next set (Breaks r) f g heard ending again x = subst (λ z. Said (Command c next) z) (sym x.0) refl

  all_said : (talk : Talk) (link : Option OpenLink) (f g : Field) (heard : List Result) (ending : HearEnd) → Hears talk link f heard ending g → Said talk heard
  all_said (Over e) link f g heard ending x = subst (λ z. Said (Over e) z) (sym x.0) refl
  all_said (Say what next) link f g heard ending x = all_said next link f g heard ending x
  all_said (Poll next) link f g heard ending (e, u, plays, rest, is, more) =
      subst (λ z. Said (Poll next) z) (sym is) (all_said (next e) (link_by fsdi e) u g rest ending more)
  all_said (Command c next) None f g heard ending x = absurd x
  all_said (Command c next) (Some l) f g heard ending (turn, u, comes, more) =
      turn_said c next l.set turn u g heard ending (λ r link rest v y. all_said (next r) link v g rest ending y) more
  all_said (Close next) None f g heard ending x = absurd x
  all_said (Close next) (Some l) f g heard ending (answer, u, sends, rest, is, more) =
      subst (λ z. Said (Close next) z) (sym is) (all_said next None u g rest ending more)

-- the perfect run lists as many commands as it says
module _ {S : Type 0} (rules : Rules S) where
  abbrev Lists : Talk → Perfect → Type 0
  Lists talk p = apdus (so_far talk p.results).events ≡ length p.commands

  perfect_lists : (talk : Talk) (ends : List RoundEnd) (ch : Channel S) → Lists talk (perfect rules talk ends ch)
  perfect_lists (Over e) ends ch = refl
  perfect_lists (Say what next) ends ch = perfect_lists next ends ch
  perfect_lists (Poll next) [] ch = refl
  perfect_lists (Poll next) (e ∷ ends) ch = perfect_lists (next e) ends (presents rules ch e)
  perfect_lists (Command c next) ends ch =
      elim ch.presented as (λ (o : Option ℕ). Lists (Command c next) (at_command rules ch c (λ r d. perfect rules (next r) ends d) o)) [
        | None ↦ refl
        | Some n ↦
            let a = rules.answers n (ch.images n) c in
            let e = perfect_lists (next a.0.response) ends (record { images = stored n a.1 ch.images; presented = Some n }) in
            omega (arith, e)
      ]
  perfect_lists (Close next) ends ch = perfect_lists next ends (record { images = ch.images; presented = None })

-- ---- the log at the end

log_by : (talk : Talk) (commands : ℕ) (heard : List Result) (u : Field) (p : Perfect) (ending : HearEnd) → apdus (so_far talk p.results).events ≡ length p.commands
    → responses heard ≡ apdus (so_far talk heard).events → apdus (so_far talk heard).events + commands_wished (so_far talk heard).wish ≤ commands → Keeps talk heard u p ending → length u.log ≤ commands
log_by talk commands heard u p Whole lists said few k =
    let size : length u.log ≡ length p.commands = ap (λ (l : List (ℕ × List ℕ)). length l) k.executed in
    let events : apdus ((so_far talk heard).events ++ []) ≡ apdus (so_far talk p.results).events = ap (λ x. apdus x) k.events in
    let same : apdus ((so_far talk heard).events ++ []) ≡ apdus (so_far talk heard).events = ap (λ x. apdus x) (append-nil (so_far talk heard).events) in
    omega (arith, size, events, same, lists, few)
log_by talk commands heard u p AtLink lists said few e =
    let wished : commands_wished (so_far talk heard).wish ≡ 1 = ap (λ w. commands_wished w) e.wished in
    let earlier = e.all_earlier in
    ⊎_elim
    (λ h. let size : length u.log ≡ length e.earlier = ap (λ (l : List (ℕ × List ℕ)). length l) h in omega (arith, size, earlier, said, wished, few))
    (λ h.
    let size : length u.log ≡ length e.earlier + 1 = ap (λ (l : List (ℕ × List ℕ)). length l) h ∙ length-append e.earlier ((e.number, e.command) ∷ []) in
    omega (arith, size, earlier, said, wished, few)) e.executed
log_by talk commands heard u p AtBreach lists said few k = absurd k
log_by talk commands heard u p AtDevice lists said few k = absurd k

pub logs_fit_law : LogsFit
logs_fit_law fsdi j cards commands n ready few room =
    let r = lanes_end_law cards.number_of cards.images j.talk (radio_of fsdi j) ready.new ready.carried ready.closes in
    let start = opened_lane j.talk j.field in
    let last = lane_after fsdi j.talk r.count start in
    let heard = last.standing.results in
    let rules = image_rules cards.number_of in
    let p = perfect rules j.talk (ends_of heard ++ []) (channel cards.images) in
    let over : asked_by fsdi last.standing.doing ≡ None = ap (λ d. asked_by fsdi d) r.stopped in
    let said = all_said fsdi j.talk None j.field last.field heard r.ending r.hears in
    let lists = perfect_lists rules j.talk (ends_of heard ++ []) (channel cards.images) in
    let at_end = log_by j.talk commands heard last.field p r.ending lists said (few_apdus_lem j.talk commands heard few) (r.keeps []) in
    let most = most_at_end fsdi j.talk n r.count start over in
    let same = (lane_grows fsdi j.talk n start).1 in
    record { most = omega (arith, most, at_end); free = omega (arith, most, at_end, same, room) }
