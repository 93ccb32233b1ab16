use Rattle.std.proofs.Common.{Some, None, Ok, Err, subst, ◌∙◌, arith}
use Rattle.ep_base.specs.Air.Heard.{Ask as AskData}
use Rattle.ep_base.specs.Link.ReaderEnd.{begin}
use Rattle.rf_frame.specs.Meaning.{heard_of}
use Rattle.block_reader.specs.declared.ends.Next.TheVariants.{Ask, Done, Failed}
use Rattle.block_reader.specs.declared.ends.LinkEnd.TheVariants.{Device}
use Rattle.block_reader.specs.Stands.{held}
use Rattle.link.proofs.Following.{After, begun, lost, heard, goes_on, done, failed, once}
use Rattle.link.proofs.carrying.carry.Goals as goal

pub loop-heard-init : goal.loop-heard-init
loop-heard-init g c =
    let M = g.M.Medium in
    let set = (held c.args.end.now).set in
    record {
      going = λ r rests.
          let started = c.begin-ask.ensures.by_rules r rests in
          begun M.steps set (begin set.frames.card c.args.command.now r) (M.state c.args.medium.now) c.begin-ask.result (held c.begin-ask.new.self) started.0 started.1;
      under_way = c.begin-ask.ensures.open;
      setting = c.begin-ask.ensures.setting;
      later = omega arith;
    }

pub loop-heard-preserved : goal.loop-heard-preserved
loop-heard-preserved g c =
    let M = g.M.Medium in
    let set = (held c.args.end.now).set in
    record {
      going = λ r rests.
          let now : After M.steps set (begin set.frames.card c.args.command.now r) (M.state c.args.medium.now) (Ask c.in-Ask.next) (held c.heard.new.self) (M.state c.send.new.self) =
          heard M.steps set (begin set.frames.card c.args.command.now r) (M.state c.args.medium.now) c.loop-heard.ask (held c.loop-heard.end) (M.state c.loop-heard.medium) (heard_of c.in-Ok.heard)
          (Ask c.in-Ask.next) (held c.heard.new.self) (M.state c.send.new.self) (c.loop-heard.invariant.going r rests)
          (subst (λ (a : AskData). M.steps.sends (M.state c.loop-heard.medium) a.wave a.bytes a.wait (Some (heard_of c.in-Ok.heard)) (M.state c.send.new.self)) c.ask.view_is c.in-Ok.ensures.step)
          (c.heard.ensures.setting ∙ c.loop-heard.invariant.setting) c.loop-heard.invariant.setting
          (λ q asking. c.in-Ask.ensures.by_rules q asking) in
          goes_on M.steps set (begin set.frames.card c.args.command.now r) (M.state c.args.medium.now) c.in-Ask.next (held c.heard.new.self) (M.state c.send.new.self) now;
      under_way = c.in-Ask.ensures.open;
      setting = c.heard.ensures.setting ∙ c.loop-heard.invariant.setting;
      later = omega (arith, c.loop-heard.invariant.later, c.send.ensures.cause.later);
    }

pub returns-in-Done-clause-by_rules : goal.returns-in-Done-clause-by_rules
returns-in-Done-clause-by_rules g c = λ r rests.
    let M = g.M.Medium in
    let set = (held c.args.end.now).set in
    let now : After M.steps set (begin set.frames.card c.args.command.now r) (M.state c.args.medium.now) (Done c.in-Done.response) (held c.heard.new.self) (M.state c.send.new.self) =
    heard M.steps set (begin set.frames.card c.args.command.now r) (M.state c.args.medium.now) c.loop-heard.ask (held c.loop-heard.end) (M.state c.loop-heard.medium) (heard_of c.in-Ok.heard)
    (Done c.in-Done.response) (held c.heard.new.self) (M.state c.send.new.self) (c.loop-heard.invariant.going r rests)
    (subst (λ (a : AskData). M.steps.sends (M.state c.loop-heard.medium) a.wave a.bytes a.wait (Some (heard_of c.in-Ok.heard)) (M.state c.send.new.self)) c.ask.view_is c.in-Ok.ensures.step)
    (c.heard.ensures.setting ∙ c.loop-heard.invariant.setting) c.loop-heard.invariant.setting
    (λ q asking. c.in-Done.ensures.by_rules q asking) in
    done M.steps set (begin set.frames.card c.args.command.now r) (M.state c.args.medium.now) c.in-Done.response (held c.heard.new.self) (M.state c.send.new.self) now

pub returns-in-Done-clause-once : goal.returns-in-Done-clause-once
returns-in-Done-clause-once g c = λ good shown r acts is of at_rest rests.
    let M = g.M.Medium in
    let set = (held c.args.end.now).set in
    let now : After M.steps set (begin set.frames.card c.args.command.now r) (M.state c.args.medium.now) (Done c.in-Done.response) (held c.heard.new.self) (M.state c.send.new.self) =
    heard M.steps set (begin set.frames.card c.args.command.now r) (M.state c.args.medium.now) c.loop-heard.ask (held c.loop-heard.end) (M.state c.loop-heard.medium) (heard_of c.in-Ok.heard)
    (Done c.in-Done.response) (held c.heard.new.self) (M.state c.send.new.self) (c.loop-heard.invariant.going r rests)
    (subst (λ (a : AskData). M.steps.sends (M.state c.loop-heard.medium) a.wave a.bytes a.wait (Some (heard_of c.in-Ok.heard)) (M.state c.send.new.self)) c.ask.view_is c.in-Ok.ensures.step)
    (c.heard.ensures.setting ∙ c.loop-heard.invariant.setting) c.loop-heard.invariant.setting
    (λ q asking. c.in-Done.ensures.by_rules q asking) in
    once M.steps set good shown (M.state c.args.medium.now) r c.args.command.now acts is of at_rest c.begin-ask.ensures.legal (Ok c.in-Done.response) (held c.heard.new.self) (M.state c.send.new.self)
    (done M.steps set (begin set.frames.card c.args.command.now r) (M.state c.args.medium.now) c.in-Done.response (held c.heard.new.self) (M.state c.send.new.self) now)

pub returns-in-Failed-clause-by_rules : goal.returns-in-Failed-clause-by_rules
returns-in-Failed-clause-by_rules g c = λ r rests.
    let M = g.M.Medium in
    let set = (held c.args.end.now).set in
    let now : After M.steps set (begin set.frames.card c.args.command.now r) (M.state c.args.medium.now) (Failed c.in-Failed.failed) (held c.heard.new.self) (M.state c.send.new.self) =
    heard M.steps set (begin set.frames.card c.args.command.now r) (M.state c.args.medium.now) c.loop-heard.ask (held c.loop-heard.end) (M.state c.loop-heard.medium) (heard_of c.in-Ok.heard)
    (Failed c.in-Failed.failed) (held c.heard.new.self) (M.state c.send.new.self) (c.loop-heard.invariant.going r rests)
    (subst (λ (a : AskData). M.steps.sends (M.state c.loop-heard.medium) a.wave a.bytes a.wait (Some (heard_of c.in-Ok.heard)) (M.state c.send.new.self)) c.ask.view_is c.in-Ok.ensures.step)
    (c.heard.ensures.setting ∙ c.loop-heard.invariant.setting) c.loop-heard.invariant.setting
    (λ q asking. c.in-Failed.ensures.by_rules q asking) in
    failed M.steps set (begin set.frames.card c.args.command.now r) (M.state c.args.medium.now) c.in-Failed.failed (held c.heard.new.self) (M.state c.send.new.self) now

pub returns-in-Failed-clause-once : goal.returns-in-Failed-clause-once
returns-in-Failed-clause-once g c = λ good shown r acts is of at_rest rests.
    let M = g.M.Medium in
    let set = (held c.args.end.now).set in
    let now : After M.steps set (begin set.frames.card c.args.command.now r) (M.state c.args.medium.now) (Failed c.in-Failed.failed) (held c.heard.new.self) (M.state c.send.new.self) =
    heard M.steps set (begin set.frames.card c.args.command.now r) (M.state c.args.medium.now) c.loop-heard.ask (held c.loop-heard.end) (M.state c.loop-heard.medium) (heard_of c.in-Ok.heard)
    (Failed c.in-Failed.failed) (held c.heard.new.self) (M.state c.send.new.self) (c.loop-heard.invariant.going r rests)
    (subst (λ (a : AskData). M.steps.sends (M.state c.loop-heard.medium) a.wave a.bytes a.wait (Some (heard_of c.in-Ok.heard)) (M.state c.send.new.self)) c.ask.view_is c.in-Ok.ensures.step)
    (c.heard.ensures.setting ∙ c.loop-heard.invariant.setting) c.loop-heard.invariant.setting
    (λ q asking. c.in-Failed.ensures.by_rules q asking) in
    once M.steps set good shown (M.state c.args.medium.now) r c.args.command.now acts is of at_rest c.begin-ask.ensures.legal (Err c.in-Failed.failed) (held c.heard.new.self) (M.state c.send.new.self)
    (failed M.steps set (begin set.frames.card c.args.command.now r) (M.state c.args.medium.now) c.in-Failed.failed (held c.heard.new.self) (M.state c.send.new.self) now)

pub returns-in_default-clause-once : goal.returns-in_default-clause-once
returns-in_default-clause-once g c = λ good shown r acts is of at_rest rests.
    let M = g.M.Medium in
    let set = (held c.args.end.now).set in
    once M.steps set good shown (M.state c.args.medium.now) r c.args.command.now acts is of at_rest c.begin-ask.ensures.legal (Err Device) (held c.loop-heard.end) (M.state c.send.new.self)
    (lost M.steps set (begin set.frames.card c.args.command.now r) (M.state c.args.medium.now) c.loop-heard.ask (held c.loop-heard.end) (M.state c.loop-heard.medium) (M.state c.send.new.self) (c.loop-heard.invariant.going r rests)
    (subst (λ (a : AskData). M.steps.sends (M.state c.loop-heard.medium) a.wave a.bytes a.wait None (M.state c.send.new.self)) c.ask.view_is c.in_default.ensures.step))
