use Rattle.std.proofs.Common.{◌≡◌, Some, None, refl, ◌∙◌, subst}
use Rattle.ep_base.specs.Link.Block.{Deselect}
use Rattle.ep_base.specs.Air.Heard.{Ask}
use Rattle.ep_base.specs.Link.Carry.{SendsBlock}
use Rattle.ep_base.specs.Poll.Radio.{OpenLink}
use Rattle.rf_frame.specs.Meaning.{maybe_heard}
use Rattle.block_reader.specs.Stands.{held}
use Rattle.link.specs.Radio.{open_link}
use Rattle.link.proofs.Resting.{closes_wire, link_is, wire_fails_not}
use Rattle.link.proofs.radio.RfTransportTransport.close.Goals as goal

pub returns-clause-once : goal.returns-clause-once
returns-clause-once g c = λ good shown l links acts is fates.
    let M = g.M.Medium in
    let there : c.args.self.now.link ≡ Some c.unwrap-end.result = cc (c.take.ensures.value, c.unwrap-end.ensures) in
    let same : open_link (held c.unwrap-end.result) ≡ l = link_is c.args.self.now.link c.unwrap-end.result l there links in
    let asked : SendsBlock M.steps (held c.unwrap-end.result).set (M.state c.args.self.now.medium) Deselect (maybe_heard c.send.result) (M.state c.send.new.self) =
    subst (λ (a : Ask). M.steps.sends (M.state c.args.self.now.medium) a.wave a.bytes a.wait (maybe_heard c.send.result) (M.state c.send.new.self)) (c.ask.view_is ∙ c.deselect-ask.ensures.ask) c.send.ensures.step in
    let sent : SendsBlock M.steps l.set (M.state c.args.self.now.medium) Deselect (maybe_heard c.send.result) (M.state c.send.new.self) =
    subst (λ (k : OpenLink). SendsBlock M.steps k.set (M.state c.args.self.now.medium) Deselect (maybe_heard c.send.result) (M.state c.send.new.self)) same asked in
    let acted = acts (M.state c.args.self.now.medium) Deselect (maybe_heard c.send.result) (M.state c.send.new.self) is sent in
    (refl, closes_wire l.set (shown (M.state c.args.self.now.medium)) (maybe_heard c.send.result) (shown (M.state c.send.new.self)) fates acted.0, acted.1)

pub returns-in_err-send-clause-once : goal.returns-in_err-send-clause-once
returns-in_err-send-clause-once g c = λ good shown l links acts is fates.
    let M = g.M.Medium in
    let there : c.args.self.now.link ≡ Some c.unwrap-end.result = cc (c.take.ensures.value, c.unwrap-end.ensures) in
    let same : open_link (held c.unwrap-end.result) ≡ l = link_is c.args.self.now.link c.unwrap-end.result l there links in
    let asked : SendsBlock M.steps (held c.unwrap-end.result).set (M.state c.args.self.now.medium) Deselect None (M.state c.send.new.self) =
    subst (λ (a : Ask). M.steps.sends (M.state c.args.self.now.medium) a.wave a.bytes a.wait None (M.state c.send.new.self)) (c.ask.view_is ∙ c.deselect-ask.ensures.ask) c.in_err-send.ensures.step in
    let sent : SendsBlock M.steps l.set (M.state c.args.self.now.medium) Deselect None (M.state c.send.new.self) =
    subst (λ (k : OpenLink). SendsBlock M.steps k.set (M.state c.args.self.now.medium) Deselect None (M.state c.send.new.self)) same asked in
    absurd (wire_fails_not (shown (M.state c.args.self.now.medium)) l.set (shown (M.state c.send.new.self)) (acts (M.state c.args.self.now.medium) Deselect None (M.state c.send.new.self) is sent).0)
