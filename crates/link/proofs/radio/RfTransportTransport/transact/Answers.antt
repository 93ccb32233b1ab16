use Rattle.std.proofs.Common.{◌≡◌, true, Some, Ok, Err, refl, ap, ◌∙◌, subst}
use Rattle.std.proofs.lemmas.Result.{err_from_is_err_and}
use Rattle.ep_base.specs.Link.Carry.{ActsAs, AtRest, OfLink}
use Rattle.ep_base.specs.Poll.Radio.{OpenLink}
use Rattle.block_reader.specs.declared.ends.LinkEnd.{LinkEnd}
use Rattle.block_reader.specs.Stands.{held}
use Rattle.link.specs.Radio.{OverWire, link_of, open_link, resting}
use Rattle.link.proofs.Resting.{answered, as_heard_err, as_heard_ok, failed, link_is, over_wire_err, over_wire_ok, rests_still}
use Rattle.link.proofs.radio.RfTransportTransport.transact.Goals as goal

pub returns-clause-step : goal.returns-clause-step
returns-clause-step g c =
    let M = g.M.Medium in
    let is : c.args.self.now.link ≡ Some c.unwrap-end.result = cc (c.take.ensures.value, c.unwrap-end.ensures) in
    answered M.steps (M.state c.args.self.now.medium) c.args.self.now.fsdi c.args.command.now (held c.carry.new.end) (M.state c.carry.new.medium)
    c.args.self.now.link c.unwrap-end.result (Some c.carry.new.end) c.in_ok-response.response is refl (c.args.self.now.resting c.unwrap-end.result is) c.carry.ensures.setting
    (λ r rests. c.in_ok-response.ensures.by_rules r rests)

pub returns-clause-as_heard : goal.returns-clause-as_heard
returns-clause-as_heard g c = λ l links.
    let M = g.M.Medium in
    let there : c.args.self.now.link ≡ Some c.unwrap-end.result = cc (c.take.ensures.value, c.unwrap-end.ensures) in
    as_heard_ok M.steps (M.state c.args.self.now.medium) c.args.self.now.fsdi c.args.command.now (held c.carry.new.end) (M.state c.carry.new.medium)
    (held c.unwrap-end.result) l (link_of (Some c.carry.new.end)) c.in_ok-response.response (link_is c.args.self.now.link c.unwrap-end.result l there links) refl
    c.carry.ensures.setting (c.args.self.now.resting c.unwrap-end.result there) (λ r rests. c.in_ok-response.ensures.by_rules r rests)

pub returns-in_err-response-clause-as_heard : goal.returns-in_err-response-clause-as_heard
returns-in_err-response-clause-as_heard g c = λ l links.
    let M = g.M.Medium in
    let there : c.args.self.now.link ≡ Some c.unwrap-end.result = cc (c.take.ensures.value, c.unwrap-end.ensures) in
    let p = err_from_is_err_and c.from_residual.result c.from_residual.ensures.1 in
    let from : c.from_residual.result ≡ Err c.in_err-response.field-0.0 = p.1 ∙ ap (λ (x : LinkEnd). Err x) p.2 in
    rw from
    (as_heard_err M.steps (M.state c.args.self.now.medium) c.args.self.now.fsdi c.args.command.now (held c.carry.new.end) (M.state c.carry.new.medium)
    (held c.unwrap-end.result) l (link_of c.take.new.self) c.in_err-response.field-0.0 (link_is c.args.self.now.link c.unwrap-end.result l there links)
    (ap link_of c.take.ensures.after) (c.args.self.now.resting c.unwrap-end.result there) (λ r rests. c.in_err-response.ensures.by_rules r rests))

pub returns-clause-once : goal.returns-clause-once
returns-clause-once g c = λ good shown l links acts is of at_rest.
    let M = g.M.Medium in
    let there : c.args.self.now.link ≡ Some c.unwrap-end.result = cc (c.take.ensures.value, c.unwrap-end.ensures) in
    let same : open_link (held c.unwrap-end.result) ≡ l = link_is c.args.self.now.link c.unwrap-end.result l there links in
    subst (λ (k : OpenLink). ActsAs M.steps k.set good shown → OfLink k.set (shown (M.state c.args.self.now.medium)) → AtRest k.reader (shown (M.state c.args.self.now.medium)).party.card →
    OverWire (Ok c.in_ok-response.response) k.set (Some (open_link (held c.carry.new.end))) (shown (M.state c.args.self.now.medium)) c.args.command.now (shown (M.state c.carry.new.medium)) × (good (M.state c.carry.new.medium) ≡ true)) same
    (λ acts' of' at_rest'.
    let by = c.in_ok-response.ensures.once good shown (resting (held c.unwrap-end.result)) acts' is of' at_rest' (rests_still (held c.unwrap-end.result) (c.args.self.now.resting c.unwrap-end.result there)) in
    (over_wire_ok c.in_ok-response.response (held c.unwrap-end.result).set (Some (open_link (held c.carry.new.end))) (held c.carry.new.end) (shown (M.state c.args.self.now.medium)) c.args.command.now (shown (M.state c.carry.new.medium)) refl c.carry.ensures.setting by.0, by.1))
    acts of at_rest

pub returns-in_err-response-clause-step : goal.returns-in_err-response-clause-step
returns-in_err-response-clause-step g c =
    let M = g.M.Medium in
    let is : c.args.self.now.link ≡ Some c.unwrap-end.result = cc (c.take.ensures.value, c.unwrap-end.ensures) in
    let p = err_from_is_err_and c.from_residual.result c.from_residual.ensures.1 in
    let from : c.from_residual.result ≡ Err c.in_err-response.field-0.0 = p.1 ∙ ap (λ (x : LinkEnd). Err x) p.2 in
    rw from
    (failed M.steps (M.state c.args.self.now.medium) c.args.self.now.fsdi c.args.command.now (held c.carry.new.end) (M.state c.carry.new.medium)
    c.args.self.now.link c.unwrap-end.result c.take.new.self c.in_err-response.field-0.0 is (ap link_of c.take.ensures.after) (c.args.self.now.resting c.unwrap-end.result is)
    (λ r rests. c.in_err-response.ensures.by_rules r rests))

pub returns-in_err-response-clause-once : goal.returns-in_err-response-clause-once
returns-in_err-response-clause-once g c = λ good shown l links acts is of at_rest.
    let M = g.M.Medium in
    let there : c.args.self.now.link ≡ Some c.unwrap-end.result = cc (c.take.ensures.value, c.unwrap-end.ensures) in
    let same : open_link (held c.unwrap-end.result) ≡ l = link_is c.args.self.now.link c.unwrap-end.result l there links in
    let p = err_from_is_err_and c.from_residual.result c.from_residual.ensures.1 in
    let from : c.from_residual.result ≡ Err c.in_err-response.field-0.0 = p.1 ∙ ap (λ (x : LinkEnd). Err x) p.2 in
    rw from
    (subst (λ (k : OpenLink). ActsAs M.steps k.set good shown → OfLink k.set (shown (M.state c.args.self.now.medium)) → AtRest k.reader (shown (M.state c.args.self.now.medium)).party.card →
    OverWire (Err c.in_err-response.field-0.0) k.set (link_of c.take.new.self) (shown (M.state c.args.self.now.medium)) c.args.command.now (shown (M.state c.carry.new.medium)) × (good (M.state c.carry.new.medium) ≡ true)) same
    (λ acts' of' at_rest'.
    let by = c.in_err-response.ensures.once good shown (resting (held c.unwrap-end.result)) acts' is of' at_rest' (rests_still (held c.unwrap-end.result) (c.args.self.now.resting c.unwrap-end.result there)) in
    (over_wire_err c.in_err-response.field-0.0 (held c.unwrap-end.result).set (link_of c.take.new.self) (held c.carry.new.end) (shown (M.state c.args.self.now.medium)) c.args.command.now (shown (M.state c.carry.new.medium)) by.0, by.1))
    acts of at_rest)
