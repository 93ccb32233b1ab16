use Rattle.std.proofs.Common.{◌++◌, ℕ, List, append-nil, sym, ap, ◌∙◌}
use Rattle.std.specs.Option.{option_copied}
use Rattle.ep_base.specs.Link.Wire.{Heeded}
use Rattle.block_card.specs.Held.{held_card, card_of}
use Rattle.rf_field.proofs.Taking.{own_card, takes_mute, takes_send, takes_answered}
use Rattle.rf_field.proofs.party.Party.take.Goals as goal

pub returns-in-Mute-clause-party : goal.returns-in-Mute-clause-party
returns-in-Mute-clause-party c =
    let old = held_card c.args.self.now.end in
    sym (ap (λ (h : Heeded). h.party) (takes_mute old (held_card c.receive_into.new.self) c.args.self.now.image (option_copied c.args.payload) c.receive_into.ensures.kind c.receive_into.ensures.kept (c.in-Mute.ensures.by_rules (card_of old) (own_card old))))

pub returns-in-Mute-clause-logged : goal.returns-in-Mute-clause-logged
returns-in-Mute-clause-logged c =
    let old = held_card c.args.self.now.end in
    let done = takes_mute old (held_card c.receive_into.new.self) c.args.self.now.image (option_copied c.args.payload) c.receive_into.ensures.kind c.receive_into.ensures.kept (c.in-Mute.ensures.by_rules (card_of old) (own_card old)) in
    ap (λ (l : List (ℕ × List ℕ)). (l, c.args.log.now.1)) (sym (ap (λ (h : Heeded). c.args.log.now.0 ++ h.executed) done ∙ append-nil c.args.log.now.0))

pub returns-in-Mute-clause-answer : goal.returns-in-Mute-clause-answer
returns-in-Mute-clause-answer c =
    let old = held_card c.args.self.now.end in
    sym (ap (λ (h : Heeded). h.answer) (takes_mute old (held_card c.receive_into.new.self) c.args.self.now.image (option_copied c.args.payload) c.receive_into.ensures.kind c.receive_into.ensures.kept (c.in-Mute.ensures.by_rules (card_of old) (own_card old))))

pub returns-in-Send-clause-party : goal.returns-in-Send-clause-party
returns-in-Send-clause-party c =
    let old = held_card c.args.self.now.end in
    sym (ap (λ (h : Heeded). h.party) (takes_send old (held_card c.receive_into.new.self) c.args.self.now.image c.receive_into.new.frame (option_copied c.args.payload) c.receive_into.ensures.kind c.receive_into.ensures.kept (c.in-Send.ensures.by_rules (card_of old) (own_card old))))

pub returns-in-Send-clause-logged : goal.returns-in-Send-clause-logged
returns-in-Send-clause-logged c =
    let old = held_card c.args.self.now.end in
    let done = takes_send old (held_card c.receive_into.new.self) c.args.self.now.image c.receive_into.new.frame (option_copied c.args.payload) c.receive_into.ensures.kind c.receive_into.ensures.kept (c.in-Send.ensures.by_rules (card_of old) (own_card old)) in
    ap (λ (l : List (ℕ × List ℕ)). (l, c.args.log.now.1)) (sym (ap (λ (h : Heeded). c.args.log.now.0 ++ h.executed) done ∙ append-nil c.args.log.now.0))

pub returns-in-Send-clause-answer : goal.returns-in-Send-clause-answer
returns-in-Send-clause-answer c =
    let old = held_card c.args.self.now.end in
    sym (ap (λ (h : Heeded). h.answer) (takes_send old (held_card c.receive_into.new.self) c.args.self.now.image c.receive_into.new.frame (option_copied c.args.payload) c.receive_into.ensures.kind c.receive_into.ensures.kept (c.in-Send.ensures.by_rules (card_of old) (own_card old))))

pub returns-in-Execute-clause-party : goal.returns-in-Execute-clause-party
returns-in-Execute-clause-party c =
    let old = held_card c.args.self.now.end in
    let done = takes_answered old (held_card c.receive_into.new.self) (held_card c.answer_into.new.self) c.args.self.now.image c.command.result (held_card c.receive_into.new.self).taken _ c.answer_into.new.frame (option_copied c.args.payload) c.receive_into.ensures.kept (c.answer_into.ensures.kind ∙ c.receive_into.ensures.kind) (c.answer_into.ensures.kept ∙ c.receive_into.ensures.kept) c.command.ensures.value (c.answered.view_is ∙ c.answer-answered.ensures.answer) c.answer_into.ensures.by_rules (c.in-Execute.ensures.by_rules (card_of old) (own_card old)) in
    rw c.answer-answered.ensures.after (sym (ap (λ (h : Heeded). h.party) done))

pub returns-in-Execute-clause-logged : goal.returns-in-Execute-clause-logged
returns-in-Execute-clause-logged c =
    let old = held_card c.args.self.now.end in
    let done = takes_answered old (held_card c.receive_into.new.self) (held_card c.answer_into.new.self) c.args.self.now.image c.command.result (held_card c.receive_into.new.self).taken _ c.answer_into.new.frame (option_copied c.args.payload) c.receive_into.ensures.kept (c.answer_into.ensures.kind ∙ c.receive_into.ensures.kind) (c.answer_into.ensures.kept ∙ c.receive_into.ensures.kept) c.command.ensures.value (c.answered.view_is ∙ c.answer-answered.ensures.answer) c.answer_into.ensures.by_rules (c.in-Execute.ensures.by_rules (card_of old) (own_card old)) in
    c.answer-answered.ensures.logged ∙ sym (ap (λ (h : Heeded). (c.args.log.now.0 ++ h.executed, c.args.log.now.1)) done)

pub returns-in-Execute-clause-answer : goal.returns-in-Execute-clause-answer
returns-in-Execute-clause-answer c =
    let old = held_card c.args.self.now.end in
    let done = takes_answered old (held_card c.receive_into.new.self) (held_card c.answer_into.new.self) c.args.self.now.image c.command.result (held_card c.receive_into.new.self).taken _ c.answer_into.new.frame (option_copied c.args.payload) c.receive_into.ensures.kept (c.answer_into.ensures.kind ∙ c.receive_into.ensures.kind) (c.answer_into.ensures.kept ∙ c.receive_into.ensures.kept) c.command.ensures.value (c.answered.view_is ∙ c.answer-answered.ensures.answer) c.answer_into.ensures.by_rules (c.in-Execute.ensures.by_rules (card_of old) (own_card old)) in
    sym (ap (λ (h : Heeded). h.answer) done)
