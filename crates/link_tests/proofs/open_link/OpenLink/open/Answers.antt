use Rattle.std.proofs.Common.{rules, ◌≡◌, ◌≤◌, ℕ, sym, ◌∙◌, subst, ap}
use Rattle.ep_base.specs.declared.air.CardKind.{CardKind}
use Rattle.ep_base.specs.Link.Wire.{new_wire}
use Rattle.ep_base.specs.declared.limits.TheConstants.{FRAME}
use Rattle.rf_field.specs.Meaning.{exchange_fates}
use Rattle.link_tests.specs.Open.{end_of, far_end}
use Rattle.link_tests.proofs.Ready.{all_fates, just_opened}
use Rattle.link_tests.proofs.open_link.OpenLink.open.Goals as goal

pub returns-clause-ready : goal.returns-clause-ready
returns-clause-ready c =
    let frame : (end_of (record { end = c.open-end.result; wire = c.in_ok-wire.wire })).set.frames.reader ≡ c.frame_size-fsd.result = c.open-end.ensures.reader ∙ sym c.frame_size-fsd.ensures.size in
    just_opened (end_of (record { end = c.open-end.result; wire = c.in_ok-wire.wire })) (far_end (record { end = c.open-end.result; wire = c.in_ok-wire.wire }))
    c.card.inside.kind c.frame_size-fsd.result _ _ c.args.room c.in_ok-wire.ensures.ok (c.open-end.ensures.kind ∙ search rules) frame
    (subst (λ (n : ℕ). 16 ≤ n) (sym c.open-end.ensures.card) c.requires.least)
    (subst (λ (n : ℕ). 16 ≤ n) (sym frame) c.frame_size-fsd.ensures.least)
    (subst (λ (n : ℕ). n ≤ FRAME) (sym frame) c.frame_size-fsd.ensures.most)
    c.number-number.ensures.limits
    (all_fates c.args.fates.items c.requires.runs) c.requires.room c.open-end.ensures.by_rules

pub returns-clause-card : goal.returns-clause-card
returns-clause-card c =
    let same : c.card.inside.kind ≡ c.args.card.now.kind = search rules in
    c.in_ok-wire.ensures.ok
    ∙ (ap (λ (k : CardKind). new_wire k c.frame_size-fsd.result c.args.image (exchange_fates c.args.fates.items) c.args.room) same
    ∙ ap (λ (n : ℕ). new_wire c.args.card.now.kind n c.args.image (exchange_fates c.args.fates.items) c.args.room) c.frame_size-fsd.ensures.size)
