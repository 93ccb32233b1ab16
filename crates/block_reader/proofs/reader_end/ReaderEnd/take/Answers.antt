use Rattle.std.proofs.Common.{◌∷◌, [], ◌++◌, refl, ap, ◌∙◌}
use Rattle.ep_base.specs.Air.Heard.{Heard}
use Rattle.ep_base.specs.Link.Block.{ReadBlock}
use Rattle.ep_base.specs.Link.ReaderEnd.{reader_hears}
use Rattle.ep_base.specs.Link.LinkFrames.{Kept, heard_block}
use Rattle.ep_base.specs.Link.LinkEvents.{exchange_of}
use Rattle.rf_frame.specs.Meaning.{heard_of}
use Rattle.block_reader.specs.Progress.{course, StepShows}
use Rattle.block_reader.specs.ReadBlocks.{said_of}
use Rattle.block_reader.specs.Stands.{Held, held}
use Rattle.block_reader.specs.declared.stages.Step.TheVariants as step
use Rattle.block_reader.proofs.Standing.{counted_open, open_counted, open_rests, step_on, asks_again, kept_again, asks_next, kept_next, gives, kept_given, breaks, kept_broken, kept_as, breach_as}
use Rattle.block_reader.proofs.reader_end.ReaderEnd.take.Goals as goal

pub invariant_of-self : goal.invariant_of-self
invariant_of-self c =
    let now = c.in-Again.ensures.counts _ (counted_open _ _ _ _ _ c.requires.open c.args.self.now.counted) in
    record { fwi_most = c.args.self.now.fwi_most; counted = open_counted _ _ _ _ _ now.0 (rw c.keep.ensures.len now.1) }

pub returns-in-Again-clause-open : goal.returns-in-Again-clause-open
returns-in-Again-clause-open c = (c.in-Again.ensures.counts _ (counted_open _ _ _ _ _ c.requires.open c.args.self.now.counted)).0

pub returns-in-Again-clause-by_rules : goal.returns-in-Again-clause-by_rules
returns-in-Again-clause-by_rules c = λ r s.
    let h : Heard = heard_of c.args.heard.now in
    let old : Held = held c.args.self.now in
    let x : ReadBlock = heard_block old.set.kind old.set.frames.reader h in
    let shows : StepShows step.Again (course c.hear.new.self) x r (reader_hears old.course.frame r x) =
    step_on step.Again (course c.hear.new.self) (said_of c.read_hearing-said.result) x old.course.frame r c.read_hearing-said.ensures.said (c.in-Again.ensures.by_rules r s.sends) in
    let more = c.keep.ensures.items ∙ ap (λ (k : Kept). c.args.self.now.since.items ++ k ∷ []) (kept_as old (course c.hear.new.self) r h c.in-Again.ensures.repeats s.sends.block) in
    asks_again old _ h r (reader_hears old.course.frame r x) _ shows s (rw (c.hear.ensures.kept.0, c.hear.ensures.kept.1) refl)
    (c.in-Again.ensures.counts _ (counted_open _ _ _ _ _ c.requires.open c.args.self.now.counted)).0 more c.put_ask.ensures

pub returns-in-Again-clause-kept : goal.returns-in-Again-clause-kept
returns-in-Again-clause-kept c = λ r s.
    let h : Heard = heard_of c.args.heard.now in
    let old : Held = held c.args.self.now in
    let x : ReadBlock = heard_block old.set.kind old.set.frames.reader h in
    let shows : StepShows step.Again (course c.hear.new.self) x r (reader_hears old.course.frame r x) =
    step_on step.Again (course c.hear.new.self) (said_of c.read_hearing-said.result) x old.course.frame r c.read_hearing-said.ensures.said (c.in-Again.ensures.by_rules r s.sends) in
    let more = c.keep.ensures.items ∙ ap (λ (k : Kept). c.args.self.now.since.items ++ k ∷ []) (kept_as old (course c.hear.new.self) r h c.in-Again.ensures.repeats s.sends.block) in
    more ∙ kept_again (course c.hear.new.self) x r (reader_hears old.course.frame r x) old.since (exchange_of old.set r h) shows

pub invariant_of-self-in-Toggled : goal.invariant_of-self-in-Toggled
invariant_of-self-in-Toggled c =
    let now = c.in-Toggled.ensures.counts _ (counted_open _ _ _ _ _ c.requires.open c.args.self.now.counted) in
    record { fwi_most = c.args.self.now.fwi_most; counted = open_counted _ _ _ _ _ now.0 (rw c.forget.ensures.none now.1) }

pub returns-in-Toggled-clause-open : goal.returns-in-Toggled-clause-open
returns-in-Toggled-clause-open c = (c.in-Toggled.ensures.counts _ (counted_open _ _ _ _ _ c.requires.open c.args.self.now.counted)).0

pub returns-in-Toggled-clause-resting : goal.returns-in-Toggled-clause-resting
returns-in-Toggled-clause-resting c = open_rests _ (c.in-Toggled.ensures.counts _ (counted_open _ _ _ _ _ c.requires.open c.args.self.now.counted)).0

pub returns-in-Toggled-clause-by_rules : goal.returns-in-Toggled-clause-by_rules
returns-in-Toggled-clause-by_rules c = λ r s.
    let h : Heard = heard_of c.args.heard.now in
    let old : Held = held c.args.self.now in
    let x : ReadBlock = heard_block old.set.kind old.set.frames.reader h in
    let shows : StepShows step.Toggled (course c.hear.new.self) x r (reader_hears old.course.frame r x) =
    step_on step.Toggled (course c.hear.new.self) (said_of c.read_hearing-said.result) x old.course.frame r c.read_hearing-said.ensures.said (c.in-Toggled.ensures.by_rules r s.sends) in
    asks_next _ h x r (reader_hears old.course.frame r x) _ shows (c.in-Toggled.ensures.counts _ (counted_open _ _ _ _ _ c.requires.open c.args.self.now.counted)).0 c.forget.ensures.none c.put_ask-in-Toggled.ensures

pub returns-in-Toggled-clause-kept : goal.returns-in-Toggled-clause-kept
returns-in-Toggled-clause-kept c = λ r s.
    let h : Heard = heard_of c.args.heard.now in
    let old : Held = held c.args.self.now in
    let x : ReadBlock = heard_block old.set.kind old.set.frames.reader h in
    let shows : StepShows step.Toggled (course c.hear.new.self) x r (reader_hears old.course.frame r x) =
    step_on step.Toggled (course c.hear.new.self) (said_of c.read_hearing-said.result) x old.course.frame r c.read_hearing-said.ensures.said (c.in-Toggled.ensures.by_rules r s.sends) in
    c.forget.ensures.none ∙ kept_next (course c.hear.new.self) x r (reader_hears old.course.frame r x) old.since (exchange_of old.set r h) shows

pub returns-in-Done-clause-resting : goal.returns-in-Done-clause-resting
returns-in-Done-clause-resting c = rw (c.in-Done.ensures.counts _ (counted_open _ _ _ _ _ c.requires.open c.args.self.now.counted)).0 refl

pub returns-in-Done-clause-by_rules : goal.returns-in-Done-clause-by_rules
returns-in-Done-clause-by_rules c = λ r s.
    let h : Heard = heard_of c.args.heard.now in
    let old : Held = held c.args.self.now in
    let x : ReadBlock = heard_block old.set.kind old.set.frames.reader h in
    let shows : StepShows step.Done (course c.hear.new.self) x r (reader_hears old.course.frame r x) =
    step_on step.Done (course c.hear.new.self) (said_of c.read_hearing-said.result) x old.course.frame r c.read_hearing-said.ensures.said (c.in-Done.ensures.by_rules r s.sends) in
    gives _ h x r (reader_hears old.course.frame r x) _ shows c.forget-in-Done.ensures.none refl

pub returns-in-Done-clause-kept : goal.returns-in-Done-clause-kept
returns-in-Done-clause-kept c = λ r s.
    let h : Heard = heard_of c.args.heard.now in
    let old : Held = held c.args.self.now in
    let x : ReadBlock = heard_block old.set.kind old.set.frames.reader h in
    let shows : StepShows step.Done (course c.hear.new.self) x r (reader_hears old.course.frame r x) =
    step_on step.Done (course c.hear.new.self) (said_of c.read_hearing-said.result) x old.course.frame r c.read_hearing-said.ensures.said (c.in-Done.ensures.by_rules r s.sends) in
    c.forget-in-Done.ensures.none ∙ kept_given (course c.hear.new.self) x r (reader_hears old.course.frame r x) old.since (exchange_of old.set r h) shows

pub returns-in-Breach-clause-by_rules : goal.returns-in-Breach-clause-by_rules
returns-in-Breach-clause-by_rules c = λ r s.
    let h : Heard = heard_of c.args.heard.now in
    let old : Held = held c.args.self.now in
    let x : ReadBlock = heard_block old.set.kind old.set.frames.reader h in
    let shows : StepShows step.Breach (course c.hear.new.self) x r (reader_hears old.course.frame r x) =
    step_on step.Breach (course c.hear.new.self) (said_of c.read_hearing-said.result) x old.course.frame r c.read_hearing-said.ensures.said (c.in-Breach.ensures.by_rules r s.sends) in
    let more = c.keep-in-Breach.ensures.items ∙ ap (λ (k : Kept). c.args.self.now.since.items ++ k ∷ []) (kept_as old (course c.hear.new.self) r h c.in-Breach.ensures.repeats s.sends.block) in
    breaks old _ (course c.hear.new.self) h r (reader_hears old.course.frame r x) _ shows s (rw (c.hear.ensures.kept.0, c.hear.ensures.kept.1) refl) refl more (λ q it. breach_as (course c.hear.new.self) c.phase-phase.result h q it (c.phase-phase.ensures.by_rules q it))

pub returns-in-Breach-clause-kept : goal.returns-in-Breach-clause-kept
returns-in-Breach-clause-kept c = λ r s.
    let h : Heard = heard_of c.args.heard.now in
    let old : Held = held c.args.self.now in
    let x : ReadBlock = heard_block old.set.kind old.set.frames.reader h in
    let shows : StepShows step.Breach (course c.hear.new.self) x r (reader_hears old.course.frame r x) =
    step_on step.Breach (course c.hear.new.self) (said_of c.read_hearing-said.result) x old.course.frame r c.read_hearing-said.ensures.said (c.in-Breach.ensures.by_rules r s.sends) in
    let more = c.keep-in-Breach.ensures.items ∙ ap (λ (k : Kept). c.args.self.now.since.items ++ k ∷ []) (kept_as old (course c.hear.new.self) r h c.in-Breach.ensures.repeats s.sends.block) in
    more ∙ kept_broken (course c.hear.new.self) x r (reader_hears old.course.frame r x) old.since (exchange_of old.set r h) shows
