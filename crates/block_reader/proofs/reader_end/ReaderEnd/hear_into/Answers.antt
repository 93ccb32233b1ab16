use Rattle.std.proofs.Common.{subst}
use Rattle.ep_base.specs.Air.Heard.{Heard}
use Rattle.ep_base.specs.Link.LinkFrames.{LinkSetting}
use Rattle.ep_base.specs.Link.Carry.{turn_on}
use Rattle.rf_frame.specs.Meaning.{heard_of}
use Rattle.block_reader.specs.declared.ends.Next.{Next}
use Rattle.block_reader.specs.Follows.{next_of}
use Rattle.block_reader.specs.Stands.{Held, held, Says}
use Rattle.block_reader.proofs.Standing.{heard_on, said_on}
use Rattle.block_reader.proofs.reader_end.ReaderEnd.hear_into.Goals as goal

pub returns-clause-stands : goal.returns-clause-stands
returns-clause-stands c = λ es stands.
    let h : Heard = heard_of c.args.heard.now in
    let old : Held = held c.args.self.now in
    let said : Next = next_of c.take.result c.take.new.ask (held c.take.new.self) h in (
      heard_on old (held c.take.new.self) h c.take.ensures.setting c.requires.open (λ r s. (c.take.ensures.by_rules r s).stands) c.take.ensures.kept es stands,
      said_on old h said c.requires.open
          (λ r s. subst (λ (l : LinkSetting). Says said l h (turn_on old.set r h)) c.take.ensures.setting (c.take.ensures.by_rules r s).says) es stands,
    )
