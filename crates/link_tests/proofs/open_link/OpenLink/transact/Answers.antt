use Rattle.std.proofs.Common.{◌≡◌, ◌≤◌, ◌+◌, IfOk, length, ℕ, true, List, refl, Ok, Err, Result}
use Rattle.block_reader.specs.declared.ends.LinkEnd.{LinkEnd}
use Rattle.ep_base.specs.Link.Wire.{Wire}
use Rattle.ep_base.specs.Link.LinkFrames.{LinkSetting}
use Rattle.ep_base.specs.Link.Carry.{OfLink}
use Rattle.block_reader.specs.Stands.{Held}
use Rattle.link.specs.Carried.{ByWire}
use Rattle.link_tests.specs.Open.{end_of, far_end, IsReady}
use Rattle.link_tests.proofs.Ready.{acts, again}
use Rattle.link_tests.proofs.open_link.OpenLink.transact.Goals as goal

-- src/open_link.rt:55:5
pub returns-clause-once : goal.returns-clause-once
returns-clause-once c =
    (c.carry.ensures.once (λ (w : Wire). true) (λ (w : Wire). w) c.requires.ready.reader (acts (end_of c.args.self.now).set) refl c.requires.ready.link c.requires.ready.agree c.requires.ready.rests).0

ready_if : (set : LinkSetting) (result : Result (List ℕ) LinkEnd) (e : Held) (w t : Wire) (command : List ℕ) → e.set ≡ set → OfLink set w → ByWire result e w command t →
    IfOk result (λ r. length t.log + 2 ≤ t.room → IsReady e t)
ready_if set (Ok response) e w t command same l x = λ room. again set e w t command same l x.1 x.2 room
ready_if set (Err end) e w t command same l x = tt

-- src/open_link.rt:55:5
pub returns-clause-again : goal.returns-clause-again
returns-clause-again c =
    ready_if (end_of c.args.self.now).set c.carry.result (end_of (record { end = c.carry.new.end; wire = c.carry.new.medium })) (far_end c.args.self.now)
    (far_end (record { end = c.carry.new.end; wire = c.carry.new.medium })) c.args.command.now c.carry.ensures.setting c.requires.ready.link (returns-clause-once c)
