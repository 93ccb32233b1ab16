-- What the answers of a transport stand for in plain data (this project's own).
use Rattle.std.specs.Prelude.{ℕ, List, Result, Ok, Err}
use Rattle.ep_base.specs.Poll.Transport.{PresentResult, Here, Nobody, Gone, Reply, Answered, Breached, Lost}
use Rattle.ep_base.specs.Poll.Transport as plain
use Rattle.link.specs.declared.transport.Presented.{Presented}
use Rattle.link.specs.declared.transport.PresentEnd.{PresentEnd}
use Rattle.link.specs.declared.transport.PresentEnd.TheVariants.{NoCard}
use Rattle.link.specs.declared.transport.PresentEnd.TheVariants as present
use Rattle.block_reader.specs.declared.ends.LinkEnd.{LinkEnd}
use Rattle.block_reader.specs.declared.ends.LinkEnd.TheVariants as ending

abbrev pub presentation_of : Result Presented PresentEnd → PresentResult
presentation_of (Ok p) = Here p.collision p.card
presentation_of (Err (NoCard collision)) = Nobody collision
presentation_of (Err present.Device) = Gone

abbrev pub reply_of : Result (List ℕ) LinkEnd → Reply
reply_of (Ok response) = Answered response
reply_of (Err (ending.Spent bad)) = plain.Spent
reply_of (Err (ending.Breach breach)) = Breached
reply_of (Err ending.Device) = Lost
