-- What an event stands for in plain data.
use Rattle.ep_rules.specs.EntryPoint.Event.{Event as EventData, Finished, EndLink, EndBreach}
use Rattle.ep_rules.specs.EntryPoint.Event as plain
use Rattle.kernel_port.specs.declared.event.Event.{Event}
use Rattle.kernel_port.specs.declared.event.Event.TheVariants.{Start, Pre, Message, Card, Apdu, Candidates, Activate, Outcome, End}
use Rattle.kernel_port.specs.declared.event.End as ending
use Rattle.kernel_port.specs.declared.event.End.TheVariants.{Done, Link, NoCard, Breach}

abbrev pub said_of_end : ending.End → EventData
said_of_end Done = plain.End Finished
said_of_end Link = EndLink
said_of_end NoCard = plain.End plain.NoCard
said_of_end Breach = EndBreach

abbrev pub said_of : Event → EventData
said_of (Start txn_type amount) = plain.Tells (plain.Start txn_type amount)
said_of (Pre number one) = plain.Tells (plain.Pre number one)
said_of (Message message) = plain.Tells (plain.Notice message)
said_of (Card kind id) = plain.Tells (plain.Card kind id.items)
said_of (Apdu command response) = plain.Apdu command response
said_of (Candidates count) = plain.Tells (plain.Candidates count)
said_of (Activate activation) = plain.Tells (plain.Activate activation)
said_of (Outcome kind) = plain.Tells (plain.Outcome kind)
said_of (End end) = said_of_end end
