-- A transaction over the perfect channel, where each command is answered by the presented card and listed (this project's own).
use Rattle.std.specs.Prelude.{ℕ, List, [], ◌∷◌, Some, None}
use Rattle.std.specs.declared.option.Option.{Option}
use Rattle.ep_base.specs.Air.Heard.{RoundEnd, Empty, Collision, Unsupported, Broken, Found}
use Rattle.ep_rules.specs.EntryPoint.Event.{Event as EventData}
use Rattle.ep_rules.specs.EntryPoint.Talk.{Result, Round, Response, Closed, Talk, Over, Say, Poll, Command, Close, so_far}
use Rattle.ep_base.specs.Cards.Images.{Rules, stored}

-- The cards' images, and the number of the card that is presented.
pub record Channel (S : Type 0) : Type 0 where
  pub images : ℕ → S
  pub presented : Option ℕ

-- The results, and the commands with their cards.
pub record Perfect : Type 0 where
  pub results : List Result
  pub commands : List (ℕ × List ℕ)

-- At the start of a presentation no application is selected on any card.
abbrev pub presents : {S : Type 0} → Rules S → Channel S → RoundEnd → Channel S
presents rules ch Empty = record { images = ch.images; presented = None }
presents rules ch Collision = record { images = ch.images; presented = None }
presents rules ch Unsupported = record { images = ch.images; presented = None }
presents rules ch Broken = record { images = ch.images; presented = None }
presents rules ch (Found card) = record { images = λ k. rules.deselected (ch.images k); presented = Some (rules.number_of card) }

abbrev pub nothing : Perfect
nothing = record { results = []; commands = [] }

abbrev pub gave : Result → Perfect → Perfect
gave result p = record { results = result ∷ p.results; commands = p.commands }

abbrev pub with_command : ℕ → List ℕ → Perfect → Perfect
with_command n command p = record { results = p.results; commands = (n, command) ∷ p.commands }

-- It stops where the ends run out.
abbrev pub at_poll : {S : Type 0} → Rules S → Channel S → (RoundEnd → List RoundEnd → Channel S → Perfect) → List RoundEnd → Perfect
at_poll rules ch next [] = nothing
at_poll rules ch next (e ∷ ends) = gave (Round e) (next e ends (presents rules ch e))

abbrev pub at_command : {S : Type 0} → Rules S → Channel S → List ℕ → (List ℕ → Channel S → Perfect) → Option ℕ → Perfect
at_command rules ch command next None = nothing
at_command rules ch command next (Some n) =
    let a = rules.answers n (ch.images n) command in
    with_command n command (gave (Response a.0.response) (next a.0.response (record { images = stored n a.1 ch.images; presented = Some n })))

-- The results, and the commands with their cards, for these ends of rounds.
abbrev pub perfect : {S : Type 0} → Rules S → Talk → List RoundEnd → Channel S → Perfect
perfect rules (Over ending) ends ch = nothing
perfect rules (Say what next) ends ch = perfect rules next ends ch
perfect rules (Poll next) ends ch = at_poll rules ch (λ e rest c. perfect rules (next e) rest c) ends
perfect rules (Command command next) ends ch = at_command rules ch command (λ r c. perfect rules (next r) ends c) ch.presented
perfect rules (Close next) ends ch = gave Closed (perfect rules next ends (record { images = ch.images; presented = None }))

abbrev pub channel : {S : Type 0} → (ℕ → S) → Channel S
channel images = record { images = images; presented = None }

-- The events of the perfect run for these ends.
abbrev pub perfect_events : {S : Type 0} → Rules S → Talk → List RoundEnd → (ℕ → S) → List EventData
perfect_events rules talk ends images = (so_far talk (perfect rules talk ends (channel images)).results).events
