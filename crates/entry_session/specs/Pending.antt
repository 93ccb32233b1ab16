-- The ends of rounds for which a presentation over a transport stands, as far as no round has ended so yet.
use Rattle.std.specs.Prelude.{ℕ, Bool, true, false, List, [], ◌∷◌, Option, Some, None, replicate}
use Rattle.ep_base.specs.Air.Heard.{Activated, RoundEnd, Empty, Collision, Found}
use Rattle.ep_base.specs.Poll.Transport.{PresentResult, Here, Nobody, Gone}
use Rattle.entry_session.specs.declared.rounds.Pending.{Pending}

-- A presentation of this card, if there is one (this project's own).
abbrev pub presents_if : Bool → Option Activated → PresentResult
presents_if collided (Some card) = Here collided card
presents_if collided None = Nobody collided

-- The presentation of which nothing was decided yet (this project's own).
abbrev pub shows : Option Pending → PresentResult
shows (Some p) = presents_if p.collision p.card
shows None = Gone

-- The end of a round after a collision that is past (this project's own).
abbrev pub end_then : Option Activated → RoundEnd
end_then (Some card) = Found card
end_then None = Empty

-- The next end (this project's own).
abbrev pub end_shown : Bool → Option Activated → RoundEnd
end_shown true card = Collision
end_shown false card = end_then card

-- The ends from then on, of so many rounds (this project's own).
abbrev pub ends_then : Option Activated → ℕ → List RoundEnd
ends_then (Some card) left = Found card ∷ []
ends_then None left = replicate left Empty

-- The ends after the next one, where so many rounds may still come (this project's own).
abbrev pub ends_shown : Bool → Option Activated → ℕ → List RoundEnd
ends_shown true card left = ends_then card left
ends_shown false (Some card) left = []
ends_shown false None left = replicate left Empty
