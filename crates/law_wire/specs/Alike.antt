-- A command over a medium that carries a link's blocks as a wire does (this project's own).
use Rattle.std.specs.Prelude.{◌≡◌, ℕ, Bool, true, List}
use Rattle.ep_base.specs.Cards.Apdu.{is_command}
use Rattle.ep_base.specs.Air.Heard.{Heard}
use Rattle.ep_base.specs.Link.LinkFrames.{LinkSetting}
use Rattle.ep_base.specs.Air.Medium.{MediumSteps}
use Rattle.ep_base.specs.Link.ReaderEnd.{Reader, ReaderTurn, begin}
use Rattle.ep_base.specs.Link.Wire.{Wire}
use Rattle.ep_base.specs.Link.Carry.{ActsAs, AtRest, OfLink, Follows, OnceSo}

-- From a good state of such a medium, a command comes to what it comes to over the wire that the states show, and the medium stays good
-- (this project's own).
abbrev pub CarriedAlike : {S : Type 0} → MediumSteps S → Type 0
CarriedAlike {S = S} steps =
    (set : LinkSetting) (good : S → Bool) (shown : S → Wire) (s : S) (r : Reader) (command : List ℕ) (hs : List Heard) (turn : ReaderTurn) (t : S) →
    ActsAs steps set good shown → good s ≡ true → OfLink set (shown s) → AtRest r (shown s).party.card → is_command command ≡ true →
    Follows steps set hs (begin set.frames.card command r) s turn t →
    OnceSo (shown s) command turn (shown t) × (good t ≡ true)
