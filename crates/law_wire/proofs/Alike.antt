-- A medium that carries blocks as a wire does carries commands as a wire does.
use Rattle.std.proofs.Common.{◌≡◌, ℕ, Bool, true, false, List, [], ◌∷◌, Some, sym, ap, subst}
use Rattle.ep_base.specs.Air.Fates.{AllPass}
use Rattle.ep_base.specs.Cards.Apdu.{is_command}
use Rattle.ep_base.specs.Air.Heard.{Heard}
use Rattle.ep_base.specs.Link.LinkFrames.{LinkSetting}
use Rattle.ep_base.specs.Air.Medium.{MediumSteps, told}
use Rattle.ep_base.specs.Link.ReaderEnd.{Reader, ReaderTurn, Asks, Gives, Spends, Breaks, asked, begin}
use Rattle.ep_base.specs.Link.Wire.{Wire, wire}
use Rattle.ep_base.specs.Link.Carry.{ActsAs, AtRest, OfLink, FollowsOn, Follows, turn_on}
use Rattle.law_wire.specs.Alike.{CarriedAlike}
use Rattle.law_wire.proofs.Carrying.{IsUnspent, carried_once_lem, unspent_lem}

module _ {S : Type 0} (steps : MediumSteps S) (set : LinkSetting) (good : S → Bool) (shown : S → Wire) (acts : ActsAs steps set good shown) where
  -- from a good state the hearings are those of a wire
  AsWire : List Heard → Type 0
  AsWire hs = (r : Reader) (s : S) (turn : ReaderTurn) (t : S) → good s ≡ true → Follows steps set hs r s turn t → Follows (told wire) set hs r (shown s) turn (shown t) × (good t ≡ true)

  goes_alike : (hs : List Heard) → AsWire hs → (turn : ReaderTurn) (t : S) (x : ReaderTurn) (u : S) → good u ≡ true → FollowsOn (λ q v. Follows steps set hs q v turn t) x hs u turn t
      → FollowsOn (λ q v. Follows (told wire) set hs q v turn (shown t)) x hs (shown u) turn (shown t) × (good t ≡ true)
  unfolding AsWire
  goes_alike hs again turn t (Asks r) u is on = again r u turn t is on
  goes_alike hs again turn t (Gives response r) u is on = ((on.0, on.1, ap shown on.2), subst (λ (v : S). good v ≡ true) (sym on.2) is)
  goes_alike hs again turn t (Spends r) u is on = ((on.0, on.1, ap shown on.2), subst (λ (v : S). good v ≡ true) (sym on.2) is)
  goes_alike hs again turn t (Breaks r) u is on = ((on.0, on.1, ap shown on.2), subst (λ (v : S). good v ≡ true) (sym on.2) is)

  all_alike : (hs : List Heard) → AsWire hs
  unfolding AsWire
  all_alike [] r s turn t is follows = ((follows.0, ap shown follows.1), subst (λ (v : S). good v ≡ true) (sym follows.1) is)
  all_alike (h ∷ hs) r s turn t is follows =
      let sent = acts s (asked r) (Some h) follows.0 is follows.1 in
      let on = goes_alike hs (all_alike hs) turn t (turn_on set r h) follows.0 sent.1 follows.2 in
      ((shown follows.0, sent.0, on.0), on.1)

pub carried_alike_lem : {S : Type 0} (steps : MediumSteps S) → CarriedAlike steps
unfolding AsWire
carried_alike_lem steps set good shown s r command hs turn t acts is of rest legal follows =
    let alike = all_alike steps set good shown acts hs (begin set.frames.card command r) s turn t is follows in
    (carried_once_lem set (shown s) r command hs turn (shown t) of rest legal alike.0, alike.1)

-- where every frame passes, the link isn't spent
pub unspent_alike : {S : Type 0} (steps : MediumSteps S) (set : LinkSetting) (good : S → Bool) (shown : S → Wire) (s : S) (r : Reader) (command : List ℕ) (hs : List Heard) (turn : ReaderTurn) (t : S)
    → ActsAs steps set good shown → good s ≡ true → OfLink set (shown s) → AtRest r (shown s).party.card → is_command command ≡ true → (shown s).air.gone ≡ false → AllPass (shown s).air.fates
    → Follows steps set hs (begin set.frames.card command r) s turn t → IsUnspent turn
unfolding AsWire
unspent_alike steps set good shown s r command hs turn t acts is of rest legal here all follows =
    unspent_lem set (shown s) r command hs turn (shown t) of rest legal here all (all_alike steps set good shown acts hs (begin set.frames.card command r) s turn t is follows).0
