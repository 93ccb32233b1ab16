-- The reader's turn over a medium is its turn after what it heard.
use Rattle.std.proofs.Common.{◌≡◌, List, [], ◌∷◌, sym, subst}
use Rattle.ep_base.specs.Air.Heard.{Heard}
use Rattle.ep_base.specs.Link.Block.{ReadBlock}
use Rattle.ep_base.specs.Link.ReaderEnd.{Reader, ReaderTurn, Asks, Gives, Spends, Breaks}
use Rattle.ep_base.specs.Link.LinkFrames.{LinkSetting, heard_block}
use Rattle.ep_base.specs.Air.Medium.{MediumSteps}
use Rattle.ep_base.specs.Link.Carry.{turn_on, FollowsOn, Follows}
use Rattle.law_link.specs.Bounds.{after_all}

module _ {S : Type 0} (steps : MediumSteps S) (set : LinkSetting) where
  unfoldable pub read : List Heard → List ReadBlock
  read [] = []
  read (h ∷ hs) = heard_block set.kind set.frames.reader h ∷ read hs

  abbrev pub After : List Heard → ReaderTurn → ReaderTurn
  After hs turn = after_all set.frames.reader (read hs) turn

  goes : (next : ReaderTurn) (hs : List Heard) (s t : S) (turn : ReaderTurn) → ((q : Reader) → Follows steps set hs q s turn t → turn ≡ After hs (Asks q))
      → FollowsOn (λ q v. Follows steps set hs q v turn t) next hs s turn t → turn ≡ After hs next
  unfolding read
  goes (Asks q) hs s t turn more x = more q x
  goes (Gives response q) hs s t turn more x = subst (λ ys. turn ≡ After ys (Gives response q)) (sym x.0) x.1
  goes (Spends q) hs s t turn more x = subst (λ ys. turn ≡ After ys (Spends q)) (sym x.0) x.1
  goes (Breaks q) hs s t turn more x = subst (λ ys. turn ≡ After ys (Breaks q)) (sym x.0) x.1

  pub turn_is : (hs : List Heard) (r : Reader) (s t : S) (turn : ReaderTurn) → Follows steps set hs r s turn t → turn ≡ After hs (Asks r)
  unfolding read
  turn_is [] r s t turn x = x.0
  turn_is (h ∷ hs) r s t turn x = goes (turn_on set r h) hs x.0 t turn (λ q y. turn_is hs q x.0 t turn y) x.2
