-- A command over an open link of a field is one over the link's wire.
use Rattle.std.proofs.Common.{◌≡◌, ℕ, true, List, [], ◌∷◌, Option, Some, sym, ◌∙◌, subst, refl}
use Rattle.ep_base.specs.Air.Heard.{Heard, wave_of_kind}
use Rattle.ep_base.specs.Link.ReaderEnd.{Reader, ReaderTurn, Asks, Gives, Spends, Breaks, asked}
use Rattle.ep_base.specs.Link.LinkFrames.{LinkSetting}
use Rattle.ep_base.specs.Air.Medium.{told}
use Rattle.ep_base.specs.Link.Carry.{SendsBlock, turn_on, FollowsOn, Follows, OfLink}
use Rattle.ep_base.specs.Link.Block.{Block}
use Rattle.ep_base.specs.Cards.Field.{Field, field_send, field}
use Rattle.ep_base.specs.Cards.CardAnswer.{Image, IsImage}
use Rattle.ep_base.specs.Air.Frame.{sealed}
use Rattle.ep_base.specs.Link.Spelling.{spelled}
use Rattle.law_wire.proofs.Alike.{carried_alike_lem}
use Rattle.law_wire.proofs.Limits.{images_keep}
use Rattle.law_round.specs.Acting.{shown}
use Rattle.ep_base.specs.Cards.LinkedField.{is_open, without}
use Rattle.ep_base.specs.Cards.Lawful.{names, faces, Lawful}
use Rattle.law_round.proofs.Lawfulness.{lawful_send}
use Rattle.law_round.specs.Once.{OnceInField, LeavesOthers, StaysReady}
use Rattle.law_round.proofs.Acting.{field_acts_law, others_stay_law}

pub once_in_field_law : OnceInField
once_in_field_law set n s r command hs turn t good of rest legal x =
    carried_alike_lem (told field) set (is_open set.kind n) (shown n) s r command hs turn t (field_acts_law set n) good of rest legal x

-- ---- what each exchange keeps

module _ (set : LinkSetting) (n : ℕ) (P : Field → Type 0) (step : (s t : Field) (b : Block) (heard : Option Heard) → is_open set.kind n s ≡ true → SendsBlock (told field) set s b heard t → P s → P t) where
  goes_along : (next : ReaderTurn) (hs : List Heard) (s : Field) (turn : ReaderTurn) (t : Field) → P s
      → ((q : Reader) → Follows (told field) set hs q s turn t → P t) → FollowsOn (λ q v. Follows (told field) set hs q v turn t) next hs s turn t → P t
  goes_along (Asks q) hs s turn t p more x = more q x
  goes_along (Gives response q) hs s turn t p more x = subst P (sym x.2) p
  goes_along (Spends q) hs s turn t p more x = subst P (sym x.2) p
  goes_along (Breaks q) hs s turn t p more x = subst P (sym x.2) p

  pub along : (hs : List Heard) (r : Reader) (s : Field) (turn : ReaderTurn) (t : Field) → is_open set.kind n s ≡ true → P s → Follows (told field) set hs r s turn t → P t
  along [] r s turn t good p x = subst P (sym x.1) p
  along (h ∷ hs) r s turn t good p x =
      let u = x.0 in
      let a = field_acts_law set n s (asked r) (Some h) u good x.1 in
      let pu = step s u (asked r) (Some h) good x.1 p in
      goes_along (turn_on set r h) hs u turn t pu (λ q y. along hs q u turn t a.1 pu y) x.2

abbrev Leaves : ℕ → Field → Field → Type 0
Leaves n s t = Lawful t × (faces (without n t.cards) ≡ faces (without n s.cards)) × (names t.cards ≡ names s.cards)

leaves_step : (set : LinkSetting) (n : ℕ) (s u t : Field) (b : Block) (heard : Option Heard) → is_open set.kind n u ≡ true → SendsBlock (told field) set u b heard t → Leaves n s u → Leaves n s t
leaves_step set n s u t b heard good sends l =
    let o = others_stay_law set n b heard u t good sends in
    let e : field_send u (wave_of_kind set.kind) (sealed (wave_of_kind set.kind) (spelled b)) ≡ (heard, t) = sends in
    (subst (λ (x : Option Heard × Field). Lawful x.1) e (lawful_send u (wave_of_kind set.kind) (sealed (wave_of_kind set.kind) (spelled b)) l.0), o.0 ∙ l.1, o.1 ∙ l.2)

pub leaves_others_law : LeavesOthers
leaves_others_law set n s t r hs turn good l x = along set n (λ u. Leaves n s u) (λ u v b heard g sends p. leaves_step set n s u v b heard g sends p) hs r s turn t good (l, refl, refl) x

pub stays_ready_law : StaysReady
stays_ready_law set n s r command hs response q t good of rest is x room =
    let y = once_in_field_law set n s r command hs (Gives response q) t good of rest is x in
    let done = y.0.1 in
    let link : OfLink set (shown n t) = record {
      kind = done.kind ∙ of.kind;
      frame = done.frame ∙ of.frame;
      card_least = of.card_least;
      reader_least = of.reader_least;
      reader_most = of.reader_most;
      image = subst (λ (i : Image). IsImage i) (sym done.image) ((images_keep (λ card. 0)).stays 0 (shown n s).party.image command of.image);
      fates = done.fates;
      room = room;
    } in
    (link, y.0.2)
