-- A command over a field is heard to its end, in a bounded number of exchanges.
use Rattle.std.proofs.Common.{◌≡◌, ◌⊎◌, inl, inr, ℕ, zero, suc, ◌≤◌, List, [], ◌∷◌, length, refl, sym, ap, subst, arith, Some}
use Rattle.ep_base.specs.declared.limits.TheConstants.{COMMAND, COMMAND_EXCHANGES}
use Rattle.ep_base.specs.Air.Heard.{Heard, wave_of_kind}
use Rattle.ep_base.specs.Air.Frame.{sealed}
use Rattle.ep_base.specs.Link.Spelling.{spelled}
use Rattle.ep_base.specs.Link.Block.{Block}
use Rattle.ep_base.specs.Air.Fates.{next_fate}
use Rattle.ep_base.specs.Link.Wire.{comes_back}
use Rattle.ep_base.specs.Air.Medium.{told}
use Rattle.ep_base.specs.Link.ReaderEnd.{Reader, ReaderTurn, Asks, Gives, Spends, Breaks, asked, begin}
use Rattle.ep_base.specs.Link.LinkFrames.{LinkSetting}
use Rattle.ep_base.specs.Link.Carry.{SendsBlock, turn_on, FollowsOn, Follows}
use Rattle.ep_base.specs.Cards.Field.{Field, field, field_send, field_hears, joined}
use Rattle.law_link.specs.Bounds.{IsEnded}
use Rattle.law_link.proofs.Bounding.{command_ends}
use Rattle.law_radio.proofs.Thirds.{read, After, turn_is}
use Rattle.ep_claim.specs.Lanes.Limits.{command_most}

module _ (set : LinkSetting) where
  abbrev pub heard_of : Block → Field → Heard
  heard_of b f =
      comes_back (next_fate f.air.fates).up (joined (field_hears f (wave_of_kind set.kind) (sealed (wave_of_kind set.kind) (spelled b))).answers)

  abbrev pub field_then : Block → Field → Field
  field_then b f = (field_send f (wave_of_kind set.kind) (sealed (wave_of_kind set.kind) (spelled b))).1

  pub sends : (b : Block) (f : Field) → SendsBlock (told field) set f b (Some (heard_of b f)) (field_then b f)
  sends b f = refl

  -- some hearings from here, at most so many, lead to an end, or are as many
  abbrev Partly : ℕ → Reader → Field → Type 0
  Partly n r f = (hs : List Heard) × (turn : ReaderTurn) × (g : Field) × Follows (told field) set hs r f turn g × (length hs ≤ n) × (IsEnded turn ⊎ (length hs ≡ n))

  last_heard : (n : ℕ) (r : Reader) (f g : Field) (h : Heard) (next : ReaderTurn) → SendsBlock (told field) set f (asked r) (Some h) g → turn_on set r h ≡ next
      → FollowsOn (λ p v. Follows (told field) set [] p v next g) next [] g next g → IsEnded next → Partly (suc n) r f
  last_heard n r f g h next is e x ended = (
    h ∷ [],
    next,
    g,
    (g, is, subst (λ (c : ReaderTurn). FollowsOn (λ p v. Follows (told field) set [] p v next g) c [] g next g) (sym e) x),
    omega arith,
    inl ended,
  )

  by_turn : (n : ℕ) (r : Reader) (f g : Field) (h : Heard) → SendsBlock (told field) set f (asked r) (Some h) g → ((q : Reader) → Partly n q g)
      → (next : ReaderTurn) → turn_on set r h ≡ next → Partly (suc n) r f
  by_turn n r f g h is more (Asks q) e =
      let x = more q in
      let few : length x.0 ≤ n = x.4 in (
        h ∷ x.0,
        x.1,
        x.2,
        (g, is, subst (λ (c : ReaderTurn). FollowsOn (λ p v. Follows (told field) set x.0 p v x.1 x.2) c x.0 g x.1 x.2) (sym e) x.3),
        omega (arith, few),
        elim x.5 [ inl y ↦ inl y | inr y ↦ inr (ap suc y) ],
      )
  by_turn n r f g h is more (Gives response q) e = last_heard n r f g h (Gives response q) is e (refl, refl, refl) tt
  by_turn n r f g h is more (Spends q) e = last_heard n r f g h (Spends q) is e (refl, refl, refl) tt
  by_turn n r f g h is more (Breaks q) e = last_heard n r f g h (Breaks q) is e (refl, refl, refl) tt

  partly : (n : ℕ) (r : Reader) (f : Field) → Partly n r f
  partly zero r f = ([], Asks r, f, (refl, refl), omega arith, inr refl)
  partly (suc n) r f =
      let h = heard_of (asked r) f in
      let g = field_then (asked r) f in
      by_turn n r f g h (sends (asked r) f) (λ q. partly n q g) (turn_on set r h) refl

  read_length : (hs : List Heard) → length (read (told field) set hs) ≡ length hs
  unfolding read
  read_length [] = refl
  read_length (h ∷ hs) = ap suc (read_length hs)

  -- a command that was heard to its end
  pub record Ended (r : Reader) (f : Field) : Type 0 where
    pub hearings : List Heard
    pub turn : ReaderTurn
    pub after : Field
    pub follows : Follows (told field) set hearings r f turn after
    pub few : length hearings ≤ command_most
    pub ends : IsEnded turn

  by_end : (r : Reader) (f : Field) (c : List ℕ) → r.since ≡ [] → 16 ≤ set.frames.card → length c ≤ COMMAND → Partly command_most (begin set.frames.card c r) f → Ended (begin set.frames.card c r) f
  by_end r f c fresh wide short (hs, turn, g, x, few, inl y) = record { hearings = hs; turn = turn; after = g; follows = x; few = few; ends = y }
  by_end r f c fresh wide short (hs, turn, g, x, few, inr y) =
      let is : turn ≡ After (told field) set hs (Asks (begin set.frames.card c r)) = turn_is (told field) set hs (begin set.frames.card c r) f g turn x in
      let size : length (read (told field) set hs) ≡ length hs = read_length hs in
      let many : COMMAND_EXCHANGES ≤ length (read (told field) set hs) = omega (arith, size, y) in
      record {
        hearings = hs;
        turn = turn;
        after = g;
        follows = x;
        few = few;
        ends = subst (λ z. IsEnded z) (sym is) (command_ends set.frames.card set.frames.reader c r (read (told field) set hs) fresh wide short many);
      }

  pub ends_so : (r : Reader) (f : Field) (c : List ℕ) → r.since ≡ [] → 16 ≤ set.frames.card → length c ≤ COMMAND → Ended (begin set.frames.card c r) f
  ends_so r f c fresh wide short = by_end r f c fresh wide short (partly command_most (begin set.frames.card c r) f)
