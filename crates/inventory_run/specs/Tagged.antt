-- The Type A cards of a document's transactions (ISO/IEC 14443-3; that presence isn't asked: this project's own).
use Rattle.std.specs.Prelude.{◌≡◌, ℕ, ◌≤◌, ◌<◌, All, List, [], ◌∷◌, ◌++◌, map, length, Option, Some, None}
use Rattle.ep_base.specs.declared.limits.TheConstants.{CARDS}
use Rattle.ep_base.specs.Cards.Activation.{bit}
use Rattle.ep_base.specs.Cards.Field.{Outside, OfA, OfB, Placed}
use Rattle.ep_base.specs.Cards.Lawful.{IsUid}
use Rattle.ep_base.specs.Cards.TypeA.{APlan}
use Rattle.card_table.specs.Cards.{Card}
use Rattle.inventory.specs.Tags.{Tag, AreApart}
use Rattle.scenario.specs.Plan.{Transaction, Plan}
use Rattle.scenario.specs.Scenario.{Work}

-- The UID and SAK of a card of Type A before other cards; a card of Type B has none (ISO/IEC 14443-3).
abbrev pub with_card : Outside → List Tag → List Tag
with_card (OfA plan state) tags = record { uid = plan.uid; sak = plan.sak } ∷ tags
with_card (OfB plan state) tags = tags

-- Those of a transaction's cards in a document, in the order of the cards (this project's own).
abbrev pub card_tags : List Card → List Tag
card_tags [] = []
card_tags (c ∷ cs) = with_card c.outside (card_tags cs)

-- Those of all transactions of a document, lane by lane (this project's own).
abbrev pub plan_tags : Plan → List (List (List Tag))
plan_tags p = map (λ lane. map (λ (t : Transaction). card_tags t.cards) lane) p.lanes

-- Those of the cards in a field, whether they are present or not (this project's own).
abbrev pub placed_tags : List Placed → List Tag
placed_tags [] = []
placed_tags (p ∷ ps) = with_card p.outside (placed_tags ps)

-- Those of the cards of a transaction that is about to begin (this project's own).
abbrev pub work_tags : Work → List Tag
work_tags w = placed_tags w.field.cards

-- A lawful UID, and a SAK that says that it is complete (ISO/IEC 14443-3).
pub record IsComplete (t : Tag) : Type 0 where
  pub uid : IsUid t.uid
  pub sak : bit t.sak 4 ≡ 0

-- A transaction whose cards can be listed: at most `CARDS` cards, and those of Type A have complete UIDs, of which no two are the same (this project's
-- own).
pub record CanBeListed (w : Work) : Type 0 where
  pub few : length w.field.cards ≤ CARDS
  pub complete : All IsComplete (work_tags w)
  pub apart : AreApart (work_tags w)

-- Cards, and one more, where there is one of Type A (this project's own).
abbrev pub with_plan : List Tag → Option APlan → List Tag
with_plan tags None = tags
with_plan tags (Some plan) = tags ++ record { uid = plan.uid; sak = plan.sak } ∷ []

-- Bytes (this project's own).
abbrev pub AreBytes : List ℕ → Type 0
AreBytes bytes = All (λ b. b < 256) bytes

-- Cards whose UIDs are bytes (this project's own).
abbrev pub HaveBytes : List Tag → Type 0
HaveBytes tags = All (λ (t : Tag). AreBytes t.uid) tags
