-- The cards of a load (this project's own; the parts of a card are those of ISO/IEC 14443-3 and -4).
use Rattle.std.specs.Prelude.{ℕ, ◌/◌, ◌%◌, ◌==◌, true, List, [], ◌∷◌, if◌then◌else◌}
use Rattle.ep_base.specs.Cards.CardAnswer.{Rule, App, unused}
use Rattle.ep_base.specs.Cards.Field.{Outside, OfA, OfB}
use Rattle.ep_base.specs.Cards.TypeA.{Idle}
use Rattle.ep_base.specs.Cards.TypeB.{BIdle}
use Rattle.card_table.specs.Cards.{Card}
use Rattle.ep_load.specs.Draws.{Draws}
use Rattle.ep_load.specs.Responses.{ppse_response, select_response, kernel_response, kernel_prefix}
use Rattle.ep_load.specs.Terms.{chosen}

-- The UID or PUPI of the card of transaction i: 08, and i as three bytes, the highest first (this project's own).
abbrev pub id_of : ℕ → List ℕ
id_of i = 0x08 ∷ i / 65536 % 256 ∷ i / 256 % 256 ∷ i % 256 ∷ []

-- A card of Type A with this UID (ISO/IEC 14443-3).
abbrev pub type_a : List ℕ → ℕ → Outside
type_a id fsci = OfA (record { uid = id; sak = 0x20; fsci = fsci; fwi = 4; historical = [] }) Idle

-- A card of Type B with this PUPI (ISO/IEC 14443-3).
abbrev pub type_b : List ℕ → ℕ → Outside
type_b id fsci = OfB (record { pupi = id; app_data = 0 ∷ 0 ∷ 0 ∷ 0 ∷ []; fsci = fsci; fwi = 4; iso4 = true }) BIdle

-- What the card is outside the block protocol (ISO/IEC 14443-3).
abbrev pub outside_drawn : ℕ → Draws → Outside
outside_drawn i d = if d.kind == 0 then type_a (id_of i) d.fsci else type_b (id_of i) d.fsci

-- The rule of its application, with so many S(WTX) before the response (this project's own).
abbrev pub rule_with : ℕ → Rule
rule_with wtx = record { prefix = kernel_prefix; responses = unused (kernel_response ∷ []); wtx = wtx; wtxm = 1 }

-- Its application, with this name (this project's own).
abbrev pub app_named : List ℕ → ℕ → App
app_named name wtx = record { name = name; selects = unused (select_response name ∷ []); wtx = 0; wtxm = 1; rules = rule_with wtx ∷ [] }

-- The card of transaction i (this project's own).
abbrev pub card_drawn : ℕ → Draws → Card
card_drawn i d = record {
  outside = outside_drawn i d;
  ppse = ppse_response (chosen d.choice).aid ∷ [];
  apps = app_named (chosen d.choice).aid d.wtx ∷ [];
}
