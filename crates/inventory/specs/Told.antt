-- A field that tells its cards and where each stands (ISO/IEC 14443-3, bit frame anticollision).
use Rattle.std.specs.Prelude.{◌≡◌, ℕ, ◌+◌, ◌<◌, ◌==◌, nat_lt, Bool, true, false, ◌&&◌, List, [], ◌∷◌, ◌++◌, map, length, take, Option, Some, None, if◌then◌else◌}
use Rattle.std.specs.List.{filter}
use Rattle.std.specs.Option.{option_or}
use Rattle.std.specs.Str.{bytes_eq}
use Rattle.ep_base.specs.Cards.TypeA.{bcc, levels, level_bytes}
use Rattle.inventory.specs.declared.field.Prefix.{Prefix}
use Rattle.inventory.specs.declared.field.BitHeard.{BitHeard}
use Rattle.inventory.specs.declared.field.BitHeard.TheVariants.{Silence, Level, Split}
use Rattle.inventory.specs.Bits.{bits_of, known_bits, begins, shared}
use Rattle.inventory.specs.Steps.{BitSteps}
use Rattle.inventory.specs.Tags.{Tag}

-- Where a card stands: mute until it is woken, at a level of its UID, or selected whole (ISO/IEC 14443-3).
pub data Place : Type 0 where
  Mute : Place
  At : (level : ℕ) → Place
  Whole : Place

-- A card, and where it stands (this project's own).
pub record Stood : Type 0 where
  pub tag : Tag
  pub place : Place

-- The cards alone (this project's own).
abbrev pub tags_of : List Stood → List Tag
tags_of cards = map (λ c. c.tag) cards

-- Whether a card stands at a level (this project's own).
abbrev pub is_at : ℕ → Place → Bool
is_at level Mute = false
is_at level (At own) = own == level
is_at level Whole = false

-- All cards at one place (this project's own).
abbrev pub placed : Place → List Stood → List Stood
placed place cards = map (λ c. record { tag = c.tag; place = place }) cards

-- After a reset no card answers (ISO/IEC 14443-3).
abbrev pub muted : List Stood → List Stood
muted cards = placed Mute cards

-- All cards are woken (ISO/IEC 14443-3).
abbrev pub woken : List Stood → List Stood
woken cards = placed (At 1) cards

-- Whether there is a card (this project's own).
abbrev pub is_some_there : List Stood → Bool
is_some_there [] = false
is_some_there (c ∷ cs) = true

-- A card's value at a level (ISO/IEC 14443-3).
abbrev pub value_at : ℕ → Stood → List ℕ
value_at level c = level_bytes c.tag.uid level

-- Whether a card stands at this level and its value begins with these bits (ISO/IEC 14443-3).
abbrev pub hears : ℕ → List Bool → Stood → Bool
hears level known c = is_at level c.place && begins known (bits_of (value_at level c))

-- The values of the cards that hear a question (ISO/IEC 14443-3).
abbrev pub heard_values : ℕ → List Bool → List Stood → List (List ℕ)
heard_values level known cards = map (value_at level) (filter (hears level known) cards)

-- The first bits in which values agree with these (this project's own).
abbrev pub agreed : List Bool → List (List ℕ) → List Bool
agreed common [] = common
agreed common (v ∷ vs) = agreed (shared common (bits_of v)) vs

-- Values that agree in all their bits are heard whole, with BCC; others as the bits before the first place at which two of
-- them differ, and that place (ISO/IEC 14443-3).
abbrev pub HeardAs : List ℕ → List Bool → BitHeard → Type 0
HeardAs value common Silence = ⊥
HeardAs value common (Level part) = (length common ≡ 32) × (part ≡ value ++ bcc value ∷ [])
HeardAs value common (Split bytes place) = (length common < 32) × (place ≡ length common) × (take place (bits_of bytes) ≡ common)

-- What is heard of these values (ISO/IEC 14443-3).
abbrev pub IsHeard : List (List ℕ) → BitHeard → Type 0
IsHeard [] heard = heard ≡ Silence
IsHeard (v ∷ vs) heard = HeardAs v (agreed (bits_of v) vs) heard

-- Whether a card stands at this level with this value (ISO/IEC 14443-3).
abbrev pub is_selected : ℕ → List ℕ → Stood → Bool
is_selected level value c = is_at level c.place && bytes_eq (value_at level c) value

-- Where a selected card stands next (ISO/IEC 14443-3).
abbrev pub next_place : ℕ → Tag → Place
next_place level tag = if nat_lt level (levels tag.uid) then At (level + 1) else Whole

-- A card after the selection of a value at a level: with the value it goes on, without it it is mute (ISO/IEC 14443-3).
abbrev pub selects_one : ℕ → List ℕ → Stood → Stood
selects_one level value c =
    if is_at level c.place
    then (if bytes_eq (value_at level c) value
    then record { tag = c.tag; place = next_place level c.tag }
    else record { tag = c.tag; place = Mute })
    else c

-- The SAK of a level: 04h where the UID isn't complete (ISO/IEC 14443-3).
abbrev pub sak_at : ℕ → Stood → ℕ
sak_at level c = if nat_lt level (levels c.tag.uid) then 0x04 else c.tag.sak

-- The SAK of a card that has the selected value (ISO/IEC 14443-3).
abbrev pub selected_sak : ℕ → List ℕ → Stood → Option ℕ
selected_sak level value c = if is_selected level value c then Some (sak_at level c) else None

-- What is answered to a selection: the SAK of the first card with the value (ISO/IEC 14443-3).
abbrev pub answered_sak : ℕ → List ℕ → List Stood → Option ℕ
answered_sak level value [] = None
answered_sak level value (c ∷ cs) = option_or (selected_sak level value c) (answered_sak level value cs)

-- A field tells its cards and where each stands: this is what its states show, and whatever it answers is what these cards
-- answer. A call that fails is tied to nothing (this project's own).
pub record Tells {S : Type 0} (steps : BitSteps S) (shown : S → List Stood) : Type 0 where
  pub resets : (s t : S) → steps.resets s true t → shown t ≡ muted (shown s)
  pub wakes : (s t : S) (heard : Bool) → steps.wakes s (Some heard) t → (heard ≡ is_some_there (shown s)) × (shown t ≡ woken (shown s))
  pub asks : (s t : S) (level : ℕ) (known : Prefix) (heard : BitHeard) → steps.asks s level known (Some heard) t
      → IsHeard (heard_values level (known_bits known) (shown s)) heard × (shown t ≡ shown s)
  pub selects : (s t : S) (level : ℕ) (value : List ℕ) (sak : Option ℕ) → steps.selects s level value (Some sak) t
      → (sak ≡ answered_sak level value (shown s)) × (shown t ≡ map (selects_one level value) (shown s))

-- The steps of a field whose state is its cards and where each stands, and that never fails (this project's own).
abbrev pub clean : BitSteps (List Stood)
clean = record {
  resets = λ s well t. (well ≡ true) × (t ≡ muted s);
  wakes = λ s heard t. (heard ≡ Some (is_some_there s)) × (t ≡ woken s);
  asks = λ s level known heard t. ((h : BitHeard) × (heard ≡ Some h) × IsHeard (heard_values level (known_bits known) s) h) × (t ≡ s);
  selects = λ s level value heard t. (heard ≡ Some (answered_sak level value s)) × (t ≡ map (selects_one level value) s);
}
