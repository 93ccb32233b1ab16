-- A field of several cards, under fates, exchange by exchange (ISO/IEC 14443-3, -4; cards, presence and fates are this project's own).
use Rattle.std.specs.Prelude.{ℕ, ◌+◌, ◌-◌, ◌^◌, ◌==◌, ◌&&◌, ◌||◌, min, nat_lt, Bool, true, false, if◌then◌else◌, List, [], ◌∷◌, ◌++◌, length, Option, Some, None}
use Rattle.std.specs.Str.{bytes_eq}
use Rattle.ep_base.specs.declared.air.Wave.{Wave}
use Rattle.ep_base.specs.declared.air.CardKind.TheVariants as kinds
use Rattle.ep_base.specs.Air.Heard.{Sent, Heard, Silence, Overlap, Frame, same_wave, CardHear, Mute, Sends, Opens, Passes}
use Rattle.ep_base.specs.Air.Medium.{ToldMedium}
use Rattle.ep_base.specs.Link.CardEnd.{is_halted, fresh_card}
use Rattle.ep_base.specs.Cards.CardAnswer.{Image, deselected}
use Rattle.ep_base.specs.Cards.TypeA.{APlan, AState, Idle, Halted, a_card}
use Rattle.ep_base.specs.Cards.TypeB.{BPlan, BState, BIdle, b_card}
use Rattle.ep_base.specs.Air.Fates.{Way, Fate, Air, next_fate, later}
use Rattle.ep_base.specs.Air.Fates as ways
use Rattle.ep_base.specs.Link.Wire.{Party, Heeded, takes_frame, comes_down, comes_back}
use Rattle.ep_base.specs.declared.limits.TheConstants.{FRAME}

-- An end of a link where there is none (this project's own).
abbrev pub no_party : Party
no_party = record {
  kind = kinds.A;
  fsd = FRAME;
  card = fresh_card;
  image = record { number = 0; ppse = record { list = []; used = 0 }; apps = []; selected = None };
}

-- A card outside the block protocol: its plan, and where it stands (ISO/IEC 14443-3).
pub data Outside : Type 0 where
  OfA : (plan : APlan) (state : AState) → Outside
  OfB : (plan : BPlan) (state : BState) → Outside

-- Where the card stands after a frame, by its rules outside the block protocol (ISO/IEC 14443-3).
abbrev pub outside_after : Wave → List ℕ → Outside → Outside
outside_after wave bytes (OfA plan state) = OfA plan (a_card plan state wave bytes).0
outside_after wave bytes (OfB plan state) = OfB plan (b_card plan state wave bytes).0

-- What these rules make of the frame (ISO/IEC 14443-3).
abbrev pub outside_reply : Wave → List ℕ → Outside → CardHear
outside_reply wave bytes (OfA plan state) = (a_card plan state wave bytes).1
outside_reply wave bytes (OfB plan state) = (b_card plan state wave bytes).1

-- After a reset of the field every card is idle (this project's profile).
abbrev pub outside_reset : Outside → Outside
outside_reset (OfA plan state) = OfA plan Idle
outside_reset (OfB plan state) = OfB plan BIdle

-- After S(DESELECT) a Type A card is halted, and a Type B card is idle (this project's profile).
abbrev pub outside_halted : Outside → Outside
outside_halted (OfA plan state) = OfA plan Halted
outside_halted (OfB plan state) = OfB plan BIdle

-- A card of the field: whether it is present, what it is outside the block protocol, and its end of the link with its image, which count while it
-- is in the protocol (this project's own).
pub record Placed : Type 0 where
  pub present : Bool
  pub outside : Outside
  pub party : Party

-- A card after a frame, what it executed, and its answer (this project's own).
pub record CardAfter : Type 0 where
  pub card : Placed
  pub executed : List (ℕ × List ℕ)
  pub answer : Option Sent

-- A card that does nothing (this project's own).
abbrev pub untouched : Placed → CardAfter
untouched p = record { card = p; executed = []; answer = None }

-- In the block protocol: S(DESELECT) ends it (ISO/IEC 14443-4).
abbrev pub by_link : Placed → Heeded → CardAfter
by_link p h = record {
  card = record { present = p.present; outside = (if is_halted h.party.card then outside_halted p.outside else p.outside); party = h.party };
  executed = h.executed;
  answer = h.answer;
}

-- A link that was just opened: with the reader's frame size, and nothing sent yet (ISO/IEC 14443-4).
abbrev pub opens_link : Party → ℕ → Party
opens_link p fsd = record { kind = p.kind; fsd = fsd; card = fresh_card; image = p.image }

-- What a card does with a frame, by the reply of its rules outside the block protocol (ISO/IEC 14443-3, -4).
abbrev pub by_reply : Placed → Outside → Wave → List ℕ → CardHear → CardAfter
by_reply p outside wave bytes Mute = record { card = record { present = p.present; outside = outside; party = p.party }; executed = []; answer = None }
by_reply p outside wave bytes (Sends f) = record { card = record { present = p.present; outside = outside; party = p.party }; executed = []; answer = Some f }
by_reply p outside wave bytes (Opens f fsd) =
    record { card = record { present = p.present; outside = outside; party = opens_link p.party fsd }; executed = []; answer = Some f }
by_reply p outside wave bytes Passes = by_link p (takes_frame p.party wave bytes)

-- A present card hears a frame (ISO/IEC 14443-3, -4).
abbrev pub hears_frame : Placed → Wave → List ℕ → CardAfter
hears_frame p wave bytes = by_reply p (outside_after wave bytes p.outside) wave bytes (outside_reply wave bytes p.outside)

-- A card hears a frame where it is present and the log has a free record at that moment (this project's own).
abbrev pub one_hears : ℕ → Wave → List ℕ → List (ℕ × List ℕ) → Placed → CardAfter
one_hears room wave bytes log p = if p.present && nat_lt (length log) room then hears_frame p wave bytes else untouched p

-- The cards after a frame, the log then, and what each of them sent, in the order of their numbers (this project's own).
pub record CardsHeard : Type 0 where
  pub cards : List Placed
  pub log : List (ℕ × List ℕ)
  pub answers : List Sent

-- A card's answer, where it gives one, before those of the others (this project's own).
abbrev pub maybe_answer : Option Sent → List Sent → List Sent
maybe_answer None fs = fs
maybe_answer (Some f) fs = f ∷ fs

-- One card, and then the others (this project's own).
abbrev pub and_then : CardAfter → CardsHeard → CardsHeard
and_then t h = record { cards = t.card ∷ h.cards; log = h.log; answers = maybe_answer t.answer h.answers }

-- The cards hear the frame one after another (this project's own).
abbrev pub all_hear : ℕ → Wave → List ℕ → List (ℕ × List ℕ) → List Placed → CardsHeard
all_hear room wave bytes log [] = record { cards = []; log = log; answers = [] }
all_hear room wave bytes log (p ∷ ps) =
    and_then (one_hears room wave bytes log p) (all_hear room wave bytes (log ++ (one_hears room wave bytes log p).executed) ps)

-- Whether two frames are the same (this project's own).
abbrev pub same_frame : Sent → Sent → Bool
same_frame f g = same_wave f.wave g.wave && bytes_eq f.bytes g.bytes

-- Whether all of these frames are the same as this one (this project's own).
abbrev pub all_same : Sent → List Sent → Bool
all_same f [] = true
all_same f (g ∷ gs) = same_frame f g && all_same f gs

-- No answer is silence, equal answers are one frame, and different ones overlap (this project's own).
abbrev pub joined : List Sent → Heard
joined [] = Silence
joined (f ∷ fs) = if all_same f fs then Frame f.wave f.bytes else Overlap

-- The cards once all of them have left (this project's own).
abbrev pub left_by : List Placed → List Placed
left_by [] = []
left_by (p ∷ ps) = record { present = false; outside = p.outside; party = p.party } ∷ left_by ps

-- Whether the cards leave with this fate (this project's own).
abbrev pub leaves : Way → Bool
leaves ways.Passes = false
leaves ways.Loses = false
leaves (ways.Bursts start mask) = false
leaves ways.Leaves = true

-- Whether the cards leave in an exchange of this fate (this project's own).
abbrev pub away : Fate → Bool
away f = leaves f.down || leaves f.up

-- A field: its cards by number from 1, the presence of the rounds to come, what becomes of the frames, what was executed with the room for it, and
-- how many rounds and exchanges were made, up to the end of a counter of 64 bits (this project's own).
pub record Field : Type 0 where
  pub cards : List Placed
  pub presence : List (List ℕ)
  pub air : Air
  pub log : List (ℕ × List ℕ)
  pub room : ℕ
  pub rounds : ℕ
  pub exchanges : ℕ

-- Whether a number is in a list (this project's own).
abbrev pub has_number : ℕ → List ℕ → Bool
has_number number [] = false
has_number number (n ∷ ns) = (number == n) || has_number number ns

-- Which cards are present in a round: none once they are gone, all of them without a list, else those of the list's next element (this project's own).
abbrev pub is_present : Bool → List (List ℕ) → ℕ → Bool
is_present true presence number = false
is_present false [] number = true
is_present false (p ∷ ps) number = has_number number p

-- The presence of the rounds after the next one: the last element holds for all of them (this project's own).
abbrev pub next_presence : List (List ℕ) → List (List ℕ)
next_presence [] = []
next_presence (p ∷ []) = p ∷ []
next_presence (p ∷ q ∷ ps) = q ∷ ps

-- A card in the next round: idle, in no link, and no application is selected (this project's own).
abbrev pub placed_reset : Bool → Placed → Placed
placed_reset present p = record {
  present = present;
  outside = outside_reset p.outside;
  party = record { kind = p.party.kind; fsd = p.party.fsd; card = fresh_card; image = deselected p.party.image };
}

-- All cards in the next round, from this number on (this project's own).
abbrev pub all_reset : Bool → List (List ℕ) → ℕ → List Placed → List Placed
all_reset gone presence number [] = []
all_reset gone presence number (p ∷ ps) = placed_reset (is_present gone presence number) p ∷ all_reset gone presence (number + 1) ps

-- The field in the next round (this project's own).
abbrev pub field_reset : Field → Field
field_reset f = record {
  cards = all_reset f.air.gone f.presence 1 f.cards;
  presence = next_presence f.presence;
  air = f.air;
  log = f.log;
  room = f.room;
  rounds = min (f.rounds + 1) (2 ^ 64 - 1);
  exchanges = f.exchanges;
}

-- What the cards do with a frame that came down, or with none (this project's own).
abbrev pub all_take : Field → Wave → Option (List ℕ) → CardsHeard
all_take f wave None = record { cards = f.cards; log = f.log; answers = [] }
all_take f wave (Some bytes) = all_hear f.room wave bytes f.log f.cards

-- What the cards do in the next exchange (this project's own).
abbrev pub field_hears : Field → Wave → List ℕ → CardsHeard
field_hears f wave bytes = all_take f wave (comes_down (next_fate f.air.fates).down wave bytes)

-- The field after an exchange in which the cards did this (this project's own).
abbrev pub field_after : Field → CardsHeard → Field
field_after f h = record {
  cards = (if away (next_fate f.air.fates) then left_by h.cards else h.cards);
  presence = f.presence;
  air = later f.air;
  log = h.log;
  room = f.room;
  rounds = f.rounds;
  exchanges = min (f.exchanges + 1) (2 ^ 64 - 1);
}

-- One exchange: the next fate, what the cards hear and send, and what the reader hears (this project's own).
abbrev pub field_send : Field → Wave → List ℕ → Option Heard × Field
field_send f wave bytes = (
  Some (comes_back (next_fate f.air.fates).up (joined (field_hears f wave bytes).answers)),
  field_after f (field_hears f wave bytes),
)

-- The field as a medium: it never fails (this project's own).
abbrev pub field : ToldMedium Field
field = record { reset = λ f. (true, field_reset f); send = λ f wave bytes wait. field_send f wave bytes }

-- A Type A card before the first reset of its field: it isn't present (this project's own).
abbrev pub placed_a : APlan → Image → Placed
placed_a plan image = record {
  present = false;
  outside = OfA plan Idle;
  party = record { kind = kinds.A; fsd = FRAME; card = fresh_card; image = image };
}

-- A Type B card before the first reset of its field (this project's own).
abbrev pub placed_b : BPlan → Image → Placed
placed_b plan image = record {
  present = false;
  outside = OfB plan BIdle;
  party = record { kind = kinds.B; fsd = FRAME; card = fresh_card; image = image };
}

-- A field that was just opened (this project's own).
abbrev pub new_field : List Placed → List (List ℕ) → List Fate → ℕ → Field
new_field cards presence fates room = record {
  cards = cards;
  presence = presence;
  air = record { fates = fates; gone = false };
  log = [];
  room = room;
  rounds = 0;
  exchanges = 0;
}
