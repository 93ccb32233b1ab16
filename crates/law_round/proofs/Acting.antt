-- A field with an open link does as the wire of that link.
use Rattle.std.proofs.Common.{◌≡◌, ℕ, zero, suc, ◌+◌, ◌-◌, ◌^◌, nat_lt, le-leb, leb-true, ◌&&◌, ◌||◌, Bool, true, false, List, [], ◌∷◌, ◌++◌, length, Option, Some, None, sym, ap, ◌∙◌, subst, refl, append-nil, if◌then◌else◌}
use Rattle.std.specs.Prelude.{not, min}
use Rattle.std.proofs.lemmas.Bool.{and_parts}
use Rattle.ep_base.specs.declared.air.CardKind.{CardKind}
use Rattle.ep_base.specs.declared.air.CardKind.TheVariants as kinds
use Rattle.ep_base.specs.declared.air.Wave.{Wave}
use Rattle.ep_base.specs.Air.Frame.{sealed, opened}
use Rattle.ep_base.specs.Air.Heard.{Sent, Heard, same_kind, same_wave, wave_of_kind, CardHear, Passes}
use Rattle.ep_base.specs.Cards.TypeA.{Idle, Ready, Active, Protocol, Halted}
use Rattle.ep_base.specs.Cards.TypeB.{BIdle, BReady, BProtocol}
use Rattle.ep_base.specs.Link.Block.{Block, same}
use Rattle.ep_base.specs.Link.Spelling.{spelled}
use Rattle.ep_base.specs.Link.CardEnd.{is_halted}
use Rattle.ep_base.specs.Link.LinkFrames.{LinkSetting}
use Rattle.ep_base.specs.Air.Fates.{Way, Bursts, Leaves, IsWay, Fate, AreFates, next_fate, fates_after, gone_by}
use Rattle.ep_base.specs.Air.Fates as ways
use Rattle.ep_base.specs.Link.Wire.{Party, Heeded, unmoved, takes_opened, takes_frame, takes_down, aired, comes_down, comes_back, Wire, moved, wire_heeds, wire_send}
use Rattle.ep_base.specs.Cards.Field.{Outside, OfA, OfB, outside_after, outside_reply, outside_halted, outside_reset, Placed, CardAfter, untouched, by_link, by_reply, hears_frame, one_hears, CardsHeard, maybe_answer, and_then, all_hear, joined, left_by, leaves, away, Field, all_take, field_hears, field_after, field_send}
use Rattle.ep_base.specs.Cards.Inside.{is_inside, is_out, all_out}
use Rattle.ep_base.specs.Cards.Lawful.{kind_of, names, faces}
use Rattle.law_round.specs.Acting.{shown, OthersStay, FieldActs}
use Rattle.ep_base.specs.Cards.LinkedField.{is_way, are_fates, is_link, linked_at, is_open, party_at, without}
use Rattle.law_round.proofs.Presenting.{either}
use Rattle.law_round.proofs.Lawfulness.{frame_keeps, names_send}
use Rattle.law_round.proofs.Rounds.{faces_left}
use Rattle.law_round.proofs.Muteness.{IsBlock, card_keeps, still, skips, block_keeps, all_keep, comes_block}

-- ---- truths as statements

same_is : (a b : Bool) → same a b ≡ true → a ≡ b
same_is true true e = refl
same_is false false e = refl
same_is true false e = cc
same_is false true e = cc

same_itself : (a : Bool) → same a a ≡ true
same_itself true = refl
same_itself false = refl

kind_is : (a b : CardKind) → same_kind a b ≡ true → a ≡ b
kind_is kinds.A kinds.A e = refl
kind_is kinds.B kinds.B e = refl
kind_is kinds.A kinds.B e = cc
kind_is kinds.B kinds.A e = cc

kind_itself : (a : CardKind) → same_kind a a ≡ true
kind_itself kinds.A = refl
kind_itself kinds.B = refl

pub way_is : (l : Way) → is_way l ≡ true → IsWay l
way_is ways.Passes e = tt
way_is ways.Loses e = tt
way_is (Bursts start mask) e = leb-true _ _ e
way_is Leaves e = tt

way_truth : (l : Way) → IsWay l → is_way l ≡ true
way_truth ways.Passes e = refl
way_truth ways.Loses e = refl
way_truth (Bursts start mask) e = le-leb _ _ e
way_truth Leaves e = refl

pub fates_truth : (fates : List Fate) → AreFates fates → are_fates fates ≡ true
fates_truth [] e = refl
fates_truth (f ∷ fates) e = rw (way_truth f.down e.0, way_truth f.up e.1, fates_truth fates e.2) refl

pub next_down : (fates : List Fate) → are_fates fates ≡ true → IsWay (next_fate fates).down
next_down [] e = tt
next_down (f ∷ fates) e = way_is f.down (and_parts (is_way f.down) (is_way f.up && are_fates fates) e).0

next_are_fates : (fates : List Fate) → are_fates fates ≡ true → are_fates (fates_after fates) ≡ true
next_are_fates [] e = refl
next_are_fates (f ∷ fates) e = (and_parts (is_way f.up) (are_fates fates) (and_parts (is_way f.down) (is_way f.up && are_fates fates) e).1).1

abbrev pub Place : Bool → Outside → Type 0
Place halted o = (if halted then is_out o else is_inside o) ≡ true

-- the card that has the link
pub record Link (kind : CardKind) (gone : Bool) (p : Placed) : Type 0 where
  pub present : p.present ≡ not gone
  pub kind_same : p.party.kind ≡ kind
  pub outside : kind_of p.outside ≡ kind
  pub place : Place (is_halted p.party.card) p.outside

to_link : (kind : CardKind) (gone : Bool) (p : Placed) → is_link kind gone p ≡ true → Link kind gone p
to_link kind gone p e =
    let last = (if is_halted p.party.card then is_out p.outside else is_inside p.outside) in
    let a = and_parts (same p.present (not gone)) (same_kind p.party.kind kind && (same_kind (kind_of p.outside) kind && last)) e in
    let b = and_parts (same_kind p.party.kind kind) (same_kind (kind_of p.outside) kind && last) a.1 in
    let c = and_parts (same_kind (kind_of p.outside) kind) last b.1 in
    record { present = same_is p.present (not gone) a.0; kind_same = kind_is p.party.kind kind b.0; outside = kind_is (kind_of p.outside) kind c.0; place = c.1 }

pub from_link : (kind : CardKind) (gone : Bool) (p : Placed) → Link kind gone p → is_link kind gone p ≡ true
from_link kind gone p l =
    let a : same p.present (not gone) ≡ true = ap (λ x. same x (not gone)) l.present ∙ same_itself (not gone) in
    let b : same_kind p.party.kind kind ≡ true = ap (λ x. same_kind x kind) l.kind_same ∙ kind_itself kind in
    let c : same_kind (kind_of p.outside) kind ≡ true = ap (λ x. same_kind x kind) l.outside ∙ kind_itself kind in
    rw (a, b, c) l.place

-- ---- the linked card

passes_a : (kind : CardKind) (bytes : List ℕ) (o : Outside) → is_inside o ≡ true → kind_of o ≡ kind → outside_reply (wave_of_kind kind) bytes o ≡ Passes
passes_a kinds.A bytes (OfA p Protocol) i e = refl
passes_a kinds.B bytes (OfA p Protocol) i e = cc
passes_a kind bytes (OfA p Idle) i e = cc
passes_a kind bytes (OfA p (Ready n)) i e = cc
passes_a kind bytes (OfA p Active) i e = cc
passes_a kind bytes (OfA p Halted) i e = cc
passes_a kinds.B bytes (OfB p BProtocol) i e = refl
passes_a kinds.A bytes (OfB p BProtocol) i e = cc
passes_a kind bytes (OfB p BIdle) i e = cc
passes_a kind bytes (OfB p BReady) i e = cc

halted_out : (o : Outside) → is_out (outside_halted o) ≡ true
halted_out (OfA p s) = refl
halted_out (OfB p s) = refl

halted_kind : (o : Outside) → kind_of (outside_halted o) ≡ kind_of o
halted_kind (OfA p s) = refl
halted_kind (OfB p s) = refl

-- a card does what its end of the link does, and keeps the link
record Acts (kind : CardKind) (gone : Bool) (t : CardAfter) (e : Heeded) : Type 0 where
  party : t.card.party ≡ e.party
  executed : t.executed ≡ e.executed
  answer : t.answer ≡ e.answer
  link : Link kind gone t.card

rests : (kind : CardKind) (gone : Bool) (p : Placed) → Link kind gone p → Acts kind gone (untouched p) (unmoved p.party)
rests kind gone p l = record { party = refl; executed = refl; answer = refl; link = l }

placed_link : (halted : Bool) (o : Outside) → is_inside o ≡ true → Place halted (if halted then outside_halted o else o)
placed_link true o i = halted_out o
placed_link false o i = i

link_acts : (kind : CardKind) (gone : Bool) (p : Placed) (h : Heeded) → Link kind gone p → is_inside p.outside ≡ true → h.party.kind ≡ p.party.kind → Acts kind gone (by_link p h) h
link_acts kind gone p h l i same_party = record {
  party = refl;
  executed = refl;
  answer = refl;
  link = record {
    present = l.present;
    kind_same = same_party ∙ l.kind_same;
    outside = either (λ o. kind_of o ≡ kind) (is_halted h.party.card) (outside_halted p.outside) p.outside (halted_kind p.outside ∙ l.outside) l.outside;
    place = placed_link (is_halted h.party.card) p.outside i;
  };
}

skip_last : (a : Bool) (x y : Heeded) → (if a && false then x else y) ≡ y
skip_last true x y = refl
skip_last false x y = refl

module _ (kind : CardKind) (gone : Bool) (bytes : List ℕ) (block : IsBlock (opened (wave_of_kind kind) bytes)) where
  by_halted : (p : Placed) (halted : Bool) → is_halted p.party.card ≡ halted → Link kind gone p → Acts kind gone (hears_frame p (wave_of_kind kind) bytes) (takes_frame p.party (wave_of_kind kind) bytes)
  by_halted p true e l =
      let out : is_out p.outside ≡ true = subst (λ x. Place x p.outside) e l.place in
      let k = card_keeps kind bytes p.outside block out in
      let silent : takes_frame p.party (wave_of_kind kind) bytes ≡ unmoved p.party =
      ap (λ x. if same_wave (wave_of_kind kind) (wave_of_kind p.party.kind) && not x then takes_opened p.party (opened (wave_of_kind kind) bytes) else unmoved p.party) e
      ∙ skip_last (same_wave (wave_of_kind kind) (wave_of_kind p.party.kind)) (takes_opened p.party (opened (wave_of_kind kind) bytes)) (unmoved p.party) in
      subst (λ (t : CardAfter). Acts kind gone t (takes_frame p.party (wave_of_kind kind) bytes)) (sym (still (wave_of_kind kind) bytes p k.0 k.1))
      (subst (λ (h : Heeded). Acts kind gone (untouched p) h) (sym silent) (rests kind gone p l))
  by_halted p false e l =
      let inside : is_inside p.outside ≡ true = subst (λ x. Place x p.outside) e l.place in
      let passes = passes_a kind bytes p.outside inside l.outside in
      let h = takes_frame p.party (wave_of_kind kind) bytes in
      let keeps = frame_keeps p.party (wave_of_kind kind) bytes in
      subst (λ (r : CardHear). Acts kind gone (by_reply p (outside_after (wave_of_kind kind) bytes p.outside) (wave_of_kind kind) bytes r) h) (sym passes)
      (link_acts kind gone p h l inside keeps.kind)

  by_free : (p : Placed) (free : Bool) → Link kind gone p
      → Acts kind gone (if free then hears_frame p (wave_of_kind kind) bytes else untouched p) (if free then takes_frame p.party (wave_of_kind kind) bytes else unmoved p.party)
  by_free p true l = by_halted p (is_halted p.party.card) refl l
  by_free p false l = rests kind gone p l

  one_acts : (room : ℕ) (log : List (ℕ × List ℕ)) (p : Placed) → Link kind gone p
      → Acts kind gone (one_hears room (wave_of_kind kind) bytes log p) (if not gone && nat_lt (length log) room then takes_frame p.party (wave_of_kind kind) bytes else unmoved p.party)
  one_acts room log p l =
      subst (λ x. Acts kind gone (if x && nat_lt (length log) room then hears_frame p (wave_of_kind kind) bytes else untouched p) (if not gone && nat_lt (length log) room then takes_frame p.party (wave_of_kind kind) bytes else unmoved p.party))
      (sym l.present) (by_free p (not gone && nat_lt (length log) room) l)

  -- ---- all cards

  record AllAct (n : ℕ) (before : List (ℕ × List ℕ)) (ps : List Placed) (h : CardsHeard) (e : Heeded) : Type 0 where
    party : party_at n h.cards ≡ e.party
    log : h.log ≡ before ++ e.executed
    answers : h.answers ≡ maybe_answer e.answer []
    linked : linked_at kind gone n h.cards ≡ true
    others : without n h.cards ≡ without n ps

  first_acts : (log : List (ℕ × List ℕ)) (p : Placed) (ps : List Placed) (t : CardAfter) (e : Heeded) → Acts kind gone t e → all_out ps ≡ true
      → AllAct zero log (p ∷ ps) (and_then t (record { cards = ps; log = log ++ t.executed; answers = [] })) e
  first_acts log p ps t e a out =
      let is : is_link kind gone t.card ≡ true = from_link kind gone t.card a.link in
      record {
        party = a.party;
        log = ap (λ x. log ++ x) a.executed;
        answers = ap (λ x. maybe_answer x []) a.answer;
        linked = rw (is, out) refl;
        others = refl;
      }

  all_act : (n : ℕ) (room : ℕ) (log : List (ℕ × List ℕ)) (ps : List Placed) → linked_at kind gone n ps ≡ true
      → AllAct n log ps (all_hear room (wave_of_kind kind) bytes log ps) (if not gone && nat_lt (length log) room then takes_frame (party_at n ps) (wave_of_kind kind) bytes else unmoved (party_at n ps))
  all_act n room log [] l = cc
  all_act zero room log (p ∷ ps) l =
      let parts = and_parts (is_link kind gone p) (all_out ps) l in
      let t = one_hears room (wave_of_kind kind) bytes log p in
      let e = (if not gone && nat_lt (length log) room then takes_frame p.party (wave_of_kind kind) bytes else unmoved p.party) in
      subst (λ (h : CardsHeard). AllAct zero log (p ∷ ps) (and_then t h) e) (sym (all_keep kind bytes room (log ++ t.executed) ps block parts.1))
      (first_acts log p ps t e (one_acts room log p (to_link kind gone p parts.0)) parts.1)
  all_act (suc n) room log (p ∷ ps) l =
      let parts = and_parts (is_out p.outside) (linked_at kind gone n ps) l in
      let x = all_act n room log ps parts.1 in
      let e = (if not gone && nat_lt (length log) room then takes_frame (party_at n ps) (wave_of_kind kind) bytes else unmoved (party_at n ps)) in
      subst (λ (h : CardsHeard). AllAct (suc n) log (p ∷ ps) h e) (sym (skips room (wave_of_kind kind) bytes log p ps (block_keeps kind bytes room log p block parts.0)))
      (record { party = x.party; log = x.log; answers = x.answers; linked = rw (parts.0, x.linked) refl; others = ap (λ l. p ∷ l) x.others })

-- ---- one exchange

left_out : (ps : List Placed) → all_out (left_by ps) ≡ all_out ps
left_out [] = refl
left_out (p ∷ ps) = ap (λ b. is_out p.outside && b) (left_out ps)

left_link : (kind : CardKind) (gone : Bool) (p : Placed) → Link kind gone p → is_link kind true (record { present = false; outside = p.outside; party = p.party }) ≡ true
left_link kind gone p l = from_link kind true (record { present = false; outside = p.outside; party = p.party }) (record { present = refl; kind_same = l.kind_same; outside = l.outside; place = l.place })

left_linked : (kind : CardKind) (gone : Bool) (n : ℕ) (ps : List Placed) → linked_at kind gone n ps ≡ true → linked_at kind true n (left_by ps) ≡ true
left_linked kind gone n [] l = cc
left_linked kind gone zero (p ∷ ps) l =
    let parts = and_parts (is_link kind gone p) (all_out ps) l in
    let first = left_link kind gone p (to_link kind gone p parts.0) in
    let rest : all_out (left_by ps) ≡ true = left_out ps ∙ parts.1 in
    rw (first, rest) refl
left_linked kind gone (suc n) (p ∷ ps) l =
    let parts = and_parts (is_out p.outside) (linked_at kind gone n ps) l in
    let rest = left_linked kind gone n ps parts.1 in
    rw (parts.0, rest) refl

left_party : (n : ℕ) (ps : List Placed) → party_at n (left_by ps) ≡ party_at n ps
left_party n [] = refl
left_party zero (p ∷ ps) = refl
left_party (suc n) (p ∷ ps) = left_party n ps

party_after : (n : ℕ) (gone : Bool) (ps : List Placed) → party_at n (if gone then left_by ps else ps) ≡ party_at n ps
party_after n true ps = left_party n ps
party_after n false ps = refl

linked_after : (kind : CardKind) (gone : Bool) (n : ℕ) (d u : Way) (ps : List Placed) → linked_at kind gone n ps ≡ true
    → linked_at kind (gone_by (gone_by gone d) u) n (if leaves d || leaves u then left_by ps else ps) ≡ true
linked_after kind true n d u ps l = either (λ qs. linked_at kind true n qs ≡ true) (leaves d || leaves u) (left_by ps) ps (left_linked kind true n ps l) l
linked_after kind false n Leaves u ps l = left_linked kind false n ps l
linked_after kind false n ways.Passes Leaves ps l = left_linked kind false n ps l
linked_after kind false n ways.Passes ways.Passes ps l = l
linked_after kind false n ways.Passes ways.Loses ps l = l
linked_after kind false n ways.Passes (Bursts start mask) ps l = l
linked_after kind false n ways.Loses Leaves ps l = left_linked kind false n ps l
linked_after kind false n ways.Loses ways.Passes ps l = l
linked_after kind false n ways.Loses ways.Loses ps l = l
linked_after kind false n ways.Loses (Bursts start mask) ps l = l
linked_after kind false n (Bursts start mask) Leaves ps l = left_linked kind false n ps l
linked_after kind false n (Bursts start mask) ways.Passes ps l = l
linked_after kind false n (Bursts start mask) ways.Loses ps l = l
linked_after kind false n (Bursts start mask) (Bursts from other) ps l = l

left_others : (n : ℕ) (ps : List Placed) → faces (without n (left_by ps)) ≡ faces (without n ps)
left_others n [] = refl
left_others zero (p ∷ ps) = faces_left ps
left_others (suc n) (p ∷ ps) = ap (λ l. record { plan = outside_reset p.outside; kind = p.party.kind; image = p.party.image } ∷ l) (left_others n ps)

others_after : (n : ℕ) (gone : Bool) (ps : List Placed) → faces (without n (if gone then left_by ps else ps)) ≡ faces (without n ps)
others_after n true ps = left_others n ps
others_after n false ps = refl

one_aired : (a : Option Sent) → joined (maybe_answer a []) ≡ aired a
one_aired None = refl
one_aired (Some f) = refl

module _ (set : LinkSetting) (n : ℕ) (b : Block) (f : Field) (good : is_open set.kind n f ≡ true) where
  abbrev wave : Wave
  wave = wave_of_kind set.kind

  abbrev frame : List ℕ
  frame = sealed wave (spelled b)

  linked : linked_at set.kind f.air.gone n f.cards ≡ true
  linked = (and_parts (linked_at set.kind f.air.gone n f.cards) (are_fates f.air.fates) good).0

  exchange_fates : are_fates f.air.fates ≡ true
  exchange_fates = (and_parts (linked_at set.kind f.air.gone n f.cards) (are_fates f.air.fates) good).1

  abbrev there : Bool
  there = not f.air.gone && nat_lt (length f.log) f.room

  -- the same as all cards and as the end of the link
  record TakesSame (o : Option (List ℕ)) : Type 0 where
    party : party_at n (all_take f wave o).cards ≡ (takes_down (party_at n f.cards) wave (if there then o else None)).party
    log : (all_take f wave o).log ≡ f.log ++ (takes_down (party_at n f.cards) wave (if there then o else None)).executed
    answers : (all_take f wave o).answers ≡ maybe_answer (takes_down (party_at n f.cards) wave (if there then o else None)).answer []
    stays : linked_at set.kind f.air.gone n (all_take f wave o).cards ≡ true
    others : without n (all_take f wave o).cards ≡ without n f.cards

  none_or : (free : Bool) → takes_down (party_at n f.cards) wave (if free then None else None) ≡ unmoved (party_at n f.cards)
  none_or true = refl
  none_or false = refl

  some_or : (free : Bool) (bytes : List ℕ) → takes_down (party_at n f.cards) wave (if free then Some bytes else None) ≡ (if free then takes_frame (party_at n f.cards) wave bytes else unmoved (party_at n f.cards))
  some_or true bytes = refl
  some_or false bytes = refl

  takes_same : (o : Option (List ℕ)) → ((bytes : List ℕ) → o ≡ Some bytes → IsBlock (opened wave bytes)) → TakesSame o
  takes_same None block =
      let e = none_or there in
      record {
        party = sym (ap (λ (h : Heeded). h.party) e);
        log = sym (append-nil f.log) ∙ sym (ap (λ (h : Heeded). f.log ++ h.executed) e);
        answers = sym (ap (λ (h : Heeded). maybe_answer h.answer []) e);
        stays = linked;
        others = refl;
      }
  takes_same (Some bytes) block =
      let e = some_or there bytes in
      let x = all_act set.kind f.air.gone bytes (block bytes refl) n f.room f.log f.cards linked in
      record {
        party = x.party ∙ sym (ap (λ (h : Heeded). h.party) e);
        log = x.log ∙ sym (ap (λ (h : Heeded). f.log ++ h.executed) e);
        answers = x.answers ∙ sym (ap (λ (h : Heeded). maybe_answer h.answer []) e);
        stays = x.linked;
        others = x.others;
      }

  abbrev down : Option (List ℕ)
  down = comes_down (next_fate f.air.fates).down wave frame

  taken : TakesSame down
  taken = takes_same down (λ bytes e. comes_block set.kind b (next_fate f.air.fates).down bytes (next_down f.air.fates exchange_fates) e)

  abbrev heeded : Heeded
  heeded = wire_heeds (shown n f) wave frame

  abbrev cards_heard : CardsHeard
  cards_heard = field_hears f wave frame

  same_heard : comes_back (next_fate f.air.fates).up (aired heeded.answer) ≡ comes_back (next_fate f.air.fates).up (joined cards_heard.answers)
  same_heard =
      sym (ap (λ x. comes_back (next_fate f.air.fates).up (joined x)) taken.answers ∙ ap (λ x. comes_back (next_fate f.air.fates).up x) (one_aired heeded.answer))

  same_party : party_at n (if away (next_fate f.air.fates) then left_by cards_heard.cards else cards_heard.cards) ≡ heeded.party
  same_party = party_after n (away (next_fate f.air.fates)) cards_heard.cards ∙ taken.party

  abbrev wire_with : Party → List (ℕ × List ℕ) → Wire
  wire_with p l = record { party = p; log = l; room = f.room; air = ways.later f.air; exchanges = min (f.exchanges + 1) (2 ^ 64 - 1) }

  same_wire : moved (shown n f) heeded ≡ shown n (field_after f cards_heard)
  same_wire = ap (λ p. wire_with p (f.log ++ heeded.executed)) (sym same_party) ∙ ap (λ l. wire_with (party_at n (if away (next_fate f.air.fates) then left_by cards_heard.cards else cards_heard.cards)) l) (sym taken.log)

  pub acts_same : wire_send (shown n f) wave frame ≡ ((field_send f wave frame).0, shown n (field_send f wave frame).1)
  acts_same =
      ap (λ h. (Some h, moved (shown n f) heeded)) same_heard
      ∙ ap (λ (w : Wire). (Some (comes_back (next_fate f.air.fates).up (joined cards_heard.answers)), w)) same_wire

  pub stays_good : is_open set.kind n (field_send f wave frame).1 ≡ true
  stays_good =
      let first = linked_after set.kind f.air.gone n (next_fate f.air.fates).down (next_fate f.air.fates).up cards_heard.cards taken.stays in
      let rest = next_are_fates f.air.fates exchange_fates in
      rw (first, rest) refl

  pub others_same : faces (without n (field_send f wave frame).1.cards) ≡ faces (without n f.cards)
  others_same = others_after n (away (next_fate f.air.fates)) cards_heard.cards ∙ ap (λ ps. faces ps) taken.others

pub others_stay_law : OthersStay
others_stay_law set n b heard s t good sends =
    let e : field_send s (wave_of_kind set.kind) (sealed (wave_of_kind set.kind) (spelled b)) ≡ (heard, t) = sends in (
      subst (λ (x : Option Heard × Field). faces (without n x.1.cards) ≡ faces (without n s.cards)) e (others_same set n b s good),
      subst (λ (x : Option Heard × Field). names x.1.cards ≡ names s.cards) e (names_send s (wave_of_kind set.kind) (sealed (wave_of_kind set.kind) (spelled b))),
    )

pub field_acts_law : FieldActs
field_acts_law set n s b heard t good sends =
    let e : field_send s (wave_of_kind set.kind) (sealed (wave_of_kind set.kind) (spelled b)) ≡ (heard, t) = sends in (
      acts_same set n b s good ∙ ap (λ (x : Option Heard × Field). (x.0, shown n x.1)) e,
      subst (λ (x : Option Heard × Field). is_open set.kind n x.1 ≡ true) e (stays_good set n b s good),
    )
