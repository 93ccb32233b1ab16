-- A field stays lawful.
use Rattle.std.proofs.Common.{◌≡◌, ◌≢◌, ℕ, ◌+◌, ◌/◌, ◌≤◌, nat_eq, nat_lt, ◌&&◌, Bool, true, false, List, [], ◌∷◌, ◌++◌, length, take, drop, Option, Some, None, sym, ap, ◌∙◌, subst, refl, arith, if◌then◌else◌}
use Rattle.std.specs.Prelude.{not}
use Rattle.std.specs.Str.{bytes_eq}
use Rattle.std.proofs.lemmas.Bool.{eqb-false}
use Rattle.ep_base.specs.declared.air.CardKind.{CardKind}
use Rattle.ep_base.specs.declared.air.Wave.{Wave}
use Rattle.ep_base.specs.declared.air.Wave.TheVariants.{AShort, ABare, A}
use Rattle.ep_base.specs.Air.Frame.{opened}
use Rattle.ep_base.specs.Air.FrameSize.{frame_size}
use Rattle.ep_base.specs.Air.Heard.{Activated, framed, same_wave, wave_of_kind, CardHear, Mute, Sends, Opens, Passes}
use Rattle.ep_base.specs.Cards.Activation.{bit}
use Rattle.std.specs.Prelude.{slice_index}
use Rattle.ep_base.specs.Cards.TypeA.{APlan, AState, Idle, Ready, Active, Protocol, Halted, wupa, hlta, sel, levels, level_part, sak_of, ats_of, atqa, after_select, is_rats, a_select, a_other, a_takes, a_opened, a_card}
use Rattle.ep_base.specs.Cards.CardAnswer.{Answered, Image, IsImage, card_answer}
use Rattle.ep_base.specs.Link.CardEnd.{is_halted, card_hears, unlogged}
use Rattle.ep_base.specs.Cards.Images.{unasked, last_answer}
use Rattle.ep_base.specs.Cards.Direct.{image_rules}
use Rattle.ep_base.specs.Link.Spelling.{Read, Reads, Refuses, read_block}
use Rattle.ep_base.specs.Air.Fates.{next_fate}
use Rattle.ep_base.specs.Link.Wire.{Party, Heeded, unmoved, by_commands, image_after, takes_read, takes_opened, takes_frame, comes_down}
use Rattle.ep_base.specs.Cards.Field.{Outside, OfA, OfB, outside_after, outside_reply, outside_reset, outside_halted, Placed, CardAfter, untouched, by_reply, hears_frame, one_hears, all_hear, left_by, away, is_present, placed_reset, all_reset, Field, field_reset, all_take, field_hears, field_send}
use Rattle.law_wire.proofs.Limits.{images_keep}
use Rattle.law_wire.proofs.Passing.{next_ways}
use Rattle.ep_base.specs.Cards.Lawful.{IsUid, IsFormed, AtLevelOf, IsReachable, kind_of, id_of, IsPlaced, ArePlaced, names, AreApart, Lawful, BeginsLawful, StaysLawful}
use Rattle.law_round.proofs.Presenting.{either, when, one_level}

-- ---- where a card stands

next_level : (p : APlan) (n : ℕ) → 1 ≤ n → n ≤ levels p.uid → AtLevelOf p.uid (after_select p n)
next_level p n f l = when (AtLevelOf p.uid) (nat_eq n (levels p.uid)) Active (Ready (n + 1)) (λ e. tt) (λ e. let differs : n ≢ levels p.uid = eqb-false n (levels p.uid) e in (omega arith, omega (arith, differs)))

abbrev At : APlan → AState × CardHear → Type 0
At p x = AtLevelOf p.uid x.0

select_stands : (p : APlan) (n : ℕ) (part : List ℕ) → 1 ≤ n → n ≤ levels p.uid → At p (a_select p n part)
select_stands p n part f l = either (At p) (bytes_eq part (level_part p.uid n)) (after_select p n, Sends (framed A (sak_of p n ∷ []))) (Idle, Mute) (next_level p n f l) tt

other_stands : (p : APlan) (s : AState) (w : Wave) (m : List ℕ) → AtLevelOf p.uid s → At p (a_other p s w m)
other_stands p Idle w m h = tt
other_stands p Halted w m h = tt
other_stands p Protocol w m h = tt
other_stands p (Ready n) w m h =
    either (At p) (same_wave w ABare && bytes_eq m (sel n ∷ 0x20 ∷ [])) (Ready n, Sends (framed ABare (level_part p.uid n))) _ h
    (either (At p) (same_wave w A && bytes_eq (take 2 m) (sel n ∷ 0x70 ∷ [])) (a_select p n (drop 2 m)) (Ready n, Mute) (select_stands p n (drop 2 m) h.0 h.1) h)
other_stands p Active w m h =
    either (At p) (is_rats w m && (nat_eq (bit p.sak 32) 1)) (Protocol, Opens (framed A (ats_of p)) (frame_size (slice_index m 1 / 16))) (Active, Mute) tt tt

takes_stands : (p : APlan) (s : AState) (w : Wave) (m : List ℕ) → IsUid p.uid → AtLevelOf p.uid s → At p (a_takes p s w m)
unfolding a_takes
takes_stands p s w m u h =
    either (At p) (same_wave w AShort && bytes_eq m wupa) (Ready 1, Sends (framed ABare (atqa p.uid))) _ (omega arith, one_level p.uid u)
    (either (At p) (same_wave w A && bytes_eq m hlta) (Halted, Mute) (a_other p s w m) tt (other_stands p s w m h))

opened_stands : (p : APlan) (s : AState) (w : Wave) (o : Option (List ℕ)) → IsUid p.uid → AtLevelOf p.uid s → At p (a_opened p s w o)
opened_stands p s w None u h = h
opened_stands p s w (Some m) u h = takes_stands p s w m u h

card_stands : (p : APlan) (s : AState) (w : Wave) (b : List ℕ) → IsUid p.uid → AtLevelOf p.uid s → At p (a_card p s w b)
card_stands p Protocol w b u h = tt
card_stands p Idle w b u h = opened_stands p Idle w (opened w b) u h
card_stands p (Ready n) w b u h = opened_stands p (Ready n) w (opened w b) u h
card_stands p Active w b u h = opened_stands p Active w (opened w b) u h
card_stands p Halted w b u h = opened_stands p Halted w (opened w b) u h

stands_after : (w : Wave) (b : List ℕ) (o : Outside) → IsFormed o → IsReachable o → IsReachable (outside_after w b o)
stands_after w b (OfA p s) u h = card_stands p s w b u h
stands_after w b (OfB p s) u h = tt

formed_after : (w : Wave) (b : List ℕ) (o : Outside) → IsFormed o → IsFormed (outside_after w b o)
formed_after w b (OfA p s) u = u
formed_after w b (OfB p s) u = u

kind_after : (w : Wave) (b : List ℕ) (o : Outside) → kind_of (outside_after w b o) ≡ kind_of o
kind_after w b (OfA p s) = refl
kind_after w b (OfB p s) = refl

id_after : (w : Wave) (b : List ℕ) (o : Outside) → id_of (outside_after w b o) ≡ id_of o
id_after w b (OfA p s) = refl
id_after w b (OfB p s) = refl

-- ---- what a card is, whatever it does

-- one card outside the block protocol in place of another: the same card, where it can stand
record Moves (o : Outside) (x : Outside) : Type 0 where
  formed : IsFormed o → IsFormed x
  stands : IsFormed o → IsReachable o → IsReachable x
  kind : kind_of x ≡ kind_of o
  id : id_of x ≡ id_of o

stays_there : (o : Outside) → Moves o o
stays_there o = record { formed = λ f. f; stands = λ f s. s; kind = refl; id = refl }

moves_after : (w : Wave) (b : List ℕ) (o : Outside) → Moves o (outside_after w b o)
moves_after w b o = record { formed = formed_after w b o; stands = stands_after w b o; kind = kind_after w b o; id = id_after w b o }

moves_halted : (o : Outside) → Moves o (outside_halted o)
moves_halted (OfA p s) = record { formed = λ f. f; stands = λ f s. tt; kind = refl; id = refl }
moves_halted (OfB p s) = record { formed = λ f. f; stands = λ f s. tt; kind = refl; id = refl }

moves_reset : (o : Outside) → Moves o (outside_reset o)
moves_reset (OfA p s) = record { formed = λ f. f; stands = λ f s. tt; kind = refl; id = refl }
moves_reset (OfB p s) = record { formed = λ f. f; stands = λ f s. tt; kind = refl; id = refl }

-- one end of a link in place of another: the same kind, and an image within its limits
pub record Keeps (p : Party) (q : Party) : Type 0 where
  pub kind : q.kind ≡ p.kind
  pub image : IsImage p.image → IsImage q.image

same_party : (p : Party) → Keeps p p
same_party p = record { kind = refl; image = λ i. i }

answered_keeps : (f : Activated → ℕ) (n : ℕ) (a : Answered × Image) (xs : List (List ℕ)) → IsImage a.1 → IsImage (last_answer (image_rules f) n a xs).1
answered_keeps f n a [] i = i
answered_keeps f n a (x ∷ xs) i = answered_keeps f n (card_answer a.1 x) xs ((images_keep f).stays n a.1 x i)

image_keeps : (i : Image) (xs : List (List ℕ)) → IsImage i → IsImage (image_after i xs)
image_keeps i xs h = answered_keeps (λ card. i.number) i.number (unasked, i) xs h

read_keeps : (p : Party) (r : Read) → Keeps p (takes_read p r).party
read_keeps p (Reads b) = record { kind = refl; image = λ i. image_keeps p.image (card_hears p.fsd (by_commands p.image) (unlogged p.card) b).card.log i }
read_keeps p (Refuses fault) = same_party p

opened_keeps : (p : Party) (o : Option (List ℕ)) → Keeps p (takes_opened p o).party
opened_keeps p None = same_party p
opened_keeps p (Some m) = read_keeps p (read_block m)

pub frame_keeps : (p : Party) (w : Wave) (b : List ℕ) → Keeps p (takes_frame p w b).party
frame_keeps p w b =
    either (λ (h : Heeded). Keeps p h.party) (same_wave w (wave_of_kind p.kind) && not (is_halted p.card)) (takes_opened p (opened w b)) (unmoved p) (opened_keeps p (opened w b)) (same_party p)

-- a card of the field in place of another
record Replaces (p : Placed) (q : Placed) : Type 0 where
  outside : Moves p.outside q.outside
  party : Keeps p.party q.party

placed_by : (p q : Placed) → Replaces p q → IsPlaced p → IsPlaced q
placed_by p q r h = record {
  formed = r.outside.formed h.formed;
  stands = r.outside.stands h.formed h.stands;
  kind = r.party.kind ∙ h.kind ∙ sym r.outside.kind;
  image = r.party.image h.image;
}

reply_replaces : (p : Placed) (w : Wave) (b : List ℕ) (r : CardHear) → Replaces p (by_reply p (outside_after w b p.outside) w b r).card
reply_replaces p w b Mute = record { outside = moves_after w b p.outside; party = same_party p.party }
reply_replaces p w b (Sends f) = record { outside = moves_after w b p.outside; party = same_party p.party }
reply_replaces p w b (Opens f fsd) = record { outside = moves_after w b p.outside; party = record { kind = refl; image = λ i. i } }
reply_replaces p w b Passes = record {
  outside = either (Moves p.outside) (is_halted (takes_frame p.party w b).party.card) (outside_halted p.outside) p.outside (moves_halted p.outside) (stays_there p.outside);
  party = frame_keeps p.party w b;
}

one_replaces : (room : ℕ) (w : Wave) (b : List ℕ) (log : List (ℕ × List ℕ)) (p : Placed) → Replaces p (one_hears room w b log p).card
one_replaces room w b log p =
    either (λ (t : CardAfter). Replaces p t.card) (p.present && nat_lt (length log) room) (hears_frame p w b) (untouched p)
    (reply_replaces p w b (outside_reply w b p.outside)) (record { outside = stays_there p.outside; party = same_party p.party })

-- ---- all cards

abbrev Same : List Placed → List Placed → Type 0
Same ps qs = (ArePlaced ps → ArePlaced qs) × (names qs ≡ names ps)

name_kept : (p q : Placed) (ns : List (CardKind × List ℕ)) → Replaces p q → (kind_of q.outside, id_of q.outside) ∷ ns ≡ (kind_of p.outside, id_of p.outside) ∷ ns
name_kept p q ns r = ap (λ k. (k, id_of q.outside) ∷ ns) r.outside.kind ∙ ap (λ i. (kind_of p.outside, i) ∷ ns) r.outside.id

same_cons : (p q : Placed) (ps qs : List Placed) → Replaces p q → Same ps qs → Same (p ∷ ps) (q ∷ qs)
same_cons p q ps qs r s = (λ h. (placed_by p q r h.0, s.0 h.1), name_kept p q (names qs) r ∙ ap (λ ns. (kind_of p.outside, id_of p.outside) ∷ ns) s.1)

all_same_cards : (room : ℕ) (w : Wave) (b : List ℕ) (log : List (ℕ × List ℕ)) (ps : List Placed) → Same ps (all_hear room w b log ps).cards
all_same_cards room w b log [] = (λ h. h, refl)
all_same_cards room w b log (p ∷ ps) =
    same_cons p (one_hears room w b log p).card ps _ (one_replaces room w b log p) (all_same_cards room w b (log ++ (one_hears room w b log p).executed) ps)

taken_same : (f : Field) (w : Wave) (o : Option (List ℕ)) → Same f.cards (all_take f w o).cards
taken_same f w None = (λ h. h, refl)
taken_same f w (Some b) = all_same_cards f.room w b f.log f.cards

left_same : (ps : List Placed) → Same ps (left_by ps)
left_same [] = (λ h. h, refl)
left_same (p ∷ ps) = same_cons p (record { present = false; outside = p.outside; party = p.party }) ps (left_by ps) (record { outside = stays_there p.outside; party = same_party p.party }) (left_same ps)

same_chain : (ps qs rs : List Placed) → Same ps qs → Same qs rs → Same ps rs
same_chain ps qs rs a b = (λ h. b.0 (a.0 h), b.1 ∙ a.1)

after_same : (ps qs : List Placed) (gone : Bool) → Same ps qs → Same ps (if gone then left_by qs else qs)
after_same ps qs true s = same_chain ps qs (left_by qs) s (left_same qs)
after_same ps qs false s = s

reset_same : (gone : Bool) (presence : List (List ℕ)) (n : ℕ) (ps : List Placed) → Same ps (all_reset gone presence n ps)
reset_same gone presence n [] = (λ h. h, refl)
reset_same gone presence n (p ∷ ps) =
    same_cons p (placed_reset (is_present gone presence n) p) ps (all_reset gone presence (n + 1) ps)
    (record { outside = moves_reset p.outside; party = record { kind = refl; image = λ i. (images_keep (λ card. 0)).clears p.party.image i } })
    (reset_same gone presence (n + 1) ps)

pub lawful_reset : (f : Field) → Lawful f → Lawful (field_reset f)
lawful_reset f h =
    let s = reset_same f.air.gone f.presence 1 f.cards in
    record { cards = s.0 h.cards; apart = subst (λ ns. AreApart ns) (sym s.1) h.apart; fates = h.fates }

pub lawful_send : (f : Field) (w : Wave) (b : List ℕ) → Lawful f → Lawful (field_send f w b).1
lawful_send f w b h =
    let s = after_same f.cards (field_hears f w b).cards (away (next_fate f.air.fates)) (taken_same f w (comes_down (next_fate f.air.fates).down w b)) in
    record { cards = s.0 h.cards; apart = subst (λ ns. AreApart ns) (sym s.1) h.apart; fates = (next_ways f.air.fates h.fates).2 }

pub names_send : (f : Field) (w : Wave) (b : List ℕ) → names (field_send f w b).1.cards ≡ names f.cards
names_send f w b =
    (after_same f.cards (field_hears f w b).cards (away (next_fate f.air.fates)) (taken_same f w (comes_down (next_fate f.air.fates).down w b))).1

pub begins_lawful_law : BeginsLawful
begins_lawful_law = (
  λ plan image u i. record { formed = u; stands = tt; kind = refl; image = i },
  λ plan image u i. record { formed = u; stands = tt; kind = refl; image = i },
  λ cards presence fates room c a f. record { cards = c; apart = a; fates = f },
)

pub stays_lawful_law : StaysLawful
stays_lawful_law f h = (lawful_reset f h, λ w b. lawful_send f w b h)
