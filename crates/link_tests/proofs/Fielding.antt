-- A reader at a field: what presentations, commands and closings leave.
use Rattle.std.proofs.Common.{◌≡◌, ℕ, zero, suc, ◌+◌, ◌≤◌, Bool, true, false, is_some, IfOk, List, [], ◌∷◌, ◌++◌, length, Option, Some, None, Result, Ok, Err, refl, sym, ap, ◌∙◌, subst}
use Rattle.std.proofs.lemmas.Bool.{and_parts}
use Rattle.ep_base.specs.declared.air.CardKind.{CardKind}
use Rattle.ep_base.specs.Link.Block.{Block, Deselect}
use Rattle.ep_base.specs.Cards.CardAnswer.{IsImage}
use Rattle.ep_base.specs.Link.CardEnd.{Card, is_halted}
use Rattle.ep_base.specs.Link.Carry.{SendsBlock, Follows, OfLink}
use Rattle.ep_base.specs.Link.Dialogue as dialogue
use Rattle.ep_base.specs.Cards.Field.{Placed, Field, field, field_send}
use Rattle.ep_base.specs.Air.Frame.{sealed}
use Rattle.ep_base.specs.Air.Heard.{Activated, Found, Heard, wave_of_kind}
use Rattle.ep_base.specs.Link.LinkFrames.{LinkSetting}
use Rattle.ep_base.specs.Air.Medium.{told}
use Rattle.ep_base.specs.Poll.Polling.{PlaysRound, Polled, Came, NoCard, Device}
use Rattle.ep_base.specs.Poll.Radio.{ClosesOver, LinkTransacts, OpenLink, Polls, Radio, RadioPresents, TransactsOver, link_to}
use Rattle.ep_base.specs.Link.ReaderEnd.{Reader, ReaderTurn, Gives, Spends, Breaks, asked, begin}
use Rattle.ep_base.specs.Link.Spelling.{spelled}
use Rattle.ep_base.specs.Poll.Transport.{PresentResult, Here, Nobody, Gone, Reply, Answered, Breached, Lost}
use Rattle.ep_base.specs.Poll.Transport as plain
use Rattle.ep_base.specs.Link.Wire.{Party}
use Rattle.block_reader.specs.Stands.{held}
use Rattle.block_reader.specs.declared.reader_end.ReaderEnd.{ReaderEnd}
use Rattle.link.specs.Answers.{presentation_of}
use Rattle.link.specs.declared.transport.Presented.{Presented}
use Rattle.link.specs.declared.transport.PresentEnd.{PresentEnd}
use Rattle.link.specs.declared.transport.PresentEnd.TheVariants as present
use Rattle.law_round.specs.Acting.{shown}
use Rattle.ep_base.specs.Cards.LinkedField.{is_link, linked_at, are_fates, is_open, party_at, HasLink, SameCards}
use Rattle.ep_base.specs.Cards.Inside.{is_out}
use Rattle.ep_base.specs.Cards.Lawful.{ArePlaced, Lawful}
use Rattle.ep_base.specs.declared.limits.TheConstants.{ROUNDS}
use Rattle.law_round.proofs.Acting.{Place, Link, from_link, fates_truth}
use Rattle.law_round.proofs.Carrying.{along, leaves_others_law}
use Rattle.law_round.proofs.Closing.{closes_quietly_law}
use Rattle.law_round.proofs.Lawfulness.{stays_lawful_law}
use Rattle.law_round.proofs.Linking.{links_one_law, keeps_cards_law}
use Rattle.law_round.proofs.Polling.{polls_quietly_law}
use Rattle.ep_base.proofs.Sizes.{frame_sized}
use Rattle.law_round.proofs.Sizing.{round_sized}
use Rattle.block_reader.specs.declared.ends.LinkEnd.{LinkEnd}
use Rattle.block_reader.specs.declared.ends.LinkEnd.TheVariants.{Spent, Breach}
use Rattle.block_reader.specs.declared.ends.LinkEnd.TheVariants as ending
use Rattle.link.specs.Heard.{AsHeard}
use Rattle.link.specs.Radio.{OverWire, link_of, open_link}
use Rattle.law_round.proofs.Readying.{at_rest, linked_there, party_there}
use Rattle.link_tests.specs.OneCommand.{IsLinked, IsUsable, LinksTo, OneCommand, OthersStay, closed_by}

-- ---- presentations

fresh_link : (fsdi : ℕ) (card : Activated) (one : Placed) → HasLink fsdi card one → Link card.kind false one
fresh_link fsdi card one h = record {
  present = h.present;
  kind_same = h.link_kind;
  outside = h.kind;
  place = subst (λ (c : Card). Place (is_halted c) one.outside) (sym h.fresh) h.inside;
}

pub opens : (fsdi : ℕ) (s t : Field) (card : Activated) → Lawful s → PlaysRound (told field) fsdi s (Some (Found card)) t → LinksTo fsdi card t
opens fsdi s t card l x =
    let y = links_one_law fsdi s t card l x in
    let kept = keeps_cards_law fsdi s t (Some (Found card)) l x in
    let n = length y.0 in
    let party : party_at n t.cards ≡ y.1.party = ap (λ ps. party_at n ps) y.3 ∙ party_there y.0 y.1 y.2 in
    let is_link_true : is_link card.kind false y.1 ≡ true = from_link card.kind false y.1 (fresh_link fsdi card y.1 y.4) in
    let linked : linked_at card.kind t.air.gone n t.cards ≡ true =
    ap (λ gone. linked_at card.kind gone n t.cards) y.7 ∙ ap (λ ps. linked_at card.kind false n ps) y.3 ∙ linked_there card.kind y.0 y.1 y.2 is_link_true y.5 y.6 in
    let exchange_fates : are_fates t.air.fates ≡ true = fates_truth t.air.fates kept.4.fates in
    let sized = frame_sized fsdi in
    let linked_card : IsLinked (link_to fsdi card) n t = record {
      is = rw (linked, exchange_fates) refl;
      kind = ap (λ (p : Party). p.kind) party ∙ y.4.link_kind;
      frame = ap (λ (p : Party). p.fsd) party ∙ y.4.frame;
      card_least = (round_sized (told field) fsdi s t card x).0;
      reader_least = sized.0;
      reader_most = sized.1;
      rest = at_rest (party_at n t.cards).card (ap (λ (p : Party). p.card) party ∙ y.4.fresh);
    } in
    (y.0, y.1, y.2, y.3, y.4, linked_card)

-- what polling leaves
record Polling (fsdi : ℕ) (s t : Field) (polled : Polled) : Type 0 where
  lawful : Lawful t
  same : SameCards s t
  ends : polled ≡ Device → ⊥

polling : (s t : Radio Field) (collided : Bool) (polled : Polled) → Lawful s.medium → Polls (told field) s collided polled t → Polling s.fsdi s.medium t.medium polled
polling s t collided polled l p =
    let q = polls_quietly_law s.fsdi ROUNDS s.medium t.medium p.ends polled l p.plays in
    record { lawful = q.1; same = q.2; ends = q.0 }

pub found : (s t : Radio Field) (collided : Bool) (card : Activated) → Lawful s.medium → RadioPresents (told field) s (Here collided card) t → LinksTo s.fsdi card t.medium
found s t collided card l x =
    let q = polls_quietly_law s.fsdi ROUNDS s.medium t.medium x.0.ends (Came card) l x.0.plays in
    opens s.fsdi q.3.0 t.medium card q.3.1 q.3.3

no_link : (t : Radio Field) (l : OpenLink) → t.link ≡ None → t.link ≡ Some l → ⊥
no_link t l none some = cc (none, some)

pub same_cards : (s t : Radio Field) (p : PresentResult) → Lawful s.medium → RadioPresents (told field) s p t → SameCards s.medium t.medium
same_cards s t (Here collided card) l x = (polling s t collided (Came card) l x.0).same
same_cards s t (Nobody collided) l x = (polling s t collided NoCard l x.0).same
same_cards s t Gone l x = (polling s t x.0.0 Device l x.0.1).same

pub never_gone : (s t : Radio Field) → Lawful s.medium → RadioPresents (told field) s Gone t → ⊥
never_gone s t l x = (polling s t x.0.0 Device l x.0.1).ends refl

linked_to : (s t : Radio Field) (card : Activated) → t.link ≡ Some (link_to s.fsdi card) → LinksTo s.fsdi card t.medium → (l : OpenLink) → t.link ≡ Some l → (n : ℕ) × IsLinked l n t.medium
linked_to s t card links y l is =
    let same : link_to s.fsdi card ≡ l = cc (links, is) in
    (length y.0, subst (λ (k : OpenLink). IsLinked k (length y.0) t.medium) same y.5)

pub still_usable : (s t : Radio Field) (p : PresentResult) → Lawful s.medium → RadioPresents (told field) s p t → IsUsable t
still_usable s t (Here collided card) l x =
    record { lawful = (polling s t collided (Came card) l x.0).lawful; linked = linked_to s t card x.1.links (found s t collided card l x) }
still_usable s t (Nobody collided) l x =
    record { lawful = (polling s t collided NoCard l x.0).lawful; linked = λ k is. absurd (no_link t k x.1.links is) }
still_usable s t Gone l x = absurd (never_gone s t l x)

pub same_reader : (s t : Radio Field) (p : PresentResult) → RadioPresents (told field) s p t → t.fsdi ≡ s.fsdi
same_reader s t (Here collided card) x = x.1.same
same_reader s t (Nobody collided) x = x.1.same
same_reader s t Gone x = x.1.same

pub no_device : (s t : Radio Field) (result : Result Presented PresentEnd) → Lawful s.medium → RadioPresents (told field) s (presentation_of result) t → result ≡ Err present.Device → ⊥
no_device s t result l x is = never_gone s t l (subst (λ (r : Result Presented PresentEnd). RadioPresents (told field) s (presentation_of r) t) is x)

pub card_linked : (s t : Radio Field) (result : Result Presented PresentEnd) → Lawful s.medium → RadioPresents (told field) s (presentation_of result) t
    → IfOk result (λ p. LinksTo s.fsdi p.card t.medium × (t.link ≡ Some (link_to s.fsdi p.card)))
card_linked s t (Ok p) l x = (found s t p.collision p.card l x, x.1.links)
card_linked s t (Err e) l x = tt

-- before the first presentation
pub new_usable : (s : Radio Field) (f : Field) → s.medium ≡ f → s.link ≡ None → Lawful f → IsUsable s
new_usable s f is none lawful =
    record { lawful = subst (λ (g : Field). Lawful g) (sym is) lawful; linked = λ k links. absurd (no_link s k none links) }

-- ---- commands

-- where a card is presented there is a link
pub some_link : (o : Option ReaderEnd) → is_some o ≡ true → (l : OpenLink) × (link_of o ≡ Some l)
some_link (Some e) is = (open_link (held e), refl)
some_link None is = cc is

image_at : (kind : CardKind) (gone : Bool) (n : ℕ) (ps : List Placed) → linked_at kind gone n ps ≡ true → ArePlaced ps → IsImage (party_at n ps).image
image_at kind gone n [] l d = cc l
image_at kind gone zero (p ∷ ps) l d = d.0.image
image_at kind gone (suc n) (p ∷ ps) l d = image_at kind gone n ps (and_parts (is_out p.outside) (linked_at kind gone n ps) l).1 d.1

pub of_link : (l : OpenLink) (n : ℕ) (f : Field) → IsLinked l n f → Lawful f → length f.log + 2 ≤ f.room → OfLink l.set (shown n f)
of_link l n f i lawful room = record {
  kind = i.kind;
  frame = i.frame;
  card_least = i.card_least;
  reader_least = i.reader_least;
  reader_most = i.reader_most;
  image = image_at l.set.kind f.air.gone n f.cards (and_parts (linked_at l.set.kind f.air.gone n f.cards) (are_fates f.air.fates) i.is).0 lawful.cards;
  fates = lawful.fates;
  room = room;
}

-- what hearings of the link leave
pub record Leaves (n : ℕ) (f t : Field) : Type 0 where
  pub lawful : Lawful t
  pub stay : OthersStay n f t

same_room : (set : LinkSetting) (s t : Field) (b : Block) (heard : Option Heard) → SendsBlock (told field) set s b heard t → t.room ≡ s.room
same_room set s t b heard sends =
    let e : field_send s (wave_of_kind set.kind) (sealed (wave_of_kind set.kind) (spelled b)) ≡ (heard, t) = sends in
    sym (ap (λ (x : Option Heard × Field). x.1.room) e)

leaves : (l : OpenLink) (n : ℕ) (f : Field) (r : Reader) (hs : List Heard) (turn : ReaderTurn) (t : Field) → is_open l.set.kind n f ≡ true → Lawful f → Follows (told field) l.set hs r f turn t → Leaves n f t
leaves l n f r hs turn t is lawful x =
    let y = leaves_others_law l.set n f t r hs turn is lawful x in
    let room : t.room ≡ f.room = along l.set n (λ u. u.room ≡ f.room) (λ u v b heard g sends p. same_room l.set u v b heard sends ∙ p) hs r f turn t is refl x in
    record { lawful = y.0; stay = record { others = y.1; named = y.2; room = room } }

never_none : (set : LinkSetting) (s t : Field) (b : Block) → SendsBlock (told field) set s b None t → ⊥
never_none set s t b sends =
    let e : field_send s (wave_of_kind set.kind) (sealed (wave_of_kind set.kind) (spelled b)) ≡ (None, t) = sends in
    cc (ap (λ (x : Option Heard × Field). x.0) e)

pub heard_leaves : (l : OpenLink) (n : ℕ) (f : Field) (command : List ℕ) (result : Result (List ℕ) LinkEnd) (link : Option OpenLink) (t : Field) → is_open l.set.kind n f ≡ true → Lawful f
    → AsHeard (told field) l command f result link t → Leaves n f t
heard_leaves l n f command (Ok response) link t is lawful x =
    leaves l n f (begin l.set.frames.card command l.reader) x.hearings (Gives response x.reader) t is lawful x.leads
heard_leaves l n f command (Err (Spent bad)) link t is lawful x =
    leaves l n f (begin l.set.frames.card command l.reader) x.hearings (Spends x.reader) t is lawful x.leads
heard_leaves l n f command (Err (Breach breach)) link t is lawful x =
    leaves l n f (begin l.set.frames.card command l.reader) (x.hearings ++ x.last ∷ []) (Breaks x.reader) t is lawful x.leads
heard_leaves l n f command (Err ending.Device) link t is lawful x = absurd (never_none l.set x.between t (asked x.reader) x.fails)

pub one_command : (l : OpenLink) (n : ℕ) (f : Field) (command : List ℕ) (result : Result (List ℕ) LinkEnd) (link : Option OpenLink) (t : Field) → IsLinked l n f
    → AsHeard (told field) l command f result link t → OverWire result l.set link (shown n f) command (shown n t) × (is_open l.set.kind n t ≡ true)
    → OneCommand result l.set n f command link t
one_command l n f command (Ok response) link t i heard x = record {
  own = x.0.0;
  image = x.0.1.image;
  logged = x.0.1.log;
  reader = x.0.2.reader;
  stays = x.0.2.stays;
  linked = record {
    is = x.1;
    kind = x.0.1.kind ∙ i.kind;
    frame = x.0.1.frame ∙ i.frame;
    card_least = i.card_least;
    reader_least = i.reader_least;
    reader_most = i.reader_most;
    rest = x.0.2.at_rest;
  };
}
one_command l n f command (Err (Spent bad)) link t i heard x = record { three = x.0.0; log = x.0.1; left = heard.left }
one_command l n f command (Err (Breach breach)) link t i heard x = absurd x.0
one_command l n f command (Err ending.Device) link t i heard x = absurd x.0

next_link : (set : LinkSetting) (n : ℕ) (reader : Reader) (link : Option OpenLink) (t : Field) → link ≡ Some (record { set = set; reader = reader }) → IsLinked (record { set = set; reader = reader }) n t
    → (k : OpenLink) → link ≡ Some k → (m : ℕ) × IsLinked k m t
next_link set n reader link t stays linked k is =
    let same : record { set = set; reader = reader } ≡ k = cc (stays, is) in
    (n, subst (λ (j : OpenLink). IsLinked j n t) same linked)

pub linked_after : (set : LinkSetting) (n : ℕ) (f : Field) (command : List ℕ) (result : Result (List ℕ) LinkEnd) (link : Option OpenLink) (t : Field) → OneCommand result set n f command link t
    → (k : OpenLink) → link ≡ Some k → (m : ℕ) × IsLinked k m t
linked_after set n f command (Ok response) link t x k is = next_link set n x.reader link t x.stays x.linked k is
linked_after set n f command (Err (Spent bad)) link t x k is = absurd (cc (x.left, is))
linked_after set n f command (Err (Breach breach)) link t x k is = absurd x
linked_after set n f command (Err ending.Device) link t x k is = absurd x

by_reply : (l : OpenLink) (s t : Radio Field) (command : List ℕ) (reply : Reply) → LinkTransacts (told field) l s command reply t → t.fsdi ≡ s.fsdi
by_reply l s t command (Answered response) x = x.2.same
by_reply l s t command plain.Spent x = x.2.same
by_reply l s t command Breached x = x.2.same
by_reply l s t command Lost x = x.4.same

pub command_reader : (link : Option OpenLink) (s t : Radio Field) (command : List ℕ) (reply : Reply) → TransactsOver (told field) link s command reply t → t.fsdi ≡ s.fsdi
command_reader (Some l) s t command reply x = by_reply l s t command reply x
command_reader None s t command reply x = absurd x

-- ---- closings

pub record IsClosed (l : OpenLink) (s t : Radio Field) : Type 0 where
  pub medium : t.medium ≡ closed_by l.set s.medium
  pub link : t.link ≡ None
  pub reader : t.fsdi ≡ s.fsdi

by_end : (l : OpenLink) (s t : Radio Field) (well : Bool) → ClosesOver (told field) (Some l) s well t → IsClosed l s t
by_end l s t true x =
    let e : field_send s.medium (wave_of_kind l.set.kind) (sealed (wave_of_kind l.set.kind) (spelled Deselect)) ≡ (Some x.0, t.medium) = x.1 in
    record { medium = sym (ap (λ (y : Option Heard × Field). y.1) e); link = x.2.links; reader = x.2.same }
by_end l s t false x = absurd (never_none l.set s.medium t.medium Deselect x.0)

pub closes : (link : Option OpenLink) (l : OpenLink) (s t : Radio Field) (well : Bool) → link ≡ Some l → ClosesOver (told field) link s well t → IsClosed l s t
closes link l s t well is x = by_end l s t well (subst (λ (k : Option OpenLink). ClosesOver (told field) k s well t) is x)

pub closed_usable : (l : OpenLink) (s t : Radio Field) → Lawful s.medium → IsClosed l s t → IsUsable t
closed_usable l s t lawful x = record {
  lawful = subst (λ (f : Field). Lawful f) (sym x.medium) ((stays_lawful_law s.medium lawful).1 (wave_of_kind l.set.kind) (sealed (wave_of_kind l.set.kind) (spelled Deselect)));
  linked = λ k is. absurd (no_link t k x.link is);
}

pub closed_quietly : (l : OpenLink) (n : ℕ) (s t : Radio Field) → is_open l.set.kind n s.medium ≡ true → IsClosed l s t → t.medium.log ≡ s.medium.log
closed_quietly l n s t is x =
    let heard = (field_send s.medium (wave_of_kind l.set.kind) (sealed (wave_of_kind l.set.kind) (spelled Deselect))).0 in
    let quiet = closes_quietly_law l.set n s.medium (closed_by l.set s.medium) heard is refl in
    ap (λ (f : Field). f.log) x.medium ∙ quiet.0
