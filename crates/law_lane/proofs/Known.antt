-- What is known of a field and its open link beside the perfect channel, after a poll round, a command and a closing.
use Rattle.std.proofs.Common.{◌≡◌, ℕ, ◌+◌, ◌-◌, ◌<◌, Bool, true, false, List, [], ◌∷◌, ◌++◌, length, refl, sym, ap, subst, ◌∙◌, arith, length-append, Option, Some, None}
use Rattle.std.proofs.lemmas.Bool.{and_parts}
use Rattle.ep_base.specs.declared.air.CardKind.{CardKind}
use Rattle.ep_base.specs.Air.Heard.{Activated, Heard, RoundEnd, Empty, Collision, Unsupported, Broken, Found, wave_of_kind}
use Rattle.ep_base.specs.Air.Frame.{sealed}
use Rattle.ep_base.specs.Link.Spelling.{spelled}
use Rattle.ep_base.specs.Link.Block.{Deselect}
use Rattle.ep_base.specs.Cards.Apdu.{is_command}
use Rattle.ep_rules.specs.EntryPoint.Talk.{is_found}
use Rattle.ep_base.specs.Cards.CardAnswer.{Image, card_answer}
use Rattle.ep_base.specs.Air.Medium.{told}
use Rattle.ep_base.specs.Poll.Polling.{Polled, Came, NoCard, PlaysRound, PlaysRounds}
use Rattle.ep_base.specs.Link.ReaderEnd.{Reader, ReaderTurn, Gives, Spends, begin}
use Rattle.ep_base.specs.Link.Carry.{SendsBlock, Follows, AtRest, OfLink, OnceSo}
use Rattle.ep_base.specs.Cards.Field.{Field, field, field_send}
use Rattle.ep_base.specs.Poll.Radio.{OpenLink, link_to}
use Rattle.ep_base.specs.Cards.Images.{Rules, stored}
use Rattle.ep_base.specs.Cards.Direct.{image_rules}
use Rattle.ep_rules.specs.EntryPoint.Perfect.{Channel, presents}
use Rattle.law_radio.proofs.Stored.{stored_at}
use Rattle.ep_base.specs.Cards.Lawful.{Lawful, faces}
use Rattle.ep_base.specs.Cards.LinkedField.{SameCards, are_fates, is_open, linked_at, party_at}
use Rattle.law_round.specs.Acting.{shown}
use Rattle.law_round.proofs.Lawfulness.{stays_lawful_law}
use Rattle.law_round.proofs.Polling.{polls_quietly_law}
use Rattle.law_round.proofs.Acting.{others_stay_law}
use Rattle.law_round.proofs.Carrying.{once_in_field_law, leaves_others_law, stays_ready_law}
use Rattle.law_round.proofs.Closing.{closes_quietly_law}
use Rattle.law_round.proofs.Lossless.{Passing, IsClear, round_passing, passing_block, command_clear, unspent_in_field}
use Rattle.ep_base.specs.Cards.Numbers.{numbers, AreDistinct, AreNumbered}
use Rattle.law_radio.proofs.Numbers.{number_stays}
use Rattle.law_radio.proofs.Cards.{AllImages, names_polled, numbers_polled, numbers_moved, numbered_again, found_number, images_polled, images_presented, images_moved, images_stay, image_at, none_selected}
use Rattle.law_radio.proofs.Opening.{arrives}
use Rattle.ep_claim.specs.Lanes.Standing.{link_by}

-- a field with an open link has the linked card
open_linked : (kind : CardKind) (n : ℕ) (f : Field) → is_open kind n f ≡ true → linked_at kind f.air.gone n f.cards ≡ true
open_linked kind n f e = (and_parts (linked_at kind f.air.gone n f.cards) (are_fates f.air.fates) e).0

-- a round is polling of one round
abbrev polled_by : RoundEnd → Polled
polled_by Empty = NoCard
polled_by Collision = NoCard
polled_by Unsupported = NoCard
polled_by Broken = NoCard
polled_by (Found card) = Came card

one_round : (fsdi : ℕ) (f g : Field) (e : RoundEnd) → PlaysRound (told field) fsdi f (Some e) g → PlaysRounds (told field) fsdi 1 f (e ∷ []) (polled_by e) g
unfolding PlaysRounds
one_round fsdi f g Empty x = (Some Empty, g, x, ([], refl, (refl, refl, refl)))
one_round fsdi f g Collision x = (Some Collision, g, x, ([], refl, (refl, refl, refl)))
one_round fsdi f g Unsupported x = (Some Unsupported, g, x, ([], refl, (refl, refl, refl)))
one_round fsdi f g Broken x = (Some Broken, g, x, ([], refl, (refl, refl, refl)))
one_round fsdi f g (Found card) x = (Some (Found card), g, x, (refl, refl, refl))

-- the channel after card k has answered as this image, and after a closing
abbrev pub answered_channel : Channel Image → ℕ → Image → List ℕ → Channel Image
answered_channel ch k i c = record { images = stored k (card_answer i c).1 ch.images; presented = Some k }

abbrev pub closed_channel : Channel Image → Channel Image
closed_channel ch = record { images = ch.images; presented = None }

abbrev pub one : (Activated → ℕ) → Rules Image
one number_of = image_rules number_of

-- Q stands for what makes every frame pass
module _ (number_of : Activated → ℕ) (Q : Type 0) where
  -- what is known of the field beside the channel's images, with this many commands to come
  pub record Knows (m : ℕ) (f : Field) (images : ℕ → Image) : Type 0 where
    pub lawful : Lawful f
    pub numbered : AreNumbered number_of f.cards
    pub distinct : AreDistinct (numbers f.cards)
    pub all : AllImages images (faces f.cards)
    pub room : length f.log + m < f.room
    pub pass : Q → Passing f

  -- the open link's card, which the channel presents
  pub record HasCard (m : ℕ) (f : Field) (ch : Channel Image) (l : OpenLink) : Type 0 where
    pub place : ℕ
    pub is : is_open l.set.kind place f ≡ true
    pub ready : 0 < m → OfLink l.set (shown place f) × AtRest l.reader (shown place f).party.card
    pub presented : ch.presented ≡ Some (party_at place f.cards).image.number
    pub image : ch.images (party_at place f.cards).image.number ≡ (party_at place f.cards).image
    pub there : Q → f.air.gone ≡ false

  -- a link is open where a card was found
  abbrev pub ByLink : ℕ → Bool → Field → Channel Image → Option OpenLink → Type 0
  ByLink m found f ch None = found ≡ false
  ByLink m found f ch (Some l) = HasCard m f ch l

  -- ---- a poll round

  knows_round : (m fsdi : ℕ) (f g : Field) (ch : Channel Image) (e : RoundEnd) → Knows m f ch.images → PlaysRound (told field) fsdi f (Some e) g → Knows m g ch.images
  knows_round m fsdi f g ch e k x =
      let quiet = polls_quietly_law fsdi 1 f g (e ∷ []) (polled_by e) k.lawful (one_round fsdi f g e x) in
      let same : SameCards f g = quiet.2 in
      record {
        lawful = quiet.1;
        numbered = numbered_again number_of f.cards g.cards (names_polled f.cards g.cards same.cards) (numbers_polled f.cards g.cards same.cards) k.numbered;
        distinct = subst (λ ns. AreDistinct ns) (sym (numbers_polled f.cards g.cards same.cards)) k.distinct;
        all = images_polled ch.images f.cards g.cards same.cards k.all;
        room = subst (λ r. length g.log + m < r) (sym same.room) (subst (λ (log : List (ℕ × List ℕ)). length log + m < f.room) (sym same.log) k.room);
        pass = λ q. round_passing fsdi f g (Some e) (k.pass q) x;
      }

  -- what a round leaves
  pub record AfterRound (m fsdi : ℕ) (f g : Field) (ch : Channel Image) (e : RoundEnd) : Type 0 where
    pub log : g.log ≡ f.log
    pub knows : Knows m g (presents (one number_of) ch e).images
    pub link : ByLink m (is_found e) g (presents (one number_of) ch e) (link_by fsdi e)

  card_there : (m fsdi : ℕ) (f g : Field) (card : Activated) (ch : Channel Image) → Knows m f ch.images → Knows m g ch.images → PlaysRound (told field) fsdi f (Some (Found card)) g
      → HasCard m g (presents (one number_of) ch (Found card)) (link_to fsdi card)
  card_there m fsdi f g card ch kf kg x =
      let a = arrives m fsdi 1 f g (Found card ∷ []) card kf.lawful (one_round fsdi f g (Found card) x) kf.room in
      let n = length a.before in
      let there : linked_at card.kind g.air.gone n g.cards ≡ true = open_linked card.kind n g a.is in
      let numbered = found_number number_of card a.before a.one a.after (subst (λ ps. AreNumbered number_of ps) a.cards kg.numbered) a.kind a.id in
      let number : number_of card ≡ (party_at n g.cards).image.number = numbered ∙ sym (ap (λ p. p.image.number) a.party) in
      record {
        place = n;
        is = a.is;
        ready = a.ready;
        presented = ap (λ (k : ℕ). Some k) number;
        image = image_at ch.images card.kind g.air.gone n g.cards there kg.all ∙ none_selected card.kind g.air.gone n f.cards g.cards there a.stay;
        there = λ q. a.there;
      }

  linked_after : (m fsdi : ℕ) (f g : Field) (ch : Channel Image) (e : RoundEnd) → Knows m f ch.images → Knows m g ch.images → PlaysRound (told field) fsdi f (Some e) g
      → ByLink m (is_found e) g (presents (one number_of) ch e) (link_by fsdi e)
  linked_after m fsdi f g ch Empty kf kg x = refl
  linked_after m fsdi f g ch Collision kf kg x = refl
  linked_after m fsdi f g ch Unsupported kf kg x = refl
  linked_after m fsdi f g ch Broken kf kg x = refl
  linked_after m fsdi f g ch (Found card) kf kg x = card_there m fsdi f g card ch kf kg x

  pub after_round : (m fsdi : ℕ) (f g : Field) (ch : Channel Image) (e : RoundEnd) → Knows m f ch.images → PlaysRound (told field) fsdi f (Some e) g → AfterRound m fsdi f g ch e
  after_round m fsdi f g ch e k x =
      let quiet = polls_quietly_law fsdi 1 f g (e ∷ []) (polled_by e) k.lawful (one_round fsdi f g e x) in
      let kg = knows_round m fsdi f g ch e k x in
      record {
        log = quiet.2.log;
        knows = record { lawful = kg.lawful; numbered = kg.numbered; distinct = kg.distinct; all = images_presented number_of ch e (faces g.cards) kg.all; room = kg.room; pass = kg.pass };
        link = linked_after m fsdi f g ch e k kg x;
      }

  -- ---- the closing of a link

  -- what a closing leaves
  pub record AfterClosing (m : ℕ) (f g : Field) (ch : Channel Image) : Type 0 where
    pub log : g.log ≡ f.log
    pub knows : Knows m g ch.images

  pub after_closing : (m : ℕ) (f g : Field) (ch : Channel Image) (l : OpenLink) (h : Heard) → Knows m f ch.images → HasCard m f ch l
      → SendsBlock (told field) l.set f Deselect (Some h) g → AfterClosing m f g ch
  after_closing m f g ch l h k b is =
      let n = b.place in
      let quiet = closes_quietly_law l.set n f g (Some h) b.is is in
      let stay = others_stay_law l.set n Deselect (Some h) f g b.is is in
      let e : field_send f (wave_of_kind l.set.kind) (sealed (wave_of_kind l.set.kind) (spelled Deselect)) ≡ (Some h, g) = is in
      let lawful : Lawful g =
      subst (λ (x : Option Heard × Field). Lawful x.1) e ((stays_lawful_law f k.lawful).1 (wave_of_kind l.set.kind) (sealed (wave_of_kind l.set.kind) (spelled Deselect))) in
      let room : f.room ≡ g.room = ap (λ (x : Option Heard × Field). x.1.room) e in
      let lf = open_linked l.set.kind n f b.is in
      let lg = open_linked l.set.kind n g quiet.2 in
      let same : numbers g.cards ≡ numbers f.cards =
      numbers_moved l.set.kind l.set.kind f.air.gone g.air.gone n f.cards g.cards lf lg stay.0 (ap (λ (i : Image). i.number) quiet.1) in
      record {
        log = quiet.0;
        knows = record {
          lawful = lawful;
          numbered = numbered_again number_of f.cards g.cards stay.1 same k.numbered;
          distinct = subst (λ ns. AreDistinct ns) (sym same) k.distinct;
          all = images_stay ch.images l.set.kind l.set.kind f.air.gone g.air.gone n f.cards g.cards lf lg stay.0 quiet.1 k.all;
          room = subst (λ r. length g.log + m < r) room (subst (λ (log : List (ℕ × List ℕ)). length log + m < f.room) (sym quiet.0) k.room);
          pass = λ q. passing_block l.set Deselect f g (Some h) (k.pass q) is;
        };
      }

  -- ---- a command

  module _ (c : List ℕ) (form : is_command c ≡ true) (m : ℕ) (some : 0 < m) (f g : Field) (ch : Channel Image) (l : OpenLink) (k : Knows m f ch.images) (b : HasCard m f ch l) where
    abbrev pub image_now : Image
    image_now = (party_at b.place f.cards).image

    abbrev pub response_now : List ℕ
    response_now = (card_answer image_now c).0.response

    pub once : (turn : ReaderTurn) (hs : List Heard) → Follows (told field) l.set hs (begin l.set.frames.card c l.reader) f turn g
        → OnceSo (shown b.place f) c turn (shown b.place g) × (is_open l.set.kind b.place g ≡ true)
    once turn hs follows = once_in_field_law l.set b.place f l.reader c hs turn g b.is (b.ready some).0 (b.ready some).1 form follows

    -- where Q holds it doesn't spend the link
    pub unspent : (r : Reader) (hs : List Heard) → Q → Follows (told field) l.set hs (begin l.set.frames.card c l.reader) f (Spends r) g → ⊥
    unspent r hs q follows = unspent_in_field l.set b.place f g l.reader c hs (Spends r) b.is (b.ready some).0 (b.ready some).1 form (b.there q, k.pass q) follows

    -- what a command that was answered leaves
    pub record AfterAnswer (a : List ℕ) (r : Reader) : Type 0 where
      pub said : a ≡ response_now
      pub log : g.log ≡ f.log ++ (image_now.number, c) ∷ []
      pub knows : Knows (m - 1) g (answered_channel ch image_now.number image_now c).images
      pub card : HasCard (m - 1) g (answered_channel ch image_now.number image_now c) (record { set = l.set; reader = r })

    pub after_answer : (a : List ℕ) (r : Reader) (hs : List Heard) → Follows (told field) l.set hs (begin l.set.frames.card c l.reader) f (Gives a r) g → AfterAnswer a r
    after_answer a r hs follows =
        let n = b.place in
        let i = image_now in
        let ready = b.ready some in
        let clear : Q → IsClear g = λ q. command_clear l.set n f g (begin l.set.frames.card c l.reader) hs (Gives a r) b.is (b.there q, k.pass q) follows in
        let o = once (Gives a r) hs follows in
        let said : a ≡ response_now = o.0.0 in
        let log : g.log ≡ f.log ++ (i.number, c) ∷ [] = o.0.1.log in
        let image : (party_at n g.cards).image ≡ (card_answer i c).1 = o.0.1.image in
        let same_room : g.room ≡ f.room = o.0.1.room in
        let left = leaves_others_law l.set n f g (begin l.set.frames.card c l.reader) hs (Gives a r) b.is k.lawful follows in
        let number : (card_answer i c).1.number ≡ i.number = number_stays i c in
        let now_number : (party_at n g.cards).image.number ≡ i.number = ap (λ (j : Image). j.number) image ∙ number in
        let lf = open_linked l.set.kind n f b.is in
        let lg = open_linked l.set.kind n g o.1 in
        let same : numbers g.cards ≡ numbers f.cards = numbers_moved l.set.kind l.set.kind f.air.gone g.air.gone n f.cards g.cards lf lg left.1 now_number in
        let size : length g.log ≡ length f.log + 1 = ap (λ (xs : List (ℕ × List ℕ)). length xs) log ∙ length-append f.log ((i.number, c) ∷ []) in
        let free : length f.log + m < f.room = k.room in
        let room : length g.log + (m - 1) < g.room = omega (arith, size, same_room, free, some) in
        record {
          said = said;
          log = log;
          knows = record {
            lawful = left.0;
            numbered = numbered_again number_of f.cards g.cards left.2 same k.numbered;
            distinct = subst (λ ns. AreDistinct ns) (sym same) k.distinct;
            all = images_moved l.set.kind l.set.kind f.air.gone g.air.gone i.number (card_answer i c).1 ch.images n f.cards g.cards lf lg left.1 refl number image k.distinct k.all;
            room = room;
            pass = λ q. (clear q).1;
          };
          card = record {
            place = n;
            is = o.1;
            ready = λ (y : 0 < m - 1). stays_ready_law l.set n f l.reader c hs a r g b.is ready.0 ready.1 form follows (omega (arith, room, y));
            presented = ap (λ (j : ℕ). Some j) (sym now_number);
            image = ap (λ j. stored i.number (card_answer i c).1 ch.images j) now_number ∙ (stored_at i.number (card_answer i c).1 ch.images ∙ sym image);
            there = λ q. (clear q).0;
          };
        }
