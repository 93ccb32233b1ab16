-- The induction over the hearings of a command.
use Rattle.std.proofs.Common.{◌≡◌, ◌⊎◌, ℕ, ◌-◌, ◌≤◌, Bool, true, false, List, [], ◌∷◌, ◌++◌, Option, Some, refl, sym, ap, ◌∙◌, subst, inl, inr, ⊎_elim, arith, append-nil, append_assoc, le-leb, length-append}
use Rattle.std.specs.Prelude.{◌+◌, ◌<◌, nat_lt, length, unwrap_or}
use Rattle.ep_base.specs.declared.air.CardKind.{CardKind}
use Rattle.ep_base.specs.Air.Heard.{Sent as SentData, Heard, Silence, wave_of_kind}
use Rattle.ep_base.specs.Air.Frame.{sealed}
use Rattle.ep_base.specs.Air.Medium.{told}
use Rattle.ep_base.specs.Air.Fates.{AreFates, AllPass, Way, next_fate, gone_by, later}
use Rattle.ep_base.specs.Cards.Apdu.{is_command}
use Rattle.ep_base.specs.Link.Block.{Block, ReadBlock, other, is_bad, count}
use Rattle.ep_base.specs.Link.Parts.{cut}
use Rattle.ep_base.specs.Cards.CardAnswer as Images
use Rattle.ep_base.specs.Cards.CardAnswer.{IsAnswer, card_answer}
use Rattle.ep_base.specs.Link.CardEnd.{CommandRules, Card, Answer, Parts, card_hears, is_halted, records, unlogged}
use Rattle.ep_base.specs.Link.ReaderEnd.{Reader, ReaderTurn, Asks, Gives, Spends, Breaks, Sending, asked, reader_hears, begin}
use Rattle.ep_base.specs.Link.OneLink.{goes_down, comes_up}
use Rattle.ep_base.specs.Link.Spelling.{spelled}
use Rattle.ep_base.specs.Link.LinkFrames.{LinkSetting, heard_block}
use Rattle.ep_base.specs.Link.Wire.{Heeded, Wire, wire, wire_heeds, moved, unmoved, answers_by, takes_block, maybe_frame, aired, comes_back, by_commands, image_after}
use Rattle.ep_base.specs.Link.Carry.{SendsBlock, FollowsOn, Follows, AtRest, OfLink, AtMostOnce, Executed, OnceSo, CarriedOnce}
use Rattle.law_link.specs.Once.{IsImage, AreFrames, IsIdle}
use Rattle.law_link.proofs.Exchange.{Place, Before, reader_at, card_at, Fine, Fits, GoodTurn, Keeps, log_at, taken, exchange, keeps}
use Rattle.law_link.proofs.Cutting.{cut_joins}
use Rattle.law_wire.proofs.Reading.{Sent, sent_block}
use Rattle.law_wire.proofs.Passing.{MaySend, went, down_law, up_law, next_ways, next_pass, takes_passed, hears_passed}
use Rattle.law_wire.proofs.Limits.{answer_is, linked_image}
use Rattle.law_wire.proofs.Imaging.{Shifted, shifted, after_after, number_after, records_append}
use Rattle.law_wire.proofs.Placing.{asked_sent, answer_sent}

-- the link wasn't spent
abbrev pub IsUnspent : ReaderTurn → Type 0
IsUnspent (Asks r) = Unit {0}
IsUnspent (Gives response r) = Unit {0}
IsUnspent (Spends r) = ⊥
IsUnspent (Breaks r) = Unit {0}

module _ (set : LinkSetting) (w0 : Wire) (of : OfLink set w0) where
  abbrev image0 : Images.Image
  image0 = w0.party.image

  abbrev image : CommandRules
  image = by_commands image0

  -- the wire, and the card as it is where its list of commands grows and its image stays
  record Shows (w : Wire) (c : Card) : Type 0 where
    end : w.party.card ≡ unlogged c
    state : w.party.image ≡ image_after image0 c.log
    recorded : w.log ≡ w0.log ++ records image0.number c.log
    kind : w.party.kind ≡ set.kind
    frame : w.party.fsd ≡ set.frames.reader
    room : w.room ≡ w0.room
    fates : AreFates w.air.fates
    unhalted : is_halted c ≡ false

  module _ (w : Wire) (card : Card) (shows : Shows w card) (b : Block) (is : Sent b) where
    abbrev by_list : Answer
    by_list = card_hears set.frames.reader image card b

    abbrev by_image : Answer
    by_image = card_hears set.frames.reader (by_commands (image_after image0 card.log)) (unlogged card) b

    both : Shifted card by_list by_image
    both = shifted set.frames.reader image0 card b is

    takes_is : takes_block w.party b ≡ answers_by w.party by_image
    takes_is =
        ap (λ (n : ℕ). answers_by w.party (card_hears n (by_commands w.party.image) (unlogged w.party.card) b)) shows.frame
        ∙ ap (λ (i : Images.Image). answers_by w.party (card_hears set.frames.reader (by_commands i) (unlogged w.party.card) b)) shows.state
        ∙ ap (λ (c : Card). answers_by w.party (card_hears set.frames.reader (by_commands (image_after image0 card.log)) (unlogged c) b)) shows.end

    number_is : w.party.image.number ≡ image0.number
    number_is = ap (λ (i : Images.Image). i.number) shows.state ∙ number_after image0 card.log

    -- the card has taken the block
    shows_taken : Shows (moved w (answers_by w.party by_image)) by_list.card
    shows_taken = record {
      end = both.card;
      state =
          ap (λ (i : Images.Image). image_after i by_image.card.log) shows.state
          ∙ after_after image0 card.log by_image.card.log
          ∙ ap (λ (l : List (List ℕ)). image_after image0 l) (sym both.log);
      recorded =
          ap (λ (l : List (ℕ × List ℕ)). l ++ records w.party.image.number by_image.card.log) shows.recorded
          ∙ ap (λ (n : ℕ). (w0.log ++ records image0.number card.log) ++ records n by_image.card.log) number_is
          ∙ append_assoc w0.log (records image0.number card.log) (records image0.number by_image.card.log)
          ∙ ap (λ (l : List (ℕ × List ℕ)). w0.log ++ l) (sym (records_append image0.number card.log by_image.card.log))
          ∙ ap (λ (l : List (List ℕ)). w0.log ++ records image0.number l) (sym both.log);
      kind = shows.kind;
      frame = shows.frame;
      room = shows.room;
      fates = (next_ways w.air.fates shows.fates).2;
      unhalted = both.unhalted shows.unhalted;
    }

    -- it hasn't
    shows_mute : Shows (moved w (unmoved w.party)) card
    shows_mute = record {
      end = shows.end;
      state = shows.state;
      recorded = append-nil w.log ∙ shows.recorded;
      kind = shows.kind;
      frame = shows.frame;
      room = shows.room;
      fates = (next_ways w.air.fates shows.fates).2;
      unhalted = shows.unhalted;
    }

    -- what the card does, by whether the frame came down
    record Done (h : Heeded) : Type 0 where
      down : Bool
      answer : h.answer ≡ maybe_frame set.kind (goes_down down set.frames image card b).block
      later : Shows (moved w h) (goes_down down set.frames image card b).card

    done : (d : Bool) → Done (went set.kind b d w.party)
    done true =
        subst Done (sym takes_is)
        (record {
          down = true;
          answer = ap (λ (k : CardKind). maybe_frame k by_image.block) shows.kind ∙ ap (λ (o : Option Block). maybe_frame set.kind o) both.block;
          later = shows_taken;
        })
    done false = record { down = false; answer = refl; later = shows_mute }

    may_send : MaySend set.frames.reader by_list.block → (d : Bool) → MaySend set.frames.reader (goes_down d set.frames image card b).block
    may_send may true = may
    may_send may false = tt

    record Exchanged (h : Heard) (u : Wire) : Type 0 where
      down : Bool
      up : Bool
      heard : heard_block set.kind set.frames.reader h ≡ comes_up up (goes_down down set.frames image card b).block
      later : Shows u (goes_down down set.frames image card b).card

    -- one exchange over the wire is one over the link
    one_exchange : MaySend set.frames.reader by_list.block → (h : Heard) (u : Wire) → SendsBlock (told wire) set w b (Some h) u → Exchanged h u
    one_exchange may h u e =
        let wave = wave_of_kind set.kind in
        let bytes = sealed (wave_of_kind set.kind) (spelled b) in
        let heeded : Heeded = wire_heeds w (wave_of_kind set.kind) (sealed (wave_of_kind set.kind) (spelled b)) in
        let down = down_law set.kind w b (sent_block b is) shows.fates in
        let done_it : Done heeded = subst Done (sym down.1) (done down.0) in
        let up = up_law set.kind set.frames.reader (goes_down done_it.down set.frames image card b).block (may_send may done_it.down) (next_fate w.air.fates).up (next_ways w.air.fates shows.fates).1 in
        let hearing : comes_back (next_fate w.air.fates).up (aired heeded.answer) ≡ h = ap (λ (p : Option Heard × Wire). unwrap_or p.0 Silence) e in
        let then : moved w heeded ≡ u = ap (λ (p : Option Heard × Wire). p.1) e in
        record {
          down = done_it.down;
          up = up.0;
          heard = ap (heard_block set.kind set.frames.reader) (sym hearing) ∙ ap (λ (a : Option SentData). heard_block set.kind set.frames.reader (comes_back (next_fate w.air.fates).up (aired a))) done_it.answer ∙ up.1;
          later = subst (λ (x : Wire). Shows x (goes_down done_it.down set.frames image card b).card) then done_it.later;
        }

    -- an exchange whose frames pass: the card takes the block, and the reader hears what it answers
    record Passed (h : Heard) (u : Wire) : Type 0 where
      heard : heard_block set.kind set.frames.reader h ≡ comes_up true by_list.block
      later : Shows u by_list.card
      gone : u.air.gone ≡ false
      fates : AllPass u.air.fates

    passed_exchange : MaySend set.frames.reader by_list.block → w.air.gone ≡ false → AllPass w.air.fates → nat_lt (length w.log) w.room ≡ true
        → (h : Heard) (u : Wire) → SendsBlock (told wire) set w b (Some h) u → Passed h u
    passed_exchange may here all free h u e =
        let pass = next_pass w.air.fates all in
        let heeded : Heeded = wire_heeds w (wave_of_kind set.kind) (sealed (wave_of_kind set.kind) (spelled b)) in
        let awake : is_halted w.party.card ≡ false = ap is_halted shows.end ∙ shows.unhalted in
        let took : heeded ≡ answers_by w.party by_image = takes_passed set.kind w b (sent_block b is) shows.kind awake here free pass.0 ∙ takes_is in
        let answer : heeded.answer ≡ maybe_frame set.kind by_list.block =
        ap (λ (x : Heeded). x.answer) took ∙ ap (λ (k : CardKind). maybe_frame k by_image.block) shows.kind ∙ ap (λ (o : Option Block). maybe_frame set.kind o) both.block in
        let hearing : comes_back (next_fate w.air.fates).up (aired heeded.answer) ≡ h = ap (λ (p : Option Heard × Wire). unwrap_or p.0 Silence) e in
        let then : moved w heeded ≡ u = ap (λ (p : Option Heard × Wire). p.1) e in
        let stays : (later w.air).gone ≡ false =
        ap (λ (gone : Bool). gone_by (gone_by gone (next_fate w.air.fates).down) (next_fate w.air.fates).up) here
        ∙ ap (λ (leg : Way). gone_by (gone_by false leg) (next_fate w.air.fates).up) pass.0 ∙ ap (λ (leg : Way). gone_by false leg) pass.1 in
        record {
          heard =
              ap (heard_block set.kind set.frames.reader) (sym hearing)
              ∙ ap (λ (leg : Way). heard_block set.kind set.frames.reader (comes_back leg (aired heeded.answer))) pass.1
              ∙ ap (λ (a : Option SentData). heard_block set.kind set.frames.reader (aired a)) answer
              ∙ hears_passed set.kind set.frames.reader by_list.block may;
          later = subst (λ (x : Wire). Shows x by_list.card) then (subst (λ (x : Heeded). Shows (moved w x) by_list.card) (sym took) shows_taken);
          gone = subst (λ (x : Wire). x.air.gone ≡ false) then stays;
          fates = subst (λ (x : Wire). AllPass x.air.fates) then pass.2;
        }

  module _ (command : List ℕ) (legal : is_command command ≡ true) where
    sized : AreFrames set.frames
    sized = record { card = of.card_least; reader = of.reader_least }

    linked : IsImage image
    linked = linked_image (λ card. image0.number) image0.number image0 of.image

    reply_is : IsAnswer (card_answer image0 command).0
    reply_is = answer_is image0 command of.image

    abbrev At : Bool → Place → List ReadBlock → Reader
    At m place s = reader_at set.frames image [] command m place s

    -- the records say what the card's list says
    at_most : (w : Wire) (card : Card) → Shows w card → (card.log ≡ []) ⊎ (card.log ≡ command ∷ []) → AtMostOnce w0 command w
    at_most w card shows logged =
        ⊎_elim
        (λ (e : card.log ≡ []). inl (shows.recorded ∙ ap (λ (l : List (List ℕ)). w0.log ++ records image0.number l) e ∙ append-nil w0.log))
        (λ (e : card.log ≡ command ∷ []). inr (shows.recorded ∙ ap (λ (l : List (List ℕ)). w0.log ++ records image0.number l) e))
        logged

    executed_so : (w : Wire) (card : Card) → Shows w card → card.log ≡ command ∷ [] → Executed w0 command w
    executed_so w card shows e = record {
      log = shows.recorded ∙ ap (λ (l : List (List ℕ)). w0.log ++ records image0.number l) e;
      image = shows.state ∙ ap (λ (l : List (List ℕ)). image_after image0 l) e;
      kind = shows.kind ∙ sym of.kind;
      frame = shows.frame ∙ sym of.frame;
      fates = shows.fates;
      room = shows.room;
    }

    at_rest : (r : Reader) (w : Wire) (card : Card) → Shows w card → IsIdle r card → AtRest r w.party.card
    at_rest r w card shows idle =
        subst (λ (c : Card). AtRest r c) (sym shows.end)
        (record {
          differ = idle.differ;
          closed = idle.closed;
          fresh = idle.fresh;
          none_taken = idle.none_taken;
          none_left = idle.none_left;
          none_logged = refl;
          unhalted = shows.unhalted;
        })

    -- an exchange from a place
    may_answer : (m : Bool) (place : Place) (s : List ReadBlock) → Fine set.frames image [] command place → Fits set.frames image [] command m place s
        → MaySend set.frames.reader (card_hears set.frames.reader image (card_at set.frames image [] command m place) (asked (At m place s))).block
    may_answer m place s fine fits =
        let t = taken set.frames image [] command linked legal m place s fine fits in
        subst (λ (a : Answer). MaySend set.frames.reader a.block) (sym t.is)
        (answer_sent set.frames image [] command sized linked reply_is.wtxm_least reply_is.wtxm_most m t.next s t.fine t.answers)

    Rest : List Heard → Type 0
    Rest hs = (m : Bool) (place : Place) (s : List ReadBlock) (w : Wire) (turn : ReaderTurn) (t : Wire) → Fine set.frames image [] command place
        → Fits set.frames image [] command m place s → count is_bad s ≤ 2 → Shows w (card_at set.frames image [] command m place)
        → Follows (told wire) set hs (At m place s) w turn t → OnceSo w0 command turn t

    then_rest : (hs : List Heard) → Rest hs → (turn : ReaderTurn) (t : Wire) (x : ReaderTurn) (card : Card) (u : Wire) → GoodTurn set.frames image [] command x card → Shows u card
        → FollowsOn (λ q v. Follows (told wire) set hs q v turn t) x hs u turn t → OnceSo w0 command turn t
    unfolding Rest
    then_rest hs rest turn t (Asks r) card u g shows on =
        let at : Follows (told wire) set hs (At g.0 g.1 g.2) u turn t = subst (λ (q : Reader). Follows (told wire) set hs q u turn t) g.6 on in
        let here : Shows u (card_at set.frames image [] command g.0 g.1) = subst (λ (c : Card). Shows u c) g.7 shows in
        rest g.0 g.1 g.2 u turn t g.3 g.4 g.5 here at
    then_rest hs rest turn t (Gives response r) card u g shows on =
        let ended : OnceSo w0 command (Gives response r) u = (g.0, executed_so u card shows g.1, at_rest r u card shows g.2) in
        subst (λ (x : ReaderTurn). OnceSo w0 command x t) (sym on.1) (subst (λ (v : Wire). OnceSo w0 command (Gives response r) v) (sym on.2) ended)
    then_rest hs rest turn t (Spends r) card u g shows on =
        let ended : OnceSo w0 command (Spends r) u = (g.0, at_most u card shows g.1) in
        subst (λ (x : ReaderTurn). OnceSo w0 command x t) (sym on.1) (subst (λ (v : Wire). OnceSo w0 command (Spends r) v) (sym on.2) ended)
    then_rest hs rest turn t (Breaks r) card u g shows on = absurd g

    all_hearings : (hs : List Heard) → Rest hs
    unfolding Rest
    all_hearings [] m place s w turn t fine fits le shows follows =
        let now : AtMostOnce w0 command w = at_most w (card_at set.frames image [] command m place) shows (log_at set.frames image [] command m place) in
        subst (λ (x : ReaderTurn). OnceSo w0 command x t) (sym follows.0) (subst (λ (v : Wire). AtMostOnce w0 command v) (sym follows.1) now)
    all_hearings (h ∷ hs) m place s w turn t fine fits le shows follows =
        let card : Card = card_at set.frames image [] command m place in
        let r : Reader = At m place s in
        let sent : Sent (asked (At m place s)) = asked_sent set.frames image [] command sized linked reply_is.wtxm_least reply_is.wtxm_most m place s fits in
        let x = one_exchange w (card_at set.frames image [] command m place) shows (asked (At m place s)) sent (may_answer m place s fine fits) h follows.0 follows.1 in
        let good = exchange set.frames image [] command sized linked legal m place s fine fits le x.down x.up in
        let on = subst (λ (k : ReadBlock). FollowsOn (λ q v. Follows (told wire) set hs q v turn t) (reader_hears set.frames.reader (At m place s) k) hs follows.0 turn t) x.heard follows.2 in
        then_rest hs (all_hearings hs) turn t _ _ follows.0 good x.later on

    -- ---- where every frame passes

    -- the log has a free record: of the two that were free, the command takes one at most
    has_room : (w : Wire) (m : Bool) (place : Place) → Shows w (card_at set.frames image [] command m place) → nat_lt (length w.log) w.room ≡ true
    has_room w m place shows =
        let card : Card = card_at set.frames image [] command m place in
        let size : length w.log ≡ length w0.log + length (records image0.number card.log) =
        ap (λ (l : List (ℕ × List ℕ)). length l) shows.recorded ∙ length-append w0.log (records image0.number card.log) in
        let few : length (records image0.number card.log) ≤ 1 =
        ⊎_elim
        (λ (e : card.log ≡ []). subst (λ (l : List (List ℕ)). length (records image0.number l) ≤ 1) (sym e) (omega arith))
        (λ (e : card.log ≡ command ∷ []). subst (λ (l : List (List ℕ)). length (records image0.number l) ≤ 1) (sym e) (omega arith))
        (log_at set.frames image [] command m place) in
        let two : length w0.log + 2 ≤ w0.room = of.room in
        let room : w.room ≡ w0.room = shows.room in
        let free : length w.log < w.room = omega (arith, size, few, two, room) in
        le-leb _ _ free

    Unspent : List Heard → Type 0
    Unspent hs = (m : Bool) (place : Place) (s : List ReadBlock) (w : Wire) (turn : ReaderTurn) (t : Wire) → Fine set.frames image [] command place
        → Fits set.frames image [] command m place s → count is_bad s ≤ 0 → Shows w (card_at set.frames image [] command m place) → w.air.gone ≡ false → AllPass w.air.fates
        → Follows (told wire) set hs (At m place s) w turn t → IsUnspent turn

    then_unspent : (hs : List Heard) → Unspent hs → (turn : ReaderTurn) (t : Wire) (x : ReaderTurn) (card : Card) (u : Wire) → GoodTurn set.frames image [] command x card
        → Keeps set.frames image [] command 0 x → Shows u card → u.air.gone ≡ false → AllPass u.air.fates
        → FollowsOn (λ q v. Follows (told wire) set hs q v turn t) x hs u turn t → IsUnspent turn
    unfolding Unspent
    then_unspent hs rest turn t (Asks r) card u g none shows here all on =
        let at : Follows (told wire) set hs (At g.0 g.1 g.2) u turn t = subst (λ (q : Reader). Follows (told wire) set hs q u turn t) g.6 on in
        let there : Shows u (card_at set.frames image [] command g.0 g.1) = subst (λ (c : Card). Shows u c) g.7 shows in
        let still : count is_bad g.2 ≤ 0 = subst (λ (q : Reader). count is_bad q.since ≤ 0) g.6 none in
        rest g.0 g.1 g.2 u turn t g.3 g.4 still there here all at
    then_unspent hs rest turn t (Gives response r) card u g none shows here all on = subst (λ (x : ReaderTurn). IsUnspent x) (sym on.1) tt
    then_unspent hs rest turn t (Spends r) card u g none shows here all on = absurd (omega (arith, none))
    then_unspent hs rest turn t (Breaks r) card u g none shows here all on = absurd g

    all_unspent : (hs : List Heard) → Unspent hs
    unfolding Unspent
    all_unspent [] m place s w turn t fine fits le shows here all follows = subst (λ (x : ReaderTurn). IsUnspent x) (sym follows.0) tt
    all_unspent (h ∷ hs) m place s w turn t fine fits le shows here all follows =
        let sent : Sent (asked (At m place s)) = asked_sent set.frames image [] command sized linked reply_is.wtxm_least reply_is.wtxm_most m place s fits in
        let x = passed_exchange w (card_at set.frames image [] command m place) shows (asked (At m place s)) sent (may_answer m place s fine fits) here all (has_room w m place shows) h follows.0 follows.1 in
        let good = exchange set.frames image [] command sized linked legal m place s fine fits (omega (arith, le)) true true in
        let none = keeps set.frames image [] command linked legal m place s fine fits (record { down = true; up = true }) 0 (omega (arith, le)) in
        let on = subst (λ (k : ReadBlock). FollowsOn (λ q v. Follows (told wire) set hs q v turn t) (reader_hears set.frames.reader (At m place s) k) hs follows.0 turn t) x.heard follows.2 in
        then_unspent hs (all_unspent hs) turn t _ _ follows.0 good none x.later x.gone x.fates on

idle_card : (card : Card) → card.taken ≡ [] → card.left ≡ Parts [] → card.log ≡ [] → card ≡ record { number = card.number; last = card.last; taken = []; left = Parts []; log = [] }
idle_card card p q e = λ i. record { number = card.number; last = card.last; taken = p i; left = q i; log = e i }

-- a command that is begun between two commands
module _ (set : LinkSetting) (w : Wire) (r : Reader) (command : List ℕ) (of : OfLink set w) (rest : AtRest r w.party.card) where
  abbrev first_place : Place
  first_place = Before w.party.card.last [] (cut (set.frames.card - 3) command).first (cut (set.frames.card - 3) command).others

  begun_at : begin set.frames.card command r ≡ reader_at set.frames (by_commands w.party.image) [] command w.party.card.number first_place []
  begun_at =
      ap (λ (n : Bool). record { number = n; phase = Sending (cut (set.frames.card - 3) command).first (cut (set.frames.card - 3) command).others; since = r.since }) rest.differ
      ∙ ap (λ (l : List ReadBlock). record { number = other w.party.card.number; phase = Sending (cut (set.frames.card - 3) command).first (cut (set.frames.card - 3) command).others; since = l }) rest.fresh

  shows_first : Shows set w of w (card_at set.frames (by_commands w.party.image) [] command w.party.card.number first_place)
  shows_first = record {
    end = idle_card w.party.card rest.none_taken rest.none_left rest.none_logged;
    state = refl;
    recorded = sym (append-nil w.log);
    kind = of.kind;
    frame = of.frame;
    room = refl;
    fates = of.fates;
    unhalted = rest.unhalted;
  }

  from_first : (hs : List Heard) (turn : ReaderTurn) (t : Wire) → Follows (told wire) set hs (begin set.frames.card command r) w turn t
      → Follows (told wire) set hs (reader_at set.frames (by_commands w.party.image) [] command w.party.card.number first_place []) w turn t
  from_first hs turn t follows = subst (λ (q : Reader). Follows (told wire) set hs q w turn t) begun_at follows

pub carried_once_lem : CarriedOnce
unfolding Rest
carried_once_lem set w r command hs turn t of rest legal follows =
    all_hearings set w of command legal hs w.party.card.number (first_place set w r command of rest) [] w turn t (cut_joins (set.frames.card - 3) command) (refl, inl refl) (omega arith)
    (shows_first set w r command of rest) (from_first set w r command of rest hs turn t follows)

-- where every frame passes, the link isn't spent
pub unspent_lem : (set : LinkSetting) (w : Wire) (r : Reader) (command : List ℕ) (hs : List Heard) (turn : ReaderTurn) (t : Wire)
    → OfLink set w → AtRest r w.party.card → is_command command ≡ true → w.air.gone ≡ false → AllPass w.air.fates
    → Follows (told wire) set hs (begin set.frames.card command r) w turn t → IsUnspent turn
unfolding Unspent
unspent_lem set w r command hs turn t of rest legal here all follows =
    all_unspent set w of command legal hs w.party.card.number (first_place set w r command of rest) [] w turn t (cut_joins (set.frames.card - 3) command) (refl, inl refl) (omega arith)
    (shows_first set w r command of rest) here all (from_first set w r command of rest hs turn t follows)
