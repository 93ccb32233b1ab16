-- A command over a medium, hearing by hearing.
use Rattle.std.proofs.Common.{◌≡◌, ℕ, Bool, true, List, [], ◌∷◌, ◌++◌, Option, Some, None, Result, Ok, Err, refl, sym, ap, ◌∙◌, subst}
use Rattle.ep_base.specs.Air.Heard.{Ask as AskData, Heard, wave_of_kind}
use Rattle.ep_base.specs.Air.Frame.{sealed}
use Rattle.ep_base.specs.Air.Medium.{MediumSteps}
use Rattle.ep_base.specs.Cards.Apdu.{is_command}
use Rattle.ep_base.specs.Link.Block.{Block}
use Rattle.ep_base.specs.Link.ReaderEnd.{Reader, ReaderTurn, Asks, Gives, Spends, Breaks, asked, begin}
use Rattle.ep_base.specs.Link.Spelling.{spelled}
use Rattle.ep_base.specs.Link.LinkFrames.{LinkSetting, BreachData, block_ask}
use Rattle.ep_base.specs.Link.Wire.{Wire, wire_send}
use Rattle.ep_base.specs.Link.Carry.{SendsBlock, turn_on, FollowsOn, Follows, AtRest, OfLink, OnceSo, ActsAs}
use Rattle.law_wire.proofs.Alike.{carried_alike_lem}
use Rattle.block_reader.specs.declared.ends.Next.{Next}
use Rattle.block_reader.specs.declared.ends.Next.TheVariants.{Ask, Done, Failed}
use Rattle.block_reader.specs.declared.ends.LinkEnd.{LinkEnd}
use Rattle.block_reader.specs.declared.ends.LinkEnd.TheVariants.{Spent, Breach, Device}
use Rattle.block_reader.specs.Stands.{Held, Asking, Shows}
use Rattle.link.specs.Carried.{Carried, ByWire}

reader_of : ReaderTurn → Reader
reader_of (Asks r) = r
reader_of (Gives response r) = r
reader_of (Spends r) = r
reader_of (Breaks r) = r

module _ {S : Type 0} (steps : MediumSteps S) (set : LinkSetting) where
  -- the turn itself is the end
  ends_here : (x : ReaderTurn) (t : S) → FollowsOn (λ q v. Follows steps set [] q v x t) x [] t x t
  ends_here (Asks r) t = (refl, refl)
  ends_here (Gives response r) t = (refl, refl, refl)
  ends_here (Spends r) t = (refl, refl, refl)
  ends_here (Breaks r) t = (refl, refl, refl)

  -- one hearing more
  More : (q : Reader) (u : S) (h : Heard) (t : S) → List Heard → Type 0
  More q u h t hs = (r : Reader) (s : S) → Follows steps set hs r s (Asks q) u → Follows steps set (hs ++ h ∷ []) r s (turn_on set q h) t

  goes_more : (q : Reader) (u : S) (h : Heard) (t : S) (hs : List Heard) → More q u h t hs → (x : ReaderTurn) (v : S)
      → FollowsOn (λ p w. Follows steps set hs p w (Asks q) u) x hs v (Asks q) u
      → FollowsOn (λ p w. Follows steps set (hs ++ h ∷ []) p w (turn_on set q h) t) x (hs ++ h ∷ []) v (turn_on set q h) t
  unfolding More
  goes_more q u h t hs again (Asks r) v on = again r v on
  goes_more q u h t hs again (Gives response r) v on = cc (on.1)
  goes_more q u h t hs again (Spends r) v on = cc (on.1)
  goes_more q u h t hs again (Breaks r) v on = cc (on.1)

  one_more : (q : Reader) (u : S) (h : Heard) (t : S) → SendsBlock steps set u (asked q) (Some h) t → (hs : List Heard) → More q u h t hs
  unfolding More reader_of
  one_more q u h t sends [] r s follows =
      let same_reader : q ≡ r = ap reader_of follows.0 in
      let now : SendsBlock steps set s (asked r) (Some h) t = subst (λ (p : Reader). SendsBlock steps set s (asked p) (Some h) t) same_reader (subst (λ (v : S). SendsBlock steps set v (asked q) (Some h) t) follows.1 sends) in
      (t, now, subst (λ (p : Reader). FollowsOn (λ p' v. Follows steps set [] p' v (turn_on set q h) t) (turn_on set p h) [] t (turn_on set q h) t) same_reader (ends_here (turn_on set q h) t))
  one_more q u h t sends (x ∷ hs) r s follows =
      (follows.0, follows.1, goes_more q u h t hs (one_more q u h t sends hs) (turn_on set r x) follows.0 follows.2)

  -- a command is open, after some hearings
  pub record Going (r0 : Reader) (s0 : S) (ask : AskData) (e : Held) (u : S) : Type 0 where
    pub hearings : List Heard
    pub reader : Reader
    pub follows : Follows steps set hearings r0 s0 (Asks reader) u
    pub asking : Asking e reader
    pub asks : ask ≡ block_ask set.kind set.fwi (asked reader)

  pub begun : (r0 : Reader) (s0 : S) (ask : AskData) (e : Held) → Asking e r0 → ask ≡ block_ask set.kind set.fwi (asked r0) → Going r0 s0 ask e s0
  begun r0 s0 ask e is asks = record { hearings = []; reader = r0; follows = (refl, refl); asking = is; asks = asks }

  -- what was sent is the block that is asked
  sent : (r0 : Reader) (s0 : S) (ask : AskData) (e : Held) (u : S) (heard : Option Heard) (t : S) → (g : Going r0 s0 ask e u) → steps.sends u ask.wave ask.bytes ask.wait heard t → SendsBlock steps set u (asked g.reader) heard t
  sent r0 s0 ask e u heard t g sends = subst (λ (a : AskData). steps.sends u a.wave a.bytes a.wait heard t) g.asks sends

  -- the medium failed
  pub lost : (r0 : Reader) (s0 : S) (ask : AskData) (e : Held) (u t : S) → Going r0 s0 ask e u → steps.sends u ask.wave ask.bytes ask.wait None t → Carried steps set r0 s0 (Err Device) e t
  lost r0 s0 ask e u t g sends = record { hearings = g.hearings; reader = g.reader; between = u; follows = g.follows; fails = sent r0 s0 ask e u None t g sends; asking = g.asking }

  -- after one more hearing
  pub record After (r0 : Reader) (s0 : S) (next : Next) (e : Held) (t : S) : Type 0 where
    pub hearings : List Heard
    pub last : Heard
    pub turn : ReaderTurn
    pub follows : Follows steps set (hearings ++ last ∷ []) r0 s0 turn t
    pub shows : Shows next e last turn
    pub setting : e.set ≡ set

  pub heard : (r0 : Reader) (s0 : S) (ask : AskData) (e : Held) (u : S) (h : Heard) (next : Next) (e' : Held) (t : S) → Going r0 s0 ask e u → steps.sends u ask.wave ask.bytes ask.wait (Some h) t → e'.set ≡ set → e.set ≡ set → ((r : Reader) → Asking e r → Shows next e' h (turn_on e.set r h)) → After r0 s0 next e' t
  unfolding More
  heard r0 s0 ask e u h next e' t g sends same was rules = record {
    hearings = g.hearings;
    last = h;
    turn = turn_on set g.reader h;
    follows = one_more g.reader u h t (sent r0 s0 ask e u (Some h) t g sends) g.hearings r0 s0 g.follows;
    shows = subst (λ (l : LinkSetting). Shows next e' h (turn_on l g.reader h)) was (rules g.reader g.asking);
    setting = same;
  }

  going_on : (r0 : Reader) (s0 : S) (a : AskData) (e : Held) (t : S) (hs : List Heard) (h : Heard) (x : ReaderTurn) → Follows steps set (hs ++ h ∷ []) r0 s0 x t → Shows (Ask a) e h x → e.set ≡ set → Going r0 s0 a e t
  going_on r0 s0 a e t hs h (Asks q) follows shows same = record {
    hearings = hs ++ h ∷ [];
    reader = q;
    follows = follows;
    asking = shows.stands;
    asks = shows.says ∙ ap (λ (l : LinkSetting). block_ask l.kind l.fwi (asked q)) same;
  }
  going_on r0 s0 a e t hs h (Gives response q) follows shows same = absurd shows.says
  going_on r0 s0 a e t hs h (Spends q) follows shows same = absurd shows.says
  going_on r0 s0 a e t hs h (Breaks q) follows shows same = absurd shows.says

  pub goes_on : (r0 : Reader) (s0 : S) (a : AskData) (e : Held) (t : S) → After r0 s0 (Ask a) e t → Going r0 s0 a e t
  goes_on r0 s0 a e t f = going_on r0 s0 a e t f.hearings f.last f.turn f.follows f.shows f.setting

  done_at : (r0 : Reader) (s0 : S) (response : List ℕ) (e : Held) (t : S) (hs : List Heard) (h : Heard) (x : ReaderTurn) → Follows steps set (hs ++ h ∷ []) r0 s0 x t → Shows (Done response) e h x → Carried steps set r0 s0 (Ok response) e t
  done_at r0 s0 response e t hs h (Asks q) follows shows = absurd shows.says
  done_at r0 s0 response e t hs h (Gives given q) follows shows = record {
    hearings = hs ++ h ∷ [];
    reader = q;
    follows = subst (λ (l : List ℕ). Follows steps set (hs ++ h ∷ []) r0 s0 (Gives l q) t) (sym shows.says) follows;
    rests = shows.stands;
  }
  done_at r0 s0 response e t hs h (Spends q) follows shows = absurd shows.says
  done_at r0 s0 response e t hs h (Breaks q) follows shows = absurd shows.says

  pub done : (r0 : Reader) (s0 : S) (response : List ℕ) (e : Held) (t : S) → After r0 s0 (Done response) e t → Carried steps set r0 s0 (Ok response) e t
  done r0 s0 response e t f = done_at r0 s0 response e t f.hearings f.last f.turn f.follows f.shows

  failed_at : (r0 : Reader) (s0 : S) (end : LinkEnd) (e : Held) (t : S) (hs : List Heard) (h : Heard) (x : ReaderTurn) → Follows steps set (hs ++ h ∷ []) r0 s0 x t → Shows (Failed end) e h x → Carried steps set r0 s0 (Err end) e t
  failed_at r0 s0 (Spent bad) e t hs h (Asks q) follows shows = absurd shows.says
  failed_at r0 s0 (Spent bad) e t hs h (Gives response q) follows shows = absurd shows.says
  failed_at r0 s0 (Spent bad) e t hs h (Spends q) follows shows = record { hearings = hs ++ h ∷ []; reader = q; follows = follows; fails = shows.stands; three = shows.says.0; third = shows.says.1 }
  failed_at r0 s0 (Spent bad) e t hs h (Breaks q) follows shows = absurd shows.says
  failed_at r0 s0 (Breach b) e t hs h (Asks q) follows shows = absurd shows.says
  failed_at r0 s0 (Breach b) e t hs h (Gives response q) follows shows = absurd shows.says
  failed_at r0 s0 (Breach b) e t hs h (Spends q) follows shows = absurd shows.says
  failed_at r0 s0 (Breach b) e t hs h (Breaks q) follows shows = record { hearings = hs; last = h; reader = q; follows = follows; fails = shows.stands; breach = ap (λ (d : BreachData). Breach d) shows.says }
  failed_at r0 s0 Device e t hs h (Asks q) follows shows = absurd shows.says
  failed_at r0 s0 Device e t hs h (Gives response q) follows shows = absurd shows.says
  failed_at r0 s0 Device e t hs h (Spends q) follows shows = absurd shows.says
  failed_at r0 s0 Device e t hs h (Breaks q) follows shows = absurd shows.says

  pub failed : (r0 : Reader) (s0 : S) (end : LinkEnd) (e : Held) (t : S) → After r0 s0 (Failed end) e t → Carried steps set r0 s0 (Err end) e t
  failed r0 s0 end e t f = failed_at r0 s0 end e t f.hearings f.last f.turn f.follows f.shows

  -- over a medium that acts as a wire
  module _ (good : S → Bool) (shown : S → Wire) (s : S) (r : Reader) (command : List ℕ) (acts : ActsAs steps set good shown) (is : good s ≡ true) (of : OfLink set (shown s)) (rest : AtRest r (shown s).party.card) (legal : is_command command ≡ true) where
    as_wire : (hs : List Heard) (turn : ReaderTurn) (t : S) → Follows steps set hs (begin set.frames.card command r) s turn t → OnceSo (shown s) command turn (shown t) × (good t ≡ true)
    as_wire hs turn t follows = carried_alike_lem steps set good shown s r command hs turn t acts is of rest legal follows

    never_fails : (w : Wire) (b : Block) (t : Wire) → wire_send w (wave_of_kind set.kind) (sealed (wave_of_kind set.kind) (spelled b)) ≡ (None, t) → ⊥
    never_fails w b t e = cc (ap (λ (p : Option Heard × Wire). p.0) e)

    pub once : (result : Result (List ℕ) LinkEnd) (e : Held) (t : S) → Carried steps set (begin set.frames.card command r) s result e t → ByWire result e (shown s) command (shown t) × (good t ≡ true)
    once (Ok response) e t c =
        let so = as_wire c.hearings (Gives response c.reader) t c.follows in
        ((so.0.0, so.0.1, record { reader = c.reader; rests = c.rests; at_rest = so.0.2 }), so.1)
    once (Err (Spent bad)) e t c =
        let so = as_wire c.hearings (Spends c.reader) t c.follows in
        ((c.three, so.0.1), so.1)
    once (Err (Breach b)) e t c = absurd (as_wire (c.hearings ++ c.last ∷ []) (Breaks c.reader) t c.follows).0
    once (Err Device) e t c =
        let so = as_wire c.hearings (Asks c.reader) c.between c.follows in
        absurd (never_fails (shown c.between) (asked c.reader) (shown t) (acts c.between (asked c.reader) None t so.1 c.fails).0)
