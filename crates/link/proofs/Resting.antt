-- A transport's link: the reader of an end that rests, and what a command and a closing leave.
use Rattle.std.proofs.Common.{◌≡◌, ℕ, Bool, true, List, [], ◌∷◌, ◌++◌, length, Option, Some, None, Ok, Err, refl, sym, ap, ◌∙◌, subst}
use Rattle.ep_base.specs.Air.Fates.{AreFates}
use Rattle.ep_base.specs.Link.Block.{ReadBlock, Deselect}
use Rattle.ep_base.specs.Air.Heard.{Heard, wave_of_kind}
use Rattle.ep_base.specs.Air.Frame.{sealed}
use Rattle.ep_base.specs.Link.Spelling.{spelled}
use Rattle.ep_base.specs.Air.Medium.{MediumSteps}
use Rattle.ep_base.specs.Link.ReaderEnd.{Reader, Phase, Idle, begin}
use Rattle.ep_base.specs.Link.LinkFrames.{LinkSetting}
use Rattle.ep_base.specs.Link.Wire.{Wire, wire_send}
use Rattle.ep_base.specs.Poll.Radio.{OpenLink, TransactsOver}
use Rattle.ep_base.specs.Poll.Transport.{Answered}
use Rattle.law_wire.proofs.Passing.{closes_quietly}
use Rattle.block_reader.specs.Counts as counts
use Rattle.block_reader.specs.Progress.{NoneGot, phase_by}
use Rattle.block_reader.specs.Stands.{Held, held, Rests}
use Rattle.block_reader.specs.declared.stages.Stage.{Stage}
use Rattle.block_reader.specs.declared.stages.Stage.TheVariants as stage
use Rattle.block_reader.specs.declared.reader_end.ReaderEnd.{ReaderEnd}
use Rattle.block_reader.specs.declared.ends.LinkEnd.{LinkEnd}
use Rattle.block_reader.specs.declared.ends.LinkEnd.TheVariants.{Spent, Breach, Device}
use Rattle.link.specs.Answers.{reply_of}
use Rattle.link.specs.Carried.{Carried, ByWire}
use Rattle.link.specs.Heard.{AsHeard}
use Rattle.link.specs.Radio.{ClosesWire, IsStill, OverWire, link_of, open_link, radio_at, resting}

is_idle : (s : Stage) (size : ℕ) (command : List ℕ) (place : ℕ) (got : List ℕ) → counts.is_resting s ≡ true → Idle ≡ phase_by s size command place got
is_idle stage.Resting size command place got is = refl
is_idle stage.Sending size command place got is = cc is
is_idle stage.Receiving size command place got is = cc is
is_idle stage.Failed size command place got is = refl
is_idle stage.Closed size command place got is = refl

none_got : (s : Stage) (got : List ℕ) → counts.is_resting s ≡ true → NoneGot s got
none_got stage.Resting got is = tt
none_got stage.Sending got is = cc is
none_got stage.Receiving got is = tt
none_got stage.Failed got is = tt
none_got stage.Closed got is = tt

no_length : {A : Type 0} → (xs : List A) → length xs ≡ 0 → xs ≡ []
no_length [] e = refl
no_length (x ∷ xs) e = cc e

pub rests_still : (e : Held) → IsStill e → Rests e (resting e)
rests_still e still = record {
  state = record {
    number = refl;
    phase = is_idle e.course.stage _ e.course.command e.course.place e.course.got still.rests;
    bad = still.none_bad;
    wtx = still.none_waited;
    fresh = none_got e.course.stage e.course.got still.rests;
  };
  resting = still.rests;
  closed = refl;
  fresh = refl;
  none_kept = no_length e.since still.none_kept;
}

reader_with : Bool → Phase → List ReadBlock → Reader
reader_with n p s = record { number = n; phase = p; since = s }

-- There is one reader at which an end rests.
pub one_reader : (e : Held) (r : Reader) → Rests e r → resting e ≡ r
unfolding reader_with
one_reader e r rests =
    ap (λ (n : Bool). reader_with n Idle []) (sym rests.state.number)
    ∙ ap (λ (p : Phase). reader_with r.number p []) (sym rests.closed)
    ∙ ap (λ (s : List ReadBlock). reader_with r.number r.phase s) (sym rests.fresh)

open_with : LinkSetting → Reader → OpenLink
open_with set r = record { set = set; reader = r }

pub one_link : (e : Held) (set : LinkSetting) (r : Reader) → e.set ≡ set → Rests e r → open_link e ≡ record { set = set; reader = r }
unfolding open_with
one_link e set r same rests =
    ap (λ (s : LinkSetting). open_with s (resting e)) same ∙ ap (λ (q : Reader). open_with set q) (one_reader e r rests)

-- The link is that of the end.
pub link_is : (o : Option ReaderEnd) (e : ReaderEnd) (l : OpenLink) → o ≡ Some e → link_of o ≡ Some l → open_link (held e) ≡ l
link_is o e l is links = cc (ap link_of is, links)

module _ {S : Type 0} (steps : MediumSteps S) (s : S) (fsdi : ℕ) (command : List ℕ) (e' : Held) (t : S) where
  pub answered : (o : Option ReaderEnd) (e : ReaderEnd) (o' : Option ReaderEnd) (response : List ℕ) → o ≡ Some e → link_of o' ≡ Some (open_link e') → IsStill (held e) → e'.set ≡ (held e).set
      → ((r : Reader) → Rests (held e) r → Carried steps (held e).set (begin (held e).set.frames.card command r) s (Ok response) e' t)
      → TransactsOver steps (link_of o) (radio_at s fsdi o) command (Answered response) (radio_at t fsdi o')
  answered o e o' response is opens still same carried =
      let c = carried (resting (held e)) (rests_still (held e) still) in
      subst (λ (x : Option ReaderEnd). TransactsOver steps (link_of x) (radio_at s fsdi x) command (Answered response) (radio_at t fsdi o')) (sym is)
      (c.reader, record { hearings = c.hearings; follows = c.follows }, record { same = refl; links = opens ∙ ap (λ (l : OpenLink). Some l) (one_link e' (held e).set c.reader same c.rests) })

  -- what is left by an error
  failed_at : (e : ReaderEnd) (o' : Option ReaderEnd) (end : LinkEnd) → link_of o' ≡ None → Carried steps (held e).set (begin (held e).set.frames.card command (resting (held e))) s (Err end) e' t
      → TransactsOver steps (Some (open_link (held e))) (radio_at s fsdi (Some e)) command (reply_of (Err end)) (radio_at t fsdi o')
  failed_at e o' (Spent bad) none c = (c.reader, record { hearings = c.hearings; follows = c.follows }, record { same = refl; links = none })
  failed_at e o' (Breach b) none c = (c.reader, record { hearings = c.hearings ++ c.last ∷ []; follows = c.follows }, record { same = refl; links = none })
  failed_at e o' Device none c = (c.reader, c.between, record { hearings = c.hearings; follows = c.follows }, c.fails, record { same = refl; links = none })

  pub failed : (o : Option ReaderEnd) (e : ReaderEnd) (o' : Option ReaderEnd) (end : LinkEnd) → o ≡ Some e → link_of o' ≡ None → IsStill (held e)
      → ((r : Reader) → Rests (held e) r → Carried steps (held e).set (begin (held e).set.frames.card command r) s (Err end) e' t)
      → TransactsOver steps (link_of o) (radio_at s fsdi o) command (reply_of (Err end)) (radio_at t fsdi o')
  failed o e o' end is none still carried =
      subst (λ (x : Option ReaderEnd). TransactsOver steps (link_of x) (radio_at s fsdi x) command (reply_of (Err end)) (radio_at t fsdi o')) (sym is)
      (failed_at e o' end none (carried (resting (held e)) (rests_still (held e) still)))

  -- what was heard, with all that the end says
  heard_ok : (e : Held) (link : Option OpenLink) (response : List ℕ) → link ≡ Some (open_link e') → e'.set ≡ e.set
      → Carried steps e.set (begin e.set.frames.card command (resting e)) s (Ok response) e' t
      → AsHeard steps (open_link e) command s (Ok response) link t
  heard_ok e link response opens same c = record {
    hearings = c.hearings;
    reader = c.reader;
    leads = c.follows;
    stays = opens ∙ ap (λ (l : OpenLink). Some l) (one_link e' e.set c.reader same c.rests);
  }

  heard_err : (e : Held) (link : Option OpenLink) (end : LinkEnd) → link ≡ None
      → Carried steps e.set (begin e.set.frames.card command (resting e)) s (Err end) e' t
      → AsHeard steps (open_link e) command s (Err end) link t
  heard_err e link (Spent bad) none c = record { hearings = c.hearings; reader = c.reader; leads = c.follows; third = c.third; told = c.three; left = none }
  heard_err e link (Breach b) none c = record { hearings = c.hearings; last = c.last; reader = c.reader; leads = c.follows; told = cc (c.breach); left = none }
  heard_err e link Device none c = record { hearings = c.hearings; reader = c.reader; between = c.between; leads = c.follows; fails = c.fails; left = none }

  pub as_heard_ok : (e : Held) (l : OpenLink) (link : Option OpenLink) (response : List ℕ) → open_link e ≡ l → link ≡ Some (open_link e') → e'.set ≡ e.set → IsStill e
      → ((r : Reader) → Rests e r → Carried steps e.set (begin e.set.frames.card command r) s (Ok response) e' t)
      → AsHeard steps l command s (Ok response) link t
  as_heard_ok e l link response is opens same still carried =
      subst (λ (k : OpenLink). AsHeard steps k command s (Ok response) link t) is
      (heard_ok e link response opens same (carried (resting e) (rests_still e still)))

  pub as_heard_err : (e : Held) (l : OpenLink) (link : Option OpenLink) (end : LinkEnd) → open_link e ≡ l → link ≡ None → IsStill e
      → ((r : Reader) → Rests e r → Carried steps e.set (begin e.set.frames.card command r) s (Err end) e' t)
      → AsHeard steps l command s (Err end) link t
  as_heard_err e l link end is none still carried =
      subst (λ (k : OpenLink). AsHeard steps k command s (Err end) link t) is
      (heard_err e link end none (carried (resting e) (rests_still e still)))

-- Over a wire, with the link after a response.
pub over_wire_ok : (response : List ℕ) (set : LinkSetting) (link : Option OpenLink) (e' : Held) (w : Wire) (command : List ℕ) (t : Wire)
    → link ≡ Some (open_link e') → e'.set ≡ set → ByWire (Ok response) e' w command t → OverWire (Ok response) set link w command t
over_wire_ok response set link e' w command t opens same by =
    (by.0, by.1, record { reader = by.2.reader; stays = opens ∙ ap (λ (l : OpenLink). Some l) (one_link e' set by.2.reader same by.2.rests); at_rest = by.2.at_rest })

pub over_wire_err : (end : LinkEnd) (set : LinkSetting) (link : Option OpenLink) (e' : Held) (w : Wire) (command : List ℕ) (t : Wire)
    → ByWire (Err end) e' w command t → OverWire (Err end) set link w command t
over_wire_err (Spent bad) set link e' w command t by = by
over_wire_err (Breach b) set link e' w command t by = absurd by
over_wire_err Device set link e' w command t by = absurd by

-- A wire never fails.
pub wire_fails_not : (w : Wire) (set : LinkSetting) (t : Wire) → wire_send w (wave_of_kind set.kind) (sealed (wave_of_kind set.kind) (spelled Deselect)) ≡ (None, t) → ⊥
wire_fails_not w set t e = cc (ap (λ (p : Option Heard × Wire). p.0) e)

-- Closing over a wire.
pub closes_wire : (set : LinkSetting) (w : Wire) (heard : Option Heard) (t : Wire) → AreFates w.air.fates
    → wire_send w (wave_of_kind set.kind) (sealed (wave_of_kind set.kind) (spelled Deselect)) ≡ (heard, t) → ClosesWire set w t
closes_wire set w heard t fates is =
    let after : (wire_send w (wave_of_kind set.kind) (sealed (wave_of_kind set.kind) (spelled Deselect))).1 ≡ t = ap (λ (p : Option Heard × Wire). p.1) is in
    let quiet = closes_quietly set.kind w fates in
    record {
      once = sym after;
      log = ap (λ (x : Wire). x.log) (sym after) ∙ quiet.0;
      image = ap (λ (x : Wire). x.party.image) (sym after) ∙ quiet.1;
    }
