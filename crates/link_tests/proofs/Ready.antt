-- Both ends of a link that was just opened, and of one that carried a command.
use Rattle.std.proofs.Common.{◌≡◌, ◌≤◌, ◌+◌, ℕ, zero, suc, All, true, List, [], ◌∷◌, ◌++◌, length, replicate, refl, sym, subst, ◌∙◌}
use Rattle.std.proofs.lemmas.List.Elements.{All-nil, All-cons, All-append, All-head, All-tail}
use Rattle.ep_base.specs.declared.air.CardKind.{CardKind}
use Rattle.ep_base.specs.Air.Medium.{told}
use Rattle.ep_base.specs.Link.Dialogue.{opened_reader}
use Rattle.ep_base.specs.Cards.CardAnswer.{Image, IsImage}
use Rattle.ep_base.specs.Air.Fates.{Fate, AreFates, clean_fate}
use Rattle.ep_base.specs.Link.LinkFrames.{LinkSetting}
use Rattle.ep_base.specs.Link.Wire.{Wire, wire, new_wire}
use Rattle.ep_base.specs.Link.Carry.{ActsAs, OfLink, Executed}
use Rattle.ep_base.specs.declared.limits.TheConstants.{FRAME}
use Rattle.block_reader.specs.Stands.{Held, Rests}
use Rattle.card_image.proofs.Kept.{card_answer_keeps}
use Rattle.link.specs.Carried.{Agrees}
use Rattle.rf_field.specs.declared.fates.FateRun.{FateRun}
use Rattle.rf_field.specs.declared.fates.FateRun.TheVariants.{Clean, One}
use Rattle.rf_field.specs.Meaning.{IsRun, run_of, exchange_fates}
use Rattle.link_tests.specs.Open.{IsReady}

fates_append : (xs ys : List Fate) → AreFates xs → AreFates ys → AreFates (xs ++ ys)
fates_append [] ys a b = b
fates_append (x ∷ xs) ys a b = (a.0, a.1, fates_append xs ys a.2 b)

all_clean : (n : ℕ) → AreFates (replicate n clean_fate)
all_clean zero = tt
all_clean (suc n) = (tt, tt, all_clean n)

of_run : (run : FateRun) → IsRun run → AreFates (run_of run)
of_run (Clean count) h = all_clean count
of_run (One fate) h = (h.0, h.1, tt)

pub all_fates : (runs : List FateRun) → All IsRun runs → AreFates (exchange_fates runs)
all_fates [] h = tt
all_fates (run ∷ runs) h = fates_append (run_of run) (exchange_fates runs) (of_run run (All-head IsRun run runs h)) (all_fates runs (All-tail IsRun run runs h))

-- one more run of fates
pub with_run : (runs now : List FateRun) (run : FateRun) → now ≡ runs ++ run ∷ [] → All IsRun runs → IsRun run → All IsRun now
with_run runs now run is all one = subst (λ (l : List FateRun). All IsRun l) (sym is) (All-append IsRun runs (run ∷ []) all (All-cons IsRun run [] one (All-nil IsRun)))

-- a wire acts as itself
pub acts : (set : LinkSetting) → ActsAs (told wire) set (λ w. true) (λ w. w)
acts set s b heard t good sent = (sent, refl)

pub just_opened : (e : Held) (w : Wire) (kind : CardKind) (fsd : ℕ) (image : Image) (fates : List Fate) (room : ℕ) →
    w ≡ new_wire kind fsd image fates room → e.set.kind ≡ kind → e.set.frames.reader ≡ fsd → 16 ≤ e.set.frames.card → 16 ≤ e.set.frames.reader →
    e.set.frames.reader ≤ FRAME → IsImage image → AreFates fates → 2 ≤ room → Rests e opened_reader → IsReady e w
just_opened e w kind fsd image fates room is k f card least most im fs ro rests =
    subst (λ (v : Wire). IsReady e v) (sym is) (record {
      reader = opened_reader;
      rests = rests;
      agree = record { differ = refl; closed = refl; fresh = refl; none_taken = refl; none_left = refl; none_logged = refl; unhalted = refl };
      link = record { kind = sym k; frame = sym f; card_least = card; reader_least = least; reader_most = most; image = im; fates = fs; room = ro };
    })

-- the link after a command that was answered
pub still_of : (set after : LinkSetting) (w t : Wire) (command : List ℕ) → after ≡ set → OfLink set w → Executed w command t → length t.log + 2 ≤ t.room → OfLink after t
still_of set after w t command same l x room =
    subst (λ (s : LinkSetting). OfLink s t) (sym same) (record {
      kind = x.kind ∙ l.kind;
      frame = x.frame ∙ l.frame;
      card_least = l.card_least;
      reader_least = l.reader_least;
      reader_most = l.reader_most;
      image = subst (λ (i : Image). IsImage i) (sym x.image) (card_answer_keeps w.party.image command l.image).1;
      fates = x.fates;
      room = room;
    })

pub again : (set : LinkSetting) (e : Held) (w t : Wire) (command : List ℕ) → e.set ≡ set → OfLink set w → Executed w command t → Agrees e t → length t.log + 2 ≤ t.room → IsReady e t
again set e w t command same l x a room =
    record { reader = a.reader; rests = a.rests; agree = a.at_rest; link = still_of set e.set w t command same l x room }
