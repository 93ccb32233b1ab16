-- A frame settles what is asked as the definitions have it.
use Rattle.std.proofs.Common.{◌≡◌, ℕ, ◌-◌, ◌<◌, ◌≤◌, Bool, true, false, List, [], ◌∷◌, ◌++◌, length, Option, Some, None, refl, sym, ap, ◌∙◌, subst, ⊎_elim, arith}
use Rattle.std.specs.Prelude.{if◌then◌else◌}
use Rattle.ep_base.specs.declared.air.CardKind.{CardKind}
use Rattle.ep_base.specs.declared.air.CardKind.TheVariants as kinds
use Rattle.ep_base.specs.declared.air.Wave.{Wave}
use Rattle.ep_base.specs.Air.Frame.{sealed, opened}
use Rattle.ep_base.specs.Air.Heard.{same_wave, wave_of_kind}
use Rattle.ep_base.specs.Cards.Apdu.{is_command}
use Rattle.ep_base.specs.Link.Block.{Block, I, Deselect}
use Rattle.ep_base.specs.Link.Parts.{Cut, cut, more}
use Rattle.ep_base.specs.Link.ReaderEnd.{Sending, Asks}
use Rattle.ep_base.specs.Link.LinkFrames.{LinkSetting, block_ask}
use Rattle.ep_base.specs.Link.Spelling.{Reads, spelled, is_block}
use Rattle.ep_base.specs.Poll.Round.{Waking}
use Rattle.rf_frame.proofs.Opening.{opened_sealed}
use Rattle.block_pcb.proofs.Spellings.{read_spelled}
use Rattle.trace_check.specs.Lines.{Line}
use Rattle.trace_check.specs.Allowed.{Sends, IsCut}
use Rattle.trace_check.specs.declared.watch.Watch.{Watch}
use Rattle.trace_check.specs.declared.watch.Watch.TheVariants as Watching
use Rattle.trace_check.specs.Held.{RoundAt, Inf}
use Rattle.trace_check.specs.Watch.{part_read, part_opened, part_in, is_part, fresh, begins, settles_rest, settles_next, settles}
use Rattle.trace_check.proofs.Cuts.{FromRest, FromTurn, Closed, Begun, from_rest, to_cut, to_rest_closed, to_rest_begun}
use Rattle.trace_check.proofs.Futures.{FromNext, FromClosing, EachSending, Follows, MayFollow, Fits, MayFit, rested, sending_next}
use Rattle.trace_check.proofs.Hearing.{match_fresh}
use Rattle.trace_check.proofs.Parting.{first_inf, IsNext, is_next, Whole, whole_by}

-- ---- the block of a frame

own_wave : (kind : CardKind) → same_wave (wave_of_kind kind) (wave_of_kind kind) ≡ true
own_wave kinds.A = refl
own_wave kinds.B = refl

part_spelled : (set : LinkSetting) (b : Block) → is_block b ≡ true → part_in set (wave_of_kind set.kind) (sealed (wave_of_kind set.kind) (spelled b)) ≡ part_read (Reads b)
part_spelled set b is =
    let w : Wave = wave_of_kind set.kind in
    ap (λ (x : Bool). if x then part_opened (opened w (sealed w (spelled b))) else None) (own_wave set.kind)
    ∙ ap part_opened (opened_sealed w (spelled b) (omega arith))
    ∙ ap part_read (read_spelled b is)

part_sent : (set : LinkSetting) (l : Line) (b : Block) → is_block b ≡ true → Sends l (block_ask set.kind set.fwi b) → part_in set l.wave l.frame ≡ part_read (Reads b)
part_sent set l b is sends =
    ap (λ (w : Wave). part_in set w l.frame) sends.wave ∙ ap (λ (f : List ℕ). part_in set (wave_of_kind set.kind) f) sends.frame ∙ part_spelled set b is

-- ---- forward

-- a card takes frames of a size that a part needs
abbrev pub Wide : LinkSetting → Type 0
Wide set = 16 ≤ set.frames.card

-- what a step needs of a link
abbrev pub IsWide : Watch → Type 0
IsWide Watching.Ready = Unit {0}
IsWide (Watching.InRound round) = Unit {0}
IsWide (Watching.Resting set number) = Wide set
IsWide (Watching.Closing set) = Unit {0}
IsWide (Watching.Between set number sent) = Wide set
IsWide (Watching.Sending t p) = Unit {0}
IsWide (Watching.Receiving t got) = Unit {0}

some_rest : (bytes : List ℕ) → is_command bytes ≡ true → 0 < length bytes
unfolding is_command
some_rest [] is = cc (is)
some_rest (b ∷ bytes) is = omega arith

module _ (After : List Line → Type 0) (Round : RoundAt → List Line → Type 0) where
  next_forward : (set : LinkSetting) (number : Bool) (sent more : List ℕ) (l : Line) (ls : List Line) → Wide set → 0 < length more → is_command (sent ++ more) ≡ true
      → FromTurn After set (Asks (sending_next number (set.frames.card - 3) more)) (l ∷ ls) → MayFollow After Round (begins set number sent (first_inf (cut (set.frames.card - 3) more))) (l ∷ ls)
  next_forward set number sent rest l ls wide some is f =
      let c : Cut = cut (set.frames.card - 3) rest in
      let n : IsNext (set.frames.card - 3) sent c = is_next (set.frames.card - 3) sent rest (omega (arith, wide)) some is in
      let goes : Option Watch = Some (Watching.Sending (fresh set number) (record { sent = sent; part = c.first; chained = more c.others })) in
      subst (λ (b : Bool). MayFollow After Round (if b then goes else None) (l ∷ ls)) (sym n.is)
      (record { left = c.others; since = []; is = n.left; matches = match_fresh set number; goes = f })

  -- the frame of the next part
  next_in : (set : LinkSetting) (number : Bool) (rest : List ℕ) (l : Line) (ls : List Line) → FromTurn After set (Asks (sending_next number (set.frames.card - 3) rest)) (l ∷ ls)
      → part_in set l.wave l.frame ≡ Some (first_inf (cut (set.frames.card - 3) rest))
  next_in set number rest l ls f = part_sent set l (I number (more (cut (set.frames.card - 3) rest).others) (cut (set.frames.card - 3) rest).first) refl f.0

  closed_forward : (set : LinkSetting) (number : Bool) (l : Line) (ls : List Line) → Closed After set (l ∷ ls) → MayFollow After Round (settles_rest set number (part_in set l.wave l.frame)) (l ∷ ls)
  closed_forward set number l ls c =
      let same : l ≡ c.line = cc (c.parts) in
      let rest : ls ≡ c.rest = cc (c.parts) in
      let sends : Sends l (block_ask set.kind set.fwi Deselect) = subst (λ (x : Line). Sends x (block_ask set.kind set.fwi Deselect)) (sym same) c.sends in
      subst (λ (o : Option Inf). MayFollow After Round (settles_rest set number o) (l ∷ ls)) (sym (part_sent set l Deselect refl sends))
      (sends, subst After (sym rest) c.cut)

  begun_forward : (set : LinkSetting) (number : Bool) (l : Line) (ls : List Line) → Wide set → Begun After set (rested number) (l ∷ ls) → MayFollow After Round (settles_rest set number (part_in set l.wave l.frame)) (l ∷ ls)
  begun_forward set number l ls wide b =
      subst (λ (o : Option Inf). MayFollow After Round (settles_rest set number o) (l ∷ ls)) (sym (next_in set number b.command l ls b.goes))
      (next_forward set number [] b.command l ls wide (some_rest b.command b.is) b.is b.goes)

  -- where a line can follow a closed link, a round is begun
  abbrev pub OpensBy : ℕ → Type 0
  OpensBy fsdi = (l : Line) (ls : List Line) → After (l ∷ ls) → Round (record { fsdi = fsdi; stage = Waking }) (l ∷ ls)

  pub settles_forward : (fsdi : ℕ) → OpensBy fsdi → (w : Watch) (l : Line) (ls : List Line) → IsWide w → Follows After Round w (l ∷ ls) → MayFollow After Round (settles fsdi w l.wave l.frame) (l ∷ ls)
  settles_forward fsdi opens Watching.Ready l ls wide f = opens l ls f
  settles_forward fsdi opens (Watching.InRound round) l ls wide f = f
  settles_forward fsdi opens (Watching.Resting set number) l ls wide f =
      ⊎_elim (λ c. closed_forward set number l ls c) (λ b. begun_forward set number l ls wide b) (from_rest After set (rested number) (l ∷ ls) f)
  settles_forward fsdi opens (Watching.Closing set) l ls wide f = f
  settles_forward fsdi opens (Watching.Between set number sent) l ls wide f =
      subst (λ (o : Option Inf). MayFollow After Round (settles_next set number sent o) (l ∷ ls)) (sym (next_in set number f.more l ls f.goes))
      (next_forward set number sent f.more l ls wide f.some f.is f.goes)
  settles_forward fsdi opens (Watching.Sending t p) l ls wide f = f
  settles_forward fsdi opens (Watching.Receiving t got) l ls wide f = f

-- ---- back

module _ (fsdi : ℕ) where
  pub next_by : (set : LinkSetting) (number : Bool) (sent : List ℕ) (inf : Inf) (ls : List Line) → Wide set → is_part (set.frames.card - 3) sent inf ≡ true
      → EachSending (IsCut fsdi) (fresh set number) (record { sent = sent; part = inf.bytes; chained = inf.chained }) ls → FromNext (IsCut fsdi) set number sent ls
  next_by set number sent inf ls wide is e =
      let w : Whole (set.frames.card - 3) sent inf.bytes e.left = whole_by (set.frames.card - 3) sent inf.bytes inf.chained e.left (omega (arith, wide)) is e.is in
      record {
        more = w.more;
        some = w.some;
        is = w.is;
        goes =
            subst (λ (p : List ℕ). FromTurn (IsCut fsdi) set (Asks (record { number = number; phase = Sending p (cut (set.frames.card - 3) w.more).others; since = [] })) ls) (sym w.first)
            (subst (λ (o : List (List ℕ)). FromTurn (IsCut fsdi) set (Asks (record { number = number; phase = Sending inf.bytes o; since = [] })) ls) (sym w.others)
            (e.goes [] (match_fresh set number)));
      }

  begins_back : (set : LinkSetting) (number : Bool) (sent : List ℕ) (inf : Inf) (ls : List Line) (b : Bool) → Wide set → is_part (set.frames.card - 3) sent inf ≡ b
      → MayFit fsdi (if b then Some (Watching.Sending (fresh set number) (record { sent = sent; part = inf.bytes; chained = inf.chained })) else None) ls → FromNext (IsCut fsdi) set number sent ls
  begins_back set number sent inf ls true wide e f = next_by set number sent inf ls wide e f
  begins_back set number sent inf ls false wide e f = absurd f

  closing_back : (set : LinkSetting) (number : Bool) (ls : List Line) → FromClosing (IsCut fsdi) set ls → FromRest (IsCut fsdi) set (rested number) ls
  closing_back set number [] f = absurd f
  closing_back set number (l ∷ ls) f = to_rest_closed (IsCut fsdi) set (rested number) l ls f.0 f.1

  rest_back : (set : LinkSetting) (number : Bool) (o : Option Inf) (ls : List Line) → Wide set → MayFit fsdi (settles_rest set number o) ls → FromRest (IsCut fsdi) set (rested number) ls
  rest_back set number None ls wide f = closing_back set number ls f
  rest_back set number (Some inf) ls wide f =
      let n : FromNext (IsCut fsdi) set number [] ls = begins_back set number [] inf ls (is_part (set.frames.card - 3) [] inf) wide refl f in
      to_rest_begun (IsCut fsdi) set (rested number) n.more ls n.is n.goes

  next_back : (set : LinkSetting) (number : Bool) (sent : List ℕ) (o : Option Inf) (ls : List Line) → Wide set → MayFit fsdi (settles_next set number sent o) ls → FromNext (IsCut fsdi) set number sent ls
  next_back set number sent None ls wide f = absurd f
  next_back set number sent (Some inf) ls wide f = begins_back set number sent inf ls (is_part (set.frames.card - 3) sent inf) wide refl f

  pub settles_back : (w : Watch) (wave : Wave) (frame : List ℕ) (ls : List Line) → IsWide w → MayFit fsdi (settles fsdi w wave frame) ls → Fits fsdi w ls
  settles_back Watching.Ready wave frame ls wide f = to_cut fsdi ls f.1
  settles_back (Watching.InRound round) wave frame ls wide f = f
  settles_back (Watching.Resting set number) wave frame ls wide f = rest_back set number (part_in set wave frame) ls wide f
  settles_back (Watching.Closing set) wave frame ls wide f = f
  settles_back (Watching.Between set number sent) wave frame ls wide f = next_back set number sent (part_in set wave frame) ls wide f
  settles_back (Watching.Sending t p) wave frame ls wide f = f
  settles_back (Watching.Receiving t got) wave frame ls wide f = f
