-- A frame comes as it was sent, or it isn't taken for a block.
use Rattle.std.proofs.Common.{◌≡◌, ℕ, ◌<◌, ◌≤◌, ◌^◌, ◌&&◌, Bool, true, false, List, [], ◌∷◌, length, Option, Some, None, refl, sym, subst, append-nil, ap, ◌∙◌, ◌⊎◌, inl, inr, arith, if◌then◌else◌, le-leb}
use Rattle.std.specs.Prelude.{nat_lt, nat_le, not}
use Rattle.ep_base.specs.declared.air.CardKind.{CardKind}
use Rattle.ep_base.specs.declared.air.CardKind.TheVariants as kinds
use Rattle.ep_base.specs.Air.Heard.{Silence, Noise, Frame, same_wave, wave_of_kind}
use Rattle.ep_base.specs.Air.Frame.{HasCheck, is_good, is_bare, hits, after_burst, sealed, opened, without_check}
use Rattle.ep_base.specs.Air.Fates.{Way, Passes, Loses, Bursts, Leaves, IsWay, Fate, AreFates, AllPass, next_fate, fates_after}
use Rattle.ep_base.specs.Link.Block.{Block, Deselect, ReadBlock, Bad, Intact, frame_length}
use Rattle.ep_base.specs.Link.OneLink.{comes_up}
use Rattle.ep_base.specs.Link.CardEnd.{is_halted}
use Rattle.ep_base.specs.Link.Spelling.{Read, spelled, is_block}
use Rattle.ep_base.specs.Link.LinkFrames.{heard_block, heard_opened, intact}
use Rattle.ep_base.specs.Link.Wire.{comes_down, comes_back, burst_down, burst_up, Party, Heeded, unmoved, maybe_frame, takes_block, takes_read, takes_opened, takes_frame, takes_down, aired, Wire, heard_down, wire_heeds, moved}
use Rattle.rf_frame.proofs.Opening.{ends_sealed, after_burst-missed}
use Rattle.rf_frame.proofs.BurstLaw.{burst_law}
use Rattle.law_wire.specs.Whole.{TakenWhole, HeardWhole, NothingIsBad, ClosesQuietly}
use Rattle.law_wire.proofs.Reading.{Sent, sent_block, spelled_reads, opened_spelled, sealed_length}

has_check : (kind : CardKind) → HasCheck (wave_of_kind kind)
has_check kinds.A = tt
has_check kinds.B = tt

not_bare : (kind : CardKind) → is_bare (wave_of_kind kind) ≡ false
not_bare kinds.A = refl
not_bare kinds.B = refl

own_wave : (kind : CardKind) → same_wave (wave_of_kind kind) (wave_of_kind kind) ≡ true
own_wave kinds.A = refl
own_wave kinds.B = refl

sealed_good : (kind : CardKind) (b : Block) → is_good (wave_of_kind kind) (sealed (wave_of_kind kind) (spelled b)) ≡ true
sealed_good kinds.A b = ends_sealed (wave_of_kind kinds.A) (spelled b) (omega arith)
sealed_good kinds.B b = ends_sealed (wave_of_kind kinds.B) (spelled b) (omega arith)

module _ (kind : CardKind) (b : Block) where
  abbrev frame : List ℕ
  frame = sealed (wave_of_kind kind) (spelled b)

  -- a burst leaves the frame as it is, or it isn't good any more
  burst_opened : (start mask : ℕ) → mask < 2 ^ 16 → (hit : Bool) → hits (wave_of_kind kind) start mask frame ≡ hit
      → opened (wave_of_kind kind) (after_burst (wave_of_kind kind) start mask frame) ≡ (if hit then None else Some (spelled b))
  burst_opened start mask few true e =
      ap (λ (x : Bool). if x then Some (without_check (wave_of_kind kind) (after_burst (wave_of_kind kind) start mask frame)) else None)
      (burst_law (wave_of_kind kind) start mask frame (has_check kind) few (sealed_good kind b) e)
  burst_opened start mask few false e =
      ap (λ (bytes : List ℕ). opened (wave_of_kind kind) bytes) (after_burst-missed (wave_of_kind kind) start mask frame e) ∙ opened_spelled kind b

  -- ---- down

  -- the card takes the block, or nothing
  abbrev pub went : Bool → Party → Heeded
  went true p = takes_block p b
  went false p = unmoved p

  -- a card that doesn't listen takes nothing
  listens : (p : Party) (c d : Bool) (h : Heeded) → h ≡ went d p → (x : Bool) × ((if c then h else unmoved p) ≡ went x p)
  listens p true d h e = (d, e)
  listens p false d h e = (false, refl)

  module _ (p : Party) (is : is_block b ≡ true) where
    takes_it : (hit : Bool) → takes_opened p (if hit then None else Some (spelled b)) ≡ went (not hit) p
    takes_it true = refl
    takes_it false = ap (λ (r : Read). takes_read p r) (spelled_reads b is)

    takes_whole : (bytes : List ℕ) (hit : Bool) → opened (wave_of_kind kind) bytes ≡ (if hit then None else Some (spelled b)) → (d : Bool) × (takes_frame p (wave_of_kind kind) bytes ≡ went d p)
    takes_whole bytes hit e =
        listens p (same_wave (wave_of_kind kind) (wave_of_kind p.kind) && not (is_halted p.card)) (not hit) (takes_opened p (opened (wave_of_kind kind) bytes))
        (ap (λ (o : Option (List ℕ)). takes_opened p o) e ∙ takes_it hit)

    way_down : (leg : Way) → IsWay leg → (d : Bool) × (takes_down p (wave_of_kind kind) (comes_down leg (wave_of_kind kind) frame) ≡ went d p)
    way_down Passes l = takes_whole frame false (opened_spelled kind b)
    way_down Loses l = (false, refl)
    way_down (Bursts start mask) l =
        let heard : burst_down start mask (wave_of_kind kind) frame ≡ Some (after_burst (wave_of_kind kind) start mask frame) =
        ap (λ (x : Bool). if x && hits (wave_of_kind kind) start mask frame then None else Some (after_burst (wave_of_kind kind) start mask frame)) (not_bare kind) in
        let taken = takes_whole (after_burst (wave_of_kind kind) start mask frame) (hits (wave_of_kind kind) start mask frame) (burst_opened start mask l (hits (wave_of_kind kind) start mask frame) refl) in
        (taken.0, ap (λ (o : Option (List ℕ)). takes_down p (wave_of_kind kind) o) heard ∙ taken.1)
    way_down Leaves l = (false, refl)

    -- and so where no frame comes down
    comes_or_not : (c : Bool) (o : Option (List ℕ)) → (d : Bool) × (takes_down p (wave_of_kind kind) o ≡ went d p) → (d : Bool) × (takes_down p (wave_of_kind kind) (if c then o else None) ≡ went d p)
    comes_or_not true o t = t
    comes_or_not false o t = (false, refl)

  -- ---- up

  module _ (fsd : ℕ) (is : is_block b ≡ true) (fits : frame_length b ≤ fsd) where
    heard_it : (bytes : List ℕ) → heard_block kind fsd (Frame (wave_of_kind kind) bytes) ≡ heard_opened fsd (length bytes) (opened (wave_of_kind kind) bytes)
    heard_it bytes = ap (λ (x : Bool). if x then heard_opened fsd (length bytes) (opened (wave_of_kind kind) bytes) else Bad) (own_wave kind)

    heard_spelled : heard_opened fsd (length frame) (Some (spelled b)) ≡ Intact b
    heard_spelled =
        let short : nat_le (length frame) fsd ≡ true = le-leb (length frame) fsd (omega (arith, sealed_length kind b, fits)) in
        rw short (ap intact (spelled_reads b is))

    heard_whole : heard_block kind fsd (Frame (wave_of_kind kind) frame) ≡ Intact b
    heard_whole = heard_it frame ∙ ap (λ (o : Option (List ℕ)). heard_opened fsd (length frame) o) (opened_spelled kind b) ∙ heard_spelled

    heard_hit : (start mask : ℕ) → mask < 2 ^ 16 → (hit : Bool) → hits (wave_of_kind kind) start mask frame ≡ hit
        → heard_block kind fsd (Frame (wave_of_kind kind) (after_burst (wave_of_kind kind) start mask frame)) ≡ comes_up (not hit) (Some b)
    heard_hit start mask few true e =
        heard_it _ ∙ ap (λ (o : Option (List ℕ)). heard_opened fsd (length (after_burst (wave_of_kind kind) start mask frame)) o) (burst_opened start mask few true e)
    heard_hit start mask few false e =
        ap (λ (bytes : List ℕ). heard_block kind fsd (Frame (wave_of_kind kind) bytes)) (after_burst-missed (wave_of_kind kind) start mask frame e) ∙ heard_whole

    way_up : (leg : Way) → IsWay leg → (up : Bool) × (heard_block kind fsd (comes_back leg (Frame (wave_of_kind kind) frame)) ≡ comes_up up (Some b))
    way_up Passes l = (true, heard_whole)
    way_up Loses l = (false, refl)
    way_up (Bursts start mask) l =
        let heard : burst_up start mask (Frame (wave_of_kind kind) frame) ≡ Frame (wave_of_kind kind) (after_burst (wave_of_kind kind) start mask frame) =
        ap (λ (x : Bool). if x && hits (wave_of_kind kind) start mask frame then Noise else Frame (wave_of_kind kind) (after_burst (wave_of_kind kind) start mask frame)) (not_bare kind) in
        (not (hits (wave_of_kind kind) start mask frame), ap (heard_block kind fsd) heard ∙ heard_hit start mask l (hits (wave_of_kind kind) start mask frame) refl)
    way_up Leaves l = (false, refl)

-- where every frame passes, the next one does
pub next_pass : (fates : List Fate) → AllPass fates → ((next_fate fates).down ≡ Passes) × ((next_fate fates).up ≡ Passes) × AllPass (fates_after fates)
next_pass [] all = (refl, refl, tt)
next_pass (f ∷ fates) all = all

-- the next fate, and those after it
pub next_ways : (fates : List Fate) → AreFates fates → IsWay (next_fate fates).down × IsWay (next_fate fates).up × AreFates (fates_after fates)
next_ways [] a = (tt, tt, tt)
next_ways (f ∷ fates) a = a

-- the card takes the block that was sent, or nothing
pub down_law : (kind : CardKind) (w : Wire) (b : Block) → is_block b ≡ true → AreFates w.air.fates
    → (d : Bool) × (wire_heeds w (wave_of_kind kind) (sealed (wave_of_kind kind) (spelled b)) ≡ went kind b d w.party)
down_law kind w b is fates =
    comes_or_not kind b w.party is (not w.air.gone && nat_lt (length w.log) w.room) (comes_down (next_fate w.air.fates).down (wave_of_kind kind) (sealed (wave_of_kind kind) (spelled b)))
    (way_down kind b w.party is (next_fate w.air.fates).down (next_ways w.air.fates fates).0)

-- a card that is there, and listens, takes the block where the frame passes and the log has a free record
pub takes_passed : (kind : CardKind) (w : Wire) (b : Block) → is_block b ≡ true → w.party.kind ≡ kind → is_halted w.party.card ≡ false
    → w.air.gone ≡ false → nat_lt (length w.log) w.room ≡ true → (next_fate w.air.fates).down ≡ Passes
    → wire_heeds w (wave_of_kind kind) (sealed (wave_of_kind kind) (spelled b)) ≡ takes_block w.party b
takes_passed kind w b is same awake here free pass =
    let wave = wave_of_kind kind in
    let bytes = sealed (wave_of_kind kind) (spelled b) in
    let down : heard_down w (wave_of_kind kind) (sealed (wave_of_kind kind) (spelled b)) ≡ Some (sealed (wave_of_kind kind) (spelled b)) =
    ap (λ (gone : Bool). if not gone && nat_lt (length w.log) w.room then comes_down (next_fate w.air.fates).down wave bytes else None) here
    ∙ ap (λ (c : Bool). if c then comes_down (next_fate w.air.fates).down wave bytes else None) free
    ∙ ap (λ (leg : Way). comes_down leg wave bytes) pass in
    let listens : (same_wave (wave_of_kind kind) (wave_of_kind w.party.kind) && not (is_halted w.party.card)) ≡ true =
    ap (λ (k : CardKind). same_wave wave (wave_of_kind k) && not (is_halted w.party.card)) same
    ∙ ap (λ (c : Bool). c && not (is_halted w.party.card)) (own_wave kind)
    ∙ ap (λ (c : Bool). not c) awake in
    ap (λ (o : Option (List ℕ)). takes_down w.party wave o) down
    ∙ ap (λ (c : Bool). if c then takes_opened w.party (opened wave bytes) else unmoved w.party) listens
    ∙ ap (λ (o : Option (List ℕ)). takes_opened w.party o) (opened_spelled kind b)
    ∙ ap (λ (r : Read). takes_read w.party r) (spelled_reads b is)

-- a block that the reader may hear, if any: one that the card sends, in a frame that the reader takes
abbrev pub MaySend : ℕ → Option Block → Type 0
MaySend fsd None = Unit {0}
MaySend fsd (Some b) = Sent b × (frame_length b ≤ fsd)

pub silent : (kind : CardKind) (fsd : ℕ) (leg : Way) → heard_block kind fsd (comes_back leg Silence) ≡ Bad
silent kind fsd Passes = refl
silent kind fsd Loses = refl
silent kind fsd (Bursts start mask) = refl
silent kind fsd Leaves = refl

-- the reader hears the card's answer, or a bad hearing
pub up_law : (kind : CardKind) (fsd : ℕ) (o : Option Block) → MaySend fsd o → (leg : Way) → IsWay leg
    → (up : Bool) × (heard_block kind fsd (comes_back leg (aired (maybe_frame kind o))) ≡ comes_up up o)
up_law kind fsd None may leg l = (true, silent kind fsd leg)
up_law kind fsd (Some b) may leg l = way_up kind b fsd (sent_block b may.0) may.1 leg l

-- where its frame passes, the reader hears it
pub hears_passed : (kind : CardKind) (fsd : ℕ) (o : Option Block) → MaySend fsd o → heard_block kind fsd (aired (maybe_frame kind o)) ≡ comes_up true o
hears_passed kind fsd None may = refl
hears_passed kind fsd (Some b) may = heard_whole kind b fsd (sent_block b may.0) may.1

-- ---- the same as laws

by_went : (kind : CardKind) (b : Block) (p : Party) (h : Heeded) (d : Bool) → h ≡ went kind b d p → (h ≡ takes_block p b) ⊎ (h ≡ unmoved p)
by_went kind b p h true e = inl e
by_went kind b p h false e = inr e

pub taken_whole : TakenWhole
taken_whole kind w b is fates =
    let x = down_law kind w b is fates in
    by_went kind b w.party (wire_heeds w (wave_of_kind kind) (sealed (wave_of_kind kind) (spelled b))) x.0 x.1

by_up : (b : Block) (h : ReadBlock) (up : Bool) → h ≡ comes_up up (Some b) → (h ≡ Intact b) ⊎ (h ≡ Bad)
by_up b h true e = inl e
by_up b h false e = inr e

pub heard_or_bad : HeardWhole
heard_or_bad kind fsd b leg is fits l =
    let x = way_up kind b fsd is fits leg l in
    by_up b (heard_block kind fsd (comes_back leg (Frame (wave_of_kind kind) (sealed (wave_of_kind kind) (spelled b))))) x.0 x.1

pub nothing_is_bad : NothingIsBad
nothing_is_bad = silent

-- after S(DESELECT)
closed : Wire → Heeded → Type 0
closed w h = ((moved w h).log ≡ w.log) × ((moved w h).party.image ≡ w.party.image)

by_closed : (kind : CardKind) (w : Wire) (d : Bool) → closed w (went kind Deselect d w.party)
unfolding closed
by_closed kind w true = (append-nil w.log, refl)
by_closed kind w false = (append-nil w.log, refl)

pub closes_quietly : ClosesQuietly
unfolding closed
closes_quietly kind w fates =
    let x = down_law kind w Deselect refl fates in
    subst (λ (h : Heeded). closed w h) (sym x.1) (by_closed kind w x.0)
