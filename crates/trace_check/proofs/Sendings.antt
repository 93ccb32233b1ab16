-- A hearing while a command is sent takes the checker where it takes the readers for which it stands.
use Rattle.std.proofs.Common.{◌≡◌, ℕ, suc, ◌-◌, Bool, true, false, List, [], ◌∷◌, ◌++◌, length, Option, Some, None, refl, sym, ap, ◌∙◌, subst}
use Rattle.std.specs.Prelude.{if◌then◌else◌, nat_lt, nat_le}
use Rattle.ep_base.specs.Link.Block.{I, RAck, RNak, Deselect, Wtx, ReadBlock, Bad, Junk, Intact, same, is_nak}
use Rattle.ep_base.specs.Link.Parts.{cut}
use Rattle.ep_base.specs.Link.ReaderEnd.{Reader, Sending, ReaderTurn, Asks, Breaks, asked, kept, on_i, on_ack, reader_hears}
use Rattle.ep_base.specs.declared.limits.TheConstants.{WAITS}
use Rattle.trace_check.specs.Lines.{Line}
use Rattle.trace_check.specs.Allowed.{IsCut}
use Rattle.trace_check.specs.declared.watch.Watch.{Watch}
use Rattle.trace_check.specs.declared.watch.Watch.TheVariants as Watching
use Rattle.trace_check.specs.Held.{RoundAt, Tally, Parts}
use Rattle.trace_check.specs.Watch.{lost, waits, again, is_lost, answered, taken, hears_sending}
use Rattle.trace_check.proofs.Cuts.{FromTurn}
use Rattle.trace_check.proofs.Futures.{Matches, Left, SomeLeft, sending, MayFollow, MayFit}
use Rattle.trace_check.proofs.Hearing.{sends_part, nak_by, match_lost, match_waits, match_again, alike, takes_forward, takes_back, bad_forward, bad_back, wtx_forward, wtx_back}

-- ---- forward

module _ (After : List Line → Type 0) (Round : RoundAt → List Line → Type 0) (t : Tally) (ls : List Line) where
  -- an I-block with the current number
  part_forward : (sent part : List ℕ) (c : Bool) (left : List (List ℕ)) (since : List ReadBlock) (ch : Bool) (inf : List ℕ) → Left (t.set.frames.card - 3) (sent ++ part) c left
      → FromTurn After t.set (on_i t.set.frames.reader (Sending part left) ch inf (sending t (record { sent = sent; part = part; chained = c }) left since)) ls
      → MayFollow After Round (answered t (record { sent = sent; part = part; chained = c }) ch (length inf)) ls
  part_forward sent part false left since ch inf is f =
      let p : Parts = record { sent = sent; part = part; chained = false } in
      takes_forward After Round t ls [] ch inf (sending t p left since) refl
      (subst (λ (l : List (List ℕ)). FromTurn After t.set (on_i t.set.frames.reader (Sending part l) ch inf (sending t p left since)) ls) is f)
  part_forward sent part true left since ch inf is f =
      let p : Parts = record { sent = sent; part = part; chained = true } in
      absurd (subst (λ (l : List (List ℕ)). FromTurn After t.set (on_i t.set.frames.reader (Sending part l) ch inf (sending t p left since)) ls) is.parts f)

  -- an R(ACK) with the current number
  ack_forward : (sent part : List ℕ) (c : Bool) (left : List (List ℕ)) (since : List ReadBlock) → Left (t.set.frames.card - 3) (sent ++ part) c left
      → FromTurn After t.set (on_ack (Sending part left) (sending t (record { sent = sent; part = part; chained = c }) left since)) ls
      → MayFollow After Round (taken t (record { sent = sent; part = part; chained = c })) ls
  ack_forward sent part false left since is f =
      let p : Parts = record { sent = sent; part = part; chained = false } in
      absurd (subst (λ (l : List (List ℕ)). FromTurn After t.set (on_ack (Sending part l) (sending t p left since)) ls) is f)
  ack_forward sent part true left since is f =
      let p : Parts = record { sent = sent; part = part; chained = true } in
      record {
        more = is.more;
        some = is.some;
        is = is.is;
        goes = subst (λ (l : List (List ℕ)). FromTurn After t.set (on_ack (Sending part l) (sending t p left since)) ls) is.parts f;
      }

  pub sending_forward : (p : Parts) (left : List (List ℕ)) (since : List ReadBlock) (h : ReadBlock) → Left (t.set.frames.card - 3) (p.sent ++ p.part) p.chained left → Matches t since
      → FromTurn After t.set (reader_hears t.set.frames.reader (sending t p left since) h) ls → MayFollow After Round (hears_sending t p h) ls
  sending_forward p left since Bad is m f =
      bad_forward After Round t ls (sending t p left since) (Watching.Sending (lost t) p) m.bad
      (λ g. record { left = left; since = Bad ∷ since; is = is; matches = match_lost t since m; goes = g }) f
  sending_forward p left since Junk is m f = absurd f
  sending_forward p left since (Intact (I k ch inf)) is m f =
      alike (λ (x : ReaderTurn). FromTurn After t.set x ls) (λ (w : Option Watch). MayFollow After Round w ls) (same k t.number)
      (on_i t.set.frames.reader (Sending p.part left) ch inf (sending t p left since)) (Breaks (sending t p left since)) (answered t p ch (length inf)) None
      (λ e. part_forward p.sent p.part p.chained left since ch inf is) (λ e x. absurd x) f
  sending_forward p left since (Intact (RAck k)) is m f =
      let r : Reader = sending t p left since in
      let asks : is_nak (asked r) ≡ is_lost t.latest = ap is_nak (sends_part t p left since is m) ∙ nak_by t.latest t.number p.chained p.part in
      alike (λ (x : ReaderTurn). FromTurn After t.set x ls) (λ (w : Option Watch). MayFollow After Round w ls) (same k t.number)
      (on_ack (Sending p.part left) r) (if is_lost t.latest then Asks (kept (Intact (RAck k)) r) else Breaks r) (taken t p) (if is_lost t.latest then Some (Watching.Sending (again t) p) else None)
      (λ e. ack_forward p.sent p.part p.chained left since is)
      (λ e. alike (λ (x : ReaderTurn). FromTurn After t.set x ls) (λ (w : Option Watch). MayFollow After Round w ls) (is_lost t.latest)
      (Asks (kept (Intact (RAck k)) r)) (Breaks r) (Some (Watching.Sending (again t) p)) None
      (λ e g. record { left = left; since = Intact (RAck k) ∷ since; is = is; matches = match_again t since k m; goes = g }) (λ e x. absurd x))
      (subst (λ (b : Bool). FromTurn After t.set (if same k t.number then on_ack (Sending p.part left) r else (if b then Asks (kept (Intact (RAck k)) r) else Breaks r)) ls) asks f)
  sending_forward p left since (Intact (RNak k)) is m f = absurd f
  sending_forward p left since (Intact Deselect) is m f = absurd f
  sending_forward p left since (Intact (Wtx q w)) is m f =
      wtx_forward After Round t ls (sending t p left since) (Watching.Sending (waits w t) p) q w m.wtx
      (λ g. record { left = left; since = Intact (Wtx q w) ∷ since; is = is; matches = match_waits t since q w m; goes = g }) f

-- ---- back

module _ (fsdi : ℕ) (t : Tally) (ls : List Line) where
  -- after a hearing, for each reader that sent this part of some command
  pub record HearsEach (p : Parts) (h : ReadBlock) : Type 0 where
    pub left : List (List ℕ)
    pub is : Left (t.set.frames.card - 3) (p.sent ++ p.part) p.chained left
    pub goes : (since : List ReadBlock) → Matches t since → FromTurn (IsCut fsdi) t.set (reader_hears t.set.frames.reader (sending t p left since) h) ls

  sending_bad : (p : Parts) (b : Bool) → nat_lt (suc t.bad) 3 ≡ b → SomeLeft (t.set.frames.card - 3) p → MayFit fsdi (Some (if b then Watching.Sending (lost t) p else Watching.Ready)) ls → HearsEach p Bad
  sending_bad p true e some f =
      record { left = f.left; is = f.is; goes = λ since m. bad_back fsdi t ls (sending t p f.left since) true e m.bad (f.goes (Bad ∷ since) (match_lost t since m)) }
  sending_bad p false e some f = record { left = some.left; is = some.is; goes = λ since m. bad_back fsdi t ls (sending t p some.left since) false e m.bad f }

  sending_wtx : (p : Parts) (q w : ℕ) (b : Bool) → nat_le (suc t.wtx) WAITS ≡ b → MayFit fsdi (if b then Some (Watching.Sending (waits w t) p) else None) ls → HearsEach p (Intact (Wtx q w))
  sending_wtx p q w true e f =
      record { left = f.left; is = f.is; goes = λ since m. wtx_back fsdi t ls (sending t p f.left since) q w m.wtx e (f.goes (Intact (Wtx q w) ∷ since) (match_waits t since q w m)) }
  sending_wtx p q w false e f = absurd f

  part_back : (sent part : List ℕ) (c : Bool) (k ch : Bool) (inf : List ℕ) → same k t.number ≡ true → MayFit fsdi (answered t (record { sent = sent; part = part; chained = c }) ch (length inf)) ls
      → HearsEach (record { sent = sent; part = part; chained = c }) (Intact (I k ch inf))
  part_back sent part false k ch inf e f =
      let p : Parts = record { sent = sent; part = part; chained = false } in
      record {
        left = [];
        is = refl;
        goes = λ since m. subst (λ (b : Bool). FromTurn (IsCut fsdi) t.set (if b then on_i t.set.frames.reader (Sending part []) ch inf (sending t p [] since) else Breaks (sending t p [] since)) ls) (sym e)
            (takes_back fsdi t ls [] ch inf (sending t p [] since) refl f);
      }
  part_back sent part true k ch inf e f = absurd f

  ack_back : (sent part : List ℕ) (c k : Bool) → same k t.number ≡ true → MayFit fsdi (taken t (record { sent = sent; part = part; chained = c })) ls → HearsEach (record { sent = sent; part = part; chained = c }) (Intact (RAck k))
  ack_back sent part false k e f = absurd f
  ack_back sent part true k e f =
      let p : Parts = record { sent = sent; part = part; chained = true } in
      let parts : List (List ℕ) = (cut (t.set.frames.card - 3) f.more).first ∷ (cut (t.set.frames.card - 3) f.more).others in
      record {
        left = parts;
        is = record { more = f.more; some = f.some; is = f.is; parts = refl };
        goes = λ since m. subst (λ (b : Bool). FromTurn (IsCut fsdi) t.set (if b then on_ack (Sending part parts) (sending t p parts since) else (if is_nak (asked (sending t p parts since)) then Asks (kept (Intact (RAck k)) (sending t p parts since)) else Breaks (sending t p parts since))) ls) (sym e) f.goes;
      }

  again_back : (p : Parts) (k b : Bool) → is_lost t.latest ≡ b → same k t.number ≡ false → MayFit fsdi (if b then Some (Watching.Sending (again t) p) else None) ls → HearsEach p (Intact (RAck k))
  again_back p k true e differ f = record {
    left = f.left;
    is = f.is;
    goes = λ since m.
        let r : Reader = sending t p f.left since in
        let asks : is_nak (asked r) ≡ true = ap is_nak (sends_part t p f.left since f.is m) ∙ nak_by t.latest t.number p.chained p.part ∙ e in
        subst (λ (b : Bool). FromTurn (IsCut fsdi) t.set (if b then on_ack (Sending p.part f.left) r else (if is_nak (asked r) then Asks (kept (Intact (RAck k)) r) else Breaks r)) ls) (sym differ)
        (subst (λ (b : Bool). FromTurn (IsCut fsdi) t.set (if b then Asks (kept (Intact (RAck k)) r) else Breaks r) ls) (sym asks) (f.goes (Intact (RAck k) ∷ since) (match_again t since k m)));
  }
  again_back p k false e differ f = absurd f

  pub sending_back : (p : Parts) (h : ReadBlock) → SomeLeft (t.set.frames.card - 3) p → MayFit fsdi (hears_sending t p h) ls → HearsEach p h
  sending_back p Bad some f = sending_bad p (nat_lt (suc t.bad) 3) refl some f
  sending_back p Junk some f = absurd f
  sending_back p (Intact (I k ch inf)) some f =
      alike (λ (w : Option Watch). MayFit fsdi w ls) (λ (x : Unit {0}). HearsEach p (Intact (I k ch inf))) (same k t.number) (answered t p ch (length inf)) None tt tt
      (λ e. part_back p.sent p.part p.chained k ch inf e) (λ e x. absurd x) f
  sending_back p (Intact (RAck k)) some f =
      alike (λ (w : Option Watch). MayFit fsdi w ls) (λ (x : Unit {0}). HearsEach p (Intact (RAck k))) (same k t.number) (taken t p) (if is_lost t.latest then Some (Watching.Sending (again t) p) else None) tt tt
      (λ e. ack_back p.sent p.part p.chained k e) (λ e. again_back p k (is_lost t.latest) refl e) f
  sending_back p (Intact (RNak k)) some f = absurd f
  sending_back p (Intact Deselect) some f = absurd f
  sending_back p (Intact (Wtx q w)) some f = sending_wtx p q w (nat_le (suc t.wtx) WAITS) refl f
