-- A hearing of a link takes the checker where it takes the readers for which it stands.
use Rattle.std.proofs.Common.{◌≡◌, ℕ, suc, ◌+◌, ◌-◌, Bool, true, false, List, [], ◌∷◌, ◌++◌, length, Option, Some, None, refl, sym, ap, ◌∙◌, subst, length-append}
use Rattle.std.specs.Prelude.{if◌then◌else◌, nat_lt, nat_le, ◌&&◌}
use Rattle.ep_base.specs.Link.Block.{I, RAck, RNak, Deselect, Wtx, ReadBlock, Bad, Junk, Intact, other, same, is_bad, is_wtx, is_nak, count}
use Rattle.ep_base.specs.Link.Parts.{more}
use Rattle.ep_base.specs.Link.ReaderEnd.{Reader, Sending, Receiving, Idle, ReaderTurn, Asks, Gives, Spends, Breaks, question, asked, kept, is_fit, appended, takes, on_bad, on_wtx, reader_hears}
use Rattle.ep_base.specs.Link.LinkFrames.{LinkSetting}
use Rattle.ep_base.specs.declared.limits.TheConstants.{RESPONSE, WAITS}
use Rattle.trace_check.specs.Lines.{Line}
use Rattle.trace_check.specs.Allowed.{IsCut}
use Rattle.trace_check.specs.declared.watch.Watch.{Watch}
use Rattle.trace_check.specs.declared.watch.Watch.TheVariants as Watching
use Rattle.trace_check.specs.Held.{RoundAt, Tally, Parts}
use Rattle.trace_check.specs.declared.latest.Latest.{Latest}
use Rattle.trace_check.specs.declared.latest.Latest.TheVariants.{Plain, Lost, Waits}
use Rattle.trace_check.specs.Watch.{block_by, part_block, ack_block, fresh, lost, waits, again, is_lost, fits, received, takes_part, after_bad, after_wtx, hears_receiving}
use Rattle.trace_check.proofs.Cuts.{FromTurn}
use Rattle.trace_check.proofs.Futures.{latest_of, Matches, Left, sending, receiving, MayFollow, MayFit}

-- ---- what is asked

pub asks_part : (n ch : Bool) (part : List ℕ) (left : List (List ℕ)) (since : List ReadBlock) → more left ≡ ch → question n (Sending part left) since ≡ block_by (latest_of since) (I n ch part) (RNak n)
asks_part n ch part left [] e = ap (λ (c : Bool). I n c part) e
asks_part n ch part left (Bad ∷ s) e = refl
asks_part n ch part left (Junk ∷ s) e = ap (λ (c : Bool). I n c part) e
asks_part n ch part left (Intact (I k c inf) ∷ s) e = ap (λ (c : Bool). I n c part) e
asks_part n ch part left (Intact (RAck k) ∷ s) e = ap (λ (c : Bool). I n c part) e
asks_part n ch part left (Intact (RNak k) ∷ s) e = ap (λ (c : Bool). I n c part) e
asks_part n ch part left (Intact Deselect ∷ s) e = ap (λ (c : Bool). I n c part) e
asks_part n ch part left (Intact (Wtx p m) ∷ s) e = refl

pub asks_ack : (n : Bool) (got : List ℕ) (since : List ReadBlock) → question n (Receiving got) since ≡ block_by (latest_of since) (RAck n) (RAck n)
asks_ack n got [] = refl
asks_ack n got (Bad ∷ s) = refl
asks_ack n got (Junk ∷ s) = refl
asks_ack n got (Intact (I k c inf) ∷ s) = refl
asks_ack n got (Intact (RAck k) ∷ s) = refl
asks_ack n got (Intact (RNak k) ∷ s) = refl
asks_ack n got (Intact Deselect ∷ s) = refl
asks_ack n got (Intact (Wtx p m) ∷ s) = refl

pub more_left : (size : ℕ) (bytes : List ℕ) (ch : Bool) (left : List (List ℕ)) → Left size bytes ch left → more left ≡ ch
more_left size bytes false left h = ap more h
more_left size bytes true left h = ap more h.parts

pub sends_part : (t : Tally) (p : Parts) (left : List (List ℕ)) (since : List ReadBlock) → Left (t.set.frames.card - 3) (p.sent ++ p.part) p.chained left → Matches t since → asked (sending t p left since) ≡ part_block t p
sends_part t p left since is m =
    asks_part t.number p.chained p.part left since (more_left (t.set.frames.card - 3) (p.sent ++ p.part) p.chained left is)
    ∙ ap (λ (x : Latest). block_by x (I t.number p.chained p.part) (RNak t.number)) m.latest

pub sends_ack : (t : Tally) (got : List ℕ) (since : List ReadBlock) → Matches t since → asked (receiving t got since) ≡ ack_block t
sends_ack t got since m = asks_ack t.number got since ∙ ap (λ (x : Latest). block_by x (RAck t.number) (RAck t.number)) m.latest

-- an R(NAK) is sent exactly after a bad hearing
pub nak_by : (x : Latest) (n ch : Bool) (part : List ℕ) → is_nak (block_by x (I n ch part) (RNak n)) ≡ is_lost x
nak_by Plain n ch part = refl
nak_by Lost n ch part = refl
nak_by (Waits m) n ch part = refl

pub not_nak_by : (x : Latest) (n : Bool) → is_nak (block_by x (RAck n) (RAck n)) ≡ false
not_nak_by Plain n = refl
not_nak_by Lost n = refl
not_nak_by (Waits m) n = refl

-- ---- what is counted

pub match_fresh : (set : LinkSetting) (n : Bool) → Matches (fresh set n) []
match_fresh set n = record { latest = refl; bad = refl; wtx = refl }

pub match_lost : (t : Tally) (since : List ReadBlock) → Matches t since → Matches (lost t) (Bad ∷ since)
match_lost t since m = record { latest = refl; bad = ap suc m.bad; wtx = m.wtx }

pub match_waits : (t : Tally) (since : List ReadBlock) (p w : ℕ) → Matches t since → Matches (waits w t) (Intact (Wtx p w) ∷ since)
match_waits t since p w m = record { latest = refl; bad = m.bad; wtx = ap suc m.wtx }

pub match_again : (t : Tally) (since : List ReadBlock) (k : Bool) → Matches t since → Matches (again t) (Intact (RAck k) ∷ since)
match_again t since k m = record { latest = refl; bad = m.bad; wtx = m.wtx }

-- ---- what fits

pub fit_by : (frame : ℕ) (got : List ℕ) (ch : Bool) (inf : List ℕ) → is_fit frame got ch inf ≡ fits frame (length got) ch (length inf)
fit_by frame got true inf = ap (λ (n : ℕ). nat_le (length inf + 3) frame && nat_lt 0 (length inf) && nat_le n RESPONSE) (length-append got inf)
fit_by frame got false inf = ap (λ (n : ℕ). nat_le (length inf + 3) frame && nat_le 2 n && nat_le n RESPONSE) (length-append got inf)

-- ---- two tests alike

-- both sides go by one test
pub alike : {X Y : Type 0} (P : X → Type 0) (Q : Y → Type 0) (b : Bool) (x y : X) (u v : Y) → (b ≡ true → P x → Q u) → (b ≡ false → P y → Q v) → P (if b then x else y) → Q (if b then u else v)
alike P Q true x y u v f g h = f refl h
alike P Q false x y u v f g h = g refl h

-- ---- forward

module _ (After : List Line → Type 0) (Round : RoundAt → List Line → Type 0) (t : Tally) (ls : List Line) where
  took : (got : List ℕ) (ch : Bool) (inf : List ℕ) (r : Reader) → r.number ≡ t.number → FromTurn After t.set (appended got ch inf r) ls → MayFollow After Round (Some (received t (length got + length inf) ch)) ls
  took got true inf r n h = record {
    bytes = got ++ inf;
    since = [];
    len = length-append got inf;
    matches = match_fresh t.set (other t.number);
    goes = subst (λ (k : Bool). FromTurn After t.set (Asks (record { number = other k; phase = Receiving (got ++ inf); since = [] })) ls) n h;
  }
  took got false inf r n h = subst (λ (k : Bool). FromTurn After t.set (Gives (got ++ inf) (record { number = other k; phase = Idle; since = [] })) ls) n h

  pub takes_forward : (got : List ℕ) (ch : Bool) (inf : List ℕ) (r : Reader) → r.number ≡ t.number → FromTurn After t.set (takes t.set.frames.reader got ch inf r) ls → MayFollow After Round (takes_part t (length got) ch (length inf)) ls
  takes_forward got ch inf r n h =
      alike (λ (x : ReaderTurn). FromTurn After t.set x ls) (λ (w : Option Watch). MayFollow After Round w ls) (fits t.set.frames.reader (length got) ch (length inf))
      (appended got ch inf r) (Breaks r) (Some (received t (length got + length inf) ch)) None
      (λ e. took got ch inf r n) (λ e x. absurd x)
      (subst (λ (b : Bool). FromTurn After t.set (if b then appended got ch inf r else Breaks r) ls) (fit_by t.set.frames.reader got ch inf) h)

  pub bad_forward : (r : Reader) (w : Watch) → count is_bad r.since ≡ t.bad → (FromTurn After t.set (Asks (kept Bad r)) ls → MayFollow After Round (Some w) ls) → FromTurn After t.set (on_bad (kept Bad r)) ls → MayFollow After Round (Some (after_bad t w)) ls
  bad_forward r w m on h =
      alike (λ (x : ReaderTurn). FromTurn After t.set x ls) (λ (v : Watch). MayFollow After Round (Some v) ls) (nat_lt (suc t.bad) 3)
      (Asks (kept Bad r)) (Spends (kept Bad r)) w Watching.Ready
      (λ e. on) (λ e x. x)
      (subst (λ (n : ℕ). FromTurn After t.set (if nat_lt (suc n) 3 then Asks (kept Bad r) else Spends (kept Bad r)) ls) m h)

  pub wtx_forward : (r : Reader) (w : Watch) (p m : ℕ) → count is_wtx r.since ≡ t.wtx → (FromTurn After t.set (Asks (kept (Intact (Wtx p m)) r)) ls → MayFollow After Round (Some w) ls) → FromTurn After t.set (on_wtx (Intact (Wtx p m)) r) ls → MayFollow After Round (after_wtx t w) ls
  wtx_forward r w p m e on h =
      alike (λ (x : ReaderTurn). FromTurn After t.set x ls) (λ (v : Option Watch). MayFollow After Round v ls) (nat_le (suc t.wtx) WAITS)
      (Asks (kept (Intact (Wtx p m)) r)) (Breaks r) (Some w) None
      (λ b. on) (λ b x. absurd x)
      (subst (λ (n : ℕ). FromTurn After t.set (if nat_le (suc n) WAITS then Asks (kept (Intact (Wtx p m)) r) else Breaks r) ls) e h)

  pub receiving_forward : (got : List ℕ) (since : List ReadBlock) (h : ReadBlock) → Matches t since → FromTurn After t.set (reader_hears t.set.frames.reader (receiving t got since) h) ls → MayFollow After Round (hears_receiving t (length got) h) ls
  receiving_forward got since Bad m f =
      bad_forward (receiving t got since) (Watching.Receiving (lost t) (length got)) m.bad
      (λ g. record { bytes = got; since = Bad ∷ since; len = refl; matches = match_lost t since m; goes = g }) f
  receiving_forward got since Junk m f = absurd f
  receiving_forward got since (Intact (I k ch inf)) m f =
      alike (λ (x : ReaderTurn). FromTurn After t.set x ls) (λ (w : Option Watch). MayFollow After Round w ls) (same k t.number)
      (takes t.set.frames.reader got ch inf (receiving t got since)) (Breaks (receiving t got since)) (takes_part t (length got) ch (length inf)) None
      (λ e. takes_forward got ch inf (receiving t got since) refl) (λ e x. absurd x) f
  receiving_forward got since (Intact (RAck k)) m f =
      let asks : is_nak (asked (receiving t got since)) ≡ false = ap is_nak (sends_ack t got since m) ∙ not_nak_by t.latest t.number in
      let g = subst (λ (b : Bool). FromTurn After t.set (if same k t.number then Breaks (receiving t got since) else (if b then Asks (kept (Intact (RAck k)) (receiving t got since)) else Breaks (receiving t got since))) ls) asks f in
      absurd (alike (λ (x : ReaderTurn). FromTurn After t.set x ls) (λ (w : Unit {0}). ⊥) (same k t.number)
      (Breaks (receiving t got since)) (Breaks (receiving t got since)) tt tt (λ e x. x) (λ e x. x) g)
  receiving_forward got since (Intact (RNak k)) m f = absurd f
  receiving_forward got since (Intact Deselect) m f = absurd f
  receiving_forward got since (Intact (Wtx p w)) m f =
      wtx_forward (receiving t got since) (Watching.Receiving (waits w t) (length got)) p w m.wtx
      (λ g. record { bytes = got; since = Intact (Wtx p w) ∷ since; len = refl; matches = match_waits t since p w m; goes = g }) f

-- ---- back

module _ (fsdi : ℕ) (t : Tally) (ls : List Line) where
  gave : (got : List ℕ) (ch : Bool) (inf : List ℕ) (r : Reader) → r.number ≡ t.number → MayFit fsdi (Some (received t (length got + length inf) ch)) ls → FromTurn (IsCut fsdi) t.set (appended got ch inf r) ls
  gave got true inf r n f =
      subst (λ (k : Bool). FromTurn (IsCut fsdi) t.set (Asks (record { number = other k; phase = Receiving (got ++ inf); since = [] })) ls) (sym n)
      (f (got ++ inf) [] (length-append got inf) (match_fresh t.set (other t.number)))
  gave got false inf r n f = subst (λ (k : Bool). FromTurn (IsCut fsdi) t.set (Gives (got ++ inf) (record { number = other k; phase = Idle; since = [] })) ls) (sym n) f

  pub takes_back : (got : List ℕ) (ch : Bool) (inf : List ℕ) (r : Reader) → r.number ≡ t.number → MayFit fsdi (takes_part t (length got) ch (length inf)) ls → FromTurn (IsCut fsdi) t.set (takes t.set.frames.reader got ch inf r) ls
  takes_back got ch inf r n f =
      subst (λ (b : Bool). FromTurn (IsCut fsdi) t.set (if b then appended got ch inf r else Breaks r) ls) (sym (fit_by t.set.frames.reader got ch inf))
      (alike (λ (w : Option Watch). MayFit fsdi w ls) (λ (x : ReaderTurn). FromTurn (IsCut fsdi) t.set x ls) (fits t.set.frames.reader (length got) ch (length inf))
      (Some (received t (length got + length inf) ch)) None (appended got ch inf r) (Breaks r)
      (λ e. gave got ch inf r n) (λ e x. absurd x) f)

  pub bad_back : (r : Reader) (b : Bool) → nat_lt (suc t.bad) 3 ≡ b → count is_bad r.since ≡ t.bad → FromTurn (IsCut fsdi) t.set (if b then Asks (kept Bad r) else Spends (kept Bad r)) ls → FromTurn (IsCut fsdi) t.set (on_bad (kept Bad r)) ls
  bad_back r b e m f =
      subst (λ (n : ℕ). FromTurn (IsCut fsdi) t.set (if nat_lt (suc n) 3 then Asks (kept Bad r) else Spends (kept Bad r)) ls) (sym m)
      (subst (λ (c : Bool). FromTurn (IsCut fsdi) t.set (if c then Asks (kept Bad r) else Spends (kept Bad r)) ls) (sym e) f)

  pub wtx_back : (r : Reader) (p m : ℕ) → count is_wtx r.since ≡ t.wtx → nat_le (suc t.wtx) WAITS ≡ true → FromTurn (IsCut fsdi) t.set (Asks (kept (Intact (Wtx p m)) r)) ls → FromTurn (IsCut fsdi) t.set (on_wtx (Intact (Wtx p m)) r) ls
  wtx_back r p m e b f =
      subst (λ (n : ℕ). FromTurn (IsCut fsdi) t.set (if nat_le (suc n) WAITS then Asks (kept (Intact (Wtx p m)) r) else Breaks r) ls) (sym e)
      (subst (λ (c : Bool). FromTurn (IsCut fsdi) t.set (if c then Asks (kept (Intact (Wtx p m)) r) else Breaks r) ls) (sym b) f)

  receiving_bad : (got : List ℕ) (since : List ReadBlock) (b : Bool) → nat_lt (suc t.bad) 3 ≡ b → Matches t since → MayFit fsdi (Some (if b then Watching.Receiving (lost t) (length got) else Watching.Ready)) ls → FromTurn (IsCut fsdi) t.set (on_bad (kept Bad (receiving t got since))) ls
  receiving_bad got since true e m f = bad_back (receiving t got since) true e m.bad (f got (Bad ∷ since) refl (match_lost t since m))
  receiving_bad got since false e m f = bad_back (receiving t got since) false e m.bad f

  receiving_wtx : (got : List ℕ) (since : List ReadBlock) (p w : ℕ) (b : Bool) → nat_le (suc t.wtx) WAITS ≡ b → Matches t since → MayFit fsdi (if b then Some (Watching.Receiving (waits w t) (length got)) else None) ls → FromTurn (IsCut fsdi) t.set (on_wtx (Intact (Wtx p w)) (receiving t got since)) ls
  receiving_wtx got since p w true e m f = wtx_back (receiving t got since) p w m.wtx e (f got (Intact (Wtx p w) ∷ since) refl (match_waits t since p w m))
  receiving_wtx got since p w false e m f = absurd f

  pub receiving_back : (got : List ℕ) (since : List ReadBlock) (h : ReadBlock) → Matches t since → MayFit fsdi (hears_receiving t (length got) h) ls → FromTurn (IsCut fsdi) t.set (reader_hears t.set.frames.reader (receiving t got since) h) ls
  receiving_back got since Bad m f = receiving_bad got since (nat_lt (suc t.bad) 3) refl m f
  receiving_back got since Junk m f = absurd f
  receiving_back got since (Intact (I k ch inf)) m f =
      alike (λ (w : Option Watch). MayFit fsdi w ls) (λ (x : ReaderTurn). FromTurn (IsCut fsdi) t.set x ls) (same k t.number)
      (takes_part t (length got) ch (length inf)) None (takes t.set.frames.reader got ch inf (receiving t got since)) (Breaks (receiving t got since))
      (λ e. takes_back got ch inf (receiving t got since) refl) (λ e x. absurd x) f
  receiving_back got since (Intact (RAck k)) m f = absurd f
  receiving_back got since (Intact (RNak k)) m f = absurd f
  receiving_back got since (Intact Deselect) m f = absurd f
  receiving_back got since (Intact (Wtx p w)) m f = receiving_wtx got since p w (nat_le (suc t.wtx) WAITS) refl m f
