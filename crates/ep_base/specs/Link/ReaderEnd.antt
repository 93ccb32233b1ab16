-- The reader's end of a link (ISO/IEC 14443-4; the counts 3 and 16, the bounds of a response and the breaches are this project's profile).
use Rattle.std.specs.Prelude.{ℕ, ◌+◌, ◌-◌, nat_le, nat_lt, ◌&&◌, Bool, true, false, if◌then◌else◌, List, [], ◌∷◌, ◌++◌, length}
use Rattle.ep_base.specs.Link.Block.{Block, I, RAck, RNak, Deselect, Wtx, ReadBlock, Bad, Junk, Intact, other, same, is_bad, is_wtx, is_nak, count}
use Rattle.ep_base.specs.Link.Parts.{cut, more}
use Rattle.ep_base.specs.declared.limits.TheConstants.{RESPONSE, WAITS}

-- No command is open; or this part of the command was sent, and these are left; or these bytes of the response came, and the card chains.
pub data Phase : Type 0 where
  Idle : Phase
  Sending : (part : List ℕ) (left : List (List ℕ)) → Phase
  Receiving : (got : List ℕ) → Phase

-- The block number, the phase, and what was heard since the toggle, the latest first.
pub record Reader : Type 0 where
  pub number : Bool
  pub phase : Phase
  pub since : List ReadBlock

-- The block that the reader sends: it follows from the phase and the latest hearing since the toggle.
abbrev pub question : Bool → Phase → List ReadBlock → Block
question n Idle since = Deselect
question n (Sending part left) [] = I n (more left) part
question n (Sending part left) (Bad ∷ since) = RNak n
question n (Sending part left) (Junk ∷ since) = I n (more left) part
question n (Sending part left) (Intact (I k ch inf) ∷ since) = I n (more left) part
question n (Sending part left) (Intact (RAck k) ∷ since) = I n (more left) part
question n (Sending part left) (Intact (RNak k) ∷ since) = I n (more left) part
question n (Sending part left) (Intact Deselect ∷ since) = I n (more left) part
question n (Sending part left) (Intact (Wtx p m) ∷ since) = Wtx 0 m
question n (Receiving got) [] = RAck n
question n (Receiving got) (Bad ∷ since) = RAck n
question n (Receiving got) (Junk ∷ since) = RAck n
question n (Receiving got) (Intact (I k ch inf) ∷ since) = RAck n
question n (Receiving got) (Intact (RAck k) ∷ since) = RAck n
question n (Receiving got) (Intact (RNak k) ∷ since) = RAck n
question n (Receiving got) (Intact Deselect ∷ since) = RAck n
question n (Receiving got) (Intact (Wtx p m) ∷ since) = Wtx 0 m

abbrev pub asked : Reader → Block
asked r = question r.number r.phase r.since

-- What a hearing leads to: the next block, the response of the command, a spent link, or a broken rule.
pub data ReaderTurn : Type 0 where
  Asks : Reader → ReaderTurn
  Gives : List ℕ → Reader → ReaderTurn
  Spends : Reader → ReaderTurn
  Breaks : Reader → ReaderTurn

-- A hearing without a toggle.
abbrev pub kept : ReadBlock → Reader → Reader
kept h r = record { number = r.number; phase = r.phase; since = h ∷ r.since }

abbrev pub toggled : Phase → Reader → Reader
toggled phase r = record { number = other r.number; phase = phase; since = [] }

-- The part may be taken after these bytes.
abbrev pub is_fit : ℕ → List ℕ → Bool → List ℕ → Bool
is_fit frame got true inf = nat_le (length inf + 3) frame && nat_lt 0 (length inf) && nat_le (length (got ++ inf)) RESPONSE
is_fit frame got false inf = nat_le (length inf + 3) frame && nat_le 2 (length (got ++ inf)) && nat_le (length (got ++ inf)) RESPONSE

-- A part of the response.
abbrev pub appended : List ℕ → Bool → List ℕ → Reader → ReaderTurn
appended got true inf r = Asks (toggled (Receiving (got ++ inf)) r)
appended got false inf r = Gives (got ++ inf) (toggled Idle r)

abbrev pub takes : ℕ → List ℕ → Bool → List ℕ → Reader → ReaderTurn
takes frame got ch inf r = if is_fit frame got ch inf then appended got ch inf r else Breaks r

-- An I-block with the current number.
abbrev pub on_i : ℕ → Phase → Bool → List ℕ → Reader → ReaderTurn
on_i frame Idle ch inf r = Breaks r
on_i frame (Sending part []) ch inf r = takes frame [] ch inf r
on_i frame (Sending part (next ∷ left)) ch inf r = Breaks r
on_i frame (Receiving got) ch inf r = takes frame got ch inf r

-- An R(ACK) with the current number.
abbrev pub on_ack : Phase → Reader → ReaderTurn
on_ack Idle r = Breaks r
on_ack (Sending part []) r = Breaks r
on_ack (Sending part (next ∷ left)) r = Asks (toggled (Sending next left) r)
on_ack (Receiving got) r = Breaks r

-- At the third bad hearing since the toggle the link is spent.
abbrev pub on_bad : Reader → ReaderTurn
on_bad r = if nat_lt (count is_bad r.since) 3 then Asks r else Spends r

-- At most `WAITS` S(WTX) since the toggle. A breach keeps the reader as it was before.
abbrev pub on_wtx : ReadBlock → Reader → ReaderTurn
on_wtx h r = if nat_le (count is_wtx (h ∷ r.since)) WAITS then Asks (kept h r) else Breaks r

-- The reader's table, for a reader that takes frames of this size.
abbrev pub reader_hears : ℕ → Reader → ReadBlock → ReaderTurn
reader_hears frame r Bad = on_bad (kept Bad r)
reader_hears frame r Junk = Breaks r
reader_hears frame r (Intact (I k ch inf)) = if same k r.number then on_i frame r.phase ch inf r else Breaks r
reader_hears frame r (Intact (RAck k)) =
    if same k r.number then on_ack r.phase r else if is_nak (asked r) then Asks (kept (Intact (RAck k)) r) else Breaks r
reader_hears frame r (Intact (RNak k)) = Breaks r
reader_hears frame r (Intact Deselect) = Breaks r
reader_hears frame r (Intact (Wtx p m)) = on_wtx (Intact (Wtx p m)) r

-- A command is begun, for a card with frames of this size.
abbrev pub begin : ℕ → List ℕ → Reader → Reader
begin frame command r = record { number = r.number; phase = Sending (cut (frame - 3) command).first (cut (frame - 3) command).others; since = r.since }
