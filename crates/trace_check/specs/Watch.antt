-- A lane as the checker watches it, line by line (this project's own).
use Rattle.std.specs.Prelude.{ℕ, suc, ◌+◌, ◌-◌, ◌==◌, ◌&&◌, nat_le, nat_lt, Bool, true, false, List, [], ◌++◌, length, Option, Some, None, Result, Ok, Err, if◌then◌else◌}
use Rattle.ep_base.specs.declared.air.Wave.{Wave}
use Rattle.ep_base.specs.Air.Frame.{opened}
use Rattle.ep_base.specs.Air.Heard.{Ask, Heard, Activated, RoundTurn, Goes, Ends, same_wave, wave_of_kind}
use Rattle.ep_base.specs.Cards.Apdu.{is_command, same_bytes}
use Rattle.ep_base.specs.Link.Block.{Block, I, RAck, RNak, Deselect, Wtx, ReadBlock, Bad, Junk, Intact, other, same}
use Rattle.ep_base.specs.Link.LinkFrames.{LinkSetting, block_ask, heard_block}
use Rattle.ep_base.specs.Link.Spelling.{Read, Reads, Refuses, read_block}
use Rattle.ep_base.specs.Poll.Round.{Stage, Waking, round_asks, round_hears}
use Rattle.ep_base.specs.Poll.Polling.{card_in}
use Rattle.ep_base.specs.Poll.Radio.{setting_of}
use Rattle.ep_base.specs.declared.limits.TheConstants.{RESPONSE, WAITS}
use Rattle.trace_check.specs.Commands.{may_go_on}
use Rattle.trace_check.specs.Held.{Tally, Parts, Inf}
use Rattle.trace_check.specs.declared.latest.Latest.{Latest}
use Rattle.trace_check.specs.declared.latest.Latest.TheVariants.{Plain, Lost, Waits}
use Rattle.trace_check.specs.declared.watch.Watch.{Watch}
use Rattle.trace_check.specs.declared.watch.Watch.TheVariants.{Ready, InRound, Resting, Closing, Between, Sending, Receiving}
use Rattle.trace_check.specs.declared.verdict.Rule.{Rule}
use Rattle.trace_check.specs.declared.verdict.Rule.TheVariants as rules
use Rattle.trace_check.specs.Lines.{Line}

-- A link is open.
abbrev pub is_open : Watch → Bool
is_open Ready = false
is_open (InRound round) = false
is_open (Resting set number) = true
is_open (Closing set) = true
is_open (Between set number sent) = true
is_open (Sending tally parts) = true
is_open (Receiving tally got) = true

-- The block of an open command, where its own one is this.
abbrev pub block_by : Latest → Block → Block → Block
block_by Plain own lost = own
block_by Lost own lost = lost
block_by (Waits wtxm) own lost = Wtx 0 wtxm

-- The block that is due while a command is sent.
abbrev pub part_block : Tally → Parts → Block
part_block t p = block_by t.latest (I t.number p.chained p.part) (RNak t.number)

-- The block that is due while a response comes.
abbrev pub ack_block : Tally → Block
ack_block t = block_by t.latest (RAck t.number) (RAck t.number)

-- What is asked next, where that is settled.
abbrev pub asks : Watch → Option Ask
asks Ready = None
asks (InRound round) = Some (round_asks round.fsdi round.stage)
asks (Resting set number) = None
asks (Closing set) = Some (block_ask set.kind set.fwi Deselect)
asks (Between set number sent) = None
asks (Sending tally parts) = Some (block_ask tally.set.kind tally.set.fwi (part_block tally parts))
asks (Receiving tally got) = Some (block_ask tally.set.kind tally.set.fwi (ack_block tally))

-- A block that is an I-block.
abbrev pub part_read : Read → Option Inf
part_read (Reads (I k ch inf)) = Some (record { chained = ch; bytes = inf })
part_read (Reads (RAck k)) = None
part_read (Reads (RNak k)) = None
part_read (Reads Deselect) = None
part_read (Reads (Wtx p m)) = None
part_read (Refuses fault) = None

-- The I-block of a good frame.
abbrev pub part_opened : Option (List ℕ) → Option Inf
part_opened None = None
part_opened (Some message) = part_read (read_block message)

-- The I-block of a frame of this link.
abbrev pub part_in : LinkSetting → Wave → List ℕ → Option Inf
part_in set wave frame = if same_wave wave (wave_of_kind set.kind) then part_opened (opened wave frame) else None

-- Some command begins with these parts, where each part but its last has this size.
abbrev pub is_part : ℕ → List ℕ → Inf → Bool
is_part size sent inf =
    if inf.chained
    then (length inf.bytes == size) && may_go_on (sent ++ inf.bytes)
    else nat_lt 0 (length inf.bytes) && (nat_le (length inf.bytes) size && is_command (sent ++ inf.bytes))

-- No exchange since the toggle.
abbrev pub fresh : LinkSetting → Bool → Tally
fresh set number = record { set = set; number = number; latest = Plain; bad = 0; wtx = 0 }

-- The next part of a command.
abbrev pub begins : LinkSetting → Bool → List ℕ → Inf → Option Watch
begins set number sent inf =
    if is_part (set.frames.card - 3) sent inf
    then Some (Sending (fresh set number) (record { sent = sent; part = inf.bytes; chained = inf.chained }))
    else None

-- With no command open a first part begins one, and the link is closed by any other frame.
abbrev pub settles_rest : LinkSetting → Bool → Option Inf → Option Watch
settles_rest set number None = Some (Closing set)
settles_rest set number (Some inf) = begins set number [] inf

-- The next part is due.
abbrev pub settles_next : LinkSetting → Bool → List ℕ → Option Inf → Option Watch
settles_next set number sent None = None
settles_next set number sent (Some inf) = begins set number sent inf

-- What is asked is settled by the frame that was sent, unless no command goes on so.
abbrev pub settles : ℕ → Watch → Wave → List ℕ → Option Watch
settles fsdi Ready wave frame = Some (InRound (record { fsdi = fsdi; stage = Waking }))
settles fsdi (InRound round) wave frame = Some (InRound round)
settles fsdi (Resting set number) wave frame = settles_rest set number (part_in set wave frame)
settles fsdi (Closing set) wave frame = Some (Closing set)
settles fsdi (Between set number sent) wave frame = settles_next set number sent (part_in set wave frame)
settles fsdi (Sending tally parts) wave frame = Some (Sending tally parts)
settles fsdi (Receiving tally got) wave frame = Some (Receiving tally got)

-- After a round: a card opens its link.
abbrev pub after_end : ℕ → Option Activated → Watch
after_end fsdi None = Ready
after_end fsdi (Some card) = Resting (setting_of fsdi card) false

-- After an exchange of a round.
abbrev pub after_round : ℕ → RoundTurn Stage → Watch
after_round fsdi (Goes stage) = InRound (record { fsdi = fsdi; stage = stage })
after_round fsdi (Ends e) = after_end fsdi (card_in e)

-- One more bad hearing.
abbrev pub lost : Tally → Tally
lost t = record { set = t.set; number = t.number; latest = Lost; bad = suc t.bad; wtx = t.wtx }

-- One more S(WTX).
abbrev pub waits : ℕ → Tally → Tally
waits wtxm t = record { set = t.set; number = t.number; latest = Waits wtxm; bad = t.bad; wtx = suc t.wtx }

-- The same block again.
abbrev pub again : Tally → Tally
again t = record { set = t.set; number = t.number; latest = Plain; bad = t.bad; wtx = t.wtx }

-- The latest hearing was bad.
abbrev pub is_lost : Latest → Bool
is_lost Plain = false
is_lost Lost = true
is_lost (Waits wtxm) = false

-- A part of a response of so many bytes fits after so many.
abbrev pub fits : (frame got : ℕ) → Bool → ℕ → Bool
fits frame got true len = nat_le (len + 3) frame && nat_lt 0 len && nat_le (got + len) RESPONSE
fits frame got false len = nat_le (len + 3) frame && nat_le 2 (got + len) && nat_le (got + len) RESPONSE

-- A part of a response came: more follow, or it is whole.
abbrev pub received : Tally → ℕ → Bool → Watch
received t got true = Receiving (fresh t.set (other t.number)) got
received t got false = Resting t.set (other t.number)

-- A part of a response, after so many bytes.
abbrev pub takes_part : Tally → ℕ → Bool → ℕ → Option Watch
takes_part t got ch len = if fits t.set.frames.reader got ch len then Some (received t (got + len) ch) else None

-- After a bad hearing the link goes on, or is spent with the third.
abbrev pub after_bad : Tally → Watch → Watch
after_bad t w = if nat_lt (suc t.bad) 3 then w else Ready

-- After an S(WTX) the link goes on, unless there were too many.
abbrev pub after_wtx : Tally → Watch → Option Watch
after_wtx t w = if nat_le (suc t.wtx) WAITS then Some w else None

-- A part of the command was taken, and the next one is due.
abbrev pub taken : Tally → Parts → Option Watch
taken t p = if p.chained then Some (Between t.set (other t.number) (p.sent ++ p.part)) else None

-- A part of a response can come once the last part of the command was sent.
abbrev pub answered : Tally → Parts → Bool → ℕ → Option Watch
answered t p ch len = if p.chained then None else takes_part t 0 ch len

-- What follows a hearing while a command is sent.
abbrev pub hears_sending : Tally → Parts → ReadBlock → Option Watch
hears_sending t p Bad = Some (after_bad t (Sending (lost t) p))
hears_sending t p Junk = None
hears_sending t p (Intact (I k ch inf)) = if same k t.number then answered t p ch (length inf) else None
hears_sending t p (Intact (RAck k)) = if same k t.number then taken t p else (if is_lost t.latest then Some (Sending (again t) p) else None)
hears_sending t p (Intact (RNak k)) = None
hears_sending t p (Intact Deselect) = None
hears_sending t p (Intact (Wtx power wtxm)) = after_wtx t (Sending (waits wtxm t) p)

-- What follows a hearing while a response comes.
abbrev pub hears_receiving : Tally → ℕ → ReadBlock → Option Watch
hears_receiving t got Bad = Some (after_bad t (Receiving (lost t) got))
hears_receiving t got Junk = None
hears_receiving t got (Intact (I k ch inf)) = if same k t.number then takes_part t got ch (length inf) else None
hears_receiving t got (Intact (RAck k)) = None
hears_receiving t got (Intact (RNak k)) = None
hears_receiving t got (Intact Deselect) = None
hears_receiving t got (Intact (Wtx power wtxm)) = after_wtx t (Receiving (waits wtxm t) got)

-- What follows a hearing, unless it is outside the rules.
abbrev pub hears : Watch → Heard → Option Watch
hears Ready heard = None
hears (InRound round) heard = Some (after_round round.fsdi (round_hears round.stage heard))
hears (Resting set number) heard = None
hears (Closing set) heard = Some Ready
hears (Between set number sent) heard = None
hears (Sending tally parts) heard = hears_sending tally parts (heard_block tally.set.kind tally.set.frames.reader heard)
hears (Receiving tally got) heard = hears_receiving tally got (heard_block tally.set.kind tally.set.frames.reader heard)

-- A frame is the one that is asked, whatever its waiting number.
abbrev pub has_frame : Option Ask → Wave → List ℕ → Bool
has_frame None wave frame = false
has_frame (Some ask) wave frame = same_wave wave ask.wave && same_bytes frame ask.bytes

-- A waiting number is the one that is asked.
abbrev pub has_wait : Option Ask → ℕ → Bool
has_wait None wait = false
has_wait (Some ask) wait = wait == ask.wait

-- The line's frame is the one that is asked.
abbrev pub is_frame : Option Ask → Line → Bool
is_frame o l = has_frame o l.wave l.frame

-- The line's waiting number is the one that is asked.
abbrev pub is_wait : Option Ask → Line → Bool
is_wait o l = has_wait o l.wait

-- A line once what is asked is settled.
abbrev pub steps_settled : Watch → Line → Option Watch
steps_settled w l = if is_frame (asks w) l && is_wait (asks w) l then hears w l.heard else None

-- A line, where something may be settled.
abbrev pub steps_by : Option Watch → Line → Option Watch
steps_by None l = None
steps_by (Some w) l = steps_settled w l

-- The lane after one more line, if that is allowed.
abbrev pub steps : ℕ → Watch → Line → Option Watch
steps fsdi w l = steps_by (settles fsdi w l.wave l.frame) l

-- The rule of a line for which the frame isn't right.
abbrev pub rule_by : Bool → Rule
rule_by true = rules.Reader
rule_by false = rules.Activation

-- The rule of a bad line, once what is asked is settled: of the lane's open link or not.
abbrev pub rule_settled : Bool → Option Watch → Line → Rule
rule_settled opened None l = rule_by opened
rule_settled opened (Some w) l = if is_frame (asks w) l then (if is_wait (asks w) l then rules.Card else rules.Wait) else rule_by opened

-- The rule of a bad line.
abbrev pub rule_of : ℕ → Watch → Line → Rule
rule_of fsdi w l = rule_settled (is_open w) (settles fsdi w l.wave l.frame) l

-- The lane after a line that is allowed.
abbrev pub step_of : Result Watch Rule → Option Watch
step_of (Ok w) = Some w
step_of (Err rule) = None
