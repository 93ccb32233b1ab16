-- Worked purchases with one card over frames, by computation: whether the definitions say what they mean to say.
use Rattle.std.proofs.Common.{◌≡◌, ℕ, zero, suc, false, List, [], ◌∷◌, length, Option, Some, None, refl}
use Rattle.ep_base.specs.declared.air.CardKind.TheVariants as kinds
use Rattle.ep_base.specs.declared.outcome.OutcomeKind.TheVariants.{Approved, EndApplication}
use Rattle.ep_base.specs.declared.outcome.Message.TheVariants as messages
use Rattle.ep_base.specs.Cards.Activation.{ats, atqb}
use Rattle.ep_base.specs.Air.Check.{low_bits, sent_bits, register_step, register_after, crc_a, crc_b}
use Rattle.ep_base.specs.Air.Frame.{ends_in_check, burst_bits, burst_bit}
use Rattle.ep_base.specs.Air.FrameSize.{frame_size}
use Rattle.ep_base.specs.Link.Spelling.{pcb_kind, is_cid, is_nad}
use Rattle.ep_base.specs.Cards.TypeA.{APlan, a_takes}
use Rattle.ep_base.specs.Cards.TypeB.{b_takes}
use Rattle.ep_base.specs.Cards.Apdu.{is_command, command_data}
use Rattle.ep_rules.specs.EntryPoint.Configuration.{Combination}
use Rattle.ep_rules.specs.EntryPoint.PreProcessing.{PreparedOne, prepared}
use Rattle.ep_base.specs.Objects.Reading.{forest_by, forest_of}
use Rattle.ep_base.specs.Objects.Directory.{directory}
use Rattle.ep_rules.specs.EntryPoint.Candidates.{candidates}
use Rattle.ep_base.specs.Cards.CardAnswer.{Answers, Image, card_answer}
use Rattle.ep_rules.specs.EntryPoint.Event.{Event as EventData, Tells, Apdu, End, EndLink, Start, Pre, Notice, Card, Candidates, Activate, Outcome, Finished}
use Rattle.ep_rules.specs.EntryPoint.Kernel.{Script, scripted}
use Rattle.ep_rules.specs.EntryPoint.Talk.{Talk, rounds}
use Rattle.ep_rules.specs.EntryPoint.TransportRun.{HearEnd, Whole, AtLink}
use Rattle.ep_rules.specs.EntryPoint.Transaction.{start_b, transaction}
use Rattle.ep_base.specs.Air.Fates.{Way, Passes, Loses, Bursts, Leaves, Fate}
use Rattle.ep_base.specs.Cards.Field.{placed_a, new_field}
use Rattle.ep_claim.specs.Lanes.Standing.{ending_of, events_of}
use Rattle.ep_claim.specs.Lanes.Exchanges.{Lane, opened_lane, lane_after}

-- an acquirer with one Combination, and a purchase of 10.00
abbrev combination : Combination
combination = record {
  txn_type = 0;
  aid = 0xa0 ∷ 0x00 ∷ 0x00 ∷ 0x00 ∷ 0x03 ∷ 0x10 ∷ 0x10 ∷ [];
  kernel = 3;
  status_check = false;
  zero_allowed = None;
  limit = None;
  floor = None;
  terminal_floor = None;
  cvm = None;
  extended = false;
  ttq = None;
}

abbrev ones : List PreparedOne
ones = prepared (record { exponent = 2; list = combination ∷ [] }) 0 1000

abbrev script : Script
script = record {
  kernel = 3;
  steps = record { send = 0x80 ∷ 0xa8 ∷ 0x00 ∷ 0x00 ∷ 0x02 ∷ 0x83 ∷ 0x00 ∷ 0x00 ∷ []; want = 0x9000; other = record { kind = EndApplication; message = None } } ∷ [];
  verdict = record { kind = Approved; message = Some messages.Approved };
}

abbrev talk : Talk
talk = transaction scripted 0 1000 ones (record { scripts = script ∷ []; running = None })

abbrev answers : List (List ℕ) → Answers
answers list = record { list = list; used = 0 }

abbrev ppse_response : List ℕ
ppse_response = 0x6f ∷ 0x23 ∷ 0x84 ∷ 0x0e ∷ 0x32 ∷ 0x50 ∷ 0x41 ∷ 0x59 ∷ 0x2e ∷ 0x53 ∷ 0x59 ∷ 0x53 ∷ 0x2e ∷ 0x44 ∷ 0x44 ∷ 0x46 ∷ 0x30 ∷ 0x31 ∷ 0xa5 ∷ 0x11 ∷ 0xbf ∷ 0x0c ∷ 0x0e ∷ 0x61 ∷ 0x0c ∷ 0x4f ∷ 0x07 ∷ 0xa0 ∷ 0x00 ∷ 0x00 ∷ 0x00 ∷ 0x03 ∷ 0x10 ∷ 0x10 ∷ 0x87 ∷ 0x01 ∷ 0x01 ∷ 0x90 ∷ 0x00 ∷ []

abbrev select_response : List ℕ
select_response = 0x6f ∷ 0x09 ∷ 0x84 ∷ 0x07 ∷ 0xa0 ∷ 0x00 ∷ 0x00 ∷ 0x00 ∷ 0x03 ∷ 0x10 ∷ 0x10 ∷ 0x90 ∷ 0x00 ∷ []

abbrev rule_response : List ℕ
rule_response = 0x80 ∷ 0x06 ∷ 0x20 ∷ 0x00 ∷ 0x08 ∷ 0x01 ∷ 0x01 ∷ 0x00 ∷ 0x90 ∷ 0x00 ∷ []

-- the card, whose one rule has these responses after so many S(WTX)
abbrev card : List (List ℕ) → ℕ → Image
card responses wtx = record {
  number = 1;
  ppse = answers (ppse_response ∷ []);
  apps = record {
    name = 0xa0 ∷ 0x00 ∷ 0x00 ∷ 0x00 ∷ 0x03 ∷ 0x10 ∷ 0x10 ∷ [];
    selects = answers (select_response ∷ []);
    wtx = 0;
    wtxm = 1;
    rules = record { prefix = 0x80 ∷ 0xa8 ∷ []; responses = answers responses; wtx = wtx; wtxm = 3 } ∷ [];
  } ∷ [];
  selected = None;
}

-- a card of Type A that takes frames of 256 bytes
abbrev plan : APlan
plan = record { uid = 1 ∷ 2 ∷ 3 ∷ 4 ∷ []; sak = 0x20; fsci = 8; fwi = 4; historical = [] }

abbrev both : Way → Way → Fate
both down up = record { down = down; up = up }

-- so many exchanges in which all frames pass
abbrev passing : ℕ → List Fate → List Fate
passing zero fates = fates
passing (suc n) fates = both Passes Passes ∷ passing n fates

-- a purchase after so many exchanges
run : ℕ → List (List ℕ) → ℕ → List Fate → Lane
run n responses wtx fates = lane_after 8 talk n (opened_lane talk (new_field (placed_a plan (card responses wtx) ∷ []) [] fates 100))

-- how a purchase ended, its events, its executions and how many exchanges it took
abbrev report : Lane → Option HearEnd × List EventData × List (ℕ × List ℕ) × ℕ
report l = (ending_of l.standing.doing, events_of talk l.standing, l.field.log, length l.exchanges)

abbrev ppse_command : List ℕ
ppse_command = 0x00 ∷ 0xa4 ∷ 0x04 ∷ 0x00 ∷ 0x0e ∷ 0x32 ∷ 0x50 ∷ 0x41 ∷ 0x59 ∷ 0x2e ∷ 0x53 ∷ 0x59 ∷ 0x53 ∷ 0x2e ∷ 0x44 ∷ 0x44 ∷ 0x46 ∷ 0x30 ∷ 0x31 ∷ 0x00 ∷ []

abbrev select_command : List ℕ
select_command = 0x00 ∷ 0xa4 ∷ 0x04 ∷ 0x00 ∷ 0x07 ∷ 0xa0 ∷ 0x00 ∷ 0x00 ∷ 0x00 ∷ 0x03 ∷ 0x10 ∷ 0x10 ∷ 0x00 ∷ []

abbrev step_command : List ℕ
step_command = 0x80 ∷ 0xa8 ∷ 0x00 ∷ 0x00 ∷ 0x02 ∷ 0x83 ∷ 0x00 ∷ 0x00 ∷ []

-- the events up to the card, up to the kernel, and whole
abbrev opening_said : List EventData → List EventData
opening_said more = Tells (Start 0 1000) ∷ Tells (Pre 1 (record { combination = combination; indicators = record { not_allowed = false; status = false; zero = false; floor = false; cvm = false }; ttq = None })) ∷ Tells (Notice messages.PresentCard) ∷ Tells (Card kinds.A (1 ∷ 2 ∷ 3 ∷ 4 ∷ [])) ∷ more

abbrev selected_said : List EventData → List EventData
selected_said more =
    Apdu ppse_command ppse_response ∷ Tells (Candidates 1) ∷ Apdu select_command select_response
    ∷ Tells (Activate (record { kernel = 3; combination = 1; name = 0xa0 ∷ 0x00 ∷ 0x00 ∷ 0x00 ∷ 0x03 ∷ 0x10 ∷ 0x10 ∷ []; indicators = record { not_allowed = false; status = false; zero = false; floor = false; cvm = false }; ttq = None; fci = 0x6f ∷ 0x09 ∷ 0x84 ∷ 0x07 ∷ 0xa0 ∷ 0x00 ∷ 0x00 ∷ 0x00 ∷ 0x03 ∷ 0x10 ∷ 0x10 ∷ [] }))
    ∷ more

abbrev approved_said : List ℕ → List EventData
approved_said response =
    opening_said (selected_said (Apdu step_command response ∷ Tells (Outcome Approved) ∷ Tells (Notice messages.Approved) ∷ End Finished ∷ []))

abbrev whole_log : List (ℕ × List ℕ)
whole_log = (1, ppse_command) ∷ (1, select_command) ∷ (1, step_command) ∷ []

-- all frames pass
all_pass : report (run 20 (rule_response ∷ []) 0 ([])) ≡ (Some Whole, approved_said rule_response, whole_log, 11)
unfolding run low_bits sent_bits register_step register_after crc_a crc_b ends_in_check burst_bits burst_bit frame_size pcb_kind is_cid is_nad a_takes b_takes ats atqb start_b rounds is_command command_data forest_by forest_of directory candidates card_answer
all_pass = refl

-- the answer to the kernel's command is lost and asked for again; the card executed it once, and its next answer isn't used
answer_lost : report (run 20 ((0x01 ∷ 0x02 ∷ 0x90 ∷ 0x00 ∷ []) ∷ (0x03 ∷ 0x04 ∷ 0x90 ∷ 0x00 ∷ []) ∷ []) 0 (passing 9 (both Passes Loses ∷ []))) ≡ (Some Whole, approved_said (0x01 ∷ 0x02 ∷ 0x90 ∷ 0x00 ∷ []), whole_log, 12)
unfolding run low_bits sent_bits register_step register_after crc_a crc_b ends_in_check burst_bits burst_bit frame_size pcb_kind is_cid is_nad a_takes b_takes ats atqb start_b rounds is_command command_data forest_by forest_of directory candidates card_answer
answer_lost = refl

-- two answers to one command are lost, then two frames of the next: all is made good
two_commands_with_losses : report (run 20 (rule_response ∷ []) 0 (passing 7 (both Passes Loses ∷ both Passes Loses ∷ passing 1 (both Loses Passes ∷ both Loses Passes ∷ [])))) ≡ (Some Whole, approved_said rule_response, whole_log, 16)
unfolding run low_bits sent_bits register_step register_after crc_a crc_b ends_in_check burst_bits burst_bit frame_size pcb_kind is_cid is_nad a_takes b_takes ats atqb start_b rounds is_command command_data forest_by forest_of directory candidates card_answer
two_commands_with_losses = refl

-- the third answer to a command is lost too: the link has failed, and the card executed the command
third_answer_lost : report (run 20 (rule_response ∷ []) 0 (passing 7 (both Passes Loses ∷ both Passes Loses ∷ both Passes Loses ∷ []))) ≡ (Some AtLink, opening_said (EndLink ∷ []), (1, ppse_command) ∷ [], 10)
unfolding run low_bits sent_bits register_step register_after crc_a crc_b ends_in_check burst_bits burst_bit frame_size pcb_kind is_cid is_nad a_takes b_takes ats atqb start_b rounds is_command command_data forest_by forest_of directory candidates card_answer
third_answer_lost = refl

-- the third frame of a command is lost too: the link has failed, and the card didn't execute it
third_frame_lost : report (run 20 (rule_response ∷ []) 0 (passing 7 (both Loses Passes ∷ both Loses Passes ∷ both Loses Passes ∷ []))) ≡ (Some AtLink, opening_said (EndLink ∷ []), [], 10)
unfolding run low_bits sent_bits register_step register_after crc_a crc_b ends_in_check burst_bits burst_bit frame_size pcb_kind is_cid is_nad a_takes b_takes ats atqb start_b rounds is_command command_data forest_by forest_of directory candidates card_answer
third_frame_lost = refl

-- the card leaves with its answer to the kernel's command, which it executed
leaves_with_answer : report (run 20 (rule_response ∷ []) 0 (passing 9 (both Passes Leaves ∷ []))) ≡ (Some AtLink, opening_said (selected_said (EndLink ∷ [])), whole_log, 12)
unfolding run low_bits sent_bits register_step register_after crc_a crc_b ends_in_check burst_bits burst_bit frame_size pcb_kind is_cid is_nad a_takes b_takes ats atqb start_b rounds is_command command_data forest_by forest_of directory candidates card_answer
leaves_with_answer = refl

-- the card leaves before the kernel's command
leaves_before : report (run 20 (rule_response ∷ []) 0 (passing 9 (both Leaves Passes ∷ []))) ≡ (Some AtLink, opening_said (selected_said (EndLink ∷ [])), (1, ppse_command) ∷ (1, select_command) ∷ [], 12)
unfolding run low_bits sent_bits register_step register_after crc_a crc_b ends_in_check burst_bits burst_bit frame_size pcb_kind is_cid is_nad a_takes b_takes ats atqb start_b rounds is_command command_data forest_by forest_of directory candidates card_answer
leaves_before = refl

-- two S(WTX) come before the answer, and the reader's second is lost
waits : report (run 20 (rule_response ∷ []) 2 (passing 11 (both Loses Passes ∷ []))) ≡ (Some Whole, approved_said rule_response, whole_log, 15)
unfolding run low_bits sent_bits register_step register_after crc_a crc_b ends_in_check burst_bits burst_bit frame_size pcb_kind is_cid is_nad a_takes b_takes ats atqb start_b rounds is_command command_data forest_by forest_of directory candidates card_answer
waits = refl

-- a burst inverts the first bit of an answer, which is asked for again
burst_on_an_answer : report (run 20 (rule_response ∷ []) 0 (passing 7 (both Passes (Bursts 0 1) ∷ []))) ≡ (Some Whole, approved_said rule_response, whole_log, 12)
unfolding run low_bits sent_bits register_step register_after crc_a crc_b ends_in_check burst_bits burst_bit frame_size pcb_kind is_cid is_nad a_takes b_takes ats atqb start_b rounds is_command command_data forest_by forest_of directory candidates card_answer
burst_on_an_answer = refl

-- a burst falls behind the last bit of a frame of 16 bytes, which passes
burst_beyond_a_frame : report (run 20 (rule_response ∷ []) 0 (passing 8 (both (Bursts 128 0xffff) Passes ∷ []))) ≡ (Some Whole, approved_said rule_response, whole_log, 11)
unfolding run low_bits sent_bits register_step register_after crc_a crc_b ends_in_check burst_bits burst_bit frame_size pcb_kind is_cid is_nad a_takes b_takes ats atqb start_b rounds is_command command_data forest_by forest_of directory candidates card_answer
burst_beyond_a_frame = refl

-- one on its last bit doesn't
burst_on_the_last_bit : report (run 20 (rule_response ∷ []) 0 (passing 8 (both (Bursts 127 0xffff) Passes ∷ []))) ≡ (Some Whole, approved_said rule_response, whole_log, 13)
unfolding run low_bits sent_bits register_step register_after crc_a crc_b ends_in_check burst_bits burst_bit frame_size pcb_kind is_cid is_nad a_takes b_takes ats atqb start_b rounds is_command command_data forest_by forest_of directory candidates card_answer
burst_on_the_last_bit = refl
