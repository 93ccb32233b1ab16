-- The values of the limits. Nothing else fixes them.
use Rattle.std.proofs.Common.{◌≡◌, refl}
use Rattle.ep_base.specs.declared.limits.TheConstants.{ANSWERS, ANSWER_WAITS, APPLICATIONS, ARENA_BYTES, ARENA_SLOTS, BETWEEN_TOGGLES, CARDS, COMBINATIONS, COMMAND, COMMAND_EXCHANGES, DATA, EXCHANGES, FATES, FRAME, FRAME_16, FSDI, INF, INPUT, LANES, LAST_START, LINE_BYTES, MESSAGE, NAMED, PAIRS, PIECE, RESPONSE, ROUNDS, ROUND_EXCHANGES, RULES, SCRIPTS, START_EXCHANGES, STEPS, TOGGLES, TRANSACTIONS, TRACE_LINES, TURNS, TYPE_COMBINATIONS, WAITS}

pub frame_is : FRAME ≡ 256
frame_is = refl

pub frame_16_is : FRAME_16 ≡ 256
frame_16_is = refl

pub fsdi_is : FSDI ≡ 8
fsdi_is = refl

pub message_is : MESSAGE ≡ 254
message_is = refl

pub inf_is : INF ≡ 253
inf_is = refl

pub command_is : COMMAND ≡ 261
command_is = refl

pub response_is : RESPONSE ≡ 258
response_is = refl

pub data_is : DATA ≡ 256
data_is = refl

pub toggles_is : TOGGLES ≡ 279
toggles_is = refl

pub waits_is : WAITS ≡ 16
waits_is = refl

pub exchanges_is : EXCHANGES ≡ 21
exchanges_is = refl

pub between_toggles_is : BETWEEN_TOGGLES ≡ 32
between_toggles_is = refl

pub command_exchanges_is : COMMAND_EXCHANGES ≡ 5859
command_exchanges_is = refl

pub rounds_is : ROUNDS ≡ 64
rounds_is = refl

pub round_exchanges_is : ROUND_EXCHANGES ≡ 11
round_exchanges_is = refl

pub start_exchanges_is : START_EXCHANGES ≡ 705
start_exchanges_is = refl

pub named_is : NAMED ≡ 28
named_is = refl

pub combinations_is : COMBINATIONS ≡ 64
combinations_is = refl

pub type_combinations_is : TYPE_COMBINATIONS ≡ 16
type_combinations_is = refl

pub pairs_is : PAIRS ≡ 448
pairs_is = refl

pub applications_is : APPLICATIONS ≡ 16
applications_is = refl

pub rules_is : RULES ≡ 32
rules_is = refl

pub answers_is : ANSWERS ≡ 16
answers_is = refl

pub answer_waits_is : ANSWER_WAITS ≡ 8
answer_waits_is = refl

pub scripts_is : SCRIPTS ≡ 4
scripts_is = refl

pub steps_is : STEPS ≡ 16
steps_is = refl

pub transactions_is : TRANSACTIONS ≡ 64
transactions_is = refl

pub lanes_is : LANES ≡ 8
lanes_is = refl

pub arena_bytes_is : ARENA_BYTES ≡ 1024
arena_bytes_is = refl

pub arena_slots_is : ARENA_SLOTS ≡ 192
arena_slots_is = refl

pub line_bytes_is : LINE_BYTES ≡ 1200
line_bytes_is = refl

pub last_start_is : LAST_START ≡ 4095
last_start_is = refl

pub input_is : INPUT ≡ 1048576
input_is = refl

pub piece_is : PIECE ≡ 16384
piece_is = refl

pub cards_is : CARDS ≡ 4
cards_is = refl

pub fates_is : FATES ≡ 4096
fates_is = refl

pub turns_is : TURNS ≡ 4096
turns_is = refl

pub trace_lines_is : TRACE_LINES ≡ 65536
trace_lines_is = refl
