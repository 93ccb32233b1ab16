-- Worked exchanges, by computation: whether the definitions say what they mean to say.
use Rattle.std.proofs.Common.{◌≡◌, ℕ, zero, suc, ◌+◌, true, false, List, [], ◌∷◌, ◌++◌, length, None, refl, replicate}
use Rattle.ep_base.specs.Link.ReaderEnd.{Reader, Idle, begin}
use Rattle.ep_base.specs.Link.CardEnd.{CommandRules, Card, Parts}
use Rattle.ep_base.specs.Link.OneLink.{Frames, BlockFate, End, Open, Done, Spent, Breach, run_command}

pass : BlockFate
pass = record { down = true; up = true }

up_lost : BlockFate
up_lost = record { down = true; up = false }

down_lost : BlockFate
down_lost = record { down = false; up = true }

-- any bytes are a command; the response has so many bytes
image_of : ℕ → ℕ → CommandRules
image_of size wtx = record { is_command = λ bytes. true; answer = λ log. record { response = replicate size 7; wtx = wtx; wtxm = 5 } }

opened : Reader
opened = record { number = false; phase = Idle; since = [] }

card_opened : Card
card_opened = record { number = true; last = None; taken = []; left = Parts []; log = [] }

times : ℕ → List BlockFate → List BlockFate
times zero fs = []
times (suc n) fs = fs ++ times n fs

-- how many fates are left after Ok, or 1000 for another end
abbrev left_of : End → ℕ
left_of (Open r card) = 1000
left_of (Done response r card fates) = length fates
left_of (Spent r card) = 2000 + length card.log
left_of (Breach r card) = 3000

abbrev executed_of : End → ℕ
executed_of (Open r card) = length card.log
executed_of (Done response r card fates) = length card.log
executed_of (Spent r card) = length card.log
executed_of (Breach r card) = length card.log

frames_of : ℕ → ℕ → Frames
frames_of c r = record { card = c; reader = r }

go : ℕ → ℕ → ℕ → ℕ → ℕ → List BlockFate → End
unfolding image_of opened card_opened frames_of
go c r size wtx command fates = run_command (frames_of c r) (image_of size wtx) fates (begin c (replicate command 1) opened) card_opened

-- 44 exchanges: 21 blocks of the command, the second part of the response sent twice
long_chain : left_of (go 16 256 258 0 261 (times 20 (up_lost ∷ pass ∷ []) ++ (pass ∷ down_lost ∷ up_lost ∷ times 5 (pass ∷ [])))) ≡ 4
unfolding go image_of opened card_opened frames_of times pass up_lost down_lost
long_chain = refl

one_up_lost : left_of (go 256 256 40 0 20 (up_lost ∷ pass ∷ pass ∷ [])) ≡ 1
unfolding go image_of opened card_opened frames_of times pass up_lost down_lost
one_up_lost = refl

one_down_lost : left_of (go 256 256 40 0 20 (down_lost ∷ pass ∷ pass ∷ pass ∷ [])) ≡ 1
unfolding go image_of opened card_opened frames_of times pass up_lost down_lost
one_down_lost = refl

spent_after : left_of (go 256 256 40 0 20 (up_lost ∷ up_lost ∷ up_lost ∷ [])) ≡ 2001
unfolding go image_of opened card_opened frames_of times pass up_lost down_lost
spent_after = refl

spent_before : left_of (go 256 256 40 0 20 (down_lost ∷ down_lost ∷ down_lost ∷ [])) ≡ 2000
unfolding go image_of opened card_opened frames_of times pass up_lost down_lost
spent_before = refl

-- eight S(WTX), two of them lost on the way: 12 exchanges
eight_waits : left_of (go 256 256 40 8 20 (pass ∷ up_lost ∷ pass ∷ down_lost ∷ pass ∷ times 8 (pass ∷ []))) ≡ 1
unfolding go image_of opened card_opened frames_of times pass up_lost down_lost
eight_waits = refl
