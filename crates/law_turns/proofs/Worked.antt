-- Worked counts, by computation: whether the definitions count what they say.
use Rattle.std.proofs.Common.{◌≡◌, ℕ, true, false, List, [], ◌∷◌, refl, replicate}
use Rattle.ep_base.specs.declared.air.CardKind.TheVariants as kinds
use Rattle.ep_base.specs.declared.air.Wave.TheVariants.{ABare}
use Rattle.ep_base.specs.Link.Block.{I, RAck, ReadBlock, Bad, Intact}
use Rattle.ep_base.specs.Air.Heard.{Heard, Silence, Noise, Overlap, Frame, Activated, Found}
use Rattle.ep_base.specs.Air.Heard as rounds
use Rattle.ep_base.specs.Link.ReaderEnd.{Reader, ReaderTurn, Asks, Gives, Spends, Breaks, Idle, reader_hears, begin}
use Rattle.ep_rules.specs.EntryPoint.Event.{Finished}
use Rattle.ep_rules.specs.EntryPoint.Talk.{Talk, Over, Poll}
use Rattle.ep_claim.specs.Promise.Counts.{Counts, no_counts, count_round, count_turn, count_closing, counts_after}

-- ---- poll rounds

-- two rounds, whatever they end with
abbrev polls_twice : Talk
polls_twice = Poll (λ e. Poll (λ d. Over Finished))

abbrev heard : List Heard → Counts
heard hearings = counts_after 8 polls_twice hearings

abbrev counts : (starts rounds round exchanges : ℕ) → Counts
counts starts rounds round exchanges = record { starts = starts; rounds = rounds; round = round; commands = 0; since = 0; toggles = 0; exchanges = exchanges }

-- a round without a card has two exchanges
first_exchange : heard (Silence ∷ []) ≡ counts 0 0 1 1
first_exchange = refl

one_round : heard (Silence ∷ Silence ∷ []) ≡ counts 0 1 0 2
one_round = refl

second_round : heard (Silence ∷ Silence ∷ Silence ∷ []) ≡ counts 0 1 1 3
second_round = refl

two_rounds : heard (Silence ∷ Silence ∷ Silence ∷ Silence ∷ []) ≡ counts 0 2 0 4
two_rounds = refl

-- and those after the end make none
after_the_end : heard (Silence ∷ Silence ∷ Silence ∷ Silence ∷ Silence ∷ Noise ∷ []) ≡ counts 0 2 0 4
after_the_end = refl

-- one in which cards of both types answer has three: its collision ends it
collision : heard (Noise ∷ Silence ∷ Noise ∷ []) ≡ counts 0 1 0 3
collision = refl

-- one with cards of Type A alone has a fourth, WUPA again; Overlap there is a collision
fourth : heard (Noise ∷ Silence ∷ Silence ∷ Overlap ∷ []) ≡ counts 0 1 0 4
fourth = refl

-- one in which a card of Type A answers, and then not to its selection, has six
fifth : heard (Noise ∷ Silence ∷ Silence ∷ Frame ABare (4 ∷ 0 ∷ []) ∷ Frame ABare (1 ∷ 2 ∷ 3 ∷ 4 ∷ 4 ∷ []) ∷ []) ≡ counts 0 0 5 5
fifth = refl

six : heard (Noise ∷ Silence ∷ Silence ∷ Frame ABare (4 ∷ 0 ∷ []) ∷ Frame ABare (1 ∷ 2 ∷ 3 ∷ 4 ∷ 4 ∷ []) ∷ Silence ∷ []) ≡ counts 0 1 0 6
six = refl

-- a card that is found ends its Start B, and its rounds; a link without a toggle is opened
abbrev a_card : Activated
a_card = record { kind = kinds.A; id = []; fsc = 256; fwi = 4 }

found : count_round (rounds.Ends (Found a_card)) (record { starts = 1; rounds = 5; round = 6; commands = 9; since = 1; toggles = 0; exchanges = 80 })
    ≡ record { starts = 2; rounds = 0; round = 0; commands = 9; since = 0; toggles = 0; exchanges = 81 }
found = refl

-- ---- a command

-- the counts over these hearings of an open command
abbrev over : List ReadBlock → ReaderTurn → Counts → Counts
over [] t c = c
over (h ∷ hs) (Asks r) c = over hs (reader_hears 256 r h) (count_turn r (reader_hears 256 r h) c)
over (h ∷ hs) (Gives a r) c = c
over (h ∷ hs) (Spends r) c = c
over (h ∷ hs) (Breaks r) c = c

abbrev opened : Reader
opened = record { number = false; phase = Idle; since = [] }

-- of five bytes in one part, or of thirteen and more, by a card with frames of 16 bytes
abbrev in_one : ReaderTurn
in_one = Asks (begin 256 (0 ∷ 164 ∷ 4 ∷ 0 ∷ 0 ∷ []) opened)

abbrev in_two : ReaderTurn
in_two = Asks (begin 16 (replicate 20 0) opened)

abbrev command : (commands since toggles exchanges : ℕ) → Counts
command commands since toggles exchanges =
    record { starts = 0; rounds = 0; round = 0; commands = commands; since = since; toggles = toggles; exchanges = exchanges }

-- the response comes at once, or after a lost answer
at_once : over (Intact (I false false (144 ∷ 0 ∷ [])) ∷ []) in_one no_counts ≡ command 1 0 0 1
at_once = refl

lost : over (Bad ∷ []) in_one no_counts ≡ command 0 1 0 1
lost = refl

lost_answer : over (Bad ∷ Intact (I false false (144 ∷ 0 ∷ [])) ∷ []) in_one no_counts ≡ command 1 0 0 2
lost_answer = refl

-- a lost answer in each of the two parts of a command: one toggle between them, and one with the response
first_part : over (Bad ∷ Intact (RAck false) ∷ []) in_two no_counts ≡ command 0 0 1 2
first_part = refl

second_part : over (Bad ∷ Intact (RAck false) ∷ Bad ∷ Bad ∷ []) in_two no_counts ≡ command 0 2 1 4
second_part = refl

both_parts : over (Bad ∷ Intact (RAck false) ∷ Bad ∷ Bad ∷ Intact (I true false (144 ∷ 0 ∷ [])) ∷ []) in_two no_counts ≡ command 1 0 0 5
both_parts = refl

-- a third bad hearing spends the link: nothing toggled
spent : over (Bad ∷ Bad ∷ Bad ∷ Bad ∷ []) in_one no_counts ≡ command 0 3 0 3
spent = refl

-- S(DESELECT) is an exchange of the link
closed : count_closing (command 3 0 0 20) ≡ command 3 1 0 21
closed = refl
