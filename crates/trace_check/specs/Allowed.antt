-- When the lines of a lane are allowed: some lines after them complete them to a list that can be cut into poll rounds and links
-- (ISO/IEC 14443-4 and this project's profile).
use Rattle.std.specs.Prelude.{◌≡◌, ◌≢◌, ◌⊎◌, ℕ, true, List, [], ◌∷◌, ◌++◌, None}
use Rattle.ep_base.specs.Air.Heard.{Ask, Activated, RoundEnd, Found, RoundTurn, Goes, Ends}
use Rattle.ep_base.specs.Cards.Apdu.{is_command}
use Rattle.ep_base.specs.Link.Block.{Deselect}
use Rattle.ep_base.specs.Link.ReaderEnd.{Reader, ReaderTurn, Asks, Gives, Spends, Breaks, asked, begin}
use Rattle.ep_base.specs.Link.LinkFrames.{LinkSetting, block_ask}
use Rattle.ep_base.specs.Link.Carry.{turn_on}
use Rattle.ep_base.specs.Link.Dialogue.{opened_reader}
use Rattle.ep_base.specs.Poll.Round.{Stage, Waking, round_asks, round_hears}
use Rattle.ep_base.specs.Poll.Polling.{card_in}
use Rattle.ep_base.specs.Poll.Radio.{setting_of}
use Rattle.trace_check.specs.Lines.{Line}

-- A line's frame is the one that is asked, with its waiting number (this project's own).
pub record Sends (l : Line) (ask : Ask) : Type 0 where
  pub wave : l.wave ≡ ask.wave
  pub frame : l.frame ≡ ask.bytes
  pub wait : l.wait ≡ ask.wait

-- From where a round stands, these lines are its exchanges up to this end (this project's profile).
abbrev pub RoundGoes : ℕ → RoundTurn Stage → List Line → RoundEnd → Type 0
RoundGoes fsdi (Goes stage) [] e = ⊥
RoundGoes fsdi (Goes stage) (l ∷ ls) e = Sends l (round_asks fsdi stage) × RoundGoes fsdi (round_hears stage l.heard) ls e
RoundGoes fsdi (Ends end) [] e = end ≡ e
RoundGoes fsdi (Ends end) (l ∷ ls) e = ⊥

-- These lines are the exchanges of a poll round that ends so (this project's profile).
abbrev pub IsRound : ℕ → List Line → RoundEnd → Type 0
IsRound fsdi ls e = RoundGoes fsdi (Goes Waking) ls e

-- From a turn of the reader's end, these lines are the exchanges of the open command up to this turn (ISO/IEC 14443-4).
abbrev pub CommandGoes : LinkSetting → ReaderTurn → List Line → ReaderTurn → Type 0
CommandGoes set turn [] end = turn ≡ end
CommandGoes set (Asks r) (l ∷ ls) end = Sends l (block_ask set.kind set.fwi (asked r)) × CommandGoes set (turn_on set r l.heard) ls end
CommandGoes set (Gives response r) (l ∷ ls) end = ⊥
CommandGoes set (Spends r) (l ∷ ls) end = ⊥
CommandGoes set (Breaks r) (l ∷ ls) end = ⊥

-- This command's exchanges, from a reader's end with no command open, up to this turn (ISO/IEC 14443-4).
abbrev pub Takes : LinkSetting → Reader → List ℕ → List Line → ReaderTurn → Type 0
Takes set r command ls end = (is_command command ≡ true) × CommandGoes set (Asks (begin set.frames.card command r)) ls end

-- The last command of a link that is spent: no exchange follows (this project's profile).
pub record IsSpent (set : LinkSetting) (r : Reader) (command : List ℕ) (others : List (List ℕ)) (ls : List Line) : Type 0 where
  pub reader : Reader
  pub takes : Takes set r command ls (Spends reader)
  pub last : others ≡ []

-- A command that has its response, and what follows it in its link (ISO/IEC 14443-4).
pub record IsAnswered (After : Reader → List Line → Type 0) (set : LinkSetting) (r : Reader) (command : List ℕ) (ls : List Line) : Type 0 where
  pub these : List Line
  pub rest : List Line
  pub response : List ℕ
  pub reader : Reader
  pub parts : ls ≡ these ++ rest
  pub takes : Takes set r command these (Gives response reader)
  pub after : After reader rest

-- One exchange of S(DESELECT), whatever was heard (ISO/IEC 14443-4; that its answer is ignored: this project's profile).
pub record Closes (set : LinkSetting) (ls : List Line) : Type 0 where
  pub line : Line
  pub one : ls ≡ line ∷ []
  pub sends : Sends line (block_ask set.kind set.fwi Deselect)

-- From a reader's end with no command open, these lines are the exchanges of these commands, and the link's end: spent, or closed where no command
-- is open. No hearing is outside the rules (ISO/IEC 14443-4; this project's profile).
abbrev pub LinkGoes : LinkSetting → Reader → List (List ℕ) → List Line → Type 0
LinkGoes set r [] ls = Closes set ls
LinkGoes set r (command ∷ others) ls =
    IsSpent set r command others ls ⊎ IsAnswered (λ q rest. LinkGoes set q others rest) set r command ls

-- These lines are the exchanges of a link, for some list of commands (ISO/IEC 14443-4).
abbrev pub IsLink : LinkSetting → List Line → Type 0
IsLink set ls = (commands : List (List ℕ)) × LinkGoes set opened_reader commands ls

-- Lines that can be cut into rounds and links: a link follows exactly the rounds that end with a card, and has its kind, frame size and FWI (this
-- project's profile).
pub data IsCut (fsdi : ℕ) : List Line → Type 0 where
  NoLine : (ls : List Line) → ls ≡ [] → IsCut fsdi ls
  ARound : (ls round rest : List Line) (e : RoundEnd) → ls ≡ round ++ rest → IsRound fsdi round e → card_in e ≡ None → IsCut fsdi rest → IsCut fsdi ls
  ALink :
      (ls round link rest : List Line) (card : Activated) → ls ≡ round ++ (link ++ rest) → IsRound fsdi round (Found card) →
      IsLink (setting_of fsdi card) link → IsCut fsdi rest → IsCut fsdi ls

-- Some lines after these complete them to lines that can be cut (this project's profile).
abbrev pub IsAllowed : ℕ → List Line → Type 0
IsAllowed fsdi ls = (rest : List Line) × IsCut fsdi (ls ++ rest)

-- These lines end within a link: after a cut, a round that ended with a card, and a part of its link's exchanges, of which some are to come (this
-- project's profile).
pub record IsOpenAfter (fsdi : ℕ) (ls : List Line) : Type 0 where
  pub before : List Line
  pub round : List Line
  pub part : List Line
  pub rest : List Line
  pub card : Activated
  pub parts : ls ≡ before ++ (round ++ part)
  pub cut : IsCut fsdi before
  pub found : IsRound fsdi round (Found card)
  pub link : IsLink (setting_of fsdi card) (part ++ rest)
  pub going : rest ≢ []
