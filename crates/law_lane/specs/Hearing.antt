-- What a transaction hears over a medium with one poll round for each of its polls, in whole rounds, commands and closings (this project's own).
use Rattle.std.specs.Prelude.{◌≡◌, ℕ, List, [], ◌∷◌, Option, Some, None}
use Rattle.ep_base.specs.Air.Heard.{Heard, RoundEnd}
use Rattle.ep_base.specs.Air.Medium.{MediumSteps}
use Rattle.ep_base.specs.Poll.Polling.{PlaysRound}
use Rattle.ep_base.specs.Link.Block.{Deselect}
use Rattle.ep_base.specs.Link.ReaderEnd.{ReaderTurn, Asks, Gives, Spends, Breaks}
use Rattle.ep_base.specs.Link.LinkFrames.{LinkSetting}
use Rattle.ep_base.specs.Link.Carry.{SendsBlock}
use Rattle.ep_base.specs.Poll.Radio.{OpenLink, Comes}
use Rattle.ep_rules.specs.EntryPoint.Talk.{Talk, Over, Say, Poll, Command, Close, Result, Round, Response, Closed}
use Rattle.ep_rules.specs.EntryPoint.TransportRun.{HearEnd, Whole, AtLink, AtBreach}
use Rattle.ep_claim.specs.Lanes.Standing.{link_by}

module _ {S : Type 0} (steps : MediumSteps S) (fsdi : ℕ) where
  -- After a command: with its response the link is open for the next one, and a link that is spent or broken ends the hearing (ISO/IEC 14443-4).
  abbrev pub HearsTurn : (List ℕ → OpenLink → S → List Result → HearEnd → S → Type 0) → LinkSetting → ReaderTurn → S → List Result → HearEnd → S → Type 0
  HearsTurn Then set (Asks r) s heard ending t = ⊥
  HearsTurn Then set (Gives response r) s heard ending t =
      (rest : List Result) × (heard ≡ Response response ∷ rest) × Then response (record { set = set; reader = r }) s rest ending t
  HearsTurn Then set (Spends r) s heard ending t = (heard ≡ []) × (ending ≡ AtLink) × (t ≡ s)
  HearsTurn Then set (Breaks r) s heard ending t = (heard ≡ []) × (ending ≡ AtBreach) × (t ≡ s)

  -- From a state on, with the open link, if there is one: each poll is a round that was played, each command came to its end over the open link,
  -- and each closing is an exchange of S(DESELECT). The results in order, what ended the hearing, and the state then (this project's own).
  abbrev pub HearsRounds : Talk → Option OpenLink → S → List Result → HearEnd → S → Type 0
  HearsRounds (Over e) link s heard ending t = (heard ≡ []) × (ending ≡ Whole) × (t ≡ s)
  HearsRounds (Say x next) link s heard ending t = HearsRounds next link s heard ending t
  HearsRounds (Poll next) link s heard ending t =
      (e : RoundEnd) × (u : S) × PlaysRound steps fsdi s (Some e) u
      × (rest : List Result) × (heard ≡ Round e ∷ rest) × HearsRounds (next e) (link_by fsdi e) u rest ending t
  HearsRounds (Command c next) (Some l) s heard ending t =
      (turn : ReaderTurn) × (u : S) × Comes steps l c s turn u × HearsTurn (λ response n v. HearsRounds (next response) (Some n) v) l.set turn u heard ending t
  HearsRounds (Command c next) None s heard ending t = ⊥
  HearsRounds (Close next) (Some l) s heard ending t =
      (answer : Heard) × (u : S) × SendsBlock steps l.set s Deselect (Some answer) u
      × (rest : List Result) × (heard ≡ Closed ∷ rest) × HearsRounds next None u rest ending t
  HearsRounds (Close next) None s heard ending t = ⊥
