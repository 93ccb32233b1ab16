-- What a command over an open link comes to over any medium, with all that its end says (ISO/IEC 14443-4; what a breach shows and the count 3 are
-- this project's profile).
use Rattle.std.specs.Prelude.{◌≡◌, ℕ, List, [], ◌∷◌, ◌++◌, Option, Some, None, Result, Ok, Err}
use Rattle.ep_base.specs.Air.Heard.{Heard}
use Rattle.ep_base.specs.Link.Block.{is_bad, count}
use Rattle.ep_base.specs.Air.Medium.{MediumSteps}
use Rattle.ep_base.specs.Link.ReaderEnd.{Reader, ReaderTurn, Asks, Gives, Spends, Breaks, asked, begin}
use Rattle.ep_base.specs.Link.LinkFrames.{BreachData, breach_of}
use Rattle.ep_base.specs.Link.Carry.{SendsBlock, Follows}
use Rattle.ep_base.specs.Poll.Radio.{OpenLink}
use Rattle.block_reader.specs.declared.ends.LinkEnd.{LinkEnd}
use Rattle.block_reader.specs.declared.ends.LinkEnd.TheVariants.{Spent, Breach, Device}

module _ {S : Type 0} (steps : MediumSteps S) (l : OpenLink) (command : List ℕ) (s : S) where
  -- Each of these hearings is the medium's answer to the block that the reader asks then. From the reader that has begun the command they lead to
  -- this turn of its table.
  abbrev pub Leads : List Heard → ReaderTurn → S → Type 0
  Leads hearings turn t = Follows steps l.set hearings (begin l.set.frames.card command l.reader) s turn t

  -- The response came whole, and the link is open for the next command.
  pub record HeardResponse (response : List ℕ) (link : Option OpenLink) (t : S) : Type 0 where
    pub hearings : List Heard
    pub reader : Reader
    pub leads : Leads hearings (Gives response reader) t
    pub stays : link ≡ Some (record { set = l.set; reader = reader })

  -- The last hearing was the third bad one since the toggle, and so many are told.
  pub record HeardThird (bad : ℕ) (link : Option OpenLink) (t : S) : Type 0 where
    pub hearings : List Heard
    pub reader : Reader
    pub leads : Leads hearings (Spends reader) t
    pub third : count is_bad reader.since ≡ 3
    pub told : bad ≡ 3
    pub left : link ≡ None

  -- The last hearing was outside the rules. What is told is its frame with check bytes, and of the reader before it the block number, what it was
  -- doing, and how many S(WTX) it had accepted since the toggle.
  pub record HeardBreach (breach : BreachData) (link : Option OpenLink) (t : S) : Type 0 where
    pub hearings : List Heard
    pub last : Heard
    pub reader : Reader
    pub leads : Leads (hearings ++ last ∷ []) (Breaks reader) t
    pub told : breach ≡ breach_of reader last
    pub left : link ≡ None

  -- After some hearings the medium failed at the block that was asked.
  pub record HeardNone (link : Option OpenLink) (t : S) : Type 0 where
    pub hearings : List Heard
    pub reader : Reader
    pub between : S
    pub leads : Leads hearings (Asks reader) between
    pub fails : SendsBlock steps l.set between (asked reader) None t
    pub left : link ≡ None

  -- What is told of a command is what was heard of it, by the reader's table.
  abbrev pub AsHeard : Result (List ℕ) LinkEnd → Option OpenLink → S → Type 0
  AsHeard (Ok response) link t = HeardResponse response link t
  AsHeard (Err (Spent bad)) link t = HeardThird bad link t
  AsHeard (Err (Breach breach)) link t = HeardBreach breach link t
  AsHeard (Err Device) link t = HeardNone link t
