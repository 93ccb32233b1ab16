-- A transport over a medium: rounds until a card comes, its link, and how the link is closed (this project's own).
use Rattle.std.specs.Prelude.{◌≡◌, ◌||◌, ℕ, Bool, true, false, List, [], ◌∷◌, Option, Some, None}
use Rattle.ep_base.specs.Air.FrameSize.{frame_size}
use Rattle.ep_base.specs.Air.Heard.{Activated, Heard, RoundEnd, Empty, Collision, Unsupported, Broken, Found}
use Rattle.ep_base.specs.Air.Medium.{MediumSteps}
use Rattle.ep_base.specs.Poll.Polling.{Polled, Came, NoCard, Device, PlaysRounds}
use Rattle.ep_base.specs.Link.Block.{Deselect}
use Rattle.ep_base.specs.Link.ReaderEnd.{Reader, ReaderTurn, Asks, Gives, Spends, Breaks, asked, begin}
use Rattle.ep_base.specs.Link.Dialogue.{opened_reader}
use Rattle.ep_base.specs.Link.LinkFrames.{LinkSetting}
use Rattle.ep_base.specs.Link.Carry.{SendsBlock, Follows}
use Rattle.ep_base.specs.Poll.Transport.{TransportSteps, PresentResult, Here, Nobody, Gone, Reply, Answered, Spent, Breached, Lost}
use Rattle.ep_base.specs.declared.limits.TheConstants.{ROUNDS}

-- An open link between two commands: its setting, and the reader's end (ISO/IEC 14443-4).
pub record OpenLink : Type 0 where
  pub set : LinkSetting
  pub reader : Reader

-- The medium's state, the reader's FSDI, and the open link, if there is one (this project's own).
pub record Radio (S : Type 0) : Type 0 where
  pub medium : S
  pub fsdi : ℕ
  pub link : Option OpenLink

-- The setting of the link with a card that was activated by a reader of this FSDI (ISO/IEC 14443-4).
abbrev pub setting_of : ℕ → Activated → LinkSetting
setting_of fsdi card = record { kind = card.kind; frames = record { card = card.fsc; reader = frame_size fsdi }; fwi = card.fwi }

-- The link that was just opened with a card (ISO/IEC 14443-4).
abbrev pub link_to : ℕ → Activated → OpenLink
link_to fsdi card = record { set = setting_of fsdi card; reader = opened_reader }

-- Whether this is a collision (this project's profile).
abbrev pub is_collision : RoundEnd → Bool
is_collision Empty = false
is_collision Collision = true
is_collision Unsupported = false
is_collision Broken = false
is_collision (Found card) = false

-- Whether one of these rounds ended as a collision (this project's profile).
abbrev pub has_collision : List RoundEnd → Bool
has_collision [] = false
has_collision (e ∷ es) = is_collision e || has_collision es

-- The state is of the same reader, with this link (this project's own).
pub record LeavesLink {S : Type 0} (link : Option OpenLink) (s t : Radio S) : Type 0 where
  pub same : t.fsdi ≡ s.fsdi
  pub links : t.link ≡ link

module _ {S : Type 0} (steps : MediumSteps S) where
  -- At most `ROUNDS` rounds were played, which ended so, and of which one was a collision or none (this project's profile).
  pub record Polls (s : Radio S) (collided : Bool) (polled : Polled) (t : Radio S) : Type 0 where
    pub ends : List RoundEnd
    pub plays : PlaysRounds steps s.fsdi ROUNDS s.medium ends polled t.medium
    pub collides : collided ≡ has_collision ends

  -- A presentation is rounds until one ends with a card, which opens a link to it; where none does, or the device fails, there is no link (this
  -- project's profile).
  abbrev pub RadioPresents : Radio S → PresentResult → Radio S → Type 0
  RadioPresents s (Here collided card) t = Polls s collided (Came card) t × LeavesLink (Some (link_to s.fsdi card)) s t
  RadioPresents s (Nobody collided) t = Polls s collided NoCard t × LeavesLink None s t
  RadioPresents s Gone t = ((collided : Bool) × Polls s collided Device t) × LeavesLink None s t

  -- From the reader that has begun the command, some hearings lead to this turn (ISO/IEC 14443-4).
  pub record Comes (l : OpenLink) (command : List ℕ) (s : S) (turn : ReaderTurn) (t : S) : Type 0 where
    pub hearings : List Heard
    pub follows : Follows steps l.set hearings (begin l.set.frames.card command l.reader) s turn t

  -- The link is open for the next command only after a response. A block that could not be sent loses the link (ISO/IEC 14443-4).
  abbrev pub LinkTransacts : OpenLink → Radio S → List ℕ → Reply → Radio S → Type 0
  LinkTransacts l s command (Answered response) t =
      (r : Reader) × Comes l command s.medium (Gives response r) t.medium × LeavesLink (Some (record { set = l.set; reader = r })) s t
  LinkTransacts l s command Spent t = (r : Reader) × Comes l command s.medium (Spends r) t.medium × LeavesLink None s t
  LinkTransacts l s command Breached t = (r : Reader) × Comes l command s.medium (Breaks r) t.medium × LeavesLink None s t
  LinkTransacts l s command Lost t =
      (r : Reader) × (u : S) × Comes l command s.medium (Asks r) u × SendsBlock steps l.set u (asked r) None t.medium × LeavesLink None s t

  -- Closing is one exchange of S(DESELECT), whose answer is ignored: it is well where the medium didn't fail (this project's profile).
  abbrev pub LinkCloses : OpenLink → Radio S → Bool → Radio S → Type 0
  LinkCloses l s true t = (heard : Heard) × SendsBlock steps l.set s.medium Deselect (Some heard) t.medium × LeavesLink None s t
  LinkCloses l s false t = SendsBlock steps l.set s.medium Deselect None t.medium × LeavesLink None s t

  -- A command takes an open link (this project's own).
  abbrev pub TransactsOver : Option OpenLink → Radio S → List ℕ → Reply → Radio S → Type 0
  TransactsOver (Some l) s command reply t = LinkTransacts l s command reply t
  TransactsOver None s command reply t = ⊥

  -- Only an open link is closed (this project's own).
  abbrev pub ClosesOver : Option OpenLink → Radio S → Bool → Radio S → Type 0
  ClosesOver (Some l) s well t = LinkCloses l s well t
  ClosesOver None s well t = ⊥

-- The transport over a medium (this project's profile).
abbrev pub radio : {S : Type 0} → MediumSteps S → TransportSteps (Radio S)
radio steps = record {
  presents = λ s presentation t. RadioPresents steps s presentation t;
  transacts = λ s command reply t. TransactsOver steps s.link s command reply t;
  closes = λ s well t. ClosesOver steps s.link s well t;
}
