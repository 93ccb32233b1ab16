-- Lines that can be cut, read one line after another.
use Rattle.std.proofs.Common.{◌≡◌, ◌⊎◌, ℕ, true, List, [], ◌∷◌, ◌++◌, Option, Some, None, inl, inr, refl, sym, ap, ◌∙◌, subst, ⊎_elim, append_assoc}
use Rattle.ep_base.specs.Air.Heard.{Activated, RoundEnd, Empty, Collision, Unsupported, Broken, Found, RoundTurn, Goes, Ends}
use Rattle.ep_base.specs.Cards.Apdu.{is_command}
use Rattle.ep_base.specs.Link.Block.{Deselect}
use Rattle.ep_base.specs.Link.ReaderEnd.{Reader, ReaderTurn, Asks, Gives, Spends, Breaks, asked, begin}
use Rattle.ep_base.specs.Link.LinkFrames.{LinkSetting, block_ask}
use Rattle.ep_base.specs.Link.Carry.{turn_on}
use Rattle.ep_base.specs.Link.Dialogue.{opened_reader}
use Rattle.ep_base.specs.Poll.Round.{Stage, Waking, round_asks, round_hears}
use Rattle.ep_base.specs.Poll.Polling.{card_in}
use Rattle.ep_base.specs.Poll.Radio.{setting_of}
use Rattle.trace_check.specs.Lines.{Line}
use Rattle.trace_check.specs.Allowed.{Sends, RoundGoes, IsRound, CommandGoes, IsSpent, IsAnswered, LinkGoes, IsCut, NoLine, ARound, ALink}

-- lines that can follow in a link with no command open, where these can follow the link
pub record FromRest (After : List Line → Type 0) (set : LinkSetting) (r : Reader) (ls : List Line) : Type 0 where
  pub link : List Line
  pub rest : List Line
  pub commands : List (List ℕ)
  pub parts : ls ≡ link ++ rest
  pub goes : LinkGoes set r commands link
  pub cut : After rest

-- lines that can follow a turn of the reader's end
abbrev pub FromTurn : (List Line → Type 0) → LinkSetting → ReaderTurn → List Line → Type 0
FromTurn After set (Asks r) [] = ⊥
FromTurn After set (Asks r) (l ∷ ls) = Sends l (block_ask set.kind set.fwi (asked r)) × FromTurn After set (turn_on set r l.heard) ls
FromTurn After set (Gives response r) ls = FromRest After set r ls
FromTurn After set (Spends r) ls = After ls
FromTurn After set (Breaks r) ls = ⊥

-- lines that can follow a round
abbrev pub AfterEnd : ℕ → Option Activated → List Line → Type 0
AfterEnd fsdi None ls = IsCut fsdi ls
AfterEnd fsdi (Some card) ls = FromRest (IsCut fsdi) (setting_of fsdi card) opened_reader ls

-- lines that can follow where a round stands
abbrev pub FromRound : ℕ → RoundTurn Stage → List Line → Type 0
FromRound fsdi (Goes stage) [] = ⊥
FromRound fsdi (Goes stage) (l ∷ ls) = Sends l (round_asks fsdi stage) × FromRound fsdi (round_hears stage l.heard) ls
FromRound fsdi (Ends e) ls = AfterEnd fsdi (card_in e) ls

-- ---- rounds

pub cut_round : (fsdi : ℕ) (turn : RoundTurn Stage) (round rest : List Line) (e : RoundEnd) → RoundGoes fsdi turn round e → AfterEnd fsdi (card_in e) rest → FromRound fsdi turn (round ++ rest)
cut_round fsdi (Goes stage) [] rest e g a = absurd g
cut_round fsdi (Goes stage) (l ∷ ls) rest e g a = (g.0, cut_round fsdi (round_hears stage l.heard) ls rest e g.1 a)
cut_round fsdi (Ends end) [] rest e g a = subst (λ (x : RoundEnd). AfterEnd fsdi (card_in x) rest) (sym g) a
cut_round fsdi (Ends end) (l ∷ ls) rest e g a = absurd g

-- a round, and what follows it
pub record RoundCut (fsdi : ℕ) (turn : RoundTurn Stage) (ls : List Line) : Type 0 where
  pub round : List Line
  pub rest : List Line
  pub end : RoundEnd
  pub parts : ls ≡ round ++ rest
  pub goes : RoundGoes fsdi turn round end
  pub after : AfterEnd fsdi (card_in end) rest

pub round_cut : (fsdi : ℕ) (turn : RoundTurn Stage) (ls : List Line) → FromRound fsdi turn ls → RoundCut fsdi turn ls
round_cut fsdi (Goes stage) [] f = absurd f
round_cut fsdi (Goes stage) (l ∷ ls) f =
    let c : RoundCut fsdi (round_hears stage l.heard) ls = round_cut fsdi (round_hears stage l.heard) ls f.1 in
    record { round = l ∷ c.round; rest = c.rest; end = c.end; parts = ap (λ (x : List Line). l ∷ x) c.parts; goes = (f.0, c.goes); after = c.after }
round_cut fsdi (Ends e) ls f = record { round = []; rest = ls; end = e; parts = refl; goes = refl; after = f }

pub from_cut : (fsdi : ℕ) (ls : List Line) → IsCut fsdi ls → (ls ≡ []) ⊎ FromRound fsdi (Goes Waking) ls
from_cut fsdi _ (NoLine ls e) = inl e
from_cut fsdi _ (ARound ls round rest e parts goes none cut) =
    inr (subst (FromRound fsdi (Goes Waking)) (sym parts)
    (cut_round fsdi (Goes Waking) round rest e goes (subst (λ (o : Option Activated). AfterEnd fsdi o rest) (sym none) cut)))
from_cut fsdi _ (ALink ls round link rest card parts goes is cut) =
    inr (subst (FromRound fsdi (Goes Waking)) (sym parts)
    (cut_round fsdi (Goes Waking) round (link ++ rest) (Found card) goes
    (record { link = link; rest = rest; commands = is.0; parts = refl; goes = is.1; cut = cut })))

by_end : (fsdi : ℕ) (ls round rest : List Line) (e : RoundEnd) → ls ≡ round ++ rest → IsRound fsdi round e → AfterEnd fsdi (card_in e) rest → IsCut fsdi ls
by_end fsdi ls round rest Empty parts goes a = ARound ls round rest Empty parts goes refl a
by_end fsdi ls round rest Collision parts goes a = ARound ls round rest Collision parts goes refl a
by_end fsdi ls round rest Unsupported parts goes a = ARound ls round rest Unsupported parts goes refl a
by_end fsdi ls round rest Broken parts goes a = ARound ls round rest Broken parts goes refl a
by_end fsdi ls round rest (Found card) parts goes a =
    ALink ls round a.link a.rest card (parts ∙ ap (λ (x : List Line). round ++ x) a.parts) goes (a.commands, a.goes) a.cut

pub to_cut : (fsdi : ℕ) (ls : List Line) → FromRound fsdi (Goes Waking) ls → IsCut fsdi ls
to_cut fsdi ls f =
    let c : RoundCut fsdi (Goes Waking) ls = round_cut fsdi (Goes Waking) ls f in
    by_end fsdi ls c.round c.rest c.end c.parts c.goes c.after

-- ---- links

pub cut_turn : (After : List Line → Type 0) (set : LinkSetting) (turn : ReaderTurn) (these rest : List Line) (end : ReaderTurn) → CommandGoes set turn these end → FromTurn After set end rest → FromTurn After set turn (these ++ rest)
cut_turn After set turn [] rest end g f = subst (λ (t : ReaderTurn). FromTurn After set t rest) (sym g) f
cut_turn After set (Asks r) (l ∷ ls) rest end g f = (g.0, cut_turn After set (turn_on set r l.heard) ls rest end g.1 f)
cut_turn After set (Gives response r) (l ∷ ls) rest end g f = absurd g
cut_turn After set (Spends r) (l ∷ ls) rest end g f = absurd g
cut_turn After set (Breaks r) (l ∷ ls) rest end g f = absurd g

-- a command's end
abbrev pub IsEnd : ReaderTurn → Type 0
IsEnd (Asks r) = ⊥
IsEnd (Gives response r) = Unit {0}
IsEnd (Spends r) = Unit {0}
IsEnd (Breaks r) = ⊥

-- the exchanges of the open command, and what follows them
pub record TurnCut (After : List Line → Type 0) (set : LinkSetting) (turn : ReaderTurn) (ls : List Line) : Type 0 where
  pub these : List Line
  pub rest : List Line
  pub end : ReaderTurn
  pub parts : ls ≡ these ++ rest
  pub goes : CommandGoes set turn these end
  pub ends : IsEnd end
  pub after : FromTurn After set end rest

pub turn_cut : (After : List Line → Type 0) (set : LinkSetting) (turn : ReaderTurn) (ls : List Line) → FromTurn After set turn ls → TurnCut After set turn ls
turn_cut After set (Asks r) [] f = absurd f
turn_cut After set (Asks r) (l ∷ ls) f =
    let c : TurnCut After set (turn_on set r l.heard) ls = turn_cut After set (turn_on set r l.heard) ls f.1 in
    record { these = l ∷ c.these; rest = c.rest; end = c.end; parts = ap (λ (x : List Line). l ∷ x) c.parts; goes = (f.0, c.goes); ends = c.ends; after = c.after }
turn_cut After set (Gives response r) ls f = record { these = []; rest = ls; end = Gives response r; parts = refl; goes = refl; ends = tt; after = f }
turn_cut After set (Spends r) ls f = record { these = []; rest = ls; end = Spends r; parts = refl; goes = refl; ends = tt; after = f }
turn_cut After set (Breaks r) ls f = absurd f

-- the link is closed with the first of these lines
pub record Closed (After : List Line → Type 0) (set : LinkSetting) (ls : List Line) : Type 0 where
  pub line : Line
  pub rest : List Line
  pub parts : ls ≡ line ∷ rest
  pub sends : Sends line (block_ask set.kind set.fwi Deselect)
  pub cut : After rest

-- a command is begun with them
pub record Begun (After : List Line → Type 0) (set : LinkSetting) (r : Reader) (ls : List Line) : Type 0 where
  pub command : List ℕ
  pub is : is_command command ≡ true
  pub goes : FromTurn After set (Asks (begin set.frames.card command r)) ls

rest_by : (After : List Line → Type 0) (set : LinkSetting) (r : Reader) (ls link rest : List Line) (commands : List (List ℕ)) → ls ≡ link ++ rest → LinkGoes set r commands link → After rest → Closed After set ls ⊎ Begun After set r ls
rest_by After set r ls link rest [] parts c cut =
    inl (record { line = c.line; rest = rest; parts = parts ∙ ap (λ (x : List Line). x ++ rest) c.one; sends = c.sends; cut = cut })
rest_by After set r ls link rest (command ∷ others) parts g cut =
    ⊎_elim
    (λ (s : IsSpent set r command others link). inr (record {
      command = command;
      is = s.takes.0;
      goes = subst (FromTurn After set (Asks (begin set.frames.card command r))) (sym parts)
          (cut_turn After set (Asks (begin set.frames.card command r)) link rest (Spends s.reader) s.takes.1 cut);
    }))
    (λ (a : IsAnswered (λ (q : Reader) (after : List Line). LinkGoes set q others after) set r command link). inr (record {
      command = command;
      is = a.takes.0;
      goes = subst (FromTurn After set (Asks (begin set.frames.card command r)))
          (sym (parts ∙ ap (λ (x : List Line). x ++ rest) a.parts ∙ append_assoc a.these a.rest rest))
          (cut_turn After set (Asks (begin set.frames.card command r)) a.these (a.rest ++ rest) (Gives a.response a.reader) a.takes.1
          (record { link = a.rest; rest = rest; commands = others; parts = refl; goes = a.after; cut = cut }));
    }))
    g

pub from_rest : (After : List Line → Type 0) (set : LinkSetting) (r : Reader) (ls : List Line) → FromRest After set r ls → Closed After set ls ⊎ Begun After set r ls
from_rest After set r ls f = rest_by After set r ls f.link f.rest f.commands f.parts f.goes f.cut

pub to_rest_closed : (After : List Line → Type 0) (set : LinkSetting) (r : Reader) (l : Line) (ls : List Line) → Sends l (block_ask set.kind set.fwi Deselect) → After ls → FromRest After set r (l ∷ ls)
to_rest_closed After set r l ls sends cut =
    record { link = l ∷ []; rest = ls; commands = []; parts = refl; goes = record { line = l; one = refl; sends = sends }; cut = cut }

by_turn : (After : List Line → Type 0) (set : LinkSetting) (r : Reader) (command : List ℕ) (ls these rest : List Line) (end : ReaderTurn) → is_command command ≡ true → ls ≡ these ++ rest → IsEnd end → CommandGoes set (Asks (begin set.frames.card command r)) these end → FromTurn After set end rest → FromRest After set r ls
by_turn After set r command ls these rest (Asks q) is parts e g f = absurd e
by_turn After set r command ls these rest (Gives response q) is parts e g f = record {
  link = these ++ f.link;
  rest = f.rest;
  commands = command ∷ f.commands;
  parts = parts ∙ ap (λ (x : List Line). these ++ x) f.parts ∙ sym (append_assoc these f.link f.rest);
  goes = inr (record { these = these; rest = f.link; response = response; reader = q; parts = refl; takes = (is, g); after = f.goes });
  cut = f.cut;
}
by_turn After set r command ls these rest (Spends q) is parts e g f = record {
  link = these;
  rest = rest;
  commands = command ∷ [];
  parts = parts;
  goes = inl (record { reader = q; takes = (is, g); last = refl });
  cut = f;
}
by_turn After set r command ls these rest (Breaks q) is parts e g f = absurd e

pub to_rest_begun : (After : List Line → Type 0) (set : LinkSetting) (r : Reader) (command : List ℕ) (ls : List Line) → is_command command ≡ true → FromTurn After set (Asks (begin set.frames.card command r)) ls → FromRest After set r ls
to_rest_begun After set r command ls is f =
    let c : TurnCut After set (Asks (begin set.frames.card command r)) ls = turn_cut After set (Asks (begin set.frames.card command r)) ls f in
    by_turn After set r command ls c.these c.rest c.end is c.parts c.ends c.goes c.after
