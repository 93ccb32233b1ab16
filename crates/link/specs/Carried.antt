-- What a command comes to that a reader's end carries over a medium (this project's own).
use Rattle.std.specs.Prelude.{◌≡◌, ℕ, List, [], ◌∷◌, ◌++◌, None, Result, Ok, Err}
use Rattle.ep_base.specs.Air.Heard.{Heard}
use Rattle.ep_base.specs.Link.Block.{is_bad, count}
use Rattle.ep_base.specs.Air.Medium.{MediumSteps}
use Rattle.ep_base.specs.Link.ReaderEnd.{Reader, Asks, Gives, Spends, Breaks, asked}
use Rattle.ep_base.specs.Link.LinkFrames.{LinkSetting, breach_of}
use Rattle.ep_base.specs.Link.Carry.{SendsBlock, Follows, AtRest, AtMostOnce, Executed}
use Rattle.ep_base.specs.Cards.CardAnswer.{card_answer}
use Rattle.ep_base.specs.Link.Wire.{Wire}
use Rattle.block_reader.specs.Stands.{Held, Rests, Asking, Fails}
use Rattle.block_reader.specs.declared.ends.LinkEnd.{LinkEnd}
use Rattle.block_reader.specs.declared.ends.LinkEnd.TheVariants.{Spent, Breach, Device}

-- The hearings gave the response, and the end rests.
pub record Answers {S : Type 0} (steps : MediumSteps S) (set : LinkSetting) (r : Reader) (s : S) (response : List ℕ) (e : Held) (t : S) : Type 0 where
  pub hearings : List Heard
  pub reader : Reader
  pub follows : Follows steps set hearings r s (Gives response reader) t
  pub rests : Rests e reader

-- The last of the hearings was the third bad one since the toggle.
pub record RunsOut {S : Type 0} (steps : MediumSteps S) (set : LinkSetting) (r : Reader) (s : S) (bad : ℕ) (e : Held) (t : S) : Type 0 where
  pub hearings : List Heard
  pub reader : Reader
  pub follows : Follows steps set hearings r s (Spends reader) t
  pub fails : Fails e reader
  pub three : bad ≡ 3
  pub third : count is_bad reader.since ≡ 3

-- The last of the hearings was outside the rules.
pub record IsBroken {S : Type 0} (steps : MediumSteps S) (set : LinkSetting) (r : Reader) (s : S) (end : LinkEnd) (e : Held) (t : S) : Type 0 where
  pub hearings : List Heard
  pub last : Heard
  pub reader : Reader
  pub follows : Follows steps set (hearings ++ last ∷ []) r s (Breaks reader) t
  pub fails : Fails e reader
  pub breach : end ≡ Breach (breach_of reader last)

-- After the hearings the medium failed.
pub record IsLost {S : Type 0} (steps : MediumSteps S) (set : LinkSetting) (r : Reader) (s : S) (e : Held) (t : S) : Type 0 where
  pub hearings : List Heard
  pub reader : Reader
  pub between : S
  pub follows : Follows steps set hearings r s (Asks reader) between
  pub fails : SendsBlock steps set between (asked reader) None t
  pub asking : Asking e reader

-- From a reader that asks, the medium's hearings lead to this result, as the reader's table says.
abbrev pub Carried : {S : Type 0} → MediumSteps S → LinkSetting → Reader → S → Result (List ℕ) LinkEnd → Held → S → Type 0
Carried steps set r s (Ok response) e t = Answers steps set r s response e t
Carried steps set r s (Err (Spent bad)) e t = RunsOut steps set r s bad e t
Carried steps set r s (Err (Breach b)) e t = IsBroken steps set r s (Breach b) e t
Carried steps set r s (Err Device) e t = IsLost steps set r s e t

-- The end rests at a reader that agrees with the card.
pub record Agrees (e : Held) (w : Wire) : Type 0 where
  pub reader : Reader
  pub rests : Rests e reader
  pub at_rest : AtRest reader w.party.card

-- Over a wire, the result of a command: the card's own response, where it was executed exactly once and both ends are at rest again; or the link is
-- spent after three bad hearings, and it was executed at most once.
abbrev pub ByWire : Result (List ℕ) LinkEnd → Held → Wire → List ℕ → Wire → Type 0
ByWire (Ok response) e w command t = (response ≡ (card_answer w.party.image command).0.response) × Executed w command t × Agrees e t
ByWire (Err (Spent bad)) e w command t = (bad ≡ 3) × AtMostOnce w command t
ByWire (Err (Breach b)) e w command t = ⊥
ByWire (Err Device) e w command t = ⊥
