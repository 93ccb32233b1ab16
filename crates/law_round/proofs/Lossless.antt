-- A field over which every frame passes: it stays so in rounds and in links, and no link is spent.
use Rattle.std.proofs.Common.{◌≡◌, ℕ, zero, suc, Bool, true, false, List, Option, Some, None, sym, ap, ◌∙◌, subst}
use Rattle.ep_base.specs.declared.limits.TheConstants.{ROUND_EXCHANGES}
use Rattle.ep_base.specs.declared.air.Wave.{Wave}
use Rattle.ep_base.specs.Air.Fates.{Way, AllPass, gone_by, next_fate}
use Rattle.ep_base.specs.Cards.Apdu.{is_command}
use Rattle.ep_base.specs.Link.Block.{Block}
use Rattle.ep_base.specs.Link.Carry.{SendsBlock, AtRest, OfLink, Follows}
use Rattle.ep_base.specs.Cards.Field.{Field, field_send, field}
use Rattle.ep_base.specs.Air.Frame.{sealed}
use Rattle.ep_base.specs.Air.Heard.{Ask, Heard, RoundEnd, RoundTurn, Goes, Ends, wave_of_kind}
use Rattle.ep_base.specs.Link.LinkFrames.{LinkSetting}
use Rattle.ep_base.specs.Air.Medium.{told, AfterReset, ExchangesBy}
use Rattle.ep_base.specs.Poll.Polling.{AfterExchange, Plays, PlaysRound}
use Rattle.ep_base.specs.Link.ReaderEnd as links
use Rattle.ep_base.specs.Link.ReaderEnd.{Reader, begin}
use Rattle.ep_base.specs.Poll.Round.{Stage, round_asks, round_hears}
use Rattle.ep_base.specs.Link.Spelling.{spelled}
use Rattle.law_round.specs.Acting.{shown}
use Rattle.ep_base.specs.Cards.LinkedField.{is_open}
use Rattle.law_round.proofs.Acting.{field_acts_law}
use Rattle.law_round.proofs.Carrying.{along}
use Rattle.law_wire.proofs.Alike.{unspent_alike}
use Rattle.law_wire.proofs.Carrying.{IsUnspent}
use Rattle.law_wire.proofs.Passing.{next_pass}

-- every frame to come passes
abbrev pub Passing : Field → Type 0
Passing f = AllPass f.air.fates

-- and the cards aren't gone
abbrev pub IsClear : Field → Type 0
IsClear f = (f.air.gone ≡ false) × Passing f

passing_send : (f : Field) (wave : Wave) (bytes : List ℕ) → Passing f → Passing (field_send f wave bytes).1
passing_send f wave bytes all = (next_pass f.air.fates all).2

clear_send : (f : Field) (wave : Wave) (bytes : List ℕ) → IsClear f → IsClear (field_send f wave bytes).1
clear_send f wave bytes clear =
    let pass = next_pass f.air.fates clear.1 in (
      ap (λ (gone : Bool). gone_by (gone_by gone (next_fate f.air.fates).down) (next_fate f.air.fates).up) clear.0
          ∙ ap (λ (leg : Way). gone_by (gone_by false leg) (next_fate f.air.fates).up) pass.0
          ∙ ap (λ (leg : Way). gone_by false leg) pass.1,
      pass.2,
    )

-- ---- rounds

module _ (fsdi : ℕ) where
  after_reset : (s t : Field) (well : Bool) (ask : Ask) (heard : Option Heard) → Passing s → AfterReset (told field) well s ask heard t → Passing t
  after_reset s t true ask heard all x = subst (λ (y : Option Heard × Field). Passing y.1) x (passing_send s ask.wave ask.bytes all)
  after_reset s t false ask heard all x = subst (λ (f : Field). Passing f) (sym x.1) all

  exchanged : (s t : Field) (reset : Bool) (ask : Ask) (heard : Option Heard) → Passing s → ExchangesBy (told field) reset s ask heard t → Passing t
  exchanged s t false ask heard all x = subst (λ (y : Option Heard × Field). Passing y.1) x (passing_send s ask.wave ask.bytes all)
  exchanged s t true ask heard all x =
      let all_still : Passing x.1 = subst (λ (y : Bool × Field). Passing y.1) x.2 all in
      after_reset x.1 t x.0 ask heard all_still x.3

  after_exchange : (u t : Field) (heard : Option Heard) (ending : Option RoundEnd) (Then : Heard → Field → Option RoundEnd → Field → Type 0)
      → ((h : Heard) → Then h u ending t → Passing t) → Passing u → AfterExchange (told field) fsdi Then heard u ending t → Passing t
  after_exchange u t (Some h) ending Then more all x = more h x
  after_exchange u t None ending Then more all x = subst (λ (f : Field). Passing f) (sym x.1) all

  plays_passing : (n : ℕ) (turn : RoundTurn Stage) (s t : Field) (ending : Option RoundEnd) → Passing s → Plays (told field) fsdi n turn s ending t → Passing t
  unfolding Plays
  plays_passing zero (Goes stage) s t ending all x = absurd x
  plays_passing zero (Ends e) s t ending all x = subst (λ (f : Field). Passing f) (sym x.1) all
  plays_passing (suc n) (Ends e) s t ending all x = subst (λ (f : Field). Passing f) (sym x.1) all
  plays_passing (suc n) (Goes stage) s t ending all x =
      let u : Field = x.1 in
      let still : Passing u = exchanged s u (round_asks fsdi stage).reset (round_asks fsdi stage) x.0 all x.2 in
      after_exchange u t x.0 ending (λ h. Plays (told field) fsdi n (round_hears stage h)) (λ h y. plays_passing n (round_hears stage h) u t ending still y) still x.3

  -- a round leaves it so
  pub round_passing : (s t : Field) (ending : Option RoundEnd) → Passing s → PlaysRound (told field) fsdi s ending t → Passing t
  round_passing s t ending all x = plays_passing ROUND_EXCHANGES _ s t ending all x

-- ---- links

-- a block leaves it so
pub passing_block : (set : LinkSetting) (b : Block) (s t : Field) (heard : Option Heard) → Passing s → SendsBlock (told field) set s b heard t → Passing t
passing_block set b s t heard all x =
    let e : field_send s (wave_of_kind set.kind) (sealed (wave_of_kind set.kind) (spelled b)) ≡ (heard, t) = x in
    subst (λ (y : Option Heard × Field). Passing y.1) e (passing_send s (wave_of_kind set.kind) (sealed (wave_of_kind set.kind) (spelled b)) all)

clear_block : (set : LinkSetting) (b : Block) (s t : Field) (heard : Option Heard) → IsClear s → SendsBlock (told field) set s b heard t → IsClear t
clear_block set b s t heard clear x =
    let e : field_send s (wave_of_kind set.kind) (sealed (wave_of_kind set.kind) (spelled b)) ≡ (heard, t) = x in
    subst (λ (y : Option Heard × Field). IsClear y.1) e (clear_send s (wave_of_kind set.kind) (sealed (wave_of_kind set.kind) (spelled b)) clear)

-- and so does a command, also where the cards aren't gone
pub command_clear : (set : LinkSetting) (n : ℕ) (s t : Field) (r : Reader) (hs : List Heard) (turn : links.ReaderTurn) → is_open set.kind n s ≡ true → IsClear s → Follows (told field) set hs r s turn t → IsClear t
command_clear set n s t r hs turn good clear x = along set n IsClear (λ u v b heard g sends p. clear_block set b u v heard p sends) hs r s turn t good clear x

-- a command over an open link to a card that is there doesn't spend the link
pub unspent_in_field : (set : LinkSetting) (n : ℕ) (s t : Field) (r : Reader) (command : List ℕ) (hs : List Heard) (turn : links.ReaderTurn)
    → is_open set.kind n s ≡ true → OfLink set (shown n s) → AtRest r (shown n s).party.card → is_command command ≡ true → IsClear s
    → Follows (told field) set hs (begin set.frames.card command r) s turn t → IsUnspent turn
unspent_in_field set n s t r command hs turn good of rest legal clear x =
    unspent_alike (told field) set (is_open set.kind n) (shown n) s r command hs turn t (field_acts_law set n) good of rest legal clear.0 clear.1 x
