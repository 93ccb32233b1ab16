-- The transactions of a load are lawful.
use Rattle.std.proofs.Common.{◌≡◌, ◌≤◌, ℕ, zero, suc, ◌+◌, ◌==◌, List, [], ◌∷◌, ◌++◌, length, true, refl, arith}
use Rattle.std.specs.Prelude.{replicate}
use Rattle.std.proofs.lemmas.List.Elements.{All-cons, All-nil}
use Rattle.ep_base.specs.Air.Fates.{Fate, AreFates, clean_fate}
use Rattle.ep_base.specs.Cards.Apdu.{is_command}
use Rattle.ep_rules.specs.EntryPoint.Kernel.{Script}
use Rattle.ep_rules.specs.EntryPoint.Event.{Verdict}
use Rattle.card_table.specs.Cards.{IsCard}
use Rattle.card_table.proofs.Numbered.{all_placed, all_distinct}
use Rattle.scenario.specs.Accepted.{IsLawful}
use Rattle.scenario.specs.Scripts.{AreScripts}
use Rattle.ep_load.specs.Cards.{card_drawn}
use Rattle.ep_load.specs.Draws.{Draws, AreDraws}
use Rattle.ep_load.specs.Fates.{leaving, answer_lost, frame_lost, fates_drawn}
use Rattle.ep_load.specs.Load.{transaction_drawn}
use Rattle.ep_load.specs.Scripts.{approved, verdict_drawn, step, script_of, scripts_drawn}
use Rattle.ep_load.specs.Terms.{chosen}
use Rattle.ep_load.proofs.CardLimits.{card_is}
use Rattle.ep_load.proofs.Choices.{either}

step_sends : is_command step.send ≡ true
unfolding is_command
step_sends = refl

abbrev IsShort : Script → Type 0
IsShort s = length s.steps ≤ 16

one_script : (k : ℕ) (v : Verdict) → AreScripts (script_of k v ∷ [])
one_script k v = record {
  few = omega arith;
  short = All-cons IsShort (script_of k v) [] (omega arith) (All-nil IsShort);
  sends = (((step_sends, tt), tt), tt);
}

two_scripts : (k : ℕ) (v w : Verdict) → AreScripts (script_of k v ∷ script_of k w ∷ [])
two_scripts k v w = record {
  few = omega arith;
  short = All-cons IsShort (script_of k v) (script_of k w ∷ []) (omega arith) (All-cons IsShort (script_of k w) [] (omega arith) (All-nil IsShort));
  sends = (((step_sends, tt), ((step_sends, tt), tt)), tt);
}

-- The scripts of a transaction are within the limits of a document's scripts.
pub are_scripts : (d : Draws) → AreScripts (scripts_drawn d)
are_scripts d =
    let k = (chosen d.choice).kernel in
    let v = verdict_drawn d.outcome in
    either (λ (rest : List Script). AreScripts (script_of k v ∷ rest)) (d.outcome == 3) (script_of k approved ∷ []) []
    (two_scripts k v approved) (one_script k v)

joined : (n : ℕ) (fates : List Fate) → AreFates fates → AreFates (replicate n clean_fate ++ fates)
joined zero fates are = are
joined (suc n) fates are = (tt, tt, joined n fates are)

are_fates : (d : Draws) → AreFates (fates_drawn d)
are_fates d =
    joined (7 + d.clean) _ (
    either AreFates (d.loss == 0) (leaving ∷ []) (answer_lost ∷ (replicate 3 clean_fate ++ frame_lost ∷ []))
    (tt, tt, tt) (tt, tt, joined 3 (frame_lost ∷ []) (tt, tt, tt)))

-- A transaction of a load is lawful.
pub is_lawful : (i : ℕ) (d : Draws) → AreDraws d → IsLawful (transaction_drawn i d)
is_lawful i d are =
    let cards = card_drawn i d ∷ [] in
    record {
      placed = all_placed 1 cards (All-cons IsCard (card_drawn i d) [] (card_is i d are) (All-nil IsCard));
      apart = (tt, tt);
      distinct = all_distinct 1 cards;
      presence = record { few = omega arith; short = All-nil _; known = All-nil _ };
      fates = are_fates d;
      scripts = are_scripts d;
    }
