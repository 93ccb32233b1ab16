-- The inventory of an accepted document's cards.
use Rattle.std.proofs.Common.{◌≡◌, ℕ, List, [], ◌∷◌, map, refl, ap, sym, subst, ◌∙◌}
use Rattle.std.specs.Prelude.{All}
use Rattle.std.specs.declared.option.Option.{Option}
use Rattle.std.specs.Io.KnownBytes.{Appends}
use Rattle.ep_base.specs.Streams.Io.{AppendsPrefix}
use Rattle.inventory_run.specs.Tagged.{CanBeListed, work_tags}
use Rattle.inventory_run.specs.Text.{lanes_text}
use Rattle.inventory_run.proofs.Accepted.{cards_can_be_listed, plan_tags_are}
use Rattle.scenario.specs.Plan.{Plan}
use Rattle.scenario.specs.Scenario.{Work, Scenario, scenario_of}
use Rattle.ep_program.specs.Headline.{IsReady}
use Rattle.ep_program.specs.Input.{Gives, Opens, IsTooLong}
use Rattle.ep_program.specs.Inventory.{Inventories, IsListable, ListsCards, document_text, scenario_text}
use Rattle.ep_program.specs.declared.status.Status.{Status}
use Rattle.ep_program.specs.declared.status.Status.TheVariants.{Done, ReadFault, WriteFault, NoMemory, Usage, TooLong, NotToml, BadDocument, Mismatch}
use Rattle.ep_program.proofs.Ready.{opened_ready}

pub opened_listable : (input : Option (List ℕ)) (s : Scenario) → Opens input s → IsListable s
opened_listable input s opens =
    let says = opens.1 in
    let ready : IsReady s = opened_ready input s opens in
    record {
      few = ready.few;
      short = ready.short;
      cards = subst (λ (t : Scenario). All (All CanBeListed) t.lanes) (sym says.scene) (cards_can_be_listed opens.0 says.document says.reads);
    }

-- Lanes of this kind, each of which holds a list of transactions.
tags_twice : {V : Type 0} (items : V → List Work) (lanes : List V)
    → map (λ lane. map work_tags (items lane)) lanes ≡ map (λ (works : List Work). map work_tags works) (map items lanes)
tags_twice items [] = refl
tags_twice items (lane ∷ rest) = ap (λ tags. map work_tags (items lane) ∷ tags) (tags_twice items rest)

-- Their text is that of the scenario of which they are the lanes.
pub lanes_text_is : {V : Type 0} (items : V → List Work) (lanes : List V) (s : Scenario) → map items lanes ≡ s.lanes
    → lanes_text (map (λ lane. map work_tags (items lane)) lanes) ≡ scenario_text s
lanes_text_is items lanes s same = ap lanes_text (tags_twice items lanes ∙ ap (map (λ (works : List Work). map work_tags works)) same)

text_is : (p : Plan) → scenario_text (scenario_of p) ≡ document_text p
text_is p = ap lanes_text (plan_tags_are p)

module _ (input : Option (List ℕ)) (before after : Option (List ℕ)) where
  of_plan : (p : Plan) → Gives input p → (status : Status) → ListsCards (scenario_of p) before after status → Inventories input before after status
  of_plan p gives Done r = (p, gives, subst (λ text. Appends before after text) (text_is p) r)
  of_plan p gives WriteFault r = (p, gives, subst (λ text. AppendsPrefix before after text) (text_is p) r)
  of_plan p gives NoMemory r = (tt, r)
  of_plan p gives ReadFault r = absurd r
  of_plan p gives Usage r = absurd r
  of_plan p gives TooLong r = absurd r
  of_plan p gives NotToml r = absurd r
  of_plan p gives (BadDocument f) r = absurd r
  of_plan p gives (Mismatch m) r = absurd r

  -- A scenario that was read and listed is answered.
  pub listed : (s : Scenario) → Opens input s → (status : Status) → ListsCards s before after status → Inventories input before after status
  listed s opens status r =
      let says = opens.1 in
      of_plan says.document (opens.0, says.reads, opens.2) status (subst (λ (t : Scenario). ListsCards t before after status) says.scene r)

pub list_not_long : (s : Scenario) (before after : Option (List ℕ)) (status : Status) → ListsCards s before after status → IsTooLong status → ⊥
list_not_long s before after Done r h = absurd h
list_not_long s before after ReadFault r h = absurd h
list_not_long s before after WriteFault r h = absurd h
list_not_long s before after NoMemory r h = absurd h
list_not_long s before after Usage r h = absurd h
list_not_long s before after TooLong r h = absurd r
list_not_long s before after NotToml r h = absurd h
list_not_long s before after (BadDocument f) r h = absurd h
list_not_long s before after (Mismatch m) r h = absurd h
