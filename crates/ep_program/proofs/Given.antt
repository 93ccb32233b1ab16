-- What was taken of the input: an answer to a document, or to a load, is none to an input that gave too much.
use Rattle.std.proofs.Common.{ℕ, Bool, List, [], arith}
use Rattle.std.specs.declared.option.Option.{Option}
use Rattle.ep_base.specs.Streams.Io.{Takes}
use Rattle.ep_base.specs.declared.limits.TheConstants.{INPUT}
use Rattle.ep_base.proofs.Known.{consumes_none}
use Rattle.ep_claim.specs.Lanes.Probing.{ProbeAnswers}
use Rattle.scenario.specs.Scenario.{Scenario}
use Rattle.ep_program.specs.Input.{IsTooLong}
use Rattle.ep_program.specs.Load.{Loads}
use Rattle.ep_program.specs.Replay.{Plays}
use Rattle.ep_program.specs.Serve.{Surroundings, Runs}
use Rattle.ep_program.specs.declared.status.Status.{Status}
use Rattle.ep_program.specs.declared.status.Status.TheVariants.{Done, ReadFault, WriteFault, NoMemory, Usage, TooLong, NotToml, BadDocument, Mismatch}

-- What was taken, for another reason that doesn't hold either.
pub taken_without : (old new : Option (List ℕ)) (Reason : Type 0) → (Reason → ⊥) → Takes INPUT old new ⊥ → Takes INPUT old new Reason
taken_without old new Reason none t = record {
  taken = t.taken;
  first = t.first;
  over = λ h. absurd (none h);
  within = λ h. absurd (t.within h);
  most = t.most;
}

-- Nothing was taken of an input that stays.
pub none_taken : (input : Option (List ℕ)) → Takes INPUT input input ⊥
none_taken input = record {
  taken = [];
  first = consumes_none input;
  over = λ h. absurd h;
  within = λ h. absurd (omega (arith, h));
  most = omega arith;
}

pub run_not_long : {P : Type 0} (answers : ProbeAnswers P) (traced : Bool) (s : Scenario) (before after : Surroundings P) (status : Status)
    → Runs answers traced s before after status → IsTooLong status → ⊥
run_not_long answers traced s before after Done r h = absurd h
run_not_long answers traced s before after ReadFault r h = absurd h
run_not_long answers traced s before after WriteFault r h = absurd h
run_not_long answers traced s before after NoMemory r h = absurd h
run_not_long answers traced s before after Usage r h = absurd h
run_not_long answers traced s before after TooLong r h = absurd r
run_not_long answers traced s before after NotToml r h = absurd h
run_not_long answers traced s before after (BadDocument f) r h = absurd h
run_not_long answers traced s before after (Mismatch m) r h = absurd h

pub play_not_long : (s : Scenario) (before after : Option (List ℕ)) (status : Status) → Plays s before after status → IsTooLong status → ⊥
play_not_long s before after Done r h = absurd h
play_not_long s before after ReadFault r h = absurd h
play_not_long s before after WriteFault r h = absurd h
play_not_long s before after NoMemory r h = absurd h
play_not_long s before after Usage r h = absurd h
play_not_long s before after TooLong r h = absurd r
play_not_long s before after NotToml r h = absurd h
play_not_long s before after (BadDocument f) r h = absurd h
play_not_long s before after (Mismatch m) r h = absurd h

pub load_not_long : (seed count : ℕ) (before after : Option (List ℕ)) (status : Status) → Loads seed count before after status → IsTooLong status → ⊥
load_not_long seed count before after Done r h = absurd h
load_not_long seed count before after ReadFault r h = absurd h
load_not_long seed count before after WriteFault r h = absurd h
load_not_long seed count before after NoMemory r h = absurd h
load_not_long seed count before after Usage r h = absurd h
load_not_long seed count before after TooLong r h = absurd r
load_not_long seed count before after NotToml r h = absurd h
load_not_long seed count before after (BadDocument f) r h = absurd h
load_not_long seed count before after (Mismatch m) r h = absurd h
