-- From where a run stands to its object, and why there is none.
use Rattle.std.proofs.Common.{◌≡◌, ℕ, ℤ, List, None, Result, Ok, Err, IfOk, IfErr, Vec, Global, ap, ◌∙◌, sym, subst}
use Rattle.std.specs.String.{string_bytes}
use Rattle.std.specs.Prelude.{IsErrAnd}
use Rattle.types.specs.Code.{Array, Program}
use Rattle.types.specs.Outcome.{Outcome}
use Rattle.types.specs.Translation.{input as lists_of}
use Rattle.types.specs.Typed.{code_of}
use Rattle.types.specs.declared.input.Input.{Input}
use Rattle.types.specs.declared.typed.Typed.{Typed}
use Rattle.commands.specs.Chosen.{AreChosen}
use Rattle.commands.specs.declared.question.ProgramAndInput.{ProgramAndInput}
use Rattle.step_trees.specs.Standing.{Candidate, HasEnded, MayStep, Misses, Standing, standing}
use Rattle.command_line.specs.Requests.{Settings}
use Rattle.files.specs.Choosing.{TellsNoChoices}
use Rattle.files.specs.Held.{Held}
use Rattle.failures.specs.declared.failure.Failure.{Failure}
use Rattle.failures.specs.declared.failure.Failure.TheVariants.{CannotWriteOutput, NoLeaf, NoMemory}
use Rattle.commands.specs.Answers.{HasInput, TellsNotGiven}
use Rattle.command_line.specs.declared.request.Command.TheVariants.{Serial}
use Rattle.commands.proofs.Answering.{IsOther, not_given_other, other_failure}
use Rattle.json_answers.specs.Explored.{FailsUnexplored, IsRunByChoices, ObjectOfStanding, TellsOpen, TellsWhere, not_chosen, not_given, no_memory, no_task}
use Rattle.json_answers.specs.Objects.{TellsOutcome}
use Rattle.json_answers.specs.declared.object_line.ObjectLine.{ObjectLine}

no_choices_other : (f : Failure) (s : Settings) (held : Held) → TellsNoChoices s.choices held f → IsOther f
no_choices_other CannotWriteOutput s held told = told
no_choices_other _ s held told = tt

-- where a run by a list of choices stands
pub stands_by : (typed : Typed) (input : Input) (read kept : List ℕ) → read ≡ kept → (w : Standing)
    → w ≡ standing (code_of typed) (lists_of input) read → w ≡ standing (code_of typed) (lists_of input) kept
stands_by typed input read kept same w is = is ∙ ap (standing (code_of typed) (lists_of input)) same

module _ (s : Settings) (held : Held) (text : List ℕ) where
  -- ---- why there is no object

  pub given_fails : (f : Failure) → TellsNotGiven s held text f → FailsUnexplored s held text f
  given_fails f told = record {
    why = not_given f told;
    early = other_failure f (not_given_other Serial s held text None tt (λ code. tt) f told);
  }

  pub chosen_fails : (code : Program) (input : List (List ℤ)) → HasInput s held text code input → (f : Failure)
      → TellsNoChoices s.choices held f → FailsUnexplored s held text f
  chosen_fails code input given f told = record {
    why = not_chosen f (record { code = code; input = input; given = given; why = told });
    early = other_failure f (no_choices_other f s held told);
  }

  pub memory_fails : FailsUnexplored s held text NoMemory
  memory_fails = record { why = no_memory; early = other_failure NoMemory tt }

  pub memory_only : (r : Result ObjectLine Failure) → IfErr r (λ f. f ≡ NoMemory) → IfErr r (FailsUnexplored s held text)
  memory_only (Ok t) only = tt
  memory_only (Err f) only = subst (FailsUnexplored s held text) (sym only) memory_fails

  -- a failure that is passed on
  pub fails_passed : (r : Result ObjectLine Failure) (f : Failure) → IsErrAnd r (λ y. y ≡ f) → FailsUnexplored s held text f
      → IfErr r (FailsUnexplored s held text)
  fails_passed (Ok t) f is why = tt
  fails_passed (Err y) f is why = subst (FailsUnexplored s held text) (sym is) why

  -- ---- the object

  -- files were read before the choices
  abbrev pub by_choices : (g : ProgramAndInput) → HasInput s held text (code_of g.typed) (lists_of g.input) → (mid : Held) → mid ≡ held
      → (cs : Vec ℕ Global) → AreChosen s.choices mid (code_of g.typed) (lists_of g.input) cs.items → IsRunByChoices s held text
  by_choices g given mid same cs chosen = record {
    code = code_of g.typed;
    input = lists_of g.input;
    given = given;
    choices = cs.items;
    chosen = subst (λ (h : Held). AreChosen s.choices h (code_of g.typed) (lists_of g.input) cs.items) same chosen;
  }

  module _ (run : IsRunByChoices s held text) where
    pub missing_fails : (n : ℕ) → Misses n ≡ standing run.code run.input run.choices → FailsUnexplored s held text (NoLeaf n)
    missing_fails n is = record {
      why = no_task n (record { run = run; misses = sym is });
      early = other_failure (NoLeaf n) tt;
    }

    object_where : (w : Standing) → w ≡ standing run.code run.input run.choices → (r : Result ObjectLine Failure)
        → IfOk r (λ t. TellsWhere run.code.arrays w text (string_bytes t.line) t.status)
        → IfOk r (λ t. ObjectOfStanding s held text (string_bytes t.line) t.status)
    object_where w is (Err f) tells = tt
    object_where w is (Ok t) tells = record {
      run = run;
      tells = subst (λ (v : Standing). TellsWhere run.code.arrays v text (string_bytes t.line) t.status) is tells;
    }

    pub object_ended : (o : Outcome) (declared : List Array) → declared ≡ run.code.arrays
        → HasEnded o ≡ standing run.code run.input run.choices → (r : Result ObjectLine Failure)
        → IfOk r (λ t. TellsOutcome declared o text (string_bytes t.line) t.status)
        → IfOk r (λ t. ObjectOfStanding s held text (string_bytes t.line) t.status)
    object_ended o declared are is r tells =
        object_where (HasEnded o) is r
        (subst (λ (d : List Array). IfOk r (λ t. TellsOutcome d o text (string_bytes t.line) t.status)) are tells)

    pub object_open : (cs : List Candidate) → MayStep cs ≡ standing run.code run.input run.choices
        → (r : Result ObjectLine Failure) → IfOk r (λ t. TellsOpen cs text (string_bytes t.line) t.status)
        → IfOk r (λ t. ObjectOfStanding s held text (string_bytes t.line) t.status)
    object_open cs is r tells = object_where (MayStep cs) is r tells
