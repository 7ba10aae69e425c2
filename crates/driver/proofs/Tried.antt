-- From programs that are timed, or tested, to what was done.
use Rattle.std.proofs.Common.{◌≡◌, ℕ, List, [], Option, Result, Ok, Err, IfOk, IfErr, refl, subst, sym}
use Rattle.std.specs.Prelude.{Bool, true, false}
use Rattle.printing.specs.Appending.{Writes}
use Rattle.commands.specs.Answers.{Explains}
use Rattle.commands.proofs.Answering.{other_failure, refused}
use Rattle.command_line.specs.Requests.{Settings}
use Rattle.command_line.specs.declared.request.Command.TheVariants.{Run}
use Rattle.files.specs.Held.{Held}
use Rattle.failures.specs.declared.failure.Failure.{Failure}
use Rattle.test_and_bench.specs.Folders.{Folders}
use Rattle.test_and_bench.specs.Times.{AnswersTimes}
use Rattle.failures.specs.declared.failure.Failure.TheVariants.{CannotWriteOutput, NoMemory}
use Rattle.json_answers.specs.Failing.{IsToldAsObject, TellsFailure}
use Rattle.json_answers.proofs.Written.{object_refused}
use Rattle.test_and_bench.specs.TestsObject.{ObjectOfTests, TellsTests, TellsUntested, failed_name}
use Rattle.test_and_bench.specs.Trials.{AnswersTest, DoesTest, ExplainsTest, IsUntested, LeavesTested}
use Rattle.test_and_bench.proofs.Objects.{object_answered}
use Rattle.test_and_bench.proofs.Told.{leaves_tested, output_unread, untested_explained}
use Rattle.driver.specs.Acts.{IsHandedOn}
use Rattle.driver.specs.Trying.{TimesRuns}
use Rattle.driver.proofs.Acting.{done_on}

-- the report on times is flushed
pub times_on : (s : Settings) (text : List ℕ) (held later : Held) (old mid new : Option (List ℕ)) (done r : Result ℕ Failure)
    → TimesRuns s text held later old mid done → IsHandedOn done mid new r → TimesRuns s text held later old new r
times_on s text held later old mid new done r times on = record {
  done = done_on (AnswersTimes s held text) (Explains Run s held text) tt old mid new done r times.done on;
  keeps = times.keeps;
}

-- the report on tests is flushed, too
module _ (named : Folders) (held later : Held) (names : List (List ℕ)) (writes : Bool) (s : Settings) (old : Option (List ℕ)) where
  left_on : (b : Bool) (mid new : Option (List ℕ)) (done r : Result ℕ Failure) → LeavesTested b held later done
      → IsHandedOn done mid new r → LeavesTested b held later r
  left_on false mid new done r leaves on = leaves
  left_on true mid new (Ok status) (Ok n) leaves on = tt
  left_on true mid new (Ok status) (Err f) leaves on =
      subst (λ (g : Failure). LeavesTested true held later (Err g)) (sym on.1.1) tt
  left_on true mid new (Err f) r leaves on = subst (LeavesTested true held later) (sym on.1) leaves

  pub tests_on : (mid new : Option (List ℕ)) (done r : Result ℕ Failure)
      → DoesTest named held names writes s later old mid done → IsHandedOn done mid new r
      → DoesTest named held names writes s later old new r
  tests_on mid new done r tests on = record {
    done = done_on (AnswersTest named held names writes s later) (ExplainsTest named names) tt old mid new done r tests.done on;
    leaves = left_on writes mid new done r tests.leaves on;
  }

  -- of an equal result
  pub tests_so : (new : Option (List ℕ)) (r t : Result ℕ Failure) → r ≡ t → DoesTest named held names writes s later old new t
      → DoesTest named held names writes s later old new r
  tests_so new r t same tests =
      subst (λ (u : Result ℕ Failure). DoesTest named held names writes s later old new u) (sym same) tests

  pub objects_so : (new : Option (List ℕ)) (r t : Result ℕ Failure) → r ≡ t → TellsTests named held names writes s later old new t
      → TellsTests named held names writes s later old new r
  objects_so new r t same tests =
      subst (λ (u : Result ℕ Failure). TellsTests named held names writes s later old new u) (sym same) tests

-- tests of equal names
pub named_so : (named : Folders) (held later : Held) (names others : List (List ℕ)) (s : Settings) (old new : Option (List ℕ))
    (r : Result ℕ Failure) → names ≡ others → DoesTest named held names false s later old new r
    → DoesTest named held others false s later old new r
named_so named held later names others s old new r same tests =
    subst (λ (ns : List (List ℕ)). DoesTest named held ns false s later old new r) same tests

-- without memory nothing is tested
pub untested : (named : Folders) (held : Held) (names : List (List ℕ)) (s : Settings) (old : Option (List ℕ)) (e : Failure)
    → e ≡ NoMemory → DoesTest named held names false s held old old (Err e)
untested named held names s old e is =
    subst (λ (f : Failure). DoesTest named held names false s held old old (Err f)) (sym is)
    (record {
      done = refused (AnswersTest named held names false s held) (ExplainsTest named names) old NoMemory tt
          (other_failure NoMemory tt);
      leaves = refl;
    })

-- an object of the results, or of the reason why there are none
module _ (named : Folders) (held later : Held) (names : List (List ℕ)) (writes : Bool) (s : Settings) (old new : Option (List ℕ)) where
  pub object_of_tests : (r : Result ℕ Failure) (object : List ℕ) (status : ℕ)
      → ObjectOfTests named held names writes s later object status → Writes old new r object → IfOk r (λ x. x ≡ status)
      → IfErr r (λ f. f ≡ CannotWriteOutput) → (writes ≡ false → later ≡ held)
      → TellsTests named held names writes s later old new r
  object_of_tests r object status is written told only keeps = record {
    done = object_answered (ObjectOfTests named held names writes s later) (ExplainsTest named names) TellsUntested old new r
        object status tt is written told only;
    leaves = leaves_tested writes held later r keeps (output_unread r only);
  }

  pub object_untested : (mid : Held) (f : Failure) (name : List ℕ) → IsUntested named held names writes mid f → later ≡ mid
      → name ≡ failed_name f → IsToldAsObject (TellsFailure name [] f) old new
      → TellsTests named held names writes s later old new (Err f)
  object_untested mid f name why same is shows =
      let known = untested_explained named held names writes later f
      (subst (λ (h : Held). IsUntested named held names writes h f) (sym same) why) in
      record {
        done = object_refused (ObjectOfTests named held names writes s later) (ExplainsTest named names) TellsUntested old new f
            known.0 (other_failure f known.1)
            (subst (λ (n : List ℕ). IsToldAsObject (TellsFailure n [] f) old new) is shows);
        leaves = known.2;
      }
