-- A program of a folder, and its result.
use Rattle.std.proofs.Common.{◌≡◌, ℕ, List, Result, Ok, Vec, Global, refl, sym, subst, codes}
use Rattle.std.specs.Prelude.{ℤ, false, Option, IfOk, option_map}
use Rattle.types.specs.Code.{Program}
use Rattle.types.specs.Outcome.{Budget, Outcome, outcome}
use Rattle.types.specs.Translation.{input as lists_of}
use Rattle.types.specs.Typed.{code_of}
use Rattle.types.specs.declared.typed.Typed.{Typed}
use Rattle.printing.specs.OutcomeText.{outcome_text, status_of}
use Rattle.files.specs.Held.{Held, IsGiven, TellsNoProgram, TellsNoText}
use Rattle.failures.specs.declared.failure.Failure.{Failure}
use Rattle.failures.specs.declared.failure.Failure.TheVariants.{NoMemory}
use Rattle.commands.specs.declared.question.Begun.{Begun}
use Rattle.commands.proofs.Answering.{begun_so, other_failure}
use Rattle.test_and_bench.specs.Differences.{difference}
use Rattle.test_and_bench.specs.Runs.{TellsNoRun}
use Rattle.test_and_bench.specs.Trials.{Trial, IsBegun, IsCompared, IsMessage, IsRefused, IsRefusedAs, IsUnrun, Prints}
use Rattle.test_and_bench.specs.Trials.{file, settings_of, told_by}
use Rattle.test_and_bench.specs.Trials.{without_answer, without_text}
use Rattle.test_and_bench.proofs.RunCauses.{no_run_explained, no_run_other, same_tasks}

-- ---- files

-- running out of memory is allowed for any file
pub memory_refused : (held : Held) (t : Trial) (f : Failure) → f ≡ NoMemory → IsRefused held t f
memory_refused held t f is = subst (IsRefused held t) (sym is) (without_text tt)

pub memory_without_text : (held : Held) (name : List ℕ) (f : Failure) → f ≡ NoMemory → TellsNoText held name f
memory_without_text held name f is = subst (TellsNoText held name) (sym is) tt

-- for a file with the same name
pub no_program_at : (held : Held) (name other : List ℕ) (f : Failure) → name ≡ other → TellsNoProgram held name f
    → TellsNoProgram held other f
no_program_at held name other f same why = subst (λ (n : List ℕ). TellsNoProgram held n f) same why

-- for files with the same contents
pub no_text_kept : (mid held : Held) (name : List ℕ) (f : Failure) → mid ≡ held → TellsNoText mid name f → TellsNoText held name f
no_text_kept mid held name f same why = subst (λ (h : Held). TellsNoText h name f) same why

-- refused, and compared with the expected message
pub refused_as : (held mid : Held) (t : Trial) (f : Failure) (d how : Option (Vec ℕ Global)) → IsRefused held t f
    → mid ≡ held → d ≡ how → IsMessage mid t f (option_map (λ v. v.items) d)
    → IsRefusedAs held t (option_map (λ v. v.items) how)
refused_as held mid t f d how why same is message =
    let bytes : Option (Vec ℕ Global) → Option (List ℕ) = option_map (λ v. v.items) in
    record {
      failure = f;
      refused = why;
      message = subst (λ (e : Option (Vec ℕ Global)). IsMessage held t f (bytes e)) is
          (subst (λ (h : Held). IsMessage h t f (bytes d)) same message);
    }

-- ---- runs

-- the same outcome under the same budget, for the same program
pub same_budget : (p : Program) (input : List (List ℤ)) (b d : Budget) (o : Outcome) → o ≡ outcome p input b → b ≡ d
    → o ≡ outcome p input d
same_budget p input b d o is same = subst (λ (x : Budget). o ≡ outcome p input x) same is

pub same_program : (t u : Typed) (input : List (List ℤ)) (b : Budget) (o : Outcome) → o ≡ outcome (code_of t) input b → t ≡ u
    → o ≡ outcome (code_of u) input b
same_program t u input b o is same = subst (λ (x : Typed). o ≡ outcome (code_of x) input b) same is

-- the text of the outcome is what the program prints
pub told_as : (r : Result (Option (Vec ℕ Global)) Failure) (b : Budget) (p : Program) (input : List (List ℤ)) (o : Outcome)
    (bytes : List ℕ) → o ≡ outcome p input b
    → IfOk r (λ how. option_map (λ v. v.items) how ≡ difference (outcome_text p.arrays false o) bytes)
    → IfOk r (λ how. option_map (λ v. v.items) how ≡ difference (told_by b p input) bytes)
told_as r b p input o bytes same told =
    subst (λ (x : Outcome). IfOk r (λ how. option_map (λ v. v.items) how ≡ difference (outcome_text p.arrays false x) bytes)) same told

-- the same, as it is printed
pub printed_as : (r : Result (Vec ℕ Global) Failure) (b : Budget) (p : Program) (input : List (List ℤ)) (o : Outcome)
    → o ≡ outcome p input b → IfOk r (λ v. v.items ≡ outcome_text p.arrays false o)
    → IfOk r (λ v. v.items ≡ told_by b p input)
printed_as r b p input o same told =
    subst (λ (x : Outcome). IfOk r (λ v. v.items ≡ outcome_text p.arrays false x)) same told

-- what it prints
pub prints : (held : Held) (t : Trial) (b : Begun) → IsBegun held t b
    → Prints held t (told_by t.settings.budget (code_of b.accepted.typed) (lists_of b.input))
prints held t b begun = record {
  text = begun.text;
  has_text = begun.has_text;
  status = status_of (outcome (code_of b.accepted.typed) (lists_of b.input) t.settings.budget);
  answers = record {
    run = begun_so (settings_of t) held begun.text b begun.given;
    shows = record { told_is = refl; status_is = refl };
  };
}

-- compared with the expected output
pub compared : (held : Held) (t : Trial) (b : Begun) (bytes : List ℕ) (how : Option (List ℕ)) → IsBegun held t b
    → IsGiven (held (file t (codes ".out"))) (Ok bytes)
    → how ≡ difference (told_by t.settings.budget (code_of b.accepted.typed) (lists_of b.input)) bytes → IsCompared held t how
compared held t b bytes how begun given is = record {
  told = told_by t.settings.budget (code_of b.accepted.typed) (lists_of b.input);
  prints = prints held t b begun;
  bytes = bytes;
  given = given;
  how_is = is;
}

-- a run that fails
pub no_answer : (held : Held) (t : Trial) (b : Begun) (f : Failure) → IsBegun held t b → TellsNoRun t.settings f → IsUnrun held t f
no_answer held t b f begun told =
    without_answer begun.text begun.has_text
    (no_run_explained (settings_of t) held begun.text (begun_so (settings_of t) held begun.text b begun.given) f
    (same_tasks t.settings (settings_of t) refl f told))
    (other_failure f (no_run_other t.settings f told))
