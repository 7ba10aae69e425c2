-- The notifications for a run are unchanged after it.
use Rattle.std.proofs.Common.{◌≡◌, ℕ, ◌≤◌, List, [], Bool, true, false, Option, Result, Ok, Err, sym, ◌∙◌, refl, subst, inr, arith}
use Rattle.std.specs.Prelude.{◌≢◌}
use Rattle.statement_steps.specs.Watched.{Watches}
use Rattle.statement_steps.proofs.Watching.{behind_end, not_begun}
use Rattle.syntax.specs.declared.error.SyntaxError.TheVariants.{OutOfMemory as MemoryInSyntax}
use Rattle.types.specs.declared.error.TypeError.TheVariants.{OutOfMemory as MemoryInTypes}
use Rattle.types.specs.declared.input_error.InputError.TheVariants.{OutOfMemory as MemoryInInput}
use Rattle.finish_scope.specs.declared.run_error.RunError.TheVariants.{OutOfMemory as MemoryInRun, RefusedPush, RefusedThread}
use Rattle.finish_scope.specs.declared.run_error.RunError.TheVariants.{IssuedTooOften, TooManyTasks, Gather}
use Rattle.finish_scope.specs.declared.run_error.RunError.TheVariants.{NotDue, NoOwner, NoScope, NoReport, Unlogged}
use Rattle.trace_text.specs.declared.error.TraceError.TheVariants.{NoMemory as MemoryInTrace}
use Rattle.command_line.specs.Requests.{Asked}
use Rattle.failures.specs.FailureStatus.{failure_status}
use Rattle.failures.specs.declared.failure.Failure.{Failure}
use Rattle.failures.specs.declared.failure.Failure.TheVariants.{Syntax, Types, NoMemoryInCheck}
use Rattle.failures.specs.declared.failure.Failure.TheVariants.{Input, Run, Trace, NoMemory}
use Rattle.command_words.specs.Orders.{Order}
use Rattle.driver.specs.declared.more.More.{More}
use Rattle.driver.specs.Acts.{IsHandedOn, Reports}
use Rattle.driver.specs.Watching.{WatchesDoing, WatchesOrder, WatchesTo}
use Rattle.driver.specs.declared.doing.TextOrder.{TextOrder}
use Rattle.driver.specs.declared.doing.TextOrder.TheVariants.{Answering, Describing, Timing, TimingAsObject}
use Rattle.driver.specs.declared.doing.TextOrder.TheVariants.{Exploring, Inspecting, Walking}

-- no failure has the status of an outcome
of_failure : (f : Failure) → failure_status f ≢ 1 → failure_status f ≤ 3 → ⊥
of_failure (Syntax MemoryInSyntax) other small = omega (arith, small)
of_failure (Types MemoryInTypes) other small = omega (arith, small)
of_failure NoMemoryInCheck other small = omega (arith, small)
of_failure (Input MemoryInInput) other small = omega (arith, small)
of_failure (Run MemoryInRun) other small = omega (arith, small)
of_failure (Run (RefusedPush c)) other small = omega (arith, small)
of_failure (Run (RefusedThread c)) other small = omega (arith, small)
of_failure (Run (IssuedTooOften c)) other small = omega (arith, small)
of_failure (Run (TooManyTasks ticket)) other small = omega (arith, small)
of_failure (Trace MemoryInTrace) other small = omega (arith, small)
of_failure NoMemory other small = omega (arith, small)
of_failure (Run (Gather u)) other small = omega (arith, small)
of_failure (Run (NotDue c)) other small = omega (arith, small)
of_failure (Run (NoOwner c)) other small = omega (arith, small)
of_failure (Run (NoScope c)) other small = omega (arith, small)
of_failure (Run (NoReport c)) other small = omega (arith, small)
of_failure (Run Unlogged) other small = omega (arith, small)
of_failure _ other small = other refl

module _ {W : Type 0} (Told : List ℕ → W → W → Type 0) (old new : W) where
  -- what was done is flushed, and reported
  pub handed_watched : (asked : Bool) (written later : Option (List ℕ)) (done r : Result ℕ Failure)
      → IsHandedOn done written later r → Watches Told asked done old new → Watches Told asked r old new
  handed_watched asked written later (Ok status) r on told = behind_end Told Failure asked status r old new told
  handed_watched asked written later (Err f) r on told =
      subst (λ (s : Result ℕ Failure). Watches Told asked s old new) (sym on.1) told

  pub reported_watched : (asked : Bool) (m : More) (err_old err_new : Option (List ℕ)) (r : Result ℕ Failure) (status : ℕ)
      → Watches Told asked r old new → Reports m err_old err_new r status → WatchesTo Told asked status old new
  reported_watched false m err_old err_new r status told reports = told
  reported_watched true m err_old err_new (Ok n) status told reports = (inr told, λ _ _. told)
  reported_watched true m err_old err_new (Err f) status told reports = (
    told,
    λ other small.
        absurd (of_failure f (λ same. other (reports.0 ∙ same)) (subst (λ n. n ≤ 3) reports.0 small)),
  )

  -- notifications are the same for equal orders
  pub watched_so : {A E : Type 0} (d e : TextOrder) → d ≡ e → (a : Asked) (r : Result A E) → WatchesDoing Told e a r old new
      → WatchesDoing Told d a r old new
  watched_so d e same a r told = subst (λ (x : TextOrder). WatchesDoing Told x a r old new) (sym same) told

  pub watched_as : (o p : Order) → o ≡ p → (status : ℕ) → WatchesOrder Told o status old new
      → WatchesOrder Told p status old new
  watched_as o p same status told = subst (λ (q : Order). WatchesOrder Told q status old new) same told

-- a file that has no text of a program causes no notification
pub unread_watched : {W E : Type 0} (A : Type 0) (Told : List ℕ → W → W → Type 0) (w : W) → Told [] w w → (d : TextOrder) (a : Asked)
    (e : E) → WatchesDoing Told {A = A} d a (Err e) w w
unread_watched A Told w nothing Answering a e = not_begun Told A _ e w nothing
unread_watched A Told w nothing (Describing x) a e = not_begun Told A _ e w nothing
unread_watched A Told w nothing Timing a e = tt
unread_watched A Told w nothing TimingAsObject a e = tt
unread_watched A Told w nothing (Walking seed) a e = refl
unread_watched A Told w nothing (Exploring x) a e = refl
unread_watched A Told w nothing Inspecting a e = refl
