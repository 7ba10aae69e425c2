-- An owner continues with the settled results of its scope.
use Rattle.std.proofs.Common.{◌≡◌, ◌<◌, ℕ, zero, suc, List, [], ◌∷◌, length, get_or, IsPermutation, Option, Some, refl, sym, ap, ◌∙◌, arith}
use Rattle.std.proofs.lemmas.List.Sorted.{All-permutation}
use Rattle.std.proofs.lemmas.Option.{same_Some}
use Rattle.task_run.specs.Jobs.{outcome_of}
use Rattle.task_run.specs.Lists.{Each}
use Rattle.task_run.specs.declared.job.Job.{Job}
use Rattle.task_run.specs.declared.result.TaskResult.{TaskResult as Made}
use Rattle.weighted_task.specs.Ends.{IsParked}
use Rattle.weighted_task.specs.Tasks.{IsResultOf}
use Rattle.weighted_task.specs.declared.finish.Parked.{Parked}
use Rattle.finish_scope.specs.Settling.{TellsUnsettled}
use Rattle.finish_scope.specs.declared.settling.SettleError.{SettleError}
use Rattle.finish_scope.specs.declared.settling.SettleError.TheVariants.{OutOfMemory, Inconsistent}
use Rattle.workers.specs.Causes.{Happens, IsOfResults, trouble_by}
use Rattle.workers.specs.Own.{IsNext, IsOwnNext}
use Rattle.workers.specs.declared.open_scopes.Next.{Next}
use Rattle.workers.specs.declared.open_scopes.Next.TheVariants.{Goes, Idle, Told}

-- what is true of each element is true of each element in another order
each_at : {A : Type 0} (P : A → Type 0) (xs : List A) → Each P xs → (k : ℕ) (d : A) → k < length xs → P (get_or xs k d)
each_at P [] h k d lt = absurd (omega (arith, lt))
each_at P (x ∷ xs) h zero d lt = h.0
each_at P (x ∷ xs) h (suc k) d lt = each_at P xs h.1 k d (omega (arith, lt))

each_from : {A : Type 0} (P : A → Type 0) (xs : List A) → ((k : ℕ) (d : A) → k < length xs → P (get_or xs k d)) → Each P xs
each_from P [] h = tt
each_from P (x ∷ xs) h = (h zero x (omega arith), each_from P xs (λ k d lt. h (suc k) d (omega (arith, lt))))

pub each_permuted : {A : Type 0} (P : A → Type 0) (xs ys : List A) → IsPermutation xs ys → Each P xs → Each P ys
each_permuted P xs ys s h = each_from P ys (All-permutation P xs ys s (each_at P xs h))

-- what happened to results that don't settle
pub happens_unsettled : (p : Parked) (rs : List Made) → IsParked p → Each (IsResultOf p.job) rs
    → (e : SettleError) → TellsUnsettled p rs e → Happens (Some p.job) (trouble_by e)
happens_unsettled p rs ends tasks OutOfMemory tells = tt
happens_unsettled p rs ends tasks (Inconsistent u) tells = record {
  owner = p;
  job = refl;
  ends = ends;
  results = rs;
  tasks = tasks;
  own_case = tells;
}

-- they are the given ones, in some order
pub unsettled_of : (p : Parked) (xs ys : List Made) (e : SettleError) → TellsUnsettled p ys e → IsPermutation xs ys
    → IsOfResults p xs (trouble_by e)
unsettled_of p xs ys OutOfMemory tells s = tt
unsettled_of p xs ys (Inconsistent u) tells s = (ys, s, tells)

-- what a worker continues with is of the run
pub next_own : (o : Option Job) (j : Job) (n : Next) → o ≡ Some j → IsNext j n → IsOwnNext o n
next_own o j (Goes t) of n = record { job = of ∙ ap Some (sym n.0); task = n.1 }
next_own o j Idle of n = tt
next_own o j (Told x) of n = λ k at. n ∙ ap outcome_of (same_Some _ _ (sym of ∙ at))
