-- The results of a scope settle with that of its owner, or they don't.
use Rattle.std.proofs.Common.{◌≡◌, List, [], ◌∷◌, Some, map, sym, subst}
use Rattle.sections.specs.Place.{Place}
use Rattle.task_run.specs.Frames.{AtEnd}
use Rattle.task_run.specs.Jobs.{program_of, lists_of, budget_of, IsJob}
use Rattle.task_run.specs.Lists.{Each}
use Rattle.task_run.specs.Results.{TaskResult as Results}
use Rattle.task_run.specs.Runs.{root, IsMadeByTask}
use Rattle.task_run.specs.Settling.{settle}
use Rattle.task_run.specs.Translation.{owned_by, settled, task_result}
use Rattle.task_run.specs.declared.job.Job.{Job}
use Rattle.task_run.specs.declared.result.Settled.{Settled}
use Rattle.task_run.specs.declared.result.TaskResult.{TaskResult as Made}
use Rattle.task_run.proofs.Lists.{each_map}
use Rattle.gather.specs.GivesBack.{GiveBack, all_owned}
use Rattle.gather.specs.Refusal.{IsCaseOf}
use Rattle.gather.specs.declared.error.GatherError.{GatherError}
use Rattle.gather.proofs.TasksGiveBack.{give_back}
use Rattle.weighted_task.specs.Ends.{Comes, EndsSo, IsAtEnd, IsParked}
use Rattle.weighted_task.specs.Tasks.{IsResultOf}
use Rattle.weighted_task.specs.declared.finish.Owner.{Owner}
use Rattle.weighted_task.specs.declared.finish.Owner.TheVariants.{Main, Finish}
use Rattle.weighted_task.specs.declared.finish.Parked.{Parked}
use Rattle.weighted_task.specs.declared.finish.Waiting.{Waiting}
use Rattle.weighted_task.specs.declared.stake.Stake.{Stake}
use Rattle.finish_scope.specs.Settling.{IsUnsettledBy, TellsUnsettled}
use Rattle.finish_scope.specs.declared.settling.SettleError.{SettleError}
use Rattle.finish_scope.specs.declared.settling.SettleError.TheVariants.{OutOfMemory, Inconsistent}

module _ (j : Job) (rs : List Made) (all : Each (IsResultOf j) rs) where
  abbrev results : List Results
  results = map task_result rs

  are_results : Each (IsMadeByTask (program_of j) (lists_of j) (budget_of j)) results
  are_results = each_map task_result (IsMadeByTask (program_of j) (lists_of j) (budget_of j)) rs all

  -- the results give back what the owner lists
  gives_so : (ok : IsJob j) (w : Owner) (made : Made) (outer : List Stake) (n : _) → EndsSo j w made outer n
      → GiveBack (task_result made) results
  gives_so ok Main made outer n ends =
      subst (λ (r : Results). GiveBack r results) (sym ends.is)
      (give_back (program_of j) ok.sound ok.accepted (lists_of j) (budget_of j) ok.fits
      (root (program_of j) (lists_of j) (budget_of j)) (record { frames = []; state = ends.state }) ends.stands results are_results)
  gives_so ok (Finish q) made outer n ends =
      subst (λ (r : Results). GiveBack r results) (sym ends.may.made)
      (give_back (program_of j) ok.sound ok.accepted (lists_of j) (budget_of j) ok.fits
      ends.may.start (record { frames = AtEnd ends.may.before ∷ ends.may.frames; state = ends.may.state }) ends.may.stands results
      are_results)

  gives : (w : Owner) (made : Made) (outer : List Stake) (n : _) → IsAtEnd j w made outer n → GiveBack (task_result made) results
  gives w made outer n at = gives_so at.0 w made outer n at.1

-- the settled results of the owner
pub comes : (p : Parked) (rs : List Made) → IsParked p → Each (IsResultOf p.job) rs
    → (w : Waiting) (y : Settled) → w.job ≡ p.job → w.owner ≡ p.owner → w.outer ≡ p.outer → w.opened ≡ p.opened
    → Some (settled y) ≡ settle (task_result p.made) (map task_result rs)
    → (GiveBack (task_result p.made) (map task_result rs) → (c : Place) → owned_by y.holdings c ≡ all_owned (task_result p.made) c)
    → Comes w y
comes p rs ends all w y job owner outer opened settles owned = record {
  made = p.made;
  waits =
      subst (λ (j : Job). IsAtEnd j w.owner p.made w.outer.items w.opened) (sym job)
      (subst (λ (o : Owner). IsAtEnd p.job o p.made w.outer.items w.opened) (sym owner)
      (subst (λ (o : _). IsAtEnd p.job p.owner p.made o.items w.opened) (sym outer)
      (subst (λ (n : _). IsAtEnd p.job p.owner p.made p.outer.items n) (sym opened) ends)));
  results = map task_result rs;
  tasks = subst (λ (j : Job). Each (IsMadeByTask (program_of j) (lists_of j) (budget_of j)) (map task_result rs)) (sym job) (are_results p.job rs all);
  settles = settles;
  owned = owned (gives p.job rs all p.owner p.made p.outer.items p.opened ends);
}

-- why they don't settle
pub why : (p : Parked) (rs : List Made) (m : Made) → m ≡ p.made → (e : GatherError)
    → IsCaseOf (task_result m) (map task_result rs) e
    → (s : SettleError) → IsUnsettledBy e s → TellsUnsettled p rs s
why p rs m is e case OutOfMemory by = tt
why p rs m is e case (Inconsistent u) by =
    subst (IsCaseOf (task_result p.made) (map task_result rs)) (sym by)
    (subst (λ (x : Made). IsCaseOf (task_result x) (map task_result rs) e) is case)
