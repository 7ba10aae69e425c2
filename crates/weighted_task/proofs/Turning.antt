-- The results of a turn, once the weights have moved.
use Rattle.std.proofs.Common.{◌≡◌, ℕ, ◌+◌, List, [], ◌∷◌, length, refl, sym, ap, subst, ◌∙◌, arith}
use Rattle.std.proofs.lemmas.List.{length_push}
use Rattle.std.proofs.lemmas.List.Sums.{sum_by_push}
use Rattle.effects.specs.Rounds.{needs_of}
use Rattle.task_run.specs.MayRun.{MayStart}
use Rattle.task_run.specs.RunTurns.{IsTurn}
use Rattle.task_run.specs.Translation.{start}
use Rattle.task_run.specs.declared.result.TaskResult.{TaskResult as Made}
use Rattle.task_run.specs.declared.run.Run.{Run}
use Rattle.task_run.specs.declared.start.Start.{Start}
use Rattle.task_run.specs.declared.turn.Turn.TheVariants.{EntersFinish as RunEntersFinish, Ended as RunEnded}
use Rattle.task_run.specs.Jobs.{program_of, lists_of, budget_of, IsJob}
use Rattle.task_run.specs.declared.job.Job.{Job}
use Rattle.weighted_task.specs.Ends.{IsAtEnd, IsParked}
use Rattle.weighted_task.specs.Tasks.{GoesBy, IsBody, IsOfAsync, IsResultOf}
use Rattle.weighted_task.specs.Turns.{AreTasks, Becomes, IsEndOf, Opens, Parts}
use Rattle.weighted_task.specs.Units.{held, units_after}
use Rattle.weighted_task.specs.declared.finish.Ending.{Ending}
use Rattle.weighted_task.specs.declared.finish.Owner.{Owner}
use Rattle.weighted_task.specs.declared.finish.Owner.TheVariants.{Main}
use Rattle.weighted_task.specs.declared.stake.Stake.{Stake}
use Rattle.weighted_task.specs.declared.task.Body.{Body}
use Rattle.weighted_task.specs.declared.turn.WeightedTurn.{WeightedTurn}
use Rattle.weighted_task.specs.declared.turn.WeightedTurn.TheVariants.{Going, Spawns, WantsWeight, EntersFinish}
use Rattle.weighted_task.specs.declared.turn.WeightedTurn.TheVariants.{EndsFinish, Ended, Over}
use Rattle.weighted_task.proofs.Ending.{is_result, root_ends}
use Rattle.weighted_task.proofs.Staying.{entering, none_held as none_open}

-- a task that spawned another, and that one
pub parts_tasks : (b : Body) (u : ℕ) (s : Start) (t : WeightedTurn) → Parts b u s t → IsBody b
    → MayStart (program_of b.job) (lists_of b.job) (budget_of b.job) (start s) → IsOfAsync (program_of b.job) s → AreTasks t
parts_tasks b u s (Spawns t c) h is may label = (
  subst IsBody (sym h.body) is,
  record {
    job = subst IsJob (sym h.job) is.goes.job;
    may =
        subst (λ (k : Job). MayStart (program_of k) (lists_of k) (budget_of k) (start c.start.value)) (sym h.job)
        (subst (λ (x : Start). MayStart (program_of b.job) (lists_of b.job) (budget_of b.job) (start x)) (sym h.start) may);
    label =
        subst (λ (k : Job). IsOfAsync (program_of k) c.start.value) (sym h.job)
        (subst (IsOfAsync (program_of b.job)) (sym h.start) label);
  },
)
parts_tasks b u s (WantsWeight w) h is may label = record {
  body = subst IsBody (sym h.body) is;
  may =
      subst (λ (x : Body). MayStart (program_of x.job) (lists_of x.job) (budget_of x.job) (start w.start.value)) (sym h.body)
      (subst (λ (x : Start). MayStart (program_of b.job) (lists_of b.job) (budget_of b.job) (start x)) (sym h.start) may);
  label =
      subst (λ (x : Body). IsOfAsync (program_of x.job) w.start.value) (sym h.body)
      (subst (IsOfAsync (program_of b.job)) (sym h.start) label);
}
parts_tasks b u s (Going t) h is may label = absurd h
parts_tasks b u s (EntersFinish e) h is may label = absurd h
parts_tasks b u s (EndsFinish e) h is may label = absurd h
parts_tasks b u s (Ended r) h is may label = absurd h
parts_tasks b u s (Over t) h is may label = absurd h

-- a task that started a finish
pub opens_task : (b : Body) (u : ℕ) (r : Run) (new : Body) → Opens b u r new → (old : Run)
    → GoesBy b.job b.outer.items b.opened old → IsTurn (needs_of (program_of b.job)) old (RunEntersFinish r) → IsBody new
opens_task b u r new o old g is = record {
  run = r;
  has = o.run;
  goes =
      subst (λ (k : Job). GoesBy k new.outer.items new.opened r) (sym o.job)
      (subst (λ (n : ℕ). GoesBy b.job new.outer.items n r) (sym o.opened)
      (entering b.job b.outer.items b.opened old g r is new.outer.items
      (ap length o.outer ∙ length_push b.outer.items o.stake)));
}

pub opens_units : (b : Body) (u : ℕ) (r : Run) (new : Body) → Opens b u r new
    → held new.outer.items ≡ u + held b.outer.items
opens_units b u r new o =
    let all = ap held o.outer ∙ sum_by_push (λ (s : Stake). s.share.weight) b.outer.items o.stake in
    let weight = o.weight in
    omega (arith, all, weight)

-- a task at an end
pub ends_task : (b : Body) (u : ℕ) (o : Owner) (x : Made) (e : Ending) → IsEndOf b u o x e
    → IsAtEnd b.job o x b.outer.items b.opened → IsParked e.parked.value
ends_task b u o x e h at =
    let p = e.parked.value in
    subst (λ (k : Job). IsAtEnd k p.owner p.made p.outer.items p.opened) (sym h.job)
    (subst (λ (q : Owner). IsAtEnd b.job q p.made p.outer.items p.opened) (sym h.owner)
    (subst (λ (m : Made). IsAtEnd b.job o m p.outer.items p.opened) (sym h.made)
    (subst (λ (ss : List Stake). IsAtEnd b.job o x ss p.opened) (sym (ap (λ (v : _). v.items) h.outer))
    (subst (λ (n : ℕ). IsAtEnd b.job o x b.outer.items n) (sym h.opened) at))))

-- the weight that it holds is unchanged
pub ends_units : (b : Body) (u : ℕ) (o : Owner) (x : Made) (e : Ending) → IsEndOf b u o x e
    → e.share.weight + held e.parked.value.outer.items ≡ u + held b.outer.items
ends_units b u o x e h =
    ap (λ (n : ℕ). n + held e.parked.value.outer.items) h.weight ∙ ap (λ (v : _). u + held v.items) h.outer

-- if no finish is open, its only weight is that in the innermost scope
pub none_held : (stakes : List Stake) → length stakes ≡ 0 → held stakes ≡ 0
none_held [] e = refl
none_held (s ∷ stakes) e = absurd (omega (arith, e))

-- a task that has finished
module _ (b : Body) (u : ℕ) (x : Made) (run : Run) (g : GoesBy b.job b.outer.items b.opened run)
    (is : IsTurn (needs_of (program_of b.job)) run (RunEnded x)) where
  pub ended_tasks : (t : WeightedTurn) → Becomes b u (RunEnded x) t → AreTasks t
  ended_tasks (EndsFinish e) h =
      ends_task b u Main x e h.1 (g.job, root_ends b.job b.outer.items b.opened run g x is h.0)
  ended_tasks (Ended r) h =
      subst (λ (k : Job). IsJob k × IsResultOf k r.made) (sym h.job)
      (subst (λ (m : Made). IsJob b.job × IsResultOf b.job m) (sym h.made)
      (g.job, is_result b.job b.outer.items b.opened run g x is))
  ended_tasks (Going t) h = absurd h
  ended_tasks (Spawns t c) h = absurd h
  ended_tasks (WantsWeight w) h = absurd h
  ended_tasks (EntersFinish e) h = absurd h
  ended_tasks (Over t) h = absurd h

  pub ended_units : (t : WeightedTurn) → Becomes b u (RunEnded x) t → units_after t ≡ u + held b.outer.items
  ended_units (EndsFinish e) h = ends_units b u Main x e h.1
  ended_units (Ended r) h =
      let none = none_held b.outer.items (none_open b.job b.outer.items b.opened run g x is) in
      let weight = h.weight in
      omega (arith, none, weight)
  ended_units (Going t) h = absurd h
  ended_units (Spawns t c) h = absurd h
  ended_units (WantsWeight w) h = absurd h
  ended_units (EntersFinish e) h = absurd h
  ended_units (Over t) h = absurd h
