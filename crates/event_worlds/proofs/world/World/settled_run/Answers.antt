use Rattle.std.proofs.Common.{◌∙◌, ap, map, sym, subst}
use Rattle.std.proofs.lemmas.Result.{IfOk-weaker}
use Rattle.task_run.specs.Translation.{task_result}
use Rattle.gather.specs.GivesBack.{GiveBack}
use Rattle.event_worlds.specs.Ending.{GoesBehind}
use Rattle.event_worlds.specs.declared.scope.WorldScope.{WorldScope as rScope}
use Rattle.event_worlds.specs.declared.task.WorldTask.{WorldTask as rTask}
use Rattle.event_worlds.proofs.AtEnds.{found_here, none_here}
use Rattle.event_worlds.proofs.world.World.settled_run.Goals as goal

pub run_behind-requires : goal.run_behind-requires
run_behind-requires c =
    let a = c.requires.stands in
    let same = found_here c.args.self.now c.args.path.now a
    (sym c.in-Some.ensures.value) c.in-Some-front.ensures.lookup (sym c.in-Some-get.ensures.value) in
    let made = c.in-AtFinish-Some.made in
    subst (λ xs. GiveBack (task_result made) (map task_result xs)) (sym c.deref.ensures.value)
    (c.requires.may a c.in-AtFinish-Some.paused made c.in-AtFinish-Some.results
    (ap (λ (k : rTask). k.doing) (sym same.task) ∙ c.in-AtFinish-Some.is-0) (ap (λ (b : rScope). b.results) (sym same.book) ∙ c.in-AtFinish-Some.is-1))

pub returns-clause-goes : goal.returns-clause-goes
returns-clause-goes c =
    IfOk-weaker c.run_behind.result _ _
    (λ run goes a.
    let same = found_here c.args.self.now c.args.path.now a
    (sym c.in-Some.ensures.value) c.in-Some-front.ensures.lookup (sym c.in-Some-get.ensures.value) in
    record {
      paused = c.in-AtFinish-Some.paused;
      made = c.in-AtFinish-Some.made;
      was = ap (λ (k : rTask). k.doing) (sym same.task) ∙ c.in-AtFinish-Some.is-0;
      results = c.in-AtFinish-Some.results;
      kept = ap (λ (b : rScope). b.results) (sym same.book) ∙ c.in-AtFinish-Some.is-1;
      goes = subst (λ xs. GoesBehind c.in-AtFinish-Some.paused c.in-AtFinish-Some.made (map task_result xs) run) c.deref.ensures.value goes;
    }) c.run_behind.ensures.goes

pub unreachable-requires-in_default-get : goal.unreachable-requires-in_default-get
unreachable-requires-in_default-get c =
    none_here c.args.self.now c.args.path.now c.requires.stands (sym c.in-Some.ensures.value) c.in-Some-front.ensures.lookup
    (sym c.in_default-get.ensures.value)
