use Rattle.std.proofs.Common.{refl, rules, subst}
use Rattle.task_run.specs.declared.turn.Done.TheVariants.{Gone, Spawned, Entered, Exceeded}
use Rattle.task_run.specs.RunTurns.{DoneSpawns}
use Rattle.weighted_task.specs.Tasks.{IsAsyncOf}
use Rattle.weighted_task.specs.Turns.{turning}
use Rattle.weighted_task.proofs.InPlace.{by_done, done_turn, gone_body, keeps, over_body, parts_become, spawned_body, spawned_may}
use Rattle.weighted_task.proofs.Staying.{few_opened}
use Rattle.weighted_task.proofs.Turning.{opens_task, opens_units, parts_tasks}
use Rattle.weighted_task.proofs.advance.did.Goals as goal

pub returns-in-Gone-clause-becomes : goal.returns-in-Gone-clause-becomes
returns-in-Gone-clause-becomes c = λ r has.
    let b = c.args.body.value in
    by_done b c.args.share.weight r c.args.done Gone _ c.in-Gone.is (keeps b c.args.share.weight r _ refl refl has)

pub returns-in-Gone-clause-tasks : goal.returns-in-Gone-clause-tasks
returns-in-Gone-clause-tasks c = gone_body c.args.body.value c.args.done c.requires.done c.in-Gone.is

pub returns-in-Exceeded-clause-becomes : goal.returns-in-Exceeded-clause-becomes
returns-in-Exceeded-clause-becomes c = λ r has.
    let b = c.args.body.value in
    by_done b c.args.share.weight r c.args.done Exceeded _ c.in-Exceeded.is
    (keeps b c.args.share.weight r _ refl refl has)

pub returns-in-Exceeded-clause-tasks : goal.returns-in-Exceeded-clause-tasks
returns-in-Exceeded-clause-tasks c = over_body c.args.body.value c.args.done c.requires.done c.in-Exceeded.is

pub returns-in-Spawned-clause-becomes : goal.returns-in-Spawned-clause-becomes
returns-in-Spawned-clause-becomes c = λ r has.
    let b = c.args.body.value in let start = c.in-Spawned.start in
    by_done b c.args.share.weight r c.args.done (Spawned start) _ c.in-Spawned.is
    (parts_become b c.args.share.weight start.value r c.spawned.result has c.spawned.ensures)

pub returns-in-Spawned-clause-tasks : goal.returns-in-Spawned-clause-tasks
returns-in-Spawned-clause-tasks c =
    let b = c.args.body.value in let start = c.in-Spawned.start in let h = c.requires.done in
    let is = done_turn b c.args.done h (Spawned start) c.in-Spawned.is in
    parts_tasks b c.args.share.weight start.value c.spawned.result c.spawned.ensures
    (spawned_body b c.args.done h start.value is) (spawned_may b c.args.done h start.value is)
    (subst (DoneSpawns (IsAsyncOf b)) c.in-Spawned.is h.label)

pub entered-requires-clause-run : goal.entered-requires-clause-run
entered-requires-clause-run c = (c.requires.done.after, c.requires.done.has)

pub entered-requires-clause-few : goal.entered-requires-clause-few
entered-requires-clause-few c =
    let b = c.args.body.value in let h = c.requires.done in
    let is = done_turn b c.args.done h Entered c.in-Entered.is in
    let few = few_opened b.job b.outer.items b.opened h.run h.goes h.after is in
    search rules

pub returns-in_ok-entered-in-Entered-clause-becomes : goal.returns-in_ok-entered-in-Entered-clause-becomes
returns-in_ok-entered-in-Entered-clause-becomes c = λ r has.
    by_done c.args.body.value c.args.share.weight r c.args.done Entered _ c.in-Entered.is
    (c.in_ok-entered-in-Entered.ensures r has)

pub returns-in_ok-entered-in-Entered-clause-tasks : goal.returns-in_ok-entered-in-Entered-clause-tasks
returns-in_ok-entered-in-Entered-clause-tasks c =
    let b = c.args.body.value in let h = c.requires.done in
    let is = done_turn b c.args.done h Entered c.in-Entered.is in
    opens_task (turning b) c.args.share.weight h.after _ (c.in_ok-entered-in-Entered.ensures h.after h.has) h.run h.goes is

pub returns-in_ok-entered-in-Entered-clause-units : goal.returns-in_ok-entered-in-Entered-clause-units
returns-in_ok-entered-in-Entered-clause-units c =
    let h = c.requires.done in
    opens_units (turning c.args.body.value) c.args.share.weight h.after _ (c.in_ok-entered-in-Entered.ensures h.after h.has)
