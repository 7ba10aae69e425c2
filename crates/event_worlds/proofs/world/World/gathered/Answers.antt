use Rattle.std.proofs.Common.{◌∙◌, ap, subst, sym}
use Rattle.std.specs.Prelude.{◌+◌, ◌<◌, ◌^◌, SomeIff}
use Rattle.task_run.specs.Translation.{task_result}
use Rattle.event_worlds.specs.Gathered.{faults_in}
use Rattle.event_worlds.specs.declared.scope.WorldScope.{WorldScope as rScope}
use Rattle.event_worlds.specs.declared.task.WorldTask.{WorldTask as rTask}
use Rattle.event_worlds.specs.Courses.{made_at}
use Rattle.event_worlds.proofs.AtEnds.{found_here, none_here}
use Rattle.event_worlds.proofs.Gathers.{gathered_so, none_made}
use Rattle.event_worlds.proofs.world.World.gathered.Goals as goal

pub unreachable-requires-in_default-get : goal.unreachable-requires-in_default-get
unreachable-requires-in_default-get c =
    none_here c.args.self.now c.args.path.now c.requires.may.at (sym c.in-Some.ensures.value) c.in-Some-front.ensures.lookup
    (sym c.in_default-get.ensures.value)

pub unreachable-requires-in_default-made : goal.unreachable-requires-in_default-made
unreachable-requires-in_default-made c =
    let m = c.requires.may in
    let same = found_here c.args.self.now c.args.path.now m.at
    (sym c.in-Some.ensures.value) c.in-Some-front.ensures.lookup (sym c.in-Some-get.ensures.value) in
    none_made c.args.self.now c.requires.world.job c.requires.world.world c.requires.world.shows c.args.path.now m
    (ap (λ (k : rTask). made_at k.doing) (sym same.task) ∙ c.in_default-made.ensures)

pub returns : goal.returns
returns c = λ w h.
    let m = c.requires.may in
    let same = found_here c.args.self.now c.args.path.now m.at
    (sym c.in-Some.ensures.value) c.in-Some-front.ensures.lookup (sym c.in-Some-get.ensures.value) in
    let made = c.in-Some-made.made.now in
    let is = gathered_so c.args.self.now c.requires.world.job w h c.args.path.now m made
    (ap (λ (k : rTask). made_at k.doing) (sym same.task) ∙ c.in-Some-made.ensures) in
    record {
      number = m.at.book.faults + faults_in (task_result made);
      is = is;
      fits = subst (λ (b : rScope). SomeIff c.more_faults.result (b.faults + faults_in (task_result made) < 2 ^ 64)
          (b.faults + faults_in (task_result made))) same.book c.more_faults.ensures;
    }
