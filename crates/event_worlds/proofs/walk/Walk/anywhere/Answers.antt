use Rattle.std.proofs.Common.{map, subst, sym}
use Rattle.std.proofs.lemmas.List.{take_all}
use Rattle.task_run.specs.Lists.{Each}
use Rattle.event_worlds.specs.Shown.{turns_of}
use Rattle.event_worlds.specs.Walks.{AreTasks, Happened, IsIdle}
use Rattle.event_worlds.proofs.Walking.{each_further, idle_before, still_on, stopped}
use Rattle.event_worlds.proofs.walk.Walk.anywhere.Goals as goal

pub paths-preserved : goal.paths-preserved
paths-preserved c =
    let i = c.paths.invariant in
    let p = c.path-item.result in
    let was = subst (λ b. Happened b c.paths.self c.go_on.new.self) c.if-branch.false c.in_ok-go_on.ensures.happened in
    record {
      before = still_on _ _ _ i.before was;
      none = each_further c.args.self.now.world c.deref-path-items.result.now c.paths.path-index p c.paths-test.true c.path-item.is i.none
          (subst (λ v. IsIdle c.args.self.now.world v p.turns.items) c.first.ensures
          (idle_before _ _ i.before c.first.result p.turns.items (c.in_ok-go_on.ensures.idle c.if-branch.false)));
    }

pub returns-clause-stopped : goal.returns-clause-stopped
returns-clause-stopped c e =
    let i = c.paths.invariant in
    let all = take_all c.paths.path-index c.deref-path-items.result.now c.paths-test.false in
    stopped c.args.self.now c.paths.self c.requires i.before (map turns_of c.deref-path-items.result.now)
    (subst (λ ps. AreTasks c.args.self.now.world (map turns_of ps)) (sym c.deref-path-items.ensures.value) c.in_ok-paths.ensures) (subst (λ ps. Each (IsIdle c.args.self.now.world 0) (map turns_of ps)) all i.none)
