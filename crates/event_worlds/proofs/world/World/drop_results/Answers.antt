use Rattle.std.proofs.Common.{◌∙◌, ap, rules, sym, None, Some}
use Rattle.std.specs.Prelude.{if◌then◌else◌}
use Rattle.std.specs.HashMap.{get}
use Rattle.event_worlds.specs.Shown.{is_scope}
use Rattle.event_worlds.specs.declared.scope.WorldScope.{WorldScope as rScope}
use Rattle.event_worlds.specs.declared.task.WorldStake.{WorldStake as rStake}
use Rattle.event_worlds.proofs.AtEnds.{found_here}
use Rattle.event_worlds.proofs.world.World.drop_results.Goals as goal

pub returns-clause-taken : goal.returns-clause-taken
returns-clause-taken c = λ a.
    let same = found_here c.args.self.now c.args.path.now a
    (sym c.in-Some.ensures.value) c.in-Some-front.ensures.lookup (sym c.in-Some-get_mut.ensures.value) in
    let to : rScope = record c.in-Some-get_mut.scope.now { results = None } in
    record {
      to = to;
      fits = ap (λ (b : rScope). record b { results = None }) same.book;
      each = λ q.
          ((c.get_mut.follows.holds to).3 (search rules)).0 q
          ∙ ap (λ (s : rStake). if is_scope s.scope q then Some to else get is_scope c.args.self.now.scopes q) same.stake;
    }
