use Rattle.std.proofs.Common.{rules, refl}
use Rattle.finish_scope.proofs.Owners.{passing_is_of_the_run}
use Rattle.finish_scope.proofs.inner.Inner.resume.Goals as goal

pub returns-clause-own : goal.returns-clause-own
returns-clause-own g c =
    passing_is_of_the_run g.J.Running.job c.self.inside.owner c.in_ok-owner.owner (search rules) c.self.invariant.owner
    c.self.inside.results.items c.self.invariant.results _ refl (search rules)
