use Rattle.driver.specs.Acts.{in_short}
use Rattle.driver.proofs.Tried.{objects_so}
use Rattle.driver.proofs.trying.test_as_object.Goals as goal

pub returns-clause-done : goal.returns-clause-done
returns-clause-done g c =
    objects_so _ _ _ _ _ _ _ _ (in_short c.without_more.result) _ c.without_more.ensures.same c.tell_tests-done.ensures
