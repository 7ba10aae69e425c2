use Rattle.driver.specs.Acts.{in_short}
use Rattle.driver.proofs.Tried.{tests_on, tests_so}
use Rattle.driver.proofs.trying.test_each.Goals as goal

pub returns-clause-done : goal.returns-clause-done
returns-clause-done g c =
    tests_so _ _ _ _ _ _ _ _ (in_short c.without_more.result) _ c.without_more.ensures.same
    (tests_on _ _ _ _ _ _ _ _ _ c.test_names-done.result _ c.test_names-done.ensures c.handed_on-done.ensures)
