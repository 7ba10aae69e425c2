use Rattle.std.proofs.Common.{ap, ◌∙◌, map, string_bytes}
use Rattle.driver.specs.Acts.{in_short}
use Rattle.driver.proofs.Tried.{named_so, untested}
use Rattle.driver.proofs.trying.test_one.Goals as goal

pub returns-in_default-clause-done : goal.returns-in_default-clause-done
returns-in_default-clause-done g c = untested _ _ _ _ _ _ c.bare.ensures.failure

pub returns-clause-done : goal.returns-clause-done
returns-clause-done g c =
    named_so _ _ _ _ _ _ _ _ (in_short c.test_each.result)
    (ap (map string_bytes) c.deref.ensures.value ∙ c.in-Ok.ensures) c.test_each.ensures.done
