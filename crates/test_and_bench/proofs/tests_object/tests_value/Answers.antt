use Rattle.std.proofs.Common.{◌∙◌}
use Rattle.std.proofs.lemmas.Result.{IfOk-weaker}
use Rattle.test_and_bench.proofs.Objects.{tests_with}
use Rattle.test_and_bench.proofs.tests_object.tests_value.Goals as goal

pub returns : goal.returns
returns c =
    IfOk-weaker c.value_with.result _ _ (λ v same. same ∙ tests_with c.args.tested.now _ c.in_ok-programs.ensures)
    c.value_with.ensures
