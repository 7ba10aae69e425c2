use Rattle.std.proofs.Common.{◌++◌, ap, ap₂, map, ◌∙◌}
use Rattle.std.specs.List.{flat_map}
use Rattle.test_and_bench.specs.Trials.{closing, judged}
use Rattle.test_and_bench.proofs.testing.text_of.Goals as goal

pub returns : goal.returns
returns c =
    c.in_ok-write.ensures.bytes
    ∙ ap₂ (λ lines end. lines ++ end)
    (c.in_ok-push_lines.ensures ∙ ap (λ t. t ++ flat_map (λ j. j.lines) (map judged c.args.tested.now)) c.new-text.ensures.bytes)
    (ap₂ closing c.passed_in-passed.ensures.number c.failed_in-failed.ensures)
