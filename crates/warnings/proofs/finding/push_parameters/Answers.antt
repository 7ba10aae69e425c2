use Rattle.std.proofs.Common.{ap, ap₂, arith, ◌∙◌, ◌+◌, ◌++◌}
use Rattle.syntax_tree.specs.Tree.{parameter}
use Rattle.types.specs.Translation.{codes}
use Rattle.warnings.specs.Warnings.{unused}
use Rattle.warnings.specs.declared.uses.Thing.{Thing}
use Rattle.warnings.specs.declared.warning.Warning.TheVariants.{UnusedParameter}
use Rattle.warnings.proofs.Found.{all_parameters, of_parameters, one_more_counted, one_parameter}
use Rattle.warnings.proofs.finding.push_parameters.Goals as goal

pub loop-number-preserved : goal.loop-number-preserved
loop-number-preserved c =
    let f = c.args.procedure in let b = codes c.args.body.now in let xs = c.args.parameters.now in
    let n = c.loop-number.number in let x = c.index-parameters-number.result in
    let old = c.loop-number.before in let new = c.counted-before.ensures in
    record {
      counted = ap₂ (λ a s. a + s) new.scalars new.sections ∙ one_more_counted (parameter x) old.scalars old.sections
          ∙ ap (λ k. k + 1) c.loop-number.invariant.counted;
      found = ap₂ (λ a s. c.push_unused.new.found.items ++ of_parameters f b xs (n + 1) a s) new.scalars new.sections
          ∙ one_parameter f b xs n old.scalars old.sections x _ _ _ (omega (arith, c.loop-number-test.true))
          c.index-parameters-number.is
          (c.in_ok-push_unused.ensures
          ∙ ap (λ (thing : Thing). c.loop-number.found.items ++ unused thing b (UnusedParameter f n)) c.thing_of-thing.ensures)
          ∙ c.loop-number.invariant.found;
    }

pub returns : goal.returns
returns c =
    let before = c.loop-number.before in
    all_parameters c.args.procedure (codes c.args.body.now) c.args.parameters.now c.loop-number.number before.scalars before.sections
    c.loop-number.found.items (omega (arith, c.loop-number-test.false))
    ∙ c.loop-number.invariant.found
