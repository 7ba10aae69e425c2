use Rattle.std.proofs.Common.{◌≡◌, ◌∙◌, length, arith, ap, List, subst, map}
use Rattle.std.proofs.lemmas.Grind.{common_steps}
use Rattle.types.specs.Inputs.{IsInput}
use Rattle.types.specs.Translation.{array as array_of}
use Rattle.types.specs.declared.code.Array.{Array}
use Rattle.types.proofs.InputLemmas.{IsInput-to_the_end}
use Rattle.types.proofs.input.Input.new.Goals as goal

pub returns-clause-fits : goal.returns-clause-fits
returns-clause-fits c =
    let arrays = c.as_slice-arrays.result.now in
    let lists = c.args.lists.items in
    let long : length lists ≡ length arrays = grind (arith, common_steps) in
    let same : arrays ≡ c.args.typed.now.code.arrays.items = c.as_slice-arrays.ensures.value ∙ ap (λ p. p.arrays.items) c.code.ensures.field in
    let P : List Array → Type 0 = λ xs. IsInput (map array_of xs) (map (λ v. v.items) lists) in
    subst P same (IsInput-to_the_end arrays lists c.loop-number.number long c.loop-number-test.false c.loop-number.invariant)
