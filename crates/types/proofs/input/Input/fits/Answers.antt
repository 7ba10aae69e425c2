use Rattle.std.proofs.Common.{◌≡◌, ◌∙◌, length, sym, arith, ◌<◌, ap, List, subst, map, rules}
use Rattle.std.proofs.lemmas.Grind.{common_steps}
use Rattle.types.specs.Inputs.{IsInput, wrong_row}
use Rattle.types.specs.Translation.{array as array_of, input}
use Rattle.types.specs.declared.code.Array.{Array}
use Rattle.types.proofs.InputLemmas.{IsInput-to_the_end, other_number-fitting, told_fault, wrong_rows-faulty, wrong_rows-fitting}
use Rattle.types.proofs.input.Input.fits.Goals as goal

pub returns-then-len-arrays : goal.returns-then-len-arrays
returns-then-len-arrays c =
    let arrays = c.args.typed.now.code.arrays.items in
    let lists = c.args.self.now.arrays.items in
    (λ t. absurd (cc), λ fits. absurd (other_number-fitting arrays lists (λ e. grind (arith, common_steps, e)) fits))

pub returns-then-is_some : goal.returns-then-is_some
returns-then-is_some c =
    let arrays = c.as_slice-arrays.result.now in
    let lists = c.args.self.now.arrays.items in
    let number = c.loop-number.number in
    let x = c.index-arrays-number.result in
    let l = c.index.result.now in
    let lt : number < length arrays = c.loop-number-test.true in
    let long : length lists ≡ length arrays = grind (arith, common_steps) in
    let same : c.args.typed.now.code.arrays.items ≡ arrays = sym (c.as_slice-arrays.ensures.value ∙ ap (λ p. p.arrays.items) c.code.ensures.field) in
    let P : List Array → Type 0 = λ xs. IsInput (map array_of xs) (input c.args.self.now) in
    let none_in = λ (fits : P c.args.typed.now.code.arrays.items). sym c.loop-number.invariant ∙ wrong_rows-fitting _ _ (subst P same fits) in (
      λ t. absurd (cc),
      λ fits. absurd (wrong_rows-faulty arrays lists number x l lt long c.index-arrays-number.is c.index.ensures
          (λ none. told_fault _ c.list_fault.result _ (sym c.is_some.ensures ∙ c.if-is_some.true) c.list_fault.ensures
          (ap (wrong_row (array_of x)) c.deref.ensures.value ∙ none))
          (none_in fits)),
    )

pub returns : goal.returns
returns c =
    let arrays = c.as_slice-arrays.result.now in
    let lists = c.args.self.now.arrays.items in
    let number = c.loop-number.number in
    let long : length lists ≡ length arrays = grind (arith, common_steps) in
    let same : arrays ≡ c.args.typed.now.code.arrays.items = c.as_slice-arrays.ensures.value ∙ ap (λ p. p.arrays.items) c.code.ensures.field in
    let P : List Array → Type 0 = λ xs. IsInput (map array_of xs) (input c.args.self.now) in
    (λ t. subst P same (IsInput-to_the_end arrays lists number long c.loop-number-test.false c.loop-number.invariant), λ fits. search rules)
