use Rattle.std.proofs.Common.{◌≡◌, ◌∙◌, ap, map, subst, List}
use Rattle.serde_json.specs.View.{view}
use Rattle.types.specs.Inputs.{IsInput}
use Rattle.types.specs.Translation.{array as array_of}
use Rattle.types.specs.declared.code.Array.{Array}
use Rattle.types.proofs.InputLemmas.{IsInput-from_data_says}
use Rattle.types.proofs.input.Input.from_json.Goals as goal

pub returns-clause-fits : goal.returns-clause-fits
returns-clause-fits c =
    let arrays = c.as_slice-arrays.result.now in
    let rows = map (λ v. v.items) c.in_ok-arrays.arrays.items in
    let same : arrays ≡ c.args.typed.now.code.arrays.items = c.as_slice-arrays.ensures.value ∙ ap (λ p. p.arrays.items) c.code.ensures.field in
    let P : List Array → Type 0 = λ xs. IsInput (map array_of xs) rows in
    subst P same (IsInput-from_data_says (map array_of arrays) (view c.in-Ok.value) rows c.in_ok-arrays.ensures.says)
