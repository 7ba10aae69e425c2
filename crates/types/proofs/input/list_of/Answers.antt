use Rattle.std.proofs.Common.{◌≡◌, ◌∙◌, length, arith, sym, subst, Some, Err, Option, IfSome}
use Rattle.std.proofs.lemmas.Grind.{common_steps}
use Rattle.serde_json.specs.Find.{as_array}
use Rattle.serde_json.specs.View.{items_view, view}
use Rattle.types.specs.Inputs.{Mistake, items_count, value_says}
use Rattle.types.specs.Translation.{array as array_of}
use Rattle.types.proofs.InputLemmas.{value_says-items, value_says-other, value_says-read, value_says-refused}
use Rattle.types.proofs.InputLemmas.{items_count-items_view}
use Rattle.types.proofs.input.list_of.Goals as goal

pub returns-then-len-array-clause-error : goal.returns-then-len-array-clause-error
returns-then-len-array-clause-error c =
    let x = array_of c.args.array.now in
    let d = view c.args.value.now in
    let vs = c.in-Some.elements.now.items in
    let is : as_array d ≡ Some (items_view vs) = sym c.in-Some.ensures in
    let n : items_count (items_view vs) ≡ length vs = items_count-items_view vs in
    let says = value_says-other x d (items_view vs) is (λ e. grind (arith, common_steps, e, n)) in
    let P : Option Mistake → Type 0 = λ t. IfSome t (λ m. value_says x d ≡ Err m) in
    subst P (sym c.in_ok-refusal-in-Some.ensures) says

pub returns-else-len-array : goal.returns-else-len-array
returns-else-len-array c =
    let x = array_of c.args.array.now in
    let long = c.deref.ensures.len ∙ sym c.len.ensures ∙ c.if-len-array.false in
    let items = value_says-items x (view c.args.value.now) c.in-Some.ensures c.deref.ensures.value long in
    record {
      says = value_says-read x _ _ c.numbers_of.result items c.numbers_of.ensures.says;
      error = value_says-refused x _ _ c.numbers_of.result items c.numbers_of.ensures.error;
    }
