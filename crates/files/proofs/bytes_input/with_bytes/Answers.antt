use Rattle.std.proofs.Common.{◌≡◌, List, Vec, Global, ℤ, ap, map, sym, ◌∙◌, false, subst, true}
use Rattle.std.proofs.lemmas.Result.{IfErr-weaker, IfOk-weaker}
use Rattle.types.specs.InputNames.{is_array}
use Rattle.types.specs.Inputs.{is_named}
use Rattle.types.specs.Translation.{array}
use Rattle.types.specs.declared.code.Array.{Array}
use Rattle.types.specs.declared.code.Program.{Program}
use Rattle.files.specs.Held.{HasMistakeOf, with_bytes}
use Rattle.files.proofs.NamedArrays.{named-array, wrong-lists, wrong-stranger}
use Rattle.files.proofs.bytes_input.with_bytes.Goals as goal

pub returns-then-not-names_array-clause-why : goal.returns-then-not-names_array-clause-why
returns-then-not-names_array-clause-why c =
    let xs = c.args.typed.now.code.arrays.items in let name = c.args.name.now in
    let slice = c.as_slice-arrays.ensures.value ∙ ap (λ (p : Program). p.arrays.items) c.code.ensures.field in
    let none : is_named (map array xs) name ≡ false =
    named-array xs name ∙ ap (λ (l : List Array). is_array l name) (sym slice)
    ∙ sym c.names_array.ensures ∙ c.if-not-names_array.true in
    subst (λ o. HasMistakeOf o c.stranger.result) (sym (wrong-stranger name c.args.bytes.now (map array xs) none)) c.stranger.ensures

pub returns-in-Ok-clause-says : goal.returns-in-Ok-clause-says
returns-in-Ok-clause-says c =
    let xs = c.args.typed.now.code.arrays.items in let name = c.args.name.now in
    let slice = c.as_slice-arrays.ensures.value ∙ ap (λ (p : Program). p.arrays.items) c.code.ensures.field in
    let named : is_named (map array xs) name ≡ true =
    named-array xs name ∙ ap (λ (l : List Array). is_array l name) (sym slice)
    ∙ sym c.names_array.ensures ∙ c.if-not-names_array.false in
    let lists : map (λ v. v.items) c.in-Ok.lists.items ≡ with_bytes name c.args.bytes.now (map array xs) =
    c.in-Ok.ensures ∙ ap (λ (l : List Array). with_bytes name c.args.bytes.now (map array l)) slice in
    IfOk-weaker c.input_with.result _ _ (λ i is. (named, ap (λ (ls : Vec (Vec ℤ Global) Global). map (λ v. v.items) ls.items) is ∙ lists)) c.input_with.ensures.lists

pub returns-in-Ok-clause-why : goal.returns-in-Ok-clause-why
returns-in-Ok-clause-why c =
    let xs = c.args.typed.now.code.arrays.items in let name = c.args.name.now in
    let slice = c.as_slice-arrays.ensures.value ∙ ap (λ (p : Program). p.arrays.items) c.code.ensures.field in
    let named : is_named (map array xs) name ≡ true =
    named-array xs name ∙ ap (λ (l : List Array). is_array l name) (sym slice)
    ∙ sym c.names_array.ensures ∙ c.if-not-names_array.false in
    let lists : map (λ v. v.items) c.in-Ok.lists.items ≡ with_bytes name c.args.bytes.now (map array xs) =
    c.in-Ok.ensures ∙ ap (λ (l : List Array). with_bytes name c.args.bytes.now (map array l)) slice in
    IfErr-weaker c.input_with.result _ _
    (λ f why. subst (λ o. HasMistakeOf o f) (wrong-lists name c.args.bytes.now (map array xs) _ named lists) why)
    c.input_with.ensures.why
