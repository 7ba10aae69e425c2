use Rattle.std.proofs.Common.{◌≡◌, Some, map, refl, rules, subst, sym}
use Rattle.std.proofs.lemmas.Result.{IfErr-weaker, IfOk-weaker}
use Rattle.std.specs.Prelude.{IfErr, IfOk, option_map}
use Rattle.std.specs.String.{string_bytes}
use Rattle.types.specs.Translation.{input as lists_of}
use Rattle.types.specs.Typed.{code_of}
use Rattle.command_line.specs.Requests.{FromLists, source}
use Rattle.files.specs.Held.{BeginsWith, TellsNoInput, lists_text}
use Rattle.files.proofs.Inputs.{mistaken, said}
use Rattle.files.proofs.input_file.input_of.Goals as goal

pub returns-in-Some-Lists-clause-begins : goal.returns-in-Some-Lists-clause-begins
returns-in-Some-Lists-clause-begins g c =
    let held = g.F.FileSource.held c.args.files.now in
    let arrays = (code_of c.args.typed.now).arrays in
    let words = map string_bytes c.in-Some-Lists.words.now in
    let named : option_map source c.args.source ≡ Some (FromLists words) = search rules in
    subst (λ from. IfOk c.lists_in.result (λ i. BeginsWith from held arrays (lists_of i))) (sym named)
    (IfOk-weaker c.lists_in.result _ _ (λ i says. said held (FromLists words) (lists_text words) arrays _ refl says)
    c.lists_in.ensures.says)

pub returns-in-Some-Lists-clause-why : goal.returns-in-Some-Lists-clause-why
returns-in-Some-Lists-clause-why g c =
    let held = g.F.FileSource.held c.args.files.now in
    let arrays = (code_of c.args.typed.now).arrays in
    let words = map string_bytes c.in-Some-Lists.words.now in
    let named : option_map source c.args.source ≡ Some (FromLists words) = search rules in
    subst (λ from. IfErr c.lists_in.result (TellsNoInput from held arrays)) (sym named)
    (IfErr-weaker c.lists_in.result _ _ (λ f mistake. mistaken held (FromLists words) (lists_text words) arrays f refl mistake)
    c.lists_in.ensures.why)
