use Rattle.std.proofs.Common.{ℕ, List, Ok, Some, sym, option_map, subst}
use Rattle.std.proofs.lemmas.Result.{IfOk-weaker, IfErr-weaker}
use Rattle.files.specs.Held.{IsGiven, first}
use Rattle.files.proofs.ReadChoices.{file_says_none, says_choices}
use Rattle.files.proofs.choices.choices_in_file.Goals as goal

pub returns-in-Ok-clause-says : goal.returns-in-Ok-clause-says
returns-in-Ok-clause-says g c =
    let held = g.F.FileSource.held c.args.files.now in let name = c.args.name.now in
    let given = subst (λ (bs : List ℕ). IsGiven (option_map (first 16777217) (held name)) (Ok bs)) (sym c.deref.ensures.value)
    c.in-Ok.ensures.given in
    IfOk-weaker c.choices_filed.result _ _
    (λ numbers says. says_choices held name c.deref.result.now (Some numbers.items) given says) c.choices_filed.ensures.says

pub returns-in-Ok-clause-why : goal.returns-in-Ok-clause-why
returns-in-Ok-clause-why g c =
    let held = g.F.FileSource.held c.args.files.now in let name = c.args.name.now in
    let given = subst (λ (bs : List ℕ). IsGiven (option_map (first 16777217) (held name)) (Ok bs)) (sym c.deref.ensures.value)
    c.in-Ok.ensures.given in
    IfErr-weaker c.choices_filed.result _ _ (λ f tells. file_says_none held name c.deref.result.now f given tells)
    c.choices_filed.ensures.why
