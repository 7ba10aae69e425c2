use Rattle.std.proofs.Common.{◌≡◌, ◌∙◌, sym, ap, subst, map, Ok, Err, Result, List, IfOk, IfErr, IfSome}
use Rattle.std.specs.Prelude.{ℤ}
use Rattle.serde_json.specs.View.{view}
use Rattle.types.specs.InputErrors.{told}
use Rattle.types.specs.Inputs.{Mistake, Stranger}
use Rattle.types.proofs.InputLemmas.{data_says-stranger, data_says-members}
use Rattle.types.proofs.input.lists_in.Goals as goal

pub returns-in-Some-first_stranger-clause-error : goal.returns-in-Some-first_stranger-clause-error
returns-in-Some-first_stranger-clause-error c =
    data_says-stranger c.args.arrays.now (view c.args.value.now) c.in-Some.members.now c.in-Some.ensures c.first_stranger.ensures.ordered
    c.in-Some-first_stranger.name.now c.in-Some-first_stranger.ensures.first
    ∙ ap (λ name. Err (Stranger name)) (sym c.in_ok-name.ensures.cases)

pub returns-clause-says : goal.returns-clause-says
returns-clause-says c =
    let says = data_says-members c.args.arrays.now (view c.args.value.now) c.in-Some.members.now c.in-Some.ensures
    c.first_stranger.ensures.ordered c.in_default.ensures.first in
    let P : Result (List (List ℤ)) Mistake → Type 0 = λ s. IfOk c.lists_of.result (λ ls. s ≡ Ok (map (λ v. v.items) ls.items)) in
    subst P (sym says) c.lists_of.ensures.says

pub returns-clause-error : goal.returns-clause-error
returns-clause-error c =
    let says = data_says-members c.args.arrays.now (view c.args.value.now) c.in-Some.members.now c.in-Some.ensures
    c.first_stranger.ensures.ordered c.in_default.ensures.first in
    let P : Result (List (List ℤ)) Mistake → Type 0 = λ s. IfErr c.lists_of.result (λ e. IfSome (told e) (λ m. s ≡ Err m)) in
    subst P (sym says) c.lists_of.ensures.error
