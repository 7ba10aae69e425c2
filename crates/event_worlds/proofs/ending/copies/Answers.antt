use Rattle.std.proofs.Common.{◌∙◌, ◌++◌, ◌∷◌, [], ap, map, sym, take}
use Rattle.std.proofs.lemmas.List.{map-append, take_more}
use Rattle.task_run.specs.Translation.{task_result}
use Rattle.task_run.specs.declared.result.TaskResult.{TaskResult as Made}
use Rattle.event_worlds.proofs.ending.copies.Goals as goal

pub loop-made-preserved : goal.loop-made-preserved
loop-made-preserved c =
    let all = c.args.results.now in
    let i = c.loop-made.made-index in
    let item = c.made-item.result in
    let copy = c.in_ok-copy.copy in
    let before = map task_result (take i all) in
    ap (map task_result) c.in_ok-push.ensures.items
    ∙ map-append task_result c.loop-made.copies.items (copy ∷ [])
    ∙ ap (λ xs. xs ++ task_result copy ∷ []) c.loop-made.invariant
    ∙ ap (λ x. before ++ x ∷ []) c.in_ok-copy.ensures
    ∙ sym (map-append task_result (take i all) (item ∷ []))
    ∙ ap (map task_result) (sym (take_more all i item c.loop-made-test.true ∙ ap (λ (x : Made). take i all ++ x ∷ []) (sym c.made-item.is)))
