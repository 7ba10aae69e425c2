use Rattle.std.proofs.Common.{◌≡◌, ◌∷◌, [], ◌++◌, map, suc, sym, ap, ◌∙◌, rules}
use Rattle.std.proofs.lemmas.List.{append_assoc, append-nil, map-append}
use Rattle.json_answers.specs.AllEnds.{further}
use Rattle.json_answers.proofs.all_ends.wait_further.Goals as goal

pub choices-preserved : goal.choices-preserved
choices-preserved c =
    let cs = c.args.choices.now in let next = c.in-Some.next in
    let lists = map (λ v. v.items) c.choices.search.waiting.items in
    let one : c.choices.number ≡ suc next = search rules in
    record {
      waiting =
          ap (λ l. map (λ v. v.items) l ++ further cs next) c.in_ok-push-2.ensures.items
          ∙ ap (λ l. l ++ further cs next) (map-append (λ v. v.items) c.choices.search.waiting.items _)
          ∙ ap (λ l. (lists ++ l ∷ []) ++ further cs next) (c.in_ok-push.ensures.items ∙ ap (λ l. l ++ next ∷ []) c.in_ok-longer.ensures.items)
          ∙ append_assoc lists ((cs ++ next ∷ []) ∷ []) (further cs next)
          ∙ ap (λ n. lists ++ further cs n) (sym one)
          ∙ c.choices.invariant.waiting;
      ends = c.choices.invariant.ends;
    }

pub returns-clause-waiting : goal.returns-clause-waiting
returns-clause-waiting c =
    let lists = map (λ v. v.items) c.choices.search.waiting.items in
    let none : c.choices.number ≡ 0 = search rules in
    sym (append-nil lists) ∙ ap (λ n. lists ++ further c.args.choices.now n) (sym none) ∙ c.choices.invariant.waiting

pub returns-clause-ends : goal.returns-clause-ends
returns-clause-ends c = c.choices.invariant.ends
