use Rattle.std.proofs.Common.{◌≡◌, ◌<◌, [], ◌∷◌, ◌++◌, suc, sym, ap, ◌∙◌, rules, arith}
use Rattle.std.proofs.lemmas.List.{append_assoc, append-nil}
use Rattle.types.specs.Translation.{program}
use Rattle.types.specs.Trees.{ready}
use Rattle.statement_steps.specs.Lists.{contents_of}
use Rattle.step_trees.specs.Drawing.{drawn, next_number, picked}
use Rattle.step_trees.specs.Places.{whole}
use Rattle.step_trees.proofs.Drawing.{alike-drawn, drawn-none, drawn-over, drawn-step}
use Rattle.step_trees.proofs.standing.draw_from.Goals as goal

pub choices-init : goal.choices-init
choices-init c =
    let p = program c.args.plan.program.now in
    let t = whole c.args.course.place in let a = contents_of c.args.course.store in
    record { held = c.requires; same = ap (λ l. l ++ drawn p 1000000 c.args.seed t a) c.new-choices.ensures.items }

pub returns-then-leaves-eq0 : goal.returns-then-leaves-eq0
returns-then-leaves-eq0 c =
    let p = program c.args.plan.program.now in
    let t = whole c.choices.course.place in let a = contents_of c.choices.course.store in
    let zero : c.choices.course.place.ready ≡ 0 = search rules in
    let none : ready t ≡ 0 = sym c.choices.invariant.held.place.ready ∙ zero in
    sym (append-nil c.choices.choices.items)
    ∙ ap (λ l. c.choices.choices.items ++ l) (sym (drawn-none p c.choices.left c.choices.number t a none))
    ∙ c.choices.invariant.same

pub choices-preserved : goal.choices-preserved
choices-preserved c =
    let p = program c.args.plan.program.now in
    let t = whole c.choices.course.place in let a = contents_of c.choices.course.store in
    let u = whole c.in_ok-course.course.place in let b = contents_of c.in_ok-course.course.store in
    let later = c.in-Some.later in let n = c.choices.number in
    let one : c.choices.left ≡ suc later = search rules in
    let behind : c.next_number-number.result ≡ next_number n = c.next_number-number.ensures in
    let leaves : c.choices.course.place.ready ≡ ready t = c.choices.invariant.held.place.ready in
    let more : 0 < c.choices.course.place.ready = search rules in
    let some : 0 < ready t = omega (arith, leaves, more) in
    let choice : c.picked-choice.result ≡ picked (next_number n) (ready t)
    = c.picked-choice.ensures.picked ∙ ap (λ x. picked x c.choices.course.place.ready) behind ∙ ap (picked (next_number n)) leaves in
    record {
      held = c.in_ok-course.ensures.held;
      same =
          ap (λ l. l ++ drawn p later c.next_number-number.result u b) c.in_ok-push.ensures.items
          ∙ append_assoc c.choices.choices.items (c.picked-choice.result ∷ []) (drawn p later c.next_number-number.result u b)
          ∙ ap (λ x. c.choices.choices.items ++ c.picked-choice.result ∷ drawn p later x u b) behind
          ∙ ap (λ l. c.choices.choices.items ++ c.picked-choice.result ∷ l)
          (alike-drawn p later (next_number n) u c.in_ok-course.ensures.tree b c.in_ok-course.ensures.alike)
          ∙ ap (λ l. c.choices.choices.items ++ l)
          (sym (drawn-step p later n c.picked-choice.result t c.in_ok-course.ensures.tree a b some choice c.in_ok-course.ensures.step))
          ∙ ap (λ l. c.choices.choices.items ++ drawn p l n t a) (sym one)
          ∙ c.choices.invariant.same;
    }

pub returns : goal.returns
returns c =
    let p = program c.args.plan.program.now in
    let t = whole c.choices.course.place in let a = contents_of c.choices.course.store in
    let none : c.choices.left ≡ 0 = search rules in
    sym (append-nil c.choices.choices.items)
    ∙ ap (λ l. c.choices.choices.items ++ l) (sym (drawn-over p c.choices.number t a))
    ∙ ap (λ l. c.choices.choices.items ++ drawn p l c.choices.number t a) (sym none)
    ∙ c.choices.invariant.same
