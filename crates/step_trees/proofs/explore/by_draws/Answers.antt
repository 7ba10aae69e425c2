use Rattle.std.proofs.Common.{◌≡◌, ◌+◌, ◌-◌, ◌<◌, ◌≤◌, suc, refl, sym, ap, ◌∙◌, rules, arith}
use Rattle.std.proofs.lemmas.Result.{IfOk-weaker}
use Rattle.types.specs.Translation.{program}
use Rattle.types.specs.TreeRuns.{explored_from}
use Rattle.types.specs.Trees.{ready}
use Rattle.statement_steps.specs.Lists.{contents_of}
use Rattle.step_trees.specs.Drawing.{drawn, next_number, picked}
use Rattle.step_trees.specs.Places.{whole}
use Rattle.step_trees.proofs.Drawing.{drawn-alike, drawn-goes, told-none, told-over}
use Rattle.step_trees.proofs.explore.by_draws.Goals as goal

pub choices-init : goal.choices-init
choices-init c = record { held = c.requires; few = omega arith; same = refl }

pub returns-then-leaves-eq0 : goal.returns-then-leaves-eq0
returns-then-leaves-eq0 c =
    let p = program c.args.plan.program.now in
    let t = whole c.choices.course.place in let a = contents_of c.choices.course.store in
    let zero : c.choices.course.place.ready ≡ 0 = search rules in
    let none : ready t ≡ 0 = sym c.choices.invariant.held.place.ready ∙ zero in
    IfOk-weaker c.told.result _ _
    (λ e h. h ∙ sym (told-none p (1000000 - c.choices.left) c.choices.left c.choices.number t a none) ∙ c.choices.invariant.same)
    c.told.ensures

pub choices-preserved : goal.choices-preserved
choices-preserved c =
    let p = program c.args.plan.program.now in
    let t = whole c.choices.course.place in let a = contents_of c.choices.course.store in
    let u = whole c.in_ok-course.course.place in let b = contents_of c.in_ok-course.course.store in
    let later = c.in-Some.later in let n = c.choices.number in let k = 1000000 - c.choices.left in
    let one : c.choices.left ≡ suc later = search rules in
    let few = c.choices.invariant.few in
    let less : later ≤ 1000000 = omega (arith, one, few) in
    let count : 1000000 - later ≡ k + 1 = omega (arith, one, few) in
    let behind : c.next_number-number.result ≡ next_number n = c.next_number-number.ensures in
    let leaves : c.choices.course.place.ready ≡ ready t = c.choices.invariant.held.place.ready in
    let more : 0 < c.choices.course.place.ready = search rules in
    let some : 0 < ready t = omega (arith, leaves, more) in
    let choice : c.picked.result ≡ picked (next_number n) (ready t)
    = c.picked.ensures.picked ∙ ap (λ x. picked x c.choices.course.place.ready) behind ∙ ap (picked (next_number n)) leaves in
    record {
      held = c.in_ok-course.ensures.held;
      few = less;
      same =
          ap (λ m. explored_from p m (drawn p later c.next_number-number.result u b) u b) count
          ∙ ap (λ x. explored_from p (k + 1) (drawn p later x u b) u b) behind
          ∙ drawn-alike p (k + 1) later (next_number n) u c.in_ok-course.ensures.tree b c.in_ok-course.ensures.alike
          ∙ sym (drawn-goes p k later n c.picked.result t c.in_ok-course.ensures.tree a b some choice c.in_ok-course.ensures.step)
          ∙ ap (λ l. explored_from p k (drawn p l n t a) t a) (sym one)
          ∙ c.choices.invariant.same;
    }

pub returns : goal.returns
returns c =
    let p = program c.args.plan.program.now in
    let t = whole c.choices.course.place in let a = contents_of c.choices.course.store in
    let none : c.choices.left ≡ 0 = search rules in
    IfOk-weaker c.told-2.result _ _
    (λ e h. h ∙ sym (told-over p (1000000 - c.choices.left) c.choices.number t a)
    ∙ ap (λ l. explored_from p (1000000 - c.choices.left) (drawn p l c.choices.number t a) t a) (sym none)
    ∙ c.choices.invariant.same) c.told-2.ensures
