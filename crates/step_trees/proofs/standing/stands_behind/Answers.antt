use Rattle.std.proofs.Common.{◌≡◌, ◌+◌, ◌-◌, ◌≤◌, suc, [], ◌∷◌, length, sym, ap, ◌∙◌, rules, arith}
use Rattle.std.proofs.lemmas.Result.{IfOk-weaker}
use Rattle.std.proofs.lemmas.List.{nil_from_length}
use Rattle.types.specs.Translation.{program}
use Rattle.types.specs.Trees.{ready}
use Rattle.statement_steps.specs.Lists.{contents_of}
use Rattle.step_trees.specs.Places.{whole}
use Rattle.step_trees.specs.Standing.{standing_from}
use Rattle.step_trees.proofs.AlikeTrees.{alike-standing}
use Rattle.step_trees.proofs.Standings.{stands-missing, stands-further}
use Rattle.step_trees.proofs.standing.stands_behind.Goals as goal

pub choices-init : goal.choices-init
choices-init c =
    let cs = c.args.choices.now in
    let none : length cs - length cs ≡ 0 = omega arith in
    record {
      held = c.requires;
      short = omega arith;
      same =
          ap (λ n. standing_from (program c.args.plan.program.now) n cs (whole c.args.course.place) (contents_of c.args.course.store)) none;
    }

pub returns-then-choice-course : goal.returns-then-choice-course
returns-then-choice-course c =
    let p = program c.args.plan.program.now in let cs = c.args.choices.now in
    let t = whole c.choices.course.place in let a = contents_of c.choices.course.store in
    let n = length cs - length c.choices.left.now in
    let split : c.choices.left.now ≡ c.in-Some.choice.now ∷ c.in-Some.later.now = search rules in
    let past : c.choices.course.place.ready ≤ c.in-Some.choice.now = search rules in
    let count : c.choices.course.place.ready ≡ ready t = c.choices.invariant.held.place.ready in
    sym (stands-missing p t a n c.in-Some.choice.now c.in-Some.later.now (omega (arith, past, count)))
    ∙ ap (λ l. standing_from p n l t a) (sym split)
    ∙ c.choices.invariant.same

pub choices-preserved : goal.choices-preserved
choices-preserved c =
    let p = program c.args.plan.program.now in let cs = c.args.choices.now in
    let t = whole c.choices.course.place in let a = contents_of c.choices.course.store in
    let u = whole c.in_ok-course.course.place in let b = contents_of c.in_ok-course.course.store in
    let n = length cs - length c.choices.left.now in
    let split : c.choices.left.now ≡ c.in-Some.choice.now ∷ c.in-Some.later.now = search rules in
    let one : length c.choices.left.now ≡ suc (length c.in-Some.later.now) = ap length split in
    let short : length c.choices.left.now ≤ length cs = c.choices.invariant.short in
    let count : length cs - length c.in-Some.later.now ≡ n + 1 = omega (arith, one, short) in
    record {
      held = c.in_ok-course.ensures.held;
      short = omega (arith, one, short);
      same =
          ap (λ m. standing_from p m c.in-Some.later.now u b) count
          ∙ alike-standing p (n + 1) c.in-Some.later.now u c.in_ok-course.ensures.tree b c.in_ok-course.ensures.alike
          ∙ sym (stands-further p t a n c.in-Some.choice.now c.in-Some.later.now c.in_ok-course.ensures.tree b c.in_ok-course.ensures.step)
          ∙ ap (λ l. standing_from p n l t a) (sym split)
          ∙ c.choices.invariant.same;
    }

pub returns : goal.returns
returns c =
    let p = program c.args.plan.program.now in let cs = c.args.choices.now in
    let t = whole c.choices.course.place in let a = contents_of c.choices.course.store in
    let n = length cs - length c.choices.left.now in
    let none : c.choices.left.now ≡ [] = nil_from_length c.choices.left.now c.in_default.ensures.cases in
    IfOk-weaker c.stands.result _ _ (λ e h. h ∙ ap (λ l. standing_from p n l t a) (sym none) ∙ c.choices.invariant.same) c.stands.ensures
