use Rattle.std.proofs.Common.{◌≤◌, ◌<◌, ◌+◌, List, length, drop, ap, subst, refl, arith, rules}
use Rattle.std.proofs.lemmas.List.{drop_all}
use Rattle.std.proofs.lemmas.Result.{on_ok_weaker}
use Rattle.types.specs.Code.{Do, If, Rescue}
use Rattle.types.specs.Translation.{program, code, codes, truth, primitive}
use Rattle.types.specs.declared.code.Stmt.{Stmt}
use Rattle.effects.specs.Effects.{labels, All}
use Rattle.effects.specs.LabelSets.{HasLabel}
use Rattle.parallel_relation.specs.Around.{Gains, both}
use Rattle.parallel_relation.proofs.LabelsLemmas.{gains_statement, one_less_left, none_is_left}
use Rattle.parallel_relation.proofs.StatementParts.{Done}
use Rattle.effects.proofs.Statements.{size, size_in, codes_at, is_If, is_Rescue}
use Rattle.effects.proofs.OneList.{of_list, size_of_list}
use Rattle.parallel_relation.proofs.Sums.{gains_joined, gains_nothing}
use Rattle.parallel_relation.proofs.labels.+labels.Goals as goal

pub add_labels-loop-statement-preserved : goal.add_labels-loop-statement-preserved
add_labels-loop-statement-preserved t c =
    let xs = c.args.block.now in
    let i = c.loop-statement.statement-index in
    let x = c.statement-item.result in
    let p = program c.args.code.now in
    let within : i < length xs = search rules in
    let front = codes_at xs i x within c.statement-item.is in
    record {
      small = omega (arith, ap size front, c.loop-statement.invariant.small);
      all = one_less_left p x.label (code x.kind) (codes (drop (i + 1) xs))
          (subst (λ b. Gains (HasLabel c.loop-statement.set) (All p labels b) (both (HasLabel c.args.set.now) (All p labels (codes xs))))
          front c.loop-statement.invariant.all) c.in_ok-add_labels_of.ensures;
    }

pub add_labels-returns : goal.add_labels-returns
add_labels-returns t c =
    let xs = c.args.block.now in
    let i = c.loop-statement.statement-index in
    let p = program c.args.code.now in
    let past : length xs ≤ i = search rules in
    none_is_left p (subst (λ (ys : List Stmt). Gains (HasLabel c.loop-statement.set) (All p labels (codes ys))
    (both (HasLabel c.args.set.now) (All p labels (codes xs)))) (drop_all i xs past) c.loop-statement.invariant.all)

pub add_labels_of-returns-in-Do : goal.add_labels_of-returns-in-Do
add_labels_of-returns-in-Do t c =
    let p = program c.args.code.now in
    gains_statement p c.args.statement.now.label (ap code c.in-Do.is) c.in_ok-insert.ensures
    (gains_nothing (HasLabel c.insert.new.self) (Done p (Do (primitive c.in-Do.field-0))) (λ x k. k))

pub add_labels_of-returns-in-Call : goal.add_labels_of-returns-in-Call
add_labels_of-returns-in-Call t c =
    on_ok_weaker c.add_labels_of_call.result (λ g. gains_statement (program c.args.code.now) c.args.statement.now.label (ap code c.in-Call.is)
    c.in_ok-insert.ensures g) c.add_labels_of_call.ensures

pub add_labels_of-add_labels-requires : goal.add_labels_of-add_labels-requires
add_labels_of-add_labels-requires t c =
    let is = is_If _ c.in-If.guard c.in-If.body c.in-If.other c.deref.result.now c.in-If.other.items c.in-If.is c.deref.ensures.value refl in
    (omega (arith, ap size_in is), c.requires)

pub add_labels_of-add_labels-requires-in-If : goal.add_labels_of-add_labels-requires-in-If
add_labels_of-add_labels-requires-in-If t c =
    let is = is_If _ c.in-If.guard c.in-If.body c.in-If.other c.in-If.body.items c.deref-in-If.result.now c.in-If.is refl c.deref-in-If.ensures.value in
    (omega (arith, ap size_in is), c.requires)

pub add_labels_of-returns-in_ok-add_labels-in-If : goal.add_labels_of-returns-in_ok-add_labels-in-If
add_labels_of-returns-in_ok-add_labels-in-If t c =
    let p = program c.args.code.now in
    let is = is_If _ c.in-If.guard c.in-If.body c.in-If.other c.deref.result.now c.deref-in-If.result.now c.in-If.is c.deref.ensures.value c.deref-in-If.ensures.value in
    let b = codes c.deref.result.now in
    let d = codes c.deref-in-If.result.now in
    on_ok_weaker c.add_labels-in-If.result (λ g. gains_statement p c.args.statement.now.label is c.in_ok-insert.ensures
    (gains_joined (Done p (If (truth c.in-If.guard) b d)) c.in_ok-add_labels-in-If.ensures g (λ x k. k) (λ x k. k)))
    c.add_labels-in-If.ensures

pub add_labels_of-add_labels-requires-in-Rescue : goal.add_labels_of-add_labels-requires-in-Rescue
add_labels_of-add_labels-requires-in-Rescue t c =
    let is = is_Rescue _ c.in-Rescue.body c.in-Rescue.faults c.in-Rescue.handler c.deref-in-Rescue.result.now c.in-Rescue.handler.items c.in-Rescue.is
    c.deref-in-Rescue.ensures.value refl in
    (omega (arith, ap size_in is), c.requires)

pub add_labels_of-add_labels-requires-in-Rescue-2 : goal.add_labels_of-add_labels-requires-in-Rescue-2
add_labels_of-add_labels-requires-in-Rescue-2 t c =
    let is = is_Rescue _ c.in-Rescue.body c.in-Rescue.faults c.in-Rescue.handler c.in-Rescue.body.items c.deref-in-Rescue-2.result.now c.in-Rescue.is
    refl c.deref-in-Rescue-2.ensures.value in
    (omega (arith, ap size_in is), c.requires)

pub add_labels_of-returns-in_ok-add_labels-in-Rescue : goal.add_labels_of-returns-in_ok-add_labels-in-Rescue
add_labels_of-returns-in_ok-add_labels-in-Rescue t c =
    let p = program c.args.code.now in
    let is = is_Rescue _ c.in-Rescue.body c.in-Rescue.faults c.in-Rescue.handler c.deref-in-Rescue.result.now c.deref-in-Rescue-2.result.now c.in-Rescue.is
    c.deref-in-Rescue.ensures.value c.deref-in-Rescue-2.ensures.value in
    let b = codes c.deref-in-Rescue.result.now in
    let d = codes c.deref-in-Rescue-2.result.now in
    on_ok_weaker c.add_labels-in-Rescue-2.result (λ g. gains_statement p c.args.statement.now.label is c.in_ok-insert.ensures
    (gains_joined (Done p (Rescue b c.in-Rescue.faults.number d)) c.in_ok-add_labels-in-Rescue.ensures g (λ x k. k) (λ x k. k)))
    c.add_labels-in-Rescue-2.ensures

pub add_labels_of-add_labels-requires-in-While : goal.add_labels_of-add_labels-requires-in-While
add_labels_of-add_labels-requires-in-While t c =
    let small = size_of_list c.args.statement.now.kind c.in-While.body c.deref-in-While.result.now c.deref-in-While.ensures.value c.in-While.is in
    (omega (arith, small), c.requires)

pub add_labels_of-returns-in-While : goal.add_labels_of-returns-in-While
add_labels_of-returns-in-While t c =
    let p = program c.args.code.now in
    let k = c.args.statement.now.kind in
    on_ok_weaker c.add_labels-in-While.result (λ g. gains_statement p c.args.statement.now.label {t = code k} refl c.in_ok-insert.ensures
    (of_list k c.in-While.body (λ j. Gains (HasLabel c.insert.new.self) (Done p j) (HasLabel c.add_labels-in-While.new.set))
    c.deref-in-While.result.now c.deref-in-While.ensures.value c.in-While.is (λ t. g) (λ s n i r. g) (λ s n q i. g) g g))
    c.add_labels-in-While.ensures
