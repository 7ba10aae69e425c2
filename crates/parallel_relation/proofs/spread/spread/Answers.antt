use Rattle.std.proofs.Common.{◌≡◌, ◌<◌, length, subst, arith, rules}
use Rattle.std.proofs.lemmas.List.{length-map}
use Rattle.types.specs.Translation.{program, procedure}
use Rattle.effects.specs.LabelSets.{HasLabel}
use Rattle.parallel_relation.specs.Around.{Adds}
use Rattle.parallel_relation.specs.Rows.{HasAt}
use Rattle.parallel_relation.proofs.SpreadLemmas.{CalledBelow, adds_callee, all_found}
use Rattle.parallel_relation.proofs.spread.spread.Goals as goal

pub loop-number-preserved : goal.loop-number-preserved
loop-number-preserved c =
    let p = program c.args.code.now in
    let n = c.loop-number.number in
    let s = c.of-summary.result.now in
    let sum = c.of-summary.ensures.exact p c.requires in
    let within : n < length p.procedures = first_of (search (rules, length-map), grind (arith, length-map)) in
    adds_callee p (HasAt c.args.found.calls) (HasAt c.args.found.ends) n (HasLabel s.labels) (HasLabel s.pending_labels) within
    sum.labels sum.pending_labels c.loop-number.invariant c.in_ok-add_row.ensures c.in_ok-add_row-2.ensures

pub returns : goal.returns
returns c =
    let p = program c.args.code.now in
    let all : c.loop-number.number ≡ length p.procedures =
    omega (arith, c.len-number-end.ensures, length-map c.args.code.now.procedures.items procedure, c.loop-number-test.false, c.loop-number.auto.number-end) in
    all_found p c.args.found (HasAt c.loop-number.labels)
    (subst (λ n. Adds (HasAt c.args.found.labels) (CalledBelow p (HasAt c.args.found.calls) (HasAt c.args.found.ends) n)
    (HasAt c.loop-number.labels)) all c.loop-number.invariant)
