use Rattle.std.proofs.Common.{◌≡◌, ℕ, [], ◌∷◌, ◌++◌, map, length, ap, sym, ◌∙◌, arith}
use Rattle.std.proofs.lemmas.List.{length-map}
use Rattle.types.specs.Translation.{procedure}
use Rattle.effects.specs.Outlines.{flows_in_all}
use Rattle.effects.proofs.ClosingLemmas.{got}
use Rattle.effects.proofs.OutlineLemmas.{outlined_next, flows_more, rows_all, flows_all}
use Rattle.effects.proofs.outlines.outlines.Goals as goal

pub loop-number-preserved : goal.loop-number-preserved
loop-number-preserved c =
    let k = c.loop-number.number in
    let xs = c.args.code.now.procedures.items in
    let x = c.procedure-item.result in
    let inv = c.loop-number.invariant in
    let at = got c.deref-procedure-items.result.now xs k x c.deref-procedure-items.ensures.value c.loop-number-test.true c.procedure-item.is in
    record {
      length = omega (arith, c.in_ok-push.ensures.len, inv.length);
      rows = outlined_next xs k x c.loop-number.table.items c.push.new.self.items c.in_ok-summary.summary at
          (omega (arith, c.loop-number-test.true, c.deref-procedure-items.ensures.len)) inv.length c.in_ok-push.ensures.items inv.rows
          c.in_ok-summary.ensures.rows;
      flows = flows_more (length xs) c.len-procedures.result k xs x c.loop-number.flows.items c.outline.new.flows.items _
          (omega (arith, c.len-procedures.ensures)) at c.in_ok-summary.ensures.flows inv.flows;
    }

pub returns-clause-rows : goal.returns-clause-rows
returns-clause-rows c =
    let xs = c.args.code.now.procedures.items in
    let inv = c.loop-number.invariant in
    let end : length xs ≡ c.loop-number.number =
    omega (arith, c.loop-number-test.false, c.loop-number.auto.number-end, c.deref-procedure-items.ensures.len) in
    rows_all xs c.loop-number.number c.args.code.now.main c.loop-number.table.items c.push-2.new.self.items c.in_ok-summary-2.summary
    inv.length end c.in_ok-push-2.ensures.items inv.rows c.in_ok-summary-2.ensures.rows

pub returns-clause-flows : goal.returns-clause-flows
returns-clause-flows c =
    let xs = c.args.code.now.procedures.items in
    let end : length xs ≡ c.loop-number.number =
    omega (arith, c.loop-number-test.false, c.loop-number.auto.number-end, c.deref-procedure-items.ensures.len) in
    flows_all (length xs) c.len-procedures.result c.loop-number.number xs c.args.code.now.main c.loop-number.flows.items
    c.outline-2.new.flows.items c.args.flows.now.items (omega (arith, c.len-procedures.ensures)) end
    (omega (arith, c.len-procedures.ensures, end)) c.in_ok-summary-2.ensures.flows
    c.loop-number.invariant.flows
    ∙ ap (λ (n : ℕ). c.args.flows.now.items ++ flows_in_all n 0 (map procedure xs ++ procedure c.args.code.now.main ∷ []))
    (sym (length-map xs procedure))
