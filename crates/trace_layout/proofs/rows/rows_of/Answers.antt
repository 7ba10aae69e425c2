use Rattle.std.proofs.Common.{◌≡◌, ◌+◌, ◌<◌, ap, sym, ◌∙◌, subst, arith}
use Rattle.std.specs.Prelude.{All}
use Rattle.std.proofs.lemmas.List.Elements.{All-push}
use Rattle.trace_layout.specs.Rows.{ends_after, first_free}
use Rattle.trace_layout.proofs.InRows.{ArePlaced, ends_new, ends_there, placed_all, placed_more, rows_are_apart, too_many}
use Rattle.trace_layout.proofs.rows.rows_of.Goals as goal
use Rattle.trace_layout.proofs.rows.rows_of.Goals.{then-row-len, else-row-len+in_ok-push}

pub returns-then-row-most-clause-few : goal.returns-then-row-most-clause-few
returns-then-row-most-clause-few c =
    let free = c.first_free-row.ensures ∙ ap (λ ends. first_free ends c.stretch-item.result.first) c.deref.ensures.value in
    too_many c.args.stretches.now c.loop-stretch.stretch-index c.stretch-item.result _ c.loop-stretch.ends.items c.loop-stretch.rows.items
    c.first_free-row.result c.args.most (omega arith) c.stretch-item.is free (omega arith) c.loop-stretch.invariant.placed

pub loop-stretch-preserved : goal.loop-stretch-preserved
loop-stretch-preserved c =
    let s = c.stretch-item.result in
    let row = c.first_free-row.result in
    let ends = c.loop-stretch.ends in
    let free = c.first_free-row.ensures ∙ ap (λ e. first_free e s.first) c.deref.ensures.value in
    let len = ends.ok.0 in
    let new : c.if-row-len.ends.items ≡ ends_after ends.items row s.last =
    elim c.if-row-len.branch [
      | then-row-len w ↦ ap (λ v. v.items) w.ends-is ∙ ends_there ends.items row s.last (omega arith)
      | else-row-len+in_ok-push w ↦ ap (λ v. v.items) w.ends-is ∙ (w.in_ok-push.ensures.items ∙ ends_new ends.items row s.last (omega arith))
    ] in
    let rows = c.in_ok-push-2.ensures.items in
    record {
      placed = subst (ArePlaced c.args.stretches.now (c.loop-stretch.stretch-index + 1) c.if-row-len.ends.items) (sym rows)
          (placed_more c.args.stretches.now c.loop-stretch.stretch-index s _ ends.items c.if-row-len.ends.items c.loop-stretch.rows.items row
          (omega arith) c.stretch-item.is free new c.loop-stretch.invariant.placed);
      few = subst (All (λ r. r < c.args.most)) (sym rows)
          (All-push (λ r. r < c.args.most) c.loop-stretch.rows.items row c.loop-stretch.invariant.few (omega arith));
    }

pub returns-clause-apart : goal.returns-clause-apart
returns-clause-apart c =
    rows_are_apart c.args.stretches.now c.loop-stretch.rows.items
    (placed_all c.args.stretches.now c.loop-stretch.stretch-index c.loop-stretch.ends.items c.loop-stretch.rows.items
    c.loop-stretch-test.false c.loop-stretch.invariant.placed)
