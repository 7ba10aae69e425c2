use Rattle.std.proofs.Common.{◌∙◌, ◌+◌, ◌<◌, List, [], ◌∷◌, ap, arith, length, subst, sym}
use Rattle.std.proofs.lemmas.List.{length-append}
use Rattle.std.specs.Prelude.{slice_get, slice_index_or}
use Rattle.serial_run.specs.declared.spot.Span.{Span}
use Rattle.task_run.proofs.SpanLemmas.{SayWhere, says-more}
use Rattle.task_run.proofs.memory.TaskMemoryArrays.find.Goals as goal

pub loop-window-init : goal.loop-window-init
loop-window-init c = (
  ap length c.clear.ensures.items,
  λ section s is. absurd (let none = sym (ap (λ (ss : List Span). slice_get ss section) c.clear.ensures.items) ∙ is in cc),
)

pub loop-window-preserved : goal.loop-window-preserved
loop-window-preserved c =
    let h = c.args.self.now.holdings in let ws = c.args.windows.now in let ss = c.loop-window.spans.items in
    let inv = c.loop-window.invariant in
    let lt : length ss < length ws = omega (arith, inv.0, c.loop-window-test.true) in
    let added = c.in_ok-push.ensures.items in (
      ap length added ∙ length-append ss (c.span.result ∷ []) ∙ ap (λ n. n + 1) inv.0,
      subst (SayWhere h ws) (sym added) (says-more h ws ss c.window-item.result c.span.result lt
          (c.window-item.is ∙ ap (λ n. slice_index_or ws n c.window-item.result) (sym inv.0)) c.span.ensures inv.1),
    )

pub returns : goal.returns
returns c = record {
  as_many = omega (arith, c.loop-window.invariant.0, c.loop-window-test.false, c.loop-window.auto.window-index-end);
  each = c.loop-window.invariant.1;
}
