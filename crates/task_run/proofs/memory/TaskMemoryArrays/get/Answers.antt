use Rattle.std.proofs.Common.{◌∙◌, ap, arith, rules, sym, w64, to_z, of_z, FitsSigned, Ok}
use Rattle.std.proofs.lemmas.Int.{to_z-of_z}
use Rattle.std.specs.Prelude.{nat_abs, ok_or}
use Rattle.types.specs.Contents.{read}
use Rattle.types.specs.Value.{then_try}
use Rattle.types.specs.declared.fault.FaultKind.TheVariants.{Index}
use Rattle.task_run.specs.Translation.{contents_of}
use Rattle.task_run.proofs.SpanLemmas.{in_span, placed, span_at, span_fits}
use Rattle.task_run.proofs.memory.TaskMemoryArrays.get.Goals as goal

pub overflow_add-at : goal.overflow_add-at
overflow_add-at c =
    let h = c.args.self.now.holdings in let ws = c.args.windows.now in
    let fits = span_fits h _ _ (nat_abs (to_z w64 (of_z w64 c.args.index)))
    (span_at h ws c.args.spans.now c.args.section _ c.requires.finds c.requires.section) c.if-index-span.false in
    omega (arith, fits)

pub number_at-requires : goal.number_at-requires
number_at-requires c =
    let h = c.args.self.now.holdings in let ws = c.args.windows.now in
    in_span h _ _ (nat_abs (to_z w64 (of_z w64 c.args.index))) (span_at h ws c.args.spans.now c.args.section _ c.requires.finds c.requires.section)
    c.if-index-span.false

pub returns : goal.returns
returns c =
    let h = c.args.self.now.holdings in let ws = c.args.windows.now in
    let v = c.number_at.result in let fits : FitsSigned w64 v = search rules in
    let is = span_at h ws c.args.spans.now c.args.section _ c.requires.finds c.requires.section in
    let there = placed h _ _ c.args.index c.ranges.index c.if-index-lt0.false is c.if-index-span.false in
    ap (λ v. Ok v) (to_z-of_z w64 v fits ∙ c.number_at.ensures)
    ∙ ap (λ o. then_try (ok_or o Index) (λ q. Ok (read (contents_of h) q))) (sym there)
