use Rattle.std.proofs.Common.{◌≡◌, ◌+◌, ◌∙◌, length, ap, subst, arith}
use Rattle.std.proofs.lemmas.List.{length-map}
use Rattle.std.specs.Map.{lookup}
use Rattle.std.specs.Ordering.{nat_cmp, is_eq}
use Rattle.std.specs.Prelude.{option_map}
use Rattle.types.specs.Code.{Async, Codes}
use Rattle.types.specs.Run.{procedure_of}
use Rattle.types.specs.Translation.{codes, procedure, program}
use Rattle.effects.specs.AsyncNeeds.{Keeps, needs_at}
use Rattle.effects.specs.Statements.{HasStatement, Stands}
use Rattle.effects.specs.Translation.{needs}
use Rattle.effects.proofs.AsyncLemmas.{InProcedureBelow, body_at, in_more_procedures, in_no_procedure, in_some_procedure}
use Rattle.effects.proofs.AsyncLemmas.{keeps_none, keeps_then, needs_kept}
use Rattle.effects.proofs.StatementLemmas.{part_of_main, part_of_procedure}
use Rattle.effects.proofs.asyncs.needs_of_asyncs.Goals as goal

pub loop-procedure-init : goal.loop-procedure-init
loop-procedure-init c =
    let p = program c.args.code.now in keeps_none p (InProcedureBelow p 0) (needs_at c.new-kept.result) (in_no_procedure p)

pub keep_block-requires : goal.keep_block-requires
keep_block-requires c =
    let p = program c.args.code.now in
    record {
      sound = c.requires.sound;
      summaries = c.requires.summaries;
      part = part_of_procedure p c.loop-procedure.procedure-index (codes c.deref.result.now)
          (ap codes c.deref.ensures.value
          ∙ body_at c.deref-procedure-items.result.now c.args.code.now.procedures.items c.loop-procedure.procedure-index
          c.procedure-item.result c.deref-procedure-items.ensures.value c.loop-procedure-test.true c.procedure-item.is);
    }

pub loop-procedure-preserved : goal.loop-procedure-preserved
loop-procedure-preserved c =
    let p = program c.args.code.now in
    let i = c.loop-procedure.procedure-index in
    let body : codes c.deref.result.now ≡ (procedure_of p i).body =
    ap codes c.deref.ensures.value
    ∙ body_at c.deref-procedure-items.result.now c.args.code.now.procedures.items i c.procedure-item.result
    c.deref-procedure-items.ensures.value c.loop-procedure-test.true c.procedure-item.is in
    keeps_then p (InProcedureBelow p i) (λ l b. Stands (procedure_of p i).body l (Async b)) (InProcedureBelow p (i + 1))
    (needs_at c.new-kept.result) (needs_at c.loop-procedure.kept) (needs_at c.keep_block.new.kept) c.loop-procedure.invariant
    (subst (λ (d : Codes). Keeps p (λ l b. Stands d l (Async b)) (needs_at c.loop-procedure.kept) (needs_at c.keep_block.new.kept)) body
    c.in_ok-keep_block.ensures)
    (in_more_procedures p i)

pub keep_block-requires-2 : goal.keep_block-requires-2
keep_block-requires-2 c = record {
  sound = c.requires.sound;
  summaries = c.requires.summaries;
  part = part_of_main (program c.args.code.now) (codes c.deref-2.result.now) (ap codes c.deref-2.ensures.value);
}

pub returns : goal.returns
returns c =
    let p = program c.args.code.now in
    let i = c.loop-procedure.procedure-index in
    let items = c.args.code.now.procedures.items in
    let end : i ≡ length p.procedures =
    omega (arith, length-map items procedure, ap length c.deref-procedure-items.ensures.value, c.loop-procedure-test.false, c.loop-procedure.auto.procedure-index-end) in
    let first = needs_at c.new-kept.result in
    let last = needs_at c.keep_block-2.new.kept in
    needs_kept p c.requires.sound first last
    (λ l. ap (λ es. option_map needs (lookup (λ k. is_eq (nat_cmp l k)) es)) c.new-kept.ensures.empty)
    (keeps_then p (InProcedureBelow p (length p.procedures)) (λ l b. Stands p.main.body l (Async b)) (λ l b. HasStatement p l (Async b))
    first (needs_at c.loop-procedure.kept) last
    (subst (λ n. Keeps p (InProcedureBelow p n) first (needs_at c.loop-procedure.kept)) end c.loop-procedure.invariant)
    (subst (λ (d : Codes). Keeps p (λ l b. Stands d l (Async b)) (needs_at c.loop-procedure.kept) last) (ap codes c.deref-2.ensures.value)
    c.in_ok-keep_block-2.ensures)
    (in_some_procedure p))
