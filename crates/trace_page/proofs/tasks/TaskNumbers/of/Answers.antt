use Rattle.std.proofs.Common.{◌∷◌, ◌∙◌, ◌+◌, ℕ, Option, ap, drop, map, sym}
use Rattle.std.specs.Prelude.{unwrap_or}
use Rattle.std.specs.HashMap.{get}
use Rattle.std.specs.Map.{lookup}
use Rattle.std.proofs.lemmas.List.{drop_all, drop_more}
use Rattle.types.specs.Translation.{is_path}
use Rattle.trace_page.specs.Births.{birth}
use Rattle.trace_page.specs.Tasks.{number_from}
use Rattle.trace_page.proofs.Numbered.{numbered_all, numbered_more}
use Rattle.trace_page.proofs.tasks.TaskNumbers.of.Goals as goal

pub loop-index-init : goal.loop-index-init
loop-index-init c = record {
  numbers = λ path.
      ap (λ (o : Option ℕ). number_from path.turns.items 1 (unwrap_or o 0) (map birth c.args.births.now)) (ap (lookup (is_path path)) c.new-by_path.ensures.empty);
}

pub loop-index-preserved : goal.loop-index-preserved
loop-index-preserved c =
    let bs = c.args.births.now in
    let n = c.loop-index.index in
    let b = c.index-births-index.result in
    let split = drop_more bs n b c.loop-index-test.true ∙ ap (λ x. x ∷ drop (n + 1) bs) (sym c.index-births-index.is) in
    numbered_more bs n b c.in_ok-child.child (get is_path c.loop-index.by_path) (get is_path c.insert.new.self) split
    c.in_ok-child.ensures c.in_ok-insert.ensures.updates.0 c.loop-index.invariant

pub returns : goal.returns
returns c =
    numbered_all c.args.births.now c.loop-index.index (get is_path c.loop-index.by_path)
    (drop_all c.loop-index.index c.args.births.now c.loop-index-test.false) c.loop-index.invariant
