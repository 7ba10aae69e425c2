use Rattle.std.proofs.Common.{◌∷◌, ◌∙◌, ◌+◌, ◌-◌, ℕ, Option, ap, drop, length, sym}
use Rattle.std.specs.Prelude.{unwrap_or}
use Rattle.std.specs.HashMap.{get}
use Rattle.std.specs.Map.{lookup}
use Rattle.std.proofs.lemmas.List.{drop_all, drop_more}
use Rattle.types.specs.Translation.{is_path}
use Rattle.trace_page.specs.Tasks.{end_from}
use Rattle.trace_page.proofs.Ends.{ends_all, ends_more}
use Rattle.trace_page.proofs.tasks.TaskEnds.of.Goals as goal

pub loop-at-init : goal.loop-at-init
loop-at-init c = record {
  ends = λ path.
      ap (λ (o : Option ℕ). end_from path.turns.items 0 (unwrap_or o (length c.args.events.now - 1)) c.args.events.now)
      (ap (lookup (is_path path)) c.new-by_path.ensures.empty);
}

pub loop-at-preserved : goal.loop-at-preserved
loop-at-preserved c =
    let es = c.args.events.now in
    let n = c.loop-at.at in
    let e = c.index-events-at.result in
    let split = drop_more es n e c.loop-at-test.true ∙ ap (λ x. x ∷ drop (n + 1) es) (sym c.index-events-at.is) in
    ends_more es n e (get is_path c.loop-at.by_path) (get is_path c.put_end.new.by_path) split c.in_ok-put_end.ensures c.loop-at.invariant

pub returns : goal.returns
returns c = λ path.
    ap (λ (last : ℕ). unwrap_or (get is_path c.loop-at.by_path path) last) c.saturating_sub-last.ensures
    ∙ ends_all c.args.events.now c.loop-at.at (get is_path c.loop-at.by_path)
    (drop_all c.loop-at.at c.args.events.now c.loop-at-test.false) c.loop-at.invariant path
