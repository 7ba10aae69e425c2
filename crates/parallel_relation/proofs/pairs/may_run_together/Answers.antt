use Rattle.std.proofs.Common.{ℕ, subst}
use Rattle.std.specs.Prelude.{◌↔◌}
use Rattle.types.specs.Code.{Program}
use Rattle.types.specs.Translation.{program}
use Rattle.types.specs.Typed.{code_of}
use Rattle.parallel_relation.specs.Found.{Arises}
use Rattle.parallel_relation.specs.Rows.{HasAt}
use Rattle.parallel_relation.proofs.ExactSummaries.{exact_of}
use Rattle.parallel_relation.proofs.PairsLemmas.{pairs_are}
use Rattle.parallel_relation.proofs.pairs.may_run_together.Goals as goal

pub walk_all-requires : goal.walk_all-requires
walk_all-requires c =
    exact_of (code_of c.args.typed.now) (program c.code-code.result.now) c.args.summaries.now c.code-code.ensures.code c.requires

pub spread-requires : goal.spread-requires
spread-requires c =
    exact_of (code_of c.args.typed.now) (program c.code-code.result.now) c.args.summaries.now c.code-code.ensures.code c.requires

pub returns : goal.returns
returns c =
    let f = HasAt c.in_ok-rows.rows in
    let found : (x y : ℕ) → f x y ↔ Arises (program c.code-code.result.now) x y = λ x y. (
      λ k. (c.in_ok-found.ensures x y).0 ((c.in_ok-rows.ensures x y).0 k),
      λ k. (c.in_ok-rows.ensures x y).1 ((c.in_ok-found.ensures x y).1 k),
    ) in
    pairs_are (code_of c.args.typed.now) f (record { rows = c.turn.new.rows })
    (subst (λ (p : Program). (x y : ℕ) → f x y ↔ Arises p x y) c.code-code.ensures.code found) c.in_ok-turn.ensures
