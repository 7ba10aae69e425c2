use Rattle.std.proofs.Common.{ap, ◌∙◌, w64}
use Rattle.std.proofs.lemmas.Int.{to_z-of_z}
use Rattle.std.proofs.lemmas.Result.{on_ok_weaker}
use Rattle.std.specs.Prelude.{ℤ}
use Rattle.sections.specs.Translation.{place}
use Rattle.types.specs.Contents.{write}
use Rattle.holdings.specs.Held.{numbers}
use Rattle.holdings.specs.Holdings.{held}
use Rattle.task_run.proofs.HeldPlaces.{numbers-over, owned-over, owns}
use Rattle.task_run.proofs.memory.TaskMemoryArrays.put.Goals as goal

pub returns-clause-written : goal.returns-clause-written
returns-clause-written c =
    let m = held c.args.self.now.holdings in
    let q = place c.args.place in
    on_ok_weaker c.put.result (λ is.
    ap numbers is ∙ numbers-over q _ m ∙ ap (λ (v : ℤ). write q v (numbers m)) (to_z-of_z w64 c.args.value c.ranges.value))
    c.put.ensures.written

pub returns-clause-shape : goal.returns-clause-shape
returns-clause-shape c =
    on_ok_weaker c.put.result (λ is. ap owns is ∙ owned-over (place c.args.place) _ (held c.args.self.now.holdings))
    c.put.ensures.written
