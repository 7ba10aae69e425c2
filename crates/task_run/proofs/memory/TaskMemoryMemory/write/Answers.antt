use Rattle.std.proofs.Common.{◌≡◌, ap, ◌∙◌, sym, subst, w64}
use Rattle.std.proofs.lemmas.Bool.{OnFalse_at, OnTrue_at}
use Rattle.std.proofs.lemmas.Int.{to_z-of_z}
use Rattle.std.specs.Prelude.{ℤ, is_some, true}
use Rattle.sections.specs.Translation.{place}
use Rattle.types.specs.Contents.{write}
use Rattle.holdings.specs.Held.{Held, Map, numbers, owned}
use Rattle.holdings.specs.Holdings.{held}
use Rattle.task_run.proofs.HeldPlaces.{numbers-put, owned-put, owns}
use Rattle.task_run.proofs.memory.TaskMemoryMemory.write.Goals as goal

pub returns-then-set-clause-written : goal.returns-then-set-clause-written
returns-then-set-clause-written c =
    let m = held c.args.self.now.holdings in let q = place c.args.place in
    ap numbers (OnTrue_at c.if-set.true c.set.ensures.written) ∙ numbers-put q _ m
    ∙ ap (λ (v : ℤ). write q v (numbers m)) (to_z-of_z w64 c.args.value c.ranges.value)

pub returns-then-set-clause-shape : goal.returns-then-set-clause-shape
returns-then-set-clause-shape c =
    ap owns (OnTrue_at c.if-set.true c.set.ensures.written) ∙ owned-put (place c.args.place) _ (held c.args.self.now.holdings) c.requires

pub returns-in-Ok-clause-written : goal.returns-in-Ok-clause-written
returns-in-Ok-clause-written c =
    let m = held c.args.self.now.holdings in let q = place c.args.place in
    let same = OnFalse_at c.if-set.false c.set.ensures.unchanged in
    ap numbers c.in-Ok.ensures.written ∙ numbers-put q _ (held c.set.new.self)
    ∙ ap (λ (v : ℤ). write q v (numbers (held c.set.new.self))) (to_z-of_z w64 c.args.value c.ranges.value)
    ∙ ap (λ (n : Map Held). write q c.args.value (numbers n)) same

pub returns-in-Ok-clause-shape : goal.returns-in-Ok-clause-shape
returns-in-Ok-clause-shape c =
    let q = place c.args.place in
    let same = OnFalse_at c.if-set.false c.set.ensures.unchanged in
    ap owns c.in-Ok.ensures.written
    ∙ owned-put q _ (held c.set.new.self) (subst (λ (n : Map Held). is_some (owned n q) ≡ true) (sym same) c.requires)
    ∙ ap owns same
