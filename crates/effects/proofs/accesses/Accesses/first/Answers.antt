use Rattle.std.proofs.Common.{sym, subst}
use Rattle.std.specs.Prelude.{Bool}
use Rattle.effects.specs.AccessSets.{HasAccess, uses_of}
use Rattle.effects.specs.Least.{IsLeast}
use Rattle.effects.specs.UseSets.{HasUse}
use Rattle.effects.proofs.accesses.Accesses.first.Goals as goal

pub returns-then-write : goal.returns-then-write
unfolding HasAccess
returns-then-write c =
    subst (λ (w : Bool). IsLeast (HasUse (uses_of c.args.self.now w) c.args.section.number) c.first.result) (sym c.if-write.true) c.first.ensures

pub returns-else-write : goal.returns-else-write
unfolding HasAccess
returns-else-write c =
    subst (λ (w : Bool). IsLeast (HasUse (uses_of c.args.self.now w) c.args.section.number) c.first-else-write.result)
    (sym c.if-write.false) c.first-else-write.ensures
