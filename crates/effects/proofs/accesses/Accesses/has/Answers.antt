use Rattle.std.proofs.Common.{sym, subst}
use Rattle.std.specs.Prelude.{◌↔◌, Bool, IsTrue}
use Rattle.effects.specs.AccessSets.{HasAccess, uses_of}
use Rattle.effects.specs.UseSets.{HasUse}
use Rattle.effects.proofs.accesses.Accesses.has.Goals as goal

pub returns-then-access : goal.returns-then-access
unfolding HasAccess
returns-then-access c =
    subst (λ (w : Bool). IsTrue c.has.result ↔ HasUse (uses_of c.args.self.now w) c.args.access.section.number c.args.access.label)
    (sym c.if-access.true) c.has.ensures

pub returns-else-access : goal.returns-else-access
unfolding HasAccess
returns-else-access c =
    subst (λ (w : Bool). IsTrue c.has-else-access.result ↔ HasUse (uses_of c.args.self.now w) c.args.access.section.number c.args.access.label)
    (sym c.if-access.false) c.has-else-access.ensures
