use Rattle.std.proofs.Common.{ℕ, IfOk, sym, subst}
use Rattle.std.specs.Prelude.{◌↔◌, Bool}
use Rattle.effects.specs.AccessSets.{HasAccess, uses_of}
use Rattle.effects.specs.LabelSets.{HasLabel}
use Rattle.effects.specs.UseSets.{HasUse}
use Rattle.effects.proofs.accesses.Accesses.copied.Goals as goal

pub returns-then-write : goal.returns-then-write
unfolding HasAccess
returns-then-write c =
    subst (λ (w : Bool). IfOk c.copied.result (λ x. (l : ℕ) → HasLabel x l ↔ HasUse (uses_of c.args.self.now w) c.args.section.number l))
    (sym c.if-write.true) c.copied.ensures

pub returns-else-write : goal.returns-else-write
unfolding HasAccess
returns-else-write c =
    subst (λ (w : Bool). IfOk c.copied-else-write.result (λ x. (l : ℕ) → HasLabel x l ↔ HasUse (uses_of c.args.self.now w) c.args.section.number l))
    (sym c.if-write.false) c.copied-else-write.ensures
