use Rattle.std.proofs.Common.{◌≡◌, ℕ, IfOk, sym, subst}
use Rattle.std.specs.Prelude.{Bool, false, true}
use Rattle.std.proofs.lemmas.Result.{on_ok_weaker}
use Rattle.effects.specs.AccessSets.{HasAccess, uses_of}
use Rattle.effects.specs.LabelSets.{HasLabel, HasNew}
use Rattle.effects.specs.UseSets.{HasUse}
use Rattle.effects.proofs.UseLemmas.{written, are_read}
use Rattle.effects.proofs.accesses.Accesses.unite.Goals as goal

pub returns-then-write-clause-both : goal.returns-then-write-clause-both
returns-then-write-clause-both c =
    on_ok_weaker c.unite.result (written c.args.self.now c.unite.new.self c.args.section.number c.args.write (HasLabel c.args.labels.now) c.if-write.true)
    c.unite.ensures.both

pub returns-then-write-clause-grown : goal.returns-then-write-clause-grown
unfolding HasAccess
returns-then-write-clause-grown c =
    subst (λ (w : Bool). IfOk c.unite.result (λ grown. grown ≡ false → (l : ℕ) → HasLabel c.args.labels.now l
    → HasUse (uses_of c.args.self.now w) c.args.section.number l)) (sym c.if-write.true) c.unite.ensures.grown

pub returns-else-write-clause-both : goal.returns-else-write-clause-both
returns-else-write-clause-both c =
    on_ok_weaker c.unite-else-write.result
    (are_read c.args.self.now c.unite-else-write.new.self c.args.section.number c.args.write (HasLabel c.args.labels.now) c.if-write.false)
    c.unite-else-write.ensures.both

pub returns-else-write-clause-grown : goal.returns-else-write-clause-grown
unfolding HasAccess
returns-else-write-clause-grown c =
    subst (λ (w : Bool). IfOk c.unite-else-write.result (λ grown. grown ≡ false → (l : ℕ) → HasLabel c.args.labels.now l
    → HasUse (uses_of c.args.self.now w) c.args.section.number l)) (sym c.if-write.false) c.unite-else-write.ensures.grown

pub returns-then-write-clause-new : goal.returns-then-write-clause-new
unfolding HasAccess
returns-then-write-clause-new c =
    subst (λ (w : Bool). IfOk c.unite.result (λ grown. grown ≡ true
    → HasNew (HasUse (uses_of c.args.self.now w) c.args.section.number) (HasLabel c.args.labels.now))) (sym c.if-write.true) c.unite.ensures.new

pub returns-else-write-clause-new : goal.returns-else-write-clause-new
unfolding HasAccess
returns-else-write-clause-new c =
    subst (λ (w : Bool). IfOk c.unite-else-write.result (λ grown. grown ≡ true
    → HasNew (HasUse (uses_of c.args.self.now w) c.args.section.number) (HasLabel c.args.labels.now))) (sym c.if-write.false) c.unite-else-write.ensures.new
