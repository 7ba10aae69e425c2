use Rattle.std.proofs.Common.{ℕ}
use Rattle.std.specs.Prelude.{Bool, true, false}
use Rattle.effects.specs.AccessSets.{HasAccess, uses_of}
use Rattle.effects.specs.UseSets.{HasUse}
use Rattle.effects.specs.declared.accesses.Accesses.{Accesses}
use Rattle.effects.proofs.accesses.Accesses.new.Goals as goal

nothing : (xs : Accesses) → ((s l : ℕ) → HasUse xs.reads s l → ⊥) → ((s l : ℕ) → HasUse xs.writes s l → ⊥)
    → (w : Bool) (s l : ℕ) → HasUse (uses_of xs w) s l → ⊥
nothing xs reads writes true s l h = writes s l h
nothing xs reads writes false s l h = reads s l h

pub returns : goal.returns
unfolding HasAccess
returns c = λ x h. nothing (record { reads = c.new.result; writes = c.new-2.result }) c.new.ensures c.new-2.ensures x.write x.section x.label h
