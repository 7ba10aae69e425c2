use Rattle.std.proofs.Common.{◌≡◌, ◌∙◌, Option, Some, None, refl, option_map}
use Rattle.std.specs.Prelude.{ℤ}
use Rattle.blocks.specs.Blocks.{held_at, owned_at}
use Rattle.blocks.specs.Held.{Held, Owned, first_of}
use Rattle.blocks.proofs.block.Block.paste.Goals as goal

-- where something is held, it is owned elsewhere
within : (h : Option Held) (o : Option ℤ) → ((h ≡ None → ⊥) → o ≡ None → ⊥) → option_map Owned o ≡ first_of (option_map Owned o) h
within h (Some v) all = refl
within None None all = refl
within (Some x) None all = absurd (all (λ e. cc) refl)

pub returns-then-is_within-clause-pasted : goal.returns-then-is_within-clause-pasted
returns-then-is_within-clause-pasted c = λ k.
    c.close.ensures k ∙ c.owned_part.ensures k
    ∙ within (held_at c.args.self.now k) (owned_at c.args.other k) (c.is_within.ensures.0 c.if-is_within.true k)
