-- What is known of a task, by its path.
use Rattle.std.proofs.Common.{◌≡◌, ℕ, List, Option, Some, Bool, true, false, ap, ◌∙◌, refl, nat_eq}
use Rattle.std.specs.Prelude.{cond, if◌then◌else◌}
use Rattle.std.specs.List.{AllZip}
use Rattle.std.specs.Cmp.Lexicographic.{pointwise}
use Rattle.shared_lemmas.proofs.Lists.{same_elements}
use Rattle.trace_numbers.specs.Tables.{known}
use Rattle.trace_numbers.specs.declared.chains.Chain.{Chain}

-- what is known if a table has a chain at a path, and everything else is unchanged
pub known_put : (b : Bool) (chain : Chain) (old : Option Chain) → known (cond b (Some chain) old) ≡ (if b then chain else known old)
known_put true chain old = refl
known_put false chain old = refl

pub put_at : (key path other : List ℕ) (chain : Chain) (old new : Option Chain) → AllZip (λ x y. y ≡ x) path key
    → new ≡ cond (pointwise nat_eq key other) (Some chain) old
    → known new ≡ (if pointwise nat_eq path other then chain else known old)
put_at key path other chain old new cloned is =
    ap known (is ∙ ap (λ (p : List ℕ). cond (pointwise nat_eq p other) (Some chain) old) (same_elements path key cloned))
    ∙ known_put (pointwise nat_eq path other) chain old
