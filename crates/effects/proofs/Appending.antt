-- Lists that grow in steps.
use Rattle.std.proofs.Common.{◌≡◌, List, ◌++◌, ap, sym, ◌∙◌, append_assoc}

-- what was added in two steps is the same as what was added in one
pub in_two_steps : {A : Type 0} (xs ys zs a b c : List A) → ys ≡ xs ++ a → zs ≡ ys ++ b → c ≡ a ++ b → zs ≡ xs ++ c
in_two_steps xs ys zs a b c e f g = f ∙ ap (λ l. l ++ b) e ∙ append_assoc xs a b ∙ ap (λ l. xs ++ l) (sym g)
