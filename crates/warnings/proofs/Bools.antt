-- Two booleans are equal to two others.
use Rattle.std.proofs.Common.{◌≡◌, ap, ◌∙◌}
use Rattle.std.specs.Prelude.{Bool, ◌&&◌, ◌||◌}

pub or_of : (a b x y : Bool) → a ≡ x → b ≡ y → (a || b) ≡ (x || y)
or_of a b x y one other = ap (λ c. c || b) one ∙ ap (λ c. x || c) other

pub and_of : (a b x y : Bool) → a ≡ x → b ≡ y → (a && b) ≡ (x && y)
and_of a b x y one other = ap (λ c. c && b) one ∙ ap (λ c. x && c) other
