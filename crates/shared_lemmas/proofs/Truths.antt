-- Booleans.
use Rattle.std.proofs.Common.{◌≡◌, ◌∙◌, sym, ap, refl, true≢false}
use Rattle.std.specs.Prelude.{Bool, true, false, ◌||◌, if◌then◌else◌}

-- anything follows if `false` equals `true`
pub false_true : {A : Type 0} → false ≡ true → A
false_true h = absurd (true≢false (sym h))

pub true_false : {A : Type 0} → true ≡ false → A
true_false h = absurd (true≢false h)

-- anything follows if one boolean is both true and false
pub not_both : {A : Type 0} {b : Bool} → b ≡ true → b ≡ false → A
not_both t f = true_false (sym t ∙ f)

-- two booleans that imply one another are equal
pub same_truth : (a b : Bool) → (a ≡ true → b ≡ true) → (b ≡ true → a ≡ true) → a ≡ b
same_truth true b f g = sym (f refl)
same_truth false true f g = g refl
same_truth false false f g = refl

-- the first two of three operands can be swapped
pub or_swap : (a b c : Bool) → (a || (b || c)) ≡ (b || (a || c))
or_swap true true c = refl
or_swap true false c = refl
or_swap false b c = refl

-- the value of an `if` whose condition is known
pub if_true : {A : Type 0} (b : Bool) (x y : A) → b ≡ true → (if b then x else y) ≡ x
if_true b x y e = ap (λ (c : Bool). if c then x else y) e

pub if_false : {A : Type 0} (b : Bool) (x y : A) → b ≡ false → (if b then x else y) ≡ y
if_false b x y e = ap (λ (c : Bool). if c then x else y) e

-- what holds for both branches holds for the chosen one
pub if_either : {A : Type 0} (P : A → Type 0) (b : Bool) (x y : A) → P x → P y → P (if b then x else y)
if_either P true x y p q = p
if_either P false x y p q = q
