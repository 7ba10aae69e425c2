-- The result of an expression: a number, a boolean, or a fault.
use Rattle.std.specs.Prelude.{ℕ, zero, ◌-◌, ◌^◌, List, [], ◌∷◌, Bool, true, false, not, ◌&&◌, ℤ, pos, negsuc}
use Rattle.std.specs.Prelude.{◌+ℤ◌, ◌-ℤ◌, ◌*ℤ◌, neg_ℤ, int_lt, int_le, int_div, int_rem, Result, Ok, Err}
use Rattle.std.specs.Prelude.{ok_or, if◌then◌else◌}
use Rattle.syntax_tree.specs.declared.tree.ElementType.{ElementType}
use Rattle.syntax_tree.specs.declared.tree.ElementType.TheVariants.{Int, Byte}
use Rattle.syntax_tree.specs.declared.tree.Relation.{Relation}
use Rattle.syntax_tree.specs.declared.tree.Relation.TheVariants.{Less, AtMost, Greater, AtLeast}
use Rattle.syntax_tree.specs.declared.tree.Relation.TheVariants.{Equal, Differs}
use Rattle.types.specs.declared.code.Operator.{Operator}
use Rattle.types.specs.declared.code.Operator.TheVariants.{Plus, Minus, Times, Over, Modulo}
use Rattle.types.specs.declared.fault.FaultKind.{FaultKind}
use Rattle.types.specs.declared.fault.FaultKind.TheVariants.{Index, Overflow, ZeroDivisor}
use Rattle.types.specs.Code.{Number, Literal, Scalar, Element, Length, Negative, Chain, Links, Done, Link}
use Rattle.types.specs.Code.{Truth, Constant, Compare, Not, Both, Either, Truths, NoMore, Also}
use Rattle.sections.specs.Place.{Window, Place, place_in}

-- the contents of a frame: the number in each slot and the window of each section
pub record Environment : Type 0 where
  pub scalars : ℕ → ℤ
  pub windows : ℕ → Window

-- a value, or a fault instead
abbrev pub Valued : Type 0 → Type 0
Valued A = Result A FaultKind

-- continues with a value; the first fault is kept
abbrev pub then_try : {A B : Type 0} → Valued A → (A → Valued B) → Valued B
then_try (Ok x) go = go x
then_try (Err f) go = Err f

-- whether a number fits in a signed 64-bit integer
abbrev pub fits_64_bits : ℤ → Bool
fits_64_bits v = int_le (negsuc (2 ^ 63 - 1)) v && int_lt v (pos (2 ^ 63))

-- a result, or F2 if it doesn't fit in 64 bits
abbrev pub within_64_bits : ℤ → Valued ℤ
within_64_bits v = if fits_64_bits v then Ok v else Err Overflow

-- x / y, rounded toward zero, or F3; F2 for the smallest number by -1
abbrev pub quotient : ℤ → ℤ → Valued ℤ
quotient x (pos zero) = Err ZeroDivisor
quotient x y = within_64_bits (int_div x y)

-- `%` has the sign of the dividend, and faults if `/` does
abbrev pub operate : Operator → ℤ → ℤ → Valued ℤ
operate Plus x y = within_64_bits (x +ℤ y)
operate Minus x y = within_64_bits (x -ℤ y)
operate Times x y = within_64_bits (x *ℤ y)
operate Over x y = quotient x y
operate Modulo x y = then_try (quotient x y) (λ _. Ok (int_rem x y))

-- whether a relation holds
abbrev pub holds : Relation → ℤ → ℤ → Bool
holds Less x y = int_lt x y
holds AtMost x y = int_le x y
holds Greater x y = int_lt y x
holds AtLeast x y = int_le y x
holds Equal x y = int_le x y && int_le y x
holds Differs x y = not (int_le x y && int_le y x)

-- whether a 64-bit value fits in an element type
abbrev pub holds_number : ElementType → ℤ → Bool
holds_number Int v = true
holds_number Byte v = int_le (pos 0) v && int_lt v (pos 256)

-- the place of an element of a window, or F1
abbrev pub element_of : Window → ℤ → Valued Place
element_of w i = ok_or (place_in w i) Index

-- in an environment, where `read` gives the number at a place; operands go from left to right
module _ (env : Environment) (read : Place → ℤ) where
  abbrev mutual
    -- the value of a number expression
    pub number : Number → Valued ℤ
    number (Literal v) = Ok v
    number (Scalar x) = Ok (env.scalars x)
    number (Element s i) =
        then_try (number i) (λ v.
        then_try (element_of (env.windows s) v) (λ q. Ok (read q)))
    number (Length s) = Ok (pos (env.windows s).length)
    number (Negative e) = then_try (number e) (λ v. within_64_bits (neg_ℤ v))
    number (Chain e rest) = then_try (number e) (links rest)

    -- the result of applying the remaining operands to the number so far
    pub links : Links → ℤ → Valued ℤ
    links Done x = Ok x
    links (Link o e rest) x = then_try (number e) (λ y. then_try (operate o x y) (links rest))

  -- the numbers of a list of expressions
  abbrev pub numbers : List Number → Valued (List ℤ)
  numbers [] = Ok []
  numbers (e ∷ es) = then_try (number e) (λ v. then_try (numbers es) (λ vs. Ok (v ∷ vs)))

  -- `and` and `or` skip the remaining operands once the result is known
  abbrev mutual
    -- the value of a boolean expression
    pub truth : Truth → Valued Bool
    truth (Constant b) = Ok b
    truth (Compare r a b) = then_try (number a) (λ x. then_try (number b) (λ y. Ok (holds r x y)))
    truth (Not t) = then_try (truth t) (λ b. Ok (not b))
    truth (Both ts) = all ts true
    truth (Either ts) = any ts false

    -- whether all are true, where `so_far` is the result of those before
    pub all : Truths → (so_far : Bool) → Valued Bool
    all NoMore b = Ok b
    all (Also t rest) false = Ok false
    all (Also t rest) true = then_try (truth t) (all rest)

    -- whether some operand is true, where `so_far` is the result of those before
    pub any : Truths → (so_far : Bool) → Valued Bool
    any NoMore b = Ok b
    any (Also t rest) true = Ok true
    any (Also t rest) false = then_try (truth t) (any rest)
