-- A chain of two operands.
use Rattle.std.proofs.Common.{◌≡◌, ℤ, List, [], ◌∷◌, Vec, Box, Global, Ok, ap, sym, ◌∙◌, Option, w64, of_z}
use Rattle.std.proofs.Common.{to_z, FitsSigned}
use Rattle.std.proofs.lemmas.Int.{to_z-of_z}
use Rattle.std.proofs.lemmas.Option.{IfSome_then}
use Rattle.std.specs.Option.{IfSome}
use Rattle.types.specs.declared.code.Number.{Number as rNumber}
use Rattle.types.specs.declared.code.Number.TheVariants.{Chain as rChain}
use Rattle.types.specs.declared.code.Link.{Link as rLink}
use Rattle.types.specs.Code.{Link, Done}
use Rattle.types.specs.Rows.{links as links_of}
use Rattle.types.specs.Translation.{number as number_of}
use Rattle.types.specs.Value.{Environment, number, links, operate, then_try}
use Rattle.types.proofs.Chains.{number-Chain}
use Rattle.sections.specs.Place.{Place}

module _ (env : Environment) (read : Place → ℤ) (first : Box rNumber Global) (rest : Vec rLink Global) (l : rLink) where
  -- the operator of the only link, applied to the values of both
  pub pair : (x y v : ℤ) → rest.items ≡ l ∷ [] → number env read (number_of first.value) ≡ Ok x
      → number env read (number_of l.operand) ≡ Ok y → operate l.operator x y ≡ Ok v
      → number env read (number_of (rChain first rest)) ≡ Ok v
  pair x y v only left right applied =
      ap (number env read) (number-Chain first rest)
      ∙ ap (λ ls. then_try (number env read (number_of first.value)) (links env read (links_of ls))) only
      ∙ ap (λ r. then_try r (links env read (Link l.operator (number_of l.operand) Done))) left
      ∙ ap (λ r. then_try r (λ y. then_try (operate l.operator x y) (links env read Done))) right
      ∙ ap (λ r. then_try r (links env read Done)) applied

  -- the same statement for the results of machine integers
  pub pair_value : (n operand : rNumber) (slice : List rLink) (x y : ℤ) (given : Option ℤ)
      → n ≡ rChain first rest
      → slice ≡ rest.items → slice ≡ l ∷ [] → operand ≡ first.value
      → number env read (number_of operand) ≡ Ok x → number env read (number_of l.operand) ≡ Ok y
      → IfSome given (λ v. operate l.operator (to_z w64 (of_z w64 x)) (to_z w64 (of_z w64 y)) ≡ Ok v)
      → FitsSigned w64 x → FitsSigned w64 y → IfSome given (λ v. number env read (number_of n) ≡ Ok v)
  pair_value n operand slice x y given is all only same left right applied x_fits y_fits =
      IfSome_then given applied (λ v h. ap (λ n. number env read (number_of n)) is
      ∙ pair x y v (sym all ∙ only) (ap (λ n. number env read (number_of n)) (sym same) ∙ left) right
      (ap (λ x. operate l.operator x y) (sym (to_z-of_z w64 x x_fits))
      ∙ ap (operate l.operator _) (sym (to_z-of_z w64 y y_fits)) ∙ h))
