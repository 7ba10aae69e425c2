-- How lists of arrays, parameters and procedures are spelled, with one more item after them.
use Rattle.std.proofs.Common.{◌≡◌, ◌<◌, List, [], ◌∷◌, ◌++◌, length, map, refl, ap, ◌∙◌, arith}
use Rattle.syntax_tree.specs.declared.tree.Array.{Array as rArray}
use Rattle.syntax_tree.specs.declared.tree.Parameter.{Parameter as rParameter}
use Rattle.syntax_tree.specs.declared.tree.Procedure.{Procedure as rProcedure}
use Rattle.syntax.specs.declared.token.Spanned.{Spanned}
use Rattle.syntax.specs.declared.token.Word.TheVariants.{Array as WordArray, Proc as WordProc}
use Rattle.syntax.specs.declared.token.Mark.TheVariants.{Comma}
use Rattle.syntax.specs.Token.{Token, WordToken, MarkToken, plain}
use Rattle.syntax_tree.specs.Tree.{array, parameter, procedure}
use Rattle.syntax.specs.Spelling.{arrays_then, parameter_then, parameters_then, more_parameters_then, procedures_then}
use Rattle.syntax.proofs.ChainLemmas.{behind, read_more}

pub plain_none : (ts : List Spanned) → length ts ≡ 0 → plain ts ≡ []
plain_none [] e = refl
plain_none (t ∷ ts) e = absurd (omega (arith, e))

arrays_then-push : (xs : List rArray) (x : rArray) (r : List Token)
    → arrays_then (map array (xs ++ x ∷ [])) r ≡ arrays_then (map array xs) (arrays_then (array x ∷ []) r)
unfolding arrays_then
arrays_then-push [] x r = refl
arrays_then-push (y ∷ xs) x r = ap (arrays_then (array y ∷ [])) (arrays_then-push xs x r)

procedures_then-push : (xs : List rProcedure) (x : rProcedure) (r : List Token)
    → procedures_then (map procedure (xs ++ x ∷ [])) r ≡ procedures_then (map procedure xs)
    (procedures_then (procedure x ∷ []) r)
unfolding procedures_then
procedures_then-push [] x r = refl
procedures_then-push (y ∷ xs) x r = ap (procedures_then (procedure y ∷ [])) (procedures_then-push xs x r)

more_parameters_then-push : (xs : List rParameter) (x : rParameter) (r : List Token)
    → more_parameters_then (map parameter (xs ++ x ∷ [])) r ≡ more_parameters_then (map parameter xs)
    (MarkToken Comma ∷ parameter_then (parameter x) r)
unfolding more_parameters_then
more_parameters_then-push [] x r = refl
more_parameters_then-push (y ∷ xs) x r = ap (λ l. MarkToken Comma ∷ parameter_then (parameter y) l) (more_parameters_then-push xs x r)

parameters_then-push : (xs : List rParameter) (x : rParameter) (r : List Token) → 0 < length xs
    → parameters_then (map parameter (xs ++ x ∷ [])) r ≡ parameters_then (map parameter xs)
    (MarkToken Comma ∷ parameter_then (parameter x) r)
unfolding parameters_then
parameters_then-push [] x r some = absurd (omega (arith, some))
parameters_then-push (y ∷ xs) x r some = ap (parameter_then (parameter y)) (more_parameters_then-push xs x r)

pub parameters_then-one : (x : rParameter) (r : List Token) → parameter_then (parameter x) r ≡ parameters_then (map parameter (x ∷ [])) r
unfolding parameters_then more_parameters_then
parameters_then-one x r = refl

-- One more item was read and added to the others.
module _ (ts before after r : List Token) where
  pub arrays_read : (xs ys : List rArray) (x : rArray) → ts ≡ arrays_then (map array xs) before
      → before ≡ WordToken WordArray ∷ after → WordToken WordArray ∷ after ≡ arrays_then (array x ∷ []) r
      → ys ≡ xs ++ x ∷ [] → ts ≡ arrays_then (map array ys) r
  arrays_read xs ys x spelled word one pushed =
      read_more (λ l. arrays_then (map array l)) xs x r spelled (word ∙ one) (arrays_then-push xs x r) pushed

  pub procedures_read : (xs ys : List rProcedure) (x : rProcedure) → ts ≡ procedures_then (map procedure xs) before
      → before ≡ WordToken WordProc ∷ after → WordToken WordProc ∷ after ≡ procedures_then (procedure x ∷ []) r
      → ys ≡ xs ++ x ∷ [] → ts ≡ procedures_then (map procedure ys) r
  procedures_read xs ys x spelled word one pushed =
      read_more (λ l. procedures_then (map procedure l)) xs x r spelled (word ∙ one) (procedures_then-push xs x r) pushed

  pub parameters_read : (xs ys : List rParameter) (x : rParameter) → 0 < length xs
      → ts ≡ parameters_then (map parameter xs) before → before ≡ MarkToken Comma ∷ after
      → after ≡ parameter_then (parameter x) r → ys ≡ xs ++ x ∷ [] → ts ≡ parameters_then (map parameter ys) r
  parameters_read xs ys x some spelled comma one pushed =
      read_more (λ l. parameters_then (map parameter l)) xs x r spelled (comma ∙ behind one)
      (parameters_then-push xs x r some) pushed
