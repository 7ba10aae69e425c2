use Rattle.std.proofs.Common.{◌≡◌, List, [], ◌∷◌, Some, ap}
use Rattle.std.specs.List.{slice_get}
use Rattle.syntax.specs.declared.token.Spanned.{Spanned}
use Rattle.syntax.specs.Token.{Token, token, plain}
use Rattle.syntax.proofs.cursor.peek.Goals as goal

plain-first : (ts : List Spanned) (first : Spanned) → Some first ≡ slice_get ts 0
    → (rest : List Token) × (plain ts ≡ token first.token ∷ rest)
plain-first [] first is = cc
plain-first (t ∷ ts) first is =
    let same : t ≡ first = cc in (plain ts, ap (λ s. token s.token ∷ plain ts) same)

pub returns-in-Some-clause-found : goal.returns-in-Some-clause-found
returns-in-Some-clause-found c = plain-first _ c.in-Some.first.now c.in-Some.ensures.value
