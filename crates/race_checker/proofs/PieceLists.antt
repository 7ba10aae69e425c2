-- Accesses to the piece of a `parts`, and the others, as lists.
use Rattle.std.proofs.Common.{◌≡◌, ℕ, ◌<◌, List, [], ◌∷◌, map, refl, sym, ap, subst, All}
use Rattle.std.proofs.lemmas.List.Elements.{All-filter}
use Rattle.std.specs.List.{filter}
use Rattle.std.specs.Prelude.{Bool, true, false, nat_eq, not, if◌then◌else◌}
use Rattle.effects.specs.Accesses.{Access}
use Rattle.effects.specs.Translation.{access}
use Rattle.effects.specs.declared.access.Access.{Access as rAccess}
use Rattle.race_checker.specs.Found.{in_piece, elsewhere}

-- fewer accesses still name sections of the procedure
pub fewer_below : (n : ℕ) (keeps : rAccess → Bool) (xs ys : List rAccess) → ys ≡ filter keeps xs
    → All (λ (x : rAccess). x.section.number < n) xs → All (λ (x : rAccess). x.section.number < n) ys
fewer_below n keeps xs ys is below =
    subst (All (λ (x : rAccess). x.section.number < n)) (sym is)
    (All-filter keeps (λ (x : rAccess). x.section.number < n) xs below)

-- a test of the plain access
kept_plain : (keeps : Access → Bool) (xs : List rAccess)
    → map access (filter (λ (x : rAccess). keeps (access x)) xs) ≡ filter keeps (map access xs)
kept_plain keeps [] = refl
kept_plain keeps (x ∷ xs) = by (keeps (access x)) (kept_plain keeps xs)
  where
    by : (kept : Bool) → map access (filter (λ (z : rAccess). keeps (access z)) xs) ≡ filter keeps (map access xs)
        → map access (if kept then x ∷ filter (λ (z : rAccess). keeps (access z)) xs else filter (λ (z : rAccess). keeps (access z)) xs)
        ≡ (if kept then access x ∷ filter keeps (map access xs) else filter keeps (map access xs))
    by true e = ap (λ (ys : List Access). access x ∷ ys) e
    by false e = e

pub piece_plain : (q : ℕ) (xs ys : List rAccess) → ys ≡ filter (λ (x : rAccess). nat_eq x.section.number q) xs
    → map access ys ≡ in_piece q (map access xs)
piece_plain q xs ys is = subst (λ (ys : List rAccess). map access ys ≡ in_piece q (map access xs)) (sym is) (kept_plain (λ x. nat_eq x.section q) xs)

pub others_plain : (q : ℕ) (xs ys : List rAccess) → ys ≡ filter (λ (x : rAccess). not (nat_eq x.section.number q)) xs
    → map access ys ≡ elsewhere q (map access xs)
others_plain q xs ys is = subst (λ (ys : List rAccess). map access ys ≡ elsewhere q (map access xs)) (sym is) (kept_plain (λ x. not (nat_eq x.section q)) xs)
