-- The first numbers of an array, as a list.
use Rattle.std.proofs.Common.{◌≡◌, ℕ, suc, ◌+◌, ◌<◌, List, [], ◌∷◌, ◌++◌, length, get_or, take, drop, replicate}
use Rattle.std.proofs.Common.{refl, ap, ◌∙◌, arith}
use Rattle.std.proofs.lemmas.List.{append-nil, get_or-replicate, take_all, drop_all}
use Rattle.std.specs.Prelude.{ℤ, pos, unwrap_or}
use Rattle.types.specs.Contents.{Contents, read, row}

row_is : (c : Contents) (a at : ℕ) (xs : List ℤ)
    → ((k : ℕ) → k < length xs → get_or xs k (pos 0) ≡ read c (record { array = a; index = at + k })) → xs ≡ row c a at (length xs)
row_is c a at [] h = refl
row_is c a at (x ∷ xs) h =
    let z : at + 0 ≡ at = omega arith in
    let first : x ≡ read c (record { array = a; index = at }) =
    h 0 (omega arith) ∙ ap (λ j. read c (record { array = a; index = j })) z in
    let rest = row_is c a (at + 1) xs
    (λ k lt. let s : at + suc k ≡ at + 1 + k = omega arith in
    h (suc k) (omega (arith, lt)) ∙ ap (λ j. read c (record { array = a; index = j })) s) in
    ap (λ y. y ∷ xs) first ∙ ap (λ ys. read c (record { array = a; index = at }) ∷ ys) rest

-- what a list is after a write through a borrow of the whole list
pub written_back : (n : ℕ) (xs ys : List ℤ) → length xs ≡ n → length ys ≡ n → take n (ys ++ drop (length ys) xs) ≡ ys
written_back n xs ys l k =
    let none : drop (length ys) xs ≡ [] = drop_all (length ys) xs (omega (arith, l, k)) in
    ap (λ zs. take n (ys ++ zs)) none ∙ ap (take n) (append-nil ys) ∙ take_all n ys (omega (arith, k))

-- zeros to which the numbers of an array were copied
pub row-copied : (c : Contents) (a n : ℕ) (zeros new : List ℤ) → zeros ≡ replicate n (pos 0) → length zeros ≡ n → length new ≡ n
    → ((k : ℕ) → k < length zeros → get_or new k (pos 0) ≡ unwrap_or (c (record { array = a; index = k })) (get_or zeros k (pos 0)))
    → new ≡ row c a 0 n
row-copied c a n zeros new all long same copied =
    row_is c a 0 new (λ k lt. at_place k (omega (arith, lt, same))) ∙ ap (row c a 0) same
  where
    at_place : (k : ℕ) → k < n → get_or new k (pos 0) ≡ read c (record { array = a; index = 0 + k })
    at_place k lt =
        let z : k ≡ 0 + k = omega arith in
        let zero : get_or zeros k (pos 0) ≡ pos 0 =
        ap (λ xs. get_or xs k (pos 0)) all ∙ get_or-replicate n k (pos 0) (pos 0) lt in
        copied k (omega (arith, long, lt))
        ∙ ap (unwrap_or (c (record { array = a; index = k }))) zero
        ∙ ap (λ j. read c (record { array = a; index = j })) z
