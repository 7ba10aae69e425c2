-- The test whether an access is among others.
use Rattle.std.proofs.Common.{◌≡◌, ◌<◌, ◌≤◌, ◌+◌, ℕ, List, [], ◌∷◌, length, map, drop, get_or, refl, sym, ap, ◌∙◌, add-one}
use Rattle.std.proofs.Math.Seq.{drop-cons}
use Rattle.std.proofs.lemmas.List.{drop_all}
use Rattle.std.specs.Prelude.{Bool, true, false, flat_map, ◌++◌, ◌||◌}
use Rattle.effects.proofs.Stability.{is_listed}
use Rattle.sections.specs.Member.{Member, first, next}
use Rattle.types.specs.Code.{Primitive, Skip, Assign, Store, Print, Raise}
use Rattle.types.specs.Code.{Code, Do, If, While, Split, Parts, Begun, Call, Async, Finish, Rescue}
use Rattle.types.specs.Indexed.{indexed, indexed_truth}
use Rattle.effects.specs.Accesses.{Access, reads, own_primitive, own_accesses}
use Rattle.effects.specs.Translation.{access}
use Rattle.effects.specs.declared.access.Access.{Access as rAccess}
use Rattle.effects.specs.Rounds.{same_access, lists}

-- a statement's accesses have its label
reads_label : (l : ℕ) (ss : List ℕ) (x : Access) → Member x (reads l ss) → x.label ≡ l
reads_label l [] x m = elim m [ ]
reads_label l (s ∷ ss) x first = refl
reads_label l (s ∷ ss) x (next m) = reads_label l ss x m

primitive_label : (l : ℕ) (s : Primitive) (x : Access) → Member x (own_primitive l s) → x.label ≡ l
primitive_label l Skip x m = elim m [ ]
primitive_label l (Assign v e) x m = reads_label l (indexed e) x m
primitive_label l (Store s i e) x first = refl
primitive_label l (Store s i e) x (next m) = reads_label l (indexed i ++ indexed e) x m
primitive_label l (Print es) x m = reads_label l (flat_map indexed es) x m
primitive_label l (Raise e) x m = reads_label l (indexed e) x m

own_label : (l : ℕ) (s : Code) (x : Access) → Member x (own_accesses l s) → x.label ≡ l
own_label l (Do s) x m = primitive_label l s x m
own_label l (If t b c) x m = reads_label l (indexed_truth t) x m
own_label l (While t b) x m = reads_label l (indexed_truth t) x m
own_label l (Split s e i r b) x m = reads_label l (indexed e) x m
own_label l (Parts s e q i b) x m = reads_label l (indexed e) x m
own_label l (Begun s n k q i b) x m = elim m [ ]
own_label l (Call f es ss) x m = reads_label l (flat_map indexed es) x m
own_label l (Async b) x m = elim m [ ]
own_label l (Finish b) x m = elim m [ ]
own_label l (Rescue b n c) x m = elim m [ ]

-- so accesses with another label are not among them
pub lists_not_other : (l : ℕ) (s : Code) (x : Access) → (l ≡ x.label → ⊥) → false ≡ lists (own_accesses l s) x
lists_not_other l s x differs = by (lists (own_accesses l s) x) refl
  where
    by : (b : Bool) → lists (own_accesses l s) x ≡ b → false ≡ lists (own_accesses l s) x
    by true e = absurd (differs (sym (own_label l s x (is_listed (own_accesses l s) x e))))
    by false e = sym e

-- those from one of them on
from_one : (x : Access) (xs : List rAccess) (i : ℕ) (d : rAccess) → i < length xs
    → lists (map access (drop i xs)) x ≡ (same_access x (access (get_or xs i d)) || lists (map access (drop (i + 1) xs)) x)
from_one x xs i d h =
    ap (λ (ys : List rAccess). lists (map access ys) x)
    (drop-cons xs i d h ∙ ap (λ n. get_or xs i d ∷ drop n xs) (sym (add-one i)))

-- the test of those that remain is the test of all
pub still_left : (x : Access) (xs : List rAccess) (i : ℕ) (d : rAccess) → i < length xs → same_access x (access (get_or xs i d)) ≡ false
    → lists (map access (drop i xs)) x ≡ lists (map access xs) x → lists (map access (drop (i + 1) xs)) x ≡ lists (map access xs) x
still_left x xs i d h differs inv =
    sym (ap (λ t. t || lists (map access (drop (i + 1) xs)) x) differs) ∙ sym (from_one x xs i d h) ∙ inv

pub found_there : (x : Access) (xs : List rAccess) (i : ℕ) (d : rAccess) → i < length xs → same_access x (access (get_or xs i d)) ≡ true
    → lists (map access (drop i xs)) x ≡ lists (map access xs) x → true ≡ lists (map access xs) x
found_there x xs i d h is inv =
    sym (ap (λ t. t || lists (map access (drop (i + 1) xs)) x) is) ∙ sym (from_one x xs i d h) ∙ inv

pub none_left : (x : Access) (xs : List rAccess) (i : ℕ) → length xs ≤ i → lists (map access (drop i xs)) x ≡ lists (map access xs) x
    → false ≡ lists (map access xs) x
none_left x xs i h inv = sym (ap (λ (ys : List rAccess). lists (map access ys) x) (drop_all i xs h)) ∙ inv
