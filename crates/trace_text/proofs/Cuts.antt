-- Texts that are cut at the first occurrence of a byte, and the pieces of a path.
use Rattle.std.proofs.Common.{◌≡◌, ℕ, zero, suc, ◌<◌, List, [], ◌∷◌, ◌++◌, Option, Some, None, Bor}
use Rattle.std.proofs.Common.{refl, ap, ap₂, sym, subst, ◌∙◌, arith, append-nil, codes}
use Rattle.std.specs.Prelude.{IsSomeAnd, MatchOption, drop}
use Rattle.std.specs.Str.Pattern.{FindsTextPrefix, StripsPrefix}
use Rattle.std.proofs.lemmas.List.{append_cancel_left}
use Rattle.std.specs.Fmt.{decimal}
use Rattle.std.proofs.lemmas.Str.Pattern.{IsSplitOnceResult, split_parts}
use Rattle.types.specs.Names.{path_text}
use Rattle.trace_text.specs.Spelled.{IsCut, IsCutAt, Lacks}
use Rattle.trace_text.proofs.Marks.{Lacks-number, turns_text}

-- the result of `split_once` at a character
pub cut_found : (c : ℕ) (text : List ℕ) (r : Option (Bor (List ℕ) × Bor (List ℕ))) → IsSplitOnceResult c text r → c < 128
    → MatchOption r (Lacks c text) (λ x. IsCutAt c x.0.now x.1.now text)
cut_found c text None h small = split_parts c text None h small
cut_found c text (Some x) h small =
    let p = split_parts c text (Some x) h small in
    record { parts = p.0; first = p.1 }

-- the result of `strip_prefix` at a text
pub front_stripped : (front text : List ℕ) (r : Option (Bor (List ℕ)))
    → MatchOption r (FindsTextPrefix front text None) (λ x. StripsPrefix (FindsTextPrefix front) text x.now)
    → (more : List ℕ) → text ≡ front ++ more → IsSomeAnd r (λ x. x.now ≡ more)
front_stripped front text None h more same = h more same
front_stripped front text (Some x) h more same =
    h.2 ∙ sym (append_cancel_left front more (drop h.0 text) (sym same ∙ h.1.1))

-- ---- a text has one such cut
lacks_tail : (c x : ℕ) (xs : List ℕ) → Lacks c (x ∷ xs) → Lacks c xs
lacks_tail c x xs h i within = h (suc i) (omega arith)

not_first : (c x : ℕ) (xs : List ℕ) → Lacks c (x ∷ xs) → x ≡ c → ⊥
not_first c x xs h = h 0 (omega arith)

pub one_cut : (c : ℕ) (a b x y : List ℕ) → Lacks c a → Lacks c x → a ++ (c ∷ b) ≡ x ++ (c ∷ y) → (a ≡ x) × (b ≡ y)
one_cut c [] b [] y la lx e = let tails : b ≡ y = cc in (refl, tails)
one_cut c [] b (x ∷ xs) y la lx e = let head : x ≡ c = cc in absurd (not_first c x xs lx head)
one_cut c (a ∷ more) b [] y la lx e = let head : a ≡ c = cc in absurd (not_first c a more la head)
one_cut c (a ∷ more) b (x ∷ xs) y la lx e =
    let heads : a ≡ x = cc in
    let tails : more ++ (c ∷ b) ≡ xs ++ (c ∷ y) = cc in
    let rest = one_cut c more b xs y (lacks_tail c a more la) (lacks_tail c x xs lx) tails in
    (ap₂ (λ (h : ℕ) (t : List ℕ). h ∷ t) heads rest.0, rest.1)

-- a text in which a byte occurs doesn't lack it
pub not_lacking : (c : ℕ) (a b : List ℕ) → Lacks c (a ++ (c ∷ b)) → ⊥
not_lacking c [] b h = not_first c c b h refl
not_lacking c (a ∷ more) b h = not_lacking c more b (lacks_tail c a (more ++ (c ∷ b)) h)

-- therefore a known way to cut a text is the only one
pub cut_given : (c : ℕ) (text : List ℕ) (r : Option (Bor (List ℕ) × Bor (List ℕ)))
    → MatchOption r (Lacks c text) (λ x. IsCutAt c x.0.now x.1.now text) → (piece behind : List ℕ) → Lacks c piece
    → text ≡ piece ++ (c ∷ behind) → IsSomeAnd r (λ x. (x.0.now ≡ piece) × (x.1.now ≡ behind))
cut_given c text None h piece behind lacks same = not_lacking c piece behind (subst (Lacks c) same h)
cut_given c text (Some x) h piece behind lacks same =
    one_cut c x.0.now x.1.now piece behind h.first lacks (sym h.parts ∙ same)

-- ---- the pieces of a path
-- what is left after a piece and its dot, if turns are left
abbrev pub left_text : List ℕ → Option (List ℕ)
left_text [] = None
left_text (n ∷ ns) = Some (decimal n ++ turns_text ns)

pub piece_is : (piece : List ℕ) (behind : Option (List ℕ)) (text front left : List ℕ) → Lacks 46 front
    → text ≡ front ++ turns_text left → IsCut piece behind text
    → (piece ≡ front) × (behind ≡ left_text left)
piece_is piece None text front [] lacks same cut = (cut.0 ∙ same ∙ append-nil front, refl)
piece_is piece None text front (n ∷ ns) lacks same cut =
    absurd (not_lacking 46 front (decimal n ++ turns_text ns) (subst (Lacks 46) (cut.0 ∙ same) cut.1))
piece_is piece (Some behind) text front [] lacks same cut =
    absurd (not_lacking 46 piece behind (subst (Lacks 46) (sym (append-nil front) ∙ sym same ∙ cut.parts) lacks))
piece_is piece (Some behind) text front (n ∷ ns) lacks same cut =
    let both = one_cut 46 piece behind front (decimal n ++ turns_text ns) cut.first lacks (sym cut.parts ∙ same) in
    (both.0, ap Some both.1)

pub root_lacks : Lacks 46 (codes "0")
root_lacks zero within e = let h : 48 ≡ 46 = e in omega arith
root_lacks (suc i) within e = let w : suc i < 1 = within in omega arith

-- the first piece of a path, and what is left
pub root_is : (piece : List ℕ) (behind : Option (List ℕ)) (text turns : List ℕ) → text ≡ path_text turns
    → IsCut piece behind text → (piece ≡ codes "0") × (behind ≡ left_text turns)
root_is piece behind text turns same cut = piece_is piece behind text (codes "0") turns root_lacks same cut

-- the next one
pub turn_is : (piece : List ℕ) (behind : Option (List ℕ)) (text : List ℕ) (n : ℕ) (ns : List ℕ)
    → text ≡ decimal n ++ turns_text ns → IsCut piece behind text
    → (piece ≡ decimal n) × (behind ≡ left_text ns)
turn_is piece behind text n ns same cut = piece_is piece behind text (decimal n) ns (Lacks-number n) same cut
