-- Characters without the whitespace at their end.
use Rattle.std.proofs.Common.{◌≡◌, ℕ, Bool, true, false, if◌then◌else◌, ◌&&◌, List, [], ◌∷◌, ◌++◌, refl, ap, sym, ◌∙◌}
use Rattle.std.specs.List.{list_all}
use Rattle.std.proofs.lemmas.Bool.{and_parts}
use Rattle.std.proofs.lemmas.List.Folds.{list_all-append}
use Rattle.syntax.specs.Lexical.{is_blank}
use Rattle.layout.specs.Laid.{trimmed}

and-true : (b : Bool) → (b && (true && true)) ≡ b
and-true true = refl
and-true false = refl

and-false : (b : Bool) → (b && (false && true)) ≡ false
and-false true = refl
and-false false = refl

-- whitespace at the end is removed
pub trimmed-blank : (cs : List ℕ) (c : ℕ) → is_blank c ≡ true → trimmed (cs ++ c ∷ []) ≡ trimmed cs
trimmed-blank [] c e = ap (λ b. if b && true then [] else c ∷ []) e
trimmed-blank (d ∷ ds) c e =
    let all : list_all is_blank ((d ∷ ds) ++ c ∷ []) ≡ list_all is_blank (d ∷ ds) =
    list_all-append is_blank (d ∷ ds) (c ∷ []) ∙ ap (λ b. list_all is_blank (d ∷ ds) && (b && true)) e
    ∙ and-true (list_all is_blank (d ∷ ds))
    in
    ap (λ b. if b then [] else d ∷ trimmed (ds ++ c ∷ [])) all
    ∙ ap (λ l. if list_all is_blank (d ∷ ds) then [] else d ∷ l) (trimmed-blank ds c e)

-- what ends with another character is unchanged
pub trimmed-kept : (cs : List ℕ) (c : ℕ) → is_blank c ≡ false → trimmed (cs ++ c ∷ []) ≡ cs ++ c ∷ []
trimmed-kept [] c e = ap (λ b. if b && true then [] else c ∷ []) e
trimmed-kept (d ∷ ds) c e =
    let all : list_all is_blank ((d ∷ ds) ++ c ∷ []) ≡ false =
    list_all-append is_blank (d ∷ ds) (c ∷ []) ∙ ap (λ b. list_all is_blank (d ∷ ds) && (b && true)) e
    ∙ and-false (list_all is_blank (d ∷ ds))
    in
    ap (λ b. if b then [] else d ∷ trimmed (ds ++ c ∷ [])) all ∙ ap (λ l. d ∷ l) (trimmed-kept ds c e)

all_more : (c : ℕ) (cs : List ℕ) (b : Bool) → list_all is_blank (c ∷ cs) ≡ b → list_all is_blank (trimmed cs) ≡ list_all is_blank cs
    → list_all is_blank (if b then [] else c ∷ trimmed cs) ≡ list_all is_blank (c ∷ cs)
all_more c cs true e same = sym e
all_more c cs false e same = ap (λ b. is_blank c && b) same

-- all that remains is whitespace only if all was
all_blank-trimmed : (cs : List ℕ) → list_all is_blank (trimmed cs) ≡ list_all is_blank cs
all_blank-trimmed [] = refl
all_blank-trimmed (c ∷ cs) = all_more c cs (list_all is_blank (c ∷ cs)) refl (all_blank-trimmed cs)

twice_more : (c : ℕ) (cs : List ℕ) (b : Bool) → list_all is_blank (c ∷ cs) ≡ b → trimmed (trimmed cs) ≡ trimmed cs
    → trimmed (if b then [] else c ∷ trimmed cs) ≡ (if b then [] else c ∷ trimmed cs)
twice_more c cs true e same = refl
twice_more c cs false e same =
    ap (λ b. if is_blank c && b then [] else c ∷ trimmed (trimmed cs)) (all_blank-trimmed cs)
    ∙ ap (λ b. if b then [] else c ∷ trimmed (trimmed cs)) e ∙ ap (λ l. c ∷ l) same

-- nothing more can be removed
pub trimmed-trimmed : (cs : List ℕ) → trimmed (trimmed cs) ≡ trimmed cs
trimmed-trimmed [] = refl
trimmed-trimmed (c ∷ cs) = twice_more c cs (list_all is_blank (c ∷ cs)) refl (trimmed-trimmed cs)

passes_more : (p : ℕ → Bool) (c : ℕ) (cs : List ℕ) (b : Bool) → p c ≡ true → list_all p (trimmed cs) ≡ true
    → list_all p (if b then [] else c ∷ trimmed cs) ≡ true
passes_more p c cs true e all = refl
passes_more p c cs false e all = ap (λ b. b && list_all p (trimmed cs)) e ∙ all

-- what is true of all characters is true of those that remain
pub list_all-trimmed : (p : ℕ → Bool) (cs : List ℕ) → list_all p cs ≡ true → list_all p (trimmed cs) ≡ true
list_all-trimmed p [] all = refl
list_all-trimmed p (c ∷ cs) all =
    let parts = and_parts (p c) (list_all p cs) all in
    passes_more p c cs (list_all is_blank (c ∷ cs)) parts.0 (list_all-trimmed p cs parts.1)
