-- The part of a name before its ending.
use Rattle.std.proofs.Common.{◌≡◌, ◌≢◌, ℕ, ◌+◌, ◌-◌, List, [], ◌∷◌, ◌++◌, length, take, drop, Option, Some, None, Bor}
use Rattle.std.proofs.Common.{refl, sym, ap, ◌∙◌, arith, codes}
use Rattle.std.proofs.Math.Seq.{drop-append_seam, take-append_seam}
use Rattle.std.proofs.lemmas.List.{length-append, take-append-drop}
use Rattle.std.proofs.lemmas.Slice.Eq.{bytes_eq-Decides}
use Rattle.std.specs.Prelude.{Bool, true, false, if◌then◌else◌, MatchOption}
use Rattle.std.specs.Str.{bytes_eq}
use Rattle.std.specs.Str.Pattern.{FindsTextSuffix, StripsSuffix}
use Rattle.test_and_bench.specs.Listing.{stem}

-- the part before the last bytes of a name, if these are the ending
abbrev stem_by : (n : ℕ) → (name : List ℕ) → List (List ℕ)
stem_by n name = if bytes_eq (drop n name) (codes ".afx") then take n name ∷ [] else []

four_less : (n : ℕ) → n + 4 - 4 ≡ n
four_less n = omega arith

ending_length : (x : List ℕ) → length (x ++ codes ".afx") - 4 ≡ length x
ending_length x = ap (λ (n : ℕ). n - 4) (length-append x (codes ".afx")) ∙ four_less (length x)

stem_before : (x : List ℕ) → stem (x ++ codes ".afx") ≡ x ∷ []
stem_before x =
    let name = x ++ codes ".afx" in
    ap (λ (n : ℕ). stem_by n name) (ending_length x)
    ∙ ap (λ (t : List ℕ). if bytes_eq t (codes ".afx") then take (length x) name ∷ [] else []) (drop-append_seam x (codes ".afx"))
    ∙ ap (λ (t : List ℕ). t ∷ []) (take-append_seam x (codes ".afx"))

no_ending : (n : ℕ) (name : List ℕ) → ((front : List ℕ) → name ≢ front ++ codes ".afx") → (b : Bool)
    → bytes_eq (drop n name) (codes ".afx") ≡ b → (if b then take n name ∷ [] else []) ≡ (let empty : List (List ℕ) = [] in empty)
no_ending n name lacks true is =
    absurd (lacks (take n name) (sym (take-append-drop n name)
    ∙ ap (λ (t : List ℕ). take n name ++ t) ((bytes_eq-Decides (drop n name) (codes ".afx")).0 is)))
no_ending n name lacks false is = refl

-- a name with the ending is what comes before it, and the ending
pub ending_found : (name x : List ℕ) → StripsSuffix (FindsTextSuffix (codes ".afx")) name x → name ≡ x ++ codes ".afx"
ending_found name x found = found.1.1 ∙ ap (λ (t : List ℕ). t ++ codes ".afx") (sym found.2)

-- what `strip_suffix` returns for a name
pub stem_stripped : (name : List ℕ) (r : Option (Bor (List ℕ)))
    → MatchOption r (FindsTextSuffix (codes ".afx") name None) (λ x. StripsSuffix (FindsTextSuffix (codes ".afx")) name x.now)
    → MatchOption r (stem name ≡ []) (λ s. stem name ≡ s.now ∷ [])
stem_stripped name None none =
    no_ending (length name - 4) name none (bytes_eq (drop (length name - 4) name) (codes ".afx")) refl
stem_stripped name (Some x) found =
    let whole : name ≡ x.now ++ codes ".afx" = found.1.1 ∙ ap (λ (t : List ℕ). t ++ codes ".afx") (sym found.2) in
    ap stem whole ∙ stem_before x.now
