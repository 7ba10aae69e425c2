-- The lines of a text as words, one after the other.
use Rattle.std.proofs.Common.{◌≡◌, ℕ, ◌+◌, ◌<◌, List, [], ◌∷◌, ◌++◌, length, map, drop, get_or, String, Global, sym}
use Rattle.std.proofs.Common.{ap, ◌∙◌, append_assoc}
use Rattle.std.proofs.lemmas.List.{drop_more, map-append}
use Rattle.std.specs.Borrow.{Bor}
use Rattle.std.specs.String.{string_bytes}

abbrev pub shown : Bor (List ℕ) → List ℕ
shown s = s.now

-- one more word: the words so far, and the lines that are left
pub one_more_word : (items : List (Bor (List ℕ))) (i : ℕ) (d : Bor (List ℕ)) (w : String Global)
    (old new : List (String Global)) (all : List (List ℕ)) → i < length items
    → string_bytes w ≡ (get_or items i d).now → new ≡ old ++ w ∷ []
    → map string_bytes old ++ map shown (drop i items) ≡ all
    → map string_bytes new ++ map shown (drop (i + 1) items) ≡ all
one_more_word items i d w old new all within is new_is so_far =
    let rest = map shown (drop (i + 1) items) in
    ap (λ (ws : List (String Global)). map string_bytes ws ++ rest) new_is
    ∙ ap (λ (ls : List (List ℕ)). ls ++ rest) (map-append string_bytes old (w ∷ []))
    ∙ append_assoc (map string_bytes old) (string_bytes w ∷ []) rest
    ∙ ap (λ (l : List ℕ). map string_bytes old ++ l ∷ rest) is
    ∙ ap (λ (ls : List (List ℕ)). map string_bytes old ++ ls) (sym (ap (map shown) (drop_more items i d within)))
    ∙ so_far
