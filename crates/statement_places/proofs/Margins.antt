-- Numbers that are padded, and lines one after the other.
use Rattle.std.proofs.Common.{◌≡◌, ℕ, replicate, ◌+◌, ◌-◌, ◌<◌, List, [], ◌∷◌, ◌++◌, length, map, get_or, drop, Bor}
use Rattle.std.proofs.Common.{arith, ap, sym, ◌∙◌, append_assoc}
use Rattle.std.specs.Fmt.{char_count, decimal, format_spec, styled_decimal, padded_integral}
use Rattle.std.specs.List.{repeat}
use Rattle.std.proofs.lemmas.List.{append_cancel_right, drop-map, drop_more}
use Rattle.shared_lemmas.proofs.Lists.{spaces}
use Rattle.syntax.proofs.LineText.{label_padded}
use Rattle.syntax.specs.declared.place.TextPlace.{TextPlace}
use Rattle.statement_places.specs.Lines.{has_label, left_behind, place_margin, placed_line, placed_lines}

-- a number right-aligned in five columns
pub right_padded : (n : ℕ) → styled_decimal (format_spec 32 3 0 5 18446744073709551615) n
    ≡ replicate (5 - length (decimal n)) 32 ++ decimal n
right_padded n =
    let padding = replicate (5 - length (decimal n)) 32 in
    append_cancel_right _ _ (32 ∷ []) (label_padded n ∙ sym (append_assoc padding (decimal n) (32 ∷ [])))

left_shape : (p k : ℕ) (digits : List ℕ) → p ≡ k → digits ++ repeat {A = ℕ} p (32 ∷ []) ≡ digits ++ replicate k 32
left_shape p k digits e = ap (λ l. digits ++ l) (spaces p ∙ ap (λ m. replicate m 32) e)

-- a number left-aligned in four columns
pub left_padded : (n : ℕ) → styled_decimal (format_spec 32 1 0 4 18446744073709551615) n
    ≡ decimal n ++ replicate (4 - length (decimal n)) 32
unfolding padded_integral char_count lib.Utf8.encode
left_padded n = left_shape (4 - length (decimal n) - 0 - 0 - 0) (4 - length (decimal n)) (decimal n) (omega arith)

-- the text of a place
pub margin_padded : (p : TextPlace) (line column : List ℕ) → line ≡ replicate (5 - length (decimal p.line)) 32 ++ decimal p.line
    → column ≡ decimal p.column ++ replicate (4 - length (decimal p.column)) 32 → line ++ (58 ∷ column) ≡ place_margin p
margin_padded p line column line_is column_is =
    ap (λ l. l ++ (58 ∷ column)) line_is
    ∙ ap (λ l. (replicate (5 - length (decimal p.line)) 32 ++ decimal p.line) ++ (58 ∷ l)) column_is

-- one more line: what was written, and what the remaining lines will give
pub one_more_placed : (items : List (Bor (List ℕ))) (i : ℕ) (d : Bor (List ℕ)) (line : List ℕ) (places left : List TextPlace)
    (done written all : List ℕ) → i < length items → line ≡ (get_or items i d).now
    → left ≡ left_behind (has_label line) places → written ≡ done ++ placed_line places line
    → done ++ placed_lines places (drop i (map (λ s. s.now) items)) ≡ all
    → written ++ placed_lines left (drop (i + 1) (map (λ s. s.now) items)) ≡ all
one_more_placed items i d line places left done written all within is left_is written_is so_far =
    let now : Bor (List ℕ) → List ℕ = λ s. s.now in
    let behind = drop (i + 1) (map now items) in
    let parts : drop i (map now items) ≡ line ∷ behind =
    drop-map now i items ∙ ap (map now) (drop_more items i d within)
    ∙ ap (λ (l : List ℕ). l ∷ map now (drop (i + 1) items)) (sym is)
    ∙ ap (λ (l : List (List ℕ)). line ∷ l) (sym (drop-map now (i + 1) items)) in
    ap (λ (l : List ℕ). l ++ placed_lines left behind) written_is
    ∙ ap (λ (l : List TextPlace). (done ++ placed_line places line) ++ placed_lines l behind) left_is
    ∙ append_assoc done (placed_line places line) (placed_lines (left_behind (has_label line) places) behind)
    ∙ ap (λ (l : List (List ℕ)). done ++ placed_lines places l) (sym parts)
    ∙ so_far
