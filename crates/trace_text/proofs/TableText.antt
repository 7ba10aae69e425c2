-- The columns of the table.
use Rattle.std.proofs.Common.{◌≡◌, ℕ, replicate, ◌-◌, List, [], ◌∷◌, ◌++◌, length, Some, None, codes}
use Rattle.std.proofs.Common.{arith, ap, sym, ◌∙◌, append_assoc, append-nil}
use Rattle.std.specs.Fmt.{char_count, decimal, format_spec, styled_decimal, padded_integral}
use Rattle.std.specs.List.{repeat}
use Rattle.shared_lemmas.proofs.Lists.{spaces}
use Rattle.events.specs.Events.{Event}
use Rattle.trace_text.specs.Kinds.{kind_name, kind_of}
use Rattle.trace_text.specs.Table.{column, deed, left_in, right_in, table_line}
use Rattle.trace_text.specs.declared.kind.EventKind.{EventKind}

-- spaces, the empty texts that a format puts around them, and a numeral with nothing after it
right_shape : (p : ℕ) (numeral : List ℕ)
    → (((repeat {A = ℕ} p (32 ∷ []) ++ []) ++ []) ++ []) ++ (numeral ++ repeat {A = ℕ} (p - p) (32 ∷ []))
    ≡ replicate p 32 ++ numeral
right_shape p numeral =
    let fill : List ℕ = repeat p (32 ∷ []) in
    let none : p - p ≡ 0 = omega arith in
    ap (λ m. (((fill ++ []) ++ []) ++ []) ++ (numeral ++ repeat m (32 ∷ []))) none
    ∙ ap (λ l. (((fill ++ []) ++ []) ++ []) ++ l) (append-nil numeral)
    ∙ ap (λ l. l ++ numeral) (append-nil ((fill ++ []) ++ []) ∙ append-nil (fill ++ []) ∙ append-nil fill ∙ spaces p)

right_in_places : (most : ℕ) (numeral : List ℕ)
    → replicate (most - length numeral - 0 - 0) 32 ++ numeral ≡ right_in most numeral
right_in_places most numeral =
    let same : most - length numeral - 0 - 0 ≡ most - length numeral = omega arith in
    ap (λ m. replicate m 32 ++ numeral) same

-- a number right-aligned in two columns, and in eight
pub right_in_two : (n : ℕ) → styled_decimal (format_spec 32 3 0 2 18446744073709551615) n ≡ right_in 2 (decimal n)
unfolding padded_integral char_count lib.Utf8.encode
right_in_two n = right_shape (2 - length (decimal n) - 0 - 0) (decimal n) ∙ right_in_places 2 (decimal n)

pub right_in_eight : (n : ℕ) → styled_decimal (format_spec 32 3 0 8 18446744073709551615) n ≡ right_in 8 (decimal n)
unfolding padded_integral char_count lib.Utf8.encode
right_in_eight n = right_shape (8 - length (decimal n) - 0 - 0) (decimal n) ∙ right_in_places 8 (decimal n)

-- the columns of a worker, and of a theft
pub by_worker : (w : ℕ) (shown path : List ℕ) → shown ≡ right_in 2 (decimal w)
    → shown ++ (codes "    " ++ (path ++ codes "\n")) ≡ column (Some w) ++ (column None ++ (path ++ codes "\n"))
by_worker w shown path is =
    let behind = codes "   " ++ (path ++ codes "\n") in
    ap (λ (l : List ℕ). l ++ (codes " " ++ behind)) is
    ∙ sym (append_assoc (right_in 2 (decimal w)) (codes " ") behind)

pub by_theft : (w f : ℕ) (shown from path : List ℕ) → shown ≡ right_in 2 (decimal w) → from ≡ right_in 2 (decimal f)
    → shown ++ (codes " " ++ (from ++ (codes " " ++ (path ++ codes "\n"))))
    ≡ column (Some w) ++ (column (Some f) ++ (path ++ codes "\n"))
by_theft w f shown from path is from_is =
    let behind = path ++ codes "\n" in
    ap (λ (l : List ℕ). l ++ (codes " " ++ (from ++ (codes " " ++ behind)))) is
    ∙ ap (λ (l : List ℕ). right_in 2 (decimal w) ++ (codes " " ++ (l ++ (codes " " ++ behind)))) from_is
    ∙ ap (λ (l : List ℕ). right_in 2 (decimal w) ++ (codes " " ++ l)) (sym (append_assoc (right_in 2 (decimal f)) (codes " ") behind))
    ∙ sym (append_assoc (right_in 2 (decimal w)) (codes " ") (column (Some f) ++ behind))

-- the whole line
pub row_is : (n : ℕ) (e : Event) (k : EventKind) (old shown name mid new : List ℕ) → shown ≡ right_in 8 (decimal n)
    → name ≡ left_in 9 (kind_name k) → k ≡ kind_of e
    → mid ≡ old ++ (shown ++ (codes " " ++ (name ++ codes " "))) → new ≡ mid ++ deed e
    → new ≡ old ++ table_line n e
row_is n e k old shown name mid new number_is name_is kind mid_is new_is =
    let right = right_in 8 (decimal n) in
    let named = name_is ∙ ap (λ (j : EventKind). left_in 9 (kind_name j)) kind in
    let kind_text = left_in 9 (kind_name (kind_of e)) in
    new_is ∙ ap (λ (l : List ℕ). l ++ deed e) mid_is
    ∙ append_assoc old (shown ++ (codes " " ++ (name ++ codes " "))) (deed e)
    ∙ ap (λ (l : List ℕ). old ++ l) (
    append_assoc shown (codes " " ++ (name ++ codes " ")) (deed e)
    ∙ ap (λ (l : List ℕ). shown ++ (codes " " ++ l)) (append_assoc name (codes " ") (deed e))
    ∙ ap (λ (l : List ℕ). l ++ (codes " " ++ (name ++ (codes " " ++ deed e)))) number_is
    ∙ ap (λ (l : List ℕ). right ++ (codes " " ++ (l ++ (codes " " ++ deed e)))) named
    )
