-- The line and the column after one more character.
use Rattle.std.proofs.Common.{◌≡◌, ℕ, ◌+◌, ◌<◌, Bool, true, false, cond, ◌==◌, List, [], ◌∷◌, ◌++◌, take, length}
use Rattle.std.proofs.Common.{get_or, reverse, ap, sym, ◌∙◌, arith}
use Rattle.std.specs.List.{prefix_len}
use Rattle.std.proofs.lemmas.List.{reverse-append, take_more}
use Rattle.std.proofs.lemmas.List.Sums.{count_by_more_yes, count_by_more_no}
use Rattle.std.proofs.lemmas.Bool.{eq-eqb, ne_eqb, not_from_true, not_from_false}
use Rattle.syntax.specs.declared.place.TextPlace.{TextPlace}
use Rattle.syntax.specs.Lexical.{is_in_line}
use Rattle.syntax.specs.Place.{line_behind, column_behind, place_at}

column_push : (before : List ℕ) (c : ℕ) (b : Bool) → is_in_line c ≡ b
    → column_behind (before ++ c ∷ []) ≡ cond b (column_behind before + 1) 1
column_push before c true e =
    ap (λ l. prefix_len is_in_line l + 1) (reverse-append before (c ∷ []))
    ∙ ap (λ b. cond b (1 + prefix_len is_in_line (reverse before)) 0 + 1) e ∙ omega arith
column_push before c false e =
    ap (λ l. prefix_len is_in_line l + 1) (reverse-append before (c ∷ []))
    ∙ ap (λ b. cond b (1 + prefix_len is_in_line (reverse before)) 0 + 1) e ∙ omega arith

module _ (text : List ℕ) (i c : ℕ) (within : i < length text) (there : get_or text i 0 ≡ c) where
  column_step : (b : Bool) → is_in_line c ≡ b → column_behind (take (i + 1) text) ≡ cond b (column_behind (take i text) + 1) 1
  column_step b e = ap column_behind (take_more text i 0 within) ∙ column_push (take i text) (get_or text i 0) b (ap is_in_line there ∙ e)

  pub line_at_feed : c ≡ 10 → line_behind (take (i + 1) text) ≡ line_behind (take i text) + 1
  line_at_feed e = ap (λ n. n + 1) (count_by_more_yes (λ c. c == 10) text i 0 within (eq-eqb _ _ (there ∙ e)))

  pub column_at_feed : c ≡ 10 → column_behind (take (i + 1) text) ≡ 1
  column_at_feed e = column_step false (not_from_true (c == 10) (eq-eqb _ _ e))

  pub line_at_other : (c ≡ 10 → ⊥) → line_behind (take (i + 1) text) ≡ line_behind (take i text)
  line_at_other e = ap (λ n. n + 1) (count_by_more_no (λ c. c == 10) text i 0 within (ne_eqb _ _ (λ f. e (sym there ∙ f))))

  pub column_at_other : (c ≡ 10 → ⊥) → column_behind (take (i + 1) text) ≡ column_behind (take i text) + 1
  column_at_other e = column_step true (not_from_false (c == 10) (ne_eqb _ _ e))

abbrev place : ℕ → ℕ → TextPlace
place line column = record { line = line; column = column }

-- equal prefixes of a text give equal positions after them
pub is_place : (text : List ℕ) (i at line column : ℕ) → line ≡ line_behind (take i text)
    → column ≡ column_behind (take i text) → take i text ≡ take at text → place line column ≡ place_at text at
is_place text i at line column line_is column_is same =
    ap (λ n. place n column) (line_is ∙ ap line_behind same) ∙ ap (place (line_behind (take at text))) (column_is ∙ ap column_behind same)
