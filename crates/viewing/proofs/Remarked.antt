-- Lines with remarks.
use Rattle.std.proofs.Common.{◌≡◌, ℕ, ◌+◌, ◌<◌, List, ◌∷◌, ◌++◌, [], length, map, drop, get_or, sym, ap, ◌∙◌, append_assoc}
use Rattle.std.proofs.lemmas.List.{drop_more}
use Rattle.std.specs.Borrow.{Bor}
use Rattle.viewing.specs.Views.{remarked}

abbrev pub shown : Bor (List ℕ) → List ℕ
shown s = s.now

-- one more line: what was written, and the lines that are left
pub one_more_remarked : (remark : ℕ → List ℕ) (items : List (Bor (List ℕ))) (i : ℕ) (d : Bor (List ℕ))
    (line said done written all : List ℕ) → i < length items → line ≡ (get_or items i d).now → said ≡ remark i
    → written ≡ done ++ (line ++ (said ++ (10 ∷ []))) → done ++ remarked remark i (map shown (drop i items)) ≡ all
    → written ++ remarked remark (i + 1) (map shown (drop (i + 1) items)) ≡ all
one_more_remarked remark items i d line said done written all within is says written_is so_far =
    let behind = map shown (drop (i + 1) items) in
    let parts : map shown (drop i items) ≡ line ∷ behind =
    ap (map shown) (drop_more items i d within) ∙ ap (λ (l : List ℕ). l ∷ behind) (sym is) in
    ap (λ (l : List ℕ). l ++ remarked remark (i + 1) behind)
    (written_is ∙ ap (λ (s : List ℕ). done ++ (line ++ (s ++ (10 ∷ [])))) says)
    ∙ append_assoc done (line ++ (remark i ++ (10 ∷ []))) (remarked remark (i + 1) behind)
    ∙ ap (λ (l : List (List ℕ)). done ++ remarked remark i l) (sym parts)
    ∙ so_far
