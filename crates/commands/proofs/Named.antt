-- Lines with statements: those of a listing, those of shares, and those of pairs.
use Rattle.std.proofs.Common.{◌≡◌, ℕ, ◌+◌, ◌<◌, ◌≤◌, List, [], ◌∷◌, ◌++◌, length, map, take, drop, get_or, refl, sym, subst, ap, ◌∙◌}
use Rattle.std.proofs.Common.{append_assoc, take_all}
use Rattle.std.proofs.lemmas.List.{drop_more, take_more, flat_map_more}
use Rattle.std.proofs.lemmas.Option.{slice_get-map}
use Rattle.std.specs.Prelude.{Bool, Option, option_map, slice_get, unwrap_or}
use Rattle.std.specs.Borrow.{Bor}
use Rattle.std.specs.List.{flat_map}
use Rattle.std.specs.Str.{chars}
use Rattle.syntax.specs.Lexical.{AreTokensOf}
use Rattle.syntax.specs.Spelling.{spelling}
use Rattle.syntax_tree.specs.Tree.{Program as Tree}
use Rattle.types.specs.Code.{Program}
use Rattle.statement_places.specs.Lines.{has_label}
use Rattle.parallel_relation.specs.Pairs.{ArePairs, AreListed, HasPair}
use Rattle.parallel_relation.specs.Together.{LabelsMeet}
use Rattle.parallel_relation.specs.declared.pairs.Pairs.{Pairs as KeptPairs}
use Rattle.commands.specs.Answers.{AnswersPairsByLine, IsCodeOf}
use Rattle.commands.specs.Statements.{AreStatements, HasStatements, around, head_if, heads_on, lines_around, named_pair}
use Rattle.commands.specs.declared.statements.NamedStatements.{NamedStatements}
use Rattle.commands.proofs.Answering.{listed_as}

-- what a text slice shows
abbrev pub shown : Bor (List ℕ) → List ℕ
shown s = s.now

-- the lines from one on
lines_from : (items : List (Bor (List ℕ))) (i : ℕ) (d : Bor (List ℕ)) (line : List ℕ) → i < length items
    → line ≡ (get_or items i d).now → map shown (drop i items) ≡ line ∷ map shown (drop (i + 1) items)
lines_from items i d line within is =
    ap (map shown) (drop_more items i d within)
    ∙ ap (λ (l : List ℕ). l ∷ map shown (drop (i + 1) items)) (sym is)

-- one more statement: the texts so far, and those on the lines that are left
pub one_more_head : (plain items : List (Bor (List ℕ))) (i : ℕ) (d : Bor (List ℕ)) (line : List ℕ) (labelled : Bool)
    (text : List ℕ) (done written all : List (List ℕ)) → i < length items → line ≡ (get_or items i d).now
    → labelled ≡ has_label line → text ≡ unwrap_or (option_map shown (slice_get plain i)) []
    → written ≡ done ++ head_if labelled text → done ++ heads_on (map shown plain) i (map shown (drop i items)) ≡ all
    → written ++ heads_on (map shown plain) (i + 1) (map shown (drop (i + 1) items)) ≡ all
one_more_head plain items i d line labelled text done written all within is shows text_is written_is so_far =
    let behind = heads_on (map shown plain) (i + 1) (map shown (drop (i + 1) items)) in
    let same : text ≡ unwrap_or (slice_get (map shown plain) i) [] =
    text_is ∙ ap (λ (o : Option (List ℕ)). unwrap_or o []) (sym (slice_get-map shown plain i)) in
    ap (λ (l : List (List ℕ)). l ++ behind) written_is
    ∙ ap (λ (t : List ℕ). (done ++ head_if labelled t) ++ behind) same
    ∙ ap (λ (b : Bool). (done ++ head_if b (unwrap_or (slice_get (map shown plain) i) [])) ++ behind) shows
    ∙ append_assoc done (head_if (has_label line) (unwrap_or (slice_get (map shown plain) i) [])) behind
    ∙ ap (λ (l : List (List ℕ)). done ++ heads_on (map shown plain) i l) (sym (lines_from items i d line within is))
    ∙ so_far

-- one more line: what was written, and the lines that are left
pub one_more_line : (s : NamedStatements) (items : List (Bor (List ℕ))) (i : ℕ) (d : Bor (List ℕ)) (line : List ℕ)
    (done written all : List ℕ) → i < length items → line ≡ (get_or items i d).now
    → written ≡ done ++ (around s i line ++ (10 ∷ []))
    → done ++ lines_around s i (map shown (drop i items)) ≡ all
    → written ++ lines_around s (i + 1) (map shown (drop (i + 1) items)) ≡ all
one_more_line s items i d line done written all within is written_is so_far =
    let here = around s i line ++ (10 ∷ []) in
    let behind = lines_around s (i + 1) (map shown (drop (i + 1) items)) in
    ap (λ (l : List ℕ). l ++ behind) written_is ∙ append_assoc done here behind
    ∙ ap (λ (l : List (List ℕ)). done ++ lines_around s i l) (sym (lines_from items i d line within is))
    ∙ so_far

-- the texts of the first elements, and of one more
module _ {A : Type 0} (text : A → List ℕ) (xs : List A) where
  pub text_one_more : (n : ℕ) (x d : A) (old new : List ℕ) → n < length xs → x ≡ get_or xs n d
      → old ≡ flat_map text (take n xs) → new ≡ old ++ text x → new ≡ flat_map text (take (n + 1) xs)
  text_one_more n x d old new inside is so_far new_is =
      new_is ∙ ap (λ (l : List ℕ). l ++ text x) so_far
      ∙ ap (λ (y : A). flat_map text (take n xs) ++ text y) is
      ∙ flat_map_more text [] (take n xs) (get_or xs n d)
      ∙ ap (flat_map text) (sym (take_more xs n d inside))

  pub text_of_all : (n : ℕ) (told : List ℕ) → length xs ≤ n → told ≡ flat_map text (take n xs) → told ≡ flat_map text xs
  text_of_all n told all so_far = so_far ∙ ap (flat_map text) (take_all n xs all)

-- the statements of a program that a text spells
pub has_statements : (text : List ℕ) (p : Tree) (s : NamedStatements) → AreTokensOf (chars text) (spelling p)
    → AreStatements text p s → HasStatements text s
has_statements text p s spelled are = record { program = p; spelled = spelled; are = are }

-- those of one that was returned as this program
pub statements_found : (text : List ℕ) (p q : Tree) (s : NamedStatements) → q ≡ p → AreTokensOf (chars text) (spelling p)
    → (AreTokensOf (chars text) (spelling q) → AreStatements text q s) → HasStatements text s
statements_found text p q s same spelled are =
    let so = subst (λ (t : Tree). AreTokensOf (chars text) (spelling t)) (sym same) spelled in
    has_statements text q s so (are so)

-- the pairs of labels that may run together, with both statements
pub pairs_by_line_answer : (text told : List ℕ) (code : Program) (kept : KeptPairs) (list : List (ℕ × ℕ)) (s : NamedStatements)
    → IsCodeOf text code → ArePairs code kept → AreListed (HasPair kept) list → HasStatements text s
    → told ≡ flat_map (named_pair s) list → AnswersPairsByLine text told 0
pairs_by_line_answer text told code kept list s is_code are listed has is = record {
  statements = s;
  are = has;
  tells = record {
    code = code;
    is_code = is_code;
    pairs = list;
    listed = listed_as (HasPair kept) (LabelsMeet code) are list listed;
    told_is = is;
    status_is = refl;
  };
}
