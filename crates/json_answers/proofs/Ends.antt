-- The search for the ends of a program's runs: what one more list of choices changes.
use Rattle.std.proofs.Common.{◌≡◌, ◌≢◌, ◌<◌, ℕ, ℤ, zero, suc, List, [], ◌∷◌, ◌++◌, length, map, get_or, inl, inr, refl, sym, ap, ◌∙◌, subst, arith}
use Rattle.std.proofs.Common.{true≢false}
use Rattle.std.proofs.lemmas.List.{append_assoc, map-append}
use Rattle.std.proofs.lemmas.List.Elements.{All-push, All-nil, Contains-append_left, Contains-append_right, Contains-append_cases}
use Rattle.std.proofs.lemmas.List.Quantifiers.{all_pairs_push}
use Rattle.std.proofs.lemmas.Slice.Eq.{bytes_eq-Decides}
use Rattle.std.proofs.lemmas.Bool.{eqb-true}
use Rattle.std.proofs.lemmas.Bool.Decides.{nat_tests}
use Rattle.std.specs.Prelude.{◌⊎◌, Bool, true, false, nat_eq, if◌then◌else◌}
use Rattle.std.specs.List.{AllPairs, Contains}
use Rattle.std.specs.Str.{bytes_eq}
use Rattle.syntax.specs.declared.place.TextPlace.{TextPlace}
use Rattle.types.specs.Code.{Program}
use Rattle.types.specs.Outcome.{Outcome}
use Rattle.types.specs.Contents.{held_by}
use Rattle.types.specs.TreeSteps.{first_tree}
use Rattle.types.specs.Translation.{outcome as outcome_in}
use Rattle.step_trees.specs.Standing.{Candidate, EndsBeyond, HasEnded, MayStep, Misses, Standing, standing}
use Rattle.step_trees.proofs.Extending.{beyond}
use Rattle.json_answers.specs.declared.all_ends.FoundEnd.{FoundEnd}
use Rattle.json_answers.specs.AllEnds.{AreEnds, End, IsReached, end_lines, end_of, further, is_new_in, line_of_end, noted, outcome_line}
use Rattle.json_answers.specs.Searching.{IsSearchWith, Searches, Waits}

-- ---- lines

-- a new line is none of the others
pub new_differs : (line : List ℕ) (xs : List (List ℕ)) → is_new_in line xs ≡ true → (k : ℕ) (d : List ℕ) → k < length xs
    → get_or xs k d ≢ line
new_differs line [] e k d less = let never : ⊥ = omega (arith, less) in absurd never
new_differs line (x ∷ xs) e k d less = by (bytes_eq x line) refl e k less (new_differs line xs)
  where
    by : (b : Bool) → bytes_eq x line ≡ b → (if b then false else is_new_in line xs) ≡ true → (k : ℕ) → k < length (x ∷ xs)
        → (is_new_in line xs ≡ true → (j : ℕ) (d : List ℕ) → j < length xs → get_or xs j d ≢ line) → get_or (x ∷ xs) k d ≢ line
    by true is h k less later = let bad : false ≡ true = h in cc
    by false is h zero less later = λ same. true≢false (sym ((bytes_eq-Decides x line).1 same) ∙ is)
    by false is h (suc j) less later = later h j d (omega (arith, less))

-- another one is among them
pub known_contained : (line : List ℕ) (xs : List (List ℕ)) → is_new_in line xs ≡ false → Contains xs line
known_contained line [] e = let bad : true ≡ false = e in cc
known_contained line (x ∷ xs) e = by (bytes_eq x line) refl e (known_contained line xs)
  where
    by : (b : Bool) → bytes_eq x line ≡ b → (if b then false else is_new_in line xs) ≡ false
        → (is_new_in line xs ≡ false → Contains xs line) → Contains (x ∷ xs) line
    by true is h later = (0, omega arith, (bytes_eq-Decides x line).0 is)
    by false is h later = let r = later h in let less = r.1 in (suc r.0, omega (arith, less), r.2)

pub last_contained : {A : Type 0} (xs : List A) (x : A) → Contains (xs ++ x ∷ []) x
last_contained xs x = Contains-append_right xs (x ∷ []) x (0, omega arith, refl)

pub only_contained : {A : Type 0} (x y : A) → Contains (x ∷ []) y → x ≡ y
only_contained x y (zero, less, same) = same
only_contained x y (suc k, less, same) = let never : ⊥ = omega (arith, less) in absurd never

-- each choice below the number is added to the list
pub further_contained : (cs : List ℕ) (n c : ℕ) → c < n → Contains (further cs n) (cs ++ c ∷ [])
further_contained cs zero c less = let never : ⊥ = omega (arith, less) in absurd never
further_contained cs (suc n) c less = by (nat_eq c n) refl (further_contained cs n c)
  where
    by : (b : Bool) → nat_eq c n ≡ b → (c < n → Contains (further cs n) (cs ++ c ∷ [])) → Contains (further cs (suc n)) (cs ++ c ∷ [])
    by true is later =
        let same : c ≡ n = eqb-true c n is in
        (0, omega arith, ap (λ (m : ℕ). cs ++ m ∷ []) (sym same))
    by false is later =
        let below : c < n = grind (arith, nat_tests) in
        let r = later below in let inside = r.1 in
        (suc r.0, omega (arith, inside), r.2)

-- ---- the search

module _ (p : Program) (input : List (List ℤ)) (places : List TextPlace) where
  follows : (choices rest : List ℕ) (o : Outcome) → standing p input (choices ++ rest) ≡ HasEnded o
      → EndsBeyond (standing p input choices) rest o
  follows choices rest o e = beyond p 0 choices (first_tree p) (held_by input) rest o e

  pub searches_first : Searches p input places ([] ∷ []) []
  searches_first = record {
    ends = record { reached = All-nil (IsReached p input); differ = λ i j d less below. let never : ⊥ = omega (arith, below) in absurd never };
    covers = λ choices o e. inr (record { first = []; rest = choices; waits = (0, omega arith, refl); begins = refl });
  }

  -- an end is added if its line is new
  module _ (es : List End) (e : End) (are : AreEnds p input places es) (reached : IsReached p input e) where
    abbrev pub its_line : List ℕ
    its_line = outcome_line p places e.outcome

    pub more_lines : end_lines p places (es ++ e ∷ []) ≡ end_lines p places es ++ its_line ∷ []
    more_lines = map-append (λ (x : End). outcome_line p places x.outcome) es (e ∷ [])

    pub more_ends : is_new_in its_line (end_lines p places es) ≡ true → AreEnds p input places (es ++ e ∷ [])
    more_ends is_new = record {
      reached = All-push (IsReached p input) es e are.reached reached;
      differ = subst (AllPairs (λ one other. one ≢ other)) (sym more_lines)
          (all_pairs_push (λ one other. one ≢ other) (end_lines p places es) its_line are.differ
          (new_differs its_line (end_lines p places es) is_new));
    }

  -- the list that was tried, before others
  module _ (ws : List (List ℕ)) (c : List ℕ) (es : List End) (s : Searches p input places (ws ++ c ∷ []) es) where
    -- its run has ended
    pub ended_covers : (o : Outcome) → standing p input c ≡ HasEnded o → (ls : List (List ℕ))
        → ((l : List ℕ) → Contains (end_lines p places es) l → Contains ls l) → Contains ls (outcome_line p places o)
        → (choices : List ℕ) (x : Outcome) → standing p input choices ≡ HasEnded x
        → (Contains ls (outcome_line p places x)) ⊎ Waits ws choices
    ended_covers o is ls keeps has choices x e = by (s.covers choices x e)
      where
        its : (w : Waits (ws ++ c ∷ []) choices) → (Contains ws w.first) ⊎ (Contains (c ∷ []) w.first)
            → (Contains ls (outcome_line p places x)) ⊎ Waits ws choices
        its w (inl before) = inr (record { first = w.first; rest = w.rest; waits = before; begins = w.begins })
        its w (inr last) =
            let same : choices ≡ c ++ w.rest = w.begins ∙ ap (λ (l : List ℕ). l ++ w.rest) (sym (only_contained c w.first last)) in
            let f = follows c w.rest x (sym (ap (standing p input) same) ∙ e) in
            let end : EndsBeyond (HasEnded o) w.rest x = subst (λ (z : Standing). EndsBeyond z w.rest x) is f in
            inl (subst (λ (y : Outcome). Contains ls (outcome_line p places y)) end.1 has)

        by : (Contains (end_lines p places es) (outcome_line p places x)) ⊎ Waits (ws ++ c ∷ []) choices
            → (Contains ls (outcome_line p places x)) ⊎ Waits ws choices
        by (inl found) = inl (keeps (outcome_line p places x) found)
        by (inr w) = its w (Contains-append_cases ws (c ∷ []) w.first w.waits)

    -- tasks may step
    pub open_searches : (ts : List Candidate) (n : ℕ) → standing p input c ≡ MayStep ts → n ≡ length ts
        → Searches p input places (ws ++ further c n) es
    open_searches ts n is count = record { ends = s.ends; covers = λ choices x e. by choices x e (s.covers choices x e) }
      where
        its : (choices : List ℕ) (x : Outcome) → standing p input choices ≡ HasEnded x → (w : Waits (ws ++ c ∷ []) choices)
            → (Contains ws w.first) ⊎ (Contains (c ∷ []) w.first) → Waits (ws ++ further c n) choices
        its choices x e w (inl before) = record {
          first = w.first;
          rest = w.rest;
          waits = Contains-append_left ws (further c n) w.first before;
          begins = w.begins;
        }
        its choices x e w (inr last) =
            let same : choices ≡ c ++ w.rest = w.begins ∙ ap (λ (l : List ℕ). l ++ w.rest) (sym (only_contained c w.first last)) in
            let f = follows c w.rest x (sym (ap (standing p input) same) ∙ e) in
            let next : EndsBeyond (MayStep ts) w.rest x = subst (λ (z : Standing). EndsBeyond z w.rest x) is f in
            let below : next.0 < length ts = next.3 in
            record {
              first = c ++ next.0 ∷ [];
              rest = next.1;
              waits = Contains-append_right ws (further c n) (c ++ next.0 ∷ [])
                  (further_contained c n next.0 (omega (arith, below, count)));
              begins = same ∙ ap (λ (l : List ℕ). c ++ l) next.2 ∙ sym (append_assoc c (next.0 ∷ []) next.1);
            }

        by : (choices : List ℕ) (x : Outcome) → standing p input choices ≡ HasEnded x
            → (Contains (end_lines p places es) (outcome_line p places x)) ⊎ Waits (ws ++ c ∷ []) choices
            → (Contains (end_lines p places es) (outcome_line p places x)) ⊎ Waits (ws ++ further c n) choices
        by choices x e (inl found) = inl found
        by choices x e (inr w) = inr (its choices x e w (Contains-append_cases ws (c ∷ []) w.first w.waits))

    -- a choice names no task
    pub missing_searches : (n : ℕ) → standing p input c ≡ Misses n → Searches p input places ws es
    missing_searches n is = record { ends = s.ends; covers = λ choices x e. by choices x e (s.covers choices x e) }
      where
        its : (choices : List ℕ) (x : Outcome) → standing p input choices ≡ HasEnded x → (w : Waits (ws ++ c ∷ []) choices)
            → (Contains ws w.first) ⊎ (Contains (c ∷ []) w.first) → Waits ws choices
        its choices x e w (inl before) = record { first = w.first; rest = w.rest; waits = before; begins = w.begins }
        its choices x e w (inr last) =
            let same : choices ≡ c ++ w.rest = w.begins ∙ ap (λ (l : List ℕ). l ++ w.rest) (sym (only_contained c w.first last)) in
            let f = follows c w.rest x (sym (ap (standing p input) same) ∙ e) in
            absurd (subst (λ (z : Standing). EndsBeyond z w.rest x) is f)

        by : (choices : List ℕ) (x : Outcome) → standing p input choices ≡ HasEnded x
            → (Contains (end_lines p places es) (outcome_line p places x)) ⊎ Waits (ws ++ c ∷ []) choices
            → (Contains (end_lines p places es) (outcome_line p places x)) ⊎ Waits ws choices
        by choices x e (inl found) = inl found
        by choices x e (inr w) = inr (its choices x e w (Contains-append_cases ws (c ∷ []) w.first w.waits))

  -- ---- with the lines that are stored

  -- an end, after its list was tried
  module _ (ws : List (List ℕ)) (c : List ℕ) (es : List FoundEnd) (e : FoundEnd)
      (s : IsSearchWith p input places (ws ++ c ∷ []) es) (reached : standing p input c ≡ HasEnded (outcome_in e.outcome))
      (by_choices : e.choices.items ≡ c) (line_is : line_of_end e ≡ outcome_line p places (outcome_in e.outcome)) where
    abbrev all : List End
    all = map end_of es

    reaches : IsReached p input (end_of e)
    reaches = ap (standing p input) by_choices ∙ reached

    asked : is_new_in (outcome_line p places (outcome_in e.outcome)) (end_lines p places all)
        ≡ is_new_in (line_of_end e) (map line_of_end es)
    asked = sym (ap (λ l. is_new_in l (map line_of_end es)) line_is
        ∙ ap (is_new_in (outcome_line p places (outcome_in e.outcome))) s.lines)

    plain : map end_of (es ++ e ∷ []) ≡ all ++ end_of e ∷ []
    plain = map-append end_of es (e ∷ [])

    added : is_new_in (line_of_end e) (map line_of_end es) ≡ true → IsSearchWith p input places ws (es ++ e ∷ [])
    added is_new =
        let more = more_lines all (end_of e) s.searches.ends reaches in
        let ls = end_lines p places (all ++ end_of e ∷ []) in
        record {
          lines =
              map-append line_of_end es (e ∷ [])
              ∙ ap (λ l. l ++ line_of_end e ∷ []) s.lines
              ∙ ap (λ (l : List ℕ). end_lines p places all ++ l ∷ []) line_is
              ∙ sym more
              ∙ ap (end_lines p places) (sym plain);
          searches =
              subst (Searches p input places ws) (sym plain) (record {
                ends = more_ends all (end_of e) s.searches.ends reaches (asked ∙ is_new);
                covers =
                    ended_covers ws c all s.searches (outcome_in e.outcome) reached ls
                    (λ l has. subst (λ (xs : List (List ℕ)). Contains xs l) (sym more)
                    (Contains-append_left (end_lines p places all) _ l has))
                    (subst (λ (xs : List (List ℕ)). Contains xs (outcome_line p places (outcome_in e.outcome))) (sym more)
                    (last_contained (end_lines p places all) _));
              });
        }

    left_out : is_new_in (line_of_end e) (map line_of_end es) ≡ false → IsSearchWith p input places ws es
    left_out known = record {
      lines = s.lines;
      searches = record {
        ends = s.searches.ends;
        covers =
            ended_covers ws c all s.searches (outcome_in e.outcome) reached (end_lines p places all) (λ l has. has)
            (known_contained _ (end_lines p places all) (asked ∙ known));
      };
    }

    pub ended_search : IsSearchWith p input places ws (noted es e)
    ended_search = by (is_new_in (line_of_end e) (map line_of_end es)) refl
      where
        by : (b : Bool) → is_new_in (line_of_end e) (map line_of_end es) ≡ b
            → IsSearchWith p input places ws (if b then es ++ e ∷ [] else es)
        by true is = added is
        by false is = left_out is

  -- nothing was tried yet
  pub first_search : (ws : List (List ℕ)) (es : List FoundEnd) → ws ≡ [] ∷ [] → es ≡ [] → IsSearchWith p input places ws es
  first_search ws es ws_are es_are =
      subst (λ (vs : List (List ℕ)). IsSearchWith p input places vs es) (sym ws_are)
      (subst (IsSearchWith p input places ([] ∷ [])) (sym es_are) (record { lines = refl; searches = searches_first }))

  -- lists that wait, or none
  pub open_search : (ws : List (List ℕ)) (c : List ℕ) (es : List FoundEnd) → IsSearchWith p input places (ws ++ c ∷ []) es
      → (ts : List Candidate) (n : ℕ) → standing p input c ≡ MayStep ts → n ≡ length ts
      → IsSearchWith p input places (ws ++ further c n) es
  open_search ws c es s ts n is count =
      record { lines = s.lines; searches = open_searches ws c (map end_of es) s.searches ts n is count }

  pub missing_search : (ws : List (List ℕ)) (c : List ℕ) (es : List FoundEnd) → IsSearchWith p input places (ws ++ c ∷ []) es
      → (n : ℕ) → standing p input c ≡ Misses n → IsSearchWith p input places ws es
  missing_search ws c es s n is = record { lines = s.lines; searches = missing_searches ws c (map end_of es) s.searches n is }
