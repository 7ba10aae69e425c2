-- Calls: the arguments one by one, and the procedure of a name.
use Rattle.std.proofs.Common.{◌≡◌, ℕ, suc, ◌+◌, ◌<◌, ◌≤◌, Bool, true, false, cond, not, ◌||◌, Option, Some, None, List, [], ◌∷◌, ◌++◌, length, map, String, All}
use Rattle.std.proofs.Common.{refl, sym, ap, ◌∙◌, arith, if◌then◌else◌, slice_get, slice_index_or, option_map, nat_eq, nat_lt, position, append_assoc, subst}
use Rattle.std.proofs.lemmas.Bool.{ltb-false}
use Rattle.std.proofs.lemmas.List.{length-map, get_or-map}
use Rattle.std.proofs.lemmas.Option.{slice_get_past}
use Rattle.std.specs.Cmp.Lexicographic.{pointwise}
use Rattle.std.specs.List.{position_or_len, list_any}
use Rattle.indexmap.specs.IndexSet.{insert_key}
use Rattle.std.specs.String.{string_bytes, string_eq}
use Rattle.std.proofs.lemmas.List.Elements.{All-nil, All-cons, All-head, All-tail}
use Rattle.syntax_tree.specs.Tree.{Expr, Atom, Number, True, False, Name, Element, Length, Parens, lone_atom, procedure, parameter}
use Rattle.syntax_tree.specs.Tree.{Parameter as Declared, Written, Read, Scalar}
use Rattle.syntax_tree.specs.declared.tree.Procedure.{Procedure as rProcedure}
use Rattle.types.specs.CallErrors.{Passed, and_passed, and_named, passed}
use Rattle.types.specs.Resolving.{passed_by}
use Rattle.types.specs.declared.check.calls.Passed.{Passed as rPassed}
use Rattle.types.specs.Resolution as resolution
use Rattle.types.specs.Scope.{Names, Meant, ASection, AScalar, meant}

-- ---- one argument more
module _ (names : Names) (e : Expr) (es : List Expr) where
  pub values_more : (p : Declared) (ps : List Declared) → resolution.values_for names (p ∷ ps) (e ∷ es)
      ≡ resolution.values_for names (p ∷ []) (e ∷ []) ++ resolution.values_for names ps es
  values_more (Written x t) ps = refl
  values_more (Read x t) ps = refl
  values_more (Scalar x) ps = refl

  pub sections_more : (p : Declared) (ps : List Declared) → resolution.sections_for names (p ∷ ps) (e ∷ es)
      ≡ resolution.sections_for names (p ∷ []) (e ∷ []) ++ resolution.sections_for names ps es
  sections_more (Written x t) ps = refl
  sections_more (Read x t) ps = refl
  sections_more (Scalar x) ps = refl

and_passed_more : (m : Option Meant) (w : Bool) (rest : List Passed) → and_passed m w rest ≡ and_passed m w [] ++ rest
and_passed_more (Some (ASection s)) w rest = refl
and_passed_more m w rest = refl

and_named_more : (names : Names) (a : Option Atom) (w : Bool) (rest : List Passed) → and_named names a w rest ≡ and_named names a w [] ++ rest
and_named_more names (Some (Name x)) w rest = and_passed_more (meant x names) w rest
and_named_more names a w rest = refl

pub passed_more : (names : Names) (e : Expr) (es : List Expr) (p : Declared) (ps : List Declared)
    → passed names (p ∷ ps) (e ∷ es) ≡ passed names (p ∷ []) (e ∷ []) ++ passed names ps es
passed_more names e es (Written x t) ps = and_named_more names (lone_atom e) true (passed names ps es)
passed_more names e es (Read x t) ps = and_named_more names (lone_atom e) false (passed names ps es)
passed_more names e es (Scalar x) ps = refl

pub one_taken : {A : Type 0} {all whole after : List A} (before one more : List A) → all ≡ before ++ whole → whole ≡ one ++ more
    → after ≡ before ++ one → all ≡ after ++ more
one_taken before one more e f g =
    e ∙ ap (λ l. before ++ l) f ∙ sym (append_assoc before one more) ∙ ap (λ l. l ++ more) (sym g)

-- ---- the sections that are passed exist
module _ (n : ℕ) where
  abbrev IsThere : Passed → Type 0
  IsThere p = p.0 < n

  there_passed : (m : Option Meant) (w : Bool) (rest : List Passed) → ((s : ℕ) → m ≡ Some (ASection s) → s < n) → All IsThere rest
      → All IsThere (and_passed m w rest)
  there_passed None w rest known all = all
  there_passed (Some (AScalar k)) w rest known all = all
  there_passed (Some (ASection s)) w rest known all = All-cons IsThere (s, w) rest (known s refl) all

  -- the first of the passed sections, and the others
  pub front_passed : {ps later : List rPassed} {one : rPassed} → ps ≡ one ∷ later
      → All IsThere (map passed_by ps) → IsThere (passed_by one) × All IsThere (map passed_by later)
  front_passed {ps} {later} {one} front all =
      let known : All IsThere (passed_by one ∷ map passed_by later) =
      subst (λ l. All IsThere (map passed_by l)) front all in (
        All-head IsThere (passed_by one) (map passed_by later) known,
        All-tail IsThere (passed_by one)
            (map passed_by later) known,
      )

  module _ (names : Names) (known : (x : List ℕ) (s : ℕ) → meant x names ≡ Some (ASection s) → s < n) where
    there_named : (a : Option Atom) (w : Bool) (rest : List Passed) → All IsThere rest → All IsThere (and_named names a w rest)
    there_named (Some (Name x)) w rest all = there_passed (meant x names) w rest (known x) all
    there_named (Some (Number k)) w rest all = all
    there_named (Some True) w rest all = all
    there_named (Some False) w rest all = all
    there_named (Some (Element s i)) w rest all = all
    there_named (Some (Length s)) w rest all = all
    there_named (Some (Parens e)) w rest all = all
    there_named None w rest all = all

    pub passed_are_there : (ps : List Declared) (es : List Expr) → All IsThere (passed names ps es)
    passed_are_there [] es = All-nil IsThere
    passed_are_there (Written x t ∷ ps) [] = All-nil IsThere
    passed_are_there (Read x t ∷ ps) [] = All-nil IsThere
    passed_are_there (Scalar x ∷ ps) [] = All-nil IsThere
    passed_are_there (Written x t ∷ ps) (e ∷ es) = there_named (lone_atom e) true (passed names ps es) (passed_are_there ps es)
    passed_are_there (Read x t ∷ ps) (e ∷ es) = there_named (lone_atom e) false (passed names ps es) (passed_are_there ps es)
    passed_are_there (Scalar x ∷ ps) (e ∷ es) = passed_are_there ps es

-- ---- the procedure of a name is at the position of the name
abbrev numbered : ℕ → rProcedure → ℕ × List Declared
numbered n f = (n, map parameter f.parameters.items)

step : (b : Bool) (n p : ℕ) (f : rProcedure) (fs : List rProcedure) (o : Option (ℕ × List Declared))
    → o ≡ option_map (numbered (n + 1 + p)) (slice_get fs p)
    → (if b then Some (numbered n f) else o)
    ≡ option_map (numbered (n + cond (not b) (1 + p) 0)) (slice_get (f ∷ fs) (cond (not b) (1 + p) 0))
step true n p f fs o e = let k : n ≡ n + 0 = omega arith in ap (λ k. Some (numbered k f)) k
step false n p f fs o e =
    let k : n + 1 + p ≡ n + (1 + p) = omega arith in
    let next : suc p ≡ 1 + p = omega arith in
    e ∙ ap (λ k. option_map (numbered k) (slice_get fs p)) k ∙ ap (λ j. option_map (numbered (n + (1 + p))) (slice_get (f ∷ fs) j)) next

module _ {Z : Type 0} (x : String Z) where
  pub procedure_at : (n : ℕ) (ks : List (String Z)) (fs : List rProcedure) → map string_bytes ks ≡ map (λ f. string_bytes f.name) fs
      → resolution.procedure_of n (string_bytes x) (map procedure fs)
      ≡ option_map (numbered (n + position_or_len (string_eq x) ks)) (slice_get fs (position_or_len (string_eq x) ks))
  procedure_at n [] [] same = refl
  procedure_at n [] (f ∷ fs) same = cc
  procedure_at n (k ∷ ks) [] same = cc
  procedure_at n (k ∷ ks) (f ∷ fs) same =
      let name : string_bytes k ≡ string_bytes f.name = cc in
      let others : map string_bytes ks ≡ map (λ g. string_bytes g.name) fs = cc in
      let p = position_or_len (string_eq x) ks in
      ap (λ b. if b then Some (numbered n f) else resolution.procedure_of (n + 1) (string_bytes x) (map procedure fs))
      (ap (pointwise nat_eq (string_bytes x)) (sym name))
      ∙ step (string_eq x k) n p f fs (resolution.procedure_of (n + 1) (string_bytes x) (map procedure fs)) (procedure_at (n + 1) ks fs others)

  absent_by : (b : Bool) (p : ℕ) → cond b (Some p) None ≡ None → b ≡ false
  absent_by true p e = cc
  absent_by false p e = refl

  found_by : (b : Bool) (p i : ℕ) → cond b (Some p) None ≡ Some i → p ≡ i
  found_by true p i e = cc
  found_by false p i e = cc

  module _ (ks : List (String Z)) (fs : List rProcedure) (same : map string_bytes ks ≡ map (λ f. string_bytes f.name) fs) where
    pub procedure_absent : position (string_eq x) ks ≡ None → resolution.procedure_of 0 (string_bytes x) (map procedure fs) ≡ None
    procedure_absent none =
        let p = position_or_len (string_eq x) ks in
        let past : length ks ≤ p = ltb-false p (length ks) (absent_by (nat_lt p (length ks)) p none) in
        let many : length ks ≡ length fs = sym (length-map ks string_bytes) ∙ ap length same ∙ length-map fs (λ f. string_bytes f.name) in
        procedure_at 0 ks fs same ∙ ap (option_map (numbered (0 + p))) (slice_get_past fs p (omega (arith, past, many)))

    pub procedure_found : (i : ℕ) (f : rProcedure) → position (string_eq x) ks ≡ Some i → slice_get fs i ≡ Some f
        → resolution.procedure_of 0 (string_bytes x) (map procedure fs) ≡ Some (i, map parameter f.parameters.items)
    procedure_found i f at there =
        let p = position_or_len (string_eq x) ks in
        let e : p ≡ i = found_by (nat_lt p (length ks)) p i at in
        let first : 0 + i ≡ i = omega arith in
        procedure_at 0 ks fs same ∙ ap (λ k. option_map (numbered (0 + k)) (slice_get fs k)) e ∙ ap (option_map (numbered (0 + i))) there
        ∙ ap (λ k. Some (numbered k f)) first

-- ---- the names of the procedures so far
not_not : (b : Bool) → not (not b) ≡ b
not_not true = refl
not_not false = refl

module _ {Z : Type 0} where
  name_any : (b : List ℕ) (ks : List (String Z))
      → list_any (pointwise nat_eq b) (map string_bytes ks) ≡ list_any (λ k. pointwise nat_eq b (string_bytes k)) ks
  name_any b [] = refl
  name_any b (k ∷ ks) = ap (λ o. pointwise nat_eq b (string_bytes k) || o) (name_any b ks)

  -- a clone of a name is new among these exactly if the name is
  pub declared_before : (x k : String Z) (ks : List (String Z)) (added : Bool) → string_bytes k ≡ string_bytes x
      → added ≡ not (list_any (string_eq k) ks)
      → list_any (pointwise nat_eq (string_bytes x)) (map string_bytes ks) ≡ not added
  declared_before x k ks added same e =
      name_any (string_bytes x) ks ∙ ap (λ c. list_any (λ y. pointwise nat_eq c (string_bytes y)) ks) (sym same)
      ∙ sym (not_not (list_any (string_eq k) ks)) ∙ ap not (sym e)

  pub new_key : (k : String Z) (ks : List (String Z)) (added : Bool) → added ≡ not (list_any (string_eq k) ks) → added ≡ true
      → insert_key string_eq ks k ≡ ks ++ k ∷ []
  new_key k ks added e new =
      ap (λ b. if b then ks else ks ++ k ∷ []) (sym (not_not (list_any (string_eq k) ks)) ∙ ap not (sym e ∙ new))

-- ---- an argument that exists
pub there_at : (n : ℕ) (ps : List rPassed) (i : ℕ) (d : rPassed) → i < length ps → All (λ p. p.0 < n) (map passed_by ps)
    → (slice_index_or ps i d).section.number < n
there_at n ps i d inside all =
    subst (λ p. p.0 < n) (get_or-map passed_by ps i d (passed_by d) inside)
    (all i (passed_by d) (omega (arith, inside, length-map ps passed_by)))
