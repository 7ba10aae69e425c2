-- Warnings that are found one after the other.
use Rattle.std.proofs.Common.{◌≡◌, ◌<◌, ◌≤◌, ◌+◌, ℕ, List, ◌∷◌, ◌++◌, length, map, drop, get_or, arith, sym, ap, ◌∙◌}
use Rattle.std.proofs.Common.{append_assoc, append-nil, Option}
use Rattle.std.proofs.lemmas.List.{drop_all, drop_more}
use Rattle.std.proofs.lemmas.Option.{slice_get-map}
use Rattle.std.specs.Option.{option_map}
use Rattle.std.specs.Prelude.{Bool, slice_get}
use Rattle.syntax_tree.specs.Tree as tree
use Rattle.syntax_tree.specs.Tree.{Read, Scalar as ScalarParameter, Written, parameter}
use Rattle.syntax_tree.specs.declared.tree.Parameter.{Parameter as rParameter}
use Rattle.types.specs.Code.{Codes, Number, Procedure, Program}
use Rattle.types.specs.Translation.{code, codes, parameter as section_parameter, procedure}
use Rattle.types.specs.declared.code.Procedure.{Procedure as rProcedure}
use Rattle.types.specs.declared.code.SectionParameter.{SectionParameter}
use Rattle.types.specs.declared.code.Stmt.{Stmt}
use Rattle.warnings.specs.Ends.{stops}
use Rattle.warnings.specs.Warnings.{block_warnings, inner_warnings, own_warnings, parameter_warnings, procedure_warnings}
use Rattle.warnings.specs.Warnings.{root_cannot_hold, scalars_after, sections_after, thing_of, unused, warn_if, warnings_from}
use Rattle.warnings.specs.declared.warning.Warning.{Warning}
use Rattle.warnings.specs.declared.warning.Warning.TheVariants.{Unreached, UnusedParameter}

-- ---- procedures

module _ (t : tree.Program) (p : Program) (gs : List rProcedure) where
  -- those of the procedures from the n-th on
  abbrev pub of_procedures : (n : ℕ) → List Warning
  of_procedures n = warnings_from t p n (map procedure (drop n gs))

  pub one_procedure : (n : ℕ) (g none : rProcedure) (before after : List Warning) → n < length gs → g ≡ get_or gs n none
      → after ≡ before ++ procedure_warnings t p n (procedure g)
      → after ++ of_procedures (n + 1) ≡ before ++ of_procedures n
  one_procedure n g none before after inside is added =
      let one = procedure_warnings t p n (procedure g) in
      let parts : drop n gs ≡ g ∷ drop (n + 1) gs =
      drop_more gs n none inside ∙ ap (λ (x : rProcedure). x ∷ drop (n + 1) gs) (sym is) in
      ap (λ (ws : List Warning). ws ++ of_procedures (n + 1)) added
      ∙ append_assoc before one (of_procedures (n + 1))
      ∙ ap (λ (xs : List rProcedure). before ++ warnings_from t p n (map procedure xs)) (sym parts)

  pub all_procedures : (n : ℕ) (before : List Warning) → length gs ≤ n → before ≡ before ++ of_procedures n
  all_procedures n before all =
      sym (append-nil before)
      ∙ ap (λ (xs : List rProcedure). before ++ warnings_from t p n (map procedure xs)) (sym (drop_all n gs all))

-- the warnings of one procedure: three lists, one after the other
pub three_parts : (f0 f1 f2 f3 a b c : List Warning) → f1 ≡ f0 ++ a → f2 ≡ f1 ++ b → f3 ≡ f2 ++ c → f3 ≡ f0 ++ (a ++ (b ++ c))
three_parts f0 f1 f2 f3 a b c first second third =
    third ∙ ap (λ ws. ws ++ c) second ∙ append_assoc f1 b c ∙ ap (λ ws. ws ++ (b ++ c)) first ∙ append_assoc f0 a (b ++ c)

-- ---- parameters

module _ (f : ℕ) (b : Codes) (xs : List rParameter) where
  -- those of the parameters from the n-th on, after so many scalars and sections
  abbrev pub of_parameters : (n scalars sections : ℕ) → List Warning
  of_parameters n scalars sections = parameter_warnings f b n scalars sections (map parameter (drop n xs))

  pub one_parameter : (n scalars sections : ℕ) (x none : rParameter) (before after : List Warning) → n < length xs
      → x ≡ get_or xs n none
      → after ≡ before ++ unused (thing_of (parameter x) scalars sections) b (UnusedParameter f n)
      → after ++ of_parameters (n + 1) (scalars_after (parameter x) scalars) (sections_after (parameter x) sections)
      ≡ before ++ of_parameters n scalars sections
  one_parameter n scalars sections x none before after inside is added =
      let one = unused (thing_of (parameter x) scalars sections) b (UnusedParameter f n) in
      let rest = of_parameters (n + 1) (scalars_after (parameter x) scalars) (sections_after (parameter x) sections) in
      let parts : drop n xs ≡ x ∷ drop (n + 1) xs =
      drop_more xs n none inside ∙ ap (λ (y : rParameter). y ∷ drop (n + 1) xs) (sym is) in
      ap (λ (ws : List Warning). ws ++ rest) added
      ∙ append_assoc before one rest
      ∙ ap (λ (ys : List rParameter). before ++ parameter_warnings f b n scalars sections (map parameter ys)) (sym parts)

  pub all_parameters : (n scalars sections : ℕ) (before : List Warning) → length xs ≤ n
      → before ≡ before ++ of_parameters n scalars sections
  all_parameters n scalars sections before all =
      sym (append-nil before)
      ∙ ap (λ (ys : List rParameter). before ++ parameter_warnings f b n scalars sections (map parameter ys))
      (sym (drop_all n xs all))

-- one more parameter is a scalar or a section
pub one_more_counted : (x : tree.Parameter) (a s : ℕ) → scalars_after x a + sections_after x s ≡ a + s + 1
one_more_counted (ScalarParameter n) a s = omega arith
one_more_counted (Written n t) a s = omega arith
one_more_counted (Read n t) a s = omega arith

-- ---- statements

-- with those of one more statement of a block
pub one_statement : (f : Procedure) (block : List Stmt) (n : ℕ) (s none : Stmt) (dead stopped : Bool) (f0 f1 f2 f3 : List Warning)
    → n < length block → s ≡ get_or block n none → f1 ≡ f0 ++ warn_if dead (Unreached s.label)
    → f2 ≡ f1 ++ own_warnings f s.label (code s.kind) → f3 ≡ f2 ++ inner_warnings f (code s.kind) → stopped ≡ stops (code s.kind)
    → f3 ++ block_warnings f stopped (codes (drop (n + 1) block)) ≡ f0 ++ block_warnings f dead (codes (drop n block))
one_statement f block n s none dead stopped f0 f1 f2 f3 inside is first second third ends =
    let a = warn_if dead (Unreached s.label) in
    let b = own_warnings f s.label (code s.kind) in
    let c = inner_warnings f (code s.kind) in
    let rest = λ (d : Bool). block_warnings f d (codes (drop (n + 1) block)) in
    let parts : drop n block ≡ s ∷ drop (n + 1) block =
    drop_more block n none inside ∙ ap (λ (x : Stmt). x ∷ drop (n + 1) block) (sym is) in
    ap (λ (d : Bool). f3 ++ rest d) ends
    ∙ ap (λ ws. ws ++ rest (stops (code s.kind))) (three_parts f0 f1 f2 f3 a b c first second third)
    ∙ append_assoc f0 (a ++ (b ++ c)) (rest (stops (code s.kind)))
    ∙ ap (λ ws. f0 ++ ws) (append_assoc a (b ++ c) (rest (stops (code s.kind)))
    ∙ ap (λ ws. a ++ ws) (append_assoc b c (rest (stops (code s.kind)))))
    ∙ ap (λ (xs : List Stmt). f0 ++ block_warnings f dead (codes xs)) (sym parts)

-- the parameter or the array of a section, as the code looks it up
pub root_found : (ps : List SectionParameter) (root i : ℕ) (o : Option SectionParameter) (e : Number) → slice_get ps root ≡ o
    → root ≡ i
    → root_cannot_hold (slice_get (map section_parameter ps) i) e ≡ root_cannot_hold (option_map section_parameter o) e
root_found ps root i o e got same =
    ap (λ (k : ℕ). root_cannot_hold (slice_get (map section_parameter ps) k) e) (sym same)
    ∙ ap (λ x. root_cannot_hold x e) (slice_get-map section_parameter ps root ∙ ap (option_map section_parameter) got)
