-- A resolved text that breaks no rule is sound.
use Rattle.std.proofs.Common.{◌≡◌, ℕ, zero, suc, ◌+◌, ◌<◌, ◌≤◌, Bool, true, false, List, [], ◌∷◌, ◌++◌, length, map, replicate}
use Rattle.std.proofs.Common.{Option, Some, None, refl, sym, ap, ◌∙◌, subst, arith, append_assoc, append-nil}
use Rattle.std.proofs.Common.{if◌then◌else◌}
use Rattle.std.proofs.lemmas.List.{length-append, length-replicate}
use Rattle.std.proofs.lemmas.Option.{none-some, same_Some}
use Rattle.std.specs.Prelude.{nat_eq, slice_get, slice_index_or}
use Rattle.std.specs.Cmp.Lexicographic.{pointwise}
use Rattle.sections.specs.Origins.{Origin, Root, Left, Right, Piece, origin_of, IsNumbered}
use Rattle.sections.proofs.Lines.{root_of-root}
use Rattle.syntax_tree.specs.Tree.{Block, Array as DeclaredArray, Parameter as Declared, Written, Read, Scalar}
use Rattle.syntax_tree.specs.Tree.{Procedure as DeclaredProcedure, Main, Program as Text}
use Rattle.types.specs.Code.{Parameter, Procedure, Program}
use Rattle.types.specs.Resolution.{array, label_behind, label_behind_all, procedure_of, resolved, procedures, with_main, resolution}
use Rattle.types.specs.Rules.{limit, errors, parameter_errors, array_errors, name_errors, procedure_errors, procedures_errors}
use Rattle.types.specs.Rules.{errors_of}
use Rattle.types.specs.Run.{no_procedure}
use Rattle.types.specs.Scope.{Meant, ASection, AScalar, Names, meant, Scope, empty_scope, with_scalar, with_root, with_parameter}
use Rattle.types.specs.Scope.{with_parameters, with_array, with_arrays, in_procedure, in_main, after}
use Rattle.types.proofs.Labels.{labels_are_counted, last_label}
use Rattle.types.proofs.NumbersFrom.{numbers_from-member, numbers_from-below}
use Rattle.types.proofs.Scopes.{label_with_parameters, label_with_arrays}
use Rattle.types.specs.Labels.{labels_of_program}
use Rattle.types.specs.Sound.{numbers_from, as_parameter, parameter_at, IsSoundIn, IsSound}
use Rattle.types.proofs.CallsFollow.{section_kinds, scalar_count, Callable}
use Rattle.types.proofs.Growth.{grows_none, grows_after}
use Rattle.types.proofs.Known.{KnownAt, known_after, past_section, section_or_later}
use Rattle.types.proofs.LabelLimit.{none_left, none_right, label_after}
use Rattle.types.proofs.StatementsFollow.{follows}
use Rattle.types.proofs.Texts.{codes_text}

-- ---- where a procedure starts
-- its sections are its parameters, and only these are in scope
record Begins (names : Names) (slots : ℕ) (os : List Origin) (ks : List Parameter) : Type 0 where
  roots : os ≡ replicate (length ks) Root
  sections : (x : List ℕ) (s : ℕ) → meant x names ≡ Some (ASection s) → s < length ks
  scalars : (x : List ℕ) (k : ℕ) → meant x names ≡ Some (AScalar k) → k < slots

abbrev BeginsAt : Scope → Type 0
BeginsAt here = Begins here.names here.slot here.sections here.kinds

section_among : (b : Bool) (k n s : ℕ) (o : Option Meant) → k < n → (o ≡ Some (ASection s) → s < n)
    → (if b then Some (ASection k) else o) ≡ Some (ASection s) → s < n
section_among true k n s o new old h = let e : k ≡ s = cc in omega arith
section_among false k n s o new old h = old h

scalar_among : (b : Bool) (k n j : ℕ) (o : Option Meant) → k < n → (o ≡ Some (AScalar j) → j < n)
    → (if b then Some (AScalar k) else o) ≡ Some (AScalar j) → j < n
scalar_among true k n j o new old h = let e : k ≡ j = cc in omega arith
scalar_among false k n j o new old h = old h

roots_more : (n : ℕ) → replicate n Root ++ Root ∷ [] ≡ replicate (suc n) Root
roots_more zero = refl
roots_more (suc n) = ap (λ os. Root ∷ os) (roots_more n)

begins_empty : (label : ℕ) → BeginsAt (empty_scope label)
begins_empty label = record { roots = refl; sections = λ x s h. absurd cc; scalars = λ x k h. absurd cc }

begins_root : (x : List ℕ) (k : Parameter) (here : Scope) → BeginsAt here → BeginsAt (with_root x k here)
begins_root x k here begins =
    let more : length (here.kinds ++ k ∷ []) ≡ length here.kinds + 1 = length-append here.kinds (k ∷ []) in
    let one_more : suc (length here.kinds) ≡ length (here.kinds ++ k ∷ []) = omega arith in
    let count : length here.sections ≡ length here.kinds = ap length begins.roots ∙ length-replicate (length here.kinds) Root in
    record {
      roots = ap (λ os. os ++ Root ∷ []) begins.roots ∙ roots_more (length here.kinds) ∙ ap (λ n. replicate n Root) one_more;
      sections = λ y s h. section_among (pointwise nat_eq y x) (length here.sections) (length (here.kinds ++ k ∷ [])) s (meant y here.names)
          (omega arith) (λ old. let lt : s < length here.kinds = begins.sections y s old in omega arith) h;
      scalars = λ y j h. begins.scalars y j (past_section (pointwise nat_eq y x) (length here.sections) j (meant y here.names) h);
    }

begins_scalar : (x : List ℕ) (here : Scope) → BeginsAt here → BeginsAt (with_scalar x here)
begins_scalar x here begins = record {
  roots = begins.roots;
  sections = λ y s h. begins.sections y s (section_or_later (pointwise nat_eq y x) here.slot s (meant y here.names) h);
  scalars = λ y j h. scalar_among (pointwise nat_eq y x) here.slot (here.slot + 1) j (meant y here.names) (omega arith)
      (λ old. let lt : j < here.slot = begins.scalars y j old in omega arith) h;
}

begins_parameters : (ps : List Declared) (here : Scope) → BeginsAt here → BeginsAt (with_parameters ps here)
begins_parameters [] here begins = begins
begins_parameters (Written x t ∷ ps) here begins = begins_parameters ps (with_parameter (Written x t) here) (begins_root x _ here begins)
begins_parameters (Read x t ∷ ps) here begins = begins_parameters ps (with_parameter (Read x t) here) (begins_root x _ here begins)
begins_parameters (Scalar x ∷ ps) here begins = begins_parameters ps (with_parameter (Scalar x) here) (begins_scalar x here begins)

begins_arrays : (arrays : List DeclaredArray) (here : Scope) → BeginsAt here → BeginsAt (with_arrays arrays here)
begins_arrays [] here begins = begins
begins_arrays (a ∷ arrays) here begins = begins_arrays arrays (with_array a here) (begins_root a.name _ here begins)

pub numbered_roots : (os : List Origin) → ((a : ℕ) → origin_of os a ≡ Root) → IsNumbered os
numbered_roots os h = record {
  left = λ a s e. absurd (no_left (origin_of os a) s (h a) e);
  right = λ a s e. absurd (no_right (origin_of os a) s (h a) e);
  piece = λ a s e. absurd (no_piece (origin_of os a) s (h a) e);
  right_behind = λ a s e. absurd (no_left (origin_of os a) s (h a) e);
  left_before = λ a s e. absurd (no_right (origin_of os a) s (h a) e);
}
  where
    no_left : (o : Origin) (s : ℕ) → o ≡ Root → o ≡ Left s → ⊥
    no_left o s e f = cc

    no_right : (o : Origin) (s : ℕ) → o ≡ Root → o ≡ Right s → ⊥
    no_right o s e f = cc

    no_piece : (o : Origin) (s : ℕ) → o ≡ Root → o ≡ Piece s → ⊥
    no_piece o s e f = cc

default_root : (n a : ℕ) → origin_of (replicate n Root) a ≡ Root
default_root zero a = refl
default_root (suc n) zero = refl
default_root (suc n) (suc a) = default_root n a

known_at_first : (here : Scope) → BeginsAt here → KnownAt here.kinds (numbers_from 0 (length here.kinds)) here
known_at_first here begins =
    let count : length here.sections ≡ length here.kinds = ap length begins.roots ∙ length-replicate (length here.kinds) Root in
    record {
      sections = λ x s h. (let lt : s < length here.kinds = begins.sections x s h in
          numbers_from-member 0 (length here.kinds) s (omega arith) (omega arith));
      scalars = begins.scalars;
      below = λ s m. (let lt : s < length here.kinds = numbers_from-below (length here.kinds) s m in omega arith);
      kinds = record {
        numbered = numbered_roots here.sections root;
        count = sym count;
        kind = λ s lt. ap (parameter_at here.kinds) (sym (root_of-root here.sections s (root s)));
      };
    }
  where
    root : (a : ℕ) → origin_of here.sections a ≡ Root
    root a = ap (λ os. origin_of os a) begins.roots ∙ default_root (length here.kinds) a

root_first : (n : ℕ) (os : List Origin) (k : ℕ) → k < n → slice_get (replicate n Root ++ os) k ≡ Some Root
root_first zero os k h = absurd (omega arith)
root_first (suc n) os zero h = refl
root_first (suc n) os (suc k) h = root_first n os k (omega arith)

module _ (all : List DeclaredProcedure) (p : Program)
    (callable : (x : List ℕ) (k : ℕ) (ps : List Declared) → procedure_of 0 x all ≡ Some (k, ps) → Callable p k ps) where
  -- a procedure, or `main`, whose body starts here
  resolved_sound : (name : List ℕ) (here : Scope) (b : Block) → BeginsAt here → errors all here b ≡ []
      → IsSoundIn p (resolved all name here b)
  resolved_sound name here b begins none =
      let g = resolved all name here b in
      let grows = grows_after b here in
      let known = known_at_first here begins in
      record {
        first = λ k lt. ap (λ os. slice_get os k) (grows.sections ∙ ap (λ os. os ++ grows.more) begins.roots)
            ∙ root_first (length here.kinds) grows.more k lt;
        scalars = grows.slots;
        numbered = (known_after here.kinds all b here (numbers_from 0 (length here.kinds)) known none).kinds.numbered;
        body = follows p g all callable b here (numbers_from 0 (length here.kinds)) known none
            (grows_none (after b here).sections (after b here).slot (after b here).slot (omega arith));
        text = codes_text all here b;
      }

  missing_sound : IsSoundIn p no_procedure
  missing_sound = record {
    first = λ k h. absurd (omega arith);
    scalars = omega arith;
    numbered = numbered_roots [] (λ a. refl);
    body = tt;
    text = tt;
  }

  procedures_sound : (label : ℕ) (fs : List DeclaredProcedure) → procedures_errors all label fs ≡ []
      → (k : ℕ) → IsSoundIn p (slice_index_or (procedures all label fs) k no_procedure)
  procedures_sound label [] none k = missing_sound
  procedures_sound label (f ∷ fs) none zero =
      let here = in_procedure label f.parameters in
      let own = none_right (limit 16 (length f.parameters)) _ (none_left (procedure_errors all label f) _ none) in
      resolved_sound f.name here f.body (begins_parameters f.parameters (empty_scope label) (begins_empty label))
      (none_right (parameter_errors (empty_scope label) f.parameters) _ own)
  procedures_sound label (f ∷ fs) none (suc k) =
      procedures_sound (label_behind label f) fs (none_right (procedure_errors all label f) _ none) k

-- ---- the procedure with a name
kinds_with_parameters : (ps : List Declared) (here : Scope) → (with_parameters ps here).kinds ≡ here.kinds ++ section_kinds ps
kinds_with_parameters [] here = sym (append-nil here.kinds)
kinds_with_parameters (Written x t ∷ ps) here =
    kinds_with_parameters ps (with_parameter (Written x t) here) ∙ append_assoc here.kinds _ (section_kinds ps)
kinds_with_parameters (Read x t ∷ ps) here =
    kinds_with_parameters ps (with_parameter (Read x t) here) ∙ append_assoc here.kinds _ (section_kinds ps)
kinds_with_parameters (Scalar x ∷ ps) here = kinds_with_parameters ps (with_parameter (Scalar x) here)

slots_with_parameters : (ps : List Declared) (here : Scope) → (with_parameters ps here).slot ≡ here.slot + scalar_count ps
slots_with_parameters [] here = omega arith
slots_with_parameters (Written x t ∷ ps) here = slots_with_parameters ps (with_parameter (Written x t) here)
slots_with_parameters (Read x t ∷ ps) here = slots_with_parameters ps (with_parameter (Read x t) here)
slots_with_parameters (Scalar x ∷ ps) here =
    let others : (with_parameters ps (with_scalar x here)).slot ≡ here.slot + 1 + scalar_count ps =
    slots_with_parameters ps (with_parameter (Scalar x) here) in omega arith

-- the procedure with this number among some
record Called (rs : List Procedure) (i : ℕ) (ps : List Declared) : Type 0 where
  there : i < length rs
  parameters : (slice_index_or rs i no_procedure).parameters ≡ section_kinds ps
  scalars : (slice_index_or rs i no_procedure).scalars ≡ scalar_count ps

record Found (n : ℕ) (rs : List Procedure) (k : ℕ) (ps : List Declared) : Type 0 where
  place : ℕ
  number : k ≡ n + place
  called : Called rs place ps

module _ (all : List DeclaredProcedure) (x : List ℕ) where
  found_first : (n label : ℕ) (f : DeclaredProcedure) (rest : List Procedure) (k : ℕ) (ps : List Declared)
      → n ≡ k → f.parameters ≡ ps
      → Found n (resolved all f.name (in_procedure label f.parameters) f.body ∷ rest) k ps
  found_first n label f rest k ps number same = record {
    place = 0;
    number = omega arith;
    called = record {
      there = omega arith;
      parameters = kinds_with_parameters f.parameters (empty_scope label) ∙ ap section_kinds same;
      scalars = slots_with_parameters f.parameters (empty_scope label) ∙ zero_plus (scalar_count f.parameters) ∙ ap scalar_count same;
    };
  }
    where
      zero_plus : (m : ℕ) → 0 + m ≡ m
      zero_plus m = omega arith

  found_later : (n : ℕ) (r : Procedure) (rest : List Procedure) (k : ℕ) (ps : List Declared) → Found (n + 1) rest k ps
      → Found n (r ∷ rest) k ps
  found_later n r rest k ps f =
      let at : k ≡ n + 1 + f.place = f.number in
      let inside : f.place < length rest = f.called.there in
      record {
        place = suc f.place;
        number = omega arith;
        called = record { there = omega arith; parameters = f.called.parameters; scalars = f.called.scalars };
      }

  found_by : (b : Bool) (n label : ℕ) (f : DeclaredProcedure) (rest : List Procedure) (o : Option (ℕ × List Declared)) (k : ℕ)
      (ps : List Declared)
      → (o ≡ Some (k, ps) → Found (n + 1) rest k ps)
      → (if b then Some (n, f.parameters) else o) ≡ Some (k, ps)
      → Found n (resolved all f.name (in_procedure label f.parameters) f.body ∷ rest) k ps
  found_by true n label f rest o k ps later h =
      let same = same_Some _ _ h in found_first n label f rest k ps (ap (λ y. y.0) same) (ap (λ y. y.1) same)
  found_by false n label f rest o k ps later h = found_later n _ rest k ps (later h)

  found : (n label : ℕ) (fs : List DeclaredProcedure) (k : ℕ) (ps : List Declared) → procedure_of n x fs ≡ Some (k, ps)
      → Found n (procedures all label fs) k ps
  found n label [] k ps h = absurd (none-some (k, ps) h)
  found n label (f ∷ fs) k ps h =
      found_by (pointwise nat_eq x f.name) n label f (procedures all (label_behind label f) fs) (procedure_of (n + 1) x fs) k ps
      (found (n + 1) (label_behind label f) fs k ps) h

-- every call of a resolved program calls a procedure that exists
callable : (fs : List DeclaredProcedure) (m : Main) (x : List ℕ) (k : ℕ) (ps : List Declared) → procedure_of 0 x fs ≡ Some (k, ps)
    → Callable (with_main fs m) k ps
callable fs m x k ps h =
    let f = found fs x 0 1 fs k ps h in
    let number : f.place ≡ k = zero_plus f.place (sym f.number) in
    subst (λ i. Callable (with_main fs m) i ps) number
    (record { there = f.called.there; parameters = f.called.parameters; scalars = f.called.scalars })
  where
    zero_plus : (i : ℕ) → 0 + i ≡ k → i ≡ k
    zero_plus i e = omega arith

-- ---- the program
kinds_with_arrays : (arrays : List DeclaredArray) (here : Scope)
    → (with_arrays arrays here).kinds ≡ here.kinds ++ map as_parameter (map array arrays)
kinds_with_arrays [] here = sym (append-nil here.kinds)
kinds_with_arrays (a ∷ arrays) here =
    kinds_with_arrays arrays (with_array a here) ∙ append_assoc here.kinds _ (map as_parameter (map array arrays))

slots_with_arrays : (arrays : List DeclaredArray) (here : Scope) → (with_arrays arrays here).slot ≡ here.slot
slots_with_arrays [] here = refl
slots_with_arrays (a ∷ arrays) here = slots_with_arrays arrays (with_array a here)

-- ---- Y9: labels
label_within : (all : List DeclaredProcedure) (label : ℕ) (f : DeclaredProcedure) → label ≤ 65536
    → procedure_errors all label f ≡ []
    → label_behind label f ≤ 65536
label_within all label f within none =
    let here = in_procedure label f.parameters in
    let same : here.label ≡ label = label_with_parameters f.parameters (empty_scope label) in
    label_after all f.body here (omega arith)
    (none_right (parameter_errors (empty_scope label) f.parameters) _ (none_right (limit 16 (length f.parameters)) _ none))

labels_within : (all : List DeclaredProcedure) (label : ℕ) (fs : List DeclaredProcedure) → label ≤ 65536
    → procedures_errors all label fs ≡ []
    → label_behind_all label fs ≤ 65536
labels_within all label [] within none = within
labels_within all label (f ∷ fs) within none =
    labels_within all (label_behind label f) fs (label_within all label f within (none_left (procedure_errors all label f) _ none))
    (none_right (procedure_errors all label f) _ none)

few_labels : (fs : List DeclaredProcedure) (m : Main) → procedures_errors fs 1 fs ≡ []
    → errors fs (in_main (label_behind_all 1 fs) m.arrays) m.body ≡ [] → length (labels_of_program (with_main fs m)) ≤ 65535
few_labels fs m before none =
    let label = label_behind_all 1 fs in
    let here = in_main label m.arrays in
    let same : here.label ≡ label = label_with_arrays m.arrays (empty_scope label) in
    let first : label ≤ 65536 = labels_within fs 1 fs (omega arith) before in
    let last : (after m.body here).label ≤ 65536 = label_after fs m.body here (omega arith) none in
    let count : (after m.body here).label ≡ 1 + length (labels_of_program (with_main fs m)) = last_label fs m in
    omega arith

with_main_sound : (fs : List DeclaredProcedure) (m : Main) → errors_of (record { procedures = fs; main = Some m }) ≡ []
    → IsSound (with_main fs m)
with_main_sound fs m none =
    let p = with_main fs m in
    let label = label_behind_all 1 fs in
    let bodies = none_right (name_errors [] fs) _ (none_right (limit 256 (length fs)) _ none) in
    let before = none_left (procedures_errors fs 1 fs) _ bodies in
    let main = none_right (array_errors (empty_scope label) m.arrays) _ (none_right (limit 4194304 _) _
    (none_right (limit 32 (length m.arrays)) _ (none_right (procedures_errors fs 1 fs) _ bodies))) in
    record {
      procedures = procedures_sound fs p (callable fs m) 1 fs before;
      main = resolved_sound fs p (callable fs m) _ (in_main label m.arrays) m.body
          (begins_arrays m.arrays (empty_scope label) (begins_empty label)) main;
      arrays = kinds_with_arrays m.arrays (empty_scope label);
      no_scalars = slots_with_arrays m.arrays (empty_scope label);
      labels = labels_are_counted (record { procedures = fs; main = Some m }) p refl;
      few_labels = few_labels fs m before main;
    }

resolved_main_sound : (fs : List DeclaredProcedure) (m : Option Main) (p : Program)
    → errors_of (record { procedures = fs; main = m }) ≡ []
    → resolution (record { procedures = fs; main = m }) ≡ Some p → IsSound p
resolved_main_sound fs None p none is = absurd (none-some p is)
resolved_main_sound fs (Some m) p none is = subst IsSound (same_Some _ _ is) (with_main_sound fs m none)

pub resolved_texts_are_sound : (t : Text) (p : Program) → errors_of t ≡ [] → resolution t ≡ Some p → IsSound p
resolved_texts_are_sound t p none is = resolved_main_sound t.procedures t.main p none is
