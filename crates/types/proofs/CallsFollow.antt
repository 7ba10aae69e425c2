-- Calls without errors follow the rules.
use Rattle.std.proofs.Common.{◌≡◌, ◌≢◌, inl, inr, ℕ, zero, suc, ◌<◌, ◌≤◌, Bool, true, false, ◌&&◌, ◌||◌, List, [], ◌∷◌}
use Rattle.std.proofs.Common.{length, map, Option, Some, None, refl, sym, ap, ◌∙◌, subst, arith, if◌then◌else◌}
use Rattle.std.proofs.lemmas.Bool.{cases_order, or_parts, or_left, or_right, true≢false}
use Rattle.std.specs.Prelude.{slice_index_or}
use Rattle.std.specs.List.{AllByRecursion, list_any}
use Rattle.sections.specs.Member.{Member}
use Rattle.sections.specs.Origins.{Origin}
use Rattle.sections.specs.Overlap.{root_of, overlap}
use Rattle.sections.proofs.Overlapping.{overlap-sym}
use Rattle.syntax_tree.specs.declared.tree.ElementType.{ElementType}
use Rattle.syntax_tree.specs.declared.tree.ElementType.TheVariants.{Int, Byte}
use Rattle.syntax_tree.specs.Tree.{Expr, Atom, Number, True, False, Name, Element, Length, Parens, lone_atom}
use Rattle.syntax_tree.specs.Tree.{Parameter as Declared, Written, Read, Scalar, Procedure as DeclaredProcedure}
use Rattle.types.specs.CallErrors.{Passed, and_passed, and_named, passed, same_element, clash, overlapping, wrong_arguments}
use Rattle.types.specs.CallErrors.{passing, passing_named, passing_atom, argument, arguments, calling}
use Rattle.types.specs.Code.{Parameter, Procedure, Program}
use Rattle.types.specs.NameErrors.{writing}
use Rattle.types.specs.Resolution as resolution
use Rattle.types.specs.Run.{procedure_of}
use Rattle.types.specs.Scope.{Meant, ASection, AScalar, meant, section_or_0, Scope, kind_of}
use Rattle.types.specs.Sound.{parameter_at, may_write, parameter_of, is_writable, passed_for, NumberFollows}
use Rattle.types.specs.Sound.{PassesWell, FollowsOf}
use Rattle.types.proofs.ExpressionsFollow.{Knows, number_follows}
use Rattle.types.proofs.Growth.{Grows}
use Rattle.types.proofs.Known.{KnownAt}
use Rattle.types.proofs.Prefixes.{root-prefix, overlap-prefix}
use Rattle.types.proofs.LabelLimit.{none_left, none_right}
use Rattle.types.proofs.Refused.{refused, test_passed, test_failed}

-- the kinds of the section parameters, and the number of scalar ones
abbrev pub section_kinds : List Declared → List Parameter
section_kinds [] = []
section_kinds (Written x t ∷ ps) = record { may_write = true; element = t } ∷ section_kinds ps
section_kinds (Read x t ∷ ps) = record { may_write = false; element = t } ∷ section_kinds ps
section_kinds (Scalar x ∷ ps) = section_kinds ps

abbrev pub scalar_count : List Declared → ℕ
scalar_count [] = 0
scalar_count (Written x t ∷ ps) = scalar_count ps
scalar_count (Read x t ∷ ps) = scalar_count ps
scalar_count (Scalar x ∷ ps) = suc (scalar_count ps)

-- the procedure with a number has these parameters
pub record Callable (p : Program) (k : ℕ) (ps : List Declared) : Type 0 where
  pub there : k < length p.procedures
  pub parameters : (procedure_of p k).parameters ≡ section_kinds ps
  pub scalars : (procedure_of p k).scalars ≡ scalar_count ps

-- ---- one argument
same_elements : (a b : ElementType) → same_element a b ≡ true → b ≡ a
same_elements Int Int h = refl
same_elements Byte Byte h = refl
same_elements Int Byte h = absurd (true≢false (sym h))
same_elements Byte Int h = absurd (true≢false (sym h))

written_if_wanted : (label : ℕ) (w : Bool) (a : Parameter) → (if w then writing label a else []) ≡ [] → w ≡ true
    → a.may_write ≡ true
written_if_wanted label true a none h = test_passed a.may_write _ none
written_if_wanted label false a none h = absurd (true≢false (sym h))

abbrev section : Passed → ℕ
section a = a.0

module _ (label : ℕ) (here : Scope) (scope : List ℕ)
    (known : (x : List ℕ) (s : ℕ) → meant x here.names ≡ Some (ASection s) → Member s scope) where
  -- an argument that fits a parameter
  record Suits (k : Parameter) (a : Passed) : Type 0 where
    marked : a.1 ≡ k.may_write
    in_scope : Member a.0 scope
    element : (kind_of here a.0).element ≡ k.element
    writable : k.may_write ≡ true → (kind_of here a.0).may_write ≡ true

  kind_suits : (k : Parameter) (s : ℕ) → Member s scope → passing label here k (kind_of here s) ≡ [] → Suits k (s, k.may_write)
  kind_suits k s there none =
      let a = kind_of here s in
      let first = if same_element k.element a.element then [] else wrong_arguments label here in
      record {
        marked = refl;
        in_scope = there;
        element = same_elements k.element a.element (test_passed (same_element k.element a.element) _ (none_left first _ none));
        writable = written_if_wanted label k.may_write a (none_right first _ none);
      }

  -- the section that an argument names, before others
  record Given (k : Parameter) (all : List Passed) (named : ℕ) (rest : List Passed) : Type 0 where
    passes : all ≡ (named, k.may_write) ∷ rest
    suits : Suits k (named, k.may_write)

  meant_suits : (k : Parameter) (m : Option Meant) (rest : List Passed) → ((s : ℕ) → m ≡ Some (ASection s) → Member s scope)
      → passing_named label here k m ≡ [] → Given k (and_passed m k.may_write rest) (section_or_0 m) rest
  meant_suits k None rest there none = refused none
  meant_suits k (Some (AScalar x)) rest there none = refused none
  meant_suits k (Some (ASection s)) rest there none = record { passes = refl; suits = kind_suits k s (there s refl) none }

  atom_suits : (k : Parameter) (a : Option Atom) (rest : List Passed) → passing_atom label here k a ≡ []
      → Given k (and_named here.names a k.may_write rest) (resolution.named_by here.names a) rest
  atom_suits k (Some (Name x)) rest none = meant_suits k (meant x here.names) rest (known x) none
  atom_suits k (Some (Number n)) rest none = refused none
  atom_suits k (Some True) rest none = refused none
  atom_suits k (Some False) rest none = refused none
  atom_suits k (Some (Element s i)) rest none = refused none
  atom_suits k (Some (Length s)) rest none = refused none
  atom_suits k (Some (Parens e)) rest none = refused none
  atom_suits k None rest none = refused none

  -- ---- all arguments
  abbrev AllSuit : List Parameter → List Passed → Type 0
  AllSuit [] [] = Unit {0}
  AllSuit [] (a ∷ given) = ⊥
  AllSuit (k ∷ ks) [] = ⊥
  AllSuit (k ∷ ks) (a ∷ given) = Suits k a × AllSuit ks given

  module _ (g : Procedure) (knows : Knows g.slots scope here.names) where
    record ArgumentsSuit (ps : List Declared) (es : List Expr) : Type 0 where
      suit : AllSuit (section_kinds ps) (passed here.names ps es)
      sections : resolution.sections_for here.names ps es ≡ map section (passed here.names ps es)
      count : length (resolution.values_for here.names ps es) ≡ scalar_count ps
      values : AllByRecursion (NumberFollows g scope) (resolution.values_for here.names ps es)

    -- an argument for a section parameter, before others
    one_more : (k : Parameter) (e : Expr) (ps : List Declared) (es : List Expr)
        → passing_atom label here k (lone_atom e) ≡ [] → ArgumentsSuit ps es
        → AllSuit (k ∷ section_kinds ps) (and_named here.names (lone_atom e) k.may_write (passed here.names ps es))
        × (resolution.named_by here.names (lone_atom e) ∷ resolution.sections_for here.names ps es
        ≡ map section (and_named here.names (lone_atom e) k.may_write (passed here.names ps es)))
    one_more k e ps es none others =
        let given = atom_suits k (lone_atom e) (passed here.names ps es) none in (
          subst (AllSuit (k ∷ section_kinds ps)) (sym given.passes) (given.suits, others.suit),
          ap (λ l. resolution.named_by here.names (lone_atom e) ∷ l) others.sections ∙ ap (map section)
              (sym given.passes),
        )

    arguments_suit : (ps : List Declared) (es : List Expr) → arguments label here ps es ≡ [] → ArgumentsSuit ps es
    arguments_suit [] [] none = record { suit = tt; sections = refl; count = refl; values = tt }
    arguments_suit [] (e ∷ es) none = refused none
    arguments_suit (Written x t ∷ ps) [] none = refused none
    arguments_suit (Read x t ∷ ps) [] none = refused none
    arguments_suit (Scalar x ∷ ps) [] none = refused none
    arguments_suit (Written x t ∷ ps) (e ∷ es) none =
        let others = arguments_suit ps es (none_right (argument label here (Written x t) e) _ none) in
        let here_none = none_left (argument label here (Written x t) e) _ none in
        let all = one_more (record { may_write = true; element = t }) e ps es here_none others in
        record { suit = all.0; sections = all.1; count = others.count; values = others.values }
    arguments_suit (Read x t ∷ ps) (e ∷ es) none =
        let others = arguments_suit ps es (none_right (argument label here (Read x t) e) _ none) in
        let here_none = none_left (argument label here (Read x t) e) _ none in
        let all = one_more (record { may_write = false; element = t }) e ps es here_none others in
        record { suit = all.0; sections = all.1; count = others.count; values = others.values }
    arguments_suit (Scalar x ∷ ps) (e ∷ es) none =
        let others = arguments_suit ps es (none_right (argument label here (Scalar x) e) _ none) in
        record {
          suit = others.suit;
          sections = others.sections;
          count = ap suc others.count;
          values = (
            number_follows g scope label here.names knows e (none_left (argument label here (Scalar x) e) _ none),
            others.values,
          );
        }

  -- ---- by number
  suit_length : (ks : List Parameter) (given : List Passed) → AllSuit ks given → length given ≡ length ks
  suit_length [] [] h = refl
  suit_length [] (a ∷ given) h = absurd h
  suit_length (k ∷ ks) [] h = absurd h
  suit_length (k ∷ ks) (a ∷ given) h = ap suc (suit_length ks given h.1)

  suit_at : (ks : List Parameter) (given : List Passed) → AllSuit ks given → (j : ℕ) → j < length given
      → Suits (parameter_at ks j) (slice_index_or given j (0, false))
  suit_at [] [] h j lt = absurd (omega arith)
  suit_at [] (a ∷ given) h j lt = absurd h
  suit_at (k ∷ ks) [] h j lt = absurd h
  suit_at (k ∷ ks) (a ∷ given) h zero lt = h.0
  suit_at (k ∷ ks) (a ∷ given) h (suc j) lt = suit_at ks given h.1 j (omega arith)

section_at : (given : List Passed) (j : ℕ) → slice_index_or (map section given) j 0 ≡ (slice_index_or given j (0, false)).0
section_at [] j = refl
section_at (a ∷ given) zero = refl
section_at (a ∷ given) (suc j) = section_at given j

length_sections : (given : List Passed) → length (map section given) ≡ length given
length_sections [] = refl
length_sections (a ∷ given) = ap suc (length_sections given)

written_is_there : (ks : List Parameter) (k : ℕ) → may_write ks k ≡ true → k < length ks
written_is_there [] k h = absurd (true≢false (sym h))
written_is_there (x ∷ ks) zero h = omega arith
written_is_there (x ∷ ks) (suc k) h = let lt = written_is_there ks k h in omega (arith, lt)

-- ---- Y7
none_passes : (test : Passed → Bool) (given : List Passed) → list_any test given ≡ false → (j : ℕ) → j < length given
    → test (slice_index_or given j (0, false)) ≡ false
none_passes test [] h j lt = absurd (omega arith)
none_passes test (a ∷ given) h zero lt = (or_parts (test a) (list_any test given) h).0
none_passes test (a ∷ given) h (suc j) lt = none_passes test given (or_parts (test a) (list_any test given) h).1 j (omega arith)

second_false : (x y : Bool) → x ≡ true → (x && y) ≡ false → y ≡ false
second_false true y e h = h
second_false false y e h = absurd (true≢false (sym e))

apart_in_turn : (os : List Origin) (given : List Passed) → overlapping os given ≡ false → (k j : ℕ) → k < j → j < length given
    → ((slice_index_or given k (0, false)).1 || (slice_index_or given j (0, false)).1) ≡ true
    → overlap os (slice_index_or given k (0, false)).0 (slice_index_or given j (0, false)).0 ≡ false
apart_in_turn os [] h k j lt inside w = absurd (omega arith)
apart_in_turn os (a ∷ given) h k zero lt inside w = absurd (omega arith)
apart_in_turn os (a ∷ given) h zero (suc j) lt inside w =
    let b = slice_index_or given j (0, false) in
    second_false (a.1 || b.1) (overlap os a.0 b.0) w
    (none_passes (clash os a) given (or_parts (list_any (clash os a) given) (overlapping os given) h).0 j (omega arith))
apart_in_turn os (a ∷ given) h (suc k) (suc j) lt inside w =
    apart_in_turn os given (or_parts (list_any (clash os a) given) (overlapping os given) h).1 k j (omega arith) (omega arith) w

apart_in_pairs : (os : List Origin) (given : List Passed) → overlapping os given ≡ false → (k j : ℕ) → k ≢ j
    → k < length given → j < length given → (slice_index_or given k (0, false)).1 ≡ true
    → overlap os (slice_index_or given k (0, false)).0 (slice_index_or given j (0, false)).0 ≡ false
apart_in_pairs os given h k j apart first second w =
    let a = slice_index_or given k (0, false) in
    let b = slice_index_or given j (0, false) in
    elim (cases_order k j) [
      | inl e ↦ absurd (apart e)
      | inr (inl lt) ↦ apart_in_turn os given h k j lt second (or_left a.1 b.1 w)
      | inr (inr lt) ↦ overlap-sym os a.0 b.0 ∙ apart_in_turn os given h j k lt first (or_right b.1 a.1 w)
    ]

-- ---- a call
-- what the sections of the scope are in the whole procedure
module _ (g : Procedure) (scope : List ℕ) (here : Scope) (known : KnownAt g.parameters scope here)
    (grows : Grows here.sections here.slot g.sections g.slots) where
  pub kind_is : (s : ℕ) → Member s scope → kind_of here s ≡ parameter_of g s
  kind_is s m =
      known.kinds.kind s (known.below s m)
      ∙ ap (parameter_at g.parameters) (sym (ap (λ os. root_of os s) grows.sections
      ∙ root-prefix here.sections grows.more known.kinds.numbered s (known.below s m)))

  overlap_is : (a b : ℕ) → Member a scope → Member b scope → overlap g.sections a b ≡ overlap here.sections a b
  overlap_is a b m n =
      ap (λ os. overlap os a b) grows.sections
      ∙ overlap-prefix here.sections grows.more known.kinds.numbered a b (known.below a m) (known.below b n)

  pub knows : Knows g.slots scope here.names
  knows = record {
    sections = known.sections;
    scalars = λ x k h. (let lt : k < here.slot = known.scalars x k h in let more : here.slot ≤ g.slots = grows.slots in omega arith);
  }

  module _ (label : ℕ) where
    abbrev SuitHere : List Parameter → List Passed → Type 0
    SuitHere = AllSuit label here scope known.sections

    passes_well : (ks : List Parameter) (given : List Passed) → SuitHere ks given → overlapping here.sections given ≡ false
        → PassesWell g scope ks (map section given)
    passes_well ks given suit apart = record {
      number = length_sections given ∙ count;
      in_scope = λ k lt. subst (λ s. Member s scope) (sym (section_at given k)) (suits k (inside k lt)).in_scope;
      element = λ k lt.
          ap (λ s. (parameter_of g s).element) (section_at given k)
          ∙ ap (λ (x : Parameter). x.element) (sym (kind_is (at k).0 (suits k (inside k lt)).in_scope))
          ∙ (suits k (inside k lt)).element;
      writable = λ k w.
          (let lt : k < length given = subst (λ n. k < n) (sym count) (written_is_there ks k w) in
          ap (is_writable g) (section_at given k)
          ∙ ap (λ (x : Parameter). x.may_write) (sym (kind_is (at k).0 (suits k lt).in_scope))
          ∙ (suits k lt).writable w);
      alone = λ k j ne lt w.
          (let first : k < length given = subst (λ n. k < n) (sym count) (written_is_there ks k w) in
          let second = inside j lt in
          ap (λ s. overlap g.sections s (passed_for (map section given) j)) (section_at given k)
          ∙ ap (overlap g.sections (at k).0) (section_at given j)
          ∙ overlap_is (at k).0 (at j).0 (suits k first).in_scope (suits j second).in_scope
          ∙ apart_in_pairs here.sections given apart k j ne first second ((suits k first).marked ∙ w));
    }
      where
        at : ℕ → Passed
        at k = slice_index_or given k (0, false)

        count : length given ≡ length ks
        count = suit_length label here scope known.sections ks given suit

        inside : (k : ℕ) → k < length (map section given) → k < length given
        inside k lt = subst (λ n. k < n) (length_sections given) lt

        suits : (k : ℕ) → k < length given
            → Suits label here scope known.sections (parameter_at ks k) (slice_index_or given k (0, false))
        suits k lt = suit_at label here scope known.sections ks given suit k lt

    module _ (p : Program) (fs : List DeclaredProcedure) where
      pub call_follows : (o : Option (ℕ × List Declared)) (es : List Expr)
          → ((k : ℕ) (ps : List Declared) → o ≡ Some (k, ps) → Callable p k ps)
          → calling label here o es ≡ [] → FollowsOf p g scope (resolution.call fs here.names o es)
      call_follows None es callable none = refused none
      call_follows (Some f) es callable none =
          let callee = callable f.0 f.1 refl in
          let suit = arguments_suit label here scope known.sections g knows f.1 es (none_left (arguments label here f.1 es) _ none) in
          let apart = test_failed (overlapping here.sections (passed here.names f.1 es)) _
          (none_right (arguments label here f.1 es) _ none) in
          record {
            there = callee.there;
            number = suit.count ∙ sym callee.scalars;
            values = suit.values;
            passes = subst (λ ss. PassesWell g scope (procedure_of p f.0).parameters ss) (sym suit.sections)
                (subst (λ ks. PassesWell g scope ks (map section (passed here.names f.1 es))) (sym callee.parameters)
                (passes_well (section_kinds f.1) (passed here.names f.1 es) suit.suit apart));
          }
