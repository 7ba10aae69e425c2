-- Worked programs: their clashes, and three sound programs, two of which are accepted.
use Rattle.std.proofs.Common.{◌≡◌, ◌≢◌, ℕ, zero, suc, ◌+◌, ◌-◌, ◌^◌, ◌<◌, ◌≤◌, List, [], ◌∷◌, refl, sym, ap, ◌∙◌, arith}
use Rattle.std.proofs.Common.{true≢false}
use Rattle.std.specs.Prelude.{true, false, filter, slice_get, Some}
use Rattle.syntax_tree.specs.declared.tree.ElementType.TheVariants.{Int}
use Rattle.syntax_tree.specs.declared.tree.Relation.TheVariants.{Equal}
use Rattle.sections.specs.Origins.{Origin, Root, Left, Right, Piece, origin_of, IsNumbered}
use Rattle.sections.specs.Member.{Member, first, next}
use Rattle.sections.specs.Overlap.{overlap}
use Rattle.types.specs.declared.code.Operator.TheVariants.{Times}
use Rattle.types.specs.Code.{Element, Length, Chain, Link, Done, Compare, Store, Print, Do, If, Call, Async, Finish}
use Rattle.types.specs.Code.{Codes, End, Then, Parameter, Procedure, Program}
use Rattle.types.specs.Run.{procedure_of, no_procedure}
use Rattle.types.proofs.Programs.{◌⨾◌, lit, ints, main_of as program_of, two_arrays, twice, doubling, two_readers}
use Rattle.types.proofs.ProgramsSound.{numbered_roots}
use Rattle.effects.specs.Accesses.{Access}
use Rattle.effects.specs.Effects.{accesses}
use Rattle.effects.specs.Rounds.{summaries, pending_summaries}
use Rattle.types.specs.Sound.{parameter_at, may_write, parameter_of, is_writable, passed_for, StoresWell, SplitsWell}
use Rattle.types.specs.Sound.{PassesWell, CallsWell, Follows, IsSoundIn, IsSound}
use Rattle.effects.proofs.EnvironmentsFit.{root_left, root_right, root_piece, left_right, left_piece, right_piece, one_left, one_right}
use Rattle.parallel_relation.specs.Meetings.{met_in}
use Rattle.parallel_relation.proofs.Programs.{unfinished, two_splits, split_in_loop, spawner, call_then_store}
use Rattle.parallel_relation.proofs.Programs.{readers_and_writer, copying}
use Rattle.race_checker.specs.Clash.{IsAccepted}
use Rattle.race_checker.specs.Acceptance.{is_clash, is_accepted}
use Rattle.race_checker.proofs.Deciding.{accepted_exact}

-- Clashes, as lists

abbrev reads : ℕ → ℕ → Access
reads l s = record { label = l; section = s; write = false }

abbrev writes : ℕ → ℕ → Access
writes l s = record { label = l; section = s; write = true }

-- the clashes of a procedure
abbrev clashes : Program → Procedure → List (Access × Access)
clashes p g =
    filter (is_clash g.sections) (met_in accesses (summaries p) (pending_summaries p) g.body)

-- finish { async { a[0] = 7; } b[0] = 8; } print a[0], b[0];
two_arrays_accepted : clashes two_arrays two_arrays.main ≡ []
two_arrays_accepted = refl

unfinished_races : clashes unfinished unfinished.main ≡ (writes 2 0, reads 4 0) ∷ []
unfinished_races = refl

two_splits_race : clashes two_splits two_splits.main ≡ (writes 5 1, writes 6 3) ∷ []
two_splits_race = refl

split_in_loop_races : clashes split_in_loop split_in_loop.main ≡ (writes 6 0, writes 6 0) ∷ []
split_in_loop_races = refl

two_readers_accepted : clashes two_readers two_readers.main ≡ []
two_readers_accepted = refl

call_then_store_races : clashes call_then_store call_then_store.main ≡ (writes 2 0, writes 5 0) ∷ []
call_then_store_races = refl

spawner_accepted : clashes call_then_store spawner ≡ []
spawner_accepted = refl

readers_and_writer_race : clashes readers_and_writer readers_and_writer.main ≡ (reads 3 0, writes 6 0) ∷ (reads 5 0, writes 6 0) ∷ []
readers_and_writer_race = refl

copying_accepted : clashes copying copying.main ≡ []
copying_accepted = refl

sides_may_be_passed : overlap copying.main.sections 1 2 ≡ false
sides_may_be_passed = refl

one_array_twice : overlap copying.main.sections 0 0 ≡ true
one_array_twice = refl

doubling_clashes : clashes (doubling 16) twice ≡ []
doubling_clashes = refl

-- The doubling program is sound

numbered_sides : IsNumbered twice.sections
numbered_sides = record {
  left = left_later;
  right = right_later;
  piece = no_piece;
  right_behind = right_behind;
  left_before = left_before;
}
  where
    left_later : (a s : ℕ) → origin_of twice.sections a ≡ Left s → s < a
    left_later zero s e = root_left refl e
    left_later (suc zero) s e = let h : 0 ≡ s = one_left refl e in omega arith
    left_later (suc (suc zero)) s e = left_right e refl
    left_later (suc (suc (suc n))) s e = root_left refl e

    right_later : (a s : ℕ) → origin_of twice.sections a ≡ Right s → s < a
    right_later zero s e = root_right refl e
    right_later (suc zero) s e = left_right refl e
    right_later (suc (suc zero)) s e = let h : 0 ≡ s = one_right refl e in omega arith
    right_later (suc (suc (suc n))) s e = root_right refl e

    no_piece : (a s : ℕ) → origin_of twice.sections a ≡ Piece s → s < a
    no_piece zero s e = root_piece refl e
    no_piece (suc zero) s e = left_piece refl e
    no_piece (suc (suc zero)) s e = right_piece refl e
    no_piece (suc (suc (suc n))) s e = root_piece refl e

    right_behind : (a s : ℕ) → origin_of twice.sections a ≡ Left s → origin_of twice.sections (a + 1) ≡ Right s
    right_behind zero s e = root_left refl e
    right_behind (suc zero) s e = ap Right (one_left refl e)
    right_behind (suc (suc zero)) s e = left_right e refl
    right_behind (suc (suc (suc n))) s e = root_left refl e

    left_before : (a s : ℕ) → origin_of twice.sections a ≡ Right s → origin_of twice.sections (a - 1) ≡ Left s
    left_before zero s e = root_right refl e
    left_before (suc zero) s e = left_right refl e
    left_before (suc (suc zero)) s e = ap Left (one_right refl e)
    left_before (suc (suc (suc n))) s e = root_right refl e

one_root : (a : ℕ) → origin_of (Root ∷ []) a ≡ Root
one_root zero = refl
one_root (suc n) = refl

-- small numbers, and the first element of a section
small : (n : ℕ) → n < 10 → n < 2 ^ 63
small n h = let k : 10 ≤ 2 ^ 63 = 10-small in omega (arith, h, k)
  where
    10-small : 10 ≤ 2 ^ 63
    10-small = omega arith

-- one argument for one parameter that may be written
one_argument : (g : Procedure) (scope : List ℕ) (a : ℕ) → Member a scope
    → parameter_of g a ≡ record { may_write = true; element = Int }
    → PassesWell g scope twice.parameters (a ∷ [])
one_argument g scope a m e = record { number = refl; element = element; in_scope = in_scope; writable = writable; alone = alone }
  where
    element : (k : ℕ) → k < 1 → (parameter_of g (passed_for (a ∷ []) k)).element ≡ (parameter_at twice.parameters k).element
    element zero h = ap (λ (x : Parameter). x.element) e
    element (suc k) h = absurd (omega arith)

    in_scope : (k : ℕ) → k < 1 → Member (passed_for (a ∷ []) k) scope
    in_scope zero h = m
    in_scope (suc k) h = absurd (omega arith)

    writable : (k : ℕ) → may_write twice.parameters k ≡ true → is_writable g (passed_for (a ∷ []) k) ≡ true
    writable zero h = ap (λ (x : Parameter). x.may_write) e
    writable (suc k) h = absurd (true≢false (sym h))

    alone : (k j : ℕ) → k ≢ j → j < 1 → may_write twice.parameters k ≡ true
        → overlap g.sections (passed_for (a ∷ []) k) (passed_for (a ∷ []) j) ≡ false
    alone zero zero ne h w = absurd (ne refl)
    alone zero (suc j) ne h w = absurd (omega arith)
    alone (suc k) j ne h w = absurd (true≢false (sym w))

one_call : (n : ℕ) (g : Procedure) (scope : List ℕ) (a : ℕ) → Member a scope
    → parameter_of g a ≡ record { may_write = true; element = Int }
    → CallsWell (doubling n) g scope 0 [] (a ∷ [])
one_call n g scope a m e = record { there = omega arith; number = refl; values = tt; passes = one_argument g scope a m e }

-- a store of a literal
stores : (g : Procedure) (scope : List ℕ) (s n : ℕ) → Member s scope → is_writable g s ≡ true → n < 10
    → StoresWell g scope s (lit 0) (lit n)
stores g scope s n m w h = record { in_scope = m; writable = w; at = small 0 (omega arith); stored = small n h }

splits_0 : SplitsWell twice (0 ∷ []) 0 1 2
splits_0 = record { in_scope = first; left = refl; right = refl; next = refl; later = later }
  where
    later : (x : ℕ) → Member x (0 ∷ []) → x < 1
    later x first = omega arith
    later x (next h) = elim h [ ]

doubles : (n : ℕ) → Follows (doubling n) twice (0 ∷ [])
    ((
      2,
      If (Compare Equal (Length 0) (lit 1))
          ((3, Do (Store 0 (lit 0) (Chain (Element 0 (lit 0)) (Link Times (lit 2) Done)))) ⨾ End) End,
    ) ⨾ End)
doubles n =
    let store : StoresWell twice (0 ∷ []) 0 (lit 0) (Chain (Element 0 (lit 0)) (Link Times (lit 2) Done)) = record {
      in_scope = first;
      writable = refl;
      at = small 0 (omega arith);
      stored = ((first, small 0 (omega arith)), (small 2 (omega arith), tt));
    } in
    (((first, small 1 (omega arith)), (store, tt), tt), tt)

halves : (n : ℕ)
    → Follows (doubling n) twice (1 ∷ 2 ∷ 0 ∷ []) ((5, Async ((6, Call 0 [] (1 ∷ [])) ⨾ End)) ⨾ (7, Call 0 [] (2 ∷ [])) ⨾ End)
halves n =
    let scope = 1 ∷ 2 ∷ 0 ∷ [] in
    ((one_call n twice scope 1 first refl, tt), (one_call n twice scope 2 (next first) refl, tt))

twice_body : (n : ℕ) → Follows (doubling n) twice (0 ∷ []) twice.body
twice_body n = (
  (
    (first, small 1 (omega arith)),
    doubles n,
    ((splits_0, (first, (small 2 (omega arith), tt)), halves n), tt),
  ),
  tt,
)

main_body : (n : ℕ) → Follows (doubling n) (doubling n).main (0 ∷ []) (doubling n).main.body
main_body n = ((one_call n (doubling n).main (0 ∷ []) 0 first refl, tt), tt)

first_root : (origins : List Origin) (k : ℕ) → k < 1 → slice_get (Root ∷ origins) k ≡ Some Root
first_root origins zero h = refl
first_root origins (suc k) h = absurd (omega arith)

-- a procedure that doesn't exist
pub missing_sound : (p : Program) → IsSoundIn p (no_procedure)
missing_sound p = record {
  first = λ k h. absurd (omega arith);
  scalars = omega arith;
  numbered = numbered_roots [] (λ a. refl);
  body = tt;
  text = tt;
}

doubling_procedures : (n f : ℕ) → IsSoundIn (doubling n) (procedure_of (doubling n) f)
doubling_procedures n zero = record {
  first = first_root (Left 0 ∷ Right 0 ∷ []);
  scalars = omega arith;
  numbered = numbered_sides;
  body = twice_body n;
  text = (((((tt, tt), tt), tt), (((tt, tt), (tt, tt)), tt)), tt);
}
doubling_procedures n (suc f) = missing_sound (doubling n)

pub doubling_sound : (n : ℕ) → IsSound (doubling n)
doubling_sound n = record {
  procedures = doubling_procedures n;
  main = record {
    first = first_root [];
    scalars = omega arith;
    numbered = numbered_roots (Root ∷ []) one_root;
    body = main_body n;
    text = ((tt, tt), tt);
  };
  arrays = refl;
  no_scalars = refl;
  labels = refl;
  few_labels = omega arith;
}

-- Two arrays are sound

two_roots : (a : ℕ) → origin_of (Root ∷ Root ∷ []) a ≡ Root
two_roots zero = refl
two_roots (suc zero) = refl
two_roots (suc (suc a)) = refl

two_arrays_body : Follows two_arrays two_arrays.main (0 ∷ 1 ∷ []) two_arrays.main.body
two_arrays_body =
    let g = two_arrays.main in
    let scope : List ℕ = 0 ∷ 1 ∷ [] in
    let zero_fits = small 0 (omega arith) in (
      ((stores g scope 0 7 first refl (omega arith), tt), (stores g scope 1 8 (next first) refl (omega arith), tt)),
      (((first, zero_fits), ((next first, zero_fits), tt)), tt),
    )

pub two_arrays_sound : IsSound two_arrays
two_arrays_sound = record {
  procedures = λ f. missing_sound two_arrays;
  main = record {
    first = first_two;
    scalars = omega arith;
    numbered = numbered_roots (Root ∷ Root ∷ []) two_roots;
    body = two_arrays_body;
    text = (((tt, tt), (tt, tt)), (tt, tt));
  };
  arrays = refl;
  no_scalars = refl;
  labels = refl;
  few_labels = omega arith;
}
  where
    first_two : (k : ℕ) → k < 2 → slice_get (Root ∷ Root ∷ []) k ≡ Some Root
    first_two zero h = refl
    first_two (suc zero) h = refl
    first_two (suc (suc k)) h = absurd (omega (arith, h))

two_arrays_decided : is_accepted two_arrays ≡ true
two_arrays_decided = refl

pub two_arrays_is_accepted : IsAccepted two_arrays
two_arrays_is_accepted = (accepted_exact two_arrays two_arrays_sound).0 two_arrays_decided

-- Doubling by halves is accepted, for arrays of any length

doubling_decided : (n : ℕ) → is_accepted (doubling n) ≡ true
doubling_decided n = refl

pub doubling_accepted : (n : ℕ) → IsAccepted (doubling n)
doubling_accepted n = (accepted_exact (doubling n) (doubling_sound n)).0 (doubling_decided n)

abbrev pub first_child : Codes
first_child = Then 3 (Do (Store 0 (lit 0) (lit 7))) End

-- finish { async { a[0] = 7; } print a[0]; } is sound, but not accepted
abbrev pub racy : Program
racy = program_of (ints 97 1 ∷ []) 0 (Root ∷ [])
    (Then 1 (Finish (Then 2 (Async first_child) (Then 4 (Do (Print (Element 0 (lit 0) ∷ []))) End))) End)

racy_sound : IsSound racy
racy_sound = record {
  procedures = λ f. missing_sound racy;
  main = record {
    first = first_one;
    scalars = omega arith;
    numbered = numbered_roots (Root ∷ []) one_root;
    body = body;
    text = (((tt, tt), (tt, tt)), tt);
  };
  arrays = refl;
  no_scalars = refl;
  labels = refl;
  few_labels = omega arith;
}
  where
    first_one : (k : ℕ) → k < 1 → slice_get (Root ∷ []) k ≡ Some Root
    first_one zero h = refl
    first_one (suc k) h = absurd (omega (arith, h))

    body : Follows racy racy.main (0 ∷ []) racy.main.body
    body = (
      ((stores racy.main (0 ∷ []) 0 7 first refl (omega arith), tt), (((first, small 0 (omega arith)), tt), tt)),
      tt,
    )

racy_decided : is_accepted racy ≡ false
racy_decided = refl

racy_not_accepted : IsAccepted racy → ⊥
racy_not_accepted accepted = true≢false (sym ((accepted_exact racy racy_sound).1 accepted) ∙ racy_decided)
