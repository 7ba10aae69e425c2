-- Worked programs with `parts`, on one thread and as step trees, computed.
use Rattle.std.proofs.Common.{◌≡◌, ℕ, List, [], ◌∷◌, refl}
use Rattle.std.specs.Prelude.{ℤ, pos, replicate}
use Rattle.sections.specs.Origins.{Root, Piece}
use Rattle.types.specs.declared.code.Operator.TheVariants.{Plus, Minus, Times}
use Rattle.types.specs.declared.fault.FaultKind.TheVariants.{PieceSize, Raised}
use Rattle.types.specs.Code.{Number, Scalar, Element, Length, Chain, Link, Done, Negative, Assign, Store, Print, Raise}
use Rattle.types.specs.Code.{Do, Parts, Async, Finish, Codes, End, Program}
use Rattle.types.specs.Run.{Fault}
use Rattle.types.specs.Outcome.{Budget, Outcome, Ended, Stopped, outcome}
use Rattle.types.specs.TreeRuns.{Ends, Open, explored}
use Rattle.types.proofs.Programs.{◌⨾◌, lit, ints, main_of}

abbrev budget : (steps : ℕ) → Budget
budget steps = record { steps = steps; nest = 100 }

abbrev zeros : ℕ → List ℤ
zeros n = replicate n (pos 0)

abbrev plus : Number → Number → Number
plus a b = Chain a (Link Plus b Done)

-- the ending of a program with one array
abbrev ends : (contents : List ℤ) → (lines : List (List ℤ)) → List Fault → Outcome
ends contents lines faults = Ended (record { arrays = contents ∷ []; lines = lines; faults = faults })

-- array a: int[10]; finish { parts a by 4 as p, i { async { p[0] = i + 1; p[len(p) - 1] = len(p); } } }
-- print a[0], a[3], a[4], a[7], a[8], a[9];
abbrev three_pieces : Program
three_pieces = main_of (ints 97 10 ∷ []) 1 (Root ∷ Piece 0 ∷ []) ((
  1,
  Finish ((
    2,
    Parts 0 (lit 4) 1 0 ((
      3,
      Async (
          (4, Do (Store 1 (lit 0) (plus (Scalar 0) (lit 1)))) ⨾
          (5, Do (Store 1 (Chain (Length 1) (Link Minus (lit 1) Done)) (Length 1))) ⨾ End),
    ) ⨾ End),
  ) ⨾ End),
) ⨾ (
  6,
  Do (Print (Element 0 (lit 0) ∷ Element 0 (lit 3) ∷ Element 0 (lit 4) ∷ Element 0 (lit 7) ∷ Element 0 (lit 8)
      ∷ Element 0 (lit 9) ∷ [])),
) ⨾ End)

abbrev three_written : Outcome
three_written = ends (pos 1 ∷ pos 0 ∷ pos 0 ∷ pos 4 ∷ pos 2 ∷ pos 0 ∷ pos 0 ∷ pos 4 ∷ pos 3 ∷ pos 2 ∷ [])
    ((pos 1 ∷ pos 4 ∷ pos 2 ∷ pos 4 ∷ pos 3 ∷ pos 2 ∷ []) ∷ []) []

three_pieces_end : outcome three_pieces (zeros 10 ∷ []) (budget 1000000) ≡ three_written
three_pieces_end = refl

-- `main` takes nine steps: the finish, the `parts`, three turns, three asyncs and the print
nine_steps_suffice : outcome three_pieces (zeros 10 ∷ []) (budget 9) ≡ three_written
nine_steps_suffice = refl

eight_steps_stop : outcome three_pieces (zeros 10 ∷ []) (budget 8) ≡ Stopped
eight_steps_stop = refl

-- each leaf of the tree waits for the ones to its left
children_first : explored three_pieces (zeros 10 ∷ []) (replicate 15 0) ≡ Ends three_written
children_first = refl

-- all turns come before the first child
owner_first : explored three_pieces (zeros 10 ∷ []) (0 ∷ 0 ∷ 0 ∷ 0 ∷ 1 ∷ 1 ∷ 2 ∷ 2 ∷ replicate 7 0) ≡ Ends three_written
owner_first = refl

-- after the last turn the owner has no statement left
no_step_after_the_turns : explored three_pieces (zeros 10 ∷ []) (0 ∷ 0 ∷ 0 ∷ 0 ∷ 1 ∷ 1 ∷ 2 ∷ 2 ∷ []) ≡ Open 3
no_step_after_the_turns = refl

-- array a: int[n]; parts a by e as p, i { b }
abbrev in_parts : (n : ℕ) → Number → Codes → Program
in_parts n e b = main_of (ints 97 n ∷ []) 1 (Root ∷ Piece 0 ∷ []) ((1, Parts 0 e 1 0 b) ⨾ End)

abbrev no_size : List Fault
no_size = record { path = []; label = 1; kind = PieceSize } ∷ []

-- parts a by 0 as p, i { }
size_0_faults : outcome (in_parts 2 (lit 0) End) (zeros 2 ∷ []) (budget 1) ≡ ends (zeros 2) [] no_size
size_0_faults = refl

negative_size_faults : outcome (in_parts 2 (Negative (lit 1)) End) (zeros 2 ∷ []) (budget 1) ≡ ends (zeros 2) [] no_size
negative_size_faults = refl

-- an empty section has no pieces, but the size must be at least 1
empty_section_faults : outcome (in_parts 0 (lit 0) End) ([] ∷ []) (budget 1) ≡ ends [] [] no_size
empty_section_faults = refl

empty_section_ends : outcome (in_parts 0 (lit 1) End) ([] ∷ []) (budget 1) ≡ ends [] [] []
empty_section_ends = refl

empty_section_faults_in_a_tree : explored (in_parts 0 (lit 0) End) ([] ∷ []) (0 ∷ []) ≡ Ends (ends [] [] no_size)
empty_section_faults_in_a_tree = refl

empty_section_ends_in_a_tree : explored (in_parts 0 (lit 1) End) ([] ∷ []) (0 ∷ []) ≡ Ends (ends [] [] [])
empty_section_ends_in_a_tree = refl

-- one turn takes one step, and no step follows the last turn
one_turn_ends : outcome (in_parts 1 (lit 1) End) (zeros 1 ∷ []) (budget 2) ≡ ends (zeros 1) [] []
one_turn_ends = refl

one_step_is_too_few : outcome (in_parts 1 (lit 1) End) (zeros 1 ∷ []) (budget 1) ≡ Stopped
one_step_is_too_few = refl

one_turn_ends_in_a_tree : explored (in_parts 1 (lit 1) End) (zeros 1 ∷ []) (0 ∷ 0 ∷ []) ≡ Ends (ends (zeros 1) [] [])
one_turn_ends_in_a_tree = refl

-- the budget ends between two turns
three_turns_end : outcome (in_parts 3 (lit 1) End) (zeros 3 ∷ []) (budget 4) ≡ ends (zeros 3) [] []
three_turns_end = refl

two_turns_stop : outcome (in_parts 3 (lit 1) End) (zeros 3 ∷ []) (budget 3) ≡ Stopped
two_turns_stop = refl

-- a[0] = 1; parts a by a[0] as p, i { a[0] = 3; print i; }
abbrev size_changes : Program
size_changes = main_of (ints 97 3 ∷ []) 1 (Root ∷ Piece 0 ∷ []) (
    (1, Do (Store 0 (lit 0) (lit 1))) ⨾
    (2, Parts 0 (Element 0 (lit 0)) 1 0 ((3, Do (Store 0 (lit 0) (lit 3))) ⨾ (4, Do (Print (Scalar 0 ∷ []))) ⨾ End)) ⨾ End)

-- the size is evaluated once
size_stays : outcome size_changes (zeros 3 ∷ []) (budget 100)
    ≡ ends (pos 3 ∷ pos 0 ∷ pos 0 ∷ []) ((pos 0 ∷ []) ∷ (pos 1 ∷ []) ∷ (pos 2 ∷ []) ∷ []) []
size_stays = refl

-- i = i + 10; print i;
abbrev assigns_turn : Codes
assigns_turn = (2, Do (Assign 0 (plus (Scalar 0) (lit 10)))) ⨾ (3, Do (Print (Scalar 0 ∷ []))) ⨾ End

-- an assignment to the turn moves no other turn
turn_is_new : outcome (in_parts 3 (lit 1) assigns_turn) (zeros 3 ∷ []) (budget 100)
    ≡ ends (zeros 3) ((pos 10 ∷ []) ∷ (pos 11 ∷ []) ∷ (pos 12 ∷ []) ∷ []) []
turn_is_new = refl

turn_is_new_in_a_tree : explored (in_parts 3 (lit 1) assigns_turn) (zeros 3 ∷ []) (replicate 10 0)
    ≡ Ends (ends (zeros 3) ((pos 10 ∷ []) ∷ (pos 11 ∷ []) ∷ (pos 12 ∷ []) ∷ []) [])
turn_is_new_in_a_tree = refl

-- print len(p), i;
abbrev prints_length : Codes
prints_length = (2, Do (Print (Length 1 ∷ Scalar 0 ∷ []))) ⨾ End

-- the last piece is shorter
last_piece_is_short : outcome (in_parts 5 (lit 2) prints_length) (zeros 5 ∷ []) (budget 100)
    ≡ ends (zeros 5) ((pos 2 ∷ pos 0 ∷ []) ∷ (pos 2 ∷ pos 1 ∷ []) ∷ (pos 1 ∷ pos 2 ∷ []) ∷ []) []
last_piece_is_short = refl

larger_than_the_section : outcome (in_parts 3 (lit 9223372036854775807) prints_length) (zeros 3 ∷ []) (budget 100)
    ≡ ends (zeros 3) ((pos 3 ∷ pos 0 ∷ []) ∷ []) []
larger_than_the_section = refl

-- finish { parts a by 1 as p, i { print i; fault i; } } print 9;
abbrev fault_in_a_turn : Program
fault_in_a_turn = main_of (ints 97 3 ∷ []) 1 (Root ∷ Piece 0 ∷ []) ((
  1,
  Finish ((2, Parts 0 (lit 1) 1 0 ((3, Do (Print (Scalar 0 ∷ []))) ⨾ (4, Do (Raise (Scalar 0))) ⨾ End)) ⨾ End),
) ⨾
    (5, Do (Print (lit 9 ∷ []))) ⨾ End)

abbrev first_turn_only : Outcome
first_turn_only = ends (zeros 3) ((pos 0 ∷ []) ∷ []) (record { path = []; label = 4; kind = Raised (pos 0) } ∷ [])

-- a fault in a turn drops the turns to come
no_turn_after_a_fault : outcome fault_in_a_turn (zeros 3 ∷ []) (budget 100) ≡ first_turn_only
no_turn_after_a_fault = refl

no_turn_after_a_fault_in_a_tree : explored fault_in_a_turn (zeros 3 ∷ []) (replicate 5 0) ≡ Ends first_turn_only
no_turn_after_a_fault_in_a_tree = refl

-- parts a by 2 as p, i { parts p by 1 as q, j { q[0] = i * 10 + j; } }
abbrev parts_of_parts : Program
parts_of_parts = main_of (ints 97 3 ∷ []) 2 (Root ∷ Piece 0 ∷ Piece 1 ∷ []) ((
  1,
  Parts 0 (lit 2) 1 0 ((
    2,
    Parts 1 (lit 1) 2 1 ((3, Do (Store 2 (lit 0) (plus (Chain (Scalar 0) (Link Times (lit 10) Done)) (Scalar 1)))) ⨾ End),
  ) ⨾ End),
) ⨾ End)

parts_of_parts_end : outcome parts_of_parts (zeros 3 ∷ []) (budget 11) ≡ ends (pos 0 ∷ pos 1 ∷ pos 10 ∷ []) [] []
parts_of_parts_end = refl
