-- Worked programs with `parts`: the race that is reported for each, or none.
use Rattle.std.proofs.Common.{◌≡◌, ℕ, ◌+◌, [], ◌∷◌, refl}
use Rattle.std.specs.Prelude.{None}
use Rattle.syntax_tree.specs.declared.tree.Relation.TheVariants.{Less}
use Rattle.sections.specs.Origins.{Root, Left, Right, Piece}
use Rattle.types.specs.declared.code.Operator.TheVariants.{Plus}
use Rattle.types.specs.Code.{Number, Scalar, Element, Chain, Link, Done, Compare, Code, Assign, Store, Do, While, Split}
use Rattle.types.specs.Code.{Parts, Async, Finish, End, Program}
use Rattle.types.proofs.Programs.{◌⨾◌, lit, ints, main_of}
use Rattle.parallel_relation.proofs.Programs.{in_pieces, pieces}
use Rattle.race_checker.proofs.ToldExamples.{reads, writes, race, told_in}

-- the element 0 of a section gets a number
abbrev gets : (section : ℕ) → Number → Code
gets s e = Do (Store s (lit 0) e)

-- async { s[0] = e; }, with labels from this one
abbrev spawned : (label : ℕ) → (section : ℕ) → Number → ℕ × Code
spawned l s e = (l, Async ((l + 1, gets s e) ⨾ End))

-- k = k + 1;
abbrev counted_up : Code
counted_up = Do (Assign 1 (Chain (Scalar 1) (Link Plus (lit 1) Done)))

-- each turn has another piece
pieces_accepted : told_in pieces 0 ≡ None
pieces_accepted = refl

-- parts a by 1 as p, i { async { p[0] = a[0]; } }
piece_and_section : told_in (in_pieces (spawned 3 1 (Element 0 (lit 0)) ⨾ End)) 0 ≡ race 0 (reads 4 0) (writes 4 1)
piece_and_section = refl

-- parts a by 1 as p, i { async { a[0] = i; } }
section_in_two_turns : told_in (in_pieces (spawned 3 0 (Scalar 0) ⨾ End)) 0 ≡ race 0 (writes 4 0) (writes 4 0)
section_in_two_turns = refl

-- parts a by 1 as p, i { async { p[0] = 1; } p[0] = 2; }
piece_in_one_turn : told_in (in_pieces (spawned 3 1 (lit 1) ⨾ (5, gets 1 (lit 2)) ⨾ End)) 0 ≡ race 0 (writes 4 1) (writes 5 1)
piece_in_one_turn = refl

-- parts a by 1 as p, i { k = 0; while k < 2 { async { p[0] = k; } k = k + 1; } }
loop_in_turn : told_in
    (in_pieces ((3, Do (Assign 1 (lit 0))) ⨾
    (4, While (Compare Less (Scalar 1) (lit 2)) (spawned 5 1 (Scalar 1) ⨾ (7, counted_up) ⨾ End)) ⨾ End)) 0
    ≡ race 0 (writes 6 1) (writes 6 1)
loop_in_turn = refl

-- parts a by 1 as p, i { parts p by 1 as q, j { async { p[0] = j; } } }
abbrev inner_parts : Program
inner_parts = main_of (ints 97 2 ∷ []) 2 (Root ∷ Piece 0 ∷ Piece 1 ∷ []) ((
  1,
  Finish ((2, Parts 0 (lit 1) 1 0 ((3, Parts 1 (lit 1) 2 1 (spawned 4 1 (Scalar 1) ⨾ End)) ⨾ End)) ⨾ End),
) ⨾ End)

inner_turns_share_the_outer_piece : told_in inner_parts 0 ≡ race 0 (writes 5 1) (writes 5 1)
inner_turns_share_the_outer_piece = refl

-- finish { while k < 2 { parts a by 4 as p, i { async { p[0] = 1; } } k = k + 1; } }
abbrev parts_in_loop : Program
parts_in_loop = main_of (ints 97 8 ∷ []) 2 (Root ∷ Piece 0 ∷ []) ((1, Do (Assign 1 (lit 0))) ⨾ (
  2,
  Finish ((
    3,
    While (Compare Less (Scalar 1) (lit 2)) ((4, Parts 0 (lit 4) 1 0 (spawned 5 1 (lit 1) ⨾ End)) ⨾ (7, counted_up) ⨾ End),
  ) ⨾ End),
) ⨾ End)

turns_of_two_iterations : told_in parts_in_loop 0 ≡ race 0 (writes 6 0) (writes 6 0)
turns_of_two_iterations = refl

-- finish { parts a by 1 as p, i { async { p[0] = 1; } } a[0] = 2; }
abbrev parts_then_store : Program
parts_then_store = main_of (ints 97 1 ∷ []) 1 (Root ∷ Piece 0 ∷ []) ((
  1,
  Finish ((2, Parts 0 (lit 1) 1 0 (spawned 3 1 (lit 1) ⨾ End)) ⨾ (5, gets 0 (lit 2)) ⨾ End),
) ⨾ End)

turns_meet_what_follows : told_in parts_then_store 0 ≡ race 0 (writes 4 0) (writes 5 0)
turns_meet_what_follows = refl

-- finish { split a at 1 as l, r { parts a by 1 as p, i { async { p[0] = 1; } l[0] = 2; } } }
abbrev parts_in_split : Program
parts_in_split = main_of (ints 97 1 ∷ []) 1 (Root ∷ Left 0 ∷ Right 0 ∷ Piece 0 ∷ []) ((
  1,
  Finish ((2, Split 0 (lit 1) 1 2 ((3, Parts 0 (lit 1) 3 0 (spawned 4 3 (lit 1) ⨾ (6, gets 1 (lit 2)) ⨾ End)) ⨾ End)) ⨾ End),
) ⨾ End)

-- a piece and a side of a split of the same section overlap
piece_and_side : told_in parts_in_split 0 ≡ race 0 (writes 5 3) (writes 6 1)
piece_and_side = refl

-- a[0] = 1; finish { parts a by a[0] as p, i { async { p[0] = 5; } } }
abbrev size_from_section : Program
size_from_section = main_of (ints 97 1 ∷ []) 1 (Root ∷ Piece 0 ∷ []) ((1, gets 0 (lit 1)) ⨾
    (2, Finish ((3, Parts 0 (Element 0 (lit 0)) 1 0 (spawned 4 1 (lit 5) ⨾ End)) ⨾ End)) ⨾ End)

-- the size is read once, before the first turn
size_is_read_once : told_in size_from_section 0 ≡ None
size_is_read_once = refl
