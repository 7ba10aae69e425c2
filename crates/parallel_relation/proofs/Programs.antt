-- Programs whose statements meet.
use Rattle.std.proofs.Common.{[], ◌∷◌}
use Rattle.std.specs.Prelude.{codes, true, false}
use Rattle.syntax_tree.specs.declared.tree.ElementType.TheVariants.{Int}
use Rattle.syntax_tree.specs.declared.tree.Relation.TheVariants.{Less}
use Rattle.sections.specs.Origins.{Root, Left, Right, Piece}
use Rattle.types.specs.declared.code.Operator.TheVariants.{Minus, Plus}
use Rattle.types.specs.Code.{Scalar, Element, Length, Chain, Link, Done, Compare, Assign, Store, Print, Do, While, Split}
use Rattle.types.specs.Code.{Parts, Call, Async, Finish, Codes, End, Procedure, Program}
use Rattle.types.proofs.Programs.{◌⨾◌, lit, ints, main_of as program_of, over_ints}

-- async { a[0] = 7; } b[0] = 8; print a[0];
abbrev pub unfinished : Program
unfinished = program_of (ints 97 1 ∷ ints 98 1 ∷ []) 0 (Root ∷ Root ∷ []) (
    (1, Async ((2, Do (Store 0 (lit 0) (lit 7))) ⨾ End)) ⨾ (3, Do (Store 1 (lit 0) (lit 8))) ⨾
    (4, Do (Print (Element 0 (lit 0) ∷ []))) ⨾ End)

-- sides of two splits of one section overlap
abbrev pub two_splits : Program
two_splits = program_of (ints 115 8 ∷ []) 0 (Root ∷ Left 0 ∷ Right 0 ∷ Left 0 ∷ Right 0 ∷ []) ((
  1,
  Finish ((
    2,
    Split 0 (lit 2) 1 2 ((
      3,
      Split 0 (lit 5) 3 4 (
          (4, Async ((5, Do (Store 1 (lit 0) (lit 1))) ⨾ End)) ⨾ (6, Do (Store 3 (lit 0) (lit 2))) ⨾ End),
    ) ⨾ End),
  ) ⨾ End),
) ⨾ End)

-- while k < 2 { split s at k as l, r { async { l[0] = 1; } } k = k + 1; }
abbrev pub split_in_loop : Program
split_in_loop = program_of (ints 115 8 ∷ []) 1 (Root ∷ Left 0 ∷ Right 0 ∷ []) (
    (1, Do (Assign 0 (lit 0))) ⨾ (
      2,
      Finish ((
        3,
        While (Compare Less (Scalar 0) (lit 2)) (
            (4, Split 0 (Scalar 0) 1 2 ((5, Async ((6, Do (Store 1 (lit 0) (lit 1))) ⨾ End)) ⨾ End)) ⨾
            (7, Do (Assign 0 (Chain (Scalar 0) (Link Plus (lit 1) Done)))) ⨾ End),
      ) ⨾ End),
    ) ⨾ End)

-- proc g(mut s: int) { async { s[0] = 1; } } main { finish { g(a); a[0] = 2; } }
abbrev pub spawner : Procedure
spawner = over_ints 103 0 ((1, Async ((2, Do (Store 0 (lit 0) (lit 1))) ⨾ End)) ⨾ End)

abbrev pub call_then_store : Program
call_then_store = record {
  arrays = ints 97 1 ∷ [];
  procedures = spawner ∷ [];
  main = record {
    name = codes "main";
    parameters = record { may_write = true; element = Int } ∷ [];
    scalars = 0;
    slots = 0;
    sections = Root ∷ [];
    section_names = (97 ∷ []) ∷ [];
    body = (3, Finish ((4, Call 0 [] (0 ∷ [])) ⨾ (5, Do (Store 0 (lit 0) (lit 2))) ⨾ End)) ⨾ End;
  };
}

-- two_readers with `a[0] = 1;` instead of `print a[0];`
abbrev pub readers_and_writer : Program
readers_and_writer = program_of (ints 97 1 ∷ ints 98 1 ∷ ints 99 1 ∷ []) 0 (Root ∷ Root ∷ Root ∷ []) ((
  1,
  Finish (
      (2, Async ((3, Do (Store 1 (lit 0) (Element 0 (lit 0)))) ⨾ End)) ⨾
      (4, Async ((5, Do (Store 2 (lit 0) (Element 0 (lit 0)))) ⨾ End)) ⨾
      (6, Do (Store 0 (lit 0) (lit 1))) ⨾ End),
) ⨾ End)

-- proc f(mut s: int, read t: int) { s[0] = t[0]; } main { split a at 1 as l, r { f(l, r); } }, and f(a, a) overlaps
abbrev pub copying : Program
copying = record {
  arrays = ints 97 2 ∷ [];
  procedures = record {
    name = 102 ∷ [];
    parameters = record { may_write = true; element = Int } ∷ record { may_write = false; element = Int } ∷ [];
    scalars = 0;
    slots = 0;
    sections = Root ∷ Root ∷ [];
    section_names = (115 ∷ []) ∷ (116 ∷ []) ∷ [];
    body = (1, Do (Store 0 (lit 0) (Element 1 (lit 0)))) ⨾ End;
  } ∷ [];
  main = record {
    name = codes "main";
    parameters = record { may_write = true; element = Int } ∷ [];
    scalars = 0;
    slots = 0;
    sections = Root ∷ Left 0 ∷ Right 0 ∷ [];
    section_names = (97 ∷ []) ∷ (108 ∷ []) ∷ (114 ∷ []) ∷ [];
    body = (2, Split 0 (lit 1) 1 2 ((3, Call 0 [] (1 ∷ 2 ∷ [])) ⨾ End)) ⨾ End;
  };
}

-- array a: int[2]; finish { parts a by 1 as p, i { .. } }
abbrev pub in_pieces : Codes → Program
in_pieces b =
    program_of (ints 97 2 ∷ []) 2 (Root ∷ Piece 0 ∷ []) ((1, Finish ((2, Parts 0 (lit 1) 1 0 b) ⨾ End)) ⨾ End)

-- async { p[0] = i; p[len(p) - 1] = 2; } in each piece
abbrev pub pieces : Program
pieces = in_pieces ((
  3,
  Async ((4, Do (Store 1 (lit 0) (Scalar 0))) ⨾ (5, Do (Store 1 (Chain (Length 1) (Link Minus (lit 1) Done)) (lit 2))) ⨾ End),
) ⨾ End)
