-- Worked programs, resolved.
use Rattle.std.specs.Prelude.{ℕ, List, [], ◌∷◌, map, codes, pos, true}
use Rattle.sections.specs.Origins.{Origin, Root, Left, Right}
use Rattle.syntax_tree.specs.declared.tree.ElementType.TheVariants.{Int, Byte}
use Rattle.syntax_tree.specs.declared.tree.Relation.TheVariants.{Less, AtMost, Equal}
use Rattle.types.specs.declared.code.Operator.TheVariants.{Plus, Minus, Times, Over, Modulo}
use Rattle.types.specs.Code.{Number, Literal, Scalar, Element, Length, Negative, Chain, Done, Link, Constant, Compare}
use Rattle.types.specs.Code.{Skip, Assign, Store, Print, Raise, Code, Do, If, While, Split, Call, Async, Finish, Codes}
use Rattle.types.specs.Code.{End, Then, Array, Procedure, Program}
use Rattle.types.specs.Sound.{as_parameter}

-- a labelled statement before others
infixr 4 ◌⨾◌
abbrev pub ◌⨾◌ : ℕ × Code → Codes → Codes
s ⨾ b = Then s.0 s.1 b

abbrev pub lit : ℕ → Number
lit n = Literal (pos n)

-- an array of ints whose name is one letter
abbrev pub ints : (letter n : ℕ) → Array
ints letter n = record { name = letter ∷ []; element = Int; length = n }

-- `main` with these arrays; sides of splits have no names here
abbrev pub main_of : List Array → (slots : ℕ) → List Origin → Codes → Program
main_of arrays slots sections body = record {
  arrays = arrays;
  procedures = [];
  main = record {
    name = codes "main";
    parameters = map as_parameter arrays;
    scalars = 0;
    slots = slots;
    sections = sections;
    section_names = map (λ a. a.name) arrays;
    body = body;
  };
}

-- a procedure whose name is one letter; its parameters are `mut s: int` and a number of scalars
abbrev pub over_ints : (letter scalars : ℕ) → Codes → Procedure
over_ints letter scalars body = record {
  name = letter ∷ [];
  parameters = record { may_write = true; element = Int } ∷ [];
  scalars = scalars;
  slots = scalars;
  sections = Root ∷ [];
  section_names = (115 ∷ []) ∷ [];
  body = body;
}

-- finish { async { a[0] = 7; } b[0] = 8; } print a[0], b[0];
abbrev pub two_arrays : Program
two_arrays = main_of (ints 97 1 ∷ ints 98 1 ∷ []) 0 (Root ∷ Root ∷ []) (
    (1, Finish ((2, Async ((3, Do (Store 0 (lit 0) (lit 7))) ⨾ End)) ⨾ (4, Do (Store 1 (lit 0) (lit 8))) ⨾ End)) ⨾
    (5, Do (Print (Element 0 (lit 0) ∷ Element 1 (lit 0) ∷ []))) ⨾ End)

-- proc twice(mut s: int) { if len(s) <= 1 { if len(s) == 1 { s[0] = s[0] * 2; } } else { split s at len(s) / 2 as l, r
-- { async { twice(l); } twice(r); } } }
abbrev pub twice : Procedure
twice = record {
  name = 116 ∷ [];
  parameters = record { may_write = true; element = Int } ∷ [];
  scalars = 0;
  slots = 0;
  sections = Root ∷ Left 0 ∷ Right 0 ∷ [];
  section_names = (115 ∷ []) ∷ (108 ∷ []) ∷ (114 ∷ []) ∷ [];
  body = (
    1,
    If (Compare AtMost (Length 0) (lit 1))
        ((
          2,
          If (Compare Equal (Length 0) (lit 1))
              ((3, Do (Store 0 (lit 0) (Chain (Element 0 (lit 0)) (Link Times (lit 2) Done)))) ⨾ End) End,
        ) ⨾ End)
        ((
          4,
          Split 0 (Chain (Length 0) (Link Over (lit 2) Done)) 1 2 (
              (5, Async ((6, Call 0 [] (1 ∷ [])) ⨾ End)) ⨾ (7, Call 0 [] (2 ∷ [])) ⨾ End),
        ) ⨾ End),
  ) ⨾ End;
}

-- array a: int[n]; finish { twice(a); }
abbrev pub doubling : ℕ → Program
doubling n = record {
  arrays = ints 97 n ∷ [];
  procedures = twice ∷ [];
  main = (main_of (ints 97 n ∷ []) 0 (Root ∷ []) ((8, Finish ((9, Call 0 [] (0 ∷ [])) ⨾ End)) ⨾ End)).main;
}

-- split a at 0 as l, r { r[2] = 5; } split a at 3 as m, n { m[0] = len(n); } print a[0], a[2]; split a at 4 as u, v { u[0] = 9; }
abbrev pub splits : Program
splits = main_of (ints 97 3 ∷ []) 0 (Root ∷ Left 0 ∷ Right 0 ∷ Left 0 ∷ Right 0 ∷ Left 0 ∷ Right 0 ∷ []) (
    (1, Split 0 (lit 0) 1 2 ((2, Do (Store 2 (lit 2) (lit 5))) ⨾ End)) ⨾
    (3, Split 0 (lit 3) 3 4 ((4, Do (Store 3 (lit 0) (Length 4))) ⨾ End)) ⨾
    (5, Do (Print (Element 0 (lit 0) ∷ Element 0 (lit 2) ∷ []))) ⨾
    (6, Split 0 (lit 4) 5 6 ((7, Do (Store 5 (lit 0) (lit 9))) ⨾ End)) ⨾ End)

-- split a at -1 as l, r { } print 1;
abbrev pub split_below : Program
split_below = main_of (ints 97 3 ∷ []) 0 (Root ∷ Left 0 ∷ Right 0 ∷ []) (
    (1, Split 0 (Negative (lit 1)) 1 2 End) ⨾ (2, Do (Print (lit 1 ∷ []))) ⨾ End)

-- finish { async { b[0] = a[0]; } async { c[0] = a[0]; } print a[0]; } print b[0], c[0];
abbrev pub two_readers : Program
two_readers = main_of (ints 97 1 ∷ ints 98 1 ∷ ints 99 1 ∷ []) 0 (Root ∷ Root ∷ Root ∷ []) ((
  1,
  Finish (
      (2, Async ((3, Do (Store 1 (lit 0) (Element 0 (lit 0)))) ⨾ End)) ⨾
      (4, Async ((5, Do (Store 2 (lit 0) (Element 0 (lit 0)))) ⨾ End)) ⨾
      (6, Do (Print (Element 0 (lit 0) ∷ []))) ⨾ End),
) ⨾
    (7, Do (Print (Element 1 (lit 0) ∷ Element 2 (lit 0) ∷ []))) ⨾ End)

-- finish { async { fault 1; } async { fault 2; } fault 3; } print 9;
abbrev pub three_faults : Program
three_faults = main_of [] 0 [] (
    (1, Finish ((2, Async ((3, Do (Raise (lit 1))) ⨾ End)) ⨾ (4, Async ((5, Do (Raise (lit 2))) ⨾ End)) ⨾ (6, Do (Raise (lit 3))) ⨾ End)) ⨾
    (7, Do (Print (lit 9 ∷ []))) ⨾ End)

-- finish { async { fault 1; } print 8; } print 9;
abbrev pub child_faults : Program
child_faults = main_of [] 0 [] (
    (1, Finish ((2, Async ((3, Do (Raise (lit 1))) ⨾ End)) ⨾ (4, Do (Print (lit 8 ∷ []))) ⨾ End)) ⨾
    (5, Do (Print (lit 9 ∷ []))) ⨾ End)

-- finish { async { print 5; } fault 4; }
abbrev pub fault_after_async : Program
fault_after_async = main_of [] 0 [] (
    (1, Finish ((2, Async ((3, Do (Print (lit 5 ∷ []))) ⨾ End)) ⨾ (4, Do (Raise (lit 4))) ⨾ End)) ⨾ End)

-- finish { async { async { print 1; } print 2; } } print 3;
abbrev pub nested_tasks : Program
nested_tasks = main_of [] 0 [] (
    (1, Finish ((2, Async ((3, Async ((4, Do (Print (lit 1 ∷ []))) ⨾ End)) ⨾ (5, Do (Print (lit 2 ∷ []))) ⨾ End)) ⨾ End)) ⨾
    (6, Do (Print (lit 3 ∷ []))) ⨾ End)

-- finish { async { async { fault 1; } fault 2; } } print 3;
abbrev pub nested_faults : Program
nested_faults = main_of [] 0 [] (
    (1, Finish ((2, Async ((3, Async ((4, Do (Raise (lit 1))) ⨾ End)) ⨾ (5, Do (Raise (lit 2))) ⨾ End)) ⨾ End)) ⨾
    (6, Do (Print (lit 3 ∷ []))) ⨾ End)

-- array a: byte[1]; a[0] = 255; a[0] = 256; print 1;
abbrev pub byte_store : Program
byte_store = main_of (record { name = 97 ∷ []; element = Byte; length = 1 } ∷ []) 0 (Root ∷ []) (
    (1, Do (Store 0 (lit 0) (lit 255))) ⨾ (2, Do (Store 0 (lit 0) (lit 256))) ⨾ (3, Do (Print (lit 1 ∷ []))) ⨾ End)

-- a[1] = 2; with a of one element
abbrev pub past_the_end : Program
past_the_end = main_of (ints 97 1 ∷ []) 0 (Root ∷ []) ((1, Do (Store 0 (lit 1) (lit 2))) ⨾ End)

-- finish { async { while true { skip; } } print 1; }
abbrev pub endless : Program
endless = main_of [] 0 [] (
    (1, Finish ((2, Async ((3, While (Constant true) ((4, Do Skip) ⨾ End)) ⨾ End)) ⨾ (5, Do (Print (lit 1 ∷ []))) ⨾ End)) ⨾ End)

-- print -7 / 2, -7 % 2; print 9223372036854775807 + 1;
abbrev pub signs : Program
signs = main_of [] 0 [] (
    (1, Do (Print (Chain (Negative (lit 7)) (Link Over (lit 2) Done) ∷ Chain (Negative (lit 7)) (Link Modulo (lit 2) Done) ∷ []))) ⨾
    (2, Do (Print (Chain (lit 9223372036854775807) (Link Plus (lit 1) Done) ∷ []))) ⨾ End)

-- (-9223372036854775807 - 1) o -1
abbrev pub least_by : Number → Program
least_by e = main_of [] 0 [] ((1, Do (Print (e ∷ []))) ⨾ End)

abbrev pub least : Number
least = Chain (Negative (lit 9223372036854775807)) (Link Minus (lit 1) Done)

-- print 7 / 0;
abbrev pub by_zero : Program
by_zero = main_of [] 0 [] ((1, Do (Print (Chain (lit 7) (Link Over (lit 0) Done) ∷ []))) ⨾ End)

-- var k = 0; while k < n { k = k + 1; } print k;
abbrev pub count_to : ℕ → Program
count_to n = main_of [] 1 [] (
    (1, Do (Assign 0 (lit 0))) ⨾
    (2, While (Compare Less (Scalar 0) (lit n)) ((3, Do (Assign 0 (Chain (Scalar 0) (Link Plus (lit 1) Done)))) ⨾ End)) ⨾
    (4, Do (Print (Scalar 0 ∷ []))) ⨾ End)

-- var x = 1; async { var y = 2; print x + y; } finish { x = 3; } print x;
abbrev pub scalars : Program
scalars = main_of [] 2 [] (
    (1, Do (Assign 0 (lit 1))) ⨾
    (2, Async ((3, Do (Assign 1 (lit 2))) ⨾ (4, Do (Print (Chain (Scalar 0) (Link Plus (Scalar 1) Done) ∷ []))) ⨾ End)) ⨾
    (5, Finish ((6, Do (Assign 0 (lit 3))) ⨾ End)) ⨾
    (7, Do (Print (Scalar 0 ∷ []))) ⨾ End)

-- proc down(mut s: int, n: int) { if n > 0 { down(s, n - 1); s[0] = s[0] + n; } }
abbrev pub down : Procedure
down = over_ints 100 1 ((
  1,
  If (Compare Less (lit 0) (Scalar 0))
      ((2, Call 0 (Chain (Scalar 0) (Link Minus (lit 1) Done) ∷ []) (0 ∷ [])) ⨾
      (3, Do (Store 0 (lit 0) (Chain (Element 0 (lit 0)) (Link Plus (Scalar 0) Done)))) ⨾ End) End,
) ⨾ End)

-- array a: int[1]; down(a, n); print a[0];
abbrev pub deep_call : ℕ → Program
deep_call n = record {
  arrays = ints 97 1 ∷ [];
  procedures = down ∷ [];
  main = (main_of (ints 97 1 ∷ []) 0 (Root ∷ []) (
      (4, Call 0 (lit n ∷ []) (0 ∷ [])) ⨾ (5, Do (Print (Element 0 (lit 0) ∷ []))) ⨾ End)).main;
}

-- async { print 1; } print 2;
abbrev pub one_async : Program
one_async = main_of [] 0 [] ((1, Async ((2, Do (Print (lit 1 ∷ []))) ⨾ End)) ⨾ (3, Do (Print (lit 2 ∷ []))) ⨾ End)

-- skip; skip; async { skip; skip; skip; }
abbrev pub late_async : Program
late_async = main_of [] 0 [] ((1, Do Skip) ⨾ (2, Do Skip) ⨾ (3, Async ((4, Do Skip) ⨾ (5, Do Skip) ⨾ (6, Do Skip) ⨾ End)) ⨾ End)
