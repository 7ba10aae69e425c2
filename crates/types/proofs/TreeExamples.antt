-- The results of worked programs as step trees, under given choices, computed.
use Rattle.std.proofs.Common.{◌≡◌, ℕ, List, [], ◌∷◌, Some, refl}
use Rattle.std.specs.Prelude.{ℤ, pos}
use Rattle.sections.specs.Origins.{Root, Left, Right}
use Rattle.sections.specs.Place.{Place}
use Rattle.syntax_tree.specs.declared.tree.Relation.TheVariants.{Less}
use Rattle.types.specs.declared.fault.FaultKind.TheVariants.{Raised}
use Rattle.types.specs.Code.{Number, Scalar, Element, Length, Skip, Assign, Store, Print, Split, Do, Async, Finish, End}
use Rattle.types.specs.Code.{Compare, If, Codes, Program}
use Rattle.types.specs.Contents.{Contents, held_by}
use Rattle.types.specs.Outcome.{Outcome, Ended, outcome}
use Rattle.types.specs.Trees.{Leaf, Single, AndThen, NoHandler}
use Rattle.types.specs.TreeSteps.{step, first_leaf, first_tree}
use Rattle.types.specs.TreeRuns.{Explored, Ends, Open, NoSuchChoice, explored}
use Rattle.types.specs.TreePlaces.{next_reads, next_writes}
use Rattle.types.proofs.Programs.{◌⨾◌, lit, ints, main_of, two_arrays, three_faults, doubling}

abbrev print : Number → Codes
print e = (9, Do (Print (e ∷ []))) ⨾ End

-- one array `a` of ints
abbrev one_array : (n slots : ℕ) → Codes → Program
one_array n slots body = main_of (ints 97 n ∷ []) slots (Root ∷ Left 0 ∷ Right 0 ∷ []) body

-- no arrays and no faults
abbrev prints : List (List ℤ) → Explored
prints lines = Ends (Ended (record { arrays = []; lines = lines; faults = [] }))

-- finish { async { a[0] = 7; } b[0] = 8; } print a[0], b[0];
abbrev two : (choices : List ℕ) → Explored
two = explored two_arrays ((pos 0 ∷ []) ∷ (pos 0 ∷ []) ∷ [])

abbrev seven_and_eight : Explored
seven_and_eight =
    Ends (Ended (record { arrays = (pos 7 ∷ []) ∷ (pos 8 ∷ []) ∷ []; lines = (pos 7 ∷ pos 8 ∷ []) ∷ []; faults = [] }))

child_goes_first : two (0 ∷ 0 ∷ 0 ∷ 0 ∷ 0 ∷ []) ≡ seven_and_eight
child_goes_first = refl

owner_goes_first : two (0 ∷ 0 ∷ 1 ∷ 0 ∷ 0 ∷ []) ≡ seven_and_eight
owner_goes_first = refl

main_is_one_leaf : two [] ≡ Open 1
main_is_one_leaf = refl

two_leaves : two (0 ∷ 0 ∷ []) ≡ Open 2
two_leaves = refl

done_leaf_may_not_step : two (0 ∷ 0 ∷ 0 ∷ []) ≡ Open 1
done_leaf_may_not_step = refl

no_third_leaf : two (0 ∷ 0 ∷ 2 ∷ []) ≡ NoSuchChoice 2
no_third_leaf = refl

ended_tree_has_no_leaf : two (0 ∷ 0 ∷ 0 ∷ 0 ∷ 0 ∷ 0 ∷ []) ≡ NoSuchChoice 5
ended_tree_has_no_leaf = refl

-- finish { x = 1; } print x;
abbrev owner_assigns : Program
owner_assigns = main_of [] 1 [] ((1, Finish ((2, Do (Assign 0 (lit 1))) ⨾ End)) ⨾ print (Scalar 0))

abbrev no_contents : Contents
no_contents = held_by []

-- the tree of a finish
finish_waits : step owner_assigns 0 (first_tree owner_assigns) no_contents
    ≡ Some (
      AndThen (Single (record (first_leaf owner_assigns) { rest = (2, Do (Assign 0 (lit 1))) ⨾ End })) NoHandler
          (record (first_leaf owner_assigns) { rest = print (Scalar 0) }),
      no_contents,
    )
finish_waits = refl

owners_scalars_go_on : explored owner_assigns [] (0 ∷ 0 ∷ 0 ∷ []) ≡ prints ((pos 1 ∷ []) ∷ [])
owners_scalars_go_on = refl

-- finish { async { fault 1; } async { fault 2; } fault 3; } print 9; each task continues, no matter
-- which one has faulted
faults_are_gathered : explored three_faults [] (0 ∷ 0 ∷ 1 ∷ 2 ∷ 1 ∷ 0 ∷ [])
    ≡ Ends (Ended (record {
      arrays = [];
      lines = [];
      faults = record { path = 1 ∷ []; label = 3; kind = Raised (pos 1) } ∷ record { path = 2 ∷ []; label = 5; kind = Raised (pos 2) }
          ∷ record { path = []; label = 6; kind = Raised (pos 3) } ∷ [];
    }))
faults_are_gathered = refl

others_go_on : explored three_faults [] (0 ∷ 0 ∷ 0 ∷ []) ≡ Open 1
others_go_on = refl

-- print 1; async { print 2; } print 3;
abbrev three_lines : Program
three_lines = main_of [] 0 [] (
    (1, Do (Print (lit 1 ∷ []))) ⨾ (2, Async ((3, Do (Print (lit 2 ∷ []))) ⨾ End)) ⨾ (4, Do (Print (lit 3 ∷ []))) ⨾ End)

lines_stand_from_left_to_right : explored three_lines [] (0 ∷ 0 ∷ 1 ∷ 0 ∷ [])
    ≡ prints ((pos 1 ∷ []) ∷ (pos 2 ∷ []) ∷ (pos 3 ∷ []) ∷ [])
lines_stand_from_left_to_right = refl

-- finish { async { a[0] = 1; } a[0] = 2; } print a[0];
abbrev racy : Program
racy = one_array 1 0 (
    (1, Finish ((2, Async ((3, Do (Store 0 (lit 0) (lit 1))) ⨾ End)) ⨾ (4, Do (Store 0 (lit 0) (lit 2))) ⨾ End))
    ⨾ print (Element 0 (lit 0)))

abbrev leaves : ℤ → Explored
leaves v = Ends (Ended (record { arrays = (v ∷ []) ∷ []; lines = (v ∷ []) ∷ []; faults = [] }))

-- if leaves race, the result depends on the choices
owner_writes_last : explored racy ((pos 0 ∷ []) ∷ []) (0 ∷ 0 ∷ 0 ∷ 0 ∷ 0 ∷ []) ≡ leaves (pos 2)
owner_writes_last = refl

child_writes_last : explored racy ((pos 0 ∷ []) ∷ []) (0 ∷ 0 ∷ 1 ∷ 0 ∷ 0 ∷ []) ≡ leaves (pos 1)
child_writes_last = refl

-- finish { split a at 1 as l, r { skip; } } print len(l); no text resolves to it
abbrev length_behind : Program
length_behind = one_array 2 0 ((1, Finish ((2, Split 0 (lit 1) 1 2 ((3, Do Skip) ⨾ End)) ⨾ End)) ⨾ print (Length 1))

abbrev one_printed : Outcome
one_printed = Ended (record { arrays = (pos 0 ∷ pos 0 ∷ []) ∷ []; lines = (pos 1 ∷ []) ∷ []; faults = [] })

-- after a finish the owner's windows continue too, as on one thread
windows_go_on_in_a_tree : explored length_behind ((pos 0 ∷ pos 0 ∷ []) ∷ []) (0 ∷ 0 ∷ 0 ∷ 0 ∷ []) ≡ Ends one_printed
windows_go_on_in_a_tree = refl

windows_go_on_on_one_thread : outcome length_behind ((pos 0 ∷ pos 0 ∷ []) ∷ []) (record { steps = 9; nest = 0 }) ≡ one_printed
windows_go_on_on_one_thread = refl

-- a[a[2]] = e; after a fault nothing is read or written
abbrev place : ℕ → Place
place i = record { array = 0; index = i }

abbrev stores : Number → Leaf
stores e = first_leaf (one_array 3 0 ((1, Do (Store 0 (Element 0 (lit 2)) e)) ⨾ End))

abbrev contents : Contents
contents = held_by ((pos 5 ∷ pos 6 ∷ pos 1 ∷ []) ∷ [])

index_is_read_first : next_reads (stores (Element 0 (lit 0))) contents ≡ place 2 ∷ place 0 ∷ []
index_is_read_first = refl

stored_place_is_written : next_writes (stores (Element 0 (lit 0))) contents ≡ place 1 ∷ []
stored_place_is_written = refl

nothing_is_read_behind_a_fault : next_reads (stores (Element 0 (Element 0 (lit 0)))) contents ≡ place 2 ∷ place 0 ∷ []
nothing_is_read_behind_a_fault = refl

nothing_is_written_behind_a_fault : next_writes (stores (Element 0 (Element 0 (lit 0)))) contents ≡ []
nothing_is_written_behind_a_fault = refl

-- if a[0] < a[1] { } else { }
guard_is_read : next_reads (first_leaf (one_array 3 0 ((1, If (Compare Less (Element 0 (lit 0)) (Element 0 (lit 1))) End End) ⨾ End))) contents
    ≡ place 0 ∷ place 1 ∷ []
guard_is_read = refl

-- the halves of two elements, the right one first
right_half_first : explored (doubling 2) ((pos 1 ∷ pos 2 ∷ []) ∷ []) (0 ∷ 0 ∷ 0 ∷ 0 ∷ 0 ∷ 1 ∷ 1 ∷ 1 ∷ 1 ∷ 0 ∷ 0 ∷ 0 ∷ 0 ∷ [])
    ≡ Ends (Ended (record { arrays = (pos 2 ∷ pos 4 ∷ []) ∷ []; lines = []; faults = [] }))
right_half_first = refl
