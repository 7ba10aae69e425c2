-- Worked programs with `rescue`, on one thread and as step trees, computed.
use Rattle.std.proofs.Common.{◌≡◌, ℕ, List, [], ◌∷◌, true, refl}
use Rattle.std.specs.Prelude.{ℤ, pos, replicate}
use Rattle.types.specs.declared.fault.FaultKind.TheVariants.{Raised}
use Rattle.types.specs.Code.{Scalar, Constant, Skip, Assign, Print, Raise, Do, While, Async, Finish, Rescue, Codes, End, Program}
use Rattle.types.specs.Run.{Fault}
use Rattle.types.specs.Outcome.{Budget, Outcome, Ended, Stopped, outcome}
use Rattle.types.specs.TreeRuns.{Ends, Open, explored}
use Rattle.types.proofs.Programs.{◌⨾◌, lit, main_of}

abbrev budget : (steps : ℕ) → Budget
budget steps = record { steps = steps; nest = 100 }

-- the ending of a program without arrays
abbrev ends : (lines : List (List ℤ)) → List Fault → Outcome
ends lines faults = Ended (record { arrays = []; lines = lines; faults = faults })

-- `fault n;`, and what it records in a task
abbrev raise : ℕ → Codes → ℕ → Codes
raise l rest n = (l, Do (Raise (lit n))) ⨾ rest

abbrev raised : List ℕ → (label : ℕ) → ℕ → Fault
raised path l n = record { path = path; label = l; kind = Raised (pos n) }

-- `print n;`, where n is the number of faults in slot k
abbrev print_slot : ℕ → (slot : ℕ) → Codes → Codes
print_slot l k rest = (l, Do (Print (Scalar k ∷ []))) ⨾ rest

abbrev print : ℕ → ℕ → Codes → Codes
print l n rest = (l, Do (Print (lit n ∷ []))) ⨾ rest

-- finish { fault 1; } rescue n { print n; } print 9;
abbrev one_fault : Program
one_fault = main_of [] 1 [] ((1, Rescue (raise 2 End 1) 0 (print_slot 3 0 End)) ⨾ print 4 9 End)

one_fault_is_handled : outcome one_fault [] (budget 1000000) ≡ ends ((pos 1 ∷ []) ∷ (pos 9 ∷ []) ∷ []) []
one_fault_is_handled = refl

-- the finish, the fault and the two prints take a step each
four_steps_suffice : outcome one_fault [] (budget 4) ≡ ends ((pos 1 ∷ []) ∷ (pos 9 ∷ []) ∷ []) []
four_steps_suffice = refl

three_steps_stop : outcome one_fault [] (budget 3) ≡ Stopped
three_steps_stop = refl

one_fault_in_a_tree : explored one_fault [] (replicate 4 0) ≡ Ends (ends ((pos 1 ∷ []) ∷ (pos 9 ∷ []) ∷ []) [])
one_fault_in_a_tree = refl

-- finish { async { fault 1; } async { fault 2; } fault 3; } rescue n { print n; fault 4; } print 9;
abbrev three_faults : Program
three_faults = main_of [] 1 [] ((
  1,
  Rescue ((2, Async (raise 3 End 1)) ⨾ (4, Async (raise 5 End 2)) ⨾ raise 6 End 3) 0 (print_slot 7 0 (raise 8 End 4)),
) ⨾ print 9 9 End)

-- a fault of the handler is one of `main`
handler_faults : outcome three_faults [] (budget 100) ≡ ends ((pos 3 ∷ []) ∷ []) (raised [] 8 4 ∷ [])
handler_faults = refl

handler_faults_in_a_tree : explored three_faults [] (replicate 8 0) ≡ Ends (ends ((pos 3 ∷ []) ∷ []) (raised [] 8 4 ∷ []))
handler_faults_in_a_tree = refl

-- the owner's fault comes first
owner_first : explored three_faults [] (0 ∷ 0 ∷ 1 ∷ 2 ∷ 0 ∷ 0 ∷ 0 ∷ 0 ∷ []) ≡ Ends (ends ((pos 3 ∷ []) ∷ []) (raised [] 8 4 ∷ []))
owner_first = refl

-- finish { print 1; } rescue n { print 2; }
without_faults : outcome (main_of [] 1 [] ((1, Rescue (print 2 1 End) 0 (print 3 2 End)) ⨾ End)) [] (budget 100)
    ≡ ends ((pos 1 ∷ []) ∷ []) []
without_faults = refl

-- finish { while true { skip; } } rescue n { print n; }
stopped_is_not_handled : outcome (main_of [] 1 [] ((
  1,
  Rescue ((2, While (Constant true) ((3, Do Skip) ⨾ End)) ⨾ End) 0 (print_slot 4 0 End),
) ⨾ End)) [] (budget 20) ≡ Stopped
stopped_is_not_handled = refl

-- x = 0; finish { x = 1; fault 1; x = 2; } rescue n { print x; }
abbrev owner_assigns : Program
owner_assigns = main_of [] 2 [] ((1, Do (Assign 0 (lit 0))) ⨾ (
  2,
  Rescue ((3, Do (Assign 0 (lit 1))) ⨾ raise 4 ((5, Do (Assign 0 (lit 2))) ⨾ End) 1) 1 (print_slot 6 0 End),
) ⨾ End)

-- what the owner assigned before its fault stays
scalars_stay : outcome owner_assigns [] (budget 100) ≡ ends ((pos 1 ∷ []) ∷ []) []
scalars_stay = refl

scalars_stay_in_a_tree : explored owner_assigns [] (replicate 5 0) ≡ Ends (ends ((pos 1 ∷ []) ∷ []) [])
scalars_stay_in_a_tree = refl

-- finish { async { fault 1; } } rescue n { async { fault 2; } }
abbrev asyncs : Program
asyncs = main_of [] 1 [] ((1, Rescue ((2, Async (raise 3 End 1)) ⨾ End) 0 ((4, Async (raise 5 End 2)) ⨾ End)) ⨾ End)

-- the children of the handler are numbered after those of the finish
children_go_on : outcome asyncs [] (budget 100) ≡ ends [] (raised (2 ∷ []) 5 2 ∷ [])
children_go_on = refl

children_go_on_in_a_tree : explored asyncs [] (replicate 5 0) ≡ Ends (ends [] (raised (2 ∷ []) 5 2 ∷ []))
children_go_on_in_a_tree = refl

-- finish { finish { async { fault 1; } fault 2; } print 7; } rescue n { print n; }
abbrev nested : Program
nested = main_of [] 1 [] ((
  1,
  Rescue ((2, Finish ((3, Async (raise 4 End 1)) ⨾ raise 5 End 2)) ⨾ print 6 7 End) 0 (print_slot 7 0 End),
) ⨾ End)

-- faults of an inner finish count one by one
faults_are_flat : outcome nested [] (budget 100) ≡ ends ((pos 2 ∷ []) ∷ []) []
faults_are_flat = refl

faults_are_flat_in_a_tree : explored nested [] (replicate 6 0) ≡ Ends (ends ((pos 2 ∷ []) ∷ []) [])
faults_are_flat_in_a_tree = refl

-- async { fault 1; } finish { fault 2; } rescue n { print n; }
abbrev earlier_fault : Program
earlier_fault = main_of [] 1 [] ((1, Async (raise 2 End 1)) ⨾ (3, Rescue (raise 4 End 2) 0 (print_slot 5 0 End)) ⨾ End)

-- only the faults of the finish are counted and dropped
earlier_faults_stay : outcome earlier_fault [] (budget 100) ≡ ends ((pos 1 ∷ []) ∷ []) (raised (1 ∷ []) 2 1 ∷ [])
earlier_faults_stay = refl

earlier_faults_stay_in_a_tree : explored earlier_fault [] (replicate 5 0) ≡ Ends (ends ((pos 1 ∷ []) ∷ []) (raised (1 ∷ []) 2 1 ∷ []))
earlier_faults_stay_in_a_tree = refl

-- finish { finish { fault 1; } rescue n { } } print 9;
abbrev empty_handler : Program
empty_handler = main_of [] 1 [] ((1, Finish ((2, Rescue (raise 3 End 1) 0 End) ⨾ End)) ⨾ print 4 9 End)

-- an empty handler passes at once
empty_handler_passes : outcome empty_handler [] (budget 4) ≡ ends ((pos 9 ∷ []) ∷ []) []
empty_handler_passes = refl

empty_handler_passes_in_a_tree : explored empty_handler [] (replicate 4 0) ≡ Ends (ends ((pos 9 ∷ []) ∷ []) [])
empty_handler_passes_in_a_tree = refl

-- before the last leaf of the finish is done, the handler waits
waits_for_children : explored asyncs [] (0 ∷ 0 ∷ []) ≡ Open 1
waits_for_children = refl
