-- The outcomes of worked programs, computed.
use Rattle.std.proofs.Common.{◌≡◌, ℕ, zero, suc, ◌+◌, ◌*◌, List, [], ◌∷◌, refl}
use Rattle.std.specs.Prelude.{ℤ, pos, negsuc, replicate}
use Rattle.types.specs.declared.code.Operator.TheVariants.{Over, Modulo}
use Rattle.types.specs.declared.fault.FaultKind.TheVariants.{Index, Overflow, ZeroDivisor, OutOfElement, SplitPoint, Raised}
use Rattle.types.specs.Code.{Chain, Link, Done, Negative}
use Rattle.types.specs.Run.{Fault}
use Rattle.types.specs.Outcome.{Budget, Outcome, Ended, Stopped, outcome}
use Rattle.types.proofs.Programs.{lit, two_arrays, doubling, splits, split_below, two_readers, three_faults}
use Rattle.types.proofs.Programs.{child_faults, fault_after_async, nested_tasks, nested_faults, byte_store}
use Rattle.types.proofs.Programs.{past_the_end, endless, signs, least_by, least, by_zero, count_to, scalars, deep_call}
use Rattle.types.proofs.Programs.{one_async, late_async}

abbrev budget : (steps nest : ℕ) → Budget
budget steps nest = record { steps = steps; nest = nest }

abbrev usual : Budget
usual = budget 1000000 100

abbrev z : ℕ → ℤ
z n = pos n

-- no arrays and no faults
abbrev prints : List (List ℤ) → Outcome
prints lines = Ended (record { arrays = []; lines = lines; faults = [] })

abbrev fails : List (List ℤ) → List Fault → Outcome
fails lines faults = Ended (record { arrays = []; lines = lines; faults = faults })

abbrev zeros : ℕ → List ℤ
zeros n = replicate n (z 0)

two_arrays_end : outcome two_arrays (zeros 1 ∷ zeros 1 ∷ []) usual
    ≡ Ended (record { arrays = (z 7 ∷ []) ∷ (z 8 ∷ []) ∷ []; lines = (z 7 ∷ z 8 ∷ []) ∷ []; faults = [] })
two_arrays_end = refl

-- `main` needs four steps: the finish, the async, the store and the print
four_steps_suffice : outcome two_arrays (zeros 1 ∷ zeros 1 ∷ []) (budget 4 1)
    ≡ Ended (record { arrays = (z 7 ∷ []) ∷ (z 8 ∷ []) ∷ []; lines = (z 7 ∷ z 8 ∷ []) ∷ []; faults = [] })
four_steps_suffice = refl

three_steps_stop : outcome two_arrays (zeros 1 ∷ zeros 1 ∷ []) (budget 3 100) ≡ Stopped
three_steps_stop = refl

abbrev upto : ℕ → ℕ → List ℤ
upto a zero = []
upto a (suc n) = z a ∷ upto (a + 1) n

abbrev doubles : ℕ → ℕ → List ℤ
doubles a zero = []
doubles a (suc n) = z (2 * a) ∷ doubles (a + 1) n

doubling_8 : outcome (doubling 8) (upto 1 8 ∷ []) usual ≡ Ended (record { arrays = doubles 1 8 ∷ []; lines = []; faults = [] })
doubling_8 = refl

doubling_16 : outcome (doubling 16) (upto 1 16 ∷ []) usual ≡ Ended (record { arrays = doubles 1 16 ∷ []; lines = []; faults = [] })
doubling_16 = refl

-- 16 places are four halvings deep
doubling_16_nest_4 : outcome (doubling 16) (upto 1 16 ∷ [])
    (budget 1000 4) ≡ Ended (record { arrays = doubles 1 16 ∷ []; lines = []; faults = [] })
doubling_16_nest_4 = refl

doubling_16_nest_3 : outcome (doubling 16) (upto 1 16 ∷ []) (budget 1000 3) ≡ Stopped
doubling_16_nest_3 = refl

-- at 0, at the length, and beyond it
splits_end : outcome splits (zeros 3 ∷ []) usual ≡ Ended
    (record {
      arrays = (z 0 ∷ z 0 ∷ z 5 ∷ []) ∷ [];
      lines = (z 0 ∷ z 5 ∷ []) ∷ [];
      faults =
          record { path = []; label = 6; kind = SplitPoint } ∷ [];
    })
splits_end = refl

split_below_faults : outcome split_below (zeros 3 ∷ []) usual
    ≡ Ended (record { arrays = zeros 3 ∷ []; lines = []; faults = record { path = []; label = 1; kind = SplitPoint } ∷ [] })
split_below_faults = refl

readers_end : outcome two_readers ((z 4 ∷ []) ∷ zeros 1 ∷ zeros 1 ∷ []) usual
    ≡ Ended (record { arrays = (z 4 ∷ []) ∷ (z 4 ∷ []) ∷ (z 4 ∷ []) ∷ []; lines = (z 4 ∷ []) ∷ (z 4 ∷ z 4 ∷ []) ∷ []; faults = [] })
readers_end = refl

-- faults come in depth-first order, and what follows the finish doesn't run
three_faults_end : outcome three_faults [] usual ≡ fails []
    (record { path = 1 ∷ []; label = 3; kind = Raised (z 1) } ∷ record { path = 2 ∷ []; label = 5; kind = Raised (z 2) }
    ∷ record { path = []; label = 6; kind = Raised (z 3) } ∷ [])
three_faults_end = refl

-- a child's fault doesn't affect its parent up to the finish
child_faults_end : outcome child_faults [] usual ≡ fails ((z 8 ∷ []) ∷ []) (record { path = 1 ∷ []; label = 3; kind = Raised (z 1) } ∷ [])
child_faults_end = refl

fault_after_async_end : outcome fault_after_async [] usual ≡ fails ((z 5 ∷ []) ∷ [])
    (record { path = []; label = 4; kind = Raised (z 4) } ∷ [])
fault_after_async_end = refl

nested_tasks_end : outcome nested_tasks [] usual ≡ prints ((z 1 ∷ []) ∷ (z 2 ∷ []) ∷ (z 3 ∷ []) ∷ [])
nested_tasks_end = refl

-- the path of a child's child extends the child's path
nested_faults_end : outcome nested_faults [] usual
    ≡ fails [] (record { path = 1 ∷ 1 ∷ []; label = 4; kind = Raised (z 1) }
    ∷ record { path = 1 ∷ []; label = 5; kind = Raised (z 2) } ∷ [])
nested_faults_end = refl

byte_store_end : outcome byte_store (zeros 1 ∷ []) usual
    ≡ Ended (record { arrays = (z 255 ∷ []) ∷ []; lines = []; faults = record { path = []; label = 2; kind = OutOfElement } ∷ [] })
byte_store_end = refl

past_the_end_faults : outcome past_the_end (zeros 1 ∷ []) usual
    ≡ Ended (record { arrays = zeros 1 ∷ []; lines = []; faults = record { path = []; label = 1; kind = Index } ∷ [] })
past_the_end_faults = refl

endless_stops : outcome endless [] (budget 100 100) ≡ Stopped
endless_stops = refl

-- division rounds toward zero, and `%` has the sign of the dividend
signs_end : outcome signs [] usual ≡ fails ((negsuc 2 ∷ negsuc 0 ∷ []) ∷ []) (record { path = []; label = 2; kind = Overflow } ∷ [])
signs_end = refl

least_over : outcome (least_by (Chain least (Link Over (Negative (lit 1)) Done))) [] usual
    ≡ fails [] (record { path = []; label = 1; kind = Overflow } ∷ [])
least_over = refl

least_modulo : outcome (least_by (Chain least (Link Modulo (Negative (lit 1)) Done))) [] usual
    ≡ fails [] (record { path = []; label = 1; kind = Overflow } ∷ [])
least_modulo = refl

least_negative : outcome (least_by (Negative least)) [] usual ≡ fails [] (record { path = []; label = 1; kind = Overflow } ∷ [])
least_negative = refl

by_zero_faults : outcome by_zero [] usual ≡ fails [] (record { path = []; label = 1; kind = ZeroDivisor } ∷ [])
by_zero_faults = refl

-- 1 step for the assignment, 6 for the condition, 5 for the body and 1 for the print
counts_to_5 : outcome (count_to 5) [] (budget 13 0) ≡ prints ((z 5 ∷ []) ∷ [])
counts_to_5 = refl

counts_short : outcome (count_to 5) [] (budget 12 0) ≡ Stopped
counts_short = refl

scalars_end : outcome scalars [] usual ≡ prints ((z 3 ∷ []) ∷ (z 3 ∷ []) ∷ [])
scalars_end = refl

deep_call_end : outcome (deep_call 20)
    (zeros 1 ∷ []) usual ≡ Ended (record { arrays = (z 210 ∷ []) ∷ []; lines = (z 210 ∷ []) ∷ []; faults = [] })
deep_call_end = refl

no_nest_stops : outcome one_async [] (budget 100 0) ≡ Stopped
no_nest_stops = refl

one_nest_suffices : outcome one_async [] (budget 100 1) ≡ prints ((z 1 ∷ []) ∷ (z 2 ∷ []) ∷ [])
one_nest_suffices = refl

-- a child starts with all steps, no matter how many its parent has left
late_async_ends : outcome late_async [] (budget 3 1) ≡ prints []
late_async_ends = refl
