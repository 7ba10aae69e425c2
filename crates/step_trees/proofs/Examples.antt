-- A worked program, and what the theorems state about it: the recursion that doubles the halves of
-- an array.
use Rattle.std.proofs.Common.{◌≡◌, ℕ, List, [], ◌∷◌, refl}
use Rattle.std.specs.Prelude.{pos}
use Rattle.types.specs.Outcome.{Budget, IsLarger, Outcome, Ended, outcome}
use Rattle.types.specs.TreeRuns.{Ends, explored}
use Rattle.types.proofs.Programs.{doubling}
use Rattle.race_checker.proofs.Examples.{doubling_sound, doubling_accepted}
use Rattle.step_trees.proofs.ChosenRuns.{choices_end}

abbrev right_half_first : List ℕ
right_half_first = 0 ∷ 0 ∷ 0 ∷ 0 ∷ 0 ∷ 1 ∷ 1 ∷ 1 ∷ 1 ∷ 0 ∷ 0 ∷ 0 ∷ 0 ∷ []

abbrev doubled : Outcome
doubled = Ended (record { arrays = (pos 2 ∷ pos 4 ∷ []) ∷ []; lines = []; faults = [] })

right_half_first_doubles : explored (doubling 2) ((pos 1 ∷ pos 2 ∷ []) ∷ []) right_half_first ≡ Ends doubled
right_half_first_doubles = refl

-- it is sound and accepted, so this is the one-thread outcome with 13 steps and nest 13 or more
one_thread_doubles : (b : Budget) → IsLarger b (record { steps = 13; nest = 13 })
    → outcome (doubling 2) ((pos 1 ∷ pos 2 ∷ []) ∷ []) b ≡ doubled
one_thread_doubles =
    choices_end (doubling 2) (doubling_sound 2) (doubling_accepted 2) ((pos 1 ∷ pos 2 ∷ []) ∷ []) right_half_first doubled
    right_half_first_doubles
