-- The labels of worked programs that may run together.
use Rattle.std.proofs.Common.{◌≡◌, ℕ, List, [], ◌∷◌, refl}
use Rattle.types.specs.Code.{Procedure, Program}
use Rattle.types.proofs.Programs.{two_arrays}
use Rattle.effects.specs.Effects.{labels}
use Rattle.effects.specs.Tables.{alls_after, pendings_after}
use Rattle.parallel_relation.specs.Meetings.{met_in}
use Rattle.parallel_relation.proofs.Programs.{split_in_loop, call_then_store, pieces}

-- the label pairs of a procedure, for calls that are nested at most three deep
abbrev pairs : Program → Procedure → List (ℕ × ℕ)
pairs p g =
    let alls = alls_after p labels 3 in
    met_in labels alls (pendings_after p labels alls 3) g.body

two_arrays_pairs : pairs two_arrays two_arrays.main ≡ (3, 4) ∷ []
two_arrays_pairs = refl

-- the async inside the loop meets all of the next iteration, itself too, and what follows it in its
-- iteration
split_in_loop_pairs : pairs split_in_loop split_in_loop.main
    ≡ (6, 3) ∷ (6, 4) ∷ (6, 5) ∷ (6, 6) ∷ (6, 7) ∷ (6, 7) ∷ []
split_in_loop_pairs = refl

-- the callee's async meets what follows the call
call_then_store_pairs : pairs call_then_store call_then_store.main ≡ (2, 5) ∷ []
call_then_store_pairs = refl

-- the async of a turn meets the step before each later turn, and all that the turn does
pieces_pairs : pairs pieces pieces.main
    ≡ (4, 2) ∷ (4, 3) ∷ (4, 4) ∷ (4, 5) ∷ (5, 2) ∷ (5, 3) ∷ (5, 4) ∷ (5, 5) ∷ []
pieces_pairs = refl
