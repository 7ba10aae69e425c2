-- Worked lists of events, computed.
use Rattle.std.proofs.Common.{◌≡◌, ℕ, zero, suc, List, [], ◌∷◌, ◌++◌, Option, Some, None, refl}
use Rattle.std.specs.Prelude.{ℤ, pos, map, take, drop}
use Rattle.types.specs.Code.{Codes, Program, End, Do, Async, Finish, Skip}
use Rattle.types.specs.Outcome.{Budget, Outcome, Ended}
use Rattle.types.proofs.Programs.{◌⨾◌, main_of, two_arrays}
use Rattle.effects.specs.Rounds.{needs_of}
use Rattle.event_worlds.specs.World.{ScopeId, Live, root_scope, weight_in, book}
use Rattle.event_worlds.specs.Events.{Event, Take, Steal, Steps, Replenish, Spawns, Opens, Parks, Ends, Pass, Resume}
use Rattle.event_worlds.specs.History.{SpawnsAt, Begun, by_owner, by_member}
use Rattle.event_worlds.specs.Replay.{Replayed, Legal, IllegalAt, replay, world_outcome}
use Rattle.event_worlds.proofs.Histories.{contains_here}

abbrev root : List ℕ
root = []

abbrev first : List ℕ
first = 1 ∷ []

abbrev second : List ℕ
second = 1 ∷ 1 ∷ []

-- the root's first finish
abbrev its_finish : ScopeId
its_finish = record { owner = root; number = 1 }

abbrev small : Budget
small = record { steps = 1000; nest = 100 }

abbrev replayed : Program → (w0 : ℕ) → (input : List (List ℤ)) → List Event → Replayed
replayed p w0 input es = replay p (needs_of p) w0 input small es

-- the number of the first event that isn't legal
abbrev illegal : Replayed → Option ℕ
illegal (Legal w) = None
illegal (IllegalAt n) = Some n

-- the weight that a scope has issued, and the weight that came back
abbrev book_of : ScopeId → Replayed → Option (ℕ × ℕ)
book_of id (Legal w) = book id w
book_of id (IllegalAt n) = None

-- ---- two arrays: an async writes the one, its parent the other
abbrev two : List Event → Replayed
two = replayed two_arrays 8 ((pos 0 ∷ []) ∷ (pos 0 ∷ []) ∷ [])

abbrev told : Replayed → Option Outcome
told (Legal w) = world_outcome two_arrays (needs_of two_arrays) 1000 8 w
told (IllegalAt n) = None

-- one worker does everything
abbrev one_worker : List Event
one_worker =
    Take 0 root ∷ Opens root ∷ Spawns root ∷ Steps root ∷ Parks root
    ∷ Take 0 first ∷ Steps first ∷ Ends first
    ∷ Pass its_finish ∷ Resume 0 root None ∷ Steps root ∷ Parks root ∷ Pass root_scope ∷ []

outcome_is : told (two one_worker)
    ≡ Some (Ended (record { arrays = (pos 7 ∷ []) ∷ (pos 8 ∷ []) ∷ []; lines = (pos 7 ∷ pos 8 ∷ []) ∷ []; faults = [] }))
outcome_is = refl

book_is : book_of its_finish (two one_worker) ≡ Some (8, 8)
book_is = refl

-- as long as the child hasn't ended, its scope can't pass
without_end : illegal (two (take 7 one_worker ++ drop 8 one_worker)) ≡ Some 7
without_end = refl

park_early : illegal (two (take 2 one_worker ++ Parks root ∷ [])) ≡ Some 2
park_early = refl

pass_early : illegal (two (take 2 one_worker ++ Pass its_finish ∷ [])) ≡ Some 2
pass_early = refl

steal_from_itself : illegal (two (take 3 one_worker ++ Steal 1 1 first ∷ [])) ≡ Some 3
steal_from_itself = refl

steal_from_another : illegal (two (take 3 one_worker ++ Steal 1 0 first ∷ Take 1 first ∷ [])) ≡ None
steal_from_another = refl

-- ---- a finish of several asyncs that skip
abbrev skipping : ℕ → (label : ℕ) → Codes
skipping zero l = End
skipping (suc k) l = (l, Async ((suc l, Do Skip) ⨾ End)) ⨾ skipping k (suc (suc l))

abbrev skips : ℕ → Program
skips k = main_of [] 0 [] ((1, Finish (skipping k 2)) ⨾ End)

abbrev runs : (child : ℕ) → List Event
runs n = Take 0 (n ∷ []) ∷ Steps (n ∷ []) ∷ Ends (n ∷ []) ∷ []

-- with weight 1 each spawn needs more weight
abbrev three_with_one : List Event
three_with_one =
    Take 0 root ∷ Opens root ∷ Replenish root ∷ Spawns root ∷ Replenish root ∷ Spawns root
    ∷ Replenish root ∷ Spawns root ∷ Parks root ∷ runs 1 ++ runs 2 ++ runs 3 ++ Pass its_finish ∷ []

three_book : book_of its_finish (replayed (skips 3) 1 [] three_with_one) ≡ Some (4, 4)
three_book = refl

-- with weight 8 the fourth spawn does
abbrev four_with_eight : List Event
four_with_eight =
    Take 0 root ∷ Opens root ∷ Spawns root ∷ Spawns root ∷ Spawns root ∷ Replenish root ∷ Spawns root
    ∷ Parks root ∷ runs 1 ++ runs 2 ++ runs 3 ++ runs 4

four_book : book_of its_finish (replayed (skips 4) 8 [] four_with_eight) ≡ Some (16, 16)
four_book = refl

-- the weights of its tasks by then, the newest first
abbrev weights : Replayed → List ℕ
weights (Legal w) = map (λ (t : Live). weight_in its_finish t.stakes) w.live
weights (IllegalAt n) = []

four_weights : weights (replayed (skips 4) 8 [] (take 7 four_with_eight)) ≡ 4 ∷ 1 ∷ 2 ∷ 4 ∷ 5 ∷ []
four_weights = refl

-- ---- a child ends before its own child, and the scope waits for both
abbrev nested : Program
nested = main_of [] 0 [] (
    (1, Finish ((2, Async ((3, Async ((4, Do Skip) ⨾ End)) ⨾ (5, Do Skip) ⨾ End)) ⨾ End)) ⨾
    (6, Do Skip) ⨾ End)

abbrev child_ends_first : List Event
child_ends_first =
    Take 0 root ∷ Opens root ∷ Spawns root ∷ Parks root ∷ Take 0 first ∷ Spawns first ∷ Steps first ∷ Ends first ∷ []

too_early : illegal (replayed nested 8 [] (child_ends_first ++ Pass its_finish ∷ [])) ≡ Some 8
too_early = refl

in_time : illegal (replayed nested 8 [] (child_ends_first
    ++ Steal 1 0 second ∷ Take 1 second ∷ Steps second ∷ Ends second
    ∷ Pass its_finish ∷ Resume 1 root None ∷ Steps root ∷ Parks root ∷ Pass root_scope ∷ [])) ≡ None
in_time = refl

-- both were spawned in it
first_spawned : SpawnsAt child_ends_first (take 2 child_ends_first) root first
first_spawned = record { later = drop 3 child_ends_first; here = refl; numbered = refl }

second_spawned : SpawnsAt child_ends_first (take 5 child_ends_first) first second
second_spawned = record { later = drop 6 child_ends_first; here = refl; numbered = refl }

first_begun : Begun child_ends_first its_finish first
first_begun = by_owner first_spawned (contains_here 1 (0 ∷ []))

second_begun : Begun child_ends_first its_finish second
second_begun = by_member first_begun second_spawned
