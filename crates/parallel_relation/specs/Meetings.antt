-- The pairs that may run together as lists, over tables of what each procedure's body contains.
use Rattle.std.specs.Prelude.{ℕ, List, [], ◌∷◌, ◌++◌, map, Bool, true, if◌then◌else◌, ◌↔◌}
use Rattle.sections.specs.Member.{Member}
use Rattle.types.specs.Code.{Code, Do, If, While, Split, Parts, Begun, Call, Async, Finish, Rescue, Codes}
use Rattle.types.specs.Code.{End, Then, Program}
use Rattle.effects.specs.Effects.{Subject}
use Rattle.effects.specs.Tables.{Table, all_of, all_in, left_by, left_in, IsDerived, IsDerivedPending}
use Rattle.effects.specs.Tables.{IsStable, IsStablePending}
use Rattle.parallel_relation.specs.Together.{Together}

-- each of the first items paired with each of the second
abbrev pub crossed : {A : Type 0} → List A → List A → List (A × A)
crossed [] ys = []
crossed (x ∷ xs) ys = map (λ y. (x, y)) ys ++ crossed xs ys

module _ (subject : Subject) (piece : ℕ) where
  -- an item of a turn paired with each of a later turn that isn't apart from it
  abbrev pub met_by_turn : subject.Item → List subject.Item → List (subject.Item × subject.Item)
  met_by_turn x [] = []
  met_by_turn x (y ∷ ys) =
      (if subject.apart piece x y then [] else (x, y) ∷ []) ++ met_by_turn x ys

  abbrev pub met_by_turns : (xs ys : List subject.Item) → List (subject.Item × subject.Item)
  met_by_turns [] ys = []
  met_by_turns (x ∷ xs) ys = met_by_turn x ys ++ met_by_turns xs ys

module _ (subject : Subject) (alls pendings : Table subject) where
  -- the pairs of a loop with its next iteration, and of a `parts` with its later turns
  abbrev pub turned : (label : ℕ) → Code → List (subject.Item × subject.Item)
  turned l (While t b) =
      crossed (left_by subject alls pendings (While t b)) (all_of subject alls l (While t b))
  turned l (Parts s e q i b) =
      met_by_turns subject q (left_in subject alls pendings b) (subject.turn l ++ all_in subject alls b)
  turned l _ = []

  -- the pairs that a statement adds in front of a list: what it leaves pending with everything in
  -- the list, and a loop with its next iteration, or a `parts` with its later turns
  abbrev pub added : (label : ℕ) → Code → (rest : Codes) → List (subject.Item × subject.Item)
  added l s rest =
      crossed (left_by subject alls pendings s) (all_in subject alls rest) ++ turned l s

  -- for the statements whose pairs are requested
  module _ (asked : ℕ → Bool) where
    abbrev mutual
      -- the pairs that they add inside a statement
      pub added_inside : Code → List (subject.Item × subject.Item)
      added_inside (Do s) = []
      added_inside (If t b c) = added_in b ++ added_in c
      added_inside (While t b) = added_in b
      added_inside (Split s e l r b) = added_in b
      added_inside (Parts s e q i b) = added_in b
      added_inside (Begun s n k q i b) = []
      added_inside (Call f es ss) = []
      added_inside (Async b) = added_in b
      added_inside (Finish b) = added_in b
      added_inside (Rescue b n c) = added_in b ++ added_in c

      -- those that they add in a list of statements
      pub added_in : Codes → List (subject.Item × subject.Item)
      added_in End = []
      added_in (Then l s rest) =
          (if asked l then added l s rest else []) ++ (added_inside s ++ added_in rest)

  -- the pairs of a list of statements
  abbrev pub met_in : Codes → List (subject.Item × subject.Item)
  met_in = added_in (λ l. true)

-- over tables that are the least solution, the listed pairs are those that may run together
abbrev pub ListsAreExact : Program → Subject → Type 0
ListsAreExact p subject = (alls pendings : Table subject)
    → IsDerived p subject alls → IsStable p subject alls
    → IsDerivedPending p subject pendings → IsStablePending p subject alls pendings
    → (b : Codes) (x y : subject.Item)
    → Member (x, y) (met_in subject alls pendings b) ↔ Together p subject b x y
