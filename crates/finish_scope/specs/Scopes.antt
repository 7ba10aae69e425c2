-- The state of a scope, and the effect of each call.
use Rattle.std.specs.Prelude.{ℕ, ◌≡◌, ◌≢◌, ◌-◌, ◌+◌, ◌<◌, ◌≤◌, ◌⊎◌, List, [], ◌∷◌, ◌++◌, Option, Some}
use Rattle.std.specs.Prelude.{None, Bool, true, false}
use Rattle.task_run.specs.declared.result.TaskResult.{TaskResult as Made}
use Rattle.weights.specs.Ledger.{Ledger, Returned, issued_of, returned_of, opened, minted, listed}
use Rattle.weights.specs.Ledger.{without_entry}
use Rattle.finish_scope.specs.declared.causes.Ownerless.{Ownerless}
use Rattle.finish_scope.specs.declared.causes.Undue.{Undue}
use Rattle.finish_scope.specs.declared.late.Reason.{Reason}
use Rattle.finish_scope.specs.declared.late.Reason.TheVariants.{NotDue, IssuedTooOften}
use Rattle.finish_scope.specs.declared.resting.Passing.{Passing}
use Rattle.finish_scope.specs.declared.resting.Resting.{Resting}

-- its book, the results that have arrived, the parked owner, and whether memory ran out for a result or an
-- entry
pub record Standing : Type 0 where
  pub book : Ledger
  pub results : List Made
  pub owner : Option Resting
  pub marked : Bool

-- at its opening, w0 is out
abbrev pub scope_at_opening : (w0 : ℕ) → Standing
scope_at_opening w0 = record { book = opened w0; results = []; owner = None; marked = false }

-- the amount of weight that is out
abbrev pub out_of : Standing → ℕ
out_of s = issued_of s.book - returned_of s.book

-- all that was issued is back
abbrev pub IsEven : Standing → Type 0
IsEven s = returned_of s.book ≡ issued_of s.book

-- it has passed: all is back, and nobody is parked
pub record HasPassed (s : Standing) : Type 0 where
  pub even : IsEven s
  pub nobody : s.owner ≡ None

-- what comes back with a result, or as its owner is parked
abbrev pub given_by : Made → (weight : ℕ) → Returned
given_by made weight = record { path = made.path.turns.items; weight = weight }

-- w0 more is issued, in addition to a weight that is out
pub record Mints (old new : Standing) (weight : ℕ) : Type 0 where
  pub out : weight ≤ out_of old
  pub few : 1 + old.book.mints < 2147483648
  pub book : new ≡ record old { book = minted old.book }

-- a cause tells what the scope was given and what was out, and a second owner only if one was parked there
pub record IsUndue (s : Standing) (weight : ℕ) (c : Undue) : Type 0 where
  pub given : c.given ≡ weight
  pub out : c.out ≡ out_of s
  pub second : c.second_owner ≡ true → s.owner ≢ None

-- a cause tells what was issued, and what came back
pub record IsOwnerless (s : Standing) (c : Ownerless) : Type 0 where
  pub issued : c.issued ≡ issued_of s.book
  pub returned : c.returned ≡ returned_of s.book

-- why no more is issued: that much isn't out; or it is, and w0 was issued 2^31 times
abbrev pub Cannot : Standing → (weight : ℕ) → Reason → Type 0
Cannot s weight (NotDue c) = (out_of s < weight) × IsUndue s weight c
Cannot s weight (IssuedTooOften c) = (weight ≤ out_of s) × (1 + s.book.mints ≡ 2147483648)

-- a weight comes back: it has its entry; or there was no memory for it, the weight is counted as unlisted,
-- and the mark is set
abbrev pub Counts : (old new : Standing) → Returned → Type 0
Counts old new e = (new ≡ record old { book = listed e old.book })
    ⊎ (new ≡ record old { book = without_entry e old.book; marked = true })

-- a result is kept; or there was no memory for it, and the mark is set
abbrev pub Keeps : (old new : Standing) → Made → Type 0
Keeps old new made = (new ≡ record old { results = old.results ++ made ∷ [] })
    ⊎ (new ≡ record old { marked = true })

-- a weight that was out comes back with a result: it is counted, and the result is kept
pub record TakesBack (old new : Standing) (e : Returned) (made : Made) : Type 0 where
  pub out : e.weight ≤ out_of old
  pub between : Standing
  pub counts : Counts old between e
  pub keeps : Keeps between new made

-- an owner is parked if none was: the weight that it returns was out, and is counted
pub record Parks (old new : Standing) (e : Returned) (owner : Resting) : Type 0 where
  pub nobody : old.owner ≡ None
  pub out : e.weight ≤ out_of old
  pub counts : Counts (record old { owner = Some owner }) new e

-- all is back: its owner leaves with all results
pub record Passes (old new : Standing) (p : Passing) : Type 0 where
  pub even : IsEven old
  pub owner : old.owner ≡ Some p.owner
  pub results : p.results.items ≡ old.results
  pub left : new ≡ record old { results = []; owner = None }
