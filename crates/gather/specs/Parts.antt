-- Results with some of their holes filled, and what they settle to.
use Rattle.std.specs.Prelude.{◌+◌, ◌≡◌, List, [], ◌∷◌, ◌++◌, length, ℤ, Bool, ◌||◌}
use Rattle.std.specs.Prelude.{Option, Some, None, if◌then◌else◌}
use Rattle.sections.specs.Covers.{has}
use Rattle.sections.specs.Place.{Place, Window}
use Rattle.types.specs.Contents.{Contents}
use Rattle.types.specs.Run.{Fault}
use Rattle.task_run.specs.Places.{Places, meets, only, over}
use Rattle.task_run.specs.Results.{Listed, TaskResult, Settled, fill, and_then, returned}
use Rattle.task_run.specs.Settling.{fill_all, settle_within, none_left}
use Rattle.task_run.specs.Lists.{Each}
use Rattle.gather.specs.GivesBack.{AreGivenBack}

-- a result with some of its holes filled
pub record Part : Type 0 where
  pub owned : Places
  -- what has come back so far, together with what the task itself has
  pub so_far : Settled
  pub holes : List Listed
  -- its lines and faults after its last hole
  pub lines : List (List ℤ)
  pub faults : List Fault

-- a result that waits for the result of one of its holes
pub record Waiting : Type 0 where
  pub part : Part
  pub hole : Listed

-- a result with none of its holes filled
abbrev pub opened : TaskResult → Part
opened r = record {
  owned = r.owned;
  so_far = record { stopped = r.stopped; contents = r.contents; lines = []; faults = [] };
  holes = r.children;
  lines = r.lines;
  faults = r.faults;
}

-- what has come back, followed by the lines and faults after the last hole
abbrev pub closed : Part → (so_far : Settled) → Settled
closed f s = record s { lines = s.lines ++ f.lines; faults = s.faults ++ f.faults }

-- the places of windows come back, with the numbers that a child has there
abbrev pub given_back : Part → List Window → (child : Contents) → Part
given_back f ws child = record f {
  owned = λ q. f.owned q || has ws q;
  so_far = record f.so_far { contents = over (only (has ws) child) f.so_far.contents };
}

-- the next hole is filled
abbrev pub filled : Waiting → (child : Settled) → Part
filled w child = record w.part {
  owned = λ q. w.part.owned q || has w.hole.windows q;
  so_far = fill w.hole child w.part.so_far;
}

-- a place comes back that is already owned
abbrev pub comes_back_twice : Waiting → Bool
comes_back_twice w = meets w.part.owned w.hole.windows

-- a settled result, and the results that it left unused
abbrev pub Comes : Type 0
Comes = Option (Settled × List TaskResult)

-- settles a result
abbrev pub settle_one : TaskResult → List TaskResult → Comes
settle_one r rs = settle_within (length rs + 1) r rs

-- fills all holes that are left
abbrev pub finished : Part → List TaskResult → Comes
finished f rs =
    and_then (fill_all settle_one f.owned f.holes f.so_far rs) (λ all. Some (closed f all.0, all.1))

-- fills the hole that was waited for, and then the remaining holes
abbrev pub gone_on : Waiting → Settled × List TaskResult → Comes
gone_on w x =
    if comes_back_twice w then None else finished (filled w x.0) x.1

-- continues in this way for all waiting results, the last first
abbrev pub come : List Waiting → Settled × List TaskResult → Comes
come [] x = Some x
come (w ∷ ws) x = and_then (come ws x) (gone_on w)

-- all places that a part owns in the end
abbrev pub owned_in_all : Part → Places
owned_in_all f q = f.owned q || returned f.holes q

-- the places that the first opened result owns in the end: if it waits, its hole is among those
-- that are left
abbrev pub total : List Waiting → Part → Places
total [] f = owned_in_all f
total (w ∷ ws) f = owned_in_all (record w.part { holes = w.hole ∷ w.part.holes })

-- the result of each hole owns in the end what is listed there
abbrev pub Fit : List Waiting → Part → Type 0
Fit [] f = Unit {0}
Fit (w ∷ ws) f = ((q : Place) → total ws f q ≡ has w.hole.windows q) × Fit ws f

-- the progress of the gathering: results that are left, results that wait, and the part that is
-- filled now
pub record Gathering : Type 0 where
  pub left : List TaskResult
  pub waiting : List Waiting
  pub part : Part

-- the settled result of the whole gathering
abbrev pub comes_to : Gathering → Option Settled
comes_to g = and_then (and_then (finished g.part g.left) (come g.waiting)) none_left

-- all that is listed is given back
pub record IsWhole (g : Gathering) : Type 0 where
  pub fit : Fit g.waiting g.part
  pub holes : AreGivenBack g.left g.part.holes
  pub waiting : Each (λ w. AreGivenBack g.left w.part.holes) g.waiting
  pub results : Each (λ x. AreGivenBack g.left x.children) g.left

-- a waiting part before its hole was taken out
abbrev pub unopened : Waiting → Part
unopened w = record w.part { holes = w.hole ∷ w.part.holes }
