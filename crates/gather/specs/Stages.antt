-- Stages of the gathering in Rust, without their locations in memory.
use Rattle.std.specs.Prelude.{ℕ, ◌+◌, ◌*◌, ◌≡◌, ◌||◌, List, [], ◌∷◌, ◌++◌, map, length, Some}
use Rattle.std.specs.Vec.{vec_len}
use Rattle.sections.specs.Covers.{has}
use Rattle.sections.specs.Place.{Place}
use Rattle.sections.specs.Translation.{window}
use Rattle.types.specs.Translation.{fault}
use Rattle.task_run.specs.Lists.{Each}
use Rattle.task_run.specs.Places.{Places}
use Rattle.task_run.specs.declared.result.Listed.{Listed as rListed}
use Rattle.task_run.specs.declared.result.Settled.{Settled as rSettled}
use Rattle.task_run.specs.declared.result.TaskResult.{TaskResult as rTaskResult}
use Rattle.task_run.specs.Translation.{listed, settled, task_result, owned_by}
use Rattle.gather.specs.Left.{left}
use Rattle.gather.specs.Parts.{Part, Waiting, Gathering, comes_to, total, unopened, IsWhole}
use Rattle.gather.specs.declared.filling.Filling.{Filling}
use Rattle.gather.specs.declared.filling.WaitingResult.{WaitingResult as rWaiting}
use Rattle.gather.specs.declared.settle.Stage.{Stage}

-- a result that is being filled; strays count as owned too
abbrev pub part : Filling → Part
part f = record {
  owned = λ q. has (map window f.strays.items) q || owned_by f.so_far.holdings q;
  so_far = settled f.so_far;
  holes = map listed f.holes.items;
  lines = map (λ v. v.items) f.lines.items;
  faults = map fault f.faults.items;
}

-- a result that waits for the result of one of its holes
abbrev pub waiting_for : Filling → rListed → Waiting
waiting_for f hole = record { part = part f; hole = listed hole }

abbrev pub waiting : rWaiting → Waiting
waiting w = waiting_for w.filling w.hole

-- there are no strays
abbrev pub IsClear : Filling → Type 0
IsClear f = f.strays.items ≡ []

-- results that are left, those that wait, and a part
abbrev pub gathered : List rTaskResult → List rWaiting → Part → Gathering
gathered left ws f = record { left = map task_result left; waiting = map waiting ws; part = f }

-- a stage
abbrev pub gathering : Stage → Gathering
gathering g = gathered (left g.results.unused) g.waiting.items (part g.filling)

-- there are no strays, neither in the current part nor in the waiting ones
abbrev pub AreClear : Stage → Type 0
AreClear g = IsClear g.filling × Each (λ w. IsClear w.filling) g.waiting.items

-- the places that are owned in the end
abbrev pub owned_in_end : Gathering → Places
owned_in_end g = total g.waiting g.part

-- a gathering leads to another one with the same settled result
pub record Leads (g h : Gathering) : Type 0 where
  pub comes : comes_to h ≡ comes_to g
  pub owned : (q : Place) → owned_in_end h q ≡ owned_in_end g q
  pub whole : IsWhole g → IsWhole h

-- this is the settled result of a stage
pub record Ends (g : Stage) (s : rSettled) : Type 0 where
  pub comes : Some (settled s) ≡ comes_to (gathering g)
  pub owned : IsClear g.filling → (q : Place) → owned_by s.holdings q ≡ owned_in_end (gathering g) q

-- a stage before a hole was taken out of its part
abbrev pub gathering_before : Stage → rListed → Gathering
gathering_before g hole =
    gathered (left g.results.unused) g.waiting.items (unopened (waiting_for g.filling hole))

-- a stage in which the result of a hole is opened, while its part waits
abbrev pub gathering_with : Stage → rListed → Filling → Gathering
gathering_with g hole opened =
    gathered (left g.results.unused)
    (g.waiting.items ++ record { filling = g.filling; hole = hole } ∷ []) (part opened)

-- no hole is left, and no result waits
abbrev pub IsFull : Stage → Type 0
IsFull g = (g.waiting.items ≡ []) × (g.filling.holes.items ≡ [])

-- the maximum number of iterations left: a result is opened once, and continues once after each
-- hole
abbrev pub turns_left : (results waiting : ℕ) → ℕ
turns_left results waiting = 2 * results + waiting

abbrev pub turns_of : Stage → ℕ
turns_of g = turns_left (length (left g.results.unused)) (vec_len g.waiting)
