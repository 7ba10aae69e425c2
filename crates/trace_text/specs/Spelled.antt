-- Events that a trace of a format can express: their workers, paths, scopes and numbers of faults are
-- in its ranges, and a resume has a number of faults in format 2 only.
use Rattle.std.specs.Prelude.{ℕ, ◌≡◌, ◌≢◌, ◌^◌, ◌<◌, ◌≤◌, List, ◌∷◌, ◌++◌, length, All, slice_index}
use Rattle.std.specs.Prelude.{Option, None, Some}
use Rattle.std.specs.Prelude.{Bool, true, false, nat_le}
use Rattle.std.specs.List.{list_all}
use Rattle.events.specs.Events.{Event, Take, Steal, Pass, Resume, ScopeId, event}
use Rattle.events.specs.declared.event.Event.{Event as rEvent}
use Rattle.trace_text.specs.Kinds.{task_of}
use Rattle.trace_text.specs.declared.format.Format.{Format}
use Rattle.trace_text.specs.declared.format.Format.TheVariants.{One, Two}

-- the number of a child on the way to a task: at least 1, of 32 bits
abbrev pub IsTurn : ℕ → Type 0
IsTurn n = (1 ≤ n) × (n < 2 ^ 32)

-- a path has at most 1,001 parts, of which the first is the root
pub record IsPath (turns : List ℕ) : Type 0 where
  pub few : length turns ≤ 1000
  pub turns_fit : All IsTurn turns

pub record IsScope (id : ScopeId) : Type 0 where
  pub owner : IsPath id.owner
  pub number : id.number < 2 ^ 32

pub record IsWorkers (worker : ℕ) (path : List ℕ) : Type 0 where
  pub worker_fits : worker < 64
  pub task : IsPath path

pub record IsTheft (worker from : ℕ) (path : List ℕ) : Type 0 where
  pub thief : IsWorkers worker path
  pub from_fits : from < 64

-- a resume has a number of faults in format 2 only, one of 32 bits
abbrev pub has_count : Format → (faults : Option ℕ) → Bool
has_count One None = true
has_count One (Some n) = false
has_count Two None = false
has_count Two (Some n) = nat_le n 4294967295

pub record IsResumption (f : Format) (worker : ℕ) (path : List ℕ) (faults : Option ℕ) : Type 0 where
  pub by : IsWorkers worker path
  pub count : has_count f faults ≡ true

abbrev pub IsSpelled : Format → Event → Type 0
IsSpelled f (Take worker path) = IsWorkers worker path
IsSpelled f (Steal worker from path) = IsTheft worker from path
IsSpelled f (Resume worker path faults) = IsResumption f worker path faults
IsSpelled f (Pass scope) = IsScope scope
IsSpelled f e = IsPath (task_of e)

-- an event has a number of faults as the format wants it; its other values are in their ranges by
-- their types
abbrev pub suits : Format → Event → Bool
suits f (Resume worker path faults) = has_count f faults
suits f e = true

-- all events have
abbrev pub fits : Format → List rEvent → Bool
fits f es = list_all (λ e. suits f (event e)) es

-- a byte doesn't occur in a text
abbrev pub Lacks : ℕ → List ℕ → Type 0
Lacks c text = (i : ℕ) → i < length text → slice_index text i ≢ c

-- a text is cut at the first occurrence of a byte
pub record IsCutAt (c : ℕ) (before behind text : List ℕ) : Type 0 where
  pub parts : text ≡ before ++ c ∷ behind
  pub first : Lacks c before

-- a text is cut at its first dot, or has no dot
abbrev pub IsCut : (piece : List ℕ) → (behind : Option (List ℕ)) → (text : List ℕ) → Type 0
IsCut piece None text = (piece ≡ text) × Lacks 46 piece
IsCut piece (Some behind) text = IsCutAt 46 piece behind text
