-- What events change: weights and books as in the replay, and the values of tasks.
use Rattle.std.specs.Prelude.{ℕ, ℤ, ◌≡◌, ◌-◌, List, [], ◌∷◌, ◌++◌, Option, Some, None, codes, map}
use Rattle.serde_json.specs.Data.{Data, boolean, string}
use Rattle.statement_steps.specs.declared.flow.Flow.{Flow}
use Rattle.statement_steps.specs.declared.flow.Flow.TheVariants.{On, Faulted, Stopped}
use Rattle.types.specs.Code.{Program}
use Rattle.types.specs.Names.{kind_text}
use Rattle.types.specs.Outcome.{Budget}
use Rattle.task_run.specs.Results.{and_then}
use Rattle.events.specs.Events.{Event, Take, Steal, Steps, Replenish, Spawns, Opens, Parks}
use Rattle.events.specs.Events.{Ends, Pass, Resume, ScopeId, event as event_of}
use Rattle.events.specs.declared.event.Event.{Event as rEvent}
use Rattle.event_worlds.specs.Replay.{start_of}
use Rattle.event_worlds.specs.World.{Stake, World, book, task, weight_of}
use Rattle.event_worlds.specs.Worlds.{event_of as next_world}
use Rattle.trace_page.specs.Pieces.{list_by, list_of, natural, value_json}
use Rattle.trace_page.specs.declared.changes.ValueChange.{ValueChange}
use Rattle.trace_page.specs.declared.changes.ValueChange.TheVariants.{Scalar, Section, Flows, Store}
use Rattle.trace_page.specs.declared.changes.ValueChange.TheVariants.{Line, Fault, Gathered, Given}
use Rattle.trace_page.specs.declared.changes.WeightChange.{WeightChange}
use Rattle.trace_page.specs.declared.changes.WeightChange.TheVariants.{Weight, ChildWeight, Book}

-- ---- as JSON

-- the letter of a flow
abbrev pub flow_letter : Flow → List ℕ
flow_letter On = codes "o"
flow_letter Faulted = codes "f"
flow_letter Stopped = codes "s"

-- the letter of a weight or a book, and its numbers
abbrev pub weight_json : WeightChange → Data
weight_json (Weight own) = list_of (string (codes "w") ∷ natural own ∷ [])
weight_json (ChildWeight weight) = list_of (string (codes "c") ∷ natural weight ∷ [])
weight_json (Book issued returned) = list_of (string (codes "b") ∷ natural issued ∷ natural returned ∷ [])

-- the letter of a kind of change, and its numbers
abbrev pub change_json : ValueChange → Data
change_json (Scalar slot value) = list_of (string (codes "x") ∷ natural slot ∷ value_json value ∷ [])
change_json (Section number w) =
    list_of (string (codes "s") ∷ natural number ∷ natural w.array.number ∷ natural w.at ∷ natural w.len ∷ [])
change_json (Flows flow) = list_of (string (codes "f") ∷ string (flow_letter flow) ∷ [])
change_json (Store place value) =
    list_of (string (codes "e") ∷ natural place.array.number ∷ natural place.index ∷ value_json value ∷ [])
change_json (Line values) = list_of (string (codes "p") ∷ list_by value_json values.items ∷ [])
change_json (Fault kind) = list_of (string (codes "q") ∷ string (kind_text kind) ∷ [])
change_json (Gathered faults) = list_of (string (codes "g") ∷ natural faults ∷ [])
change_json (Given may_write w) =
    list_of (string (codes "n") ∷ boolean may_write ∷ natural w.array.number ∷ natural w.at
    ∷ natural w.len ∷ [])

-- what one event changes
pub record Changes : Type 0 where
  pub weights : List WeightChange
  pub values : List ValueChange

abbrev pub changes_json : Changes → Data
changes_json c = list_of (map weight_json c.weights ++ map change_json c.values)

-- ---- weights and books

-- the first of some scopes
abbrev pub first_scope : List Stake → Option ScopeId
first_scope [] = None
first_scope (s ∷ outer) = Some s.scope

-- the innermost scope of a live task
abbrev pub innermost : (path : List ℕ) → World → Option ScopeId
innermost path world = and_then (task path world.live) (λ t. first_scope t.stakes)

abbrev pub weight_told : Option ℕ → List WeightChange
weight_told None = []
weight_told (Some own) = Weight own ∷ []

abbrev pub book_by : Option (ℕ × ℕ) → List WeightChange
book_by None = []
book_by (Some b) = Book b.0 b.1 ∷ []

-- the book of a scope in a world
abbrev pub book_told : Option ScopeId → World → List WeightChange
book_told None world = []
book_told (Some id) world = book_by (book id world)

-- the weight that a task has left after a spawn, and the weight that its child got
abbrev pub shares_told : (had has : Option ℕ) → List WeightChange
shares_told (Some had) (Some has) = Weight has ∷ ChildWeight (had - has) ∷ []
shares_told _ _ = []

-- the weights and the book that an event changes, given the worlds before and after it
abbrev pub weights_told : Event → (before after : World) → List WeightChange
weights_told (Spawns path) before after = shares_told (weight_of path before) (weight_of path after)
weights_told (Opens path) before after =
    weight_told (weight_of path after) ++ book_told (innermost path after) after
weights_told (Replenish path) before after =
    weight_told (weight_of path after) ++ book_told (innermost path after) after
weights_told (Parks path) before after = book_told (innermost path before) after
weights_told (Ends path) before after = book_told (innermost path before) after
weights_told (Take worker path) before after = []
weights_told (Steal worker from path) before after = []
weights_told (Steps path) before after = []
weights_told (Pass scope) before after = []
weights_told (Resume worker path faults) before after = []

-- ---- along a replay

-- exactly these weights and this book
pub record AreChanges (e : Event) (before after : World) (told : Changes) : Type 0 where
  pub weights : told.weights ≡ weights_told e before after

module _ (p : Program) (w0 : ℕ) (b : Budget) where
  -- the changes of each event of a list, in order; the events lead from one world to another
  pub data AreTold (from : World)
      : (es : List rEvent) → (told : List Changes) → (to : World) → Type 0 where
    none : AreTold from [] [] from
    one_more : (es : List rEvent) (all : List Changes) (at to : World) (e : rEvent) (told : Changes)
        → AreTold from es all at → next_world p w0 b (event_of e) at ≡ Some to
        → AreChanges (event_of e) at to told
        → AreTold from (es ++ e ∷ []) (all ++ told ∷ []) to

  -- the changes of each event of a list, from the start of a run
  pub record IsReplay (input : List (List ℤ)) (es : List rEvent) (d : Data) : Type 0 where
    pub told : List Changes
    pub last : World
    pub replayed : AreTold (start_of p w0 input b) es told last
    pub are : d ≡ list_by changes_json told
