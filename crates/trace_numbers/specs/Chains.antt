-- The longest chain of steps in a list of events. A step comes after the earlier steps of its task,
-- after the step that spawned its task, and, after a finish, after all that was done in it.
use Rattle.std.specs.Prelude.{ℕ, ◌+◌, max, List, [], ◌∷◌, ◌++◌, if◌then◌else◌, nat_eq}
use Rattle.std.specs.Cmp.Lexicographic.{pointwise}
use Rattle.events.specs.declared.event.Event.{Event}
use Rattle.events.specs.declared.event.Event.TheVariants.{Take, Steal, Step, Replenish, Spawn}
use Rattle.events.specs.declared.event.Event.TheVariants.{Open, Park, End, Pass, Resume}

-- for each task, by its path: the cost of the longest chain that leads to it, its innermost scope,
-- and the number of tasks that it has spawned. Scopes are numbered in the order in which they were
-- opened, after the root's, 0: the number of scopes, and for each the cost of the longest chain
-- that came back to it, and the scope that its owner was in when it opened this one
pub record Chains : Type 0 where
  pub cost : List ℕ → ℕ
  pub stands : List ℕ → ℕ
  pub spawned : List ℕ → ℕ
  pub scopes : ℕ
  pub came_back : ℕ → ℕ
  pub around : ℕ → ℕ

-- another value at a path, or at a number
abbrev pub at_path : (path : List ℕ) → ℕ → (List ℕ → ℕ) → List ℕ → ℕ
at_path path n f other = if pointwise nat_eq path other then n else f other

abbrev pub at_number : (k : ℕ) → ℕ → (ℕ → ℕ) → ℕ → ℕ
at_number k n f other = if nat_eq k other then n else f other

-- one more step
abbrev pub one_more : List ℕ → Chains → Chains
one_more path c = record c { cost = at_path path (c.cost path + 1) c.cost }

-- a task starts after what its parent has done, in the innermost scope of the parent
abbrev pub begin : (child path : List ℕ) → Chains → Chains
begin child path c = record c {
  cost = at_path child (c.cost path) c.cost;
  stands = at_path child (c.stands path) c.stands;
  spawned = at_path child 0 (at_path path (c.spawned path + 1) c.spawned);
}

-- a task starts its next child
abbrev pub begin_child : List ℕ → Chains → Chains
begin_child path c = begin (path ++ (c.spawned path + 1) ∷ []) path c

-- a task is in a scope that it opened, to which nothing came back yet
abbrev pub begin_finish : List ℕ → Chains → Chains
begin_finish path c = record c {
  stands = at_path path c.scopes c.stands;
  scopes = c.scopes + 1;
  came_back = at_number c.scopes 0 c.came_back;
  around = at_number c.scopes (c.stands path) c.around;
}

-- what leads to a task comes back to its innermost scope
abbrev pub come_back : List ℕ → Chains → Chains
come_back path c =
    let s = c.stands path in
    record c { came_back = at_number s (max (c.came_back s) (c.cost path)) c.came_back }

-- a task continues after its innermost scope
abbrev pub leave : List ℕ → Chains → Chains
leave path c =
    let s = c.stands path in
    record c {
      cost = at_path path (c.came_back s) c.cost;
      stands = at_path path (c.around s) c.stands;
    }

abbrev pub chained : Event → Chains → Chains
chained (Take worker path) c = c
chained (Steal worker from path) c = c
chained (Step path) c = one_more path.turns.items c
chained (Replenish path) c = c
chained (Spawn path) c = begin_child path.turns.items (one_more path.turns.items c)
chained (Open path) c = begin_finish path.turns.items (one_more path.turns.items c)
chained (Park path) c = come_back path.turns.items c
chained (End path) c = come_back path.turns.items c
chained (Pass scope) c = c
chained (Resume worker path faults) c = leave path.turns.items c

abbrev pub chains_after : List Event → Chains → Chains
chains_after [] c = c
chains_after (e ∷ es) c = chains_after es (chained e c)

-- nothing is done yet, and the root's scope exists
abbrev pub no_chains : Chains
no_chains = record {
  cost = λ path. 0;
  stands = λ path. 0;
  spawned = λ path. 0;
  scopes = 1;
  came_back = λ n. 0;
  around = λ n. 0;
}

-- the cost of the longest chain that came back to the root's scope
abbrev pub span_of : List Event → ℕ
span_of es = (chains_after es no_chains).came_back 0
