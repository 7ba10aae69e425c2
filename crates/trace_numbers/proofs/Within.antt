-- No number is larger than the number of events, and each scope that is named exists.
use Rattle.std.proofs.Common.{ℕ, ◌+◌, ◌<◌, ◌≤◌, List, [], ◌∷◌, ◌++◌, arith, nat_eq}
use Rattle.std.specs.Prelude.{max}
use Rattle.std.specs.Cmp.Lexicographic.{pointwise}
use Rattle.events.specs.declared.event.Event.{Event}
use Rattle.events.specs.declared.event.Event.TheVariants.{Take, Steal, Step, Replenish, Spawn}
use Rattle.events.specs.declared.event.Event.TheVariants.{Open, Park, End, Pass, Resume}
use Rattle.trace_numbers.specs.Chains.{Chains, at_number, at_path, begin_child, begin_finish, chained, come_back}
use Rattle.trace_numbers.specs.Chains.{leave, one_more}
use Rattle.trace_numbers.specs.Tables.{AreWithin}
use Rattle.shared_lemmas.proofs.Truths.{if_either}

at_path-all : (P : ℕ → Type 0) (path : List ℕ) (n : ℕ) (f : List ℕ → ℕ) → P n → ((other : List ℕ) → P (f other))
    → (other : List ℕ) → P (at_path path n f other)
at_path-all P path n f new was other = if_either P (pointwise nat_eq path other) n (f other) new (was other)

at_number-all : (P : ℕ → Type 0) (k n : ℕ) (f : ℕ → ℕ) → P n → ((other : ℕ) → P (f other)) → (other : ℕ) → P (at_number k n f other)
at_number-all P k n f new was other = if_either P (nat_eq k other) n (f other) new (was other)

module _ (count : ℕ) (c : Chains) (h : AreWithin count c) where
  -- one more event
  later : AreWithin (count + 1) c
  later = record {
    cost = λ path. omega (arith, h.cost path);
    spawned = λ path. omega (arith, h.spawned path);
    came_back = λ n. omega (arith, h.came_back n);
    stands = h.stands;
    around = h.around;
  }

  stepped : (path : List ℕ) → AreWithin (count + 1) (one_more path c)
  stepped path = record {
    cost = at_path-all (λ n. n ≤ count + 1) path (c.cost path + 1) c.cost (omega (arith, h.cost path)) later.cost;
    spawned = later.spawned;
    came_back = later.came_back;
    stands = h.stands;
    around = h.around;
  }

  came : (path : List ℕ) → AreWithin (count + 1) (come_back path c)
  came path = record {
    cost = later.cost;
    spawned = later.spawned;
    came_back = at_number-all (λ n. n ≤ count + 1) (c.stands path) (max (c.came_back (c.stands path)) (c.cost path)) c.came_back
        (omega (arith, h.cost path, h.came_back (c.stands path))) later.came_back;
    stands = h.stands;
    around = h.around;
  }

  left : (path : List ℕ) → AreWithin (count + 1) (leave path c)
  left path = record {
    cost = at_path-all (λ n. n ≤ count + 1) path (c.came_back (c.stands path)) c.cost (later.came_back (c.stands path)) later.cost;
    stands = at_path-all (λ n. n < c.scopes) path (c.around (c.stands path)) c.stands (h.around (c.stands path)) h.stands;
    spawned = later.spawned;
    came_back = later.came_back;
    around = h.around;
  }

module _ (count : ℕ) (c : Chains) (h : AreWithin count c) where
  spawned_too : (path : List ℕ) → AreWithin (count + 1) (begin_child path (one_more path c))
  spawned_too path =
      let s = stepped count c h path in
      let d = one_more path c in
      let child = path ++ (d.spawned path + 1) ∷ [] in
      record {
        came_back = s.came_back;
        around = h.around;
        cost = at_path-all (λ n. n ≤ count + 1) child (d.cost path) d.cost (s.cost path) s.cost;
        stands = at_path-all (λ n. n < c.scopes) child (d.stands path) d.stands (h.stands path) h.stands;
        spawned = at_path-all (λ n. n ≤ count + 1) child 0 (at_path path (d.spawned path + 1) d.spawned) (omega arith)
            (at_path-all (λ n. n ≤ count + 1) path (d.spawned path + 1) d.spawned (omega (arith, h.spawned path)) s.spawned);
      }

  opened : (path : List ℕ) → AreWithin (count + 1) (begin_finish path (one_more path c))
  opened path =
      let s = stepped count c h path in
      let d = one_more path c in
      record {
        cost = s.cost;
        spawned = s.spawned;
        came_back = at_number-all (λ n. n ≤ count + 1) c.scopes 0 c.came_back (omega arith) s.came_back;
        stands = at_path-all (λ n. n < c.scopes + 1) path c.scopes c.stands (omega arith) (λ other. omega (arith, h.stands other));
        around = at_number-all (λ n. n < c.scopes + 1) c.scopes (c.stands path) c.around (omega (arith, h.stands path)) (λ n. omega (arith, h.around n));
      }

-- after one more event
pub within_more : (e : Event) (count : ℕ) (c : Chains) → AreWithin count c → AreWithin (count + 1) (chained e c)
within_more (Take worker path) count c h = later count c h
within_more (Steal worker from path) count c h = later count c h
within_more (Step path) count c h = stepped count c h path.turns.items
within_more (Replenish path) count c h = later count c h
within_more (Spawn path) count c h = spawned_too count c h path.turns.items
within_more (Open path) count c h = opened count c h path.turns.items
within_more (Park path) count c h = came count c h path.turns.items
within_more (End path) count c h = came count c h path.turns.items
within_more (Pass scope) count c h = later count c h
within_more (Resume worker path faults) count c h = left count c h path.turns.items
