-- What went in and out at the ends of a deque.
use Rattle.std.specs.Prelude.{◌≡◌, ℕ, ◌+◌, List, [], ◌∷◌, sum_by}
use Rattle.worker_threads.specs.declared.deque_rule.Tally.{Tally}

module _ {T : Type 0} where
  abbrev pub tally : (put taken : List T) → Tally T
  tally put taken = record { put = put; taken = taken }

  -- the first end is the worker's, where alone tasks are put in
  abbrev pub put_in : List (Tally T) → List T
  put_in [] = []
  put_in (v ∷ others) = v.put

  -- what comes out was put in, and once: however the tasks are weighed, what was put in weighs as much as
  -- what was taken out at all ends and what is left
  abbrev pub IsBalanced : (left : List T) → List (Tally T) → Type 0
  IsBalanced left ends = (weigh : T → ℕ)
      → sum_by weigh (put_in ends) ≡ sum_by (λ v. sum_by weigh v.taken) ends + sum_by weigh left

  -- what was put in is what the worker took out, what others stole, and what is left, each task once
  pub record Accounts (put taken left : List T) : Type 0 where
    pub stolen : List T
    pub once : (weigh : T → ℕ) → sum_by weigh put
        ≡ sum_by weigh taken + sum_by weigh stolen + sum_by weigh left
