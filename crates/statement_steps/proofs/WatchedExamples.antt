-- Worked counts of steps, and calls of a watch that keeps each count in a list.
use Rattle.std.proofs.Common.{◌≡◌, ℕ, ◌≤◌, ◌-◌, ◌^◌, List, [], ◌∷◌, ◌++◌, Result, Ok, Err, true, false, refl, arith, inl}
use Rattle.statement_steps.specs.Watched.{AreApart, Watches, steps_between}

steps_are_counted : steps_between 5 70000 ≡ 69995
steps_are_counted = refl

-- after the largest count comes 0
steps_wrap : steps_between (2 ^ 64 - 1) 65535 ≡ 65536
steps_wrap = refl

far : 65536 ≤ 65536
far = omega arith

pub three_apart : AreApart (65536 ∷ 131072 ∷ 196608 ∷ [])
three_apart = (far, (far, tt))

pub too_near : AreApart (65536 ∷ 131071 ∷ []) → ⊥
too_near apart = let near : 65536 ≤ 65535 = apart.0 in omega (arith, near)

-- a run that succeeds, and one that fails
abbrev ends : Result ℕ ℕ
ends = Ok 0

abbrev fails : Result ℕ ℕ
fails = Err 0

-- a watch that keeps the counts of its calls
abbrev Keeps : List ℕ → List ℕ → List ℕ → Type 0
Keeps counts old new = new ≡ old ++ counts

pub told_to_its_end : Watches Keeps true ends (7 ∷ []) (7 ∷ 65536 ∷ 131072 ∷ 131075 ∷ [])
told_to_its_end = record { counts = 65536 ∷ 131072 ∷ []; last = 131075; told = refl; apart = (far, tt) }

pub told_until_it_failed : Watches Keeps true fails [] (65536 ∷ [])
told_until_it_failed = inl (record { counts = 65536 ∷ []; told = refl; apart = tt })

-- a watched run makes a call, and one that isn't watched makes none
pub never_silent : Watches Keeps true ends [] [] → ⊥
never_silent t = by t.counts t.told
  where
    by : (counts : List ℕ) → [] ≡ counts ++ t.last ∷ [] → ⊥
    by [] e = cc
    by (n ∷ ns) e = cc

pub tells_nobody : Watches Keeps false ends [] (65536 ∷ []) → ⊥
tells_nobody e = cc
