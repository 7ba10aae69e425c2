-- Worked programs with `rescue`: the race that is reported for each, or none.
use Rattle.std.proofs.Common.{◌≡◌, ℕ, ◌+◌, [], ◌∷◌, refl}
use Rattle.std.specs.Prelude.{None}
use Rattle.sections.specs.Origins.{Root}
use Rattle.types.specs.Code.{Code, Store, Raise, Do, Async, Finish, Rescue, Codes, End, Program}
use Rattle.types.proofs.Programs.{◌⨾◌, lit, ints, main_of}
use Rattle.race_checker.proofs.ToldExamples.{writes, race, told_in}

-- a[0] = n;
abbrev gets : ℕ → Code
gets n = Do (Store 0 (lit 0) (lit n))

-- async { a[0] = n; }, with labels from this one
abbrev spawned : (label : ℕ) → ℕ → ℕ × Code
spawned l n = (l, Async ((l + 1, gets n) ⨾ End))

-- array a: int[1];
abbrev with_array : Codes → Program
with_array b = main_of (ints 97 1 ∷ []) 1 (Root ∷ []) b

-- finish { async { a[0] = 1; } } rescue n { async { a[0] = 2; } } a[0] = 3;
handler_is_pending : told_in (with_array ((1, Rescue (spawned 2 1 ⨾ End) 0 (spawned 4 2 ⨾ End)) ⨾ (6, gets 3) ⨾ End)) 0
    ≡ race 0 (writes 5 0) (writes 6 0)
handler_is_pending = refl

-- finish { async { a[0] = 1; } } rescue n { a[0] = 2; } a[0] = 3;
finish_ends_before_its_handler : told_in (with_array ((1, Rescue (spawned 2 1 ⨾ End) 0 ((4, gets 2) ⨾ End)) ⨾ (5, gets 3) ⨾ End)) 0 ≡ None
finish_ends_before_its_handler = refl

-- finish { async { a[0] = 1; } finish { fault 1; } rescue n { a[0] = 2; } }
handler_may_race : told_in (with_array ((
  1,
  Finish (spawned 2 1 ⨾ (4, Rescue ((5, Do (Raise (lit 1))) ⨾ End) 0 ((6, gets 2) ⨾ End)) ⨾ End),
) ⨾ End)) 0 ≡ race 0 (writes 3 0) (writes 6 0)
handler_may_race = refl

-- finish { async { a[0] = 1; } finish { a[0] = 2; } rescue n { } }
rescued_body_may_race : told_in (with_array ((1, Finish (spawned 2 1 ⨾ (4, Rescue ((5, gets 2) ⨾ End) 0 End) ⨾ End)) ⨾ End)) 0
    ≡ race 0 (writes 3 0) (writes 5 0)
rescued_body_may_race = refl
