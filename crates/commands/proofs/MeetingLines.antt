-- The lines of `mhp --accesses`, procedure by procedure.
use Rattle.std.proofs.Common.{◌≡◌, ◌+◌, ℕ, List, length, subst, arith}
use Rattle.std.specs.Prelude.{suc}
use Rattle.types.specs.Code.{Program}
use Rattle.commands.specs.MeetingLines.{AddsLines, HasLines, one_more}

-- those of one more procedure
pub next_lines : (p : Program) (n : ℕ) (before told : List ℕ) → HasLines p n before → AddsLines p n before told
    → HasLines p (n + 1) told
next_lines p n before told has adds =
    let e : suc n ≡ n + 1 = omega arith in
    subst (λ (k : ℕ). HasLines p k told) e (one_more n before told has adds)

-- those of all procedures, with `main` after the others
pub all_lines : (p : Program) (n main : ℕ) (before told : List ℕ) → n ≡ length p.procedures
    → main ≡ length p.procedures → HasLines p n before → AddsLines p main before told
    → HasLines p (suc (length p.procedures)) told
all_lines p n main before told all last has adds =
    one_more (length p.procedures) before told (subst (λ (k : ℕ). HasLines p k before) all has)
    (subst (λ (k : ℕ). AddsLines p k before told) last adds)
