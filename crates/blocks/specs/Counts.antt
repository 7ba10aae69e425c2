-- The number of offsets at which a map has something.
use Rattle.std.specs.Prelude.{ℕ, zero, suc, ◌+◌, is_some, if◌then◌else◌}
use Rattle.blocks.specs.Offsets.{Offsets}

-- the number of offsets, among the first n, at which m has something
unfoldable pub how_many : {A : Type 0} → Offsets A → ℕ → ℕ
how_many m zero = 0
how_many m (suc n) = how_many m n + (if is_some (m n) then 1 else 0)
