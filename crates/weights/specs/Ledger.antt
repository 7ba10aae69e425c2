-- The ledger of a scope: the weight that it has issued, and the weight that came back.
use Rattle.std.specs.Prelude.{ℕ, ◌≡◌, ◌+◌, ◌*◌, ◌≤◌, ◌⊎◌, List, [], ◌∷◌, ◌++◌, sum_by}

-- a weight that a task returned
pub record Returned : Type 0 where
  pub path : List ℕ
  pub weight : ℕ

-- w0 was issued at the opening and once more for each mint; unlisted is weight that came back with no entry
pub record Ledger : Type 0 where
  pub w0 : ℕ
  pub mints : ℕ
  pub entries : List Returned
  pub unlisted : ℕ

-- the amount issued
abbrev pub issued_of : Ledger → ℕ
issued_of b = b.w0 * (1 + b.mints)

-- the amount that came back
abbrev pub returned_of : Ledger → ℕ
returned_of b = sum_by (λ e. e.weight) b.entries + b.unlisted

-- a scope at its opening
abbrev pub opened : (w0 : ℕ) → Ledger
opened w0 = record { w0 = w0; mints = 0; entries = []; unlisted = 0 }

-- w0 more is issued
abbrev pub minted : Ledger → Ledger
minted b = record b { mints = b.mints + 1 }

-- a weight came back, and has its entry
abbrev pub listed : Returned → Ledger → Ledger
listed e b = record b { entries = b.entries ++ e ∷ [] }

-- a weight came back, and there was no memory for its entry
abbrev pub without_entry : Returned → Ledger → Ledger
without_entry e b = record b { unlisted = b.unlisted + e.weight }

-- a weight came back: it has its entry, or is counted as unlisted
abbrev pub GivesBack : (old new : Ledger) → Returned → Type 0
GivesBack old new e = (new ≡ listed e old) ⊎ (new ≡ without_entry e old)

-- w0 is 1 to 2^32, it was issued at most 2^31 times, and no more came back than was issued
pub record IsSound (b : Ledger) : Type 0 where
  pub some : 1 ≤ b.w0
  pub most : b.w0 ≤ 4294967296
  pub issues : 1 + b.mints ≤ 2147483648
  pub within : returned_of b ≤ issued_of b
