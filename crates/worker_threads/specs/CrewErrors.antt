-- Why a crew has no reports.
use Rattle.std.specs.Prelude.{◌≡◌, ℕ}
use Rattle.worker_threads.specs.declared.crew.CrewError.{CrewError}
use Rattle.worker_threads.specs.declared.crew.CrewError.TheVariants.{OutOfMemory, NoThread}

-- a thread couldn't be started, after so many others
abbrev pub IsUnstarted : (started : ℕ) → CrewError → Type 0
IsUnstarted started OutOfMemory = ⊥
IsUnstarted started (NoThread c) = c.started ≡ started
