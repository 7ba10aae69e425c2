-- The pairs of labels that statements add at their position.
use Rattle.std.specs.Prelude.{ℕ, ◌≡◌, ◌⊎◌}
use Rattle.types.specs.Code.{Code, Do, If, While, Split, Parts, Begun, Call, Async, Finish, Rescue, Codes}
use Rattle.types.specs.Code.{End, Then, Program}
use Rattle.types.specs.Run.{procedure_of}
use Rattle.effects.specs.Effects.{labels, All, Pending}
use Rattle.parallel_relation.specs.Together.{Together}

-- the pairs afterwards are those before and `more`
pub record Adds (before more after : ℕ → ℕ → Type 0) : Type 0 where
  pub keeps : (x y : ℕ) → before x y → after x y
  pub has : (x y : ℕ) → more x y → after x y
  pub only : (x y : ℕ) → after x y → before x y ⊎ more x y

-- the items afterwards are those before and `more`
pub record Gains {A : Type 0} (before more after : A → Type 0) : Type 0 where
  pub keeps : (x : A) → before x → after x
  pub has : (x : A) → more x → after x
  pub only : (x : A) → after x → before x ⊎ more x

-- no label
abbrev pub none : ℕ → Type 0
none x = ⊥

-- these or those labels
abbrev pub both : (these those : ℕ → Type 0) → ℕ → Type 0
both these those x = these x ⊎ those x

-- a number paired with each of these labels
abbrev pub at : ℕ → (ℕ → Type 0) → ℕ → ℕ → Type 0
at i those x y = (x ≡ i) × those y

-- each of these labels paired with each of those
abbrev pub each : (these those : ℕ → Type 0) → ℕ → ℕ → Type 0
each these those x y = these x × those y

-- one statement as a list
abbrev pub one : (label : ℕ) → Code → Codes
one l s = Then l s End

-- the pairs of a block: everything that it does meets `everything`, what it leaves pending meets
-- `later`, and its statements meet one another
pub data BlockMeets (p : Program) (everything later : ℕ → Type 0) (b : Codes) (x y : ℕ)
    : Type 0 where
  all : All p labels b x → everything y → BlockMeets p everything later b x y
  pending : Pending p labels b x → later y → BlockMeets p everything later b x y
  within : Together p labels b x y → BlockMeets p everything later b x y

-- the pairs that a call adds: everything that the procedure does meets `everything`, and what it
-- leaves pending meets `later`
pub data CallMeets (p : Program) (f : ℕ) (everything later : ℕ → Type 0) (x y : ℕ) : Type 0 where
  all : All p labels (procedure_of p f).body x → everything y → CallMeets p f everything later x y
  pending : Pending p labels (procedure_of p f).body x → later y
      → CallMeets p f everything later x y

module _ (p : Program) (everything later : ℕ → Type 0) where
  -- the pairs of a statement's blocks and of its call
  abbrev pub InsideMeets : (label : ℕ) → Code → (x y : ℕ) → Type 0
  InsideMeets l (Do s) x y = ⊥
  InsideMeets l (If t b c) x y =
      BlockMeets p everything later b x y ⊎ BlockMeets p everything later c x y
  InsideMeets l (While t b) x y =
      BlockMeets p everything (both later (All p labels (one l (While t b)))) b x y
  InsideMeets l (Split s e i j b) x y = BlockMeets p everything later b x y
  InsideMeets l (Parts s e q i b) x y =
      BlockMeets p everything (both later (All p labels (one l (Parts s e q i b)))) b x y
  InsideMeets l (Begun s n k q i b) x y = ⊥
  InsideMeets l (Call f es ss) x y = CallMeets p f everything later x y
  InsideMeets l (Async b) x y = BlockMeets p (both everything later) none b x y
  InsideMeets l (Finish b) x y = BlockMeets p everything none b x y
  InsideMeets l (Rescue b n c) x y =
      BlockMeets p everything none b x y ⊎ BlockMeets p everything later c x y
