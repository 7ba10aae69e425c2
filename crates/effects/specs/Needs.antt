-- What an async's body needs: the sections that it may write, and those that it may only read.
use Rattle.std.specs.Prelude.{ℕ, ◌≡◌, List, [], ◌∷◌, ◌++◌, Bool, true, nat_eq, nat_lt, if◌then◌else◌}
use Rattle.std.specs.List.{list_any}
use Rattle.sections.specs.Member.{Member}
use Rattle.types.specs.Code.{Code, Do, If, While, Split, Parts, Begun, Call, Async, Finish, Rescue, Codes}
use Rattle.types.specs.Code.{End, Then, Program}
use Rattle.types.specs.Run.{procedure_of}
use Rattle.effects.specs.Accesses.{Access}
use Rattle.effects.specs.Effects.{accesses, All}
use Rattle.effects.specs.Tables.{Table, all_in}

-- sections by their names in scope at the async, each once, in ascending order
pub record Needs : Type 0 where
  pub writes : List ℕ
  pub reads : List ℕ

module _ (p : Program) (b : Codes) where
  -- the body may access this section
  pub record Accessed (section : ℕ) : Type 0 where
    pub access : Access
    pub among : All p accesses b access
    pub names : access.section ≡ section

  -- the body may write this section
  pub record Stored (section : ℕ) : Type 0 where
    pub access : Access
    pub among : All p accesses b access
    pub names : access.section ≡ section
    pub writes : access.write ≡ true

  -- the needs name the sections that the body may access, and no others
  pub record AreNeeds (n : Needs) : Type 0 where
    pub has_writes : (s : ℕ) → Stored s → Member s n.writes
    pub has_reads : (s : ℕ) → Accessed s → Member s (n.writes ++ n.reads)
    pub are_written : (s : ℕ) → Member s n.writes → Stored s
    pub are_read : (s : ℕ) → Member s n.reads → Accessed s

module _ (p : Program) (needs : Codes → Needs) where
  abbrev mutual
    -- `needs` gives what each async in a statement needs
    pub ProvidesOf : Code → Type 0
    ProvidesOf (Do s) = Unit {0}
    ProvidesOf (If t b c) = ProvidesIn b × ProvidesIn c
    ProvidesOf (While t b) = ProvidesIn b
    ProvidesOf (Split s e x y b) = ProvidesIn b
    ProvidesOf (Parts s e q i b) = ProvidesIn b
    ProvidesOf (Begun s n k q i b) = ProvidesIn b
    ProvidesOf (Call f es ss) = Unit {0}
    ProvidesOf (Async b) = AreNeeds p b (needs b) × ProvidesIn b
    ProvidesOf (Finish b) = ProvidesIn b
    ProvidesOf (Rescue b n c) = ProvidesIn b × ProvidesIn c

    -- `needs` gives what each async in a list of statements needs
    pub ProvidesIn : Codes → Type 0
    ProvidesIn End = Unit {0}
    ProvidesIn (Then l s rest) = ProvidesOf s × ProvidesIn rest

  -- `needs` gives what each async of the program needs
  pub record Provides : Type 0 where
    pub main : ProvidesIn p.main.body
    pub procedures : (f : ℕ) → ProvidesIn (procedure_of p f).body

-- whether a number is in a list
abbrev pub among : List ℕ → ℕ → Bool
among ss s = list_any (nat_eq s) ss

-- an ascending list with one more number at its position, each number once
abbrev pub also : ℕ → List ℕ → List ℕ
also s [] = s ∷ []
also s (t ∷ ss) =
    if nat_lt s t then s ∷ t ∷ ss else (if nat_eq s t then t ∷ ss else t ∷ also s ss)

-- the sections that accesses write
abbrev pub written_by : List Access → List ℕ
written_by [] = []
written_by (x ∷ xs) = if x.write then also x.section (written_by xs) else written_by xs

-- the sections that accesses only read
abbrev pub others_by : (written : List ℕ) → List Access → List ℕ
others_by ws [] = []
others_by ws (x ∷ xs) =
    if among ws x.section then others_by ws xs else also x.section (others_by ws xs)

-- the needs of a body with these accesses
abbrev pub needs_by : List Access → Needs
needs_by xs = record { writes = written_by xs; reads = others_by (written_by xs) xs }

-- the needs of a body, by a table of what each procedure may do
abbrev pub needs_in : Table accesses → Codes → Needs
needs_in table b = needs_by (all_in accesses table b)
