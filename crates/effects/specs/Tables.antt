-- All and Pending as lists, over tables of what each procedure's body contains.
use Rattle.std.specs.Prelude.{ℕ, zero, suc, List, [], ◌++◌, map, ◌↔◌}
use Rattle.sections.specs.Member.{Member}
use Rattle.types.specs.Code.{Code, Do, If, While, Split, Parts, Begun, Call, Async, Finish, Rescue, Codes}
use Rattle.types.specs.Code.{End, Then, Program}
use Rattle.types.specs.Run.{procedure_of}
use Rattle.types.specs.Sound.{passed_for}
use Rattle.effects.specs.Effects.{past_parts, past_split, Subject, All, Pending}

-- what is listed for each procedure
abbrev pub Table : Subject → Type 0
Table subject = ℕ → List subject.Item

module _ (subject : Subject) (table : Table subject) where
  abbrev mutual
    -- what the blocks of a statement and its call may do, in the names around it
    pub all_inside : Code → List subject.Item
    all_inside (Do s) = []
    all_inside (If t b c) = all_in b ++ all_in c
    all_inside (While t b) = all_in b
    all_inside (Split s e l r b) = map (subject.renamed (past_split s l r)) (all_in b)
    all_inside (Parts s e q i b) = map (subject.renamed (past_parts s q)) (all_in b)
    all_inside (Begun s n k q i b) = []
    all_inside (Call f es ss) = map (subject.renamed (passed_for ss)) (table f)
    all_inside (Async b) = all_in b
    all_inside (Finish b) = all_in b
    all_inside (Rescue b n c) = all_in b ++ all_in c

    -- what a list of statements may do
    pub all_in : Codes → List subject.Item
    all_in End = []
    all_in (Then l s rest) = subject.own l s ++ (all_inside s ++ all_in rest)

  -- what a statement may do
  abbrev pub all_of : (label : ℕ) → Code → List subject.Item
  all_of l s = subject.own l s ++ all_inside s

module _ (subject : Subject) (alls pendings : Table subject) where
  abbrev mutual
    -- what a statement leaves pending
    pub left_by : Code → List subject.Item
    left_by (Do s) = []
    left_by (If t b c) = left_in b ++ left_in c
    left_by (While t b) = left_in b
    left_by (Split s e l r b) = map (subject.renamed (past_split s l r)) (left_in b)
    left_by (Parts s e q i b) = map (subject.renamed (past_parts s q)) (left_in b)
    left_by (Begun s n k q i b) = []
    left_by (Call f es ss) = map (subject.renamed (passed_for ss)) (pendings f)
    left_by (Async b) = all_in subject alls b
    left_by (Finish b) = []
    left_by (Rescue b n c) = left_in c

    -- what a list of statements leaves pending
    pub left_in : Codes → List subject.Item
    left_in End = []
    left_in (Then l s rest) = left_by s ++ left_in rest

-- the tables of rounds that start from the empty table; each round follows calls one level deeper
module _ (p : Program) (subject : Subject) where
  -- All after this number of rounds: up to this number of nested calls
  abbrev pub alls_after : ℕ → Table subject
  alls_after zero f = []
  alls_after (suc k) f = all_in subject (alls_after k) (procedure_of p f).body

  -- Pending after this number of rounds
  abbrev pub pendings_after : Table subject → ℕ → Table subject
  pendings_after alls zero f = []
  pendings_after alls (suc k) f =
      left_in subject alls (pendings_after alls k) (procedure_of p f).body

  -- everything that the table lists is derived
  abbrev pub IsDerived : Table subject → Type 0
  IsDerived table = (f : ℕ) (x : subject.Item) → Member x (table f)
      → All p subject (procedure_of p f).body x

  -- everything that the table lists for Pending is derived
  abbrev pub IsDerivedPending : Table subject → Type 0
  IsDerivedPending table = (f : ℕ) (x : subject.Item) → Member x (table f)
      → Pending p subject (procedure_of p f).body x

  -- one more round adds nothing
  abbrev pub IsStable : Table subject → Type 0
  IsStable table = (f : ℕ) (x : subject.Item)
      → Member x (all_in subject table (procedure_of p f).body) → Member x (table f)

  -- one more round adds nothing to the table of Pending
  abbrev pub IsStablePending : (alls pendings : Table subject) → Type 0
  IsStablePending alls pendings = (f : ℕ) (x : subject.Item)
      → Member x (left_in subject alls pendings (procedure_of p f).body) → Member x (pendings f)

  -- tables that list only what is derived, and to which one more round adds nothing, list all of
  -- it; rounds that start from the empty table list only what is derived
  pub record StableIsLeast : Type 0 where
    pub alls : (table : Table subject) → IsDerived table → IsStable table
        → (b : Codes) (x : subject.Item) → Member x (all_in subject table b) ↔ All p subject b x
    pub pendings : (alls pendings : Table subject) → IsDerived alls → IsStable alls
        → IsDerivedPending pendings → IsStablePending alls pendings
        → (b : Codes) (x : subject.Item)
        → Member x (left_in subject alls pendings b) ↔ Pending p subject b x
    pub rounds : (k : ℕ) → IsDerived (alls_after k)
    pub pending_rounds : (alls : Table subject) → IsDerived alls
        → (k : ℕ) → IsDerivedPending (pendings_after alls k)
