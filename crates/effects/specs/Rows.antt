-- The rows of the table for All and Pending, as a reader would write them.
use Rattle.std.specs.Prelude.{ℕ, ◌≡◌, ◌⊎◌, ◌↔◌, Bool, true}
use Rattle.sections.specs.Member.{Member}
use Rattle.types.specs.Code.{Code, Do, If, While, Split, Parts, Begun, Call, Async, Finish, Rescue, Codes}
use Rattle.types.specs.Code.{End, Then, Program}
use Rattle.types.specs.Run.{procedure_of}
use Rattle.types.specs.Sound.{passed_for}
use Rattle.effects.specs.Effects.{past_parts, past_split, Inner, Subject, AllOf, All, PendingOf, Pending}

module _ (p : Program) (subject : Subject) where
  -- one of these, in other names
  pub record Renamed (out : ℕ → ℕ) (those : subject.Item → Type 0) (y : subject.Item) : Type 0 where
    pub item : subject.Item
    pub among : those item
    pub same : y ≡ subject.renamed out item

  -- what the blocks of a statement and its call contribute, in the names around it
  abbrev pub Inside : (Codes → subject.Item → Type 0) → Code → subject.Item → Type 0
  Inside has (Do s) x = ⊥
  Inside has (If t b c) x = has b x ⊎ has c x
  Inside has (While t b) x = has b x
  Inside has (Split s e l r b) x = Renamed (past_split s l r) (has b) x
  Inside has (Parts s e q i b) x = Renamed (past_parts s q) (has b) x
  Inside has (Begun s n k q i b) x = ⊥
  Inside has (Call f es ss) x = Renamed (passed_for ss) (has (procedure_of p f).body) x
  Inside has (Async b) x = has b x
  Inside has (Finish b) x = has b x
  Inside has (Rescue b n c) x = has b x ⊎ has c x

  -- what the blocks of a statement and its call may do
  abbrev pub AllInside : Code → subject.Item → Type 0
  AllInside s x = Inside (All p subject) s x

  -- what a statement leaves pending: an async leaves all of its body, a finish nothing, or what its
  -- handler leaves, and any other statement what is left inside it
  abbrev pub LeftBy : Code → subject.Item → Type 0
  LeftBy (Async b) x = All p subject b x
  LeftBy (Finish b) x = ⊥
  LeftBy (Rescue b n c) x = Pending p subject c x
  LeftBy s x = Inside (Pending p subject) s x

  -- a set for each list of statements that contains everything that the rows require of All
  pub record SolvesAll (has : Codes → subject.Item → Bool) : Type 0 where
    pub own : (l : ℕ) (s : Code) (rest : Codes) (x : subject.Item)
        → Member x (subject.own l s) → has (Then l s rest) x ≡ true
    pub later : (l : ℕ) (s : Code) (rest : Codes) (x : subject.Item)
        → has rest x ≡ true → has (Then l s rest) x ≡ true
    pub inner : (l : ℕ) (s : Code) (b rest : Codes) (out : ℕ → ℕ) (x : subject.Item)
        → Inner p s b out → has b x ≡ true → has (Then l s rest) (subject.renamed out x) ≡ true
    pub async : (l : ℕ) (b rest : Codes) (x : subject.Item)
        → has b x ≡ true → has (Then l (Async b) rest) x ≡ true
    pub finish : (l : ℕ) (b rest : Codes) (x : subject.Item)
        → has b x ≡ true → has (Then l (Finish b) rest) x ≡ true
    pub rescued : (l n : ℕ) (b c rest : Codes) (x : subject.Item)
        → has b x ≡ true → has (Then l (Rescue b n c) rest) x ≡ true

  -- a set that contains everything that the rows require of Pending
  pub record SolvesPending (has : Codes → subject.Item → Bool) : Type 0 where
    pub later : (l : ℕ) (s : Code) (rest : Codes) (x : subject.Item)
        → has rest x ≡ true → has (Then l s rest) x ≡ true
    pub inner : (l : ℕ) (s : Code) (b rest : Codes) (out : ℕ → ℕ) (x : subject.Item)
        → Inner p s b out → has b x ≡ true → has (Then l s rest) (subject.renamed out x) ≡ true
    pub async : (l : ℕ) (b rest : Codes) (x : subject.Item)
        → All p subject b x → has (Then l (Async b) rest) x ≡ true

  -- All and Pending satisfy the rows, and every set that satisfies them contains All and Pending
  pub record IsLeastSolution : Type 0 where
    pub all_of_statement : (l : ℕ) (s : Code) (x : subject.Item)
        → AllOf p subject l s x ↔ (Member x (subject.own l s) ⊎ AllInside s x)
    pub pending_of_statement : (s : Code) (x : subject.Item) → PendingOf p subject s x ↔ LeftBy s x
    pub all_of_list : (l : ℕ) (s : Code) (rest : Codes) (x : subject.Item)
        → All p subject (Then l s rest) x ↔ (AllOf p subject l s x ⊎ All p subject rest x)
    pub pending_of_list : (l : ℕ) (s : Code) (rest : Codes) (x : subject.Item)
        → Pending p subject (Then l s rest) x
        ↔ (PendingOf p subject s x ⊎ Pending p subject rest x)
    pub nothing : (x : subject.Item) → All p subject End x → ⊥
    pub least : (has : Codes → subject.Item → Bool) → SolvesAll has
        → (b : Codes) (x : subject.Item) → All p subject b x → has b x ≡ true
    pub least_pending : (has : Codes → subject.Item → Bool) → SolvesPending has
        → (b : Codes) (x : subject.Item) → Pending p subject b x → has b x ≡ true
