-- From names to places: what is pending keeps apart from what is done later, place for place.
use Rattle.std.specs.Prelude.{ℕ, ◌≡◌, ◌<◌, [], map, true}
use Rattle.sections.specs.Place.{Place, has_piece, piece_at}
use Rattle.types.specs.Code.{Code, Do, If, While, Split, Parts, Begun, Call, Async, Finish, Rescue, Codes}
use Rattle.types.specs.Code.{End, Then, Program}
use Rattle.types.specs.Value.{Environment}
use Rattle.types.specs.Run.{entry, procedure_of, with_piece}
use Rattle.effects.specs.Accesses.{Access}
use Rattle.effects.specs.Effects.{accesses, AllOf, All, PendingOf, Pending}
use Rattle.effects.specs.Footprint.{Touches, Overwrites}
use Rattle.race_checker.specs.Scope.{Scope, Top, Inside, AtPiece, FitsTop, FitsScope, may_writes, arrays_of}

-- neither of the two may write a place that the other may read or write
pub record KeepApart (env : Environment) (first second : Access → Type 0) : Type 0 where
  pub writes_first : (q : Place) → Overwrites env first q → Touches env second q → ⊥
  pub writes_second : (q : Place) → Touches env first q → Overwrites env second q → ⊥

-- they keep apart in each environment that fits
abbrev pub AlwaysApart : Scope → (first second : Access → Type 0) → Type 0
AlwaysApart sc xs ys = (env : Environment) → FitsScope sc env → KeepApart env xs ys

-- what a turn of a `parts` leaves pending keeps apart from each later turn, which has another piece
pub record TurnsApart (sc : Scope) (s q : ℕ) (first second : Access → Type 0) : Type 0 where
  pub writes_first : (env : Environment) (i n j k : ℕ) → FitsScope sc env → j < k
      → has_piece (env.windows s) n j ≡ true → has_piece (env.windows s) n k ≡ true → (at : Place)
      → Overwrites (with_piece q i (piece_at n j (env.windows s)) j env) first at
      → Touches (with_piece q i (piece_at n k (env.windows s)) k env) second at → ⊥
  pub writes_second : (env : Environment) (i n j k : ℕ) → FitsScope sc env → j < k
      → has_piece (env.windows s) n j ≡ true → has_piece (env.windows s) n k ≡ true → (at : Place)
      → Touches (with_piece q i (piece_at n j (env.windows s)) j env) first at
      → Overwrites (with_piece q i (piece_at n k (env.windows s)) k env) second at → ⊥

module _ (p : Program) where
  abbrev mutual
    -- what a loop leaves pending keeps apart from its next iteration, and a turn of a `parts` from
    -- the later turns; a call passes windows that fit
    pub CalmOf : Scope → (label : ℕ) → Code → Type 0
    CalmOf sc l (Do s) = Unit {0}
    CalmOf sc l (If t b c) = Calm sc b × Calm sc c
    CalmOf sc l (While t b) =
        Calm sc b × AlwaysApart sc (PendingOf p accesses (While t b))
        (AllOf p accesses l (While t b))
    CalmOf sc l (Split s e x y b) = Calm (Inside s x y sc) b
    CalmOf sc l (Parts s e q i b) =
        Calm (AtPiece s q sc) b × TurnsApart sc s q (Pending p accesses b) (All p accesses b)
    CalmOf sc l (Begun s n k q i b) =
        Calm (AtPiece s q sc) b × TurnsApart sc s q (Pending p accesses b) (All p accesses b)
    CalmOf sc l (Call f es ss) =
        (env : Environment) → FitsScope sc env
        → FitsTop (may_writes (procedure_of p f)) (entry [] (map env.windows ss))
    CalmOf sc l (Async b) = Calm sc b
    CalmOf sc l (Finish b) = Calm sc b
    CalmOf sc l (Rescue b n c) = Calm sc b × Calm sc c

    -- and what a statement of a list leaves pending keeps apart from what the later statements do
    pub Calm : Scope → Codes → Type 0
    Calm sc End = Unit {0}
    Calm sc (Then l s rest) =
        CalmOf sc l s × Calm sc rest × AlwaysApart sc (PendingOf p accesses s) (All p accesses rest)

  -- `main` and each procedure are calm
  pub record IsCalm : Type 0 where
    pub main : Calm (Top (arrays_of p)) p.main.body
    pub procedures : (f : ℕ) → Calm (Top (may_writes (procedure_of p f))) (procedure_of p f).body
