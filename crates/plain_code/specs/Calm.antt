-- What a walk over statements tests: a statement contains no async and no finish, and calls only
-- calm procedures.
use Rattle.std.specs.Prelude.{ℕ, ◌+◌, ◌≡◌, ◌↔◌, List, [], ◌∷◌, length, Bool, true, false, ◌&&◌}
use Rattle.std.specs.Prelude.{slice_index_or}
use Rattle.types.specs.Code.{Code, Do, If, While, Split, Parts, Begun, Call, Async, Finish, Rescue}
use Rattle.types.specs.Code.{Codes, End, Then, Program}
use Rattle.types.specs.Run.{procedure_of}
use Rattle.plain_code.specs.Plain.{ArePlain, Reaches}

-- whether a procedure is assumed to be calm; a procedure that doesn't exist in the program does
-- nothing
abbrev pub calm_at : List Bool → (f : ℕ) → Bool
calm_at calm f = slice_index_or calm f true

module _ (calm : List Bool) where
  abbrev mutual
    -- whether a statement is plain, if those procedures are calm
    pub is_plain_by : Code → Bool
    is_plain_by (Do s) = true
    is_plain_by (If t b c) = are_plain_by b && are_plain_by c
    is_plain_by (While t b) = are_plain_by b
    is_plain_by (Split s e x y b) = are_plain_by b
    is_plain_by (Parts s e q i b) = are_plain_by b
    is_plain_by (Begun s n k q i b) = are_plain_by b
    is_plain_by (Call f es ss) = calm_at calm f
    is_plain_by (Async b) = false
    is_plain_by (Finish b) = false
    is_plain_by (Rescue b x c) = false

    -- whether each statement of a block is plain, if those procedures are calm
    pub are_plain_by : Codes → Bool
    are_plain_by End = true
    are_plain_by (Then l s rest) = is_plain_by s && are_plain_by rest

-- the number of procedures that are assumed to be calm
abbrev pub calm_count : List Bool → ℕ
calm_count [] = 0
calm_count (true ∷ bs) = 1 + calm_count bs
calm_count (false ∷ bs) = calm_count bs

-- an async or a finish can be reached from each procedure that isn't assumed to be calm
abbrev pub AreMarked : Program → List Bool → Type 0
AreMarked p calm = (f : ℕ) → calm_at calm f ≡ false → Reaches p (procedure_of p f).body

-- for each procedure, `calm` has whether its body is plain
pub record AreCalm (p : Program) (calm : List Bool) : Type 0 where
  pub count : length calm ≡ length p.procedures
  pub each : (f : ℕ) → (calm_at calm f ≡ true) ↔ ArePlain p (procedure_of p f).body
