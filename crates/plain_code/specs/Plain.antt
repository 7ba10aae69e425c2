-- Plain code: no async and no finish can be reached from it, directly or by a call.
use Rattle.std.specs.Prelude.{ℕ, List}
use Rattle.types.specs.Code.{Number, Code, Begun, Call, Async, Finish, Rescue, Codes, End, Then, Program}
use Rattle.types.specs.Run.{Work, Block, Turn, Pieces, procedure_of}
use Rattle.effects.specs.Statements.{Stands}

-- an async or a finish can be reached from a block
pub data Reaches (p : Program) : Codes → Type 0 where
  async : {b : Codes} {l : ℕ} {inner : Codes} → Stands b l (Async inner) → Reaches p b
  finish : {b : Codes} {l : ℕ} {inner : Codes} → Stands b l (Finish inner) → Reaches p b
  rescue : {b : Codes} {l x : ℕ} {inner handler : Codes} → Stands b l (Rescue inner x handler) → Reaches p b
  call : {b : Codes} {l f : ℕ} {es : List Number} {ss : List ℕ} → Stands b l (Call f es ss)
      → Reaches p (procedure_of p f).body → Reaches p b
  -- a turn of a begun `parts` is still to come
  turn : {b : Codes} {l s n k q i : ℕ} {inner : Codes} → Stands b l (Begun s n k q i inner)
      → Reaches p inner → Reaches p b

-- none can be reached from a block
abbrev pub ArePlain : Program → Codes → Type 0
ArePlain p b = Reaches p b → ⊥

-- none can be reached from a statement
abbrev pub IsPlain : Program → (label : ℕ) → Code → Type 0
IsPlain p l c = ArePlain p (Then l c End)

-- none can be reached from what is left to do
abbrev pub IsPlainWork : Program → Work → Type 0
IsPlainWork p (Block b) = ArePlain p b
IsPlainWork p (Turn l t b) = ArePlain p b
IsPlainWork p (Pieces l s n k q i b) = ArePlain p b
