-- Which accesses, and which labels, may run together.
use Rattle.std.specs.Prelude.{ℕ, ◌≡◌, ◌⊎◌, false}
use Rattle.sections.specs.Member.{Member}
use Rattle.types.specs.Code.{Number, Truth, Code, While, Parts, Codes, Then, Program}
use Rattle.types.specs.Run.{procedure_of}
use Rattle.effects.specs.Accesses.{Access}
use Rattle.effects.specs.Effects.{Subject, accesses, labels, AllOf, All, PendingOf, Pending}
use Rattle.effects.specs.Summarized.{body_of}
-- the blocks of a statement are defined with its effects
pub use Rattle.effects.specs.Statements.{Block}

module _ (p : Program) (subject : Subject) where
  -- an item of a turn of a `parts`: of the step before it, or of its block
  abbrev pub OfTurn : (label : ℕ) → Codes → subject.Item → Type 0
  OfTurn l b y = Member y (subject.turn l) ⊎ All p subject b y

  -- in a turn of a `parts` x may be pending while y is done in a later turn; in the names of the
  -- block, without the pairs of which both are in the piece
  pub record OfTurns (l q : ℕ) (b : Codes) (x y : subject.Item) : Type 0 where
    pub pending : Pending p subject b x
    pub later : OfTurn l b y
    pub meet : subject.apart q x y ≡ false

  -- x may be pending while y is done: at a later statement of a list, in a later iteration of a
  -- loop, or in a later turn of a `parts`
  pub data Together : Codes → (x y : subject.Item) → Type 0 where
    follows : {l : ℕ} {s : Code} {rest : Codes} {x y : subject.Item}
        → PendingOf p subject s x → All p subject rest y → Together (Then l s rest) x y
    turns : {l : ℕ} {t : Truth} {b rest : Codes} {x y : subject.Item}
        → PendingOf p subject (While t b) x → AllOf p subject l (While t b) y
        → Together (Then l (While t b) rest) x y
    pieces : {l s q i : ℕ} {e : Number} {b rest : Codes} {x y : subject.Item}
        → OfTurns l q b x y → Together (Then l (Parts s e q i b) rest) x y
    inside : {l : ℕ} {s : Code} {b rest : Codes} {x y : subject.Item}
        → Block s b → Together b x y → Together (Then l s rest) x y
    later : {l : ℕ} {s : Code} {rest : Codes} {x y : subject.Item}
        → Together rest x y → Together (Then l s rest) x y

  -- x may be pending while y is done, and the statement with this label adds the pair: it leaves x
  -- pending, or is that loop or `parts`
  pub data AddedAt : (at : ℕ) → Codes → (x y : subject.Item) → Type 0 where
    follows : {l : ℕ} {s : Code} {rest : Codes} {x y : subject.Item}
        → PendingOf p subject s x → All p subject rest y → AddedAt l (Then l s rest) x y
    turns : {l : ℕ} {t : Truth} {b rest : Codes} {x y : subject.Item}
        → PendingOf p subject (While t b) x → AllOf p subject l (While t b) y
        → AddedAt l (Then l (While t b) rest) x y
    pieces : {l s q i : ℕ} {e : Number} {b rest : Codes} {x y : subject.Item}
        → OfTurns l q b x y → AddedAt l (Then l (Parts s e q i b) rest) x y
    inside : {at l : ℕ} {s : Code} {b rest : Codes} {x y : subject.Item}
        → Block s b → AddedAt at b x y → AddedAt at (Then l s rest) x y
    later : {at l : ℕ} {s : Code} {rest : Codes} {x y : subject.Item}
        → AddedAt at rest x y → AddedAt at (Then l s rest) x y

  -- a pair has no order
  abbrev pub MayMeet : Codes → (x y : subject.Item) → Type 0
  MayMeet b x y = Together b x y ⊎ Together b y x

-- two labels of a program that may run together: in a procedure, called or not, or in `main`
pub data LabelsMeet (p : Program) (x y : ℕ) : Type 0 where
  in_procedure : (f : ℕ) → MayMeet p labels (procedure_of p f).body x y → LabelsMeet p x y
  in_main : MayMeet p labels p.main.body x y → LabelsMeet p x y

-- two accesses may run together in a procedure, and the statement with this label adds the pair
pub record AccessesAddedAt (p : Program) (label : ℕ) (x y : Access) : Type 0 where
  -- the procedure; `main` is numbered after the others
  pub procedure : ℕ
  pub pair : AddedAt p accesses label (body_of p procedure) x y
