-- The statements of a program, at any depth.
use Rattle.std.specs.Prelude.{ℕ}
use Rattle.types.specs.Code.{Number, Truth, Code, If, While, Split, Parts, Async, Finish, Rescue, Codes, Then}
use Rattle.types.specs.Code.{Program}
use Rattle.types.specs.Run.{procedure_of}

-- the blocks inside a statement; what a call runs is in its procedure
pub data Block : Code → Codes → Type 0 where
  if_body : {t : Truth} {b c : Codes} → Block (If t b c) b
  if_other : {t : Truth} {b c : Codes} → Block (If t b c) c
  while : {t : Truth} {b : Codes} → Block (While t b) b
  split : {s : ℕ} {e : Number} {l r : ℕ} {b : Codes} → Block (Split s e l r b) b
  parts : {s : ℕ} {e : Number} {q i : ℕ} {b : Codes} → Block (Parts s e q i b) b
  async : {b : Codes} → Block (Async b) b
  finish : {b : Codes} → Block (Finish b) b
  rescued : {n : ℕ} {b c : Codes} → Block (Rescue b n c) b
  handler : {n : ℕ} {b c : Codes} → Block (Rescue b n c) c

-- a statement with this label is in a list, or inside a statement of the list
pub data Stands : Codes → (label : ℕ) → Code → Type 0 where
  here : {l : ℕ} {s : Code} {rest : Codes} → Stands (Then l s rest) l s
  inside : {l m : ℕ} {s t : Code} {b rest : Codes} → Block s b → Stands b m t
      → Stands (Then l s rest) m t
  later : {l m : ℕ} {s t : Code} {rest : Codes} → Stands rest m t → Stands (Then l s rest) m t

-- a program has a statement with this label
pub data HasStatement (p : Program) (label : ℕ) (s : Code) : Type 0 where
  in_procedure : (f : ℕ) → Stands (procedure_of p f).body label s → HasStatement p label s
  in_main : Stands p.main.body label s → HasStatement p label s

-- the statements of a list belong to the program
abbrev pub IsPartOf : Program → Codes → Type 0
IsPartOf p b = (l : ℕ) (s : Code) → Stands b l s → HasStatement p l s
