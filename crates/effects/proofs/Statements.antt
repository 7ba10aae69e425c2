-- Statements as their Rust types represent them, and their number.
use Rattle.std.proofs.Common.{◌≡◌, ℕ, zero, suc, ◌+◌, ◌-◌, ◌<◌, ◌≤◌, arith, List, [], ◌∷◌, drop, length, Vec, Global, sym, ap, ◌∙◌, add-one}
use Rattle.std.proofs.Math.Seq.{drop-cons}
use Rattle.std.specs.Prelude.{slice_index_or}
use Rattle.types.specs.Code.{Code, Do, If, While, Split, Parts, Begun, Call, Async, Finish, Rescue, Codes, End, Then}
use Rattle.types.specs.Translation.{number, truth, code, codes}
use Rattle.types.specs.declared.code.Pieces.{Pieces}
use Rattle.types.specs.declared.code.Sides.{Sides}
use Rattle.types.specs.declared.code.Truth.{Truth}
use Rattle.types.specs.declared.code.Stmt.{Stmt}
use Rattle.types.specs.declared.code.StmtKind.{StmtKind}
use Rattle.types.specs.declared.ids.Slot.{Slot}
use Rattle.types.specs.declared.code.StmtKind.TheVariants.{If as rIf, While as rWhile, Split as rSplit, Parts as rParts, Async as rAsync, Finish as rFinish}
use Rattle.types.specs.declared.code.StmtKind.TheVariants.{Rescue as rRescue}
use Rattle.types.proofs.Blocks.{code_If, code_While, code_Split, code_Parts, code_Async, code_Finish, code_Rescue}

pub is_If : (k : StmtKind) (t : Truth) (v w : Vec Stmt Global) (b d : List Stmt) → k ≡ rIf t v w → b ≡ v.items → d ≡ w.items
    → code k ≡ If (truth t) (codes b) (codes d)
is_If k t v w b d is e f = ap code is ∙ code_If t v w ∙ ap (λ b. If (truth t) (codes b) (codes w.items)) (sym e)
    ∙ ap (λ d. If (truth t) (codes b) (codes d)) (sym f)

pub is_While : (k : StmtKind) (t : Truth) (v : Vec Stmt Global) (b : List Stmt) → k ≡ rWhile t v → b ≡ v.items
    → code k ≡ While (truth t) (codes b)
is_While k t v b is e = ap code is ∙ code_While t v ∙ ap (λ b. While (truth t) (codes b)) (sym e)

pub is_Split : (k : StmtKind) (s : Sides) (v : Vec Stmt Global) (b : List Stmt) → k ≡ rSplit s v → b ≡ v.items
    → code k ≡ Split s.section.number (number s.at) s.left.number s.right.number (codes b)
is_Split k s v b is e =
    ap code is ∙ code_Split s v ∙ ap (λ b. Split s.section.number (number s.at) s.left.number s.right.number (codes b)) (sym e)

pub is_Parts : (k : StmtKind) (x : Pieces) (v : Vec Stmt Global) (b : List Stmt) → k ≡ rParts x v → b ≡ v.items
    → code k ≡ Parts x.section.number (number x.size) x.piece.number x.turn.number (codes b)
is_Parts k x v b is e =
    ap code is ∙ code_Parts x v ∙ ap (λ b. Parts x.section.number (number x.size) x.piece.number x.turn.number (codes b)) (sym e)

pub is_Async : (k : StmtKind) (v : Vec Stmt Global) (b : List Stmt) → k ≡ rAsync v → b ≡ v.items → code k ≡ Async (codes b)
is_Async k v b is e = ap code is ∙ code_Async v ∙ ap (λ b. Async (codes b)) (sym e)

pub is_Finish : (k : StmtKind) (v : Vec Stmt Global) (b : List Stmt) → k ≡ rFinish v → b ≡ v.items → code k ≡ Finish (codes b)
is_Finish k v b is e = ap code is ∙ code_Finish v ∙ ap (λ b. Finish (codes b)) (sym e)

pub is_Rescue : (k : StmtKind) (v : Vec Stmt Global) (x : Slot) (w : Vec Stmt Global) (b d : List Stmt) → k ≡ rRescue v x w → b ≡ v.items
    → d ≡ w.items → code k ≡ Rescue (codes b) x.number (codes d)
is_Rescue k v x w b d is e f =
    ap code is ∙ code_Rescue v x w ∙ ap (λ b. Rescue (codes b) x.number (codes w.items)) (sym e)
    ∙ ap (λ d. Rescue (codes b) x.number (codes d)) (sym f)

-- a statement of a list and those after it
pub codes_at : (xs : List Stmt) (i : ℕ) (x : Stmt) → i < length xs → x ≡ slice_index_or xs i x
    → codes (drop i xs) ≡ Then x.label (code x.kind) (codes (drop (i + 1) xs))
codes_at xs i x within is = ap codes (drop-cons xs i x within) ∙ ap (λ y. codes (y ∷ drop (suc i) xs)) (sym is)
    ∙ ap (λ n. codes (x ∷ drop n xs)) (sym (add-one i))

abbrev mutual
  -- the number of statements inside a statement, and in a list
  pub size_in : Code → ℕ
  size_in (Do s) = 0
  size_in (If t b c) = size b + size c
  size_in (While t b) = size b
  size_in (Split s e l r b) = size b
  size_in (Parts s e q i b) = size b
  size_in (Begun s n k q i b) = size b
  size_in (Call f es ss) = 0
  size_in (Async b) = size b
  size_in (Finish b) = size b
  size_in (Rescue b x c) = size b + size c

  pub size : Codes → ℕ
  size End = 0
  size (Then l s rest) = size_in s + size rest + 1

-- the same, counted from the end
pub codes_before : (xs : List Stmt) (k : ℕ) (x : Stmt) → 0 < k → k ≤ length xs → x ≡ slice_index_or xs (k - 1) x
    → codes (drop (k - 1) xs) ≡ Then x.label (code x.kind) (codes (drop k xs))
codes_before xs k x some within is =
    let next : k - 1 + 1 ≡ k = omega arith in
    codes_at xs (k - 1) x (omega arith) is ∙ ap (λ n. Then x.label (code x.kind) (codes (drop n xs))) next

-- and there are fewer statements
pub smaller : (xs : List Stmt) (k : ℕ) (x : Stmt) → 0 < k → k ≤ length xs → x ≡ slice_index_or xs (k - 1) x
    → size (codes (drop (k - 1) xs)) ≡ size_in (code x.kind) + size (codes (drop k xs)) + 1
smaller xs k x some within is = ap size (codes_before xs k x some within is)

-- the number of some of the statements is at most that of all
pub size-drop : (k : ℕ) (xs : List Stmt) → size (codes (drop k xs)) ≤ size (codes xs)
size-drop zero xs = omega arith
size-drop (suc k) [] = omega arith
size-drop (suc k) (x ∷ xs) = let h = size-drop k xs in omega arith
