-- The code of a statement consists of the code of its blocks.
use Rattle.std.proofs.Common.{◌≡◌, List, [], ◌∷◌, ◌++◌, Vec, Global, refl, ap, ◌∙◌}
use mathlib.Core.Former.{Count}
use Rattle.types.specs.Code.{If, While, Split, Parts, Async, Finish, Rescue, Codes, End, Then}
use Rattle.types.specs.Translation.{number, truth, code, row_codes, codes}
use Rattle.types.specs.declared.code.Pieces.{Pieces}
use Rattle.types.specs.declared.code.Sides.{Sides}
use Rattle.types.specs.declared.code.Truth.{Truth}
use Rattle.types.specs.declared.code.Stmt.{Stmt}
use Rattle.types.specs.declared.code.StmtKind.{StmtKind, Row_of-Stmt, end_of-Stmt, more_of-Stmt, items-the_row-Stmt}
use Rattle.types.specs.declared.code.StmtKind.{items_hidden-the_row-Stmt-0}
use Rattle.types.specs.declared.ids.Slot.{Slot}
use Rattle.types.specs.declared.code.StmtKind.TheVariants.{If as rIf, If' as rIf', While as rWhile, While' as rWhile'}
use Rattle.types.specs.declared.code.StmtKind.TheVariants.{Split as rSplit, Split' as rSplit', Parts as rParts}
use Rattle.types.specs.declared.code.StmtKind.TheVariants.{Parts' as rParts', Async as rAsync}
use Rattle.types.specs.declared.code.StmtKind.TheVariants.{Async' as rAsync', Finish as rFinish, Finish' as rFinish', Rescue as rRescue}
use Rattle.types.specs.declared.code.StmtKind.TheVariants.{Rescue' as rRescue'}

row_codes_are : (n : Count) (row : Row_of-Stmt n) → row_codes row ≡ codes (items-the_row-Stmt n row)
row_codes_are n end_of-Stmt = refl
row_codes_are n (more_of-Stmt l s rest) = ap (Then l (code s)) (row_codes_are _ rest)

abbrev block_in : StmtKind → (n : Count) × Row_of-Stmt n
block_in (rIf' _ _ b _ _) = (_, b)
block_in (rWhile' _ _ b) = (_, b)
block_in (rSplit' _ _ b) = (_, b)
block_in (rParts' _ _ b) = (_, b)
block_in (rAsync' _ b) = (_, b)
block_in (rFinish' _ b) = (_, b)
block_in (rRescue' _ b _ _ _) = (_, b)
block_in _ = (_, end_of-Stmt)

abbrev other_in : StmtKind → (n : Count) × Row_of-Stmt n
other_in (rIf' _ _ _ _ b) = (_, b)
other_in (rRescue' _ _ _ _ c) = (_, c)
other_in _ = (_, end_of-Stmt)

pub code_While : (t : Truth) (v : Vec Stmt Global) → code (rWhile t v) ≡ While (truth t) (codes v.items)
code_While t v = let r = block_in (rWhile t v) in ap (While (truth t)) (row_codes_are r.0 r.1 ∙ ap codes (items_hidden-the_row-Stmt-0 v))

pub code_Async : (v : Vec Stmt Global) → code (rAsync v) ≡ Async (codes v.items)
code_Async v = let r = block_in (rAsync v) in ap Async (row_codes_are r.0 r.1 ∙ ap codes (items_hidden-the_row-Stmt-0 v))

pub code_Finish : (v : Vec Stmt Global) → code (rFinish v) ≡ Finish (codes v.items)
code_Finish v = let r = block_in (rFinish v) in ap Finish (row_codes_are r.0 r.1 ∙ ap codes (items_hidden-the_row-Stmt-0 v))

pub code_Split : (s : Sides) (v : Vec Stmt Global)
    → code (rSplit s v) ≡ Split s.section.number (number s.at) s.left.number s.right.number (codes v.items)
code_Split s v =
    let b = block_in (rSplit s v) in
    ap (Split s.section.number (number s.at) s.left.number s.right.number) (row_codes_are b.0 b.1 ∙ ap codes (items_hidden-the_row-Stmt-0 v))

pub code_Parts : (x : Pieces) (v : Vec Stmt Global)
    → code (rParts x v) ≡ Parts x.section.number (number x.size) x.piece.number x.turn.number (codes v.items)
code_Parts x v =
    let b = block_in (rParts x v) in
    ap (Parts x.section.number (number x.size) x.piece.number x.turn.number)
    (row_codes_are b.0 b.1 ∙ ap codes (items_hidden-the_row-Stmt-0 v))

pub code_If : (t : Truth) (v w : Vec Stmt Global) → code (rIf t v w) ≡ If (truth t) (codes v.items) (codes w.items)
code_If t v w =
    let b = block_in (rIf t v w) in
    let o = other_in (rIf t v w) in
    ap (λ x. If (truth t) x (row_codes o.1)) (row_codes_are b.0 b.1 ∙ ap codes (items_hidden-the_row-Stmt-0 v))
    ∙ ap (If (truth t) (codes v.items)) (row_codes_are o.0 o.1 ∙ ap codes (items_hidden-the_row-Stmt-0 w))

pub code_Rescue : (v : Vec Stmt Global) (x : Slot) (w : Vec Stmt Global)
    → code (rRescue v x w) ≡ Rescue (codes v.items) x.number (codes w.items)
code_Rescue v x w =
    let b = block_in (rRescue v x w) in
    let o = other_in (rRescue v x w) in
    ap (λ z. Rescue z x.number (row_codes o.1)) (row_codes_are b.0 b.1 ∙ ap codes (items_hidden-the_row-Stmt-0 v))
    ∙ ap (Rescue (codes v.items) x.number) (row_codes_are o.0 o.1 ∙ ap codes (items_hidden-the_row-Stmt-0 w))

-- code in front of code
abbrev pub joined : List Stmt → Codes → Codes
joined [] cs = cs
joined (s ∷ rest) cs = Then s.label (code s.kind) (joined rest cs)

pub joined_push : (rs : List Stmt) (s : Stmt) (cs : Codes) → joined rs (Then s.label (code s.kind) cs) ≡ joined (rs ++ s ∷ []) cs
joined_push [] s cs = refl
joined_push (r ∷ rs) s cs = ap (Then r.label (code r.kind)) (joined_push rs s cs)

pub joined_all : (rs : List Stmt) → joined rs End ≡ codes rs
joined_all [] = refl
joined_all (r ∷ rs) = ap (Then r.label (code r.kind)) (joined_all rs)
