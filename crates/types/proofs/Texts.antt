-- In the code of a text no `parts` has begun.
use Rattle.std.proofs.Common.{ℕ, List, Option, Some, None}
use Rattle.syntax_tree.specs.Tree.{Expr, Stmt, Skip, Var, Assign, Store, Print, Fault, If, IfElse, While, Split, Parts, Call, Async}
use Rattle.syntax_tree.specs.Tree.{Finish, Rescue, Block, End, Then, Procedure, Parameter}
use Rattle.types.specs.Resolution.{call, code, codes, procedure_of}
use Rattle.types.specs.Scope.{Names, Scope, section_of, with_sides, with_turn, next, inside_async, out_of, behind, after}
use Rattle.types.specs.Scope.{in_handler}
use Rattle.types.specs.Sound.{IsText, IsTextOf}

module _ (procedures : List Procedure) where
  call_text : (names : Names) (f : Option (ℕ × List Parameter)) (es : List Expr) → IsTextOf (call procedures names f es)
  call_text names None es = tt
  call_text names (Some f) es = tt

  mutual
    code_text : (here : Scope) (s : Stmt) → IsTextOf (code procedures here s)
    code_text here Skip = tt
    code_text here (Var x e) = tt
    code_text here (Assign x e) = tt
    code_text here (Store s i e) = tt
    code_text here (Print e es) = tt
    code_text here (Fault e) = tt
    code_text here (If e b) = (codes_text (next here) b, tt)
    code_text here (IfElse e b c) = (codes_text (next here) b, codes_text (out_of here (after b (next here))) c)
    code_text here (While e b) = codes_text (next here) b
    code_text here (Split s e l r b) = codes_text (with_sides (section_of here.names s) l r (next here)) b
    code_text here (Parts s e x i b) = codes_text (with_turn (section_of here.names s) x i (next here)) b
    code_text here (Call f es) = call_text here.names (procedure_of 0 f procedures) es
    code_text here (Async b) = codes_text (inside_async (next here)) b
    code_text here (Finish b) = codes_text (next here) b
    code_text here (Rescue b x c) = (codes_text (next here) b, codes_text (in_handler b x here) c)

    pub codes_text : (here : Scope) (b : Block) → IsText (codes procedures here b)
    codes_text here End = tt
    codes_text here (Then s rest) = (code_text here s, codes_text (behind s here) rest)
