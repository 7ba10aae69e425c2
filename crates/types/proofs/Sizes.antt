-- The size of a statement, so the recursion into it terminates.
use Rattle.std.proofs.Common.{ℕ, ◌+◌}
use Rattle.syntax_tree.specs.Tree.{Stmt, Skip, Var, Assign, Store, Print, Fault, If, IfElse, While, Split, Parts, Call, Async}
use Rattle.syntax_tree.specs.Tree.{Finish, Rescue, Block, End, Then}

abbrev mutual
  pub size_in : Stmt → ℕ
  size_in Skip = 0
  size_in (Var x e) = 0
  size_in (Assign x e) = 0
  size_in (Store s i e) = 0
  size_in (Print e es) = 0
  size_in (Fault e) = 0
  size_in (If e b) = 1 + size b
  size_in (IfElse e b c) = 1 + size b + size c
  size_in (While e b) = 1 + size b
  size_in (Split s e l r b) = 1 + size b
  size_in (Parts s e x i b) = 1 + size b
  size_in (Call f es) = 0
  size_in (Async b) = 1 + size b
  size_in (Finish b) = 1 + size b
  size_in (Rescue b x c) = 1 + size b + size c

  pub size : Block → ℕ
  size End = 0
  size (Then s rest) = 1 + size_in s + size rest
