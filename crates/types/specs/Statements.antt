-- The number of statements.
use Rattle.std.specs.Prelude.{ℕ, ◌+◌}
use Rattle.types.specs.Code.{Code, Do, If, While, Split, Parts, Begun, Call, Async, Finish, Rescue, Codes}
use Rattle.types.specs.Code.{End, Then}

abbrev mutual
  -- the number of statements, including those inside others
  pub statements_in : Code → ℕ
  statements_in (Do s) = 1
  statements_in (If t b c) = 1 + statements b + statements c
  statements_in (While t b) = 1 + statements b
  statements_in (Split s e l r b) = 1 + statements b
  statements_in (Parts s e x i b) = 1 + statements b
  statements_in (Begun s n k x i b) = 1 + statements b
  statements_in (Call f es ss) = 1
  statements_in (Async b) = 1 + statements b
  statements_in (Finish b) = 1 + statements b
  statements_in (Rescue b x c) = 1 + statements b + statements c

  pub statements : Codes → ℕ
  statements End = 0
  statements (Then l s rest) = statements_in s + statements rest
