-- The total that a table by label has for the statements of a block.
use Rattle.std.specs.Prelude.{ℕ, ◌+◌, List, slice_index}
use Rattle.types.specs.Code.{Code, Do, If, While, Split, Parts, Begun, Call, Async, Finish, Rescue, Codes}
use Rattle.types.specs.Code.{End, Then}

abbrev mutual
  -- the total of the statements inside a statement, and that of a block including all statements
  -- inside
  pub share_inside : (table : List ℕ) → Code → ℕ
  share_inside ns (Do s) = 0
  share_inside ns (If t b c) = share_of ns b + share_of ns c
  share_inside ns (While t b) = share_of ns b
  share_inside ns (Split s e x y b) = share_of ns b
  share_inside ns (Parts s e q i b) = share_of ns b
  share_inside ns (Begun s n k q i b) = share_of ns b
  share_inside ns (Call f es ss) = 0
  share_inside ns (Async b) = share_of ns b
  share_inside ns (Finish b) = share_of ns b
  share_inside ns (Rescue b x c) = share_of ns b + share_of ns c

  pub share_of : (table : List ℕ) → Codes → ℕ
  share_of ns End = 0
  share_of ns (Then l s rest) = slice_index ns l + share_inside ns s + share_of ns rest
