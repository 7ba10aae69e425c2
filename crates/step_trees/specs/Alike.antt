-- Trees with the same leaves in the same order, whose sides may be grouped differently.
use Rattle.types.specs.Trees.{Leaf, Handler, Tree, AndThen, Beside}

-- `(t par u) par v` is like `t par (u par v)`, at any position in a tree
pub data AreAlike : Tree → Tree → Type 0 where
  same : {t : Tree} → AreAlike t t
  left_first : {t u v : Tree} → AreAlike (Beside (Beside t u) v) (Beside t (Beside u v))
  right_first : {t u v : Tree} → AreAlike (Beside t (Beside u v)) (Beside (Beside t u) v)
  sides : {t u v w : Tree} → AreAlike t u → AreAlike v w → AreAlike (Beside t v) (Beside u w)
  waits : {t u : Tree} {h : Handler} {k : Leaf} → AreAlike t u → AreAlike (AndThen t h k) (AndThen u h k)
  through : {t u v : Tree} → AreAlike t u → AreAlike u v → AreAlike t v
