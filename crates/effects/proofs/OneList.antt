-- A statement of any kind with one list of statements inside.
use Rattle.std.proofs.Common.{◌≡◌, ◌⊎◌, inl, inr, ℕ, List, Vec, Global, refl, sym, subst}
use Rattle.types.specs.Code.{Truth, Number, Code, While, Split, Parts, Async, Finish}
use Rattle.types.specs.Translation.{number, truth, code, codes}
use Rattle.types.specs.declared.code.Pieces.{Pieces}
use Rattle.types.specs.declared.code.Sides.{Sides}
use Rattle.types.specs.declared.code.Truth.{Truth as rTruth}
use Rattle.types.specs.declared.code.Stmt.{Stmt}
use Rattle.types.specs.declared.code.StmtKind.{StmtKind}
use Rattle.types.specs.declared.code.StmtKind.TheVariants.{While as rWhile, Split as rSplit, Parts as rParts, Async as rAsync, Finish as rFinish}
use Rattle.effects.proofs.Statements.{size, size_in, is_While, is_Split, is_Parts, is_Async, is_Finish}

module _ (k : StmtKind) (v : Vec Stmt Global) where
  -- it is a loop, an async or a finish, whose list has the names around it
  abbrev pub HasSameNames : Type 0
  HasSameNames = ((t : rTruth) × k ≡ rWhile t v) ⊎ ((k ≡ rAsync v) ⊎ (k ≡ rFinish v))

  -- it is a split, an async or a finish, which runs its list once
  abbrev pub HasBlock : Type 0
  HasBlock = ((s : Sides) × k ≡ rSplit s v) ⊎ ((k ≡ rAsync v) ⊎ (k ≡ rFinish v))

  -- one of all these, or a `parts`
  abbrev pub HasList : Type 0
  HasList =
      ((t : rTruth) × k ≡ rWhile t v)
      ⊎ (((s : Sides) × k ≡ rSplit s v) ⊎ (((x : Pieces) × k ≡ rParts x v) ⊎ ((k ≡ rAsync v) ⊎ (k ≡ rFinish v))))

  -- a fact about all of these is a fact about it
  module _ (P : Code → Type 0) (b : List Stmt) (e : b ≡ v.items) where
    pub of_same : HasSameNames → ((t : Truth) → P (While t (codes b))) → P (Async (codes b)) → P (Finish (codes b)) → P (code k)
    of_same (inl h) loop async finish = subst P (sym (is_While k h.0 v b h.1 e)) (loop (truth h.0))
    of_same (inr (inl h)) loop async finish = subst P (sym (is_Async k v b h e)) async
    of_same (inr (inr h)) loop async finish = subst P (sym (is_Finish k v b h e)) finish

    pub of_block : HasBlock → ((s : ℕ) (n : Number) (l r : ℕ) → P (Split s n l r (codes b))) → P (Async (codes b)) → P (Finish (codes b))
        → P (code k)
    of_block (inl h) split async finish =
        let s = h.0 in subst P (sym (is_Split k s v b h.1 e)) (split s.section.number (number s.at) s.left.number s.right.number)
    of_block (inr (inl h)) split async finish = subst P (sym (is_Async k v b h e)) async
    of_block (inr (inr h)) split async finish = subst P (sym (is_Finish k v b h e)) finish

    pub of_list : HasList → ((t : Truth) → P (While t (codes b))) → ((s : ℕ) (n : Number) (l r : ℕ) → P (Split s n l r (codes b)))
        → ((s : ℕ) (n : Number) (q i : ℕ) → P (Parts s n q i (codes b))) → P (Async (codes b)) → P (Finish (codes b)) → P (code k)
    of_list (inl h) loop split parts async finish = of_same (inl h) loop async finish
    of_list (inr (inl h)) loop split parts async finish = of_block (inl h) split async finish
    of_list (inr (inr (inl h))) loop split parts async finish =
        let x = h.0 in subst P (sym (is_Parts k x v b h.1 e)) (parts x.section.number (number x.size) x.piece.number x.turn.number)
    of_list (inr (inr (inr h))) loop split parts async finish = of_block (inr h) split async finish

  -- it contains as many statements as its list
  pub size_of_list : (b : List Stmt) → b ≡ v.items → HasList → size_in (code k) ≡ size (codes b)
  size_of_list b e h = of_list (λ j. size_in j ≡ size (codes b)) b e h (λ t. refl) (λ s n l r. refl) (λ s n q i. refl) refl refl

  pub size_of_block : (b : List Stmt) → b ≡ v.items → HasBlock → size_in (code k) ≡ size (codes b)
  size_of_block b e h = of_block (λ j. size_in j ≡ size (codes b)) b e h (λ s n l r. refl) refl refl
