-- The statements of the theorems about step trees.
use Rattle.std.specs.Prelude.{ℕ, ◌+◌, ◌≡◌, ◌⊎◌, List, ◌∷◌, length, true, false, Some, None, slice_get}
use Rattle.sections.specs.Place.{Place}
use Rattle.sections.specs.Member.{Member}
use Rattle.types.specs.Code.{Code, Do, If, While, Split, Parts, Begun, Call, Async, Finish, Rescue, Codes}
use Rattle.types.specs.Code.{End, Then, Procedure, Program}
use Rattle.types.specs.Contents.{Contents}
use Rattle.types.specs.Outcome.{Outcome, Ended}
use Rattle.types.specs.Run.{procedure_of}
use Rattle.types.specs.Sound.{IsText}
use Rattle.types.specs.Trees.{Leaf, Handler, Tree, AndThen, Beside, owner_environment, all_done, ready}
use Rattle.types.specs.TreeSteps.{leaf_step, step, leaf_at}
use Rattle.types.specs.TreeRuns.{Runs, tree_ending, told, explored_from}
use Rattle.types.specs.TreePlaces.{next_writes}
use Rattle.effects.specs.Accesses.{Access}
use Rattle.effects.specs.Effects.{All, accesses}
use Rattle.effects.specs.Fits.{Fits}
use Rattle.effects.specs.Kept.{SameWindows}
use Rattle.effects.specs.Sound.{CutsWell, Follows}

-- `t par u` is part of a tree
pub data ParIn (t u : Tree) : Tree → Type 0 where
  here : ParIn t u (Beside t u)
  first : {v : Tree} {h : Handler} {k : Leaf} → ParIn t u v → ParIn t u (AndThen v h k)
  left : {v w : Tree} → ParIn t u v → ParIn t u (Beside v w)
  right : {v w : Tree} → ParIn t u w → ParIn t u (Beside v w)

-- `t then <k>` is part of a tree, with or without a handler
pub data ThenIn (t : Tree) (k : Leaf) : Tree → Type 0 where
  here : {h : Handler} → ThenIn t k (AndThen t h k)
  first : {v : Tree} {h : Handler} {j : Leaf} → ThenIn t k v → ThenIn t k (AndThen v h j)
  left : {v w : Tree} → ThenIn t k v → ThenIn t k (Beside v w)
  right : {v w : Tree} → ThenIn t k w → ThenIn t k (Beside v w)

-- the n-th leaf of a tree steps to this tree and store
pub record StepsTo (p : Program) (n : ℕ) (t : Tree) (a : Contents) : Type 0 where
  pub tree : Tree
  pub store : Contents
  pub step : step p n t a ≡ Some (tree, store)

-- in t, the m-th leaf steps to u, and the n-th leaf, to its right, steps to v. Each leaf still may
-- step after the other, and both orders lead to one tree and store
pub record Commutes (p : Program) (m n : ℕ) (t u : Tree) (b : Contents) (v : Tree) (c : Contents)
    : Type 0 where
  pub tree : Tree
  pub store : Contents
  -- the number of the second leaf after the step of the first
  pub number : ℕ
  pub same_second : leaf_at number u ≡ leaf_at n t
  pub same_first : leaf_at m v ≡ leaf_at m t
  pub second : step p number u b ≡ Some (tree, store)
  pub first : step p m v c ≡ Some (tree, store)

-- a run of m steps continues to an end, which it reaches after n steps
pub record GoesOn (p : Program) (m n : ℕ) (u : Tree) (b : Contents) (end : Tree) (z : Contents)
    : Type 0 where
  pub more : ℕ
  pub count : m + more ≡ n
  pub runs : Runs p more u b end z

module _ (p : Program) where
  -- a begun `parts` is of a section in scope, and its block names only sections in scope and the
  -- piece
  abbrev pub TurnIn : (scope : List ℕ) → Code → Type 0
  TurnIn scope (Begun s n k q i b) =
      Member s scope × ((x : Access) → All p accesses b x → Member x.section (q ∷ scope))
  TurnIn scope _ = Unit {0}

  -- so does each begun `parts` of a list
  abbrev pub TurnsIn : (scope : List ℕ) → Codes → Type 0
  TurnsIn scope End = Unit {0}
  TurnsIn scope (Then l s rest) = TurnIn scope s × TurnsIn scope rest

-- no `parts` in the program's text has begun
pub record AreTexts (p : Program) : Type 0 where
  pub procedures : (f : ℕ) → IsText (procedure_of p f).body
  pub main : IsText p.main.body

module _ (p : Program) where
  -- a `parts` of s with the piece x, the turn in slot i and this block follows the rules in some
  -- procedure and scope, so its block doesn't give the name s to another window
  pub record CutsSomewhere (s x i : ℕ) (block : Codes) : Type 0 where
    pub procedure : Procedure
    pub scope : List ℕ
    pub cuts : CutsWell procedure scope s x i
    pub follows : Follows p procedure (x ∷ scope) block

  abbrev mutual
    -- each `parts` in a statement follows the rules
    pub LawfulPartsOf : Code → Type 0
    LawfulPartsOf (Do s) = Unit {0}
    LawfulPartsOf (If t b c) = LawfulParts b × LawfulParts c
    LawfulPartsOf (While t b) = LawfulParts b
    LawfulPartsOf (Split s e x y b) = LawfulParts b
    LawfulPartsOf (Parts s e x i b) = CutsSomewhere s x i b
    LawfulPartsOf (Begun s n k x i b) = CutsSomewhere s x i b
    LawfulPartsOf (Call f es ss) = Unit {0}
    LawfulPartsOf (Async b) = LawfulParts b
    LawfulPartsOf (Finish b) = LawfulParts b
    LawfulPartsOf (Rescue b x c) = LawfulParts b × LawfulParts c

    -- and each one in a list of statements
    pub LawfulParts : Codes → Type 0
    LawfulParts End = Unit {0}
    LawfulParts (Then l s rest) = LawfulPartsOf s × LawfulParts rest

-- each `parts` of the program follows the rules, and none has begun; a program without `parts` needs
-- to follow no rule
pub record HasLawfulParts (p : Program) : Type 0 where
  pub texts : AreTexts p
  pub procedures : (f : ℕ) → LawfulParts p (procedure_of p f).body
  pub main : LawfulParts p p.main.body

-- a leaf's environment fits the procedure of its next statement, in a scope with all sections that
-- the leaf's remaining statements name
pub record LeafFits (p : Program) (k : Leaf) : Type 0 where
  pub procedure : Procedure
  pub scope : List ℕ
  pub fits : Fits p procedure scope k.environment
  pub in_scope : (x : Access) → All p accesses k.rest x → Member x.section scope
  pub turns_in_scope : TurnsIn p scope k.rest

-- the owner of t has not changed the windows of the names in scope at `<k>`
pub record OwnerKeeps (p : Program) (t : Tree) (k : Leaf) : Type 0 where
  pub scope : List ℕ
  pub in_scope : (x : Access) → All p accesses k.rest x → Member x.section scope
  pub turns_in_scope : TurnsIn p scope k.rest
  pub same : SameWindows scope k.environment (owner_environment t)

-- the leaf that steps to u over the store a, giving the store b, also steps to u over c. Each place
-- is unchanged in both stores, or is written by the step, and then has the same number in both
pub record SameStep (p : Program) (k : Leaf) (a : Contents) (u : Tree) (b c : Contents)
    : Type 0 where
  pub store : Contents
  pub step : leaf_step p k.rest k c ≡ Some (u, store)
  pub places : (q : Place) → ((b q ≡ a q) × (store q ≡ c q))
      ⊎ (Member q (next_writes k a) × (b q ≡ store q))

module _ (p : Program) where
  -- a run of this number of steps ends with this outcome
  pub record EndsBy (count : ℕ) (t : Tree) (a : Contents) (o : Outcome) : Type 0 where
    pub tree : Tree
    pub store : Contents
    pub runs : Runs p count t a tree store
    pub done : all_done tree ≡ true
    pub same : Ended (tree_ending p tree store) ≡ o

  -- a run of this number of steps leads to a tree that hasn't ended, with this number of leaves
  -- that may step
  pub record OpensBy (count : ℕ) (t : Tree) (a : Contents) (leaves : ℕ) : Type 0 where
    pub tree : Tree
    pub store : Contents
    pub runs : Runs p count t a tree store
    pub open_yet : all_done tree ≡ false
    pub same : ready tree ≡ leaves

  -- a run by the first n choices leads to a tree in which the next choice names no leaf
  pub record MissesBy (choices : List ℕ) (n : ℕ) (t : Tree) (a : Contents) : Type 0 where
    pub tree : Tree
    pub store : Contents
    pub runs : Runs p n t a tree store
    pub choice : ℕ
    pub given : slice_get choices n ≡ Some choice
    pub missing : step p choice tree store ≡ None

  -- n choices lead to this tree and store
  pub record Chosen (n : ℕ) (t : Tree) (a : Contents) (u : Tree) (b : Contents) : Type 0 where
    pub choices : List ℕ
    pub count : length choices ≡ n
    pub explores : (i : ℕ) → explored_from p i choices t a ≡ told p u b
