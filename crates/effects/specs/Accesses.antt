-- What a statement does to sections by its own expressions.
use Rattle.std.specs.Prelude.{ℕ, List, [], ◌∷◌, ◌++◌, map, flat_map, Bool, true, false}
use Rattle.types.specs.Code.{Primitive, Skip, Assign, Store, Print, Raise, Code, Do, If, While}
use Rattle.types.specs.Code.{Split, Parts, Begun, Call, Async, Finish, Rescue}
use Rattle.types.specs.Indexed.{indexed, indexed_truth}

-- the statement with this label may read, or write, elements of a section
pub record Access : Type 0 where
  pub label : ℕ
  pub section : ℕ
  pub write : Bool

-- a read of each of these sections
abbrev pub reads : (label : ℕ) → List ℕ → List Access
reads l ss = map (λ s. record { label = l; section = s; write = false }) ss

-- the accesses of a statement of one step: a read of each section that its expressions index, and
-- the write of a store
abbrev pub own_primitive : (label : ℕ) → Primitive → List Access
own_primitive l Skip = []
own_primitive l (Assign x e) = reads l (indexed e)
own_primitive l (Store s i e) =
    record { label = l; section = s; write = true } ∷ reads l (indexed i ++ indexed e)
own_primitive l (Print es) = reads l (flat_map indexed es)
own_primitive l (Raise e) = reads l (indexed e)

-- a statement's own accesses: those of its own expressions, not of its blocks
abbrev pub own_accesses : (label : ℕ) → Code → List Access
own_accesses l (Do s) = own_primitive l s
own_accesses l (If t b c) = reads l (indexed_truth t)
own_accesses l (While t b) = reads l (indexed_truth t)
own_accesses l (Split s e x y b) = reads l (indexed e)
own_accesses l (Parts s e q i b) = reads l (indexed e)
own_accesses l (Begun s n k q i b) = []
own_accesses l (Call f es ss) = reads l (flat_map indexed es)
own_accesses l (Async b) = []
own_accesses l (Finish b) = []
own_accesses l (Rescue b n c) = []
