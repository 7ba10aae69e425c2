-- What procedures may do and leave pending, as lists.
use Rattle.std.specs.Prelude.{ℕ, ◌↔◌, Bool, List, [], map, Option, None, Some, slice_get, nat_eq, true}
use Rattle.sections.specs.Member.{Member}
use Rattle.types.specs.Code.{Program}
use Rattle.types.specs.Run.{procedure_of}
use Rattle.effects.specs.Accesses.{Access}
use Rattle.effects.specs.AccessSets.{IsUseOf}
use Rattle.effects.specs.Effects.{accesses, All, Pending}
use Rattle.effects.specs.LabelSets.{HasLabel}
use Rattle.effects.specs.Tables.{Table}
use Rattle.effects.specs.Translation.{access}
use Rattle.effects.specs.declared.access.Access.{Access as rAccess}
use Rattle.effects.specs.declared.label_set.LabelSet.{LabelSet}
use Rattle.parallel_relation.specs.declared.listing.ListedAccesses.{ListedAccesses}

-- an access is in a list
abbrev pub InList : List rAccess → Access → Type 0
InList xs x = Member x (map access xs)

-- the statements with these labels write, or read, this section
abbrev pub IsUse : LabelSet → (section : ℕ) → (write : Bool) → Access → Type 0
IsUse labels s w x = IsUseOf s w x × HasLabel labels x.label

-- everything that is listed for a procedure; nothing if there is no list
abbrev pub all_listed : Option ListedAccesses → List Access
all_listed None = []
all_listed (Some x) = map access x.all.items

-- what is listed as pending
abbrev pub pending_listed : Option ListedAccesses → List Access
pending_listed None = []
pending_listed (Some x) = map access x.pending.items

-- the tables of what is listed for each number
abbrev pub alls_of : List ListedAccesses → Table accesses
alls_of lists f = all_listed (slice_get lists f)

abbrev pub pendings_of : List ListedAccesses → Table accesses
pendings_of lists f = pending_listed (slice_get lists f)

-- the list for this number has the accesses of its procedure, and those that it leaves pending
pub record IsListedAt (p : Program) (lists : List ListedAccesses) (f : ℕ) : Type 0 where
  pub all : (x : Access) → Member x (alls_of lists f) ↔ All p accesses (procedure_of p f).body x
  pub pending : (x : Access)
      → Member x (pendings_of lists f) ↔ Pending p accesses (procedure_of p f).body x

-- the lists have this for each procedure
abbrev pub AreListsOf : Program → List ListedAccesses → Type 0
AreListsOf p lists = (f : ℕ) → IsListedAt p lists f

-- whether the pairs of a label are requested: if no label is named, all are
abbrev pub is_asked : Option ℕ → (label : ℕ) → Bool
is_asked None l = true
is_asked (Some k) l = nat_eq k l
