-- Accesses by section and kind, each with the first label at which it is made.
use Rattle.std.specs.Prelude.{ℕ, ◌≡◌, ◌⊎◌, ◌≤◌, ◌<◌, Bool, List, map, length, slice_index_or}
use Rattle.sections.specs.Member.{Member}
use Rattle.effects.specs.Accesses.{Access}
use Rattle.effects.specs.Translation.{access}
use Rattle.effects.specs.declared.access.Access.{Access as rAccess}
use Rattle.effects.specs.declared.firsts.Firsts.{Firsts}

-- the list has an access of the same kind to the same section as x, and its label is no larger
pub record HasAsEarly (xs : List Access) (x : Access) : Type 0 where
  pub item : Access
  pub stands : Member item xs
  pub section : item.section ≡ x.section
  pub write : item.write ≡ x.write
  pub label : item.label ≤ x.label

-- from these accesses the list keeps the first of each section and kind, and nothing else
pub record AreFirsts (those : Access → Type 0) (xs : List Access) : Type 0 where
  pub among : (x : Access) → Member x xs → those x
  pub first : (x : Access) → those x → HasAsEarly xs x

-- the list `xs` keeps the first of each section and kind from the accesses in `all`
abbrev pub AreFirstsIn : (all xs : List Access) → Type 0
AreFirstsIn all xs = AreFirsts (λ x. Member x all) xs

-- afterwards the list keeps the firsts of what it kept before and of more accesses
abbrev pub AddsFirsts : (more : Access → Type 0) → (before after : List Access) → Type 0
AddsFirsts more before after = AreFirsts (λ x. more x ⊎ Member x before) after

-- the accesses that are kept
abbrev pub kept_in : Firsts → List Access
kept_in f = map access f.items.items

-- the access at this index has the same section and kind
pub record IsAlikeAt (xs : List rAccess) (x : rAccess) (k : ℕ) : Type 0 where
  pub below : k < length xs
  pub section : (slice_index_or xs k x).section ≡ x.section
  pub write : (slice_index_or xs k x).write ≡ x.write

-- one of these accesses to a parameter, of this kind, as an access to the section that is passed
-- for it
pub record IsPassedAs (those : Access → Type 0) (parameter section : ℕ) (write : Bool) (y : Access)
    : Type 0 where
  pub among : those (record y { section = parameter })
  pub named : y.section ≡ section
  pub kind : y.write ≡ write

-- one of these accesses to the parameters of a call, as an access to the section that is passed for
-- it
pub record IsPassed (those : Access → Type 0) (sections : List ℕ) (y : Access) : Type 0 where
  pub parameter : ℕ
  pub below : parameter < length sections
  pub among : those (record y { section = parameter })
  pub named : y.section ≡ slice_index_or sections parameter 0
