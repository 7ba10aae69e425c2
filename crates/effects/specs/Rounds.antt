-- What each procedure may do and leaves pending, computed in rounds until a round adds nothing.
use Rattle.std.specs.Prelude.{ℕ, zero, suc, ◌+◌, List, [], ◌++◌, map, flat_map, length, Bool, true}
use Rattle.std.specs.Prelude.{false, ◌&&◌, nat_eq, if◌then◌else◌}
use Rattle.std.specs.List.{list_all, list_any}
use Rattle.types.specs.Code.{Codes, Program}
use Rattle.types.specs.Run.{procedure_of}
use Rattle.effects.specs.Accesses.{Access}
use Rattle.effects.specs.Effects.{accesses}
use Rattle.effects.specs.Sound.{parameters_of}
use Rattle.effects.specs.Tables.{Table, all_in, left_in}
use Rattle.effects.specs.Needs.{Needs, needs_in}

-- whether both accesses write, or both read
abbrev pub same_kind : Bool → Bool → Bool
same_kind true true = true
same_kind false false = true
same_kind _ _ = false

-- whether two accesses are the same
abbrev pub same_access : Access → Access → Bool
same_access x y =
    nat_eq x.label y.label && (nat_eq x.section y.section && same_kind x.write y.write)

-- whether a list has an access
abbrev pub lists : List Access → Access → Bool
lists xs x = list_any (same_access x) xs

-- whether a list has all of another
abbrev pub has_all : (xs part : List Access) → Bool
has_all xs part = list_all (lists xs) part

-- the empty table
abbrev pub none : Table accesses
none f = []

-- for this number of procedures, where `round` computes one more round
module _ (round : Table accesses → Table accesses) (count : ℕ) where
  -- the table after this number of rounds
  abbrev pub after : ℕ → Table accesses
  after zero = none
  after (suc k) = round (after k)

  -- whether one more round adds nothing to the first n procedures
  abbrev pub is_stable_below : Table accesses → ℕ → Bool
  is_stable_below table zero = true
  is_stable_below table (suc f) = has_all (table f) (round table f) && is_stable_below table f

  -- whether one more round adds nothing
  abbrev pub is_stable : Table accesses → Bool
  is_stable table = is_stable_below table count

  -- the first stable table from round k on, within at most n more rounds
  abbrev pub first_stable : (n k : ℕ) → Table accesses
  first_stable zero k = after k
  first_stable (suc n) k =
      if◌then◌else◌ {A = Table accesses} (is_stable (after k)) (after k) (first_stable n (suc k))

module _ (p : Program) where
  -- the accesses that occur in the first n procedures
  abbrev pub standing : ℕ → List Access
  standing zero = []
  standing (suc f) = all_in accesses none (procedure_of p f).body ++ standing f

  -- an upper bound of what a procedure's body may do: each of these accesses, to a parameter
  abbrev pub possible : ℕ → List Access
  possible f =
      flat_map (λ x. map (λ s. record x { section = s }) (parameters_of (procedure_of p f)))
      (standing (length p.procedures))

  -- the number of possible accesses of the first n procedures
  abbrev pub possible_below : ℕ → ℕ
  possible_below zero = 0
  possible_below (suc f) = length (possible f) + possible_below f

  -- one round for All: it follows calls one level deeper
  abbrev pub all_round : Table accesses → Table accesses
  all_round table f = all_in accesses table (procedure_of p f).body

  -- one round for Pending
  abbrev pub pending_round : (alls : Table accesses) → Table accesses → Table accesses
  pending_round alls table f = left_in accesses alls table (procedure_of p f).body

  -- the first stable table of rounds that start from the empty table
  abbrev pub solution : (Table accesses → Table accesses) → Table accesses
  solution round = first_stable round (length p.procedures) (possible_below (length p.procedures)) 0

  -- what each procedure may do
  abbrev pub summaries : Table accesses
  summaries = solution all_round

  -- what each leaves pending
  abbrev pub pending_summaries : Table accesses
  pending_summaries = solution (pending_round summaries)

  -- what each async's body needs
  abbrev pub needs_of : Codes → Needs
  needs_of = needs_in summaries
