-- The order of accesses, and of the pairs of them that are listed.
use Rattle.std.specs.Prelude.{ℕ, ◌≡◌, List, [], ◌∷◌, Bool, true, false, nat_eq, nat_lt, if◌then◌else◌}
use Rattle.sections.specs.Member.{Member}
use Rattle.effects.specs.Accesses.{Access}

-- a read comes before a write
abbrev pub kind_number : (write : Bool) → ℕ
kind_number write = if write then 1 else 0

-- the first number that differs decides, as in a dictionary
abbrev pub is_less : List ℕ → List ℕ → Bool
is_less xs [] = false
is_less [] (y ∷ ys) = true
is_less (x ∷ xs) (y ∷ ys) = if nat_eq x y then is_less xs ys else nat_lt x y

-- accesses are ordered by label, then section, then kind
abbrev pub access_key : Access → List ℕ
access_key x = x.label ∷ x.section ∷ kind_number x.write ∷ []

-- two accesses that may run together, as they are listed
pub record Meeting : Type 0 where
  pub first : Access
  pub second : Access

-- the lesser of two accesses comes first
abbrev pub meeting_of : Access × Access → Meeting
meeting_of p =
    if is_less (access_key p.1) (access_key p.0)
    then record { first = p.1; second = p.0 }
    else record { first = p.0; second = p.1 }

-- meetings are ordered by both labels, then by what each access does
abbrev pub meeting_key : Meeting → List ℕ
meeting_key m =
    m.first.label ∷ m.second.label ∷ m.first.section ∷ kind_number m.first.write
    ∷ m.second.section ∷ kind_number m.second.write ∷ []

-- each comes before all that follow it
abbrev pub Ascends : List Meeting → Type 0
Ascends [] = Unit {0}
Ascends (m ∷ ms) =
    ((n : Meeting) → Member n ms → is_less (meeting_key m) (meeting_key n) ≡ true) × Ascends ms

-- one of these pairs, as it is listed
pub record IsMeeting (pairs : (x y : Access) → Type 0) (m : Meeting) : Type 0 where
  pub one : Access
  pub other : Access
  pub pair : pairs one other
  pub told : m ≡ meeting_of (one, other)

-- the meetings of these pairs, each once and in order
pub record AreMeetings (pairs : (x y : Access) → Type 0) (ms : List Meeting) : Type 0 where
  pub only : (m : Meeting) → Member m ms → IsMeeting pairs m
  pub every : (m : Meeting) → IsMeeting pairs m → Member m ms
  pub ascending : Ascends ms
