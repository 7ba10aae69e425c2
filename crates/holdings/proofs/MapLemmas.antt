-- Maps of held places.
use Rattle.std.proofs.Common.{◌≡◌, Option, None, Bool, true, false, refl, sym, ap}
use Rattle.std.specs.Prelude.{ℤ, ◌||◌, option_map, if◌then◌else◌}
use Rattle.sections.specs.Place.{Place}
use Rattle.blocks.specs.Held.{Held, Map, Shared, only, IsThere, number_of, numbers, as_shared}
use Rattle.holdings.specs.Pieces.{taking}

-- ---- numbers that are there

pub number_none : (o : Option Held) → o ≡ None → option_map number_of o ≡ None
number_none o e = ap (option_map number_of) e

pub there-numbers : (set : Place → Bool) (m : Map Held) → IsThere set (numbers m) → IsThere set m
there-numbers set m there q is none = there q is (number_none (m q) none)

-- ---- what is shared and what is carved out

shared_at : (c : Bool) (x : Option ℤ) → (if c then option_map Shared x else None) ≡ option_map Shared (if c then x else None)
shared_at true x = refl
shared_at false x = refl

pub shared-only : (set : Place → Bool) (m : Map ℤ) → taking set (as_shared m) (λ q. None) ≡ as_shared (only set m)
shared-only set m = λ t q. shared_at (set q) (m q) t

taken_at : (a b c : Bool) (x : Option Held) → c ≡ (a || b)
    → (if a then x else (if b then x else None)) ≡ (if c then x else None)
taken_at true b c x e = ap (λ k. if k then x else None) (sym e)
taken_at false b c x e = ap (λ k. if k then x else None) (sym e)

-- what was copied and what moved as it stood, together
pub taken-only : (moved copied set : Place → Bool) (m : Map Held) → ((q : Place) → set q ≡ (moved q || copied q))
    → taking moved m (taking copied m (λ q. None)) ≡ only set m
taken-only moved copied set m says = λ t q. taken_at (moved q) (copied q) (set q) (m q) (says q) t
