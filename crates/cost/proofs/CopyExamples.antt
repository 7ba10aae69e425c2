-- The numbers of places that asyncs of worked programs copy, computed.
use Rattle.std.proofs.Common.{◌≡◌, ℕ, [], ◌∷◌, refl}
use Rattle.std.specs.Prelude.{pos, nat_eq, if◌then◌else◌}
use Rattle.sections.specs.Origins.{Left, Right, Root}
use Rattle.sections.specs.Place.{Window}
use Rattle.types.specs.Code.{Async, Do, End, Finish, Program, Store, Then}
use Rattle.types.specs.Value.{Environment}
use Rattle.types.proofs.Programs.{ints, lit, main_of}
use Rattle.cost.specs.Copied.{copied_at, taken_at}
use Rattle.cost.specs.Cover.{cover_of}

abbrev places : (at length : ℕ) → Window
places at n = record { array = 0; at = at; length = n }

-- finish { async { l[0] = 1; r[0] = 2; } async { l[0] = 3; } }, over an array a and two sections l and r of it
abbrev writers : Program
writers = main_of (ints 97 1024 ∷ []) 0 (Root ∷ Left 0 ∷ Right 0 ∷ []) (
    Then 1 (Finish (
    Then 2 (Async (Then 3 (Do (Store 1 (lit 0) (lit 1))) (Then 4 (Do (Store 2 (lit 0) (lit 2))) End))) (
    Then 5 (Async (Then 6 (Do (Store 1 (lit 0) (lit 3))) End)) End))) End)

-- if l and r have these places
abbrev named : (l r : Window) → Environment
named l r = record {
  scalars = λ x. pos 0;
  windows = λ s. if nat_eq s 1 then l else (if nat_eq s 2 then r else places 0 1024);
}

-- of 300 places from the first on, those after the first block
first_places : copied_at writers 5 (named (places 0 300) (places 300 724)) ≡ 88
first_places = refl

-- no block lies wholly between 100 and 400
inner_places : copied_at writers 5 (named (places 100 300) (places 400 624)) ≡ 600
inner_places = refl

-- two blocks lie wholly between 100 and 800
more_places : copied_at writers 5 (named (places 100 700) (places 800 224)) ≡ 376
more_places = refl

-- whole blocks are not copied; and the last one of an array may be shorter
whole_blocks : copied_at writers 5 (named (places 256 512) (places 768 256)) ≡ 0
whole_blocks = refl

-- adjacent places that are written are taken as one window
both_sides : copied_at writers 2 (named (places 0 300) (places 300 724)) ≡ 0
both_sides = refl

both_taken : taken_at writers 2 (named (places 0 300) (places 300 724)) ≡ places 0 1024 ∷ []
both_taken = refl

-- no other statement copies, and neither does a label that doesn't exist
other_statements : copied_at writers 3 (named (places 0 300) (places 300 724)) ≡ 0
other_statements = refl

-- in any order, some of them twice
in_any_order : cover_of (places 10 5 ∷ places 0 4 ∷ places 12 8 ∷ places 4 1 ∷ places 30 0 ∷ places 0 4 ∷ [])
    ≡ places 0 5 ∷ places 10 10 ∷ []
in_any_order = refl
