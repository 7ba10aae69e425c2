-- Holdings as contents and sets of places.
use Rattle.std.proofs.Common.{◌≡◌, List, [], ◌∷◌, ◌++◌, refl, sym, ap, ◌∙◌, subst, Option, Some, None}
use Rattle.std.specs.Prelude.{ℤ, Bool, true, false, ◌&&◌, ◌||◌, not, option_map, is_some, if◌then◌else◌}
use Rattle.sections.specs.Covers.{has, is_in}
use Rattle.blocks.proofs.BlockLemmas.{some_there, owned_number-shared}
use Rattle.sections.proofs.Windows.{places_same}
use Rattle.sections.specs.Place.{Place, Window, same_place}
use Rattle.types.specs.Contents.{write, IsThere}
use Rattle.holdings.specs.Held.{Held, Map, Owned, Shared, in_place_of, number_of, numbers, owned_number, owned, put, as_owned, as_shared}
use Rattle.holdings.specs.Held.{only, without, over, IsThere as AreThere, AreApart, first_of}
use Rattle.task_run.specs.Places.{Places}

-- ---- a write

number_put : (b : Bool) (v : ℤ) (o : Option Held)
    → option_map number_of (if b then Some (Owned v) else o) ≡ (if b then Some v else option_map number_of o)
number_put true v o = refl
number_put false v o = refl

pub numbers-put : (q : Place) (v : ℤ) (m : Map Held) → numbers (put q (Owned v) m) ≡ write q v (numbers m)
numbers-put q v m = λ t r. number_put (same_place q r) v (m r) t

owned_put : (b : Bool) (v : ℤ) (o : Option Held) → (b ≡ true → is_some (owned_number o) ≡ true)
    → is_some (owned_number (if b then Some (Owned v) else o)) ≡ is_some (owned_number o)
owned_put true v o is = sym (is refl)
owned_put false v o is = refl

-- the places that are owned
abbrev pub owns : Map Held → Places
owns m q = is_some (owned m q)

-- a write to an owned place doesn't change which places are owned
pub owned-put : (q : Place) (v : ℤ) (m : Map Held) → is_some (owned m q) ≡ true
    → owns (put q (Owned v) m) ≡ owns m
owned-put q v m is =
    λ t r. owned_put (same_place q r) v (m r)
    (λ same. subst (λ (s : Place). is_some (owned m s) ≡ true) (places_same q r same) is) t

number_over : (b : Bool) (v : ℤ) (h o : Option Held)
    → option_map number_of (if b then Some (in_place_of h v) else o) ≡ (if b then Some v else option_map number_of o)
number_over true v None o = refl
number_over true v (Some (Owned w)) o = refl
number_over true v (Some (Shared w)) o = refl
number_over false v h o = refl

-- a write to any place
pub numbers-over : (q : Place) (v : ℤ) (m : Map Held) → numbers (put q (in_place_of (m q) v) m) ≡ write q v (numbers m)
numbers-over q v m = λ t r. number_over (same_place q r) v (m q) (m r) t

owned_over : (b : Bool) (v : ℤ) (h o : Option Held) → (b ≡ true → h ≡ o)
    → is_some (owned_number (if b then Some (in_place_of h v) else o)) ≡ is_some (owned_number o)
owned_over true v h o same = written h ∙ ap (λ (x : Option Held). is_some (owned_number x)) (same refl)
  where
    written : (h : Option Held) → is_some (owned_number (Some (in_place_of h v))) ≡ is_some (owned_number h)
    written None = refl
    written (Some (Owned w)) = refl
    written (Some (Shared w)) = refl
owned_over false v h o same = refl

-- such a write doesn't change which places are owned
pub owned-over : (q : Place) (v : ℤ) (m : Map Held) → owns (put q (in_place_of (m q) v) m) ≡ owns m
owned-over q v m = λ t r. owned_over (same_place q r) v (m q) (m r) (λ same. ap m (places_same q r same)) t

-- ---- windows

pub has-append : (ws vs : List Window) (q : Place) → has (ws ++ vs) q ≡ has ws q || has vs q
has-append [] vs q = refl
has-append (w ∷ ws) vs q =
    ap (λ (b : Bool). is_in w q || b) (has-append ws vs q) ∙ or_assoc (is_in w q) (has ws q) (has vs q)
  where
    or_assoc : (a b c : Bool) → a || (b || c) ≡ (a || b) || c
    or_assoc true b c = refl
    or_assoc false b c = refl

-- ---- parts: what is carved and shared

-- an owned place is there
pub all_owned : (set : Place → Bool) (m : Map Held) → ((q : Place) → set q ≡ true → is_some (owned m q) ≡ true)
    → AreThere set (owned m)
all_owned set m own q e n = some_there (owned m q) (own q e) n

held_some : (o : Option Held) → IsThere (option_map number_of o) → o ≡ None → ⊥
held_some (Some v) h n = absurd (let bad : ⊥ = cc in bad)
held_some None h n = absurd h

pub all_there : (set : Place → Bool) (m : Map Held) → ((q : Place) → set q ≡ true → IsThere (numbers m q))
    → AreThere set m
all_there set m there q e n = held_some (m q) (there q e) n

-- what was carved, pasted over copies
pub pasted : (ws rs : List Window) (m child own to : Map Held) → to ≡ over (as_owned (owned own)) child
    → own ≡ only (has ws) m → child ≡ as_shared (only (has rs) (numbers m))
    → to ≡ over (as_owned (owned (only (has ws) m))) (as_shared (only (has rs) (numbers m)))
pasted ws rs m child own to is taken shared =
    is
    ∙ ap (λ (o : Map Held). over (as_owned (owned o)) child) taken
    ∙ ap (over (as_owned (owned (only (has ws) m)))) shared

module _ (ws rs : Place → Bool) (m : Map Held) (own : (q : Place) → ws q ≡ true → is_some (owned m q) ≡ true) where
  -- what a child has: what was carved, over copies
  abbrev pub childs : Map Held
  childs = over (as_owned (owned (only ws m))) (as_shared (only rs (numbers m)))

  child_at : (w r : Bool) (o : Option Held) → (w ≡ true → is_some (owned_number o) ≡ true)
      → (option_map number_of (first_of (option_map Owned (owned_number (if w then o else None)))
      (option_map Shared (if r then option_map number_of o else None)))
      ≡ (if w || r then option_map number_of o else None))
      × (is_some (owned_number (first_of (option_map Owned (owned_number (if w then o else None)))
      (option_map Shared (if r then option_map number_of o else None)))) ≡ w)
  child_at true r (Some (Owned v)) is = (refl, refl)
  child_at true r (Some (Shared v)) is = absurd (let bad : false ≡ true = is refl in let worse : ⊥ = cc in worse)
  child_at true r None is = absurd (let bad : false ≡ true = is refl in let worse : ⊥ = cc in worse)
  child_at false true (Some (Owned v)) is = (refl, refl)
  child_at false true (Some (Shared v)) is = (refl, refl)
  child_at false true None is = (refl, refl)
  child_at false false o is = (refl, refl)

  pub child_contents : numbers childs ≡ only (λ q. ws q || rs q) (numbers m)
  child_contents = λ t q. (child_at (ws q) (rs q) (m q) (own q)).0 t

  pub child_owned : owns childs ≡ ws
  child_owned = λ t q. (child_at (ws q) (rs q) (m q) (own q)).1 t

  left_number : (w : Bool) (o : Option Held) → option_map number_of (if w then None else o) ≡ (if w then None else option_map number_of o)
  left_number true o = refl
  left_number false o = refl

  -- what is left to the parent
  pub left_contents : numbers (without ws m) ≡ without ws (numbers m)
  left_contents = λ t q. left_number (ws q) (m q) t

  abbrev outside : Places
  outside q = is_some (owned m q) && not (ws q)

  left_is_own : (w : Bool) (o : Option Held) → is_some (owned_number (if w then None else o)) ≡ is_some (owned_number o) && not w
  left_is_own true (Some (Owned v)) = refl
  left_is_own true (Some (Shared v)) = refl
  left_is_own true None = refl
  left_is_own false (Some (Owned v)) = refl
  left_is_own false (Some (Shared v)) = refl
  left_is_own false None = refl

  pub left_owned : owns (without ws m) ≡ outside
  left_owned = λ t q. left_is_own (ws q) (m q) t

module _ (ws : Place → Bool) (m : Map Held) (own : (q : Place) → ws q ≡ true → is_some (owned m q) ≡ true) where
  taken_number : (w : Bool) (o : Option Held) → option_map number_of (if w then o else None) ≡ (if w then option_map number_of o else None)
  taken_number true o = refl
  taken_number false o = refl

  -- what was carved, for a child that has no copies
  pub taken_contents : numbers (only ws m) ≡ only ws (numbers m)
  taken_contents = λ t q. taken_number (ws q) (m q) t

  taken_is_own : (w : Bool) (o : Option Held) → (w ≡ true → is_some (owned_number o) ≡ true)
      → is_some (owned_number (if w then o else None)) ≡ w
  taken_is_own true o is = is refl
  taken_is_own false o is = refl

  pub taken_owned : owns (only ws m) ≡ ws
  taken_owned = λ t q. taken_is_own (ws q) (m q) (own q) t

pub copies_apart : (rs : Place → Bool) (m : Map Held) (other : Map ℤ) → AreApart other (owned (as_shared (only rs (numbers m))))
copies_apart rs m other q there = owned_number-shared (only rs (numbers m) q)
