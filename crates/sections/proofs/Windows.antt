-- Windows of disjoint sections share no place if they agree with the origins of the sections.
use Rattle.std.proofs.Common.{◌≡◌, ◌≢◌, ◌⊎◌, inl, inr, ℕ, zero, suc, ◌+◌, ◌-◌, ◌<◌, ◌≤◌, Option, Some, None, ℤ, pos, negsuc}
use Rattle.std.proofs.Common.{refl, sym, ap, ◌∙◌, subst, arith}
use Rattle.std.proofs.lemmas.Bool.{leb-true, eqb-true, and_parts}
use Rattle.std.specs.Prelude.{Bool, true, false, nat_eq, nat_le, if◌then◌else◌}
use Rattle.std.proofs.lemmas.Option.{same_Some}
use Rattle.sections.specs.Member.{Member, first, next}
use Rattle.sections.specs.Origins.{Root, origin_of, IsNumbered, IsChildOf, left, right, piece}
use Rattle.sections.specs.Overlap.{line_within, line, root_of, are_opposite, overlap}
use Rattle.sections.specs.Place.{Place, Window, In, first_places, places_behind, same_place, sides_of}
use Rattle.sections.specs.Placed.{Apart, Names, Placed}
use Rattle.sections.proofs.Lines.{behind, root_in_line, root_is_root}
use Rattle.sections.proofs.Overlapping.{Sides, opposite_cases, disjoint_cases}
use Rattle.sections.proofs.Pieces.{piece_inside}

-- how the sides of a window were cut
pub record IsCut (w a b : Window) : Type 0 where
  pub at : ℕ
  pub fits : at ≤ w.length
  pub left : a ≡ first_places at w
  pub right : b ≡ places_behind at w

pub sides_of-cut : (w a b : Window) (v : ℤ) → sides_of w v ≡ Some (a, b) → IsCut w a b
sides_of-cut w a b (negsuc n) h = absurd cc
sides_of-cut w a b (pos n) h = go (nat_le n w.length) refl h
  where
    go : (t : Bool) → nat_le n w.length ≡ t
        → if◌then◌else◌ {A = Option (Window × Window)} t (Some (first_places n w, places_behind n w)) None ≡ Some (a, b) → IsCut w a b
    go true e h = record {
      at = n;
      fits = leb-true n w.length e;
      left = sym (ap (λ (p : Window × Window). p.0) (same_Some _ _ h));
      right = sym (ap (λ (p : Window × Window). p.1) (same_Some _ _ h));
    }
    go false e h = absurd cc

-- the places of a side are places of the whole window
pub left_inside : {w a b : Window} → IsCut w a b → (q : Place) → In a q → In w q
left_inside {w} {a} {b} c q h =
    let i : In (first_places c.at w) q = subst (λ a. In a q) c.left h in
    let high : q.index < w.at + c.at = i.high in
    record { array = i.array; low = i.low; high = omega (arith, c.fits, high) }

pub right_inside : {w a b : Window} → IsCut w a b → (q : Place) → In b q → In w q
right_inside {w} {a} {b} c q h =
    let i : In (places_behind c.at w) q = subst (λ b. In b q) c.right h in
    let low : w.at + c.at ≤ q.index = i.low in
    let high : q.index < w.at + c.at + (w.length - c.at) = i.high in
    record { array = i.array; low = omega (arith, low); high = omega (arith, c.fits, high) }

-- and each is in only one side
pub sides_apart : {w a b : Window} → IsCut w a b → Apart a b
sides_apart {w} {a} {b} c q h k = parted (subst (λ a. In a q) c.left h) (subst (λ b. In b q) c.right k)
  where
    parted : In (first_places c.at w) q → In (places_behind c.at w) q → ⊥
    parted h k =
        let x : q.index < w.at + c.at = h.high in
        let y : w.at + c.at ≤ q.index = k.low in
        omega (arith, x, y)

pub apart-sym : {v w : Window} → Apart v w → Apart w v
apart-sym h q x y = h q y x

module _ (names : Names) (windows : ℕ → Window) (numbered : IsNumbered names.origins) (placed : Placed names windows) where
  -- a section in scope that contains all places of another
  pub record Above (a x : ℕ) : Type 0 where
    pub in_scope : Member x names.scope
    pub places : (q : Place) → In (windows a) q → In (windows x) q

  above_itself : (a : ℕ) → Member a names.scope → Above a a
  above_itself a m = record { in_scope = m; places = λ q h. h }

  -- a parent has the places of its sides
  parent_above : (s a : ℕ) → IsChildOf names.origins s a → Member a names.scope → Above a s
  parent_above s a (left e) m =
      let sides = placed.left s a m e in
      let cut = sides_of-cut (windows s) (windows a) (windows (a + 1)) sides.at sides.cut in
      record { in_scope = sides.parent; places = left_inside cut }
  parent_above s a (right e) m =
      let l = placed.right s a m e in
      let sides = placed.left s l.left l.in_scope l.origin in
      let cut = sides_of-cut (windows s) (windows l.left) (windows (l.left + 1)) sides.at sides.cut in
      record {
        in_scope = sides.parent;
        places = λ q h. right_inside cut q (subst (λ r. In (windows r) q) l.turn h);
      }
  parent_above s a (piece e) m =
      let p = placed.piece s a m e in
      record { in_scope = p.parent; places = piece_inside (windows s) (windows a) p.size p.turn p.cut }

  -- the sections of a line contain all places of its first section
  above : (n x a : ℕ) → Member x (line_within names.origins n a) → Member a names.scope → Above a x
  above zero x a first m = above_itself a m
  above zero x a (next h) m = elim h [ ]
  above (suc n) x a first m = above_itself a m
  above (suc n) x a (next h) m =
      let r = behind names.origins n a x h in
      let up = parent_above r.parent a r.side m in
      let rest = above n x r.parent r.member up.in_scope in
      record { in_scope = rest.in_scope; places = λ q k. rest.places q (up.places q k) }

  above_in_line : (a x : ℕ) → Member x (line names.origins a) → Member a names.scope → Above a x
  above_in_line a x h m = above a x a h m

  narrowed : (a x b y : ℕ) → Above a x → Above b y → Apart (windows x) (windows y) → Apart (windows a) (windows b)
  narrowed a x b y f g h q i j = h q (f.places q i) (g.places q j)

  -- the two sides of a split in scope
  sides_are_apart : (l r : ℕ) → Member l names.scope → Sides names.origins l r → Apart (windows l) (windows r)
  sides_are_apart l r m s =
      let sides = placed.left s.parent l m s.left_of in
      subst (λ r. Apart (windows l) (windows r)) (sym s.turn)
      (sides_apart (sides_of-cut (windows s.parent) (windows l) (windows (l + 1)) sides.at sides.cut))

  opposite_apart : (x y : ℕ) → Member x names.scope → Member y names.scope → are_opposite names.origins x y ≡ true
      → Apart (windows x) (windows y)
  opposite_apart x y m n h = elim (opposite_cases names.origins x y h) [
    | inl s ↦ sides_are_apart x y m s
    | inr s ↦ apart-sym (sides_are_apart y x n s)
  ]

  -- two arrays or parameters
  record IsRoot (r : ℕ) : Type 0 where
    in_scope : Member r names.scope
    origin : origin_of names.origins r ≡ Root

  root_above : (a : ℕ) → Member a names.scope → Above a (root_of names.origins a)
  root_above a m = above_in_line a (root_of names.origins a) (root_in_line names.origins a a) m

  is_root : (a : ℕ) → Member a names.scope → IsRoot (root_of names.origins a)
  is_root a m = record { in_scope = (root_above a m).in_scope; origin = root_is_root names.origins numbered a }

  roots_apart : (r s : ℕ) → r ≢ s → IsRoot r → IsRoot s → (names.may_write r ≡ true) ⊎ (names.may_write s ≡ true)
      → Apart (windows r) (windows s)
  roots_apart r s ne h k (inl w) = placed.apart r s ne h.in_scope k.in_scope h.origin k.origin w
  roots_apart r s ne h k (inr w) =
      apart-sym (placed.apart s r (λ e. ne (sym e)) k.in_scope h.in_scope k.origin h.origin w)

  -- disjoint sections, one of which may be written, share no place
  pub disjoint-apart : (a b : ℕ) → Member a names.scope → Member b names.scope → overlap names.origins a b ≡ false
      → (names.may_write (root_of names.origins a) ≡ true) ⊎ (names.may_write (root_of names.origins b) ≡ true)
      → Apart (windows a) (windows b)
  disjoint-apart a b m n h w = elim (disjoint_cases names.origins a b h) [
    | inl ne ↦ narrowed a (root_of names.origins a) b (root_of names.origins b) (root_above a m) (root_above b n)
        (roots_apart (root_of names.origins a) (root_of names.origins b) ne (is_root a m) (is_root b n) w)
    | inr u ↦
        (let f = above_in_line a u.over_a u.a_lies m in
        let g = above_in_line b u.over_b u.b_lies n in
        narrowed a u.over_a b u.over_b f g (opposite_apart u.over_a u.over_b f.in_scope g.in_scope u.opposite))
  ]

-- two places that are the same
pub places_same : (p q : Place) → same_place p q ≡ true → p ≡ q
places_same p q h =
    let k = and_parts (nat_eq p.array q.array) _ h in
    ap (λ a. record p { array = a }) (eqb-true p.array q.array k.0) ∙ ap (λ i. record q { index = i }) (eqb-true p.index q.index k.1)
