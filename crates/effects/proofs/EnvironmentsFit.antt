-- Environments continue to fit: at the start, in the block of a split and after it, and in a call.
use Rattle.std.proofs.Common.{◌≡◌, ◌≢◌, inl, ℕ, zero, suc, ◌+◌, ◌*◌, ◌<◌, ◌≤◌, List, [], ◌∷◌, length, map, Option, Some, ℤ}
use Rattle.std.proofs.Common.{refl, sym, ap, ◌∙◌, subst, arith}
use Rattle.std.specs.Prelude.{true, slice_get, slice_index_or}
use Rattle.types.proofs.Bindings.{bind_here, bind_other}
use Rattle.sections.specs.Origins.{Origin, Root, Left, Right, Piece, origin_of, IsNumbered}
use Rattle.sections.specs.Place.{Window, sides_of, piece_of, nowhere}
use Rattle.sections.specs.Member.{Member, first, next}
use Rattle.sections.specs.Overlap.{beyond}
use Rattle.sections.specs.Placed.{Apart, AreSidesOf, HasLeft, IsPieceOf, Placed}
use Rattle.sections.proofs.Pieces.{is_piece}
use Rattle.sections.proofs.Windows.{IsCut, sides_of-cut, disjoint-apart}
use Rattle.types.specs.Code.{Array, Procedure, Program}
use Rattle.types.specs.Value.{Environment}
use Rattle.types.specs.Run.{array_of, no_array, bind, by_number, entry, with_sides, with_piece}
use Rattle.types.specs.Outcome.{whole_arrays}
use Rattle.types.proofs.Lists.{whole_array-by_number}
use Rattle.types.specs.Sound.{passed_for}
use Rattle.effects.specs.Sound.{may_write, CutsWell, SplitsWell, PassesWell, IsSoundIn, parameters_of, as_parameter, HasArrays}
use Rattle.effects.specs.Fits.{LiesInArray, Fits, names_in}
use Rattle.effects.proofs.Members.{numbers_from-below}
use Rattle.effects.proofs.AccessesInScope.{origin_from_get}

-- Origins are distinguished

abbrev kind : Origin → ℕ
kind Root = 0
kind (Left p) = 1
kind (Right p) = 2
kind (Piece p) = 3

pub root_left : {A : Type 0} {o : Origin} {s : ℕ} → o ≡ Root → o ≡ Left s → A
root_left e f = absurd (let h : 0 ≡ 1 = ap kind (sym e ∙ f) in omega arith)

pub root_right : {A : Type 0} {o : Origin} {s : ℕ} → o ≡ Root → o ≡ Right s → A
root_right e f = absurd (let h : 0 ≡ 2 = ap kind (sym e ∙ f) in omega arith)

pub left_right : {A : Type 0} {o : Origin} {s t : ℕ} → o ≡ Left s → o ≡ Right t → A
left_right e f = absurd (let h : 1 ≡ 2 = ap kind (sym e ∙ f) in omega arith)

pub root_piece : {A : Type 0} {o : Origin} {s : ℕ} → o ≡ Root → o ≡ Piece s → A
root_piece e f = absurd (let h : 0 ≡ 3 = ap kind (sym e ∙ f) in omega arith)

pub left_piece : {A : Type 0} {o : Origin} {s t : ℕ} → o ≡ Left s → o ≡ Piece t → A
left_piece e f = absurd (let h : 1 ≡ 3 = ap kind (sym e ∙ f) in omega arith)

pub right_piece : {A : Type 0} {o : Origin} {s t : ℕ} → o ≡ Right s → o ≡ Piece t → A
right_piece e f = absurd (let h : 2 ≡ 3 = ap kind (sym e ∙ f) in omega arith)

pub one_piece : {o : Origin} {s t : ℕ} → o ≡ Piece s → o ≡ Piece t → s ≡ t
one_piece e f = ap (λ o. beyond 0 (λ p. p) o) (sym e ∙ f)

pub one_left : {o : Origin} {s t : ℕ} → o ≡ Left s → o ≡ Left t → s ≡ t
one_left e f = ap (λ o. beyond 0 (λ p. p) o) (sym e ∙ f)

pub one_right : {o : Origin} {s t : ℕ} → o ≡ Right s → o ≡ Right t → s ≡ t
one_right e f = ap (λ o. beyond 0 (λ p. p) o) (sym e ∙ f)

-- A cut, where windows have other names

abbrev both : Window → Window → Option (Window × Window)
both a b = Some (a, b)

same_cut : {w v a b c d : Window} (n : ℤ) → w ≡ v → a ≡ c → b ≡ d → sides_of w n ≡ Some (a, b) → sides_of v n ≡ Some (c, d)
same_cut {w} {v} {a} {b} {c} {d} n e f g h =
    ap (λ x. sides_of x n) (sym e) ∙ h ∙ ap (λ x. both x b) f ∙ ap (λ x. both c x) g

abbrev one : Window → Option Window
one a = Some a

same_piece : {w v a b : Window} (n k : ℕ) → w ≡ v → a ≡ b → piece_of w n k ≡ Some a → piece_of v n k ≡ Some b
same_piece {w} {v} {a} {b} n k e f h = ap (λ x. piece_of x n k) (sym e) ∙ h ∙ ap one f

-- Only the windows in scope matter

pub placed_same : (g : Procedure) (scope : List ℕ) (env other : Environment)
    → Placed (names_in g scope) env.windows → ((s : ℕ) → Member s scope → env.windows s ≡ other.windows s)
    → Placed (names_in g scope) other.windows
placed_same g scope env other placed same = record {
  apart = λ r s ne m n e f w. subst (λ v. Apart (other.windows r) v) (same s n)
      (subst (λ v. Apart v (env.windows s)) (same r m) (placed.apart r s ne m n e f w));
  left = λ s l m e. (let k = placed.left s l m e in record {
    parent = k.parent;
    right = k.right;
    right_origin = k.right_origin;
    at = k.at;
    cut = same_cut k.at (same s k.parent) (same l m) (same (l + 1) k.right) k.cut;
  });
  right = placed.right;
  piece = λ s x m e. (let k = placed.piece s x m e in record {
    parent = k.parent;
    size = k.size;
    turn = k.turn;
    cut = same_piece k.size k.turn (same s k.parent) (same x m) k.cut;
  });
}

pub fits_same : (p : Program) (g : Procedure) (scope : List ℕ) (env other : Environment)
    → Fits p g scope env → ((s : ℕ) → Member s scope → env.windows s ≡ other.windows s) → Fits p g scope other
fits_same p g scope env other fits same = record {
  lies = λ s m. subst (LiesInArray p) (same s m) (fits.lies s m);
  placed = placed_same g scope env other fits.placed same;
}

-- In the block of a split

module _ (g : Procedure) (scope : List ℕ) (env : Environment) (t a b : ℕ) (splits : SplitsWell g scope t a b)
    (at : ℤ) (cut : sides_of (env.windows t) at ≡ Some (env.windows a, env.windows b)) (outer : Placed (names_in g scope) env.windows) where
  old_root : (x : ℕ) → Member x (a ∷ b ∷ scope) → origin_of g.sections x ≡ Root → Member x scope
  old_root x first e = root_left e splits.left
  old_root x (next first) e = root_right e splits.right
  old_root x (next (next m)) e = m

  sides_inside : AreSidesOf (names_in g (a ∷ b ∷ scope)) env.windows t a
  sides_inside = record {
    parent = next (next splits.in_scope);
    right = subst (λ x. Member x (a ∷ b ∷ scope)) splits.next (next first);
    right_origin = subst (λ x. origin_of g.sections x ≡ Right t) splits.next splits.right;
    at = at;
    cut = subst (λ x. sides_of (env.windows t) at ≡ Some (env.windows a, env.windows x)) splits.next cut;
  }

  left_inside : (s l : ℕ) → Member l (a ∷ b ∷ scope) → origin_of g.sections l ≡ Left s
      → AreSidesOf (names_in g (a ∷ b ∷ scope)) env.windows s l
  left_inside s l first e = subst (λ t. AreSidesOf (names_in g (a ∷ b ∷ scope)) env.windows t a) (one_left splits.left e) sides_inside
  left_inside s l (next first) e = left_right e splits.right
  left_inside s l (next (next m)) e =
      let k = outer.left s l m e in
      record { parent = next (next k.parent); right = next (next k.right); right_origin = k.right_origin; at = k.at; cut = k.cut }

  right_inside : (s r : ℕ) → Member r (a ∷ b ∷ scope) → origin_of g.sections r ≡ Right s → HasLeft (names_in g (a ∷ b ∷ scope)) s r
  right_inside s r first e = left_right splits.left e
  right_inside s r (next first) e = record {
    left = a;
    turn = splits.next;
    in_scope = first;
    origin = subst (λ t. origin_of g.sections a ≡ Left t) (one_right splits.right e) splits.left;
  }
  right_inside s r (next (next m)) e =
      let k = outer.right s r m e in
      record { left = k.left; turn = k.turn; in_scope = next (next k.in_scope); origin = k.origin }

  piece_inside : (s x : ℕ) → Member x (a ∷ b ∷ scope) → origin_of g.sections x ≡ Piece s
      → IsPieceOf (names_in g (a ∷ b ∷ scope)) env.windows s x
  piece_inside s x first e = left_piece splits.left e
  piece_inside s x (next first) e = right_piece splits.right e
  piece_inside s x (next (next m)) e =
      let k = outer.piece s x m e in
      record { parent = next (next k.parent); size = k.size; turn = k.turn; cut = k.cut }

  -- inside a split the windows are related as the origins say, if the sides are those of its
  -- section
  pub placed_inside : Placed (names_in g (a ∷ b ∷ scope)) env.windows
  placed_inside = record {
    apart = λ r s ne m n e f w. outer.apart r s ne (old_root r m e) (old_root s n f) e f w;
    left = left_inside;
    right = right_inside;
    piece = piece_inside;
  }

module _ (p : Program) (g : Procedure) (scope : List ℕ) (env : Environment)
    (s l r : ℕ) (splits : SplitsWell g scope s l r) (ws : Window × Window) where
  abbrev pub new : Environment
  new = with_sides l r ws env

  at_left : new.windows l ≡ ws.0
  at_left = bind_here l ws.0 (bind r ws.1 env.windows)

  at_right : new.windows r ≡ ws.1
  at_right = bind_other l r ws.0 (bind r ws.1 env.windows) (let n : r ≡ l + 1 = splits.next in omega arith) ∙ bind_here r ws.1 env.windows

  pub at_other : (x : ℕ) → Member x scope → env.windows x ≡ new.windows x
  at_other x m =
      let h : x < l = splits.later x m in
      let n : r ≡ l + 1 = splits.next in
      sym (bind_other l x ws.0 (bind r ws.1 env.windows) (omega arith) ∙ bind_other r x ws.1 env.windows (omega arith))

  -- after a split, its sides are out of scope
  pub fits_past_split : Fits p g scope env → Fits p g scope new
  fits_past_split fits = fits_same p g scope env new fits at_other

  module _ (v : ℤ) (cut : sides_of (env.windows s) v ≡ Some (ws.0, ws.1)) (fits : Fits p g scope env) where
    side_lies : (w a b : Window) → IsCut w a b → LiesInArray p w → LiesInArray p a × LiesInArray p b
    side_lies w a b c h = (
      subst (LiesInArray p) (sym c.left) (let f : c.at ≤ w.length = c.fits in omega arith),
      subst (LiesInArray p) (sym c.right) (let f : c.at ≤ w.length = c.fits in omega arith),
    )

    sides_lie : LiesInArray p ws.0 × LiesInArray p ws.1
    sides_lie = side_lies (env.windows s) ws.0 ws.1 (sides_of-cut (env.windows s) ws.0 ws.1 v cut) (fits.lies s splits.in_scope)

    lies_inside : (x : ℕ) → Member x (l ∷ r ∷ scope) → LiesInArray p (new.windows x)
    lies_inside x first = subst (LiesInArray p) (sym at_left) sides_lie.0
    lies_inside x (next first) = subst (LiesInArray p) (sym at_right) sides_lie.1
    lies_inside x (next (next m)) = subst (LiesInArray p) (at_other x m) (fits.lies x m)

    pub fits_inside_split : Fits p g (l ∷ r ∷ scope) new
    fits_inside_split = record {
      lies = lies_inside;
      placed = placed_inside g scope new s l r splits v (same_cut v (at_other s splits.in_scope) (sym at_left) (sym at_right) cut)
          (placed_same g scope env new fits.placed at_other);
    }

-- In a turn of a `parts`

lies_piece : (p : Program) (w v : Window) (n k : ℕ) → piece_of w n k ≡ Some v → LiesInArray p w → LiesInArray p v
lies_piece p w v n k cut h =
    let c = is_piece w v n k cut in
    let starts : n * k < w.length = c.starts in
    let lies : w.at + w.length ≤ (array_of p w.array).length = h in
    subst (LiesInArray p) (sym c.is) (omega (arith, starts, lies))

module _ (g : Procedure) (scope : List ℕ) (env : Environment) (t a i : ℕ) (cuts : CutsWell g scope t a i)
    (size turn : ℕ) (cut : piece_of (env.windows t) size turn ≡ Some (env.windows a)) (outer : Placed (names_in g scope) env.windows) where
  root_there : (x : ℕ) → Member x (a ∷ scope) → origin_of g.sections x ≡ Root → Member x scope
  root_there x first e = root_piece e cuts.piece
  root_there x (next m) e = m

  left_there : (s l : ℕ) → Member l (a ∷ scope) → origin_of g.sections l ≡ Left s → AreSidesOf (names_in g (a ∷ scope)) env.windows s l
  left_there s l first e = left_piece e cuts.piece
  left_there s l (next m) e =
      let k = outer.left s l m e in
      record { parent = next k.parent; right = next k.right; right_origin = k.right_origin; at = k.at; cut = k.cut }

  right_there : (s r : ℕ) → Member r (a ∷ scope) → origin_of g.sections r ≡ Right s → HasLeft (names_in g (a ∷ scope)) s r
  right_there s r first e = right_piece e cuts.piece
  right_there s r (next m) e =
      let k = outer.right s r m e in
      record { left = k.left; turn = k.turn; in_scope = next k.in_scope; origin = k.origin }

  piece_there : (s x : ℕ) → Member x (a ∷ scope) → origin_of g.sections x ≡ Piece s
      → IsPieceOf (names_in g (a ∷ scope)) env.windows s x
  piece_there s x first e =
      subst (λ t. IsPieceOf (names_in g (a ∷ scope)) env.windows t a) (one_piece cuts.piece e)
      (record { parent = next cuts.in_scope; size = size; turn = turn; cut = cut })
  piece_there s x (next m) e =
      let k = outer.piece s x m e in record { parent = next k.parent; size = k.size; turn = k.turn; cut = k.cut }

  pub placed_in_turn : Placed (names_in g (a ∷ scope)) env.windows
  placed_in_turn = record {
    apart = λ r s ne m n e f w. outer.apart r s ne (root_there r m e) (root_there s n f) e f w;
    left = left_there;
    right = right_there;
    piece = piece_there;
  }

module _ (p : Program) (g : Procedure) (scope : List ℕ) (env : Environment)
    (s q i : ℕ) (cuts : CutsWell g scope s q i) (w : Window) (number : ℕ) where
  abbrev pub turned : Environment
  turned = with_piece q i w number env

  pub at_new : turned.windows q ≡ w
  at_new = bind_here q w env.windows

  pub at_piece : (x : ℕ) → Member x scope → env.windows x ≡ turned.windows x
  at_piece x m = let h : x < q = cuts.later x m in sym (bind_other q x w env.windows (omega arith))

  -- after a `parts`, its piece is out of scope
  pub fits_past_parts : Fits p g scope env → Fits p g scope turned
  fits_past_parts fits = fits_same p g scope env turned fits at_piece

  pub placed_at_turn : (size : ℕ) → piece_of (env.windows s) size number ≡ Some w → Placed (names_in g scope) env.windows
      → Placed (names_in g (q ∷ scope)) turned.windows
  placed_at_turn size cut placed =
      placed_in_turn g scope turned s q i cuts size number
      (same_piece size number (at_piece s cuts.in_scope) (sym at_new) cut) (placed_same g scope env turned placed at_piece)

  module _ (size : ℕ) (cut : piece_of (env.windows s) size number ≡ Some w) (fits : Fits p g scope env) where
    lies_there : (x : ℕ) → Member x (q ∷ scope) → LiesInArray p (turned.windows x)
    lies_there x first = subst (LiesInArray p) (sym at_new)
        (lies_piece p (env.windows s) w size number cut (fits.lies s cuts.in_scope))
    lies_there x (next m) = subst (LiesInArray p) (at_piece x m) (fits.lies x m)

    pub fits_in_turn : Fits p g (q ∷ scope) turned
    fits_in_turn = record {
      lies = lies_there;
      placed = placed_at_turn size cut fits.placed;
    }

-- In a call

pub by_number-map : {A B : Type 0} (f : A → B) (d : B) (c : A) (xs : List A) (k : ℕ) → k < length xs
    → by_number d (map f xs) k ≡ f (slice_index_or xs k c)
by_number-map f d c [] k h = absurd (omega arith)
by_number-map f d c (x ∷ xs) zero h = refl
by_number-map f d c (x ∷ xs) (suc k) h = by_number-map f d c xs k (omega arith)

first_root : (p : Program) (f : Procedure) → IsSoundIn p f → (k : ℕ) → Member k (parameters_of f) → origin_of f.sections k ≡ Root
first_root p f sound k m = origin_from_get f.sections k (sound.first k (numbers_from-below (length f.parameters) k m))

module _ (p : Program) (g : Procedure) (scope : List ℕ) (env : Environment) (numbered : IsNumbered g.sections)
    (fits : Fits p g scope env) (f : Procedure) (sound : IsSoundIn p f) (values : List ℤ) (ss : List ℕ)
    (passes : PassesWell g scope f.parameters ss) where
  abbrev inner : Environment
  inner = entry values (map env.windows ss)

  passed : (k : ℕ) → Member k (parameters_of f) → k < length ss
  passed k m =
      let h : k < length f.parameters = numbers_from-below (length f.parameters) k m in
      let e : length ss ≡ length f.parameters = passes.number in
      omega arith

  at_argument : (k : ℕ) → Member k (parameters_of f) → env.windows (passed_for ss k) ≡ inner.windows k
  at_argument k m = sym (by_number-map env.windows nowhere 0 ss k (passed k m))

  arguments_apart : (j k : ℕ) → j ≢ k → Member j (parameters_of f) → Member k (parameters_of f)
      → may_write f.parameters j ≡ true → Apart (env.windows (passed_for ss j)) (env.windows (passed_for ss k))
  arguments_apart j k ne m n w = disjoint-apart (names_in g scope) env.windows numbered fits.placed (passed_for ss j) (passed_for ss k)
      (passes.in_scope j (passed j m)) (passes.in_scope k (passed k n)) (passes.alone j k ne (passed k n) w) (inl (passes.writable j w))

  pub fits_in_call : Fits p f (parameters_of f) inner
  fits_in_call = record {
    lies = λ k m. subst (LiesInArray p) (at_argument k m) (fits.lies (passed_for ss k) (passes.in_scope k (passed k m)));
    placed = record {
      apart = λ j k ne m n e h w. subst (λ v. Apart (inner.windows j) v) (at_argument k n)
          (subst (λ v. Apart v (env.windows (passed_for ss k))) (at_argument j m) (arguments_apart j k ne m n w));
      left = λ s l m e. root_left (first_root p f sound l m) e;
      right = λ s r m e. root_right (first_root p f sound r m) e;
      piece = λ s x m e. root_piece (first_root p f sound x m) e;
    };
  }

-- At the start

array_at : (arrays : List Array) (k : ℕ) → k < length (map as_parameter arrays)
    → slice_get arrays k ≡ Some (slice_index_or arrays k no_array)
array_at [] k h = absurd (omega arith)
array_at (x ∷ xs) zero h = refl
array_at (x ∷ xs) (suc k) h = array_at xs k (omega arith)

module _ (p : Program) (sound : IsSoundIn p p.main) (arrays : HasArrays p) where
  whole : (k : ℕ) → Member k (parameters_of p.main)
      → by_number nowhere (whole_arrays 0 p.arrays) k ≡ record { array = k; at = 0; length = (array_of p k).length }
  whole k m =
      let lt = numbers_from-below (length p.main.parameters) k m in
      whole_array-by_number p.arrays k (array_of p k) (array_at p.arrays k (subst (λ ps. k < length ps) arrays lt))

  pub fits_at_start : Fits p p.main (parameters_of p.main) (entry [] (whole_arrays 0 p.arrays))
  fits_at_start = record {
    lies = λ k m. subst (LiesInArray p) (sym (whole k m)) (omega arith);
    placed = record {
      apart = λ j k ne m n e f w. subst (λ v. Apart (by_number nowhere (whole_arrays 0 p.arrays) j) v) (sym (whole k n))
          (subst (λ v. Apart v (record { array = k; at = 0; length = (array_of p k).length })) (sym (whole j m))
          (λ q x y. ne (sym x.array ∙ y.array)));
      left = λ s l m e. root_left (first_root p p.main sound l m) e;
      right = λ s r m e. root_right (first_root p p.main sound r m) e;
      piece = λ s x m e. root_piece (first_root p p.main sound x m) e;
    };
  }
