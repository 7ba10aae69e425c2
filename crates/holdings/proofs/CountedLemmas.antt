-- The exact number of places that are copied.
use Rattle.std.proofs.Common.{◌≡◌, ℕ, zero, suc, ◌+◌, ◌-◌, ◌*◌, ◌/◌, ◌%◌, ◌<◌, ◌≤◌, min, is_some, cond}
use Rattle.std.proofs.Common.{Option, Some, None, Bool, inl, inr, true, false, refl, sym, ap, ◌∙◌, arith, ◌⊎◌}
use Rattle.std.proofs.lemmas.Bool.{and_from, and_parts, cases_eq, cases_lt, eq-eqb, eqb-true, or_parts}
use Rattle.std.proofs.lemmas.List.Sums.{sum_by-cons, sum_by-append}
use Rattle.std.proofs.Math.Bool.{and-false}
use Rattle.std.specs.List.{count_by, list_any, range_with_len, sum_by}
use Rattle.std.specs.Prelude.{ℤ, ◌&&◌, ◌||◌, ◌^◌, not, nat_eq, if◌then◌else◌}
use Rattle.sections.specs.Covers.{is_in}
use Rattle.sections.specs.Place.{Place, Window}
use Rattle.sections.proofs.Covering.{in_window, is_in-from}
use Rattle.blocks.specs.Counts.{how_many}
use Rattle.blocks.specs.Offsets.{Offsets}
use Rattle.blocks.proofs.WalkLemmas.{how_many-none, how_many-skip, how_many-some}
use Rattle.blocks.specs.Held.{Held, Map}
use Rattle.blocks.proofs.BlockLemmas.{some_from_there}
use Rattle.holdings.specs.Carvings.{IsWhole}
use Rattle.holdings.specs.Copied.{copied_into, copied_into_array, splits}
use Rattle.holdings.specs.Pieces.{piece_length, piece, behind_piece}
use Rattle.holdings.specs.Rows.{in_block, place_at}
use Rattle.holdings.proofs.CountLemmas.{IsRest, count-cons, count_range-all, count_range-split, range-append}

-- ---- tests along a row

first_fails : (p : ℕ → Bool) (a i : ℕ) → p a ≡ false → (i ≡ a) ⊎ (i ≡ a → ⊥) → ((i ≡ a → ⊥) → p i ≡ false) → p i ≡ false
first_fails p a i fails (inl e) later = ap p e ∙ fails
first_fails p a i fails (inr ne) later = later ne

pub any_range-false : (p : ℕ → Bool) (a n : ℕ) → list_any p (range_with_len a n) ≡ false → (i : ℕ) → a ≤ i → i < a + n → p i ≡ false
any_range-false p a zero none i low high = absurd (omega (arith, low, high))
any_range-false p a (suc n) none i low high =
    let parts = or_parts (p a) (list_any p (range_with_len (a + 1) n)) none in
    first_fails p a i parts.0 (cases_eq i a)
    (λ ne. any_range-false p (a + 1) n parts.1 i (omega (arith, low, ne)) (omega (arith, high)))

pub any_range-none : (p : ℕ → Bool) (a n : ℕ) → ((i : ℕ) → a ≤ i → i < a + n → p i ≡ false) → list_any p (range_with_len a n) ≡ false
any_range-none p a zero none = refl
any_range-none p a (suc n) none =
    ap (λ b. b || list_any p (range_with_len (a + 1) n)) (none a (omega arith) (omega arith))
    ∙ any_range-none p (a + 1) n (λ i low high. none i (omega (arith, low)) (omega (arith, high)))

any_range-same : (p r : ℕ → Bool) (a n : ℕ) → ((i : ℕ) → a ≤ i → i < a + n → p i ≡ r i)
    → list_any p (range_with_len a n) ≡ list_any r (range_with_len a n)
any_range-same p r a zero same = refl
any_range-same p r a (suc n) same =
    ap (λ b. b || list_any p (range_with_len (a + 1) n)) (same a (omega arith) (omega arith))
    ∙ ap (λ b. r a || b) (any_range-same p r (a + 1) n (λ i low high. same i (omega (arith, low)) (omega (arith, high))))

-- ---- counts and sums along a row

count_range-none : (p : ℕ → Bool) (a n : ℕ) → ((i : ℕ) → a ≤ i → i < a + n → p i ≡ false) → count_by p (range_with_len a n) ≡ 0
count_range-none p a zero none = refl
count_range-none p a (suc n) none =
    let rest = count_range-none p (a + 1) n (λ i low high. none i (omega arith) (omega arith)) in
    let one : cond {A = ℕ} (p a) 1 0 ≡ 0 = ap (λ b. cond {A = ℕ} b 1 0) (none a (omega arith) (omega arith)) in
    count-cons p a (range_with_len (a + 1) n) ∙ omega (arith, one, rest)

pub sum_range-none : (f : ℕ → ℕ) (a n : ℕ) → ((i : ℕ) → a ≤ i → i < a + n → f i ≡ 0) → sum_by f (range_with_len a n) ≡ 0
sum_range-none f a zero none = refl
sum_range-none f a (suc n) none =
    let rest = sum_range-none f (a + 1) n (λ i low high. none i (omega arith) (omega arith)) in
    sum_by-cons f a (range_with_len (a + 1) n) ∙ omega (arith, none a (omega arith) (omega arith), rest)

pub sum_range-same : (f g : ℕ → ℕ) (a n : ℕ) → ((i : ℕ) → a ≤ i → i < a + n → f i ≡ g i)
    → sum_by f (range_with_len a n) ≡ sum_by g (range_with_len a n)
sum_range-same f g a zero same = refl
sum_range-same f g a (suc n) same =
    let rest = sum_range-same f g (a + 1) n (λ i low high. same i (omega arith) (omega arith)) in
    sum_by-cons f a (range_with_len (a + 1) n)
    ∙ omega (arith, same a (omega arith) (omega arith), rest, sum_by-cons g a (range_with_len (a + 1) n))

sum_range-split : (f : ℕ → ℕ) (a m n : ℕ)
    → sum_by f (range_with_len a (m + n)) ≡ sum_by f (range_with_len a m) + sum_by f (range_with_len (a + m) n)
sum_range-split f a m n = ap (sum_by f) (range-append a m n) ∙ sum_by-append f (range_with_len a m) (range_with_len (a + m) n)

-- one more at the front
pub sum_range-front : (f : ℕ → ℕ) (m top : ℕ) → m < top
    → sum_by f (range_with_len m (top - m)) ≡ f m + sum_by f (range_with_len (m + 1) (top - (m + 1)))
sum_range-front f m top lt =
    let e : top - m ≡ suc (top - (m + 1)) = omega (arith, lt) in
    ap (λ n. sum_by f (range_with_len m n)) e ∙ sum_by-cons f m (range_with_len (m + 1) (top - (m + 1)))

-- all before have nothing
pub sum_range-from : (f : ℕ → ℕ) (m top : ℕ) → m ≤ top → ((i : ℕ) → i < m → f i ≡ 0)
    → sum_by f (range_with_len m (top - m)) ≡ sum_by f (range_with_len 0 top)
sum_range-from f m top le none =
    let e : top ≡ m + (top - m) = omega (arith, le) in
    let zero_first = sum_range-none f 0 m (λ i low high. none i (omega (arith, high))) in
    let split = sum_range-split f 0 m (top - m) in
    let at : 0 + m ≡ m = omega arith in
    let rest : sum_by f (range_with_len (0 + m) (top - m)) ≡ sum_by f (range_with_len m (top - m)) =
    ap (λ j. sum_by f (range_with_len j (top - m))) at in
    let whole : sum_by f (range_with_len 0 top) ≡ sum_by f (range_with_len 0 (m + (top - m))) =
    ap (λ n. sum_by f (range_with_len 0 n)) e in
    omega (arith, zero_first, split, rest, whole)

-- all behind have nothing
sum_range-less : (f : ℕ → ℕ) (m n : ℕ) → m ≤ n → ((i : ℕ) → m ≤ i → f i ≡ 0)
    → sum_by f (range_with_len 0 m) ≡ sum_by f (range_with_len 0 n)
sum_range-less f m n le none =
    let e : n ≡ m + (n - m) = omega (arith, le) in
    let zero_last = sum_range-none f (0 + m) (n - m) (λ i low high. none i (omega (arith, low))) in
    let split = sum_range-split f 0 m (n - m) in
    let whole : sum_by f (range_with_len 0 n) ≡ sum_by f (range_with_len 0 (m + (n - m))) =
    ap (λ k. sum_by f (range_with_len 0 k)) e in
    omega (arith, zero_last, split, whole)

pub sum_range-upto : (f : ℕ → ℕ) (m n : ℕ) → ((i : ℕ) → m ≤ i → f i ≡ 0) → ((i : ℕ) → n ≤ i → f i ≡ 0)
    → sum_by f (range_with_len 0 m) ≡ sum_by f (range_with_len 0 n)
sum_range-upto f m n here there = elim (cases_lt m n) [
  | inl lt ↦ sum_range-less f m n (omega (arith, lt)) here
  | inr le ↦ sym (sum_range-less f n m le there)
]

pub how_many-same : {A B : Type 0} (m : Offsets A) (o : Offsets B) (n : ℕ) → ((k : ℕ) → k < n → is_some (m k) ≡ is_some (o k))
    → how_many m n ≡ how_many o n
how_many-same m o zero same =
    how_many-none m 0 (λ k lt. absurd (omega (arith, lt))) ∙ sym (how_many-none o 0 (λ k lt. absurd (omega (arith, lt))))
how_many-same {A} {B} m o (suc n) same =
    let e : suc n ≡ n + 1 = omega arith in
    ap (how_many m) e
    ∙ by_some (m n) (o n) refl refl (same n (omega arith)) (how_many-same m o n (λ k lt. same k (omega (arith, lt))))
    ∙ ap (how_many o) (sym e)
  where
    by_some : (x : Option A) (y : Option B) → m n ≡ x → o n ≡ y → is_some (m n) ≡ is_some (o n) → how_many m n ≡ how_many o n
        → how_many m (n + 1) ≡ how_many o (n + 1)
    by_some None None e f s before = how_many-skip m n e ∙ before ∙ sym (how_many-skip o n f)
    by_some (Some x) (Some y) e f s before = how_many-some m n x e ∙ ap (λ k. k + 1) before ∙ sym (how_many-some o n y f)
    by_some None (Some y) e f s before = absurd (let g = sym (ap is_some e) ∙ s ∙ ap is_some f in cc)
    by_some (Some x) None e f s before = absurd (let g = sym (ap is_some e) ∙ s ∙ ap is_some f in cc)

-- ---- blocks that are split

splits_is : (m : Map Held) (set : Place → Bool) (a b : ℕ)
    → splits m set a b ≡ list_any (λ k. is_some (m (place_at a b k)) && not (set (place_at a b k))) (range_with_len 0 256)
unfolding splits
splits_is m set a b = refl

place_is : (a b : ℕ) (q : Place) → in_block a b q ≡ true → place_at a b (q.index % 256) ≡ q
place_is a b q here =
    let parts = and_parts (nat_eq q.array a) (nat_eq (q.index / 256) b) here in
    let array : a ≡ q.array = sym (eqb-true q.array a parts.0) in
    let index : 256 * b + q.index % 256 ≡ q.index = omega (arith, eqb-true (q.index / 256) b parts.1) in
    let at : ℕ → ℕ → Place = λ x i. record { array = x; index = i } in
    ap (λ x. at x (256 * b + q.index % 256)) array ∙ ap (at q.array) index

pub place_block : (a b k : ℕ) → k < 256 → in_block a b (place_at a b k) ≡ true
place_block a b k lt =
    let block : (256 * b + k) / 256 ≡ b = omega (arith, lt) in
    and_from (nat_eq a a) (nat_eq ((256 * b + k) / 256) b) (eq-eqb a a refl) (eq-eqb ((256 * b + k) / 256) b block)

outside_none : (x y : Bool) → (x && not y) ≡ false → x ≡ true → y ≡ true
outside_none true true e here = refl
outside_none true false e here = absurd (let f = sym e in cc)
outside_none false y e here = absurd (let f = sym here in cc)

pub splits-false : (m : Map Held) (set : Place → Bool) (a b : ℕ) → splits m set a b ≡ false → (q : Place) → in_block a b q ≡ true
    → (m q ≡ None → ⊥) → set q ≡ true
splits-false m set a b none q here held =
    let k = q.index % 256 in
    let small : k < 0 + 256 = omega arith in
    let test = any_range-false (λ k. is_some (m (place_at a b k)) && not (set (place_at a b k))) 0 256
    (sym (splits_is m set a b) ∙ none) k (omega arith) small in
    let is = place_is a b q here in
    outside_none (is_some (m q)) (set q) (ap (λ p. is_some (m p) && not (set p)) (sym is) ∙ test) (some_from_there (m q) held)

none_outside : (m : Map Held) (set : Place → Bool) (q : Place) (o : Option Held) → m q ≡ o → ((m q ≡ None → ⊥) → set q ≡ true)
    → (is_some (m q) && not (set q)) ≡ false
none_outside m set q None e inside = ap (λ (x : Option Held). is_some x && not (set q)) e
none_outside m set q (Some h) e inside =
    ap (λ b. is_some (m q) && not b) (inside (λ n. absurd (let f = sym e ∙ n in cc))) ∙ and-false (is_some (m q))

pub splits-none : (m : Map Held) (set : Place → Bool) (a b : ℕ)
    → ((q : Place) → in_block a b q ≡ true → (m q ≡ None → ⊥) → set q ≡ true) → splits m set a b ≡ false
splits-none m set a b whole =
    splits_is m set a b ∙ any_range-none (λ k. is_some (m (place_at a b k)) && not (set (place_at a b k))) 0 256
    (λ k low high. none_outside m set (place_at a b k) (m (place_at a b k)) refl (whole (place_at a b k) (place_block a b k (omega (arith, high)))))

-- ---- what is left of a window

-- the number of places of what is left of a window that are copied
abbrev pub copied_rest : Map Held → (w v : Window) → ℕ
copied_rest m w v = count_by (λ i. splits m (is_in w) w.array (i / 256)) (range_with_len v.at v.length)

copied_rest-cut : (m : Map Held) (w v : Window) → copied_rest m w v ≡ copied_rest m w (piece v) + copied_rest m w (behind_piece v)
copied_rest-cut m w v =
    let e : v.length ≡ piece_length v + (v.length - piece_length v) = omega arith in
    let p : ℕ → Bool = λ i. splits m (is_in w) w.array (i / 256) in
    ap (λ n. count_by p (range_with_len v.at n)) e ∙ count_range-split p v.at (piece_length v) (v.length - piece_length v)

same_block : (v : Window) (i : ℕ) → v.at ≤ i → i < v.at + piece_length v → i / 256 ≡ v.at / 256
same_block v i low high = omega arith

-- the places of the window in the block of the piece are those of the piece
rest_piece : (w v : Window) → IsRest w v → 0 < v.length → (q : Place) → in_block w.array (v.at / 256) q ≡ true → is_in w q ≡ true
    → is_in (piece v) q ≡ true
rest_piece w v r some q block here =
    let parts = and_parts (nat_eq q.array w.array) (nat_eq (q.index / 256) (v.at / 256)) block in
    let number = eqb-true (q.index / 256) (v.at / 256) parts.1 in
    let in_w = in_window w q here in
    let at = r.at some in
    is_in-from (piece v) q (record {
      array = eqb-true q.array w.array parts.0 ∙ sym r.array;
      low = omega (arith, in_w.low, number, at);
      high = omega (arith, in_w.high, number, r.end);
    })

piece_inside : (w v : Window) → IsRest w v → (q : Place) → is_in (piece v) q ≡ true → is_in w q ≡ true
piece_inside w v r q here =
    let p = in_window (piece v) q here in
    is_in-from w q (record {
      array = p.array ∙ r.array;
      low = omega (arith, p.low, r.low);
      high = omega (arith, p.high, r.end);
    })

-- a piece is copied exactly if it isn't all that its block holds
copied-piece : (m : Map Held) (w v : Window) (n : ℕ) → IsRest w v → 0 < v.length → (IsWhole m (piece v) → n ≡ 0)
    → ((IsWhole m (piece v) → ⊥) → n ≡ (piece v).length) → n ≡ copied_rest m w (piece v)
copied-piece m w v n r some moved counted = by_split (splits m (is_in w) w.array (v.at / 256)) refl
  where
    p : ℕ → Bool
    p i = splits m (is_in w) w.array (i / 256)

    in_w : (q : Place) → in_block v.array (v.at / 256) q ≡ true → in_block w.array (v.at / 256) q ≡ true
    in_w q here = ap (λ a. in_block a (v.at / 256) q) (sym r.array) ∙ here

    in_v : (q : Place) → in_block w.array (v.at / 256) q ≡ true → in_block v.array (v.at / 256) q ≡ true
    in_v q here = ap (λ a. in_block a (v.at / 256) q) r.array ∙ here

    by_split : (b : Bool) → splits m (is_in w) w.array (v.at / 256) ≡ b → n ≡ copied_rest m w (piece v)
    by_split false e =
        let none = count_range-none p v.at (piece_length v) (λ i low high. ap (splits m (is_in w) w.array) (same_block v i low high) ∙ e) in
        moved (λ q here held. rest_piece w v r some q (in_w q here) (splits-false m (is_in w) w.array (v.at / 256) e q (in_w q here) held))
        ∙ sym none
    by_split true e =
        let all = count_range-all p v.at (piece_length v) (λ i low high. ap (splits m (is_in w) w.array) (same_block v i low high) ∙ e) in
        counted (λ whole. absurd (let f = sym e ∙ splits-none m (is_in w) w.array (v.at / 256)
        (λ q here held. piece_inside w v r q (whole q (in_v q here) held)) in cc))
        ∙ sym all

-- what was counted so far of a window, and one piece more
pub counts-more : (m : Map Held) (w v : Window) (n k total n' : ℕ) → IsRest w v → 0 < v.length
    → min (n + copied_rest m w v) (2 ^ 64 - 1) ≡ min total (2 ^ 64 - 1) → (IsWhole m (piece v) → k ≡ 0)
    → ((IsWhole m (piece v) → ⊥) → k ≡ (piece v).length) → n' ≡ min (n + k) (2 ^ 64 - 1)
    → min (n' + copied_rest m w (behind_piece v)) (2 ^ 64 - 1) ≡ min total (2 ^ 64 - 1)
counts-more m w v n k total n' r some so_far moved counted is =
    let here = copied-piece m w v k r some moved counted in
    omega (arith, so_far, here, is, copied_rest-cut m w v)

-- ---- blocks that come in

pub copied_into-same : (m o : Map Held) (new coming : Map ℤ) (a b : ℕ) → ((q : Place) → in_block a b q ≡ true → m q ≡ o q)
    → ((q : Place) → in_block a b q ≡ true → new q ≡ coming q) → copied_into m new a b ≡ copied_into o coming a b
copied_into-same m o new coming a b same come =
    ap (λ c. if c then how_many (λ k. new (place_at a b k)) 256 else 0)
    (splits_is m (λ q. is_some (new q)) a b ∙ any_range-same (λ k. is_some (m (place_at a b k)) && not (is_some (new (place_at a b k))))
    (λ k. is_some (o (place_at a b k)) && not (is_some (coming (place_at a b k)))) 0 256
    (λ k low high.
    let at = place_block a b k (omega (arith, high)) in
    ap (λ (h : Option Held). is_some h && not (is_some (new (place_at a b k)))) (same (place_at a b k) at)
    ∙ ap (λ (x : Option ℤ). is_some (o (place_at a b k)) && not (is_some x)) (come (place_at a b k) at))
    ∙ sym (splits_is o (λ q. is_some (coming q)) a b))
    ∙ ap (λ n. if splits o (λ q. is_some (coming q)) a b then n else 0)
    (how_many-same (λ k. new (place_at a b k)) (λ k. coming (place_at a b k)) 256
    (λ k lt. ap is_some (come (place_at a b k) (place_block a b k lt))))

-- nothing is copied if nothing comes in
pub copied_into-none : (m : Map Held) (new : Map ℤ) (a b : ℕ) → ((k : ℕ) → k < 256 → new (place_at a b k) ≡ None) → copied_into m new a b ≡ 0
copied_into-none m new a b none =
    ap (λ n. if splits m (λ q. is_some (new q)) a b then n else 0) (how_many-none (λ k. new (place_at a b k)) 256 none)
    ∙ either (splits m (λ q. is_some (new q)) a b) 0
  where
    either : (c : Bool) (n : ℕ) → (if c then n else n) ≡ n
    either true n = refl
    either false n = refl

-- what comes into a block is copied exactly if the block holds something at another place
pub copied-block : (m : Map Held) (new : Map ℤ) (a b : ℕ) (own : Offsets ℤ) (k : ℕ)
    → ((j : ℕ) → j < 256 → new (place_at a b j) ≡ own j)
    → (((q : Place) → in_block a b q ≡ true → (m q ≡ None → ⊥) → is_some (new q) ≡ true) → k ≡ 0)
    → ((((q : Place) → in_block a b q ≡ true → (m q ≡ None → ⊥) → is_some (new q) ≡ true) → ⊥) → k ≡ how_many own 256)
    → k ≡ copied_into m new a b
copied-block m new a b own k same moved counted = by_split (splits m (λ q. is_some (new q)) a b) refl
  where
    all : how_many own 256 ≡ how_many (λ j. new (place_at a b j)) 256
    all = how_many-same own (λ j. new (place_at a b j)) 256 (λ j lt. ap is_some (sym (same j lt)))

    by_split : (c : Bool) → splits m (λ q. is_some (new q)) a b ≡ c → k ≡ (if c then how_many (λ j. new (place_at a b j)) 256 else 0)
    by_split false e = moved (splits-false m (λ q. is_some (new q)) a b e)
    by_split true e =
        counted (λ whole. absurd (let f = sym e ∙ splits-none m (λ q. is_some (new q)) a b whole in cc)) ∙ all

-- ---- all blocks of an array

into_array-is : (m : Map Held) (new : Map ℤ) (a : ℕ) → copied_into_array m new a ≡ sum_by (copied_into m new a) (range_with_len 0 16384)
unfolding copied_into_array
into_array-is m new a = refl

pub into_array-same : (m o : Map Held) (new coming : Map ℤ) (a : ℕ) → ((q : Place) → q.array ≡ a → m q ≡ o q)
    → ((q : Place) → q.array ≡ a → new q ≡ coming q) → copied_into_array m new a ≡ copied_into_array o coming a
into_array-same m o new coming a same come =
    into_array-is m new a
    ∙ sum_range-same (copied_into m new a) (copied_into o coming a) 0 16384
    (λ b low high. copied_into-same m o new coming a b (λ q e. same q (array b q e)) (λ q e. come q (array b q e)))
    ∙ sym (into_array-is o coming a)
  where
    array : (b : ℕ) (q : Place) → in_block a b q ≡ true → q.array ≡ a
    array b q e = eqb-true q.array a (and_parts (nat_eq q.array a) (nat_eq (q.index / 256) b) e).0

pub into_array-none : (m : Map Held) (new : Map ℤ) (a : ℕ) → ((b k : ℕ) → new (place_at a b k) ≡ None) → copied_into_array m new a ≡ 0
into_array-none m new a none =
    into_array-is m new a
    ∙ sum_range-none (copied_into m new a) 0 16384 (λ b low high. copied_into-none m new a b (λ k lt. none b k))

-- nothing is copied into the blocks before the n-th
pub into_array-from : (m : Map Held) (new : Map ℤ) (a n : ℕ) → n ≤ 16384 → ((b : ℕ) → b < n → copied_into m new a b ≡ 0)
    → sum_by (copied_into m new a) (range_with_len n (16384 - n)) ≡ copied_into_array m new a
into_array-from m new a n le none = sum_range-from (copied_into m new a) n 16384 le none ∙ sym (into_array-is m new a)
