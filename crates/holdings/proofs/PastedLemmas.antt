-- The number of places that a paste copies, block by block.
use Rattle.std.proofs.Common.{◌≡◌, ℕ, zero, suc, ◌+◌, ◌*◌, ◌/◌, ◌%◌, ◌<◌, ◌≤◌, List, [], ◌∷◌, Option, Some, None}
use Rattle.std.proofs.Common.{Bool, inl, inr, true, false, refl, sym, ap, ◌∙◌, arith, cond}
use Rattle.std.proofs.lemmas.Bool.{and_parts, and_from, cases_eq, eq-eqb, eqb-true, false≢true, leb-true, lt-ltb, ltb-true, or_cases, or_left, or_parts, or_right}
use Rattle.std.proofs.lemmas.List.Sums.{sum_by-cons}
use Rattle.std.specs.List.{count_by, list_any, range_with_len, sum_by}
use Rattle.std.specs.Prelude.{ℤ, ◌&&◌, ◌⊎◌, min, not, nat_eq, nat_le, nat_lt}
use Rattle.std.proofs.lemmas.Bool.{le-ltb}
use Rattle.sections.specs.Covers.{has, is_in}
use Rattle.sections.specs.Place.{In, Place, Window, same_place}
use Rattle.sections.proofs.Covering.{in_window, is_in-from}
use Rattle.blocks.specs.Counts.{how_many}
use Rattle.blocks.specs.Offsets.{Offsets}
use Rattle.blocks.proofs.WalkLemmas.{how_many-none, how_many-skip, how_many-some}
use Rattle.holdings.specs.Copied.{has_block, split_in, split_places, split_where}
use Rattle.holdings.specs.Rows.{in_block}
use Rattle.holdings.proofs.CountLemmas.{count-cons}

-- a test as a number
abbrev one : Bool → ℕ
one b = cond b 1 0

-- ---- counts of one row against another

count-both : (f g h : ℕ → Bool) (xs : List ℕ) → ((x : ℕ) → one (f x) + one (g x) ≤ one (h x))
    → count_by f xs + count_by g xs ≤ count_by h xs
count-both f g h [] le = omega arith
count-both f g h (x ∷ xs) le =
    omega (arith, count-cons f x xs, count-cons g x xs, count-cons h x xs, le x, count-both f g h xs le)

count-less : (f h : ℕ → Bool) (xs : List ℕ) → ((x : ℕ) → one (f x) ≤ one (h x)) → count_by f xs ≤ count_by h xs
count-less f h [] le = omega arith
count-less f h (x ∷ xs) le = omega (arith, count-cons f x xs, count-cons h x xs, le x, count-less f h xs le)

first_counted : (f : ℕ → Bool) (a n i : ℕ) → f i ≡ true → (i ≡ a) ⊎ (i ≡ a → ⊥)
    → ((i ≡ a → ⊥) → 1 ≤ count_by f (range_with_len (a + 1) n)) → 1 ≤ count_by f (a ∷ range_with_len (a + 1) n)
first_counted f a n i is (inl e) later =
    let here : one (f a) ≡ 1 = ap one (ap f (sym e) ∙ is) in
    omega (arith, count-cons f a (range_with_len (a + 1) n), here)
first_counted f a n i is (inr ne) later = omega (arith, count-cons f a (range_with_len (a + 1) n), later ne)

counted : (f : ℕ → Bool) (a n i : ℕ) → a ≤ i → i < a + n → f i ≡ true → 1 ≤ count_by f (range_with_len a n)
counted f a zero i low high is = absurd (omega (arith, low, high))
counted f a (suc n) i low high is =
    first_counted f a n i is (cases_eq i a) (λ ne. counted f (a + 1) n i (omega (arith, low, ne)) (omega (arith, high)) is)

-- ---- and of several windows

sum-both : (f g h : Window → ℕ) (ws : List Window) → ((w : Window) → f w + g w ≤ h w)
    → sum_by f ws + sum_by g ws ≤ sum_by h ws
sum-both f g h [] le = omega arith
sum-both f g h (w ∷ ws) le =
    omega (arith, sum_by-cons f w ws, sum_by-cons g w ws, sum_by-cons h w ws, le w, sum-both f g h ws le)

sum-less : (f h : Window → ℕ) (ws : List Window) → ((w : Window) → f w ≤ h w) → sum_by f ws ≤ sum_by h ws
sum-less f h [] le = omega arith
sum-less f h (w ∷ ws) le = omega (arith, sum_by-cons f w ws, sum_by-cons h w ws, le w, sum-less f h ws le)

-- the number of places of windows that pass a test
abbrev pub passing_in : (test : Place → Bool) → Window → ℕ
passing_in test w = count_by (λ i. test (record { array = w.array; index = i })) (range_with_len w.at w.length)

abbrev pub passing : (test : Place → Bool) → List Window → ℕ
passing test ws = sum_by (passing_in test) ws

pub passing-both : (f g h : Place → Bool) (ws : List Window) → ((q : Place) → one (f q) + one (g q) ≤ one (h q))
    → passing f ws + passing g ws ≤ passing h ws
passing-both f g h ws le =
    sum-both (passing_in f) (passing_in g) (passing_in h) ws
    (λ w. count-both _ _ _ (range_with_len w.at w.length) (λ i. le (record { array = w.array; index = i })))

pub passing-less : (f h : Place → Bool) (ws : List Window) → ((q : Place) → one (f q) ≤ one (h q)) → passing f ws ≤ passing h ws
passing-less f h ws le =
    sum-less (passing_in f) (passing_in h) ws
    (λ w. count-less _ _ (range_with_len w.at w.length) (λ i. le (record { array = w.array; index = i })))

-- a place of the windows that passes is counted
first_passed : (test : Place → Bool) (q : Place) (w : Window) (ws : List Window) → test q ≡ true
    → (is_in w q ≡ true) ⊎ (has ws q ≡ true) → (has ws q ≡ true → 1 ≤ passing test ws) → 1 ≤ passing test (w ∷ ws)
first_passed test q w ws passes (inl here) later =
    let at = in_window w q here in
    let e : test (record { array = w.array; index = q.index }) ≡ true =
    ap (λ a. test (record { array = a; index = q.index })) (sym at.array) ∙ passes in
    let n = counted (λ i. test (record { array = w.array; index = i })) w.at w.length q.index at.low at.high e in
    omega (arith, sum_by-cons (passing_in test) w ws, n)
first_passed test q w ws passes (inr there) later = omega (arith, sum_by-cons (passing_in test) w ws, later there)

passed : (test : Place → Bool) (q : Place) (ws : List Window) → has ws q ≡ true → test q ≡ true → 1 ≤ passing test ws
passed test q [] is passes = absurd (false≢true is)
passed test q (w ∷ ws) is passes =
    first_passed test q w ws passes (or_cases (is_in w q) (has ws q) is) (λ there. passed test q ws there passes)

-- ---- the places of one block

-- those before an offset
abbrev before : (a b n : ℕ) → Place → Bool
before a b n q = in_block a b q && nat_lt (q.index % 256) n

one_more : (a b n : ℕ) → n < 256 → (q : Place)
    → one (before a b n q) + one (same_place (record { array = a; index = 256 * b + n }) q) ≤ one (before a b (n + 1) q)
one_more a b n small q = by_same (same_place (record { array = a; index = 256 * b + n }) q) refl
  where
    less : (s t : Bool) → (s ≡ true → t ≡ true) → one s + 0 ≤ one t
    less true t h = omega (arith, ap one (h refl))
    less false t h = omega arith

    is_more : before a b n q ≡ true → before a b (n + 1) q ≡ true
    is_more e =
        let parts = and_parts (in_block a b q) (nat_lt (q.index % 256) n) e in
        and_from _ _ parts.0 (lt-ltb _ _ (omega (arith, ltb-true (q.index % 256) n parts.1)))

    by_same : (s : Bool) → same_place (record { array = a; index = 256 * b + n }) q ≡ s → one (before a b n q) + one s ≤ one (before a b (n + 1) q)
    by_same false e = less (before a b n q) (before a b (n + 1) q) is_more
    by_same true e =
        let parts = and_parts (nat_eq a q.array) (nat_eq (256 * b + n) q.index) e in
        let array = eqb-true a q.array parts.0 in
        let index = eqb-true (256 * b + n) q.index parts.1 in
        let block : q.index / 256 ≡ b = omega (arith, index, small) in
        let offset : q.index % 256 ≡ n = omega (arith, index, small) in
        let at : in_block a b q ≡ true = and_from _ _ (eq-eqb q.array a (sym array)) (eq-eqb (q.index / 256) b block) in
        let yes : before a b (n + 1) q ≡ true = and_from _ _ at (lt-ltb _ _ (omega (arith, offset))) in
        let no : nat_lt (q.index % 256) n ≡ false = le-ltb (q.index % 256) n (omega (arith, offset)) in
        let none : before a b n q ≡ false = ap (λ c. c && nat_lt (q.index % 256) n) at ∙ no in
        omega (arith, ap one yes, ap one none)

-- the count is the number of offsets at which the block has something
pub block-counted : {A : Type 0} (a b : ℕ) (m : Offsets A) (ws : List Window) (n : ℕ) → n ≤ 256
    → ((k : ℕ) → k < 256 → (m k ≡ None → ⊥) → has ws (record { array = a; index = 256 * b + k }) ≡ true)
    → how_many m n ≤ passing (before a b n) ws
block-counted a b m ws zero small there = omega (arith, how_many-none m 0 (λ k lt. absurd (omega (arith, lt))))
block-counted a b m ws (suc n) small there =
    next (m n) refl (block-counted a b m ws n (omega (arith, small)) there)
  where
    p : Place
    p = record { array = a; index = 256 * b + n }

    suc_n : suc n ≡ n + 1
    suc_n = omega arith

    next : (o : Option _) → m n ≡ o → how_many m n ≤ passing (before a b n) ws → how_many m (suc n) ≤ passing (before a b (suc n)) ws
    next None e le =
        let same : how_many m (suc n) ≡ how_many m n = ap (how_many m) suc_n ∙ how_many-skip m n e in
        let more : passing (before a b n) ws ≤ passing (before a b (n + 1)) ws =
        passing-less (before a b n) (before a b (n + 1)) ws (λ q. omega (arith, one_more a b n (omega (arith, small)) q)) in
        let at : passing (before a b (n + 1)) ws ≡ passing (before a b (suc n)) ws = ap (λ j. passing (before a b j) ws) (sym suc_n) in
        omega (arith, same, le, more, at)
    next (Some x) e le =
        let grown : how_many m (suc n) ≡ how_many m n + 1 = ap (how_many m) suc_n ∙ how_many-some m n x e in
        let both = passing-both (before a b n) (same_place p) (before a b (n + 1)) ws (one_more a b n (omega (arith, small))) in
        let here = passed (same_place p) p ws (there n (omega (arith, small)) (λ none. absurd (let f = sym e ∙ none in cc)))
        (and_from _ _ (eq-eqb a a refl) (eq-eqb (256 * b + n) (256 * b + n) refl)) in
        let at : passing (before a b (n + 1)) ws ≡ passing (before a b (suc n)) ws = ap (λ j. passing (before a b j) ws) (sym suc_n) in
        omega (arith, grown, le, both, here, at)

-- ---- windows that have all of a block

-- whether one of some windows has all of a block
abbrev pub any_has : (length a : ℕ) → List Window → (b : ℕ) → Bool
any_has n a ws b = list_any (λ w. nat_eq w.array a && has_block n w b) ws

-- what is in such a block is in the windows
pub any-has : (n a : ℕ) (ws : List Window) (b : ℕ) → any_has n a ws b ≡ true → (q : Place) → in_block a b q ≡ true → q.index < n
    → has ws q ≡ true
any-has n a [] b is q at lt = absurd (false≢true is)
any-has n a (w ∷ ws) b is q at lt =
    pick (or_cases (nat_eq w.array a && has_block n w b) (any_has n a ws b) is) (λ there. any-has n a ws b there q at lt)
  where
    pick : ((nat_eq w.array a && has_block n w b) ≡ true) ⊎ (any_has n a ws b ≡ true) → (any_has n a ws b ≡ true → has ws q ≡ true)
        → has (w ∷ ws) q ≡ true
    pick (inr there) later = or_right (is_in w q) (has ws q) (later there)
    pick (inl here) later =
        let parts = and_parts (nat_eq w.array a) (has_block n w b) here in
        let ends = and_parts (nat_le w.at (256 * b)) (nat_le (min n (256 * b + 256)) (w.at + w.length)) parts.1 in
        let low = leb-true w.at (256 * b) ends.0 in
        let high = leb-true (min n (256 * b + 256)) (w.at + w.length) ends.1 in
        let place = and_parts (nat_eq q.array a) (nat_eq (q.index / 256) b) at in
        let array : q.array ≡ w.array = eqb-true q.array a place.0 ∙ sym (eqb-true w.array a parts.0) in
        let block = eqb-true (q.index / 256) b place.1 in
        let inside : In w q = record { array = array; low = omega (arith, low, block); high = omega (arith, high, block, lt) } in
        or_left (is_in w q) (has ws q) (is_in-from w q inside)

-- if no window has all of a block, each of its places that the windows have is counted
pub none-has : (lengths : ℕ → ℕ) (a : ℕ) (ws : List Window) (b : ℕ) → any_has (lengths a) a ws b ≡ false
    → passing (in_block a b) ws ≤ split_where (in_block a b) lengths ws
none-has lengths a [] b none = omega arith
none-has lengths a (w ∷ ws) b none =
    let parts = or_parts (nat_eq w.array a && has_block (lengths a) w b) (any_has (lengths a) a ws b) none in
    let rest = none-has lengths a ws b parts.1 in
    let here : passing_in (in_block a b) w ≤ count_by (λ i. in_block a b (record { array = w.array; index = i })
    && not (has_block (lengths w.array) w (i / 256))) (range_with_len w.at w.length) =
    count-less _ _ (range_with_len w.at w.length) (λ i. at parts.0 i (in_block a b (record { array = w.array; index = i })) refl) in
    omega (
      arith,
      sum_by-cons (passing_in (in_block a b)) w ws,
      sum_by-cons (λ w. count_by (λ i. in_block a b (record { array = w.array; index = i })
          && not (has_block (lengths w.array) w (i / 256))) (range_with_len w.at w.length)) w ws,
      here,
      rest,
    )
  where
    at : (nat_eq w.array a && has_block (lengths a) w b) ≡ false → (i : ℕ) (c : Bool) → in_block a b (record { array = w.array; index = i }) ≡ c
        → one c ≤ one (c && not (has_block (lengths w.array) w (i / 256)))
    at free i false e = omega arith
    at free i true e =
        let place = and_parts (nat_eq w.array a) (nat_eq (i / 256) b) e in
        let array = eqb-true w.array a place.0 in
        let block = eqb-true (i / 256) b place.1 in
        let none : has_block (lengths a) w b ≡ false = ap (λ c. c && has_block (lengths a) w b) (sym place.0) ∙ free in
        let same : has_block (lengths w.array) w (i / 256) ≡ false =
        ap (λ n. has_block (lengths n) w (i / 256)) array ∙ ap (has_block (lengths a) w) block ∙ none in
        omega (arith, ap (λ c. one (not c)) same)

-- ---- counts of places that pass, in blocks that aren't wholly inside the windows

abbrev split_one : (Place → Bool) → (ℕ → ℕ) → Window → ℕ
split_one test lengths w = count_by (λ i. test (record { array = w.array; index = i })
    && not (has_block (lengths w.array) w (i / 256))) (range_with_len w.at w.length)

and_both : (f g h c : Bool) → one f + one g ≤ one h → one (f && c) + one (g && c) ≤ one (h && c)
and_both true true true true le = le
and_both true true false true le = le
and_both true false true true le = le
and_both true false false true le = le
and_both false true true true le = le
and_both false true false true le = le
and_both false false true true le = le
and_both false false false true le = le
and_both true true true false le = omega arith
and_both true true false false le = omega arith
and_both true false true false le = omega arith
and_both true false false false le = omega arith
and_both false true true false le = omega arith
and_both false true false false le = omega arith
and_both false false true false le = omega arith
and_both false false false false le = omega arith

pub split-both : (f g h : Place → Bool) (lengths : ℕ → ℕ) (ws : List Window) → ((q : Place) → one (f q) + one (g q) ≤ one (h q))
    → split_where f lengths ws + split_where g lengths ws ≤ split_where h lengths ws
split-both f g h lengths ws le =
    sum-both (split_one f lengths) (split_one g lengths) (split_one h lengths) ws
    (λ w. count-both _ _ _ (range_with_len w.at w.length)
    (λ i. and_both (f (record { array = w.array; index = i })) (g (record { array = w.array; index = i }))
    (h (record { array = w.array; index = i })) (not (has_block (lengths w.array) w (i / 256))) (le (record { array = w.array; index = i }))))

one_and : (f c : Bool) → one (f && c) ≤ one c
one_and true c = omega arith
one_and false c = omega arith

pub split-all : (f : Place → Bool) (lengths : ℕ → ℕ) (ws : List Window) → split_where f lengths ws ≤ split_in lengths ws
split-all f lengths ws =
    sum-less (split_one f lengths) (split_places lengths) ws
    (λ w. count-less _ _ (range_with_len w.at w.length)
    (λ i. one_and (f (record { array = w.array; index = i })) (not (has_block (lengths w.array) w (i / 256)))))

one_left : (f c : Bool) → one (f && c) ≤ one f
one_left true true = omega arith
one_left true false = omega arith
one_left false c = omega arith

-- a block that comes in costs nothing if it is wholly inside the windows, else the number of places
-- that it owns
pub block-costs : (lengths : ℕ → ℕ) (a b : ℕ) (m : Offsets ℤ) (ws : List Window) (n : ℕ) → n ≤ how_many m 256
    → ((k : ℕ) → k < 256 → (m k ≡ None → ⊥) → has ws (record { array = a; index = 256 * b + k }) ≡ true)
    → (any_has (lengths a) a ws b ≡ true → n ≡ 0) → n ≤ split_where (in_block a b) lengths ws
block-costs lengths a b m ws n most there free = by_any (any_has (lengths a) a ws b) refl
  where
    by_any : (t : Bool) → any_has (lengths a) a ws b ≡ t → n ≤ split_where (in_block a b) lengths ws
    by_any true e = omega (arith, free e)
    by_any false e =
        let counts = block-counted a b m ws 256 (omega arith) there in
        let less = passing-less (before a b 256) (in_block a b) ws (λ q. one_left (in_block a b q) (nat_lt (q.index % 256) 256)) in
        omega (arith, most, counts, less, none-has lengths a ws b e)

pub split-less : (f h : Place → Bool) (lengths : ℕ → ℕ) (ws : List Window) → ((q : Place) → f q ≡ true → h q ≡ true)
    → split_where f lengths ws ≤ split_where h lengths ws
split-less f h lengths ws le =
    sum-less (split_one f lengths) (split_one h lengths) ws
    (λ w. count-less _ _ (range_with_len w.at w.length)
    (λ i. less (f (record { array = w.array; index = i })) (h (record { array = w.array; index = i }))
    (not (has_block (lengths w.array) w (i / 256))) (le (record { array = w.array; index = i }))))
  where
    less : (a b c : Bool) → (a ≡ true → b ≡ true) → one (a && c) ≤ one (b && c)
    less false b c le = omega arith
    less true b c le = omega (arith, ap (λ x. one (x && c)) (le refl))
