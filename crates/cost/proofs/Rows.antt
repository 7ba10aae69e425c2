-- Each step has its row, so the rows add up to the numbers of a tally.
use Rattle.std.proofs.Common.{◌≡◌, ℕ, zero, suc, ◌+◌, ◌<◌, ◌≤◌, List, [], ◌∷◌, length, Bool, true, false, refl, sym, ap, ◌∙◌, subst, arith}
use Rattle.std.proofs.lemmas.Bool.{ltb-true, ltb-false}
use Rattle.std.proofs.lemmas.List.{length-replicate, length-set, set_past}
use Rattle.std.proofs.lemmas.List.Sums.{sum_by-cons, sum_by-set}
use Rattle.std.specs.List.{sum}
use Rattle.std.specs.Prelude.{ℤ, max, nat_lt, replicate, slice_index, if◌then◌else◌}
use Rattle.types.specs.Code.{Codes, Program}
use Rattle.types.specs.Contents.{held_by}
use Rattle.types.specs.Laws.{IsKept}
use Rattle.types.specs.Meaning.{child}
use Rattle.types.specs.Outcome.{Budget, start}
use Rattle.types.specs.Run.{State, Block, run}
use Rattle.types.proofs.Keeps.{run_keeps}
use Rattle.cost.specs.Copied.{copied_at}
use Rattle.cost.specs.Books.{begin_booked, beginning_booked}
use Rattle.cost.specs.Accounts.{Account, account_of, accounted_rules, begins_at, ends_behind, accounting}
use Rattle.cost.specs.Accounts.{enters_at, leaves_behind, longer, noted, nothing_noted, row_of, span_by_label, steps_at}
use Rattle.cost.specs.Costs.{cost_of}
use Rattle.cost.specs.Laws.{AddsUp}

-- ---- one row

-- if there are rows, the row of a label is one of them
row_within : (l n : ℕ) → 0 < n → row_of l n < n
row_within l n some = by_test (nat_lt l n) refl
  where
    by_test : (b : Bool) → nat_lt l n ≡ b → (if b then l else 0) < n
    by_test true e = ltb-true l n e
    by_test false e = some

-- if there are none, nothing is recorded
pub noted_none : (l : ℕ) (ns : List ℕ) → length ns ≤ row_of l (length ns) → noted l ns ≡ ns
noted_none l ns le = let k = row_of l (length ns) in set_past ns k (slice_index ns k + 1) le

length-noted : (l : ℕ) (ns : List ℕ) → length (noted l ns) ≡ length ns
length-noted l ns = length-set ns (row_of l (length ns)) (slice_index ns (row_of l (length ns)) + 1)

-- one more step raises the sum by one
sum-noted : (l : ℕ) (ns : List ℕ) → 0 < length ns → sum (noted l ns) ≡ sum ns + 1
sum-noted l ns some =
    let k = row_of l (length ns) in
    let more : sum (noted l ns) + slice_index ns k ≡ sum ns + (slice_index ns k + 1)
    = sum_by-set (λ (n : ℕ). n) ns k (slice_index ns k + 1) 0 (row_within l (length ns) some) in
    omega (arith, more)

sum-zeros : (n : ℕ) → sum (replicate n 0) ≡ 0
sum-zeros zero = refl
sum-zeros (suc n) =
    let more : sum (0 ∷ replicate n 0) ≡ 0 + sum (replicate n 0) = sum_by-cons (λ (n : ℕ). n) 0 (replicate n 0) in
    let rest = sum-zeros n in
    more ∙ omega (arith, rest)

some_row : (ns : List ℕ) → 0 < sum ns → 0 < length ns
some_row [] lt = absurd (let none : 0 < 0 = lt in omega (arith, none))
some_row (n ∷ ns) lt = let some : 0 < suc (length ns) = omega arith in some

-- the longer of two chains has the larger of two lengths
sum-longer : (m n : ℕ) (xs ys : List ℕ) → sum xs ≡ m → sum ys ≡ n → sum (longer m n xs ys) ≡ max m n
sum-longer m n xs ys e f = by_test (nat_lt m n) refl
  where
    by_test : (b : Bool) → nat_lt m n ≡ b → sum (if b then ys else xs) ≡ max m n
    by_test true t = let lt = ltb-true m n t in f ∙ omega (arith, lt)
    by_test false t = let le = ltb-false m n t in e ∙ omega (arith, le)

-- ---- an account

-- it has rows, and they add up
record HasRows (a : Account) : Type 0 where
  work : 0 < length a.work
  here : 0 < length a.here
  adds : AddsUp a

some_noted : (l : ℕ) (ns : List ℕ) → 0 < length ns → 0 < length (noted l ns)
some_noted l ns some = let same = length-noted l ns in omega (arith, same, some)

noted_adds : (l n : ℕ) (ns : List ℕ) → 0 < length ns → sum ns ≡ n → sum (noted l ns) ≡ n + 1
noted_adds l n ns some e = sum-noted l ns some ∙ ap (λ n. n + 1) e

has_stepped : (l : ℕ) (a : Account) → HasRows a → HasRows (steps_at l a)
has_stepped l a h = record {
  work = some_noted l a.work h.work;
  here = some_noted l a.here h.here;
  adds = record {
    work = noted_adds l a.tally.work a.work h.work h.adds.work;
    here = noted_adds l a.tally.here a.here h.here h.adds.here;
    ended = h.adds.ended;
  };
}

has_begun : (l depth copied : ℕ) (a : Account) → HasRows a → HasRows (begins_at l depth copied a)
has_begun l depth copied a h =
    let s = has_stepped l a h in
    let adds = s.adds in
    record {
      work = s.work;
      here = s.here;
      adds = record { work = adds.work; here = adds.here; ended = adds.ended };
    }

has_entered : (l : ℕ) (a : Account) → HasRows a → HasRows (enters_at l a)
has_entered l a h =
    let s = has_stepped l a h in
    let adds = s.adds in
    record {
      work = s.work;
      here = s.here;
      adds = record { work = adds.work; here = adds.here; ended = refl };
    }

has_ended : (here along : ℕ) (ns : List ℕ) (a : Account) → HasRows a → 0 < length ns → sum ns ≡ here
    → HasRows (ends_behind here along ns a)
has_ended here along ns a h some e = record {
  work = h.work;
  here = some;
  adds = record {
    work = h.adds.work;
    here = e;
    ended = sum-longer a.tally.ended a.tally.here a.ended a.here h.adds.ended h.adds.here;
  };
}

span_has_rows : (a : Account) → HasRows a → 0 < length (span_by_label a)
span_has_rows a h = by_test (nat_lt a.tally.here a.tally.ended) refl
  where
    by_test : (b : Bool) → nat_lt a.tally.here a.tally.ended ≡ b → 0 < length (if b then a.ended else a.here)
    by_test true t =
        let lt = ltb-true a.tally.here a.tally.ended t in
        let all = h.adds.ended in
        some_row a.ended (omega (arith, lt, all))
    by_test false t = h.here

span_adds : (a : Account) → HasRows a → sum (span_by_label a) ≡ max a.tally.here a.tally.ended
span_adds a h = sum-longer a.tally.here a.tally.ended a.here a.ended h.adds.here h.adds.ended

has_left : (ended : ℕ) (ns : List ℕ) (a : Account) → HasRows a → sum ns ≡ ended → HasRows (leaves_behind ended ns a)
has_left ended ns a h e = record {
  work = h.work;
  here = span_has_rows a h;
  adds = record { work = h.adds.work; here = span_adds a h; ended = e };
}

-- ---- a run

abbrev Rowed : State Account → State Account → Type 0
Rowed st to = HasRows st.extra → HasRows to.extra

module _ (p : Program) (fresh : ℕ) where
  kept_by : (n : ℕ) → ((l : ℕ) (b : Codes) (st : State Account) → Rowed st (begin_booked accounting p fresh n l b st))
      → IsKept (accounted_rules p fresh n) Rowed
  kept_by n begins = record {
    idle = λ st to path spawned extra there h. subst (λ (a : Account). HasRows a) (sym extra) h;
    further = λ a b c g h k. h (g k);
    stepped = λ l st h. has_stepped l st.extra h;
    begin = begins;
    finish = λ l st out g h.
        has_left st.extra.tally.ended st.extra.ended out.extra (g (has_entered l st.extra h)) h.adds.ended;
  }

  begins_rowed : (n l : ℕ) (b : Codes) (st : State Account) → Rowed st (begin_booked accounting p fresh n l b st)
  begins_rowed zero l b st h = h
  begins_rowed (suc n) l b st h =
      let begun = child fresh (beginning_booked accounting p l st) in
      let out = run p (accounted_rules p fresh n) (Block b) begun in
      let k : HasRows (beginning_booked accounting p l st).extra = has_begun l (length st.path + 1) (copied_at p l st.environment) st.extra h in
      let o : HasRows out.extra = run_keeps p (accounted_rules p fresh n) Rowed (kept_by n (begins_rowed n)) (Block b) begun k in
      has_ended (beginning_booked accounting p l st).extra.tally.here (beginning_booked accounting p l st).extra.tally.along
      (beginning_booked accounting p l st).extra.here out.extra o k.here k.adds.here

-- whole runs have rows
has_run : (p : Program) (rows : ℕ) (input : List (List ℤ)) (b : Budget) → 0 < rows → HasRows (account_of p rows input b)
has_run p rows input b any =
    let n = length-replicate {A = ℕ} rows 0 in
    let some : 0 < length (replicate rows 0) = omega (arith, n, any) in
    run_keeps p (accounted_rules p b.steps b.nest) Rowed (kept_by p b.steps b.nest (begins_rowed p b.steps b.nest)) (Block p.main.body)
    (start (nothing_noted rows) p b.steps (held_by input))
    (record {
      work = some;
      here = some;
      adds = record { work = sum-zeros rows; here = sum-zeros rows; ended = refl };
    })

pub account_adds_up : (p : Program) (rows : ℕ) (input : List (List ℤ)) (b : Budget) → 0 < rows → AddsUp (account_of p rows input b)
account_adds_up p rows input b any = (has_run p rows input b any).adds

pub span_adds_up : (p : Program) (rows : ℕ) (input : List (List ℤ)) (b : Budget) → 0 < rows
    → sum (span_by_label (account_of p rows input b)) ≡ (cost_of (account_of p rows input b).tally).span
span_adds_up p rows input b any = span_adds (account_of p rows input b) (has_run p rows input b any)
