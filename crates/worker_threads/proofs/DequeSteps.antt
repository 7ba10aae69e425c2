-- Each step of a deque preserves its invariant.
use Rattle.std.proofs.Common.{◌≡◌, ℕ, zero, suc, ◌+◌, List, [], ◌∷◌, ◌++◌, set, sum_by, sym, refl, ap, ◌∙◌, arith, append_assoc}
use Rattle.std.proofs.lemmas.List.Sums.{sum_by-append, sum_by-cons, sum_by_push}
use mathlib.Core.Option.{some, some-injective, some-ne-none}
use lib.ListN.{get_elem?}
use Rattle.crossbeam_deque.specs.Tasks.{Admits, Finds, Learns, Pops, Pushes, Takes, TakesBatch}
use Rattle.worker_threads.specs.declared.deque_rule.Tally.{Tally}
use Rattle.worker_threads.specs.Tallies.{tally, put_in, Accounts, IsBalanced}

module _ {T : Type 0} where
  -- if an end changes, the sum changes with it
  sum_by-set : (f : Tally T → ℕ) (ends : List (Tally T)) (i : ℕ) (v w : Tally T) → get_elem? ends i ≡ some v
      → sum_by f (set ends i w) + f v ≡ sum_by f ends + f w
  sum_by-set f [] i v w e = absurd (some-ne-none v (sym e))
  sum_by-set f (u ∷ us) zero v w e =
      let first : f u ≡ f v = ap f (some-injective u v e) in
      omega (arith, first, sum_by-cons f u us, sum_by-cons f w us)
  sum_by-set f (u ∷ us) (suc i) v w e =
      omega (arith, sum_by-set f us i v w e, sum_by-cons f u us, sum_by-cons f u (set us i w))

  -- an end that puts nothing in leaves what was put in
  put_in-set : (ends : List (Tally T)) (i : ℕ) (v w : Tally T) → get_elem? ends i ≡ some v → w.put ≡ v.put
      → put_in (set ends i w) ≡ put_in ends
  put_in-set [] i v w e same = absurd (some-ne-none v (sym e))
  put_in-set (u ∷ us) zero v w e same = same ∙ ap (λ (z : Tally T). z.put) (sym (some-injective u v e))
  put_in-set (u ∷ us) (suc i) v w e same = refl

  put_in-first : (ends : List (Tally T)) (v : Tally T) → get_elem? ends 0 ≡ some v → put_in ends ≡ v.put
  put_in-first [] v e = absurd (some-ne-none v (sym e))
  put_in-first (u ∷ us) v e = ap (λ (z : Tally T). z.put) (some-injective u v e)

  put_in-set_first : (ends : List (Tally T)) (v w : Tally T) → get_elem? ends 0 ≡ some v → put_in (set ends 0 w) ≡ w.put
  put_in-set_first [] v w e = absurd (some-ne-none v (sym e))
  put_in-set_first (u ∷ us) v w e = refl

  put_in-push : (ends : List (Tally T)) → put_in (ends ++ tally [] [] ∷ []) ≡ put_in ends
  put_in-push [] = refl
  put_in-push (u ∷ us) = refl

  -- a deque at its start
  pub begins : IsBalanced {T = T} [] (tally [] [] ∷ [])
  begins weigh = refl

  -- a new end has put nothing in, and taken nothing out
  pub admits : Admits (IsBalanced {T = T}) (tally [] [])
  admits left ends was weigh =
      let put = ap (sum_by weigh) (put_in-push ends) in
      let taken = sum_by_push (λ (v : Tally T). sum_by weigh v.taken) ends (tally [] []) in
      omega (arith, was weigh, put, taken)

  pub puts : (v : Tally T) (xs : List T) → Pushes IsBalanced 0 v xs (λ w. w ≡ tally (v.put ++ xs) v.taken)
  puts v xs left ends was at =
      let w : Tally T = tally (v.put ++ xs) v.taken in (
        w,
        (λ weigh.
            let before = ap (sum_by weigh) (put_in-first ends v at) in
            let after = ap (sum_by weigh) (put_in-set_first ends v w at) in
            let more = sum_by-append weigh v.put xs in
            let taken = sum_by-set (λ (u : Tally T). sum_by weigh u.taken) ends 0 v w at in
            omega (arith, was weigh, before, after, more, taken, sum_by-append weigh left xs)),
        refl,
      )

  pub takes : (port : ℕ) (v : Tally T) (most : ℕ) → Takes IsBalanced port v most (λ xs w. w ≡ tally v.put (v.taken ++ xs))
  takes port v most xs left ends some_task few was at =
      let w : Tally T = tally v.put (v.taken ++ xs) in (
        w,
        (λ weigh.
            let put = ap (sum_by weigh) (put_in-set ends port v w at refl) in
            let more = sum_by-append weigh v.taken xs in
            let taken = sum_by-set (λ (u : Tally T). sum_by weigh u.taken) ends port v w at in
            omega (arith, was weigh, put, more, taken, sum_by-append weigh xs left)),
        refl,
      )

  pub pops : (port : ℕ) (v : Tally T) → Pops IsBalanced port v (λ xs w. w ≡ tally v.put (v.taken ++ xs))
  pops port v x left ends was at =
      let w : Tally T = tally v.put (v.taken ++ x ∷ []) in (
        w,
        (λ weigh.
            let put = ap (sum_by weigh) (put_in-set ends port v w at refl) in
            let more = sum_by-append weigh v.taken (x ∷ []) in
            let taken = sum_by-set (λ (u : Tally T). sum_by weigh u.taken) ends port v w at in
            omega (arith, was weigh, put, more, taken, sum_by-append weigh left (x ∷ []))),
        refl,
      )

  -- a batch is a steal for each of its tasks
  pub takes_batch : (port : ℕ) (v : Tally T) (most : ℕ)
      → TakesBatch IsBalanced port v most (λ v xs w. w ≡ tally v.put (v.taken ++ xs))
  takes_batch port v most = (
    takes port v most,
    λ xs u first. (
      takes port u 1,
      λ ys w next.
          next ∙ ap (λ (z : Tally T). tally z.put (z.taken ++ ys)) first
          ∙ ap (λ l. tally v.put l) (append_assoc v.taken xs ys),
    ),
  )

  -- what the other ends have taken out
  abbrev taken_by_all : List (Tally T) → List T
  taken_by_all [] = []
  taken_by_all (v ∷ vs) = v.taken ++ taken_by_all vs

  sum_by-taken_by_all : (weigh : T → ℕ) (ends : List (Tally T))
      → sum_by weigh (taken_by_all ends) ≡ sum_by (λ v. sum_by weigh v.taken) ends
  sum_by-taken_by_all weigh [] = refl
  sum_by-taken_by_all weigh (v ∷ vs) = omega (
    arith,
    sum_by-append weigh v.taken (taken_by_all vs),
    sum_by-taken_by_all weigh vs,
    sum_by-cons (λ (u : Tally T). sum_by weigh u.taken) v vs,
  )

  pub learns : (v : Tally T) → Learns IsBalanced 0 v (λ left. Accounts v.put v.taken left)
  learns v left [] was at = absurd (some-ne-none v (sym at))
  learns v left (u ∷ others) was at =
      let same : u ≡ v = some-injective u v at in
      record {
        stolen = taken_by_all others;
        once = λ weigh.
            let put = ap (λ (z : Tally T). sum_by weigh z.put) same in
            let taken = ap (λ (z : Tally T). sum_by weigh z.taken) same in
            omega (
              arith,
              was weigh,
              put,
              taken,
              sum_by-cons (λ (z : Tally T). sum_by weigh z.taken) u others,
              sum_by-taken_by_all weigh others,
            );
      }

  -- if nothing is left, all that was put in has come out
  pub finds : (v : Tally T) → Finds IsBalanced 0 v (Accounts v.put v.taken [])
  finds v ends was at = learns v [] ends was at
