-- Who took which task last, and what workers did, one event after another.
use Rattle.std.proofs.Common.{◌≡◌, ℕ, zero, suc, ◌+◌, ◌<◌, ◌≤◌, List, ◌∷◌, length, drop, get_or, set, ap, sym, ◌∙◌, refl, subst, arith, ⊎_elim}
use Rattle.std.specs.Prelude.{Option, Some, None, cond, nat_eq, replicate, slice_index, if◌then◌else◌}
use Rattle.std.specs.Cmp.Lexicographic.{pointwise}
use Rattle.std.specs.List.{AllZip}
use Rattle.std.proofs.lemmas.Bool.{cases_eq, cases_lt}
use Rattle.std.proofs.lemmas.List.{drop_more, get_or-set_other, get_or-set_same, length-set, set_past}
use Rattle.shared_lemmas.proofs.Lists.{same_elements}
use Rattle.events.specs.declared.event.Event.{Event}
use Rattle.events.specs.declared.event.Event.TheVariants.{Take, Steal, Step, Replenish, Spawn}
use Rattle.events.specs.declared.event.Event.TheVariants.{Open, Park, End, Pass, Resume}
use Rattle.trace_numbers.specs.Hands.{Hands, did_more, handled, hands_after, no_hands, steps_by_worker}
use Rattle.trace_numbers.specs.Tables.{DidWithin, ShowsHands}
use Rattle.trace_numbers.specs.declared.hands.Hands.{Hands as rHands}

-- who holds a task after a worker took the task of a path
pub held_at : (key path other : List ℕ) (worker : ℕ) (old new : Option ℕ) → AllZip (λ x y. y ≡ x) path key
    → new ≡ cond (pointwise nat_eq key other) (Some worker) old → new ≡ (if pointwise nat_eq path other then Some worker else old)
held_at key path other worker old new cloned is =
    is ∙ ap (λ (p : List ℕ). cond (pointwise nat_eq p other) (Some worker) old) (same_elements path key cloned)

-- ---- what workers did
few_still : (d : List ℕ) (w x n : ℕ) → x ≤ n → ((v : ℕ) → get_or d v 0 ≤ n) → (v : ℕ) → get_or (set d w x) v 0 ≤ n
few_still d w x n new few v =
    ⊎_elim
    (λ same. ⊎_elim
    (λ there. subst (λ m. m ≤ n) (sym (ap (λ k. get_or (set d w x) k 0) same ∙ get_or-set_same d w x 0 there)) new)
    (λ past. subst (λ l. get_or l v 0 ≤ n) (sym (set_past d w x past)) (few v))
    (cases_lt w (length d)))
    (λ other. subst (λ m. m ≤ n) (sym (get_or-set_other d w v x 0 other)) (few v))
    (cases_eq v w)

still : (count : ℕ) (did : List ℕ) → DidWithin count did → DidWithin (count + 1) did
still count did h = record { workers = h.workers; few = λ w. omega (arith, h.few w) }

one_more : (count : ℕ) (holder : Option ℕ) (did : List ℕ) → DidWithin count did → DidWithin (count + 1) (did_more holder did)
one_more count None did h = still count did h
one_more count (Some w) did h = record {
  workers = length-set did w (slice_index did w + 1) ∙ h.workers;
  few = few_still did w (slice_index did w + 1) (count + 1) (omega (arith, h.few w)) (λ v. omega (arith, h.few v));
}

within_more : (e : Event) (count : ℕ) (h : Hands) → DidWithin count h.did → DidWithin (count + 1) (handled e h).did
within_more (Take worker path) count h w = still count h.did w
within_more (Steal worker from path) count h w = still count h.did w
within_more (Step path) count h w = one_more count (h.holder path.turns.items) h.did w
within_more (Replenish path) count h w = still count h.did w
within_more (Spawn path) count h w = one_more count (h.holder path.turns.items) h.did w
within_more (Open path) count h w = one_more count (h.holder path.turns.items) h.did w
within_more (Park path) count h w = still count h.did w
within_more (End path) count h w = still count h.did w
within_more (Pass scope) count h w = still count h.did w
within_more (Resume worker path faults) count h w = still count h.did w

-- ---- from event to event
-- the first events led to it, and those after them lead on to what all workers do
pub record IsHeld (es : List Event) (i : ℕ) (r : rHands) : Type 0 where
  pub hands : Hands
  pub within : DidWithin i hands.did
  pub shows : ShowsHands r hands
  pub rest : (hands_after (drop i es) hands).did ≡ steps_by_worker es

few_none : (w n : ℕ) → get_or (replicate n 0) w 0 ≤ 0
few_none w zero = omega arith
few_none zero (suc n) = omega arith
few_none (suc w) (suc n) = few_none w n

pub held_at_first : (es : List Event) (r : rHands) → ShowsHands r no_hands → IsHeld es 0 r
held_at_first es r shows = record {
  hands = no_hands;
  within = record { workers = refl; few = λ w. few_none w 64 };
  shows = shows;
  rest = refl;
}

pub held_more : (es : List Event) (i : ℕ) (e d : Event) (old new : rHands) → i < length es → e ≡ get_or es i d → IsHeld es i old
    → ((h : Hands) → ShowsHands old h → ShowsHands new (handled e h)) → IsHeld es (i + 1) new
held_more es i e d old new there is at goes = record {
  hands = handled e at.hands;
  within = within_more e i at.hands at.within;
  shows = goes at.hands at.shows;
  rest = ap (λ (l : List Event). (hands_after l at.hands).did)
      (sym (drop_more es i d there ∙ ap (λ (x : Event). x ∷ drop (i + 1) es) (sym is)))
      ∙ at.rest;
}
