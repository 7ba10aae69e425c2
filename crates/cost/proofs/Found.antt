-- The async with a label is found if a program has one.
use Rattle.std.proofs.Common.{◌≡◌, ◌⊎◌, ℕ, zero, suc, List, [], ◌∷◌, Option, None, Some, inl, inr, refl, sym, ap, subst}
use Rattle.std.proofs.lemmas.Bool.{eqb-true, eq-eqb}
use Rattle.std.proofs.lemmas.Option.{same_Some}
use Rattle.std.specs.Prelude.{Bool, true, false, nat_eq, if◌then◌else◌, slice_index_or}
use Rattle.types.specs.Code.{Code, Do, If, While, Split, Parts, Begun, Call, Async, Finish, Rescue, Codes, End, Then}
use Rattle.types.specs.Code.{Procedure}
use Rattle.types.specs.Code.{Program}
use Rattle.types.specs.Run.{no_procedure}
use Rattle.effects.specs.AsyncNeeds.{IsNeedAt}
use Rattle.effects.specs.Needs.{Needs}
use Rattle.effects.specs.Statements.{Block, HasStatement, Stands, if_body, if_other, while, split, parts, async}
use Rattle.effects.specs.Statements.{finish, rescued, handler}
use Rattle.effects.specs.Statements.{here, inside, later, in_procedure, in_main}
use Rattle.cost.specs.Asyncs.{body_at, body_in, body_in_all, body_inside, body_of_async, first_of}
use Rattle.cost.specs.Copied.{written_at, written_in}

-- ---- what is found is there

first_cases : (x y : Option Codes) (b : Codes) → first_of x y ≡ Some b → (x ≡ Some b) ⊎ (y ≡ Some b)
first_cases (Some c) y b e = inl e
first_cases None y b e = inr e

-- there is an async inside a statement
record HasInside (s : Code) (l : ℕ) (c : Codes) : Type 0 where
  body : Codes
  block : Block s body
  stands : Stands body l (Async c)

found_here : (l m : ℕ) (s : Code) (rest c : Codes) → body_at l m s ≡ Some c → Stands (Then m s rest) l (Async c)
found_here l m (Do s) rest c e = absurd cc
found_here l m (If t b d) rest c e = absurd cc
found_here l m (While t b) rest c e = absurd cc
found_here l m (Split s n x y b) rest c e = absurd cc
found_here l m (Parts s n q i b) rest c e = absurd cc
found_here l m (Begun s n k q i b) rest c e = absurd cc
found_here l m (Call f es ss) rest c e = absurd cc
found_here l m (Finish b) rest c e = absurd cc
found_here l m (Rescue b x d) rest c e = absurd cc
found_here l m (Async b) rest c e = by_test (nat_eq l m) refl e
  where
    by_test : (t : Bool) → nat_eq l m ≡ t → (if t then Some b else None) ≡ Some c → Stands (Then m (Async b) rest) l (Async c)
    by_test true t e =
        subst (λ (k : ℕ). Stands (Then m (Async b) rest) k (Async c)) (sym (eqb-true l m t))
        (subst (λ (d : Codes). Stands (Then m (Async b) rest) m (Async d)) (same_Some b c e) here)
    by_test false t e = absurd cc

mutual
  found_inside : (l : ℕ) (s : Code) (c : Codes) → body_inside l s ≡ Some c → HasInside s l c
  found_inside l (Do s) c e = absurd cc
  found_inside l (Call f es ss) c e = absurd cc
  found_inside l (If t b d) c e = elim (first_cases (body_in l b) (body_in l d) c e) [
    | inl h ↦ record { body = b; block = if_body; stands = found_in l b c h }
    | inr h ↦ record { body = d; block = if_other; stands = found_in l d c h }
  ]
  found_inside l (While t b) c e = record { body = b; block = while; stands = found_in l b c e }
  found_inside l (Split s n x y b) c e = record { body = b; block = split; stands = found_in l b c e }
  found_inside l (Parts s n q i b) c e = record { body = b; block = parts; stands = found_in l b c e }
  found_inside l (Begun s n k q i b) c e = absurd cc
  found_inside l (Async b) c e = record { body = b; block = async; stands = found_in l b c e }
  found_inside l (Finish b) c e = record { body = b; block = finish; stands = found_in l b c e }
  found_inside l (Rescue b x d) c e = elim (first_cases (body_in l b) (body_in l d) c e) [
    | inl h ↦ record { body = b; block = rescued; stands = found_in l b c h }
    | inr h ↦ record { body = d; block = handler; stands = found_in l d c h }
  ]

  found_in : (l : ℕ) (b c : Codes) → body_in l b ≡ Some c → Stands b l (Async c)
  found_in l End c e = absurd cc
  found_in l (Then m s rest) c e = elim (first_cases (body_at l m s) (first_of (body_inside l s) (body_in l rest)) c e) [
    | inl h ↦ found_here l m s rest c h
    | inr h ↦ elim (first_cases (body_inside l s) (body_in l rest) c h) [
      | inl i ↦ (let k = found_inside l s c i in inside k.block k.stands)
      | inr i ↦ later (found_in l rest c i)
    ]
  ]

-- the async is in the procedure with a number
record HasProcedure (fs : List Procedure) (l : ℕ) (c : Codes) : Type 0 where
  number : ℕ
  stands : Stands (slice_index_or fs number no_procedure).body l (Async c)

found_in_all : (l : ℕ) (fs : List Procedure) (c : Codes) → body_in_all l fs ≡ Some c → HasProcedure fs l c
found_in_all l [] c e = absurd cc
found_in_all l (f ∷ fs) c e = elim (first_cases (body_in l f.body) (body_in_all l fs) c e) [
  | inl h ↦ record { number = 0; stands = found_in l f.body c h }
  | inr h ↦ (let k = found_in_all l fs c h in record { number = suc k.number; stands = k.stands })
]

found_async : (p : Program) (l : ℕ) (c : Codes) → body_of_async p l ≡ Some c → HasStatement p l (Async c)
found_async p l c e = elim (first_cases (body_in_all l p.procedures) (body_in l p.main.body) c e) [
  | inl h ↦ (let k = found_in_all l p.procedures c h in in_procedure k.number k.stands)
  | inr h ↦ in_main (found_in l p.main.body c h)
]

-- ---- what is there is found

found_first : (x y : Option Codes) → (x ≡ None → ⊥) → first_of x y ≡ None → ⊥
found_first (Some b) y some e = absurd cc
found_first None y some e = some refl

found_second : (x y : Option Codes) → (y ≡ None → ⊥) → first_of x y ≡ None → ⊥
found_second (Some b) y some e = absurd cc
found_second None y some e = some e

found_at : (l : ℕ) (c : Codes) → body_at l l (Async c) ≡ None → ⊥
found_at l c e = by_test (nat_eq l l) (eq-eqb l l refl) e
  where
    by_test : (t : Bool) → t ≡ true → (if t then Some c else None) ≡ None → ⊥
    by_test true t e = absurd cc
    by_test false t e = absurd cc

mutual
  misses_inside : (l : ℕ) (s : Code) (b c : Codes) → Block s b → Stands b l (Async c) → body_inside l s ≡ None → ⊥
  misses_inside l (Do s) x c block h = elim block [ ]
  misses_inside l (Call f es ss) x c block h = elim block [ ]
  misses_inside l (If t b d) x c if_body h = found_first (body_in l b) (body_in l d) (misses_in l b c h)
  misses_inside l (If t b d) x c if_other h = found_second (body_in l b) (body_in l d) (misses_in l d c h)
  misses_inside l (While t b) x c while h = misses_in l b c h
  misses_inside l (Split s n left right b) x c split h = misses_in l b c h
  misses_inside l (Parts s n q i b) x c parts h = misses_in l b c h
  misses_inside l (Begun s n k q i b) x c block h = elim block [ ]
  misses_inside l (Async b) x c async h = misses_in l b c h
  misses_inside l (Finish b) x c finish h = misses_in l b c h
  misses_inside l (Rescue b n d) x c rescued h = found_first (body_in l b) (body_in l d) (misses_in l b c h)
  misses_inside l (Rescue b n d) x c handler h = found_second (body_in l b) (body_in l d) (misses_in l d c h)

  misses_in : (l : ℕ) (b c : Codes) → Stands b l (Async c) → body_in l b ≡ None → ⊥
  misses_in l End c h = elim h [ ]
  misses_in l (Then m s rest) c here =
      found_first (body_at l l (Async c)) (first_of (body_inside l (Async c)) (body_in l rest)) (found_at l c)
  misses_in l (Then m s rest) c (inside {b = b} block h) =
      found_second (body_at l m s) (first_of (body_inside l s) (body_in l rest))
      (found_first (body_inside l s) (body_in l rest) (misses_inside l s b c block h))
  misses_in l (Then m s rest) c (later h) =
      found_second (body_at l m s) (first_of (body_inside l s) (body_in l rest))
      (found_second (body_inside l s) (body_in l rest) (misses_in l rest c h))

nothing_stands : (l : ℕ) (s : Code) → Stands End l s → ⊥
nothing_stands l s h = elim h [ ]

misses_in_all : (l : ℕ) (fs : List Procedure) (f : ℕ) (c : Codes) → Stands (slice_index_or fs f no_procedure).body l (Async c)
    → body_in_all l fs ≡ None → ⊥
misses_in_all l [] f c h = absurd (nothing_stands l (Async c) h)
misses_in_all l (g ∷ fs) zero c h = found_first (body_in l g.body) (body_in_all l fs) (misses_in l g.body c h)
misses_in_all l (g ∷ fs) (suc f) c h = found_second (body_in l g.body) (body_in_all l fs) (misses_in_all l fs f c h)

misses_async : (p : Program) (l : ℕ) (c : Codes) → HasStatement p l (Async c) → body_of_async p l ≡ None → ⊥
misses_async p l c (in_procedure f h) =
    found_first (body_in_all l p.procedures) (body_in l p.main.body) (misses_in_all l p.procedures f c h)
misses_async p l c (in_main h) =
    found_second (body_in_all l p.procedures) (body_in l p.main.body) (misses_in l p.main.body c h)

-- ---- what it needs

-- the sections that the async may write, from what is kept at its label
abbrev pub kept_writes : Option Needs → List ℕ
kept_writes None = []
kept_writes (Some n) = n.writes

pub needs-found : (p : Program) (l : ℕ) (kept : Option Needs) → IsNeedAt p l kept → kept_writes kept ≡ written_at p l
needs-found p l kept at = by_found (body_of_async p l) refl
  where
    by_found : (found : Option Codes) → body_of_async p l ≡ found → kept_writes kept ≡ written_in p found
    by_found (Some b) e = ap kept_writes (at.of_async b (found_async p l b e))
    by_found None e = ap kept_writes (at.of_another (λ b h. misses_async p l b h e))
