-- The rounds of a sound program reach a stable table.
use Rattle.std.proofs.Common.{◌≡◌, ◌⊎◌, ℕ, zero, suc, ◌+◌, ◌-◌, ◌<◌, ◌≤◌, List, [], ◌∷◌, ◌++◌, length, map, refl, sym}
use Rattle.std.proofs.Common.{ap, ◌∙◌, subst, inl, inr, arith}
use Rattle.std.proofs.lemmas.Bool.{ltb-true, ltb-false}
use Rattle.std.specs.Prelude.{Bool, true, false, nat_lt, slice_index_or}
use Rattle.sections.specs.Member.{Member}
use Rattle.types.specs.Code.{Code, Do, If, While, Split, Parts, Begun, Call, Async, Finish, Rescue, Codes, End, Then, Procedure}
use Rattle.types.specs.Code.{Program}
use Rattle.types.specs.Run.{procedure_of, no_procedure}
use Rattle.effects.specs.Accesses.{Access, own_accesses}
use Rattle.types.specs.Sound.{passed_for}
use Rattle.effects.specs.Effects.{past_parts, past_split, renamed, Inner, AllOf, All, accesses}
use Rattle.effects.specs.Sound.{parameters_of, IsSound}
use Rattle.effects.specs.Tables.{Table, all_inside, all_in, left_by, left_in, IsDerived, IsDerivedPending, IsStable}
use Rattle.effects.specs.Tables.{IsStablePending}
use Rattle.effects.specs.Rounds.{none, after, all_round, pending_round, standing, possible, possible_below, summaries}
use Rattle.effects.specs.Rounds.{pending_summaries}
use Rattle.effects.proofs.Members.{in_flat_map, in_left, in_right, in_map, from_map}
use Rattle.effects.proofs.AccessesInScope.{allowed, pending_all}
use Rattle.effects.proofs.StableTables.{parts, listed, left}
use Rattle.effects.proofs.Stability.{becomes_stable, first_keeps}

abbrev make : ℕ → ℕ → Bool → Access
make l s w = record { label = l; section = s; write = w }

-- ---- tables that list more
module _ (table more : Table accesses) (grows : (f : ℕ) (x : Access) → Member x (table f) → Member x (more f)) where
  pub map_more : (out : Access → Access) (xs ys : List Access) → ((x : Access) → Member x xs → Member x ys) → (y : Access)
      → Member y (map out xs) → Member y (map out ys)
  map_more out xs ys f y m = let r = from_map out xs m in subst (λ y. Member y (map out ys)) (sym r.2) (in_map out (f r.0 r.1))

  mutual
    inside_more : (s : Code) (x : Access) → Member x (all_inside accesses table s) → Member x (all_inside accesses more s)
    inside_more (Do s) x m = m
    inside_more (If t b c) x m =
        parts (all_in accesses table b) (λ k. in_left (all_in accesses more c) (all_more b x k))
        (λ k. in_right (all_in accesses more b) (all_more c x k)) m
    inside_more (While t b) x m = all_more b x m
    inside_more (Split s e y z b) x m =
        map_more (renamed (past_split s y z)) (all_in accesses table b) (all_in accesses more b) (all_more b) x m
    inside_more (Parts s e q i b) x m =
        map_more (renamed (past_parts s q)) (all_in accesses table b) (all_in accesses more b) (all_more b) x m
    inside_more (Begun s n k q i b) x m = m
    inside_more (Call f es ss) x m = map_more (renamed (passed_for ss)) (table f) (more f) (grows f) x m
    inside_more (Async b) x m = all_more b x m
    inside_more (Finish b) x m = all_more b x m
    inside_more (Rescue b n c) x m =
        parts (all_in accesses table b) (λ k. in_left (all_in accesses more c) (all_more b x k))
        (λ k. in_right (all_in accesses more b) (all_more c x k)) m

    pub all_more : (b : Codes) (x : Access) → Member x (all_in accesses table b) → Member x (all_in accesses more b)
    all_more End x m = m
    all_more (Then l s rest) x m = parts (own_accesses l s) (λ k. in_left (all_inside accesses more s ++ all_in accesses more rest) k)
        (λ k. in_right (own_accesses l s)
        (parts (all_inside accesses table s) (λ k. in_left (all_in accesses more rest) (inside_more s x k))
        (λ k. in_right (all_inside accesses more s) (all_more rest x k)) k)) m

-- and of what is pending
module _ (alls table more : Table accesses) (grows : (f : ℕ) (x : Access) → Member x (table f) → Member x (more f)) where
  mutual
    by_more : (s : Code) (x : Access) → Member x (left_by accesses alls table s) → Member x (left_by accesses alls more s)
    by_more (Do s) x m = m
    by_more (If t b c) x m =
        parts (left_in accesses alls table b) (λ k. in_left (left_in accesses alls more c) (left_more b x k))
        (λ k. in_right (left_in accesses alls more b) (left_more c x k)) m
    by_more (While t b) x m = left_more b x m
    by_more (Split s e y z b) x m =
        map_more table more grows (renamed (past_split s y z)) (left_in accesses alls table b) (left_in accesses alls more b)
        (left_more b) x m
    by_more (Parts s e q i b) x m =
        map_more table more grows (renamed (past_parts s q)) (left_in accesses alls table b) (left_in accesses alls more b)
        (left_more b) x m
    by_more (Begun s n k q i b) x m = m
    by_more (Call f es ss) x m = map_more table more grows (renamed (passed_for ss)) (table f) (more f) (grows f) x m
    by_more (Async b) x m = m
    by_more (Finish b) x m = m
    by_more (Rescue b n c) x m = left_more c x m

    left_more : (b : Codes) (x : Access) → Member x (left_in accesses alls table b) → Member x (left_in accesses alls more b)
    left_more End x m = m
    left_more (Then l s rest) x m =
        parts (left_by accesses alls table s) (λ k. in_left (left_in accesses alls more rest) (by_more s x k))
        (λ k. in_right (left_by accesses alls more s) (left_more rest x k)) m

-- ---- procedures that don't exist
pub past_end : (xs : List Procedure) (f : ℕ) → length xs ≤ f → slice_index_or xs f no_procedure ≡ no_procedure
past_end [] f h = refl
past_end (x ∷ xs) zero h = absurd (omega (arith, h))
past_end (x ∷ xs) (suc f) h = past_end xs f (omega (arith, h))

module _ (p : Program) where
  nothing_there : (table : Table accesses) (f : ℕ) (x : Access) → length p.procedures ≤ f
      → Member x (all_in accesses table (procedure_of p f).body) → ⊥
  nothing_there table f x h m = elim (subst (λ (g : Procedure). Member x (all_in accesses table g.body)) (past_end p.procedures f h) m) [ ]

  nothing_pending : (alls table : Table accesses) (f : ℕ) (x : Access) → length p.procedures ≤ f
      → Member x (left_in accesses alls table (procedure_of p f).body) → ⊥
  nothing_pending alls table f x h m =
      elim (subst (λ (g : Procedure). Member x (left_in accesses alls table g.body)) (past_end p.procedures f h) m) [ ]

  -- ---- an access has the label and the kind of one that occurs in a procedure
  record Stands (xs : List Access) (x : Access) : Type 0 where
    access : Access
    among : Member access xs
    label : access.label ≡ x.label
    write : access.write ≡ x.write

  more_stands : (xs ys : List Access) (x : Access) → ((y : Access) → Member y xs → Member y ys) → Stands xs x → Stands ys x
  more_stands xs ys x f k = record { access = k.access; among = f k.access k.among; label = k.label; write = k.write }

  abbrev all_standing : List Access
  all_standing = standing p (length p.procedures)

  stands_below : (n f : ℕ) (x : Access) → (j : ℕ) → suc j + f ≡ n → Member x (all_in accesses none (procedure_of p f).body)
      → Member x (standing p n)
  stands_below zero f x j e m = absurd (omega (arith, e))
  stands_below (suc n) f x zero e m =
      in_left (standing p n)
      (subst (λ f. Member x (all_in accesses none (procedure_of p f).body)) (let i : f ≡ n = omega (arith, e) in i) m)
  stands_below (suc n) f x (suc j) e m = in_right (all_in accesses none (procedure_of p n).body) (stands_below n f x j (omega (arith, e)) m)

  stands_in_body : (f : ℕ) (x : Access) → Member x (all_in accesses none (procedure_of p f).body) → Member x all_standing
  stands_in_body f x m = by_test (nat_lt f (length p.procedures)) refl
    where
      by_test : (t : Bool) → nat_lt f (length p.procedures) ≡ t → Member x all_standing
      by_test true e =
          let lt : f < length p.procedures = ltb-true f (length p.procedures) e in
          stands_below (length p.procedures) f x (length p.procedures - f - 1) (omega (arith, lt)) m
      by_test false e = absurd (nothing_there none f x (ltb-false f (length p.procedures) e) m)

  either_of_body : (f : ℕ) (x : Access) → Stands (all_in accesses none (procedure_of p f).body) x ⊎ Stands all_standing x
      → Stands all_standing x
  either_of_body f x (inl k) = more_stands (all_in accesses none (procedure_of p f).body) all_standing x (stands_in_body f) k
  either_of_body f x (inr k) = k

  abbrev IsFrom : List Access → Access → Type 0
  IsFrom xs x = Stands xs x ⊎ Stands all_standing x

  from_more : (xs ys : List Access) (x : Access) → ((y : Access) → Member y xs → Member y ys) → IsFrom xs x → IsFrom ys x
  from_more xs ys x f (inl k) = inl (more_stands xs ys x f k)
  from_more xs ys x f (inr k) = inr k

  moved : (out : ℕ → ℕ) (xs : List Access) (x : Access) → IsFrom xs x → IsFrom (map (renamed out) xs) (renamed out x)
  moved out xs x (inl k) =
      inl (record { access = renamed out k.access; among = in_map (renamed out) k.among; label = k.label; write = k.write })
  moved out xs x (inr k) = inr (record { access = k.access; among = k.among; label = k.label; write = k.write })

  through : {s : Code} {b : Codes} {out : ℕ → ℕ} → Inner p s b out → (x : Access) → IsFrom (all_in accesses none b) x
      → IsFrom (all_inside accesses none s) (renamed out x)
  through (Inner.if_body {b = b} {c = c}) x k =
      from_more (all_in accesses none b) (all_in accesses none b ++ all_in accesses none c) x (λ y m. in_left (all_in accesses none c) m) k
  through (Inner.if_other {b = b} {c = c}) x k =
      from_more (all_in accesses none c) (all_in accesses none b ++ all_in accesses none c) x (λ y m. in_right (all_in accesses none b) m) k
  through Inner.while x k = k
  through (Inner.split {s = s} {l = l} {r = r} {b = b}) x k = moved (past_split s l r) (all_in accesses none b) x k
  through (Inner.parts {s = s} {q = q} {b = b}) x k = moved (past_parts s q) (all_in accesses none b) x k
  through (Inner.call {f = f}) x k = let h =
      either_of_body f x k in inr (record { access = h.access; among = h.among; label = h.label; write = h.write })
  through (Inner.handler {b = b} {c = c}) x k =
      from_more (all_in accesses none c) (all_in accesses none b ++ all_in accesses none c) x (λ y m. in_right (all_in accesses none b) m) k

  mutual
    from_of : {l : ℕ} {s : Code} {x : Access} → AllOf p accesses l s x → IsFrom (own_accesses l s ++ all_inside accesses none s) x
    from_of (AllOf.own_access {l = l} {s = s} {x = x} m) =
        inl (record { access = x; among = in_left (all_inside accesses none s) m; label = refl; write = refl })
    from_of (AllOf.inner {l = l} {s = s} {out = out} {x = x} i h e) =
        subst (IsFrom (own_accesses l s ++ all_inside accesses none s)) (sym e)
        (from_more (all_inside accesses none s) (own_accesses l s ++ all_inside accesses none s) (renamed out x)
        (λ y m. in_right (own_accesses l s) m) (through i x (from_all h)))
    from_of (AllOf.async h) = from_all h
    from_of (AllOf.finish h) = from_all h
    from_of (AllOf.rescued {b = b} {c = c} {x = x} h) =
        from_more (all_in accesses none b) (all_in accesses none b ++ all_in accesses none c) x
        (λ y m. in_left (all_in accesses none c) m) (from_all h)

    from_all : {b : Codes} {x : Access} → All p accesses b x → IsFrom (all_in accesses none b) x
    from_all (All.here {l = l} {s = s} {rest = rest} {x = x} h) =
        from_more (own_accesses l s ++ all_inside accesses none s)
        (own_accesses l s ++ (all_inside accesses none s ++ all_in accesses none rest)) x
        (λ y m. parts (own_accesses l s) (λ k. in_left (all_inside accesses none s ++ all_in accesses none rest) k)
        (λ k. in_right (own_accesses l s) (in_left (all_in accesses none rest) k)) m) (from_of h)
    from_all (All.later {l = l} {s = s} {rest = rest} {x = x} h) =
        from_more (all_in accesses none rest) (own_accesses l s ++ (all_inside accesses none s ++ all_in accesses none rest)) x
        (λ y m. in_right (own_accesses l s) (in_right (all_inside accesses none s) m)) (from_all h)

  module _ (sound : IsSound p) where
    -- what a body does is possible
    pub is_possible : (f : ℕ) (x : Access) → All p accesses (procedure_of p f).body x → Member x (possible p f)
    is_possible f x h =
        let k = either_of_body f x (from_all h) in
        let g = sound.procedures f in
        let a = allowed p sound h (procedure_of p f) (parameters_of (procedure_of p f)) g.numbered g.body in
        in_flat_map
        (λ (y : Access). map (λ s. record y { section = s }) (parameters_of (procedure_of p f))) {x = k.access} k.among
        (subst (λ y. Member y (map (λ s. record k.access { section = s }) (parameters_of (procedure_of p f))))
        (ap (λ l. make l x.section k.access.write) k.label ∙ ap (make x.label x.section) k.write)
        (in_map (λ s. make k.access.label s k.access.write) a.in_scope))

  -- a round lists only what is derived
  round_derived : (table : Table accesses) → IsDerived p accesses table → IsDerived p accesses (all_round p table)
  round_derived table d f x m = listed p accesses table d (procedure_of p f).body x m

  none_derived : IsDerived p accesses none
  none_derived f x m = elim m [ ]

  after_derived : (k : ℕ) → IsDerived p accesses (after (all_round p) (length p.procedures) k)
  after_derived zero = none_derived
  after_derived (suc k) = round_derived (after (all_round p) (length p.procedures) k) (after_derived k)

  pub summaries_derived : IsDerived p accesses (summaries p)
  summaries_derived =
      first_keeps (all_round p) (length p.procedures) (IsDerived p accesses) none_derived round_derived
      (possible_below p (length p.procedures)) 0

  round_derived_pending : (alls : Table accesses) → IsDerived p accesses alls → (table : Table accesses) → IsDerivedPending p accesses table
      → IsDerivedPending p accesses (pending_round p alls table)
  round_derived_pending alls a table d f x m = left p accesses alls table a d (procedure_of p f).body x m

  none_derived_pending : IsDerivedPending p accesses none
  none_derived_pending f x m = elim m [ ]

  after_derived_pending : (alls : Table accesses) → IsDerived p accesses alls → (k : ℕ)
      → IsDerivedPending p accesses (after (pending_round p alls) (length p.procedures) k)
  after_derived_pending alls a zero = none_derived_pending
  after_derived_pending alls a (suc k) =
      round_derived_pending alls a (after (pending_round p alls) (length p.procedures) k) (after_derived_pending alls a k)

  pub pending_summaries_derived : IsDerivedPending p accesses (pending_summaries p)
  pending_summaries_derived =
      first_keeps (pending_round p (summaries p)) (length p.procedures) (IsDerivedPending p accesses) none_derived_pending
      (round_derived_pending (summaries p) summaries_derived) (possible_below p (length p.procedures)) 0

  module _ (sound : IsSound p) where
    -- so with soundness both tables are stable
    pub summaries_stable : IsStable p accesses (summaries p)
    summaries_stable =
        becomes_stable (all_round p) (length p.procedures)
        (λ table more h f x m. all_more table more h (procedure_of p f).body x m) nothing_there
        (possible p) (λ k f x m. is_possible sound f x (after_derived k f x m)) (possible_below p) refl (λ f. refl)

    pub pending_summaries_stable : IsStablePending p accesses (summaries p) (pending_summaries p)
    pending_summaries_stable =
        becomes_stable (pending_round p (summaries p)) (length p.procedures)
        (λ table more h f x m. left_more (summaries p) table more h (procedure_of p f).body x m)
        (nothing_pending (summaries p)) (possible p)
        (λ k f x m. is_possible sound f x (pending_all p (after_derived_pending (summaries p) summaries_derived k f x m)))
        (possible_below p) refl (λ f. refl)
