-- Firsts to which more accesses are added.
use Rattle.std.proofs.Common.{◌≡◌, ◌⊎◌, inl, inr, ℕ, List, [], ◌++◌, length, sym, ap, subst, arith}
use Rattle.std.specs.Prelude.{◌<◌}
use Rattle.sections.specs.Member.{Member}
use Rattle.types.specs.Code.{Code, Codes, End, Then, Program}
use Rattle.types.specs.Run.{procedure_of}
use Rattle.effects.specs.Accesses.{Access, own_accesses}
use Rattle.types.specs.Sound.{passed_for}
use Rattle.effects.specs.Effects.{accesses, AllOf, All}
use Rattle.effects.specs.Firsts.{HasAsEarly, AreFirsts, AreFirstsIn, AddsFirsts, IsPassed}
use Rattle.effects.specs.Rows.{AllInside, Renamed}
use Rattle.effects.specs.Sound.{IsSound, parameters_of}
use Rattle.effects.proofs.AccessesInScope.{allowed}
use Rattle.effects.proofs.FirstLabels.{as_early_itself, as_early_through, firsts_same}
use Rattle.effects.proofs.LeastRows.{all_rows, all_lists}
use Rattle.effects.proofs.Members.{in_left, in_right, in_parts, numbers_from-below}

module _ (more : Access → Type 0) where
  pub adds_none : (xs : List Access) → ((x : Access) → more x → ⊥) → AddsFirsts more xs xs
  adds_none xs never = record {
    among = λ x m. inr m;
    first = λ x h. elim h [ inl k ↦ absurd (never x k) | inr m ↦ as_early_itself x xs m ];
  }

  pub adds_same : (these : Access → Type 0) (xs ys : List Access) → ((x : Access) → more x → these x)
      → ((x : Access) → these x → more x) → AddsFirsts more xs ys → AddsFirsts these xs ys
  adds_same these xs ys out back h =
      firsts_same (λ x. more x ⊎ Member x xs) (λ x. these x ⊎ Member x xs) ys
      (λ x k. elim k [ inl a ↦ inl (out x a) | inr b ↦ inr b ]) (λ x k. elim k [ inl a ↦ inl (back x a) | inr b ↦ inr b ]) h

  -- first some accesses and then others
  pub adds_then : (those : Access → Type 0) (xs ys zs : List Access) → AddsFirsts more xs ys → AddsFirsts those ys zs
      → AddsFirsts (λ x. more x ⊎ those x) xs zs
  adds_then those xs ys zs h g = record { among = from; first = early }
    where
      from : (x : Access) → Member x zs → (more x ⊎ those x) ⊎ Member x xs
      from x m = elim (g.among x m) [
        | inl k ↦ inl (inr k)
        | inr n ↦ elim (h.among x n) [ inl k ↦ inl (inl k) | inr o ↦ inr o ]
      ]

      through : (x : Access) → more x ⊎ Member x xs → HasAsEarly zs x
      through x k = as_early_through x zs ys (h.first x k) (λ y m. g.first y (inr m))

      early : (x : Access) → (more x ⊎ those x) ⊎ Member x xs → HasAsEarly zs x
      early x (inl (inl k)) = through x (inl k)
      early x (inl (inr k)) = g.first x (inl k)
      early x (inr m) = through x (inr m)

  -- the firsts of accesses instead of the accesses
  pub adds_firsts : (firsts xs ys : List Access) → AreFirsts more firsts → AreFirstsIn (firsts ++ xs) ys → AddsFirsts more xs ys
  adds_firsts firsts xs ys h g = record { among = from; first = early }
    where
      from : (x : Access) → Member x ys → more x ⊎ Member x xs
      from x m = elim (in_parts firsts (g.among x m)) [ inl k ↦ inl (h.among x k) | inr o ↦ inr o ]

      early : (x : Access) → more x ⊎ Member x xs → HasAsEarly ys x
      early x (inl k) = as_early_through x ys firsts (h.first x k) (λ y m. g.first y (in_left xs m))
      early x (inr m) = g.first x (in_right firsts m)

  -- firsts added to nothing
  pub firsts_added : (xs ys : List Access) → xs ≡ [] → AddsFirsts more xs ys → AreFirsts more ys
  firsts_added xs ys e h =
      firsts_same (λ x. more x ⊎ Member x xs) more ys
      (λ x k. elim k [ inl a ↦ a | inr b ↦ none x (subst (Member x) e b) ]) (λ x k. inl k) h
    where
      none : (x : Access) → Member x [] → more x
      none x m = elim m [ ]

pub listed_firsts : (xs : List Access) → AreFirsts (λ x. Member x xs) xs
listed_firsts xs = record { among = λ x m. m; first = λ x m. as_early_itself x xs m }

module _ (p : Program) where
  -- one more statement in front
  pub adds_front : (l : ℕ) (s : Code) (rest : Codes) (xs ys zs : List Access) → AddsFirsts (All p accesses rest) xs ys
      → AddsFirsts (AllOf p accesses l s) ys zs → AddsFirsts (All p accesses (Then l s rest)) xs zs
  adds_front l s rest xs ys zs h g =
      adds_same (λ x. All p accesses rest x ⊎ AllOf p accesses l s x) (All p accesses (Then l s rest)) xs zs
      (λ x k. elim k [ inl a ↦ (all_lists p accesses l s rest x).1 (inr a) | inr b ↦ (all_lists p accesses l s rest x).1 (inl b) ])
      (λ x k. elim ((all_lists p accesses l s rest x).0 k) [ inl a ↦ inr a | inr b ↦ inl b ])
      (adds_then (All p accesses rest) (AllOf p accesses l s) xs ys zs h g)

  pub adds_end : (b : Codes) (xs : List Access) → b ≡ End → AddsFirsts (All p accesses b) xs xs
  adds_end b xs e = subst (λ (c : Codes). AddsFirsts (All p accesses c) xs xs) (sym e)
      (adds_none (All p accesses End) xs (λ x h. elim h [ ]))

  -- a statement's own accesses, and then those inside
  pub adds_whole : (l : ℕ) (s : Code) (own xs ys zs : List Access) → own ≡ own_accesses l s → AreFirstsIn (own ++ xs) ys
      → AddsFirsts (AllInside p accesses s) ys zs → AddsFirsts (AllOf p accesses l s) xs zs
  adds_whole l s own xs ys zs e h g =
      adds_same (λ x. Member x own ⊎ AllInside p accesses s x) (AllOf p accesses l s) xs zs
      (λ x k. (all_rows p accesses l s x).1 (elim k [ inl a ↦ inl (subst (Member x) e a) | inr b ↦ inr b ]))
      (λ x k. elim ((all_rows p accesses l s x).0 k) [ inl a ↦ inl (subst (Member x) (sym e) a) | inr b ↦ inr b ])
      (adds_then (λ x. Member x own) (AllInside p accesses s) xs ys zs
      (adds_firsts (λ x. Member x own) own xs ys (listed_firsts own) h) g)

-- ---- calls
module _ (p : Program) (ss : List ℕ) (those done : Access → Type 0) where
  passed_out : ((x : Access) → those x → done x) → (y : Access) → IsPassed those ss y → Renamed p accesses (passed_for ss) done y
  passed_out out y h = record {
    item = record y { section = h.parameter };
    among = out (record y { section = h.parameter }) h.among;
    same = ap (λ n. record y { section = n }) h.named;
  }

  passed_back : ((x : Access) → done x → those x) → ((x : Access) → done x → x.section < length ss) → (y : Access)
      → Renamed p accesses (passed_for ss) done y → IsPassed those ss y
  passed_back back below y h = record {
    parameter = h.item.section;
    below = below h.item h.among;
    among = subst those (ap (λ (z : Access). record z { section = h.item.section }) (sym h.same)) (back h.item h.among);
    named = ap (λ (z : Access). z.section) h.same;
  }

  -- what is passed is what the callee does, in the names around the call
  pub passed_renamed : ((x : Access) → those x → done x) → ((x : Access) → done x → those x)
      → ((x : Access) → done x → x.section < length ss) → (xs : List Access) → AreFirsts (IsPassed those ss) xs
      → AreFirsts (Renamed p accesses (passed_for ss) done) xs
  passed_renamed out back below xs h =
      firsts_same (IsPassed those ss) (Renamed p accesses (passed_for ss) done) xs (passed_out out) (passed_back back below) h

module _ (p : Program) (sound : IsSound p) (f n : ℕ) (e : n ≡ length (procedure_of p f).parameters) where
  pub all_in_callee : (x : Access) → All p accesses (procedure_of p f).body x → x.section < n
  all_in_callee x h =
      let g = sound.procedures f in
      let k : x.section < length (procedure_of p f).parameters =
      numbers_from-below (length (procedure_of p f).parameters) x.section
      (allowed p sound h (procedure_of p f) (parameters_of (procedure_of p f)) g.numbered g.body).in_scope in
      omega arith
