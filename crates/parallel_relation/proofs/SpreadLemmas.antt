-- Pairs that are added number by number.
use Rattle.std.proofs.Common.{◌≡◌, ◌⊎◌, inl, inr, ℕ, ◌+◌, ◌<◌, ◌≤◌, length, ap, subst, arith}
use Rattle.std.proofs.lemmas.Bool.{cases_lt}
use Rattle.std.proofs.lemmas.List.{get_or_past}
use Rattle.std.specs.Prelude.{◌↔◌}
use Rattle.types.specs.Code.{End, Procedure, Program}
use Rattle.types.specs.Run.{procedure_of, no_procedure}
use Rattle.effects.specs.Effects.{labels, All, Pending}
use Rattle.effects.specs.Summarized.{body_of}
use Rattle.parallel_relation.specs.Around.{Adds, each}
use Rattle.parallel_relation.specs.Found.{FoundMeets}
use Rattle.parallel_relation.specs.Rows.{HasAt}
use Rattle.parallel_relation.specs.declared.found.FoundPairs.{FoundPairs}
use Rattle.effects.proofs.ComesSound.{body_of-other}
use Rattle.parallel_relation.proofs.Sums.{adds_joined}

pub below_next : (x n : ℕ) → x < n + 1 → (x < n) ⊎ (x ≡ n)
below_next x n h = elim (cases_lt x n) [ inl a ↦ inl a | inr b ↦ inr (omega arith) ]

-- what procedures of smaller numbers meet
pub data CalledBelow (p : Program) (calls ends : ℕ → ℕ → Type 0) (n : ℕ) (x y : ℕ) : Type 0 where
  call : (f : ℕ) → f < n → All p labels (procedure_of p f).body x → calls f y → CalledBelow p calls ends n x y
  end : (f : ℕ) → f < n → Pending p labels (procedure_of p f).body x → ends f y → CalledBelow p calls ends n x y

module _ (p : Program) (calls ends : ℕ → ℕ → Type 0) where
  abbrev AllOf : ℕ → ℕ → Type 0
  AllOf f x = All p labels (procedure_of p f).body x

  abbrev LeftOf : ℕ → ℕ → Type 0
  LeftOf f x = Pending p labels (procedure_of p f).body x

  split_call : (n : ℕ) (x y : ℕ) → CalledBelow p calls ends (n + 1) x y
      → CalledBelow p calls ends n x y ⊎ ((AllOf n x × calls n y) ⊎ (LeftOf n x × ends n y))
  split_call n x y (CalledBelow.call f h a k) = elim (below_next f n h) [
    | inl l ↦ inl (CalledBelow.call f l a k)
    | inr e ↦ inr (inl (subst (λ f. AllOf f x) e a, subst (λ f. calls f y) e k))
  ]
  split_call n x y (CalledBelow.end f h a k) = elim (below_next f n h) [
    | inl l ↦ inl (CalledBelow.end f l a k)
    | inr e ↦ inr (inr (subst (λ f. LeftOf f x) e a, subst (λ f. ends f y) e k))
  ]

  wider : (n : ℕ) (x y : ℕ) → CalledBelow p calls ends n x y → CalledBelow p calls ends (n + 1) x y
  wider n x y (CalledBelow.call f h a k) = CalledBelow.call f (omega arith) a k
  wider n x y (CalledBelow.end f h a k) = CalledBelow.end f (omega arith) a k

  -- and then what the next one meets
  pub adds_callee : {f g h k : ℕ → ℕ → Type 0} (n : ℕ) (all left : ℕ → Type 0) → n < length p.procedures
      → ((x : ℕ) → all x ↔ All p labels (body_of p n) x) → ((x : ℕ) → left x ↔ Pending p labels (body_of p n) x)
      → Adds f (CalledBelow p calls ends n) g → Adds g (each all (calls n)) h → Adds h (each left (ends n)) k
      → Adds f (CalledBelow p calls ends (n + 1)) k
  adds_callee n all left within all_is left_is below a b =
      let body = body_of-other p n within in
      let those : (x : ℕ) → all x ↔ AllOf n x = subst (λ b. (x : ℕ) → all x ↔ All p labels b x) body all_is in
      let these : (x : ℕ) → left x ↔ LeftOf n x = subst (λ b. (x : ℕ) → left x ↔ Pending p labels b x) body left_is in
      adds_joined (CalledBelow p calls ends (n + 1)) below
      (adds_joined (λ x y. (AllOf n x × calls n y) ⊎ (LeftOf n x × ends n y)) a b
      (λ x y k. elim k [ inl c ↦ inl ((those x).0 c.0, c.1) | inr c ↦ inr ((these x).0 c.0, c.1) ])
      (λ x y k. elim k [ inl c ↦ inl ((those x).1 c.0, c.1) | inr c ↦ inr ((these x).1 c.0, c.1) ]))
      (λ x y k. elim k [
        | inl c ↦ wider n x y c
        | inr c ↦ elim c [
          | inl d ↦ CalledBelow.call n (omega arith) d.0 d.1
          | inr d ↦ CalledBelow.end n (omega arith) d.0 d.1
        ]
      ])
      (λ x y k. split_call n x y k)

-- no procedure has a number past all procedures
pub no_body : (p : Program) (f : ℕ) → length p.procedures ≤ f → (procedure_of p f).body ≡ End
no_body p f past = ap (λ (g : Procedure). g.body) (get_or_past p.procedures f no_procedure past)

all_within : (p : Program) (f x : ℕ) → All p labels (procedure_of p f).body x → f < length p.procedures
all_within p f x h = elim (cases_lt f (length p.procedures)) [
  | inl l ↦ l
  | inr past ↦ absurd (elim (subst (λ b. All p labels b x) (no_body p f past) h) [ ])
]

left_within : (p : Program) (f x : ℕ) → Pending p labels (procedure_of p f).body x → f < length p.procedures
left_within p f x h = elim (cases_lt f (length p.procedures)) [
  | inl l ↦ l
  | inr past ↦ absurd (elim (subst (λ b. Pending p labels b x) (no_body p f past) h) [ ])
]

-- together with what all procedures meet, that is what is found
pub all_found : (p : Program) (found : FoundPairs) (rows : ℕ → ℕ → Type 0)
    → Adds (HasAt found.labels) (CalledBelow p (HasAt found.calls) (HasAt found.ends) (length p.procedures)) rows
    → (x y : ℕ) → rows x y ↔ FoundMeets p found x y
all_found p found rows h x y = (λ k. elim (h.only x y k) [ inl o ↦ FoundMeets.label o | inr c ↦ to c ], from)
  where
    to : CalledBelow p (HasAt found.calls) (HasAt found.ends) (length p.procedures) x y → FoundMeets p found x y
    to (CalledBelow.call f l a k) = FoundMeets.call f a k
    to (CalledBelow.end f l a k) = FoundMeets.end f a k

    from : FoundMeets p found x y → rows x y
    from (FoundMeets.label k) = h.keeps x y k
    from (FoundMeets.call f a k) = h.has x y (CalledBelow.call f (all_within p f x a) a k)
    from (FoundMeets.end f a k) = h.has x y (CalledBelow.end f (left_within p f x a) a k)

-- one row is turned, label by label
module _ (row : ℕ) where
  -- the reversed pairs of this row
  abbrev pub Turned : (ℕ → ℕ → Type 0) → ℕ → ℕ → Type 0
  Turned has x y = (y ≡ row) × has y x
