-- The labels of a statement, and their pairs, are those of its parts.
use Rattle.std.proofs.Common.{◌≡◌, ◌⊎◌, inl, inr, ℕ, refl, sym, subst, [], ◌∷◌}
use Rattle.sections.specs.Member.{Member, first}
use Rattle.types.specs.Code.{Number, Code, Do, If, While, Split, Parts, Begun, Call, Async, Finish, Rescue, Codes, End, Then}
use Rattle.types.specs.Code.{Program}
use Rattle.types.specs.Run.{procedure_of}
use Rattle.effects.specs.Effects.{labels, Inner, AllOf, All, PendingOf, Pending}
use Rattle.parallel_relation.specs.Together.{Block, OfTurn, OfTurns, Together}
use Rattle.parallel_relation.specs.Around.{both, at, one, BlockMeets, CallMeets, InsideMeets}
use Rattle.effects.proofs.StatementLemmas.{of_one}

module _ (p : Program) where
  -- what the blocks of a statement have, and the procedure of its call
  abbrev pub Within : (Codes → ℕ → Type 0) → Code → ℕ → Type 0
  Within has (Do s) x = ⊥
  Within has (If t b c) x = has b x ⊎ has c x
  Within has (While t b) x = has b x
  Within has (Split s e l r b) x = has b x
  Within has (Parts s e q i b) x = has b x
  Within has (Begun s n k q i b) x = ⊥
  Within has (Call f es ss) x = has (procedure_of p f).body x
  Within has (Async b) x = has b x
  Within has (Finish b) x = has b x
  Within has (Rescue b n c) x = has b x ⊎ has c x

  -- the labels inside a statement, and in its call
  abbrev pub Done : Code → ℕ → Type 0
  Done s x = Within (All p labels) s x

  -- those that it leaves pending
  abbrev pub Left : Code → ℕ → Type 0
  Left (Async b) x = All p labels b x
  Left (Finish b) x = ⊥
  Left (Rescue b n c) x = Pending p labels c x
  Left s x = Within (Pending p labels) s x

  within_inner : (has : Codes → ℕ → Type 0) {s : Code} {b : Codes} {out : ℕ → ℕ} → Inner p s b out → (x y : ℕ) → has b x → y ≡ x
      → Within has s y
  within_inner has (Inner.if_body {b = b}) x y h e = inl (subst (has b) (sym e) h)
  within_inner has (Inner.if_other {c = c}) x y h e = inr (subst (has c) (sym e) h)
  within_inner has (Inner.while {b = b}) x y h e = subst (has b) (sym e) h
  within_inner has (Inner.split {b = b}) x y h e = subst (has b) (sym e) h
  within_inner has (Inner.parts {b = b}) x y h e = subst (has b) (sym e) h
  within_inner has (Inner.call {f = f}) x y h e = subst (has (procedure_of p f).body) (sym e) h
  within_inner has (Inner.handler {c = c}) x y h e = inr (subst (has c) (sym e) h)

  left_inner : {s : Code} {b : Codes} {out : ℕ → ℕ} → Inner p s b out → (x y : ℕ) → Pending p labels b x → y ≡ x → Left s y
  left_inner (Inner.if_body {b = b}) x y h e = inl (subst (Pending p labels b) (sym e) h)
  left_inner (Inner.if_other {c = c}) x y h e = inr (subst (Pending p labels c) (sym e) h)
  left_inner (Inner.while {b = b}) x y h e = subst (Pending p labels b) (sym e) h
  left_inner (Inner.split {b = b}) x y h e = subst (Pending p labels b) (sym e) h
  left_inner (Inner.parts {b = b}) x y h e = subst (Pending p labels b) (sym e) h
  left_inner (Inner.call {f = f}) x y h e = subst (Pending p labels (procedure_of p f).body) (sym e) h
  left_inner (Inner.handler {c = c}) x y h e = subst (Pending p labels c) (sym e) h

  pub done_of : {l : ℕ} {s : Code} {x : ℕ} → AllOf p labels l s x → (x ≡ l) ⊎ Done s x
  done_of (AllOf.own_access {l = l} {x = x} m) = inl (of_one m)
  done_of (AllOf.inner {x = x} {y = y} i h e) = inr (within_inner (All p labels) i x y h e)
  done_of (AllOf.async h) = inr h
  done_of (AllOf.finish h) = inr h
  done_of (AllOf.rescued h) = inr (inl h)

  pub of_label : (l : ℕ) (s : Code) (x : ℕ) → x ≡ l → AllOf p labels l s x
  of_label l s x e = AllOf.own_access (subst (λ y. Member x (y ∷ [])) e first)

  pub of_done : (l : ℕ) (s : Code) (x : ℕ) → Done s x → AllOf p labels l s x
  of_done l (Do s) x h = absurd h
  of_done l (If t b c) x (inl h) = AllOf.inner Inner.if_body h refl
  of_done l (If t b c) x (inr h) = AllOf.inner Inner.if_other h refl
  of_done l (While t b) x h = AllOf.inner Inner.while h refl
  of_done l (Split s e y z b) x h = AllOf.inner Inner.split h refl
  of_done l (Parts s e q i b) x h = AllOf.inner Inner.parts h refl
  of_done l (Begun s n k q i b) x h = absurd h
  of_done l (Call f es ss) x h = AllOf.inner Inner.call h refl
  of_done l (Async b) x h = AllOf.async h
  of_done l (Finish b) x h = AllOf.finish h
  of_done l (Rescue b n c) x (inl h) = AllOf.rescued h
  of_done l (Rescue b n c) x (inr h) = AllOf.inner Inner.handler h refl

  pub left_of : {s : Code} {x : ℕ} → PendingOf p labels s x → Left s x
  left_of (PendingOf.inner {x = x} {y = y} i h e) = left_inner i x y h e
  left_of (PendingOf.async h) = h

  pub of_left : (s : Code) (x : ℕ) → Left s x → PendingOf p labels s x
  of_left (Do s) x h = absurd h
  of_left (If t b c) x (inl h) = PendingOf.inner Inner.if_body h refl
  of_left (If t b c) x (inr h) = PendingOf.inner Inner.if_other h refl
  of_left (While t b) x h = PendingOf.inner Inner.while h refl
  of_left (Split s e y z b) x h = PendingOf.inner Inner.split h refl
  of_left (Parts s e q i b) x h = PendingOf.inner Inner.parts h refl
  of_left (Begun s n k q i b) x h = absurd h
  of_left (Call f es ss) x h = PendingOf.inner Inner.call h refl
  of_left (Async b) x h = PendingOf.async h
  of_left (Finish b) x h = absurd h
  of_left (Rescue b n c) x h = PendingOf.inner Inner.handler h refl

  -- the pairs inside a statement
  abbrev pub Met : ℕ → Code → ℕ → ℕ → Type 0
  Met l (Do s) x y = ⊥
  Met l (If t b c) x y = Together p labels b x y ⊎ Together p labels c x y
  Met l (While t b) x y = (Pending p labels b x × AllOf p labels l (While t b) y) ⊎ Together p labels b x y
  Met l (Split s e z w b) x y = Together p labels b x y
  Met l (Parts s e q i b) x y = OfTurns p labels l q b x y ⊎ Together p labels b x y
  Met l (Begun s n k q i b) x y = ⊥
  Met l (Call f es ss) x y = ⊥
  Met l (Async b) x y = Together p labels b x y
  Met l (Finish b) x y = Together p labels b x y
  Met l (Rescue b n c) x y = Together p labels b x y ⊎ Together p labels c x y

  met_inside : {s : Code} {b : Codes} → Block s b → (l x y : ℕ) → Together p labels b x y → Met l s x y
  met_inside Block.if_body l x y h = inl h
  met_inside Block.if_other l x y h = inr h
  met_inside Block.while l x y h = inr h
  met_inside Block.split l x y h = h
  met_inside Block.parts l x y h = inr h
  met_inside Block.async l x y h = h
  met_inside Block.finish l x y h = h
  met_inside Block.rescued l x y h = inl h
  met_inside Block.handler l x y h = inr h

  pub of_met : (l : ℕ) (s : Code) (rest : Codes) (x y : ℕ) → Met l s x y → Together p labels (Then l s rest) x y
  of_met l (Do s) rest x y h = absurd h
  of_met l (If t b c) rest x y (inl h) = Together.inside Block.if_body h
  of_met l (If t b c) rest x y (inr h) = Together.inside Block.if_other h
  of_met l (While t b) rest x y (inl h) = Together.turns (of_left (While t b) x h.0) h.1
  of_met l (While t b) rest x y (inr h) = Together.inside Block.while h
  of_met l (Split s e z w b) rest x y h = Together.inside Block.split h
  of_met l (Parts s e q i b) rest x y (inl h) = Together.pieces h
  of_met l (Parts s e q i b) rest x y (inr h) = Together.inside Block.parts h
  of_met l (Begun s n k q i b) rest x y h = absurd h
  of_met l (Call f es ss) rest x y h = absurd h
  of_met l (Async b) rest x y h = Together.inside Block.async h
  of_met l (Finish b) rest x y h = Together.inside Block.finish h
  of_met l (Rescue b n c) rest x y (inl h) = Together.inside Block.rescued h
  of_met l (Rescue b n c) rest x y (inr h) = Together.inside Block.handler h

  -- a turn of a `parts` does what the `parts` does
  of_turn : (l s : ℕ) (e : Number) (q i : ℕ) (b : Codes) (y : ℕ) → OfTurn p labels l b y → AllOf p labels l (Parts s e q i b) y
  of_turn l s e q i b y (inl m) = AllOf.own_access m
  of_turn l s e q i b y (inr h) = AllOf.inner Inner.parts h refl

  to_turn : (l s : ℕ) (e : Number) (q i : ℕ) (b : Codes) (y : ℕ) → AllOf p labels l (Parts s e q i b) y → OfTurn p labels l b y
  to_turn l s e q i b y h = elim (done_of h) [
    | inl k ↦ inl (subst (λ z. Member y (z ∷ [])) k first)
    | inr d ↦ inr d
  ]

  -- the pairs of a list are those of its first statement with the others, those inside it, and
  -- those of the others
  abbrev Splits : ℕ → Code → Codes → ℕ → ℕ → Type 0
  Splits l s rest x y = (PendingOf p labels s x × All p labels rest y) ⊎ (Met l s x y ⊎ Together p labels rest x y)

  met_of : {l : ℕ} {s : Code} {rest : Codes} {x y : ℕ} → Together p labels (Then l s rest) x y → Splits l s rest x y
  met_of (Together.follows f h) = inl (f, h)
  met_of (Together.turns f h) = inr (inl (inl (left_of f, h)))
  met_of (Together.pieces h) = inr (inl (inl h))
  met_of (Together.inside {l = l} {x = x} {y = y} i h) = inr (inl (met_inside i l x y h))
  met_of (Together.later h) = inr (inr h)

  -- there are none after the last statement
  pub none_at_end : {A : Type 0} {x : ℕ} → All p labels End x → A
  none_at_end h = elim h [ ]

  -- those of a statement alone
  pub alone : (l : ℕ) (s : Code) (x y : ℕ) → Together p labels (one l s) x y → Met l s x y
  alone l s x y h = elim (met_of h) [ inl k ↦ none_at_end k.1 | inr k ↦ elim k [ inl m ↦ m | inr t ↦ no_pair t ] ]
    where
      no_pair : {A : Type 0} → Together p labels End x y → A
      no_pair h = elim h [ ]

  pub all_one : (l : ℕ) (s : Code) (x : ℕ) → All p labels (one l s) x → (x ≡ l) ⊎ Done s x
  all_one l s x (All.here h) = done_of h
  all_one l s x (All.later h) = elim h [ ]

  pub pending_one : (l : ℕ) (s : Code) (x : ℕ) → Pending p labels (one l s) x → Left s x
  pending_one l s x (Pending.here h) = left_of h
  pending_one l s x (Pending.later h) = elim h [ ]

  module _ (everything later : ℕ → Type 0) where
    done_found : (l : ℕ) (s : Code) (x y : ℕ) → Done s x → everything y → InsideMeets p everything later l s x y
    done_found l (Do s) x y h k = absurd h
    done_found l (If t b c) x y (inl h) k = inl (BlockMeets.all h k)
    done_found l (If t b c) x y (inr h) k = inr (BlockMeets.all h k)
    done_found l (While t b) x y h k = BlockMeets.all h k
    done_found l (Split s e z w b) x y h k = BlockMeets.all h k
    done_found l (Parts s e q i b) x y h k = BlockMeets.all h k
    done_found l (Begun s n j q i b) x y h k = absurd h
    done_found l (Call f es ss) x y h k = CallMeets.all h k
    done_found l (Async b) x y h k = BlockMeets.all h (inl k)
    done_found l (Finish b) x y h k = BlockMeets.all h k
    done_found l (Rescue b n c) x y (inl h) k = inl (BlockMeets.all h k)
    done_found l (Rescue b n c) x y (inr h) k = inr (BlockMeets.all h k)

    left_found : (l : ℕ) (s : Code) (x y : ℕ) → Left s x → later y → InsideMeets p everything later l s x y
    left_found l (Do s) x y h k = absurd h
    left_found l (If t b c) x y (inl h) k = inl (BlockMeets.pending h k)
    left_found l (If t b c) x y (inr h) k = inr (BlockMeets.pending h k)
    left_found l (While t b) x y h k = BlockMeets.pending h (inl k)
    left_found l (Split s e z w b) x y h k = BlockMeets.pending h k
    left_found l (Parts s e q i b) x y h k = BlockMeets.pending h (inl k)
    left_found l (Begun s n j q i b) x y h k = absurd h
    left_found l (Call f es ss) x y h k = CallMeets.pending h k
    left_found l (Async b) x y h k = BlockMeets.all h (inr k)
    left_found l (Finish b) x y h k = absurd h
    left_found l (Rescue b n c) x y h k = inr (BlockMeets.pending h k)

    met_found : (l : ℕ) (s : Code) (x y : ℕ) → Met l s x y → InsideMeets p everything later l s x y
    met_found l (Do s) x y h = absurd h
    met_found l (If t b c) x y (inl h) = inl (BlockMeets.within h)
    met_found l (If t b c) x y (inr h) = inr (BlockMeets.within h)
    met_found l (While t b) x y (inl h) = BlockMeets.pending h.0 (inr (All.here h.1))
    met_found l (While t b) x y (inr h) = BlockMeets.within h
    met_found l (Split s e z w b) x y h = BlockMeets.within h
    met_found l (Parts s e q i b) x y (inl h) = BlockMeets.pending h.pending (inr (All.here (of_turn l s e q i b y h.later)))
    met_found l (Parts s e q i b) x y (inr h) = BlockMeets.within h
    met_found l (Begun s n k q i b) x y h = absurd h
    met_found l (Call f es ss) x y h = absurd h
    met_found l (Async b) x y h = BlockMeets.within h
    met_found l (Finish b) x y h = BlockMeets.within h
    met_found l (Rescue b n c) x y (inl h) = inl (BlockMeets.within h)
    met_found l (Rescue b n c) x y (inr h) = inr (BlockMeets.within h)

    -- the pairs of a statement are those of its label, and those inside
    pub from_one : (l : ℕ) (s : Code) (x y : ℕ) → BlockMeets p everything later (one l s) x y
        → at l everything x y ⊎ InsideMeets p everything later l s x y
    from_one l s x y (BlockMeets.all h k) = elim (all_one l s x h) [ inl e ↦ inl (e, k) | inr d ↦ inr (done_found l s x y d k) ]
    from_one l s x y (BlockMeets.pending h k) = inr (left_found l s x y (pending_one l s x h) k)
    from_one l s x y (BlockMeets.within h) = inr (met_found l s x y (alone l s x y h))

    all_in_one : (l : ℕ) (s : Code) (x y : ℕ) → Done s x → everything y → BlockMeets p everything later (one l s) x y
    all_in_one l s x y h k = BlockMeets.all (All.here (of_done l s x h)) k

    left_in_one : (l : ℕ) (s : Code) (x y : ℕ) → Left s x → later y → BlockMeets p everything later (one l s) x y
    left_in_one l s x y h k = BlockMeets.pending (Pending.here (of_left s x h)) k

    met_in_one : (l : ℕ) (s : Code) (x y : ℕ) → Met l s x y → BlockMeets p everything later (one l s) x y
    met_in_one l s x y h = BlockMeets.within (of_met l s End x y h)

    pub label_in_one : (l : ℕ) (s : Code) (x y : ℕ) → at l everything x y → BlockMeets p everything later (one l s) x y
    label_in_one l s x y h = BlockMeets.all (All.here (of_label l s x h.0)) h.1

    -- a block whose parts are parts of a statement
    from_block : (l : ℕ) (s : Code) (b : Codes) (x y : ℕ) → (All p labels b x → Done s x) → (Pending p labels b x → Left s x)
        → (Together p labels b x y → Met l s x y) → BlockMeets p everything later b x y → BlockMeets p everything later (one l s) x y
    from_block l s b x y f g m (BlockMeets.all h k) = all_in_one l s x y (f h) k
    from_block l s b x y f g m (BlockMeets.pending h k) = left_in_one l s x y (g h) k
    from_block l s b x y f g m (BlockMeets.within h) = met_in_one l s x y (m h)

    -- what is found inside a statement is of the statement
    pub inside_one : (l : ℕ) (s : Code) (x y : ℕ) → InsideMeets p everything later l s x y → BlockMeets p everything later (one l s) x y
    inside_one l (Do s) x y h = absurd h
    inside_one l (If t b c) x y (inl h) = from_block l (If t b c) b x y (λ k. inl k) (λ k. inl k) (λ k. inl k) h
    inside_one l (If t b c) x y (inr h) = from_block l (If t b c) c x y (λ k. inr k) (λ k. inr k) (λ k. inr k) h
    inside_one l (While t b) x y (BlockMeets.all h k) = all_in_one l (While t b) x y h k
    inside_one l (While t b) x y (BlockMeets.pending h (inl k)) = left_in_one l (While t b) x y h k
    inside_one l (While t b) x y (BlockMeets.pending h (inr (All.here k))) = met_in_one l (While t b) x y (inl (h, k))
    inside_one l (While t b) x y (BlockMeets.pending h (inr (All.later k))) = elim k [ ]
    inside_one l (While t b) x y (BlockMeets.within h) = met_in_one l (While t b) x y (inr h)
    inside_one l (Split s e z w b) x y h = from_block l (Split s e z w b) b x y (λ k. k) (λ k. k) (λ k. k) h
    inside_one l (Parts s e q i b) x y (BlockMeets.all h k) = all_in_one l (Parts s e q i b) x y h k
    inside_one l (Parts s e q i b) x y (BlockMeets.pending h (inl k)) = left_in_one l (Parts s e q i b) x y h k
    inside_one l (Parts s e q i b) x y (BlockMeets.pending h (inr (All.here k))) =
        met_in_one l (Parts s e q i b) x y (inl (record { pending = h; later = to_turn l s e q i b y k; meet = refl }))
    inside_one l (Parts s e q i b) x y (BlockMeets.pending h (inr (All.later k))) = elim k [ ]
    inside_one l (Parts s e q i b) x y (BlockMeets.within h) = met_in_one l (Parts s e q i b) x y (inr h)
    inside_one l (Begun s n k q i b) x y h = absurd h
    inside_one l (Call f es ss) x y (CallMeets.all h k) = all_in_one l (Call f es ss) x y h k
    inside_one l (Call f es ss) x y (CallMeets.pending h k) = left_in_one l (Call f es ss) x y h k
    inside_one l (Async b) x y (BlockMeets.all h (inl k)) = all_in_one l (Async b) x y h k
    inside_one l (Async b) x y (BlockMeets.all h (inr k)) = left_in_one l (Async b) x y h k
    inside_one l (Async b) x y (BlockMeets.pending h k) = absurd k
    inside_one l (Async b) x y (BlockMeets.within h) = met_in_one l (Async b) x y h
    inside_one l (Finish b) x y (BlockMeets.all h k) = all_in_one l (Finish b) x y h k
    inside_one l (Finish b) x y (BlockMeets.pending h k) = absurd k
    inside_one l (Finish b) x y (BlockMeets.within h) = met_in_one l (Finish b) x y h
    inside_one l (Rescue b n c) x y (inl (BlockMeets.all h k)) = all_in_one l (Rescue b n c) x y (inl h) k
    inside_one l (Rescue b n c) x y (inl (BlockMeets.pending h k)) = absurd k
    inside_one l (Rescue b n c) x y (inl (BlockMeets.within h)) = met_in_one l (Rescue b n c) x y (inl h)
    inside_one l (Rescue b n c) x y (inr h) = from_block l (Rescue b n c) c x y (λ k. inr k) (λ k. k) (λ k. inr k) h

    -- the pairs of a list: those of the first statement, which meets the others, and those of the
    -- others
    pub from_list : (l : ℕ) (s : Code) (rest : Codes) (x y : ℕ) → BlockMeets p everything later (Then l s rest) x y
        → BlockMeets p everything later rest x y ⊎ BlockMeets p everything (both later (All p labels rest)) (one l s) x y
    from_list l s rest x y (BlockMeets.all (All.here h) k) = inr (BlockMeets.all (All.here h) k)
    from_list l s rest x y (BlockMeets.all (All.later h) k) = inl (BlockMeets.all h k)
    from_list l s rest x y (BlockMeets.pending (Pending.here h) k) = inr (BlockMeets.pending (Pending.here h) (inl k))
    from_list l s rest x y (BlockMeets.pending (Pending.later h) k) = inl (BlockMeets.pending h k)
    from_list l s rest x y (BlockMeets.within h) = elim (met_of h) [
      | inl k ↦ inr (BlockMeets.pending (Pending.here k.0) (inr k.1))
      | inr k ↦ elim k [
        | inl m ↦ inr (BlockMeets.within (of_met l s End x y m))
        | inr t ↦ inl (BlockMeets.within t)
      ]
    ]

    pub in_later : (l : ℕ) (s : Code) (rest : Codes) (x y : ℕ) → BlockMeets p everything later rest x y
        → BlockMeets p everything later (Then l s rest) x y
    in_later l s rest x y (BlockMeets.all h k) = BlockMeets.all (All.later h) k
    in_later l s rest x y (BlockMeets.pending h k) = BlockMeets.pending (Pending.later h) k
    in_later l s rest x y (BlockMeets.within h) = BlockMeets.within (Together.later h)

    pub in_first : (l : ℕ) (s : Code) (rest : Codes) (x y : ℕ)
        → BlockMeets p everything (both later (All p labels rest)) (one l s) x y → BlockMeets p everything later (Then l s rest) x y
    in_first l s rest x y (BlockMeets.all (All.here h) k) = BlockMeets.all (All.here h) k
    in_first l s rest x y (BlockMeets.all (All.later h) k) = elim h [ ]
    in_first l s rest x y (BlockMeets.pending (Pending.here h) (inl k)) = BlockMeets.pending (Pending.here h) k
    in_first l s rest x y (BlockMeets.pending (Pending.here h) (inr k)) = BlockMeets.within (Together.follows h k)
    in_first l s rest x y (BlockMeets.pending (Pending.later h) k) = elim h [ ]
    in_first l s rest x y (BlockMeets.within h) = BlockMeets.within (of_met l s rest x y (alone l s x y h))
