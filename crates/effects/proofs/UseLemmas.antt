-- Uses where a list of sets has grown, or one of them has changed.
use Rattle.std.proofs.Common.{◌≡◌, ◌⊎◌, inl, inr, ℕ, zero, suc, ◌<◌, ◌≤◌, List, [], ◌∷◌, ◌++◌, length, get_or, refl, sym, ap, subst, ◌∙◌, arith}
use Rattle.std.proofs.Common.{Option, Some, None}
use Rattle.std.proofs.Math.ListN.{set}
use Rattle.std.proofs.lemmas.Option.{slice_get_read, slice_get_past}
use Rattle.std.specs.Prelude.{◌↔◌, Bool, true, false, slice_get}
use Rattle.shared_lemmas.proofs.Truths.{false_true}
use Rattle.effects.specs.Accesses.{Access}
use Rattle.effects.specs.AccessSets.{HasAccess, IsUseOf, uses_of}
use Rattle.effects.specs.LabelSets.{HasLabel}
use Rattle.effects.specs.UseSets.{HasIn, HasUse}
use Rattle.effects.specs.declared.accesses.Accesses.{Accesses}
use Rattle.effects.specs.declared.label_set.LabelSet.{LabelSet}
use Rattle.effects.specs.declared.uses.Uses.{Uses}

-- one more set, without a label
pub has_pushed : (xs : List LabelSet) (x : LabelSet) → ((l : ℕ) → HasLabel x l → ⊥) → (s l : ℕ)
    → HasIn (slice_get (xs ++ x ∷ []) s) l ↔ HasIn (slice_get xs s) l
has_pushed [] x none zero l = (none l, λ h. absurd h)
has_pushed [] x none (suc s) l = (λ h. h, λ h. h)
has_pushed (y ∷ ys) x none zero l = (λ h. h, λ h. h)
has_pushed (y ∷ ys) x none (suc s) l = has_pushed ys x none s l

-- one of the sets has more labels
pub has_set : (xs : List LabelSet) (i : ℕ) (y : LabelSet) (more : ℕ → Type 0) → i < length xs
    → ((l : ℕ) → HasLabel y l ↔ (HasIn (slice_get xs i) l ⊎ more l)) → (s l : ℕ)
    → HasIn (slice_get (set xs i y) s) l ↔ (HasIn (slice_get xs s) l ⊎ ((s ≡ i) × more l))
has_set [] i y more h both s l = absurd (omega (arith, h))
has_set (x ∷ xs) zero y more h both zero l = (
  λ k. elim ((both l).0 k) [ inl a ↦ inl a | inr b ↦ inr (refl, b) ],
  λ k. (both l).1 (elim k [ inl a ↦ inl a | inr b ↦ inr b.1 ]),
)
has_set (x ∷ xs) zero y more h both (suc s) l =
    (λ k. inl k, λ k. elim k [ inl a ↦ a | inr b ↦ let e : suc s ≡ zero = b.0 in absurd (omega arith) ])
has_set (x ∷ xs) (suc i) y more h both zero l =
    (λ k. inl k, λ k. elim k [ inl a ↦ a | inr b ↦ let e : zero ≡ suc i = b.0 in absurd (omega arith) ])
has_set (x ∷ xs) (suc i) y more h both (suc s) l =
    let deeper = has_set xs i y more (omega (arith, h)) both s l in (
      λ k. elim (deeper.0 k) [ inl a ↦ inl a | inr b ↦ inr (ap suc b.0, b.1) ],
      λ k. deeper.1 (elim k [ inl a ↦ inl a | inr b ↦ inr (let e : suc s ≡ suc i = b.0 in omega arith, b.1) ]),
    )

-- what is read from a list is in the list
pub found : (xs ys : List LabelSet) (s : ℕ) (x : LabelSet) → xs ≡ ys → s < length xs → x ≡ get_or xs s x → slice_get ys s ≡ Some x
found xs ys s x e h at = ap (λ (zs : List LabelSet). slice_get zs s) (sym e) ∙ slice_get_read xs (length xs) s x refl h at

pub missing : (xs ys : List LabelSet) (s : ℕ) → xs ≡ ys → length xs ≤ s → slice_get ys s ≡ None
missing xs ys s e h = ap (λ (zs : List LabelSet). slice_get zs s) (sym e) ∙ slice_get_past xs s h

pub has_found : (o : Option LabelSet) (x : LabelSet) (l : ℕ) → o ≡ Some x → HasLabel x l ↔ HasIn o l
has_found o x l e = (λ h. subst (λ (p : Option LabelSet). HasIn p l) (sym e) h, λ h. subst (λ (p : Option LabelSet). HasIn p l) e h)

pub has_none : (o : Option LabelSet) (l : ℕ) → o ≡ None → HasIn o l → ⊥
has_none o l e h = subst (λ (p : Option LabelSet). HasIn p l) e h

-- the set that is read there has more labels
pub has_set_at : (xs : List LabelSet) (i : ℕ) (x y : LabelSet) (more : ℕ → Type 0) → i < length xs → x ≡ get_or xs i x
    → ((l : ℕ) → HasLabel y l ↔ (HasLabel x l ⊎ more l)) → (s l : ℕ)
    → HasIn (slice_get (set xs i y) s) l ↔ (HasIn (slice_get xs s) l ⊎ ((s ≡ i) × more l))
has_set_at xs i x y more h at both =
    has_set xs i y more h (subst (λ (o : Option LabelSet). (l : ℕ) → HasLabel y l ↔ (HasIn o l ⊎ more l)) (sym (found xs xs i x refl h at)) both)

-- equivalent facts may replace each other
pub through : {A B C M : Type 0} → A ↔ (B ⊎ M) → B ↔ C → A ↔ (C ⊎ M)
through f g = (λ a. elim (f.0 a) [ inl b ↦ inl (g.0 b) | inr m ↦ inr m ], λ h. f.1 (elim h [ inl c ↦ inl (g.1 c) | inr m ↦ inr m ]))

-- uses of one kind have grown, and those of the other kind have not
grown_uses : (old new : Uses) (s : ℕ) {b w : Bool} (more : ℕ → Type 0) → b ≡ w
    → ((t l : ℕ) → HasUse new t l ↔ (HasUse old t l ⊎ ((t ≡ s) × more l)))
    → (t l : ℕ) → HasUse new t l ↔ (HasUse old t l ⊎ (((t ≡ s) × (b ≡ w)) × more l))
grown_uses old new s more e both t l = (
  λ h. elim ((both t l).0 h) [ inl a ↦ inl a | inr b ↦ inr ((b.0, e), b.1) ],
  λ h. (both t l).1 (elim h [ inl a ↦ inl a | inr b ↦ inr (b.0.0, b.1) ]),
)

other_uses : (old : Uses) (s : ℕ) {b w : Bool} (more : ℕ → Type 0) → (b ≡ w → ⊥)
    → (t l : ℕ) → HasUse old t l ↔ (HasUse old t l ⊎ (((t ≡ s) × (b ≡ w)) × more l))
other_uses old s more ne t l = (λ h. inl h, λ h. elim h [ inl a ↦ a | inr b ↦ absurd (ne b.0.1) ])

written_case : (old : Accesses) (new : Uses) (s : ℕ) (w : Bool) (more : ℕ → Type 0) → w ≡ true
    → ((t l : ℕ) → HasUse new t l ↔ (HasUse old.writes t l ⊎ ((t ≡ s) × more l))) → (b : Bool) (t l : ℕ)
    → HasUse (uses_of (record old { writes = new }) b) t l ↔ (HasUse (uses_of old b) t l ⊎ (((t ≡ s) × (b ≡ w)) × more l))
written_case old new s w more e both true = grown_uses old.writes new s more (sym e) both
written_case old new s w more e both false = other_uses old.reads s more (λ f. false_true (f ∙ e))

-- the uses that write have grown
pub written : (old : Accesses) (new : Uses) (s : ℕ) (w : Bool) (more : ℕ → Type 0) → w ≡ true
    → ((t l : ℕ) → HasUse new t l ↔ (HasUse old.writes t l ⊎ ((t ≡ s) × more l))) → (x : Access)
    → HasAccess (record old { writes = new }) x ↔ (HasAccess old x ⊎ (IsUseOf s w x × more x.label))
unfolding HasAccess
written old new s w more e both x = written_case old new s w more e both x.write x.section x.label

read_case : (old : Accesses) (new : Uses) (s : ℕ) (w : Bool) (more : ℕ → Type 0) → w ≡ false
    → ((t l : ℕ) → HasUse new t l ↔ (HasUse old.reads t l ⊎ ((t ≡ s) × more l))) → (b : Bool) (t l : ℕ)
    → HasUse (uses_of (record old { reads = new }) b) t l ↔ (HasUse (uses_of old b) t l ⊎ (((t ≡ s) × (b ≡ w)) × more l))
read_case old new s w more e both false = grown_uses old.reads new s more (sym e) both
read_case old new s w more e both true = other_uses old.writes s more (λ f. false_true (sym e ∙ sym f))

-- the uses that read have grown
pub are_read : (old : Accesses) (new : Uses) (s : ℕ) (w : Bool) (more : ℕ → Type 0) → w ≡ false
    → ((t l : ℕ) → HasUse new t l ↔ (HasUse old.reads t l ⊎ ((t ≡ s) × more l))) → (x : Access)
    → HasAccess (record old { reads = new }) x ↔ (HasAccess old x ⊎ (IsUseOf s w x × more x.label))
unfolding HasAccess
are_read old new s w more e both x = read_case old new s w more e both x.write x.section x.label

-- a set that has a label is in the list
pub stands_within : (xs : List LabelSet) (s l : ℕ) → HasIn (slice_get xs s) l → s < length xs
stands_within [] zero l h = absurd h
stands_within [] (suc s) l h = absurd h
stands_within (x ∷ xs) zero l h = omega arith
stands_within (x ∷ xs) (suc s) l h = let k = stands_within xs s l h in omega (arith, k)

kind_within : (xs : Accesses) (n : ℕ) → ((s l : ℕ) → HasUse xs.reads s l → s < n) → ((s l : ℕ) → HasUse xs.writes s l → s < n)
    → (w : Bool) (s l : ℕ) → HasUse (uses_of xs w) s l → s < n
kind_within xs n reads writes true s l h = writes s l h
kind_within xs n reads writes false s l h = reads s l h

-- sections past both ends are not accessed
pub accessed_within : (xs : Accesses) (r w n : ℕ) → ((s l : ℕ) → HasUse xs.reads s l → s < r)
    → ((s l : ℕ) → HasUse xs.writes s l → s < w) → r ≤ n → w ≤ n → (x : Access) → HasAccess xs x → x.section < n
unfolding HasAccess
accessed_within xs r w n reads writes a b x h =
    kind_within xs n (λ s l k. let i = reads s l k in omega (arith, i, a)) (λ s l k. let i = writes s l k in omega (arith, i, b))
    x.write x.section x.label h
