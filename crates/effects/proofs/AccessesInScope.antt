-- What a sound program accesses is in scope, and is written only if that is allowed.
use Rattle.std.proofs.Common.{◌≡◌, ◌≢◌, ℕ, zero, suc, ◌+◌, ◌<◌, List, [], ◌∷◌, length, refl, sym, ap, ◌∙◌, subst}
use Rattle.std.proofs.Common.{arith}
use Rattle.std.proofs.lemmas.Bool.{eq-eqb, ne_eqb}
use Rattle.std.specs.Prelude.{Bool, true, false, ◌||◌, nat_eq, if◌then◌else◌, Some, slice_get, unwrap_or}
use Rattle.shared_lemmas.proofs.Truths.{false_true}
use Rattle.sections.specs.Origins.{Origin, Root, origin_of, IsNumbered, IsChildOf, left, right, piece}
use Rattle.sections.specs.Member.{Member, first, next}
use Rattle.sections.proofs.Lines.{root_of-root, root_of-side}
use Rattle.types.specs.Code.{Code, Codes, Procedure, Program}
use Rattle.types.specs.Run.{procedure_of}
use Rattle.effects.specs.Accesses.{Access, own_accesses}
use Rattle.types.specs.Sound.{passed_for}
use Rattle.effects.specs.Effects.{past_parts, past_split, renamed, Inner, AllOf, All, PendingOf, Pending, accesses}
use Rattle.effects.specs.Sound.{may_write, is_writable, Allowed, CutsWell, SplitsWell, PassesWell, Follows, FollowsOf}
use Rattle.effects.specs.Sound.{IsSoundIn, IsSound, parameters_of}
use Rattle.effects.proofs.Members.{numbers_from-below}
use Rattle.effects.proofs.OwnAllowed.{own_allowed}

pub origin_from_get : (origins : List Origin) (k : ℕ) → slice_get origins k ≡ Some Root → origin_of origins k ≡ Root
origin_from_get [] k e = refl
origin_from_get (o ∷ os) zero e = ap (λ x. unwrap_or x Root) e
origin_from_get (o ∷ os) (suc k) e = origin_from_get os k e

-- after a split, its sides are their parent, and other sections stay
by_left : (b c : Bool) (x y : ℕ) → b ≡ true → (if b || c then x else y) ≡ x
by_left true c x y h = refl
by_left false c x y h = false_true h

by_right : (b c : Bool) (x y : ℕ) → c ≡ true → (if b || c then x else y) ≡ x
by_right true c x y h = refl
by_right false true x y h = refl
by_right false false x y h = false_true h

by_neither : (b c : Bool) (x y : ℕ) → b ≡ false → c ≡ false → (if b || c then x else y) ≡ y
by_neither true c x y h k = false_true (sym h)
by_neither false true x y h k = false_true (sym k)
by_neither false false x y h k = refl

pub past_split-left : (s l r : ℕ) → past_split s l r l ≡ s
past_split-left s l r = by_left (nat_eq l l) (nat_eq r l) s l (eq-eqb l l refl)

pub past_split-right : (s l r : ℕ) → past_split s l r r ≡ s
past_split-right s l r = by_right (nat_eq l r) (nat_eq r r) s r (eq-eqb r r refl)

pub past_split-other : (s l r x : ℕ) → l ≢ x → r ≢ x → past_split s l r x ≡ x
past_split-other s l r x f g = by_neither (nat_eq l x) (nat_eq r x) s x (ne_eqb l x f) (ne_eqb r x g)

module _ (p : Program) where
  -- the section of an access, renamed
  moved : (g : Procedure) (scope : List ℕ) (x : Access) (out : ℕ → ℕ) (s : ℕ) → out x.section ≡ s
      → Member s scope → (x.write ≡ true → is_writable g s ≡ true) → Allowed g scope (renamed out x)
  moved g scope x out s e m w = record {
    in_scope = subst (λ s. Member s scope) (sym e) m;
    writable = λ h. subst (λ s. is_writable g s ≡ true) (sym e) (w h);
  }

  -- a side's root is its parent's
  side_writable : (g : Procedure) (s a : ℕ) → IsNumbered g.sections → IsChildOf g.sections s a
      → is_writable g a ≡ true → is_writable g s ≡ true
  side_writable g s a numbered side w = subst (λ r. may_write g.parameters r ≡ true) (root_of-side g.sections numbered a s side) w

  past_split_allowed : (g : Procedure) (scope : List ℕ) → IsNumbered g.sections
      → (s l r : ℕ) → SplitsWell g scope s l r → (x : Access)
      → Member x.section (l ∷ r ∷ scope) → (x.write ≡ true → is_writable g x.section ≡ true)
      → Allowed g scope (renamed (past_split s l r) x)
  past_split_allowed g scope numbered s l r k x m w = go x.section refl m
    where
      go : (y : ℕ) → x.section ≡ y → Member y (l ∷ r ∷ scope) → Allowed g scope (renamed (past_split s l r) x)
      go y e first = moved g scope x (past_split s l r) s (ap (past_split s l r) e ∙ past_split-left s l r) k.in_scope
          (λ h. side_writable g s l numbered (left k.left) (subst (λ y. is_writable g y ≡ true) e (w h)))
      go y e (next first) = moved g scope x (past_split s l r) s (ap (past_split s l r) e ∙ past_split-right s l r) k.in_scope
          (λ h. side_writable g s r numbered (right k.right) (subst (λ y. is_writable g y ≡ true) e (w h)))
      go y e (next (next m)) = moved g scope x (past_split s l r) y
          (ap (past_split s l r) e ∙ past_split-other s l r y (let h : y < l = k.later y m in omega arith)
          (let h : y < l = k.later y m in let n : r ≡ l + 1 = k.next in omega arith))
          m (λ h. subst (λ y. is_writable g y ≡ true) e (w h))

  past_parts_allowed : (g : Procedure) (scope : List ℕ) → IsNumbered g.sections
      → (s q i : ℕ) → CutsWell g scope s q i → (x : Access)
      → Member x.section (q ∷ scope) → (x.write ≡ true → is_writable g x.section ≡ true)
      → Allowed g scope (renamed (past_parts s q) x)
  past_parts_allowed g scope numbered s q i k x m w = go x.section refl m
    where
      go : (y : ℕ) → x.section ≡ y → Member y (q ∷ scope) → Allowed g scope (renamed (past_parts s q) x)
      go y e first = moved g scope x (past_parts s q) s (ap (past_parts s q) e ∙ past_split-left s q q) k.in_scope
          (λ h. side_writable g s q numbered (piece k.piece) (subst (λ y. is_writable g y ≡ true) e (w h)))
      go y e (next m) = moved g scope x (past_parts s q) y
          (ap (past_parts s q) e ∙ past_split-other s q q y (let h : y < q = k.later y m in omega arith)
          (let h : y < q = k.later y m in omega arith))
          m (λ h. subst (λ y. is_writable g y ≡ true) e (w h))

  past_call_allowed : (g : Procedure) (scope : List ℕ) (f : ℕ) (ss : List ℕ)
      → IsSoundIn p (procedure_of p f) → PassesWell g scope (procedure_of p f).parameters ss
      → (x : Access) → Allowed (procedure_of p f) (parameters_of (procedure_of p f)) x
      → Allowed g scope (renamed (passed_for ss) x)
  past_call_allowed g scope f ss sound k x a =
      let n : x.section < length (procedure_of p f).parameters =
      numbers_from-below (length (procedure_of p f).parameters) x.section a.in_scope in
      record {
        in_scope = k.in_scope x.section (let e : length ss ≡ length (procedure_of p f).parameters = k.number in omega arith);
        writable = λ h. k.writable x.section (subst (λ r. may_write (procedure_of p f).parameters r ≡ true)
            (root_of-root (procedure_of p f).sections x.section
            (origin_from_get (procedure_of p f).sections x.section (sound.first x.section n))) (a.writable h));
      }

  module _ (sound : IsSound p) where
    -- if a block is allowed an access, so is its statement, in the names around it
    through : {s : Code} {b : Codes} {out : ℕ → ℕ} → Inner p s b out → (x : Access)
        → ((g : Procedure) (scope : List ℕ) → IsNumbered g.sections → Follows p g scope b → Allowed g scope x)
        → (g : Procedure) (scope : List ℕ) → IsNumbered g.sections → FollowsOf p g scope s
        → Allowed g scope (renamed out x)
    through Inner.if_body x deeper g scope numbered k = deeper g scope numbered k.1
    through Inner.if_other x deeper g scope numbered k = deeper g scope numbered k.2
    through Inner.while x deeper g scope numbered k = deeper g scope numbered k.1
    through (Inner.split {s = s} {l = l} {r = r}) x deeper g scope numbered k =
        let a = deeper g (l ∷ r ∷ scope) numbered k.2 in
        past_split_allowed g scope numbered s l r k.0 x a.in_scope a.writable
    through (Inner.parts {s = s} {q = q} {i = i}) x deeper g scope numbered k =
        let a = deeper g (q ∷ scope) numbered k.2 in
        past_parts_allowed g scope numbered s q i k.0 x a.in_scope a.writable
    through (Inner.call {f = f} {ss = ss}) x deeper g scope numbered k =
        let callee = sound.procedures f in
        past_call_allowed g scope f ss callee k.passes x (deeper (procedure_of p f) (parameters_of (procedure_of p f)) callee.numbered callee.body)
    through Inner.handler x deeper g scope numbered k = deeper g scope numbered k.2

    mutual
      -- what a statement may access is in scope, and is written only if that is allowed
      pub allowed_of : {l : ℕ} {s : Code} {x : Access} → AllOf p accesses l s x
          → (g : Procedure) (scope : List ℕ) → IsNumbered g.sections
          → ((y : Access) → Member y (own_accesses l s) → Allowed g scope y) → FollowsOf p g scope s → Allowed g scope x
      allowed_of (AllOf.own_access {x = x} h) g scope numbered o k = o x h
      allowed_of (AllOf.inner {x = x} i h e) g scope numbered o k =
          subst (Allowed g scope) (sym e) (through i x (allowed h) g scope numbered k)
      allowed_of (AllOf.async h) g scope numbered o k = allowed h g scope numbered k
      allowed_of (AllOf.finish h) g scope numbered o k = allowed h g scope numbered k
      allowed_of (AllOf.rescued h) g scope numbered o k = allowed h g scope numbered k.0

      pub allowed : {b : Codes} {x : Access} → All p accesses b x
          → (g : Procedure) (scope : List ℕ) → IsNumbered g.sections → Follows p g scope b → Allowed g scope x
      allowed (All.here {l = l} {s = s} h) g scope numbered k = allowed_of h g scope numbered (own_allowed p g scope l s k.0) k.0
      allowed (All.later h) g scope numbered k = allowed h g scope numbered k.1

  mutual
    -- what is left pending is among all
    pub pending_of_all : {l : ℕ} {s : Code} {x : Access} → PendingOf p accesses s x → AllOf p accesses l s x
    pending_of_all (PendingOf.inner i h e) = AllOf.inner i (pending_all h) e
    pending_of_all (PendingOf.async h) = AllOf.async h

    pub pending_all : {b : Codes} {x : Access} → Pending p accesses b x → All p accesses b x
    pending_all (Pending.here h) = All.here (pending_of_all h)
    pending_all (Pending.later h) = All.later (pending_all h)
