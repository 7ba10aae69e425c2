-- A way leads to all that statements do, or leave pending, and to nothing else.
use Rattle.std.proofs.Common.{◌≡◌, ℕ, zero, suc, ◌<◌, List, [], ◌∷◌, length, refl, sym, ◌∙◌, subst, arith}
use Rattle.std.specs.Prelude.{Bool, true, false, None, Some, slice_get}
use Rattle.std.proofs.lemmas.Option.{slice_get-get_or}
use Rattle.types.specs.Code.{Code, If, While, Split, Parts, Call, Async, Rescue, Codes, Then, Procedure, Program}
use Rattle.types.specs.Run.{procedure_of}
use Rattle.effects.specs.Accesses.{Access}
use Rattle.types.specs.Sound.{passed_for}
use Rattle.effects.specs.Effects.{accesses, renamed, Inner, AllOf, All, PendingOf, Pending}
use Rattle.effects.specs.Sound.{IsSound, Follows, FollowsOf, parameters_of}
use Rattle.effects.proofs.AccessesInScope.{allowed, pending_all}
use Rattle.effects.proofs.Members.{numbers_from-below}
use Rattle.witness.specs.Ways.{Goes, Way, WayOf, step}
use Rattle.witness.specs.declared.step.Rule.{Rule}
use Rattle.witness.specs.declared.step.WayStep.{WayStep}

module _ (p : Program) where
  -- there is a way from a statement, or from a list
  pub record HasWayOf (m : Bool) (l : ℕ) (s : Code) (x : Access) : Type 0 where
    pub steps : List WayStep
    pub leads : WayOf p m l s steps x

  pub record HasWay (m : Bool) (b : Codes) (x : Access) : Type 0 where
    pub steps : List WayStep
    pub leads : Way p m b steps x

  by_rule : {m n : Bool} {l : ℕ} {s : Code} {rule : Rule} {b : Codes} {inner : ℕ} {x : Access}
      → Goes p m s rule n b x.section inner → HasWay n b (record x { section = inner }) → HasWayOf m l s x
  by_rule {l = l} {rule = rule} {x = x} g h = record { steps = step l rule x.section ∷ h.steps; leads = WayOf.by g h.leads }

  here : {m : Bool} {l : ℕ} {s : Code} {rest : Codes} {x : Access} → HasWayOf m l s x → HasWay m (Then l s rest) x
  here h = record { steps = h.steps; leads = Way.here h.leads }

  later : {m : Bool} {l : ℕ} {s : Code} {rest : Codes} {x : Access} → HasWay m rest x → HasWay m (Then l s rest) x
  later h = record { steps = h.steps; leads = Way.later h.leads }

  module _ (sound : IsSound p) where
    -- what a procedure does is done to its parameters
    below_parameters : (f : ℕ) (x : Access) → All p accesses (procedure_of p f).body x → x.section < length (procedure_of p f).parameters
    below_parameters f x h =
        let callee = sound.procedures f in
        numbers_from-below (length (procedure_of p f).parameters) x.section
        (allowed p sound h (procedure_of p f) (parameters_of (procedure_of p f)) callee.numbered callee.body).in_scope

    -- a block of a statement that follows the rules
    record Within (m : Bool) (s : Code) (b : Codes) (out : ℕ → ℕ) (x : Access) : Type 0 where
      rule : Rule
      goes : Goes p m s rule m b (out x.section) x.section
      around : Procedure
      scope : List ℕ
      follows : Follows p around scope b

    within : {s : Code} {b : Codes} {out : ℕ → ℕ} → Inner p s b out → (m : Bool) (x : Access) → All p accesses b x
        → (g : Procedure) (scope : List ℕ) → FollowsOf p g scope s → Within m s b out x
    within Inner.if_body m x h g scope k = record { rule = _; goes = Goes.body; around = g; scope = scope; follows = k.1 }
    within Inner.if_other m x h g scope k = record { rule = _; goes = Goes.other; around = g; scope = scope; follows = k.2 }
    within Inner.while m x h g scope k = record { rule = _; goes = Goes.turn; around = g; scope = scope; follows = k.1 }
    within (Inner.split {s} {e} {l} {r} {b}) m x h g scope k =
        record { rule = _; goes = Goes.side; around = g; scope = l ∷ r ∷ scope; follows = k.2 }
    within (Inner.parts {q = q}) m x h g scope k =
        record { rule = _; goes = Goes.piece; around = g; scope = q ∷ scope; follows = k.2 }
    within (Inner.call {f} {es} {ss}) m x h g scope k =
        let below = below_parameters f x h in
        record {
          rule = _;
          goes = Goes.enter (slice_get-get_or ss x.section 0 (let n : length ss ≡ length (procedure_of p f).parameters = k.passes.number in omega arith)) below;
          around = procedure_of p f;
          scope = parameters_of (procedure_of p f);
          follows = (sound.procedures f).body;
        }
    within (Inner.handler {n = n}) m x h g scope k =
        record { rule = _; goes = Goes.handler; around = g; scope = scope; follows = k.2 }

    mutual
      pub done_of : {l : ℕ} {s : Code} {x : Access} → AllOf p accesses l s x → (g : Procedure) (scope : List ℕ) → FollowsOf p g scope s
          → HasWayOf false l s x
      done_of (AllOf.own_access h) g scope k = record { steps = _; leads = WayOf.own h }
      done_of (AllOf.inner {l} {s} {b} {out} {x} {y} i h e) g scope k =
          let w = within i false x h g scope k in
          subst (HasWayOf false l s) (sym e) (by_rule {x = renamed out x} w.goes (done h w.around w.scope w.follows))
      done_of (AllOf.async h) g scope k = by_rule Goes.begin (done h g scope k)
      done_of (AllOf.finish h) g scope k = by_rule Goes.await (done h g scope k)
      done_of (AllOf.rescued h) g scope k = by_rule Goes.rescued (done h g scope k.0)

      -- what a list may do has a way
      pub done : {b : Codes} {x : Access} → All p accesses b x → (g : Procedure) (scope : List ℕ) → Follows p g scope b → HasWay false b x
      done (All.here h) g scope k = here (done_of h g scope k.0)
      done (All.later h) g scope k = later (done h g scope k.1)

    mutual
      pub left_of : {l : ℕ} {s : Code} {x : Access} → PendingOf p accesses s x → (g : Procedure) (scope : List ℕ) → FollowsOf p g scope s
          → HasWayOf true l s x
      left_of {l} (PendingOf.inner {s} {b} {out} {x} {y} i h e) g scope k =
          let w = within i true x (pending_all p h) g scope k in
          subst (HasWayOf true l s) (sym e) (by_rule {x = renamed out x} w.goes (left h w.around w.scope w.follows))
      left_of (PendingOf.async h) g scope k = by_rule Goes.begin (done h g scope k)

      -- what a list leaves pending has a way
      pub left : {b : Codes} {x : Access} → Pending p accesses b x → (g : Procedure) (scope : List ℕ) → Follows p g scope b → HasWay true b x
      left (Pending.here h) g scope k = here (left_of h g scope k.0)
      left (Pending.later h) g scope k = later (left h g scope k.1)

  -- conversely, by a rule a statement does, or leaves pending, what the list inside does
  abbrev pub DoesOf : (pending : Bool) → (label : ℕ) → Code → Access → Type 0
  DoesOf false l s x = AllOf p accesses l s x
  DoesOf true l s x = PendingOf p accesses s x

  abbrev pub Does : (pending : Bool) → Codes → Access → Type 0
  Does false b x = All p accesses b x
  Does true b x = Pending p accesses b x

  inner_of : (m : Bool) (l : ℕ) {s : Code} {b : Codes} {out : ℕ → ℕ} (x : Access) → Inner p s b out → Does m b x → DoesOf m l s (renamed out x)
  inner_of true l x i h = PendingOf.inner i h refl
  inner_of false l x i h = AllOf.inner i h refl

  begun : (m : Bool) (l : ℕ) (b : Codes) (x : Access) → All p accesses b x → DoesOf m l (Async b) x
  begun true l b x h = PendingOf.async h
  begun false l b x h = AllOf.async h

  ruled : {m n : Bool} {s : Code} {rule : Rule} {b : Codes} {outer inner : ℕ} → Goes p m s rule n b outer inner
      → (l : ℕ) (x : Access) → x.section ≡ outer → Does n b (record x { section = inner }) → DoesOf m l s x
  ruled (Goes.body {m} {t} {b} {c} {s}) l x e h = subst (λ z. DoesOf m l (If t b c) (record x { section = z })) (sym e) (inner_of m l (record x { section = s }) Inner.if_body h)
  ruled (Goes.other {m} {t} {b} {c} {s}) l x e h = subst (λ z. DoesOf m l (If t b c) (record x { section = z })) (sym e) (inner_of m l (record x { section = s }) Inner.if_other h)
  ruled (Goes.turn {m} {t} {b} {s}) l x e h = subst (λ z. DoesOf m l (While t b) (record x { section = z })) (sym e) (inner_of m l (record x { section = s }) Inner.while h)
  ruled (Goes.side {m = m} {s = s} {e = a} {l = i} {r = r} {b = b} {x = y}) l x e h =
      subst (λ z. DoesOf m l (Split s a i r b) (record x { section = z })) (sym e) (inner_of m l (record x { section = y }) Inner.split h)
  ruled (Goes.piece {m = m} {s = s} {e = a} {q = q} {i = i} {b = b} {x = y}) l x e h =
      subst (λ z. DoesOf m l (Parts s a q i b) (record x { section = z })) (sym e) (inner_of m l (record x { section = y }) Inner.parts h)
  ruled (Goes.enter {m} {f} {es} {ss} {s} {k} there below) l x e h =
      subst (λ z. DoesOf m l (Call f es ss) (record x { section = z })) (passed ss k s there ∙ sym e) (inner_of m l (record x { section = k }) Inner.call h)
    where
      passed : (ss : List ℕ) (k s : ℕ) → slice_get ss k ≡ Some s → passed_for ss k ≡ s
      passed [] k s q = absurd (none q)
        where
          none : None ≡ Some s → ⊥
          none q = cc
      passed (t ∷ ss) zero s q = cc
      passed (t ∷ ss) (suc k) s q = passed ss k s q
  ruled (Goes.begin {m} {b} {s}) l x e h = begun m l b x (subst (λ z. All p accesses b (record x { section = z })) (sym e) h)
  ruled (Goes.await {b} {s}) l x e h = AllOf.finish (subst (λ z. All p accesses b (record x { section = z })) (sym e) h)
  ruled (Goes.rescued {b = b}) l x e h = AllOf.rescued (subst (λ z. All p accesses b (record x { section = z })) (sym e) h)
  ruled (Goes.handler {m} {n} {b} {c} {s}) l x e h =
      subst (λ z. DoesOf m l (Rescue b n c) (record x { section = z })) (sym e) (inner_of m l (record x { section = s }) Inner.handler h)

  in_front : (m : Bool) (l : ℕ) (s : Code) (rest : Codes) (x : Access) → DoesOf m l s x → Does m (Then l s rest) x
  in_front true l s rest x h = Pending.here h
  in_front false l s rest x h = All.here h

  behind : (m : Bool) (l : ℕ) (s : Code) (rest : Codes) (x : Access) → Does m rest x → Does m (Then l s rest) x
  behind true l s rest x h = Pending.later h
  behind false l s rest x h = All.later h

  mutual
    -- a way leads to what is done, or left pending
    pub leads_of : {m : Bool} {l : ℕ} {s : Code} {steps : List WayStep} {x : Access} → WayOf p m l s steps x → DoesOf m l s x
    leads_of (WayOf.own h) = AllOf.own_access h
    leads_of (WayOf.by {m} {n} {l} {s} {rule} {b} {inner} {steps} {x} g w) = ruled g l x refl (leads_in w)

    pub leads_in : {m : Bool} {b : Codes} {steps : List WayStep} {x : Access} → Way p m b steps x → Does m b x
    leads_in (Way.here {m} {l} {s} {rest} {steps} {x} w) = in_front m l s rest x (leads_of w)
    leads_in (Way.later {m} {l} {s} {rest} {steps} {x} w) = behind m l s rest x (leads_in w)
