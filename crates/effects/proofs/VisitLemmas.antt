-- What a statement of a body may do, the body may do, up to the names of sides.
use Rattle.std.proofs.Common.{◌≡◌, inl, inr, ℕ, List, ◌∷◌, ◌++◌, refl, sym, ap, subst, ◌∙◌}
use Rattle.sections.specs.Member.{Member, first, next}
use Rattle.types.specs.Code.{Number, Code, Do, If, While, Split, Parts, Begun, Call, Async, Finish, Rescue, Codes, End, Then}
use Rattle.types.specs.Code.{Procedure, Program}
use Rattle.types.specs.Translation.{codes}
use Rattle.types.specs.declared.code.Stmt.{Stmt}
use Rattle.effects.specs.Effects.{Inner, Subject, AllOf, All, PendingOf, Pending, past_parts, past_split}
use Rattle.effects.specs.Sound.{CutsWell, SplitsWell, FollowsOf, Follows}
use Rattle.effects.specs.Visits.{Visit, visits_in, visits_inside, in_async, in_finish}
use Rattle.effects.specs.declared.visits.Standing.{Standing}
use Rattle.effects.specs.declared.visits.Standing.TheVariants.{Open, Begun, Awaited}
use Rattle.effects.proofs.Dividing.{Divides}
use Rattle.effects.proofs.Members.{in_parts}

-- the visits after others, if the positions and the blocks are the same
pub visits_same : (before : List Visit) {w v : Standing} {b c : List Stmt} → w ≡ v → b ≡ c
    → before ++ visits_in w (codes b) ≡ before ++ visits_in v (codes c)
visits_same before {w} {v} {b} {c} standing block =
    ap (λ u. before ++ visits_in u (codes b)) standing ∙ ap (λ l. before ++ visits_in v (codes l)) block

module _ (p : Program) (subject : Subject) (g : Procedure) (root : ℕ → ℕ)
    (past : (scope : List ℕ) (s l r : ℕ) → Divides g scope s l r → (x : subject.Item)
    → subject.renamed root (subject.renamed (past_split s l r) x) ≡ subject.renamed root x) where
  -- one of these, which has the same name at the root
  pub record Like (those : subject.Item → Type 0) (x : subject.Item) : Type 0 where
    pub item : subject.Item
    pub among : those item
    pub same : subject.renamed root item ≡ subject.renamed root x

  like : {those more : subject.Item → Type 0} {x : subject.Item} → ((y : subject.Item) → those y → more y) → Like those x → Like more x
  like f h = record { item = h.item; among = f h.item h.among; same = h.same }

  -- what the block of a statement may do, the statement may do
  within_if : {l : ℕ} {s : Code} {b : Codes} {x : subject.Item} → Inner p s b (λ k. k) → Like (All p subject b) x → Like (AllOf p subject l s) x
  within_if i h = like (λ y a. AllOf.inner i a (sym (subject.kept y))) h

  within_split : {k s l r : ℕ} {e : Number} {b : Codes} {x : subject.Item} (scope : List ℕ) → SplitsWell g scope s l r
      → Like (All p subject b) x → Like (AllOf p subject k (Split s e l r b)) x
  within_split {s = s} {l = l} {r = r} scope well h = record {
    item = subject.renamed (past_split s l r) h.item;
    among = AllOf.inner Inner.split h.among refl;
    same = past scope s l r (Divides.split well) h.item ∙ h.same;
  }

  within_parts : {k s q i : ℕ} {e : Number} {b : Codes} {x : subject.Item} (scope : List ℕ) → CutsWell g scope s q i
      → Like (All p subject b) x → Like (AllOf p subject k (Parts s e q i b)) x
  within_parts {s = s} {q = q} scope well h = record {
    item = subject.renamed (past_parts s q) h.item;
    among = AllOf.inner Inner.parts h.among refl;
    same = past scope s q q (Divides.parts well) h.item ∙ h.same;
  }

  mutual
    -- what one of its statements may do, a list of statements may do
    pub up : (w : Standing) (b : Codes) (scope : List ℕ) → Follows p g scope b → (v : Visit) → Member v (visits_in w b)
        → (x : subject.Item) → AllOf p subject v.label v.code x → Like (All p subject b) x
    up w End scope h v m x a = elim m [ ]
    up w (Then l s rest) scope h v first x a = record { item = x; among = All.here a; same = refl }
    up w (Then l s rest) scope h v (next m) x a = elim (in_parts (visits_inside w s) m) [
      | inl k ↦ like (λ y. All.here) (up_inside w l s scope h.0 v k x a)
      | inr k ↦ like (λ y. All.later) (up w rest scope h.1 v k x a)
    ]

    up_inside : (w : Standing) (l : ℕ) (s : Code) (scope : List ℕ) → FollowsOf p g scope s → (v : Visit) → Member v (visits_inside w s)
        → (x : subject.Item) → AllOf p subject v.label v.code x → Like (AllOf p subject l s) x
    up_inside w l (Do s) scope h v m x a = elim m [ ]
    up_inside w l (If t b c) scope h v m x a = elim (in_parts (visits_in w b) m) [
      | inl k ↦ within_if Inner.if_body (up w b scope h.1 v k x a)
      | inr k ↦ within_if Inner.if_other (up w c scope h.2 v k x a)
    ]
    up_inside w l (While t b) scope h v m x a = within_if Inner.while (up w b scope h.1 v m x a)
    up_inside w l (Split s e y z b) scope h v m x a = within_split scope h.0 (up w b (y ∷ z ∷ scope) h.2 v m x a)
    up_inside w l (Parts s e q i b) scope h v m x a = within_parts scope h.0 (up w b (q ∷ scope) h.2 v m x a)
    up_inside w l (Begun s n k q i b) scope h v m x a = elim m [ ]
    up_inside w l (Call f es ss) scope h v m x a = elim m [ ]
    up_inside w l (Async b) scope h v m x a = like (λ y. AllOf.async) (up (in_async w) b scope h v m x a)
    up_inside w l (Finish b) scope h v m x a = like (λ y. AllOf.finish) (up (in_finish w) b scope h v m x a)
    up_inside w l (Rescue b n c) scope h v m x a = elim (in_parts (visits_in (in_finish w) b) m) [
      | inl k ↦ like (λ y. AllOf.rescued) (up (in_finish w) b scope h.0 v k x a)
      | inr k ↦ within_if Inner.handler (up w c scope h.2 v k x a)
    ]

-- inside an async or a finish, all statements have its position
mutual
  standing_in : (w : Standing) → in_async w ≡ w → in_finish w ≡ w → (b : Codes) (v : Visit) → Member v (visits_in w b) → v.standing ≡ w
  standing_in w a f End v m = elim m [ ]
  standing_in w a f (Then l s rest) v first = refl
  standing_in w a f (Then l s rest) v (next m) = elim (in_parts (visits_inside w s) m) [
    | inl k ↦ standing_inside w a f s v k
    | inr k ↦ standing_in w a f rest v k
  ]

  standing_inside : (w : Standing) → in_async w ≡ w → in_finish w ≡ w → (s : Code) (v : Visit) → Member v (visits_inside w s)
      → v.standing ≡ w
  standing_inside w a f (Do s) v m = elim m [ ]
  standing_inside w a f (If t b c) v m = elim (in_parts (visits_in w b) m) [
    | inl k ↦ standing_in w a f b v k
    | inr k ↦ standing_in w a f c v k
  ]
  standing_inside w a f (While t b) v m = standing_in w a f b v m
  standing_inside w a f (Split s e y z b) v m = standing_in w a f b v m
  standing_inside w a f (Parts s e q i b) v m = standing_in w a f b v m
  standing_inside w a f (Begun s n k q i b) v m = elim m [ ]
  standing_inside w a f (Call g es ss) v m = elim m [ ]
  standing_inside w a f (Async b) v m = standing_in w a f b v (subst (λ (u : Standing). Member v (visits_in u b)) a m)
  standing_inside w a f (Finish b) v m = standing_in w a f b v (subst (λ (u : Standing). Member v (visits_in u b)) f m)
  standing_inside w a f (Rescue b n c) v m = elim (in_parts (visits_in (in_finish w) b) m) [
    | inl k ↦ standing_in w a f b v (subst (λ (u : Standing). Member v (visits_in u b)) f k)
    | inr k ↦ standing_in w a f c v k
  ]

module _ (p : Program) (subject : Subject) (g : Procedure) (root : ℕ → ℕ)
    (past : (scope : List ℕ) (s l r : ℕ) → Divides g scope s l r → (x : subject.Item)
    → subject.renamed root (subject.renamed (past_split s l r) x) ≡ subject.renamed root x) where
  -- what a statement in this position leaves pending after the body has finished
  abbrev pub Leaves : Standing → Visit → subject.Item → Type 0
  Leaves Open v x = PendingOf p subject v.code x
  Leaves Begun v x = AllOf p subject v.label v.code x
  Leaves Awaited v x = ⊥

  left_within : {those more : subject.Item → Type 0} {x : subject.Item} → ((y : subject.Item) → those y → more y)
      → Like p subject g root past those x → Like p subject g root past more x
  left_within f h = record { item = h.item; among = f h.item h.among; same = h.same }

  left_split : {s l r : ℕ} {e : Number} {b : Codes} {x : subject.Item} (scope : List ℕ) → SplitsWell g scope s l r
      → Like p subject g root past (Pending p subject b) x → Like p subject g root past (PendingOf p subject (Split s e l r b)) x
  left_split {s = s} {l = l} {r = r} scope well h = record {
    item = subject.renamed (past_split s l r) h.item;
    among = PendingOf.inner Inner.split h.among refl;
    same = past scope s l r (Divides.split well) h.item ∙ h.same;
  }

  left_parts : {s q i : ℕ} {e : Number} {b : Codes} {x : subject.Item} (scope : List ℕ) → CutsWell g scope s q i
      → Like p subject g root past (Pending p subject b) x → Like p subject g root past (PendingOf p subject (Parts s e q i b)) x
  left_parts {s = s} {q = q} scope well h = record {
    item = subject.renamed (past_parts s q) h.item;
    among = PendingOf.inner Inner.parts h.among refl;
    same = past scope s q q (Divides.parts well) h.item ∙ h.same;
  }

  mutual
    -- what one of its statements leaves pending, a list of statements leaves pending
    pub left_up : (b : Codes) (scope : List ℕ) → Follows p g scope b → (v : Visit) → Member v (visits_in Open b)
        → (x : subject.Item) → Leaves v.standing v x → Like p subject g root past (Pending p subject b) x
    left_up End scope h v m x a = elim m [ ]
    left_up (Then l s rest) scope h v first x a = record { item = x; among = Pending.here a; same = refl }
    left_up (Then l s rest) scope h v (next m) x a = elim (in_parts (visits_inside Open s) m) [
      | inl k ↦ left_within (λ y. Pending.here) (left_inside s scope h.0 v k x a)
      | inr k ↦ left_within (λ y. Pending.later) (left_up rest scope h.1 v k x a)
    ]

    left_inside : (s : Code) (scope : List ℕ) → FollowsOf p g scope s → (v : Visit) → Member v (visits_inside Open s)
        → (x : subject.Item) → Leaves v.standing v x → Like p subject g root past (PendingOf p subject s) x
    left_inside (Do s) scope h v m x a = elim m [ ]
    left_inside (If t b c) scope h v m x a = elim (in_parts (visits_in Open b) m) [
      | inl k ↦ left_within (λ y q. PendingOf.inner Inner.if_body q (sym (subject.kept y))) (left_up b scope h.1 v k x a)
      | inr k ↦ left_within (λ y q. PendingOf.inner Inner.if_other q (sym (subject.kept y))) (left_up c scope h.2 v k x a)
    ]
    left_inside (While t b) scope h v m x a =
        left_within (λ y q. PendingOf.inner Inner.while q (sym (subject.kept y))) (left_up b scope h.1 v m x a)
    left_inside (Split s e y z b) scope h v m x a = left_split scope h.0 (left_up b (y ∷ z ∷ scope) h.2 v m x a)
    left_inside (Parts s e q i b) scope h v m x a = left_parts scope h.0 (left_up b (q ∷ scope) h.2 v m x a)
    left_inside (Begun s n k q i b) scope h v m x a = elim m [ ]
    left_inside (Call f es ss) scope h v m x a = elim m [ ]
    left_inside (Async b) scope h v m x a =
        let all = subst (λ (w : Standing). Leaves w v x) (standing_in Begun refl refl b v m) a in
        left_within (λ y. PendingOf.async) (up p subject g root past Begun b scope h v m x all)
    left_inside (Finish b) scope h v m x a =
        absurd (subst (λ (w : Standing). Leaves w v x) (standing_in Awaited refl refl b v m) a)
    left_inside (Rescue b n c) scope h v m x a = elim (in_parts (visits_in Awaited b) m) [
      | inl k ↦ absurd (subst (λ (w : Standing). Leaves w v x) (standing_in Awaited refl refl b v k) a)
      | inr k ↦ left_within (λ y q. PendingOf.inner Inner.handler q (sym (subject.kept y))) (left_up c scope h.2 v k x a)
    ]
