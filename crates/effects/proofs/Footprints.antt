-- Footprints across a call, a split and a turn of a `parts`.
use Rattle.std.proofs.Common.{◌≡◌, ◌⊎◌, inl, inr, ℕ, ◌<◌, List, length, map, Some, ℤ, refl, sym, ap, ◌∙◌, subst}
use Rattle.std.proofs.Common.{arith, true≢false}
use Rattle.std.specs.Prelude.{Bool, true, false, ◌||◌, nat_eq, if◌then◌else◌, flat_map, ◌↔◌}
use Rattle.sections.specs.Place.{Place, Window, In, sides_of, piece_of, nowhere}
use Rattle.sections.specs.Member.{Member}
use Rattle.sections.proofs.Pieces.{piece_inside}
use Rattle.sections.proofs.Windows.{sides_of-cut, left_inside, right_inside}
use Rattle.types.specs.Code.{Number, Do, If, While, Split, Parts, Begun, Call, Async, Finish, Rescue, Codes, End, Then, Program}
use Rattle.types.specs.Indexed.{indexed}
use Rattle.types.specs.Value.{Environment}
use Rattle.types.specs.Run.{procedure_of, entry, with_sides, with_piece}
use Rattle.effects.specs.Accesses.{Access, own_accesses, reads}
use Rattle.types.specs.Sound.{passed_for}
use Rattle.effects.specs.Effects.{past_parts, past_split, renamed, Inner, AllOf, All, PendingOf, Pending, accesses}
use Rattle.effects.specs.Footprint.{Touches, Overwrites, MayTouch, MayWrite, MayTouchOf, MayWriteOf, MayStillTouch}
use Rattle.effects.specs.Footprint.{MayStillWrite, MayStillTouchOf, MayStillWriteOf, TurnsTouch, TurnsWrite}
use Rattle.effects.specs.Sound.{IsSound, parameters_of}
use Rattle.effects.proofs.Members.{from_map, numbers_from-below}
use Rattle.effects.proofs.AccessesInScope.{allowed, pending_all}
use Rattle.effects.proofs.EnvironmentsFit.{by_number-map}

-- what is overwritten is touched
pub overwrites_touch : (env : Environment) (xs : Access → Type 0) (q : Place) → Overwrites env xs q → Touches env xs q
overwrites_touch env xs q t = record { access = t.access; among = t.among; place = t.place }

-- what turns to come may write they may touch
pub turns_write_touch : (p : Program) (env : Environment) (b : Codes) (q : Place) → TurnsWrite p env b q → TurnsTouch p env b q
turns_write_touch p env End q h = h
turns_write_touch p env (Then l (Begun s n k x i b) rest) q (inl t) = inl (record {
  number = t.number;
  later = t.later;
  left = t.left;
  there = overwrites_touch _ (All p accesses b) q t.there;
})
turns_write_touch p env (Then l (Begun s n k x i b) rest) q (inr h) = inr (turns_write_touch p env rest q h)
turns_write_touch p env (Then l (Do s) rest) q h = turns_write_touch p env rest q h
turns_write_touch p env (Then l (If t b c) rest) q h = turns_write_touch p env rest q h
turns_write_touch p env (Then l (While t b) rest) q h = turns_write_touch p env rest q h
turns_write_touch p env (Then l (Split s e x y b) rest) q h = turns_write_touch p env rest q h
turns_write_touch p env (Then l (Parts s e x i b) rest) q h = turns_write_touch p env rest q h
turns_write_touch p env (Then l (Call f es ss) rest) q h = turns_write_touch p env rest q h
turns_write_touch p env (Then l (Async b) rest) q h = turns_write_touch p env rest q h
turns_write_touch p env (Then l (Finish b) rest) q h = turns_write_touch p env rest q h
turns_write_touch p env (Then l (Rescue b n c) rest) q h = turns_write_touch p env rest q h

-- Renaming, and places

module _ (env other : Environment) (xs ys : Access → Type 0) (out : ℕ → ℕ) (among : (x : Access) → xs x → ys (renamed out x))
    (q : Place) (places : (x : Access) → xs x → In (env.windows x.section) q → In (other.windows (out x.section)) q) where
  -- what is touched by the one is touched by the other
  pub touches_renamed : Touches env xs q → Touches other ys q
  touches_renamed t = record { access = renamed out t.access; among = among t.access t.among; place = places t.access t.among t.place }

  pub overwrites_renamed : Overwrites env xs q → Overwrites other ys q
  overwrites_renamed t = record {
    access = renamed out t.access;
    among = among t.access t.among;
    place = places t.access t.among t.place;
    writes = t.writes;
  }

-- A call

reads_only : (l : ℕ) (ss : List ℕ) (x : Access) → Member x (reads l ss) → x.write ≡ false
reads_only l ss x h = let r = from_map (λ s. record { label = l; section = s; write = false }) ss h in ap (λ (y : Access). y.write) r.2

module _ (p : Program) where
  -- what comes from the body of a call
  pub record FromBody (xs : Codes → Access → Type 0) (f : ℕ) (ss : List ℕ) (y : Access) : Type 0 where
    pub access : Access
    pub among : xs (procedure_of p f).body access
    pub same : y ≡ renamed (passed_for ss) access

  all_of_call : {l f : ℕ} {es : List Number} {ss : List ℕ} (y : Access) → AllOf p accesses l (Call f es ss) y
      → Member y (own_accesses l (Call f es ss)) ⊎ FromBody (All p accesses) f ss y
  all_of_call y (AllOf.own_access h) = inl h
  all_of_call y (AllOf.inner {x = x} Inner.call h e) = inr (record { access = x; among = h; same = e })

  pending_of_call : {f : ℕ} {es : List Number} {ss : List ℕ} (y : Access) → PendingOf p accesses (Call f es ss) y
      → FromBody (Pending p accesses) f ss y
  pending_of_call y (PendingOf.inner {x = x} Inner.call h e) = record { access = x; among = h; same = e }

  module _ (sound : IsSound p) (env : Environment) (l f : ℕ) (es : List Number) (ss : List ℕ) (values : List ℤ)
      (number : length ss ≡ length (procedure_of p f).parameters) (q : Place) where
    abbrev inside : Environment
    inside = entry values (map env.windows ss)

    passed : (x : Access) → All p accesses (procedure_of p f).body x → inside.windows x.section ≡ env.windows (passed_for ss x.section)
    passed x h =
        let g = sound.procedures f in
        let a = allowed p sound h (procedure_of p f) (parameters_of (procedure_of p f)) g.numbered g.body in
        let n : x.section < length (procedure_of p f).parameters =
        numbers_from-below (length (procedure_of p f).parameters) x.section a.in_scope in
        by_number-map env.windows nowhere 0 ss x.section (omega arith)

    into : (x : Access) → All p accesses (procedure_of p f).body x → In (inside.windows x.section) q
        → In (env.windows (passed_for ss x.section)) q
    into x h k = subst (λ w. In w q) (passed x h) k

    from : (xs : Codes → Access → Type 0) → ((x : Access) → xs (procedure_of p f).body x → All p accesses (procedure_of p f).body x)
        → (y : Access) → (b : FromBody xs f ss y) → In (env.windows y.section) q → In (inside.windows b.access.section) q
    from xs all y b k =
        subst (λ w. In w q) (sym (passed b.access (all b.access b.among))) (subst (λ (y : Access). In (env.windows y.section) q) b.same k)

    -- from a statement's accesses to its body's
    touch_body : (xs : Codes → Access → Type 0) → ((x : Access) → xs (procedure_of p f).body x → All p accesses (procedure_of p f).body x)
        → (y : Access) → FromBody xs f ss y → In (env.windows y.section) q → Touches inside (xs (procedure_of p f).body) q
    touch_body xs all y b k = record { access = b.access; among = b.among; place = from xs all y b k }

    overwrite_body : (xs : Codes → Access → Type 0)
        → ((x : Access) → xs (procedure_of p f).body x → All p accesses (procedure_of p f).body x)
        → (y : Access) → FromBody xs f ss y → In (env.windows y.section) q → y.write ≡ true
        → Overwrites inside (xs (procedure_of p f).body) q
    overwrite_body xs all y b k w =
        record { access = b.access; among = b.among; place = from xs all y b k; writes = ap (λ (y : Access). y.write) (sym b.same) ∙ w }

    reads_of_call : MayTouchOf p env l (Call f es ss) q
        → Touches env (λ x. Member x (own_accesses l (Call f es ss))) q ⊎ MayTouch p inside (procedure_of p f).body q
    reads_of_call t = elim (all_of_call t.access t.among) [
      | inl h ↦ inl (record { access = t.access; among = h; place = t.place })
      | inr b ↦ inr (touch_body (All p accesses) (λ x h. h) t.access b t.place)
    ]

    call_reads : Touches env (λ x. Member x (own_accesses l (Call f es ss))) q ⊎ MayTouch p inside (procedure_of p f).body q
        → MayTouchOf p env l (Call f es ss) q
    call_reads (inl t) = record { access = t.access; among = AllOf.own_access t.among; place = t.place }
    call_reads (inr t) =
        touches_renamed inside env (All p accesses (procedure_of p f).body) (AllOf p accesses l (Call f es ss)) (passed_for ss)
        (λ x h. AllOf.inner Inner.call h refl) q into t

    -- apart from its own reads, a call may touch what its body may touch; and so on
    pub call-reads : MayTouchOf p env l (Call f es ss) q ↔
        (Touches env (λ x. Member x (own_accesses l (Call f es ss))) q ⊎ MayTouch p inside (procedure_of p f).body q)
    call-reads = (reads_of_call, call_reads)

    writes_of_call : MayWriteOf p env l (Call f es ss) q → MayWrite p inside (procedure_of p f).body q
    writes_of_call t = elim (all_of_call t.access t.among) [
      | inl h ↦ absurd (true≢false (sym t.writes ∙ reads_only l (flat_map indexed es) t.access h))
      | inr b ↦ overwrite_body (All p accesses) (λ x h. h) t.access b t.place t.writes
    ]

    pub call-writes : MayWriteOf p env l (Call f es ss) q ↔ MayWrite p inside (procedure_of p f).body q
    call-writes = (
      writes_of_call,
      overwrites_renamed inside env (All p accesses (procedure_of p f).body) (AllOf p accesses l (Call f es ss)) (passed_for ss)
          (λ x h. AllOf.inner Inner.call h refl) q into,
    )

    pub call-pending_reads : MayStillTouchOf p env (Call f es ss) q ↔ MayStillTouch p inside (procedure_of p f).body q
    call-pending_reads = (
      λ t. touch_body (Pending p accesses) (λ x h. pending_all p h) t.access (pending_of_call t.access t.among) t.place,
      touches_renamed inside env (Pending p accesses (procedure_of p f).body) (PendingOf p accesses (Call f es ss)) (passed_for ss)
          (λ x h. PendingOf.inner Inner.call h refl) q
          (λ x h. into x (pending_all p h)),
    )

    pub call-pending_writes : MayStillWriteOf p env (Call f es ss) q ↔ MayStillWrite p inside (procedure_of p f).body q
    call-pending_writes = (
      λ t. overwrite_body (Pending p accesses) (λ x h. pending_all p h) t.access (pending_of_call t.access t.among) t.place t.writes,
      overwrites_renamed inside env (Pending p accesses (procedure_of p f).body) (PendingOf p accesses (Call f es ss)) (passed_for ss)
          (λ x h. PendingOf.inner Inner.call h refl) q
          (λ x h. into x (pending_all p h)),
    )

-- A split

side_place : (b c : Bool) (v w : Window) (env : ℕ → Window) (s x : ℕ) (q : Place) → (In v q → In (env s) q) → (In w q → In (env s) q)
    → In (if b then v else if c then w else env x) q → In (env (if b || c then s else x)) q
side_place true c v w env s x q f g h = f h
side_place false true v w env s x q f g h = g h
side_place false false v w env s x q f g h = h

module _ (p : Program) (env : Environment) (s : ℕ) (e : Number) (l r : ℕ) (b : Codes) (v : ℤ) (ws : Window × Window)
    (cut : sides_of (env.windows s) v ≡ Some (ws.0, ws.1)) (label : ℕ) (q : Place) where
  outside : (x : ℕ) → In ((with_sides l r ws env).windows x) q → In (env.windows (past_split s l r x)) q
  outside x h =
      let c = sides_of-cut (env.windows s) ws.0 ws.1 v cut in
      side_place (nat_eq l x) (nat_eq r x) ws.0 ws.1 env.windows s x q (left_inside c q) (right_inside c q) h

  -- what the block of a split may do in its environment, the split may do in the environment around it
  pub split-reads : MayTouch p (with_sides l r ws env) b q → MayTouchOf p env label (Split s e l r b) q
  split-reads =
      touches_renamed (with_sides l r ws env) env (All p accesses b) (AllOf p accesses label (Split s e l r b)) (past_split s l r)
      (λ x h. AllOf.inner Inner.split h refl) q (λ x h. outside x.section)

  pub split-writes : MayWrite p (with_sides l r ws env) b q → MayWriteOf p env label (Split s e l r b) q
  split-writes =
      overwrites_renamed (with_sides l r ws env) env (All p accesses b) (AllOf p accesses label (Split s e l r b)) (past_split s l r)
      (λ x h. AllOf.inner Inner.split h refl) q (λ x h. outside x.section)

  pub split-pending_reads : MayStillTouch p (with_sides l r ws env) b q → MayStillTouchOf p env (Split s e l r b) q
  split-pending_reads =
      touches_renamed (with_sides l r ws env) env (Pending p accesses b) (PendingOf p accesses (Split s e l r b)) (past_split s l r)
      (λ x h. PendingOf.inner Inner.split h refl) q (λ x h. outside x.section)

  pub split-pending_writes : MayStillWrite p (with_sides l r ws env) b q → MayStillWriteOf p env (Split s e l r b) q
  split-pending_writes =
      overwrites_renamed (with_sides l r ws env) env (Pending p accesses b) (PendingOf p accesses (Split s e l r b)) (past_split s l r)
      (λ x h. PendingOf.inner Inner.split h refl) q (λ x h. outside x.section)

-- A turn of a `parts`

piece_place : (b : Bool) (v : Window) (env : ℕ → Window) (s x : ℕ) (q : Place) → (In v q → In (env s) q)
    → In (if b then v else env x) q → In (env (if b || b then s else x)) q
piece_place true v env s x q f h = f h
piece_place false v env s x q f h = h

module _ (p : Program) (env : Environment) (s : ℕ) (e : Number) (x i : ℕ) (b : Codes) (n k : ℕ) (w : Window)
    (cut : piece_of (env.windows s) n k ≡ Some w) (label : ℕ) (q : Place) where
  abbrev turned : Environment
  turned = with_piece x i w k env

  around : (y : ℕ) → In (turned.windows y) q → In (env.windows (past_parts s x y)) q
  around y h =
      piece_place (nat_eq x y) w env.windows s y q (piece_inside (env.windows s) w n k cut q) h

  -- what the block of a turn may do in its environment, the `parts` may do in the environment around it
  pub turn-reads : MayTouch p turned b q → MayTouchOf p env label (Parts s e x i b) q
  turn-reads =
      touches_renamed turned env (All p accesses b) (AllOf p accesses label (Parts s e x i b)) (past_parts s x)
      (λ y h. AllOf.inner Inner.parts h refl) q (λ y h. around y.section)

  pub turn-writes : MayWrite p turned b q → MayWriteOf p env label (Parts s e x i b) q
  turn-writes =
      overwrites_renamed turned env (All p accesses b) (AllOf p accesses label (Parts s e x i b)) (past_parts s x)
      (λ y h. AllOf.inner Inner.parts h refl) q (λ y h. around y.section)

  pub turn-pending_reads : MayStillTouch p turned b q → MayStillTouchOf p env (Parts s e x i b) q
  turn-pending_reads =
      touches_renamed turned env (Pending p accesses b) (PendingOf p accesses (Parts s e x i b)) (past_parts s x)
      (λ y h. PendingOf.inner Inner.parts h refl) q (λ y h. around y.section)

  pub turn-pending_writes : MayStillWrite p turned b q → MayStillWriteOf p env (Parts s e x i b) q
  turn-pending_writes =
      overwrites_renamed turned env (Pending p accesses b) (PendingOf p accesses (Parts s e x i b)) (past_parts s x)
      (λ y h. PendingOf.inner Inner.parts h refl) q (λ y h. around y.section)
