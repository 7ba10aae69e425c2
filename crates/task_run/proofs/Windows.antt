-- Windows as sets of places: of elements, of sides, of sections.
use Rattle.std.proofs.lemmas.Option.{none-some, same_Some}
use Rattle.std.proofs.Common.{◌≡◌, ℕ, zero, suc, ◌+◌, ◌-◌, ◌<◌, List, [], ◌∷◌, length, Option, Some, None, Ok, Err}
use Rattle.std.proofs.Common.{refl, sym, ap, ◌∙◌, subst, inl, inr, arith}
use Rattle.std.proofs.lemmas.Bool.{leb-true, eqb-true, eqb-false, or_left, or_cases, or_right}
use Rattle.std.specs.Prelude.{ℤ, pos, negsuc, ◌⊎◌, ◌≢◌, Bool, true, false, ◌||◌, nat_eq, nat_le, ok_or, map}
use Rattle.std.specs.Prelude.{slice_index_or, if◌then◌else◌}
use Rattle.shared_lemmas.proofs.Truths.{false_true}
use Rattle.sections.specs.Covers.{is_in}
use Rattle.sections.proofs.Covering.{in_window, is_in-from}
use Rattle.types.proofs.Bindings.{bind_here}
use Rattle.sections.specs.Place.{Place, Window, In, nowhere, sides_of, has_piece, piece_at, piece_of}
use Rattle.sections.specs.Member.{Member, first, next}
use Rattle.types.specs.declared.fault.FaultKind.{FaultKind}
use Rattle.types.specs.declared.fault.FaultKind.TheVariants.{SplitPoint}
use Rattle.types.specs.Value.{Environment, Valued}
use Rattle.types.specs.Run.{bind, with_piece, with_sides}
use Rattle.types.specs.Sound.{passed_for}
use Rattle.effects.specs.Effects.{past_split}
use Rattle.race_checker.specs.Scope.{Scope, Top, Inside, AtPiece, InScope, FitsScope, FitsTop}
use Rattle.task_run.specs.Places.{named}
use Rattle.race_checker.proofs.Scoping.{bit_inside}

-- a section of a list whose window has the place
pub record Names (env : Environment) (ss : List ℕ) (q : Place) : Type 0 where
  pub section : ℕ
  pub listed : Member section ss
  pub place : In (env.windows section) q

pub named_some : (env : Environment) (ss : List ℕ) (q : Place) → named env ss q ≡ true → Names env ss q
named_some env [] q h = absurd (false_true h)
named_some env (s ∷ ss) q h = elim (or_cases (is_in (env.windows s) q) _ h) as (λ _. Names env (s ∷ ss) q) [
  | inl y ↦ record { section = s; listed = first; place = in_window (env.windows s) q y }
  | inr n ↦
      let k = named_some env ss q n in
      record { section = k.section; listed = next k.listed; place = k.place }
]

pub some_named : (env : Environment) (ss : List ℕ) (s : ℕ) (q : Place) → Member s ss → In (env.windows s) q
    → named env ss q ≡ true
some_named env [] s q m i = elim m [ ]
some_named env (t ∷ ss) s q first i = or_left (is_in (env.windows s) q) _ (is_in-from (env.windows s) q i)
some_named env (t ∷ ss) s q (next m) i = or_right (is_in (env.windows t) q) _ (some_named env ss s q m i)

-- ---- elements and sides
not_ok : {A : Type 0} {f : FaultKind} {x : A} → Err f ≡ Ok x → ⊥
not_ok {A} e = subst Fails e tt
  where
    Fails : Valued A → Type 0
    Fails (Err f) = Unit {0}
    Fails (Ok x) = ⊥

abbrev good : {A : Type 0} → A → Valued A
good x = Ok x

ok_same : {A : Type 0} {x y : A} → good x ≡ good y → x ≡ y
ok_same {A} {x} e = ap or_x e
  where
    or_x : Valued A → A
    or_x (Ok y) = y
    or_x (Err f) = x

pub sides_some : (o : Option (Window × Window)) (ws : Window × Window) → ok_or o SplitPoint ≡ Ok ws → o ≡ Some ws
sides_some None ws e = absurd (not_ok e)
sides_some (Some v) ws e = ap Some (ok_same e)

-- both sides of a window are inside it
pub sides_in : (w : Window) (v : ℤ) (l r : Window) → sides_of w v ≡ Some (l, r) → (q : Place) → (In l q → In w q) × (In r q → In w q)
sides_in w (negsuc n) l r e q = absurd (none-some _ e)
sides_in w (pos n) l r e q = by_test (nat_le n w.length) refl e
  where
    both : Window × Window
    both = (record w { length = n }, record w { at = w.at + n; length = w.length - n })

    by_test : (b : Bool) → nat_le n w.length ≡ b → (if b then Some both else None) ≡ Some (l, r) → (In l q → In w q) × (In r q → In w q)
    by_test true t e =
        let k : both ≡ (l, r) = same_Some _ _ e in
        let le = leb-true n w.length t in (
          (λ i. let j : In both.0 q = subst (λ ws. In ws.0 q) (sym k) i in let h =
              j.high in record { array = j.array; low = j.low; high = omega (arith, h, le) }),
          (λ i. let j : In both.1 q = subst (λ ws. In ws.1 q) (sym k) i in let h = j.high in let g =
              j.low in record { array = j.array; low = omega (arith, g); high = omega (arith, h, le) }),
        )
    by_test false t e = absurd (none-some _ e)

-- no place is in the window `nowhere`
pub not_nowhere : (q : Place) → In nowhere q → ⊥
not_nowhere q i = let h = i.high in let l = i.low in omega (arith, h, l)

-- ---- the sections of a split, seen from outside of it
pub split_in : (s x y : ℕ) (v w : Window) (f : ℕ → Window) (q : Place) → (In v q → In (f s) q) → (In w q → In (f s) q)
    → (z : ℕ) → In (bind x v (bind y w f) z) q → In (f (past_split s x y z)) q
split_in s x y v w f q g h z i = by_tests (nat_eq x z) (nat_eq y z) i
  where
    by_tests : (a b : Bool) → In (if a then v else (if b then w else f z)) q → In (f (if a || b then s else z)) q
    by_tests true b i = g i
    by_tests false true i = h i
    by_tests false false i = i

-- the sections of a call, seen from outside of it
pub call_in : (f : ℕ → Window) (q : Place) (ss : List ℕ) (k : ℕ) → In (slice_index_or (map f ss) k nowhere) q → In (f (passed_for ss k)) q
call_in f q [] k i = absurd (not_nowhere q i)
call_in f q (s ∷ ss) zero i = i
call_in f q (s ∷ ss) (suc k) i = call_in f q ss k i

pub passed_same : (f g : ℕ → Window) (ss : List ℕ) (k : ℕ) → f (passed_for ss k) ≡ g (passed_for ss k)
    → slice_index_or (map f ss) k nowhere ≡ slice_index_or (map g ss) k nowhere
passed_same f g [] k e = refl
passed_same f g (s ∷ ss) zero e = e
passed_same f g (s ∷ ss) (suc k) e = passed_same f g ss k e

-- ---- windows that agree on the names in question
pub bind_other : {A : Type 0} (x : ℕ) (v : A) (f : ℕ → A) (z : ℕ) → (z ≡ x → ⊥) → bind x v f z ≡ f z
bind_other {A} x v f z n = by_test (nat_eq x z) refl
  where
    by_test : (b : Bool) → nat_eq x z ≡ b → (if b then v else f z) ≡ f z
    by_test true e = absurd (n (sym (eqb-true x z e)))
    by_test false e = refl

pub fits_top : (ms : List Bool) (env new : Environment) → ((s : ℕ) → s < length ms → new.windows s ≡ env.windows s) → FitsTop ms env
    → FitsTop ms new
fits_top ms env new e h j k may lt ne q a b =
    h j k may lt ne q (subst (λ w. In w q) (e j (bit_inside ms j may)) a) (subst (λ w. In w q) (e k lt) b)

-- whether windows fit depends only on the windows in scope
pub fits_same : (sc : Scope) (env new : Environment) → ((s : ℕ) → InScope sc s → new.windows s ≡ env.windows s) → FitsScope sc env
    → FitsScope sc new
fits_same (Top ms) env new e h = fits_top ms env new e h
fits_same (Inside s x y around) env new e h = (
  fits_same around env new (λ z i. e z (inr (inr i))) h.0,
  h.1,
  (
    h.2.0,
    ap (λ w. sides_of w h.2.0) (e s (inr (inr h.1)))
        ∙ h.2.1
        ∙ ap (λ w. Some (w, env.windows y)) (sym (e x (inl refl)))
        ∙ ap (λ w. Some (new.windows x, w)) (sym (e y (inr (inl refl)))),
  ),
)
fits_same (AtPiece s q around) env new e h = (
  fits_same around env new (λ z i. e z (inr i)) h.0,
  h.1,
  (
    h.2.0,
    h.2.1,
    ap (λ w. piece_of w h.2.0 h.2.1) (e s (inr h.1)) ∙ h.2.2 ∙ ap (λ w. Some w) (sym (e q (inl refl))),
  ),
)

-- outside of a split's body its sides are out of scope
pub around_split : (sc : Scope) (x y : ℕ) (ws : Window × Window) (env : Environment) → (InScope sc x → ⊥) → (InScope sc y → ⊥)
    → (z : ℕ) → InScope sc z → (with_sides x y ws env).windows z ≡ env.windows z
around_split sc x y ws env nx ny z i =
    bind_other x ws.0 (bind y ws.1 env.windows) z (λ e. nx (subst (InScope sc) e i))
    ∙ bind_other y ws.1 env.windows z (λ e. ny (subst (InScope sc) e i))

-- what fits outside also fits within a split
pub fits_split : (sc : Scope) (s x y : ℕ) (v : ℤ) (ws : Window × Window) (env : Environment) → InScope sc s → (InScope sc x → ⊥)
    → (InScope sc y → ⊥) → x ≢ y → sides_of (env.windows s) v ≡ Some ws → FitsScope sc env
    → FitsScope (Inside s x y sc) (with_sides x y ws env)
fits_split sc s x y v ws env is nx ny ne e h =
    let new = with_sides x y ws env in (
      fits_same sc env new (around_split sc x y ws env nx ny) h,
      is,
      (
        v,
        ap (λ w. sides_of w v) (around_split sc x y ws env nx ny s is)
            ∙ e
            ∙ ap (λ w. Some (w, ws.1)) (sym (bind_here x ws.0 (bind y ws.1 env.windows)))
            ∙ ap (λ w. Some (new.windows x, w))
            (sym (bind_other x ws.0 (bind y ws.1 env.windows) y (λ e. ne (sym e)) ∙ bind_here y ws.1 env.windows)),
      ),
    )

-- two environments that agree on a section agree on it within a split too, and also on the sides
pub split_agree : (x y : ℕ) (ws : Window × Window) (f g : ℕ → Window) (z : ℕ) → (z ≡ x) ⊎ (z ≡ y) ⊎ (f z ≡ g z)
    → bind x ws.0 (bind y ws.1 f) z ≡ bind x ws.0 (bind y ws.1 g) z
split_agree x y ws f g z h = by_tests (nat_eq x z) (nat_eq y z) refl refl
  where
    by_tests : (a b : Bool) → nat_eq x z ≡ a → nat_eq y z ≡ b
        → (if a then ws.0 else (if b then ws.1 else f z)) ≡ (if a then ws.0 else (if b then ws.1 else g z))
    by_tests true b e k = refl
    by_tests false true e k = refl
    by_tests false false e k = elim h as (λ _. f z ≡ g z) [
      | inl m ↦ absurd (eqb-false x z e (sym m))
      | inr n ↦ elim n as (λ _. f z ≡ g z) [ inl m ↦ absurd (eqb-false y z k (sym m)) | inr m ↦ m ]
    ]

-- ---- a turn of a `parts`
pub piece_cut : (w : Window) (n k : ℕ) → has_piece w n k ≡ true → piece_of w n k ≡ Some (piece_at n k w)
piece_cut w n k left = ap (λ b. if◌then◌else◌ {A = Option Window} b (Some (piece_at n k w)) None) left

-- in a turn, the sections around have the same windows
pub around_turn : (sc : Scope) (q i : ℕ) (w : Window) (k : ℕ) (env : Environment) → (InScope sc q → ⊥) → (z : ℕ) → InScope sc z
    → (with_piece q i w k env).windows z ≡ env.windows z
around_turn sc q i w k env new z h = bind_other q w env.windows z (λ e. new (subst (InScope sc) e h))

-- what fits outside also fits within a turn
pub fits_turn : (sc : Scope) (s q i n k : ℕ) (env : Environment) → InScope sc s → (InScope sc q → ⊥)
    → has_piece (env.windows s) n k ≡ true → FitsScope sc env
    → FitsScope (AtPiece s q sc) (with_piece q i (piece_at n k (env.windows s)) k env)
fits_turn sc s q i n k env is nq left h =
    let w = piece_at n k (env.windows s) in
    let new = with_piece q i w k env in (
      fits_same sc env new (around_turn sc q i w k env nq) h,
      is,
      (
        n,
        k,
        ap (λ v. piece_of v n k) (around_turn sc q i w k env nq s is) ∙ piece_cut (env.windows s) n k left
            ∙ ap (λ v. Some v) (sym (bind_here q w env.windows)),
      ),
    )

-- two environments that agree on a section agree on it within a turn too, and also on the piece
pub turn_agree : (q : ℕ) (v w : Window) (f g : ℕ → Window) (z : ℕ) → v ≡ w → (z ≡ q) ⊎ (f z ≡ g z) → bind q v f z ≡ bind q w g z
turn_agree q v w f g z same h = by_test (nat_eq q z) refl
  where
    by_test : (b : Bool) → nat_eq q z ≡ b → (if b then v else f z) ≡ (if b then w else g z)
    by_test true e = same
    by_test false e = elim h as (λ _. f z ≡ g z) [ inl m ↦ absurd (eqb-false q z e (sym m)) | inr m ↦ m ]
