-- From names to places: in a sound and accepted program, what is pending keeps apart from what is done later.
use Rattle.std.proofs.Common.{◌≡◌, ◌≢◌, ◌⊎◌, inl, inr, ℕ, ◌<◌, List, [], ◌∷◌, length, refl, sym, ap, ◌∙◌, subst, arith}
use Rattle.std.specs.Prelude.{Bool, true, false, ◌||◌, ◌&&◌, nat_eq, map, slice_get, Option, Some, None, if◌then◌else◌}
use Rattle.std.proofs.lemmas.Bool.{or_left, or_right, cases_eq, ne_eqb}
use Rattle.sections.specs.Origins.{Root, IsNumbered}
use Rattle.sections.specs.Place.{Place, Window, In, has_piece, piece_at, piece_of, nowhere}
use Rattle.sections.specs.Member.{Member}
use Rattle.sections.specs.Overlap.{overlap}
use Rattle.sections.specs.Placed.{Apart, Placed}
use Rattle.sections.proofs.Pieces.{pieces_apart}
use Rattle.sections.proofs.Windows.{disjoint-apart}
use Rattle.types.proofs.Bindings.{bind_here, bind_other}
use Rattle.types.specs.Code.{Code, Do, If, While, Split, Parts, Begun, Call, Async, Finish, Rescue, Codes, End, Then, Procedure}
use Rattle.types.specs.Code.{Program}
use Rattle.types.specs.Value.{Environment}
use Rattle.types.specs.Run.{entry, procedure_of, with_piece}
use Rattle.effects.specs.Accesses.{Access, own_accesses}
use Rattle.types.specs.Sound.{IsText, IsTextOf, passed_for}
use Rattle.effects.specs.Effects.{accesses, of_pieces, AllOf, All, PendingOf, Pending}
use Rattle.effects.specs.Sound.{may_write, is_writable, Allowed, CutsWell, PassesWell, Follows, FollowsOf, IsSound}
use Rattle.effects.specs.Fits.{names_in}
use Rattle.effects.proofs.AccessesInScope.{allowed, allowed_of, pending_of_all, pending_all}
use Rattle.effects.proofs.EnvironmentsFit.{by_number-map, placed_at_turn}
use Rattle.effects.proofs.OwnAllowed.{own_allowed}
use Rattle.parallel_relation.specs.Together.{Block, Together}
use Rattle.race_checker.specs.Clash.{Clash, IsAccepted}
use Rattle.race_checker.specs.Scope.{Scope, Top, FitsScope, FitsTop, may_writes, Lists, top, inside, at_piece}
use Rattle.race_checker.specs.Calm.{AlwaysApart, TurnsApart, Calm, CalmOf, IsCalm}
use Rattle.race_checker.proofs.Scoping.{length_may_writes, bits, bit_inside, fits_placed, arrays_written}

pub and_false_left : (a b : Bool) → a ≡ false → (a && b) ≡ false
and_false_left a b e = ap (λ x. x && b) e

pub and_false_right : (a b : Bool) → b ≡ false → (a && b) ≡ false
and_false_right true b e = e
and_false_right false b e = refl

module _ (p : Program) (sound : IsSound p) (g : Procedure) (numbered : IsNumbered g.sections)
    (firsts : (k : ℕ) → k < length g.parameters → slice_get g.sections k ≡ Some Root) where
  -- two accesses that don't clash, one of which writes, share no place
  accesses_apart : (scope : List ℕ) (env : Environment) → Placed (names_in g scope) env.windows → (x y : Access)
      → Allowed g scope x → Allowed g scope y → (x.write ≡ true) ⊎ (y.write ≡ true)
      → (Clash g.sections x y → ⊥) → (q : Place) → In (env.windows x.section) q → In (env.windows y.section) q → ⊥
  accesses_apart scope env placed x y a b w free q h k = by_test (overlap g.sections x.section y.section) refl
    where
      some_writes : (x.write ≡ true) ⊎ (y.write ≡ true) → (x.write || y.write) ≡ true
      some_writes (inl w) = or_left x.write y.write w
      some_writes (inr w) = or_right x.write y.write w

      some_writable : (x.write ≡ true) ⊎ (y.write ≡ true)
          → (is_writable g x.section ≡ true) ⊎ (is_writable g y.section ≡ true)
      some_writable (inl w) = inl (a.writable w)
      some_writable (inr w) = inr (b.writable w)

      by_test : (o : Bool) → overlap g.sections x.section y.section ≡ o → ⊥
      by_test true e = free (record { writes = some_writes w; overlap = e })
      by_test false e =
          disjoint-apart (names_in g scope) env.windows numbered placed x.section y.section a.in_scope b.in_scope e (some_writable w) q h k

  -- sets of accesses that don't clash keep apart
  keep_apart : {sc : Scope} {scope : List ℕ} → Lists g sc scope → (xs ys : Access → Type 0)
      → ((x : Access) → xs x → Allowed g scope x) → ((y : Access) → ys y → Allowed g scope y)
      → ((x y : Access) → xs x → ys y → Clash g.sections x y → ⊥) → AlwaysApart sc xs ys
  keep_apart {scope = scope} ls xs ys f h free env fits = record {
    writes_first = λ q w t.
        accesses_apart scope env placed w.access t.access (f w.access w.among) (h t.access t.among) (inl w.writes)
        (free w.access t.access w.among t.among) q w.place t.place;
    writes_second = λ q t w.
        accesses_apart scope env placed t.access w.access (f t.access t.among) (h w.access w.among) (inr w.writes)
        (free t.access w.access t.among w.among) q t.place w.place;
  }
    where
      placed : Placed (names_in g scope) env.windows
      placed = fits_placed p g firsts ls env fits

  -- a call passes windows that fit
  passes : {sc : Scope} {scope : List ℕ} → Lists g sc scope → (f : Procedure) (ss : List ℕ)
      → PassesWell g scope f.parameters ss → (env : Environment) → FitsScope sc env
      → FitsTop (may_writes f) (entry [] (map env.windows ss))
  passes {scope = scope} ls f ss k env fits i j may lt ne =
      subst (λ v. Apart v (inner.windows j)) (sym (at_argument i inside_i))
      (subst (λ v. Apart (env.windows (passed_for ss i)) v) (sym (at_argument j inside_j))
      (disjoint-apart (names_in g scope) env.windows numbered (fits_placed p g firsts ls env fits) (passed_for ss i) (passed_for ss j)
      (k.in_scope i inside_i) (k.in_scope j inside_j) (k.alone i j ne inside_j w) (inl (k.writable i w))))
    where
      inner : Environment
      inner = entry [] (map env.windows ss)

      w : may_write f.parameters i ≡ true
      w = sym (bits p g f.parameters i) ∙ may

      is_argument : (n : ℕ) → n < length (may_writes f) → n < length ss
      is_argument n lt =
          let e : length ss ≡ length f.parameters = k.number in
          let m : length (may_writes f) ≡ length f.parameters = length_may_writes f in
          omega (arith, lt, e, m)

      inside_i : i < length ss
      inside_i = is_argument i (bit_inside (may_writes f) i may)

      inside_j : j < length ss
      inside_j = is_argument j lt

      at_argument : (n : ℕ) → n < length ss → inner.windows n ≡ env.windows (passed_for ss n)
      at_argument n lt = by_number-map env.windows nowhere 0 ss n lt

  -- what a turn of a `parts` leaves pending keeps apart from a later turn: their pieces are apart, and
  -- other sections have the same windows in both
  module _ {sc : Scope} {scope : List ℕ} (ls : Lists g sc scope) (s q u : ℕ) (cuts : CutsWell g scope s q u) (xs ys : Access → Type 0)
      (f : (x : Access) → xs x → Allowed g (q ∷ scope) x) (h : (y : Access) → ys y → Allowed g (q ∷ scope) y)
      (free : (x y : Access) → xs x → ys y → of_pieces q x y ≡ false → Clash g.sections x y → ⊥)
      (env : Environment) (i n : ℕ) (fits : FitsScope sc env) where
    abbrev turn : ℕ → Environment
    turn j = with_piece q i (piece_at n j (env.windows s)) j env

    cut : (j : ℕ) → has_piece (env.windows s) n j ≡ true → piece_of (env.windows s) n j ≡ Some (piece_at n j (env.windows s))
    cut j left = ap (λ b. if◌then◌else◌ {A = Option Window} b (Some (piece_at n j (env.windows s))) None) left

    placed_at : (j : ℕ) → has_piece (env.windows s) n j ≡ true → Placed (names_in g (q ∷ scope)) (turn j).windows
    placed_at j left =
        placed_at_turn p g scope env s q u cuts (piece_at n j (env.windows s)) j n (cut j left) (fits_placed p g firsts ls env fits)

    -- a section other than the piece has the same window in each turn
    same_window : (j k x : ℕ) → x ≢ q → (turn j).windows x ≡ (turn k).windows x
    same_window j k x ne =
        bind_other q x (piece_at n j (env.windows s)) env.windows (λ e. ne (sym e))
        ∙ sym (bind_other q x (piece_at n k (env.windows s)) env.windows (λ e. ne (sym e)))

    module _ (j k : ℕ) (order : j < k) (first_left : has_piece (env.windows s) n j ≡ true) (second_left : has_piece (env.windows s) n k ≡ true) where
      no_place : (x y : Access) → xs x → ys y → (x.write ≡ true) ⊎ (y.write ≡ true) → (at : Place)
          → In ((turn j).windows x.section) at → In ((turn k).windows y.section) at → ⊥
      no_place x y a b w at v z = elim (cases_eq x.section q) [
        | inl e ↦ elim (cases_eq y.section q) [
          | inl d ↦
              pieces_apart (env.windows s) (piece_at n j (env.windows s)) (piece_at n k (env.windows s)) n j k (omega (arith, order))
              (cut j first_left) (cut k second_left) at
              (subst (λ o. In o at) (ap (turn j).windows e ∙ bind_here q (piece_at n j (env.windows s)) env.windows) v)
              (subst (λ o. In o at) (ap (turn k).windows d ∙ bind_here q (piece_at n k (env.windows s)) env.windows) z)
          | inr d ↦
              accesses_apart (q ∷ scope) (turn j) (placed_at j first_left) x y (f x a) (h y b) w
              (free x y a b (and_false_right (nat_eq x.section q) (nat_eq y.section q) (ne_eqb y.section q d))) at v
              (subst (λ o. In o at) (same_window k j y.section d) z)
        ]
        | inr e ↦
            accesses_apart (q ∷ scope) (turn k) (placed_at k second_left) x y (f x a) (h y b) w
            (free x y a b (and_false_left (nat_eq x.section q) (nat_eq y.section q) (ne_eqb x.section q e))) at
            (subst (λ o. In o at) (same_window j k x.section e) v) z
      ]

  turns_apart : {sc : Scope} {scope : List ℕ} → Lists g sc scope → (s q u : ℕ) → CutsWell g scope s q u → (xs ys : Access → Type 0)
      → ((x : Access) → xs x → Allowed g (q ∷ scope) x) → ((y : Access) → ys y → Allowed g (q ∷ scope) y)
      → ((x y : Access) → xs x → ys y → of_pieces q x y ≡ false → Clash g.sections x y → ⊥) → TurnsApart sc s q xs ys
  turns_apart ls s q u cuts xs ys f h free = record {
    writes_first = λ env i n j k fits order left right at w t.
        no_place ls s q u cuts xs ys f h free env i n fits j k order left right w.access t.access w.among t.among (inl w.writes) at w.place t.place;
    writes_second = λ env i n j k fits order left right at t w.
        no_place ls s q u cuts xs ys f h free env i n fits j k order left right t.access w.access t.among w.among (inr w.writes) at t.place w.place;
  }

  abbrev NoClash : Codes → Type 0
  NoClash b = (x y : Access) → Together p accesses b x y → Clash g.sections x y → ⊥

  mutual
    calm_of : {sc : Scope} {scope : List ℕ} → Lists g sc scope → (s : Code) (l : ℕ) (rest : Codes)
        → ((x : Access) → Member x (own_accesses l s) → Allowed g scope x)
        → FollowsOf p g scope s → IsTextOf s → NoClash (Then l s rest) → CalmOf p sc l s
    calm_of ls (Do s) l rest o k text h = tt
    calm_of ls (If t b c) l rest o k text h = (
      calm ls b k.1 text.0 (λ x y r. h x y (Together.inside Block.if_body r)),
      calm ls c k.2 text.1 (λ x y r. h x y (Together.inside Block.if_other r)),
    )
    calm_of {scope = scope} ls (While t b) l rest o k text h = (
      calm ls b k.1 text (λ x y r. h x y (Together.inside Block.while r)),
      keep_apart ls (PendingOf p accesses (While t b)) (AllOf p accesses l (While t b))
          (λ x r. allowed_of p sound (pending_of_all p r) g scope numbered o k)
          (λ x r. allowed_of p sound r g scope numbered o k)
          (λ x y r q. h x y (Together.turns r q)),
    )
    calm_of ls (Split s e x y b) l rest o k text h = calm (inside k.0 ls) b k.2 text (λ x y r. h x y (Together.inside Block.split r))
    calm_of {scope = scope} ls (Parts s e q i b) l rest o k text h = (
      calm (at_piece k.0 ls) b k.2 text (λ x y r. h x y (Together.inside Block.parts r)),
      turns_apart ls s q i k.0 (Pending p accesses b) (All p accesses b)
          (λ x r. allowed p sound (pending_all p r) g (q ∷ scope) numbered k.2)
          (λ x r. allowed p sound r g (q ∷ scope) numbered k.2)
          (λ x y r v e. h x y (Together.pieces (record { pending = r; later = inr v; meet = e }))),
    )
    calm_of ls (Begun s n j q i b) l rest o k text h = absurd text
    calm_of ls (Call f es ss) l rest o k text h = passes ls (procedure_of p f) ss k.passes
    calm_of ls (Async b) l rest o k text h = calm ls b k text (λ x y r. h x y (Together.inside Block.async r))
    calm_of ls (Finish b) l rest o k text h = calm ls b k text (λ x y r. h x y (Together.inside Block.finish r))
    calm_of ls (Rescue b n c) l rest o k text h = (
      calm ls b k.0 text.0 (λ x y r. h x y (Together.inside Block.rescued r)),
      calm ls c k.2 text.1 (λ x y r. h x y (Together.inside Block.handler r)),
    )

    -- a list of statements without a clash is calm
    pub calm : {sc : Scope} {scope : List ℕ} → Lists g sc scope → (b : Codes)
        → Follows p g scope b → IsText b → NoClash b → Calm p sc b
    calm ls End k text h = tt
    calm {scope = scope} ls (Then l s rest) k text h = (
      calm_of ls s l rest (own_allowed p g scope l s k.0) k.0 text.0 h,
      calm ls rest k.1 text.1 (λ x y r. h x y (Together.later r)),
      keep_apart ls (PendingOf p accesses s) (All p accesses rest)
          (λ x r. allowed_of p sound {l = l} (pending_of_all p r) g scope numbered (own_allowed p g scope l s k.0) k.0)
          (λ x r. allowed p sound r g scope numbered k.1)
          (λ x y r q. h x y (Together.follows r q)),
    )

-- a sound and accepted program is calm
pub is_calm : (p : Program) → IsSound p → IsAccepted p → IsCalm p
is_calm p sound accepted = record {
  main = subst (λ ms. Calm p (Top ms) p.main.body) (arrays_written p sound.arrays)
      (calm p sound p.main sound.main.numbered sound.main.first top p.main.body sound.main.body sound.main.text accepted.main);
  procedures = λ f. let g = sound.procedures f in
      calm p sound (procedure_of p f) g.numbered g.first top (procedure_of p f).body g.body g.text (accepted.procedures f);
}
