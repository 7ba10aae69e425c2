-- Windows that are related as the origins of a scope's names specify fit the scope.
use Rattle.std.proofs.Common.{◌≡◌, ℕ, ◌+◌, ◌<◌, List, ◌∷◌, Option, Some, refl, sym, ap, ◌∙◌, subst, arith}
use Rattle.sections.specs.Member.{Member, first, next}
use Rattle.sections.specs.Origins.{Origin, Right, Piece, origin_of}
use Rattle.sections.specs.Place.{Window}
use Rattle.sections.specs.Placed.{Placed}
use Rattle.types.specs.Code.{Procedure, Program}
use Rattle.types.specs.Value.{Environment}
use Rattle.effects.specs.Sound.{CutsWell, SplitsWell, IsSoundIn}
use Rattle.effects.specs.Fits.{names_in}
use Rattle.effects.proofs.EnvironmentsFit.{left_right}
use Rattle.race_checker.specs.Scope.{Scope, FitsScope, Lists, may_writes}
use Rattle.race_checker.proofs.Scoping.{named, in_scope, bits, bit_inside, is_root}

either_side : {A : Type 0} {x l r : ℕ} {scope : List ℕ} → Member x (l ∷ r ∷ scope) → (x ≡ l → A) → (x ≡ r → A)
    → (Member x scope → A) → A
either_side first f g h = f refl
either_side (next first) f g h = g refl
either_side (next (next m)) f g h = h m

or_in : {A : Type 0} {x q : ℕ} {scope : List ℕ} → Member x (q ∷ scope) → (x ≡ q → A) → (Member x scope → A) → A
or_in first f h = f refl
or_in (next m) f h = h m

-- a piece is no side
piece_or_right : (os : List Origin) (a s t : ℕ) → origin_of os a ≡ Piece s → origin_of os a ≡ Right t → ⊥
piece_or_right os a s t e f = absurd (let bad : ⊥ = cc in bad)

abbrev sides : Window → Window → Option (Window × Window)
sides v w = Some (v, w)

module _ (p : Program) (g : Procedure) (is_sound : IsSoundIn p g) where
  -- around a split
  placed_around : {scope : List ℕ} {s l r : ℕ} → SplitsWell g scope s l r → (windows : ℕ → Window)
      → Placed (names_in g (l ∷ r ∷ scope)) windows → Placed (names_in g scope) windows
  placed_around {l = l} {r = r} k windows placed = record {
    apart = λ a b ne m n e f w. placed.apart a b ne (next (next m)) (next (next n)) e f w;
    left = λ t a m e.
        let h = placed.left t a (next (next m)) e in
        let low : a < l = k.later a m in
        let below : t < a = is_sound.numbered.left a t e in
        let turn : r ≡ l + 1 = k.next in
        record {
          parent = either_side h.parent (λ e. absurd (omega (arith, e, low, below)))
              (λ e. absurd (omega (arith, e, low, below, turn))) (λ m. m);
          right = either_side h.right
              (λ e. left_right k.left (subst (λ x. origin_of g.sections x ≡ Right t) e h.right_origin))
              (λ e. absurd (omega (arith, e, low, turn))) (λ m. m);
          right_origin = h.right_origin;
          at = h.at;
          cut = h.cut;
        };
    right = λ t a m e.
        let h = placed.right t a (next (next m)) e in
        let low : a < l = k.later a m in
        let above : a ≡ h.left + 1 = h.turn in
        let turn : r ≡ l + 1 = k.next in
        record {
          left = h.left;
          turn = h.turn;
          in_scope = either_side h.in_scope (λ e. absurd (omega (arith, e, low, above)))
              (λ e. absurd (omega (arith, e, low, above, turn))) (λ m. m);
          origin = h.origin;
        };
    piece = λ t a m e.
        let h = placed.piece t a (next (next m)) e in
        let low : a < l = k.later a m in
        let below : t < a = is_sound.numbered.piece a t e in
        let turn : r ≡ l + 1 = k.next in
        record {
          parent = either_side h.parent (λ e. absurd (omega (arith, e, low, below)))
              (λ e. absurd (omega (arith, e, low, below, turn))) (λ m. m);
          size = h.size;
          turn = h.turn;
          cut = h.cut;
        };
  }

  -- around a `parts`
  placed_around_piece : {scope : List ℕ} {s q i : ℕ} → CutsWell g scope s q i → (windows : ℕ → Window)
      → Placed (names_in g (q ∷ scope)) windows → Placed (names_in g scope) windows
  placed_around_piece {s = s} {q = q} k windows placed = record {
    apart = λ a b ne m n e f w. placed.apart a b ne (next m) (next n) e f w;
    left = λ t a m e.
        let h = placed.left t a (next m) e in
        let low : a < q = k.later a m in
        let below : t < a = is_sound.numbered.left a t e in
        record {
          parent = or_in h.parent (λ e. absurd (omega (arith, e, low, below))) (λ m. m);
          right = or_in h.right
              (λ e. absurd (piece_or_right g.sections q s t k.piece (subst (λ x. origin_of g.sections x ≡ Right t) e h.right_origin)))
              (λ m. m);
          right_origin = h.right_origin;
          at = h.at;
          cut = h.cut;
        };
    right = λ t a m e.
        let h = placed.right t a (next m) e in
        let low : a < q = k.later a m in
        let above : a ≡ h.left + 1 = h.turn in
        record {
          left = h.left;
          turn = h.turn;
          in_scope = or_in h.in_scope (λ e. absurd (omega (arith, e, low, above))) (λ m. m);
          origin = h.origin;
        };
    piece = λ t a m e.
        let h = placed.piece t a (next m) e in
        let low : a < q = k.later a m in
        let below : t < a = is_sound.numbered.piece a t e in
        record {
          parent = or_in h.parent (λ e. absurd (omega (arith, e, low, below))) (λ m. m);
          size = h.size;
          turn = h.turn;
          cut = h.cut;
        };
  }

  -- windows that are related in this way fit
  pub fits_scope : {sc : Scope} {scope : List ℕ} → Lists g sc scope → (env : Environment)
      → Placed (names_in g scope) env.windows → FitsScope sc env
  fits_scope Lists.top env placed = λ j k may lt ne.
      let a = named p g Lists.top j (bit_inside (may_writes g) j may) in
      let b = named p g Lists.top k lt in
      placed.apart j k ne a b (is_root p g is_sound.first j a) (is_root p g is_sound.first k b) (sym (bits p g g.parameters j) ∙ may)
  fits_scope (Lists.inside {s = s} {l = l} {r = r} k deeper) env placed =
      let h = placed.left s l first k.left in (
        fits_scope deeper env (placed_around k env.windows placed),
        in_scope p g deeper s k.in_scope,
        (h.at, h.cut ∙ ap (λ x. sides (env.windows l) (env.windows x)) (sym k.next)),
      )
  fits_scope (Lists.at_piece {s = s} {q = q} k deeper) env placed =
      let h = placed.piece s q first k.piece in (
        fits_scope deeper env (placed_around_piece k env.windows placed),
        in_scope p g deeper s k.in_scope,
        (h.size, h.turn, h.cut),
      )
