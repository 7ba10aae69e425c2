-- A sound program names what is in scope, and windows of environments that fit its scopes are
-- related as the origins say.
use Rattle.std.proofs.Common.{◌≡◌, ℕ, zero, suc, ◌+◌, ◌<◌, List, [], ◌∷◌, length, refl, sym, ap, ◌∙◌, subst, inl, inr}
use Rattle.std.proofs.Common.{arith}
use Rattle.std.specs.Prelude.{Bool, true, false, map, slice_index_or, slice_get, Some}
use Rattle.shared_lemmas.proofs.Truths.{false_true}
use Rattle.sections.specs.Origins.{Root, origin_of}
use Rattle.sections.specs.Member.{Member, first, next}
use Rattle.sections.specs.Placed.{Placed}
use Rattle.types.specs.Code.{Code, Do, If, While, Split, Parts, Begun, Call, Async, Finish, Rescue, Codes, End, Then, Array}
use Rattle.types.specs.Code.{Parameter}
use Rattle.types.specs.Code.{Procedure, Program}
use Rattle.types.specs.Value.{Environment}
use Rattle.types.specs.Run.{procedure_of}
use Rattle.types.specs.Sound.{passed_for}
use Rattle.effects.specs.Sound.{no_parameter, as_parameter, parameters_of, FollowsOf, Follows}
use Rattle.effects.specs.Sound.{HasArrays, IsSound}
use Rattle.effects.specs.Fits.{names_in}
use Rattle.effects.proofs.Members.{numbers_from-member, numbers_from-below}
use Rattle.effects.proofs.AccessesInScope.{origin_from_get}
use Rattle.effects.proofs.EnvironmentsFit.{root_left, root_right, root_piece, placed_inside, placed_in_turn}
use Rattle.effects.proofs.OwnAllowed.{own_allowed}
use Rattle.race_checker.specs.Scope.{Scope, Top, InScope, FitsScope, may_writes, arrays_of, Scoped, ScopedOf}
use Rattle.race_checker.specs.Scope.{IsScoped, Lists, top, inside, at_piece}

pub length_may_writes : (g : Procedure) → length (may_writes g) ≡ length g.parameters
length_may_writes g = each g.parameters
  where
    each : (xs : List Parameter) → length (map (λ (x : Parameter). x.may_write) xs) ≡ length xs
    each [] = refl
    each (x ∷ xs) = ap suc (each xs)

-- the position of a `true` in a list of booleans
pub bit_inside : (ms : List Bool) (k : ℕ) → slice_index_or ms k false ≡ true → k < length ms
bit_inside [] k h = false_true h
bit_inside (m ∷ ms) zero h = omega arith
bit_inside (m ∷ ms) (suc k) h = let lt = bit_inside ms k h in omega (arith, lt)

module _ (p : Program) (g : Procedure) where
  -- a scope and its list have the same names
  pub named : {sc : Scope} {scope : List ℕ} → Lists g sc scope → (s : ℕ) → InScope sc s → Member s scope
  named top s h =
      let lt : s < length g.parameters = subst (λ n. s < n) (length_may_writes g) h in
      numbers_from-member 0 (length g.parameters) s (omega arith) (omega arith)
  named (inside {scope = scope} {l = l} {r = r} k deeper) s (inl e) = subst (λ s. Member s (l ∷ r ∷ scope)) (sym e) first
  named (inside {scope = scope} {l = l} {r = r} k deeper) s (inr (inl e)) = subst (λ s. Member s (l ∷ r ∷ scope)) (sym e) (next first)
  named (inside k deeper) s (inr (inr h)) = next (next (named deeper s h))
  named (at_piece {scope = scope} {q = q} k deeper) s (inl e) = subst (λ s. Member s (q ∷ scope)) (sym e) first
  named (at_piece k deeper) s (inr h) = next (named deeper s h)

  pub in_scope : {sc : Scope} {scope : List ℕ} → Lists g sc scope → (s : ℕ) → Member s scope → InScope sc s
  in_scope top s m = subst (λ n. s < n) (sym (length_may_writes g)) (numbers_from-below (length g.parameters) s m)
  in_scope (inside k deeper) s first = inl refl
  in_scope (inside k deeper) s (next first) = inr (inl refl)
  in_scope (inside k deeper) s (next (next m)) = inr (inr (in_scope deeper s m))
  in_scope (at_piece k deeper) s first = inl refl
  in_scope (at_piece k deeper) s (next m) = inr (in_scope deeper s m)

  -- ---- what may be written
  pub bits : (xs : List Parameter) (k : ℕ)
      → slice_index_or (map (λ (x : Parameter). x.may_write) xs) k false ≡ (slice_index_or xs k no_parameter).may_write
  bits [] k = refl
  bits (x ∷ xs) zero = refl
  bits (x ∷ xs) (suc k) = bits xs k

  module _ (firsts : (k : ℕ) → k < length g.parameters → slice_get g.sections k ≡ Some Root) where
    -- a parameter is a root
    pub is_root : (k : ℕ) → Member k (parameters_of g) → origin_of g.sections k ≡ Root
    is_root k m = origin_from_get g.sections k (firsts k (numbers_from-below (length g.parameters) k m))

    -- windows that fit a scope are related as the origins say
    pub fits_placed : {sc : Scope} {scope : List ℕ} → Lists g sc scope → (env : Environment) → FitsScope sc env
        → Placed (names_in g scope) env.windows
    fits_placed top env fits = record {
      apart = λ r s ne m n e f w. fits r s (bits g.parameters r ∙ w) (in_scope top s n) ne;
      left = λ s l m e. root_left (is_root l m) e;
      right = λ s r m e. root_right (is_root r m) e;
      piece = λ s x m e. root_piece (is_root x m) e;
    }
    fits_placed (inside {s = t} {l = a} {r = b} k deeper) env fits =
        placed_inside g _ env t a b k fits.2.0 fits.2.1 (fits_placed deeper env fits.0)
    fits_placed (at_piece {s = t} {q = q} {i = i} k deeper) env fits =
        placed_in_turn g _ env t q i k fits.2.0 fits.2.1 fits.2.2 (fits_placed deeper env fits.0)

    -- ---- names in scope
    mutual
      scoped_of : {sc : Scope} {scope : List ℕ} → Lists g sc scope → (s : Code) → FollowsOf p g scope s → ScopedOf p sc s
      scoped_of ls (Do s) k = tt
      scoped_of ls (If t b c) k = (scoped ls b k.1, scoped ls c k.2)
      scoped_of ls (While t b) k = scoped ls b k.1
      scoped_of ls (Split s e x y b) k = (
        in_scope ls s k.0.in_scope,
        (λ h. let lt : x < x = k.0.later x (named ls x h) in omega (arith, lt)),
        (λ h. let lt : y < x = k.0.later y (named ls y h) in let n : y ≡ x + 1 = k.0.next in omega (arith, lt, n)),
        (λ e. let n : y ≡ x + 1 = k.0.next in omega (arith, e, n)),
        scoped (inside k.0 ls) b k.2,
      )
      scoped_of ls (Parts s e q i b) k = (
        in_scope ls s k.0.in_scope,
        (λ h. let lt : q < q = k.0.later q (named ls q h) in omega (arith, lt)),
        scoped (at_piece k.0 ls) b k.2,
      )
      scoped_of ls (Begun s n j q i b) k = (
        in_scope ls s k.0.in_scope,
        (λ h. let lt : q < q = k.0.later q (named ls q h) in omega (arith, lt)),
        scoped (at_piece k.0 ls) b k.1,
      )
      scoped_of ls (Call f es ss) k =
          λ j lt. in_scope ls (passed_for ss j)
          (k.passes.in_scope j (let n : length ss ≡ length (procedure_of p f).parameters = k.passes.number in omega (arith, lt, n)))
      scoped_of ls (Async b) k = scoped ls b k
      scoped_of ls (Finish b) k = scoped ls b k
      scoped_of ls (Rescue b n c) k = (scoped ls b k.0, scoped ls c k.2)

      pub scoped : {sc : Scope} {scope : List ℕ} → Lists g sc scope → (b : Codes) → Follows p g scope b → Scoped p sc b
      scoped ls End k = tt
      scoped {scope = scope} ls (Then l s rest) k = (
        (λ x m. in_scope ls x.section (own_allowed p g scope l s k.0 x m).in_scope),
        scoped_of ls s k.0,
        scoped ls rest k.1,
      )

-- ---- the arrays are main's parameters, all of which may be written
pub arrays_written : (p : Program) → HasArrays p → may_writes p.main ≡ arrays_of p
arrays_written p arrays = ap (map (λ (x : Parameter). x.may_write)) arrays ∙ each p.arrays
  where
    each : (xs : List Array) → map (λ (x : Parameter). x.may_write) (map as_parameter xs) ≡ map (λ (x : Array). true) xs
    each [] = refl
    each (x ∷ xs) = ap (λ ms. true ∷ ms) (each xs)

pub is_scoped : (p : Program) → IsSound p → IsScoped p
is_scoped p sound = record {
  main = subst (λ ms. Scoped p (Top ms) p.main.body) (arrays_written p sound.arrays)
      (scoped p p.main sound.main.first top p.main.body sound.main.body);
  procedures = λ f. let g = sound.procedures f in scoped p (procedure_of p f) g.first top (procedure_of p f).body g.body;
  main_text = sound.main.text;
  procedure_texts = λ f. (sound.procedures f).text;
}
