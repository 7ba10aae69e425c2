-- Accesses: those of a statement alone, those by names in scope, and those of an expression.
use Rattle.std.proofs.Common.{◌≡◌, ℕ, zero, suc, ◌<◌, List, [], ◌∷◌, refl, sym, subst, inl, inr, arith}
use Rattle.std.proofs.lemmas.Bool.{eqb-false}
use Rattle.std.specs.Prelude.{Bool, true, false, ◌||◌, nat_eq, Contains, if◌then◌else◌}
use Rattle.sections.specs.Place.{In, Place}
use Rattle.sections.specs.Member.{Member, first, next}
use Rattle.types.specs.Code.{Code, Codes, End, Then, Program}
use Rattle.types.specs.Value.{Environment}
use Rattle.types.specs.Run.{procedure_of}
use Rattle.effects.specs.Accesses.{Access, reads, own_accesses}
use Rattle.effects.specs.Effects.{past_parts, past_split, if_body, if_other, while, split, parts, call, handler, AllOf, All}
use Rattle.effects.specs.Effects.{PendingOf, Pending, accesses, renamed}
use Rattle.effects.specs.Footprint.{Touches, Overwrites}
use Rattle.race_checker.specs.Scope.{Scope, Top, Inside, AtPiece, InScope, may_writes, ScopedOf, Scoped}
use Rattle.race_checker.proofs.Scoping.{length_may_writes}

module _ (p : Program) where
  -- ---- a statement alone
  pub all_alone : (l : ℕ) (s : Code) (y : Access) → All p accesses (Then l s End) y → AllOf p accesses l s y
  all_alone l s y (All.here h) = h
  all_alone l s y (All.later h) = elim h [ ]

  pub pending_alone : (l : ℕ) (s : Code) (y : Access) → Pending p accesses (Then l s End) y → PendingOf p accesses s y
  pending_alone l s y (Pending.here h) = h
  pending_alone l s y (Pending.later h) = elim h [ ]

  -- ---- names in scope
  out_of_split : (sc : Scope) (s x y z : ℕ) → InScope sc s → InScope (Inside s x y sc) z → InScope sc (past_split s x y z)
  out_of_split sc s x y z is h = by_tests (nat_eq x z) (nat_eq y z) refl refl
    where
      by_tests : (a b : Bool) → nat_eq x z ≡ a → nat_eq y z ≡ b → InScope sc (if a || b then s else z)
      by_tests true b e f = is
      by_tests false true e f = is
      by_tests false false e f = elim h as (λ _. InScope sc z) [
        | inl k ↦ absurd (eqb-false x z e (sym k))
        | inr k ↦ elim k as (λ _. InScope sc z) [ inl m ↦ absurd (eqb-false y z f (sym m)) | inr m ↦ m ]
      ]

  out_of_parts : (sc : Scope) (s q z : ℕ) → InScope sc s → InScope (AtPiece s q sc) z → InScope sc (past_parts s q z)
  out_of_parts sc s q z is h = by_test (nat_eq q z) refl
    where
      by_test : (b : Bool) → nat_eq q z ≡ b → InScope sc (if b || b then s else z)
      by_test true e = is
      by_test false e = elim h as (λ _. InScope sc z) [ inl k ↦ absurd (eqb-false q z e (sym k)) | inr k ↦ k ]

  module _ (procedures : (f : ℕ) → Scoped p (Top (may_writes (procedure_of p f))) (procedure_of p f).body) where
    mutual
      named_of : (sc : Scope) (l : ℕ) (s : Code) (y : Access) → ((y : Access) → Member y (own_accesses l s) → InScope sc y.section)
          → ScopedOf p sc s → AllOf p accesses l s y → InScope sc y.section
      named_of sc l s y names scoped (AllOf.own_access m) = names y m
      named_of sc l s y names scoped (AllOf.inner {x = x} if_body h e) =
          subst (λ z. InScope sc z.section) (sym e) (named_all sc _ x scoped.0 h)
      named_of sc l s y names scoped (AllOf.inner {x = x} if_other h e) =
          subst (λ z. InScope sc z.section) (sym e) (named_all sc _ x scoped.1 h)
      named_of sc l s y names scoped (AllOf.inner {x = x} while h e) = subst (λ z. InScope sc z.section) (sym e) (named_all sc _ x scoped h)
      named_of sc l s y names scoped (AllOf.inner {x = x} (split {s = t} {l = left} {r = right}) h e) =
          subst (λ z. InScope sc z.section) (sym e)
          (out_of_split sc t left right x.section scoped.0 (named_all (Inside t left right sc) _ x scoped.4 h))
      named_of sc l s y names scoped (AllOf.inner {x = x} (parts {s = t} {q = piece}) h e) =
          subst (λ z. InScope sc z.section) (sym e)
          (out_of_parts sc t piece x.section scoped.0 (named_all (AtPiece t piece sc) _ x scoped.2 h))
      named_of sc l s y names scoped (AllOf.inner {x = x} (call {f = f}) h e) =
          subst (λ z. InScope sc z.section) (sym e)
          (scoped x.section (subst (λ n. x.section < n) (length_may_writes (procedure_of p f))
          (named_all (Top (may_writes (procedure_of p f))) _ x (procedures f) h)))
      named_of sc l s y names scoped (AllOf.inner {x = x} handler h e) =
          subst (λ z. InScope sc z.section) (sym e) (named_all sc _ x scoped.1 h)
      named_of sc l s y names scoped (AllOf.async h) = named_all sc _ y scoped h
      named_of sc l s y names scoped (AllOf.finish h) = named_all sc _ y scoped h
      named_of sc l s y names scoped (AllOf.rescued h) = named_all sc _ y scoped.0 h

      -- what is accessed is in scope
      pub named_all : (sc : Scope) (b : Codes) (y : Access) → Scoped p sc b → All p accesses b y → InScope sc y.section
      named_all sc b y scoped (All.here {l = l} {s = s} h) = named_of sc l s y scoped.0 scoped.1 h
      named_all sc b y scoped (All.later {rest = rest} h) = named_all sc rest y scoped.2 h

-- ---- the places of accesses
pub touches_more : (env : Environment) (part all : Access → Type 0) (q : Place) → ((y : Access) → part y → all y) → Touches env part q
    → Touches env all q
touches_more env part all q f t = record { access = t.access; among = f t.access t.among; place = t.place }

pub overwrites_more : (env : Environment) (part all : Access → Type 0) (q : Place) → ((y : Access) → part y → all y) → Overwrites env part q
    → Overwrites env all q
overwrites_more env part all q f t = record { access = t.access; among = f t.access t.among; place = t.place; writes = t.writes }

-- the places of accesses under other names, which name the same windows
module _ (env inner : Environment) (past : ℕ → ℕ) (part all : Access → Type 0) (q : Place)
    (out : (z : ℕ) → In (inner.windows z) q → In (env.windows (past z)) q)
    (among : (y : Access) → part y → all (renamed past y)) where
  pub touches_renamed : Touches inner part q → Touches env all q
  touches_renamed t =
      record { access = renamed past t.access; among = among t.access t.among; place = out t.access.section t.place }

  pub overwrites_renamed : Overwrites inner part q → Overwrites env all q
  overwrites_renamed t = record {
    access = renamed past t.access;
    among = among t.access t.among;
    place = out t.access.section t.place;
    writes = t.writes;
  }

-- ---- the reads of an expression
pub read_listed : (l s : ℕ) (ss : List ℕ) → Contains ss s → Member (record { label = l; section = s; write = false }) (reads l ss)
read_listed l s [] (k, lt, e) = absurd (omega (arith, lt))
read_listed l s (t ∷ ss) (zero, lt, e) =
    subst (λ t. Member (record { label = l; section = s; write = false }) (reads l (t ∷ ss))) (sym e) first
read_listed l s (t ∷ ss) (suc k, lt, e) = next (read_listed l s ss (k, omega (arith, lt), e))
