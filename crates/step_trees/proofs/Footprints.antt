-- Footprints: one within another, and what stays separate.
use Rattle.std.proofs.Common.{◌⊎◌, inl, inr, ℕ, List, sym, subst}
use Rattle.sections.specs.Place.{Place, In}
use Rattle.sections.specs.Member.{Member}
use Rattle.types.specs.Code.{Code, Codes, Then, Program}
use Rattle.types.specs.Sound.{IsText}
use Rattle.types.specs.Value.{Environment}
use Rattle.types.specs.Trees.{append}
use Rattle.effects.specs.Accesses.{Access}
use Rattle.effects.specs.Effects.{AllOf, All, PendingOf, Pending, accesses}
use Rattle.effects.specs.Footprint.{MayTouch, MayWrite, MayStillTouch, MayStillWrite, TurnsStillTouch, TurnsStillWrite}
use Rattle.effects.specs.Kept.{SameWindows}
use Rattle.effects.proofs.AccessesInScope.{pending_all}
use Rattle.race_checker.specs.Calm.{KeepApart}
use Rattle.step_trees.proofs.ComingTurns.{InTurnOf, which_turn, first_turn, later_turn, no_turns, turns_append, shift_turns}
use Rattle.step_trees.proofs.Statements.{either_of, from_either, all_append, pending_append}
use Rattle.step_trees.specs.Laws.{TurnsIn}
use Rattle.step_trees.specs.Still.{Footprint, nothing, both, foot, all, Separate}

-- one footprint within another
pub record Within (f g : Footprint) : Type 0 where
  pub touches : (q : Place) → f.touches q → g.touches q
  pub writes : (q : Place) → f.writes q → g.writes q

pub within_itself : (f : Footprint) → Within f f
within_itself f = record { touches = λ q h. h; writes = λ q h. h }

pub within_trans : {f g h : Footprint} → Within f g → Within g h → Within f h
within_trans a b = record { touches = λ q h. b.touches q (a.touches q h); writes = λ q h. b.writes q (a.writes q h) }

pub first_within : (f g : Footprint) → Within f (both f g)
first_within f g = record { touches = λ q h. inl h; writes = λ q h. inl h }

pub second_within : (f g : Footprint) → Within g (both f g)
second_within f g = record { touches = λ q h. inr h; writes = λ q h. inr h }

pub both_within : {f g h : Footprint} → Within f h → Within g h → Within (both f g) h
both_within a b = record {
  touches = λ q. from_either (a.touches q) (b.touches q);
  writes = λ q. from_either (a.writes q) (b.writes q);
}

pub beside_within : {f g h k : Footprint} → Within f h → Within g k → Within (both f g) (both h k)
beside_within a b = record {
  touches = λ q. either_of (a.touches q) (b.touches q);
  writes = λ q. either_of (a.writes q) (b.writes q);
}

pub nothing_within : (f : Footprint) → Within nothing f
nothing_within f = record { touches = λ q h. absurd h; writes = λ q h. absurd h }

pub separate_within : {f g h k : Footprint} → Within f h → Within g k → Separate h k → Separate f g
separate_within a b s = record {
  writes_first = λ q w t. s.writes_first q (a.writes q w) (b.touches q t);
  writes_second = λ q t w. s.writes_second q (a.touches q t) (b.writes q w);
}

pub separate_both : {f g h : Footprint} → Separate f g → Separate f h → Separate f (both g h)
separate_both s t = record {
  writes_first = λ q w. from_either (s.writes_first q w) (t.writes_first q w);
  writes_second = λ q w. from_either (s.writes_second q w) (t.writes_second q w);
}

pub both_separate : {f g h : Footprint} → Separate f h → Separate g h → Separate (both f g) h
both_separate s t = record {
  writes_first = λ q w i. from_either (λ w. s.writes_first q w i) (λ w. t.writes_first q w i) w;
  writes_second = λ q i w. from_either (λ i. s.writes_second q i w) (λ i. t.writes_second q i w) i;
}

pub nothing_separate : (f : Footprint) → Separate nothing f
nothing_separate f = record { writes_first = λ q w t. w; writes_second = λ q t w. t }

pub separate_nothing : (f : Footprint) → Separate f nothing
separate_nothing f = record { writes_first = λ q w t. t; writes_second = λ q t w. w }

pub separate_alone : {f g : Footprint} → Separate f g → Separate (both f nothing) (both g nothing)
separate_alone s = both_separate (separate_both s (separate_nothing _)) (nothing_separate _)

pub separate_from : {env : Environment} {xs ys : Access → Type 0} → KeepApart env xs ys
    → Separate (foot env xs) (foot env ys)
separate_from k = record { writes_first = k.writes_first; writes_second = k.writes_second }

-- Of accesses

-- fewer accesses
pub among : (env : Environment) {xs ys : Access → Type 0} → ((x : Access) → xs x → ys x)
    → Within (foot env xs) (foot env ys)
among env f = record {
  touches = λ q t. record { access = t.access; among = f t.access t.among; place = t.place };
  writes = λ q t. record { access = t.access; among = f t.access t.among; place = t.place; writes = t.writes };
}

-- in an environment with the same windows in scope
pub shifted : {scope : List ℕ} {env other : Environment} {xs : Access → Type 0}
    → ((x : Access) → xs x → Member x.section scope)
    → SameWindows scope env other → Within (foot other xs) (foot env xs)
shifted {env = env} m same = record {
  touches = λ q t. record { access = t.access; among = t.among; place = subst (λ w. In w q) (sym (same t.access.section (m t.access t.among))) t.place };
  writes = λ q t. record { access = t.access; among = t.among; place = subst (λ w. In w q) (sym (same t.access.section (m t.access t.among))) t.place; writes = t.writes };
}

-- footprints of two kinds of a whole, if its parts have them
pub crossed : {f g h f1 g1 h1 : Footprint} → Within f (both g h) → Within f1 (both g1 h1)
    → Within (both f f1) (both (both g g1) (both h h1))
crossed a b = both_within
    (within_trans a (beside_within (first_within _ _) (first_within _ _)))
    (within_trans b (beside_within (second_within _ _) (second_within _ _)))

module _ (p : Program) where
  -- the footprint of what the turns to come of the begun `parts` of a list leave pending
  abbrev pub still_turns : Environment → Codes → Footprint
  still_turns env b = record { touches = TurnsStillTouch p env b; writes = TurnsStillWrite p env b }

  -- the footprint of what a list of statements leaves pending
  abbrev pub pending : Environment → Codes → Footprint
  pending env b = both (foot env (Pending p accesses b)) (still_turns env b)

  -- the footprints of the turns to come of a statement, and of what they leave pending
  abbrev pub turn_of : Environment → Code → Footprint
  turn_of env s = record {
    touches = λ q. InTurnOf env (λ e b. MayTouch p e b q) s;
    writes = λ q. InTurnOf env (λ e b. MayWrite p e b q) s;
  }

  abbrev pub still_turn_of : Environment → Code → Footprint
  still_turn_of env s = record {
    touches = λ q. InTurnOf env (λ e b. MayStillTouch p e b q) s;
    writes = λ q. InTurnOf env (λ e b. MayStillWrite p e b q) s;
  }

  -- the footprints of a statement, and of what it leaves pending
  abbrev pub does : Environment → (label : ℕ) → Code → Footprint
  does env l s = both (foot env (AllOf p accesses l s)) (turn_of env s)

  abbrev pub leaves : Environment → Code → Footprint
  leaves env s = both (foot env (PendingOf p accesses s)) (still_turn_of env s)

  -- in an environment with the same windows in scope
  pub all_shifted : {scope : List ℕ} {env other : Environment} (b : Codes)
      → ((x : Access) → All p accesses b x → Member x.section scope) → TurnsIn p scope b
      → SameWindows scope env other → Within (all p other b) (all p env b)
  all_shifted {scope = scope} {env = env} {other = other} b m h same = beside_within (shifted {env = env} {other = other} m same) (record {
    touches = λ q. shift_turns p (λ e b. MayTouch p e b q)
        (λ scope env other b m same. (shifted {env = env} {other = other} m same).touches q) scope env other b h same;
    writes = λ q. shift_turns p (λ e b. MayWrite p e b q)
        (λ scope env other b m same. (shifted {env = env} {other = other} m same).writes q) scope env other b h same;
  })

  pub pending_shifted : {scope : List ℕ} {env other : Environment} (b : Codes)
      → ((x : Access) → All p accesses b x → Member x.section scope) → TurnsIn p scope b
      → SameWindows scope env other → Within (pending other b) (pending env b)
  pending_shifted {scope = scope} {env = env} {other = other} b m h same =
      beside_within (shifted {env = env} {other = other} (λ x i. m x (pending_all p i)) same) (record {
        touches = λ q. shift_turns p (λ e b. MayStillTouch p e b q)
            (λ scope env other b m same. (shifted {env = env} {other = other} (λ x i. m x (pending_all p i)) same).touches q)
            scope env other b h same;
        writes = λ q. shift_turns p (λ e b. MayStillWrite p e b q)
            (λ scope env other b m same. (shifted {env = env} {other = other} (λ x i. m x (pending_all p i)) same).writes q)
            scope env other b h same;
      })

  module _ (env : Environment) where
    split_foot : {xs ys zs : Access → Type 0} → ((x : Access) → xs x → ys x ⊎ zs x)
        → Within (foot env xs) (both (foot env ys) (foot env zs))
    split_foot f = record {
      touches = λ q t. either_of
          (λ h. record { access = t.access; among = h; place = t.place })
          (λ h. record { access = t.access; among = h; place = t.place }) (f t.access t.among);
      writes = λ q t. either_of
          (λ h. record { access = t.access; among = h; place = t.place; writes = t.writes })
          (λ h. record { access = t.access; among = h; place = t.place; writes = t.writes }) (f t.access t.among);
    }

    pub append_all : (b c : Codes) → Within (all p env (append b c)) (both (all p env b) (all p env c))
    append_all b c = crossed (split_foot (all_append p accesses b c)) (record {
      touches = λ q. turns_append env (λ e b. MayTouch p e b q) b c;
      writes = λ q. turns_append env (λ e b. MayWrite p e b q) b c;
    })

    pub append_pending : (b c : Codes) → Within (pending env (append b c)) (both (pending env b) (pending env c))
    append_pending b c = crossed (split_foot (pending_append p accesses b c)) (record {
      touches = λ q. turns_append env (λ e b. MayStillTouch p e b q) b c;
      writes = λ q. turns_append env (λ e b. MayStillWrite p e b q) b c;
    })

    pub statement_all : (l : ℕ) (s : Code) (rest : Codes) → Within (does env l s) (all p env (Then l s rest))
    statement_all l s rest = beside_within (among env (λ x h. All.here h)) (record {
      touches = λ q. first_turn env (λ e b. MayTouch p e b q) l s rest;
      writes = λ q. first_turn env (λ e b. MayWrite p e b q) l s rest;
    })

    pub rest_all : (l : ℕ) (s : Code) (rest : Codes) → Within (all p env rest) (all p env (Then l s rest))
    rest_all l s rest = beside_within (among env (λ x h. All.later h)) (record {
      touches = λ q. later_turn env (λ e b. MayTouch p e b q) l s rest;
      writes = λ q. later_turn env (λ e b. MayWrite p e b q) l s rest;
    })

    pub statement_pending : (l : ℕ) (s : Code) (rest : Codes) → Within (leaves env s) (pending env (Then l s rest))
    statement_pending l s rest = beside_within (among env (λ x h. Pending.here h)) (record {
      touches = λ q. first_turn env (λ e b. MayStillTouch p e b q) l s rest;
      writes = λ q. first_turn env (λ e b. MayStillWrite p e b q) l s rest;
    })

    pub rest_pending : (l : ℕ) (s : Code) (rest : Codes) → Within (pending env rest) (pending env (Then l s rest))
    rest_pending l s rest = beside_within (among env (λ x h. Pending.later h)) (record {
      touches = λ q. later_turn env (λ e b. MayStillTouch p e b q) l s rest;
      writes = λ q. later_turn env (λ e b. MayStillWrite p e b q) l s rest;
    })

    cons_of : (l : ℕ) (s : Code) (rest : Codes) (x : Access) → All p accesses (Then l s rest) x → AllOf p accesses l s x ⊎ All p accesses rest x
    cons_of l s rest x (All.here h) = inl h
    cons_of l s rest x (All.later h) = inr h

    pub cons_all : (l : ℕ) (s : Code) (rest : Codes)
        → Within (all p env (Then l s rest)) (both (does env l s) (all p env rest))
    cons_all l s rest = crossed (split_foot (cons_of l s rest)) (record {
      touches = λ q. which_turn env (λ e b. MayTouch p e b q) l s rest;
      writes = λ q. which_turn env (λ e b. MayWrite p e b q) l s rest;
    })

    pending_of : (l : ℕ) (s : Code) (rest : Codes) (x : Access) → Pending p accesses (Then l s rest) x → PendingOf p accesses s x ⊎ Pending p accesses rest x
    pending_of l s rest x (Pending.here h) = inl h
    pending_of l s rest x (Pending.later h) = inr h

    pub cons_pending : (l : ℕ) (s : Code) (rest : Codes)
        → Within (pending env (Then l s rest)) (both (leaves env s) (pending env rest))
    cons_pending l s rest = crossed (split_foot (pending_of l s rest)) (record {
      touches = λ q. which_turn env (λ e b. MayStillTouch p e b q) l s rest;
      writes = λ q. which_turn env (λ e b. MayStillWrite p e b q) l s rest;
    })

    -- a text has no turns to come
    pub text_all : (b : Codes) → IsText b → Within (all p env b) (foot env (All p accesses b))
    text_all b k = both_within (within_itself _) (record {
      touches = λ q h. absurd (no_turns env (λ e b. MayTouch p e b q) b k h);
      writes = λ q h. absurd (no_turns env (λ e b. MayWrite p e b q) b k h);
    })

    pub text_pending : (b : Codes) → IsText b → Within (pending env b) (foot env (Pending p accesses b))
    text_pending b k = both_within (within_itself _) (record {
      touches = λ q h. absurd (no_turns env (λ e b. MayStillTouch p e b q) b k h);
      writes = λ q h. absurd (no_turns env (λ e b. MayStillWrite p e b q) b k h);
    })

    -- the block of a statement
    pub text_does : (l : ℕ) (s : Code) (b : Codes) → IsText b → ((x : Access) → All p accesses b x → AllOf p accesses l s x)
        → Within (all p env b) (does env l s)
    text_does l s b k f = within_trans (text_all b k) (within_trans (among env f) (first_within _ _))

    pub text_leaves : (s : Code) (b : Codes) → IsText b → ((x : Access) → Pending p accesses b x → PendingOf p accesses s x)
        → Within (pending env b) (leaves env s)
    text_leaves s b k f = within_trans (text_pending b k) (within_trans (among env f) (first_within _ _))
