-- Blocks that may run next, given their surroundings.
use Rattle.sections.specs.Place.{Place}
use Rattle.types.specs.Code.{Codes, Program}
use Rattle.types.specs.Contents.{Contents}
use Rattle.types.specs.Value.{Environment}
use Rattle.effects.specs.Effects.{All, Pending, accesses}
use Rattle.effects.specs.Footprint.{Touches, Overwrites, TurnsTouch, TurnsWrite, TurnsStillWrite}
use Rattle.effects.specs.Needs.{Needs, ProvidesIn}
use Rattle.race_checker.specs.Scope.{Scope, FitsScope, Scoped}
use Rattle.race_checker.specs.Calm.{Calm}

-- the surroundings, which stay fixed along a block
pub record Around : Type 1 where
  pub scope : Scope
  -- the windows of the sections in scope
  pub env : Environment
  -- the contents with which one thread started, and the places where it may have written since
  pub base : Contents
  pub wrote : Place → Type 0
  -- the places at which both runs have the same contents
  pub held : Place → Type 0

module _ (p : Program) (needs : Codes → Needs) where
  -- A block may run next: it stays within the surroundings, and touches nothing that is locked.
  -- `final` is locked afterwards.
  pub record Ready (x : Around) (locked final : Place → Type 0) (b : Codes) : Type 0 where
    pub fits : FitsScope x.scope x.env
    pub scoped : Scoped p x.scope b
    pub calm : Calm p x.scope b
    pub provided : ProvidesIn p needs b
    pub free : (q : Place) → Touches x.env (All p accesses b) q → locked q → ⊥
    pub held : (q : Place) → Touches x.env (All p accesses b) q → x.held q
    pub wrote : (q : Place) → Overwrites x.env (All p accesses b) q → x.wrote q
    pub kept : (q : Place) → locked q → final q
    pub added : (q : Place) → Overwrites x.env (Pending p accesses b) q → final q
    -- the same for the turns to come of a begun `parts`
    pub turns_free : (q : Place) → TurnsTouch p x.env b q → locked q → ⊥
    pub turns_held : (q : Place) → TurnsTouch p x.env b q → x.held q
    pub turns_wrote : (q : Place) → TurnsWrite p x.env b q → x.wrote q
    pub turns_added : (q : Place) → TurnsStillWrite p x.env b q → final q
