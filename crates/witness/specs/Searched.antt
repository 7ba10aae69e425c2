-- The ways among which the parts of a search look.
use Rattle.std.specs.Prelude.{ℕ, ◌≡◌, Bool, false, List, ◌∷◌, Some, slice_get}
use Rattle.sections.specs.Member.{Member}
use Rattle.sections.specs.declared.id.SectionId.{SectionId}
use Rattle.types.specs.Code.{Code, Codes, Program}
use Rattle.effects.specs.Accesses.{Access, own_accesses}
use Rattle.effects.specs.Effects.{past_split}
use Rattle.witness.specs.Known.{way_at, way_known}
use Rattle.witness.specs.Ways.{Goes, Way, step}
use Rattle.witness.specs.declared.known.Entry.{Entry}
use Rattle.witness.specs.declared.known.Known.{Known}
use Rattle.witness.specs.declared.search.Sought.{Sought}
use Rattle.witness.specs.declared.step.Rule.{Rule}
use Rattle.witness.specs.declared.step.WayStep.{WayStep}

-- the step, and one of those ways after it
pub record IsLed (first : WayStep) (those : List WayStep → Type 0) (way : List WayStep) : Type 0 where
  pub behind : List WayStep
  pub is : way ≡ first ∷ behind
  pub leads : those behind

-- a statement's own expressions make the access
pub record IsOwn (pending : Bool) (label : ℕ) (s : Code) (x : Access) : Type 0 where
  pub done : pending ≡ false
  pub member : Member x (own_accesses label s)

module _ (p : Program) (pending : Bool) (label : ℕ) (s : Code) (x : Access) where
  -- a way that continues by a rule, to what has the name `inner` in the list inside
  pub record GoesBy (rule : Rule) (inner : ℕ) (way : List WayStep) : Type 0 where
    pub kind : Bool
    pub list : Codes
    pub goes : Goes p pending s rule kind list x.section inner
    pub led : IsLed (step label rule x.section)
        (λ behind. Way p kind list behind (record x { section = inner })) way

  -- a way that continues by any rule
  pub record GoesOn (way : List WayStep) : Type 0 where
    pub rule : Rule
    pub inner : ℕ
    pub by : GoesBy rule inner way

-- a way that continues with what is known at an entry, if the section is passed
pub record IsFromParameter (known : Known) (e : Entry) (passes : Type 0) (first : WayStep)
    (way : List WayStep) : Type 0 where
  pub passed : passes
  pub led : IsLed first (λ behind. way_at known e ≡ Some behind) way

-- a way that continues with what is known of a procedure, at a parameter for which the section is
-- passed
pub record GoesIn (known : Known) (pending : Bool) (f : ℕ) (sections : List ℕ) (section : ℕ)
    (first : WayStep) (way : List WayStep) : Type 0 where
  pub parameter : ℕ
  pub passed : slice_get sections parameter ≡ Some section
  pub led : IsLed first (λ behind. way_known known pending f parameter ≡ Some behind) way

-- what is sought inside a split, if `inner` is the section's name there
pub record IsInside (outer : Sought) (section left right : ℕ) (inner : SectionId) (aim : Sought)
    : Type 0 where
  pub names : past_split section left right inner.number ≡ outer.access.section.number
  pub access : aim.access ≡ record outer.access { section = inner }
  pub pending : aim.pending ≡ outer.pending
