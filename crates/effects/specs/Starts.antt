-- What the statements of a body do without their calls, as labels of rows.
use Rattle.std.specs.Prelude.{ℕ, List, [], ◌∷◌, ◌++◌, flat_map}
use Rattle.effects.specs.Accesses.{Access, own_accesses}
use Rattle.effects.specs.Visits.{Visit}
use Rattle.effects.specs.declared.starts.FirstLabel.{FirstLabel}
use Rattle.effects.specs.declared.summary.SummaryRow.TheVariants.{All, Pending, Labels, PendingLabels}
use Rattle.effects.specs.declared.visits.Standing.{Standing}
use Rattle.effects.specs.declared.visits.Standing.TheVariants.{Begun}

-- a row of everything that is done and, if a spawned task does it, a row of what is pending
abbrev pub starts_at : Standing → (all pending : FirstLabel) → List FirstLabel
starts_at Begun all pending = all ∷ pending ∷ []
starts_at w all pending = all ∷ []

-- the rows of a statement's label
abbrev pub starts_of_label : Standing → (label : ℕ) → List FirstLabel
starts_of_label w l =
    starts_at w (record { row = Labels; label = l }) (record { row = PendingLabels; label = l })

module _ (root : ℕ → ℕ) where
  -- an access in the row of everything that is done
  abbrev pub among_all : Access → FirstLabel
  among_all x = record { row = All (record { number = root x.section }) x.write; label = x.label }

  -- an access in the row of what is pending
  abbrev pub among_pending : Access → FirstLabel
  among_pending x =
      record { row = Pending (record { number = root x.section }) x.write; label = x.label }

  -- the rows of an access
  abbrev pub starts_of_access : Standing → Access → List FirstLabel
  starts_of_access w x = starts_at w (among_all x) (among_pending x)

  -- what a statement does without its call
  abbrev pub starts_of : Visit → List FirstLabel
  starts_of v = starts_of_label v.standing v.label
      ++ flat_map (starts_of_access v.standing) (own_accesses v.label v.code)
