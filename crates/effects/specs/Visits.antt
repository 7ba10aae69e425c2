-- The statements of a body, at any depth, each with its position relative to asyncs and finishes.
use Rattle.std.specs.Prelude.{ℕ, List, [], ◌∷◌, ◌++◌}
use Rattle.types.specs.Code.{Code, Do, If, While, Split, Parts, Begun, Call, Async, Finish, Rescue, Codes}
use Rattle.types.specs.Code.{End, Then}
use Rattle.types.specs.Translation.{code}
use Rattle.effects.specs.declared.visits.Standing.{Standing}
use Rattle.effects.specs.declared.visits.Standing.TheVariants.{Open, Begun, Awaited}
use Rattle.effects.specs.declared.visits.Visit.{Visit as rVisit}

-- a statement and its position
pub record Visit : Type 0 where
  pub standing : Standing
  pub label : ℕ
  pub code : Code

abbrev pub visit : rVisit → Visit
visit v = record {
  standing = v.standing;
  label = v.statement.now.label;
  code = code v.statement.now.kind;
}

-- the position inside a statement: `inside` if the position around it is open, else the position
-- around it
abbrev pub closed_by : (inside : Standing) → (around : Standing) → Standing
closed_by inside Open = inside
closed_by inside around = around

-- the position of the body of an async
abbrev pub in_async : Standing → Standing
in_async = closed_by Begun

-- the position of the body of a finish; inside an async or a finish it stays the same
abbrev pub in_finish : Standing → Standing
in_finish = closed_by Awaited

abbrev mutual
  -- the statements inside a statement
  pub visits_inside : Standing → Code → List Visit
  visits_inside w (Do s) = []
  visits_inside w (If t b c) = visits_in w b ++ visits_in w c
  visits_inside w (While t b) = visits_in w b
  visits_inside w (Split s e l r b) = visits_in w b
  visits_inside w (Parts s e q i b) = visits_in w b
  visits_inside w (Begun s n k q i b) = []
  visits_inside w (Call f es ss) = []
  visits_inside w (Async b) = visits_in (in_async w) b
  visits_inside w (Finish b) = visits_in (in_finish w) b
  visits_inside w (Rescue b n c) = visits_in (in_finish w) b ++ visits_in w c

  -- the statements of a list of statements
  pub visits_in : Standing → Codes → List Visit
  visits_in w End = []
  visits_in w (Then l s rest) =
      record { standing = w; label = l; code = s } ∷ (visits_inside w s ++ visits_in w rest)
