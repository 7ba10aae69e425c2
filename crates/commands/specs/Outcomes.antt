-- The input and the outcome of a program, for values of Rust.
use Rattle.std.specs.Prelude.{◌≡◌}
use Rattle.types.specs.Contents.{FitsArrays}
use Rattle.types.specs.Outcome.{outcome}
use Rattle.types.specs.Translation.{budget as budget_of, input as lists_of, outcome as outcome_of}
use Rattle.types.specs.Typed.{code_of}
use Rattle.types.specs.declared.budget.Budget.{Budget}
use Rattle.types.specs.declared.input.Input.{Input}
use Rattle.types.specs.declared.outcome.Outcome.{Outcome}
use Rattle.types.specs.declared.typed.Typed.{Typed}

-- an input fits the arrays of a program
abbrev pub Fits : Typed → Input → Type 0
Fits t input = FitsArrays (code_of t).arrays (lists_of input)

-- this is the one-thread outcome of a program on an input and under a budget
abbrev pub IsOutcomeOf : Typed → Input → Budget → Outcome → Type 0
IsOutcomeOf t input b o = outcome_of o ≡ outcome (code_of t) (lists_of input) (budget_of b)
