-- Resolved programs are a set, so a ghost field can state that a program is a certain one.
use Rattle.std.specs.Prelude.{◌≡◌, List, Option}
use mathlib.Core.Sum.{⊎_set}
use Rattle.std.proofs.Props.{props}
use Rattle.sections.specs.Origins.{Origin}
use Rattle.syntax_tree.specs.declared.tree.ElementType.{ElementType}
use Rattle.syntax_tree.specs.declared.tree.Relation.{Relation}
use Rattle.types.specs.declared.code.Operator.{Operator}
use Rattle.types.specs.Code.{Number, Number-set, Truth, Truth-set, Primitive, Primitive-set, Codes}
use Rattle.types.specs.Code.{Codes-set, Program}

operators : IsSet Operator
operators = hlevel (⊎_set, props)

relations : IsSet Relation
relations = hlevel (⊎_set, props)

elements : IsSet ElementType
elements = hlevel (⊎_set, props)

origins : IsSet Origin
origins = hlevel (⊎_set, props)

numbers : IsSet Number
numbers = Number-set (hlevel props) (hlevel props) operators

truths : IsSet Truth
truths = Truth-set (hlevel props) relations numbers

lists_of_numbers : IsSet (List Number)
lists_of_numbers = hlevel (numbers, props)

primitives : IsSet Primitive
primitives = Primitive-set (hlevel props) numbers lists_of_numbers

codes : IsSet Codes
codes = Codes-set primitives truths (hlevel props) numbers lists_of_numbers (hlevel props)

programs : IsSet Program
programs = hlevel (codes, origins, elements, props)

-- there is at most one proof that an optional program is a certain one
pub one_proof : (p q : Option Program) → IsProp (p ≡ q)
one_proof = hlevel (programs, props)
