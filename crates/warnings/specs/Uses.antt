-- Where the scalars, the sections and the procedures of a program are used.
use Rattle.std.specs.Prelude.{ℕ, Bool, false, ◌||◌, List, nat_eq}
use Rattle.std.specs.List.{list_any}
use Rattle.types.specs.Code.{Number, Literal, Scalar, Element, Length, Negative, Chain, Links, Done, Link}
use Rattle.types.specs.Code.{Truth, Constant, Compare, Not, Both, Either, Truths, NoMore, Also, Primitive}
use Rattle.types.specs.Code.{Skip, Assign, Store, Print, Raise, Code, Do, If, While, Split, Parts, Begun, Call}
use Rattle.types.specs.Code.{Async, Finish, Rescue, Codes, End, Then}
use Rattle.warnings.specs.declared.uses.Thing.{Thing}
use Rattle.warnings.specs.declared.uses.Thing.TheVariants.{ScalarIn, SectionOf, ProcedureOf}

-- this is the scalar in a slot, the section, or the procedure with a number
abbrev pub is_scalar : Thing → ℕ → Bool
is_scalar (ScalarIn x) n = nat_eq x n
is_scalar (SectionOf s) n = false
is_scalar (ProcedureOf f) n = false

abbrev pub is_section : Thing → ℕ → Bool
is_section (SectionOf s) n = nat_eq s n
is_section (ScalarIn x) n = false
is_section (ProcedureOf f) n = false

abbrev pub is_procedure : Thing → ℕ → Bool
is_procedure (ProcedureOf f) n = nat_eq f n
is_procedure (ScalarIn x) n = false
is_procedure (SectionOf s) n = false

abbrev mutual
  -- a number expression reads the scalar, or names the section
  pub number_uses : Thing → Number → Bool
  number_uses t (Literal n) = false
  number_uses t (Scalar x) = is_scalar t x
  number_uses t (Element s e) = is_section t s || number_uses t e
  number_uses t (Length s) = is_section t s
  number_uses t (Negative e) = number_uses t e
  number_uses t (Chain e rest) = number_uses t e || links_use t rest

  pub links_use : Thing → Links → Bool
  links_use t Done = false
  links_use t (Link o e rest) = number_uses t e || links_use t rest

abbrev mutual
  -- so does a boolean expression
  pub truth_uses : Thing → Truth → Bool
  truth_uses t (Constant b) = false
  truth_uses t (Compare r a b) = number_uses t a || number_uses t b
  truth_uses t (Not p) = truth_uses t p
  truth_uses t (Both ps) = truths_use t ps
  truth_uses t (Either ps) = truths_use t ps

  pub truths_use : Thing → Truths → Bool
  truths_use t NoMore = false
  truths_use t (Also p ps) = truth_uses t p || truths_use t ps

-- one of several expressions does, or one of several sections is it
abbrev pub numbers_use : Thing → List Number → Bool
numbers_use t es = list_any (number_uses t) es

abbrev pub sections_use : Thing → List ℕ → Bool
sections_use t ss = list_any (is_section t) ss

-- a statement of one step; an assignment doesn't use the scalar that it writes
abbrev pub primitive_uses : Thing → Primitive → Bool
primitive_uses t Skip = false
primitive_uses t (Assign x e) = number_uses t e
primitive_uses t (Store s i e) = is_section t s || (number_uses t i || number_uses t e)
primitive_uses t (Print es) = numbers_use t es
primitive_uses t (Raise e) = number_uses t e

abbrev mutual
  -- a statement uses it, or one inside
  pub code_uses : Thing → Code → Bool
  code_uses t (Do p) = primitive_uses t p
  code_uses t (If g b c) = truth_uses t g || (codes_use t b || codes_use t c)
  code_uses t (While g b) = truth_uses t g || codes_use t b
  code_uses t (Split s e x y b) = is_section t s || (number_uses t e || codes_use t b)
  code_uses t (Parts s e q i b) = is_section t s || (number_uses t e || codes_use t b)
  code_uses t (Begun s n k q i b) = is_section t s || codes_use t b
  code_uses t (Call f es ss) = is_procedure t f || (numbers_use t es || sections_use t ss)
  code_uses t (Async b) = codes_use t b
  code_uses t (Finish b) = codes_use t b
  code_uses t (Rescue b x c) = codes_use t b || codes_use t c

  pub codes_use : Thing → Codes → Bool
  codes_use t End = false
  codes_use t (Then l s rest) = code_uses t s || codes_use t rest
