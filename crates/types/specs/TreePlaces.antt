-- The label that a leaf that can step is at, and the places that its step reads and writes.
use Rattle.std.specs.Prelude.{ℕ, ◌≡◌, List, [], ◌∷◌, ◌++◌, Bool, true, false, ℤ, Ok, Err}
use Rattle.sections.specs.Place.{Place}
use Rattle.types.specs.Code.{Number, Literal, Scalar, Element, Length, Negative, Chain, Links}
use Rattle.types.specs.Code.{Done, Link, Truth, Constant, Compare, Not, Both, Either, Truths}
use Rattle.types.specs.Code.{NoMore, Also, Primitive, Skip, Assign, Store, Print, Raise, Code, Do}
use Rattle.types.specs.Code.{If, While, Split, Parts, Begun, Call, Async, Finish, Rescue, Codes, End, Then}
use Rattle.types.specs.Contents.{Contents, read}
use Rattle.types.specs.Value.{Environment, Valued, then_try, element_of, operate, number, truth}
use Rattle.types.specs.Trees.{Leaf}

-- the leaf's next statement, or the loop whose condition comes next, has this label
pub record StandsBefore (k : Leaf) (label : ℕ) : Type 0 where
  pub code : Code
  pub rest : Codes
  pub stands : k.rest ≡ Then label code rest

-- what follows a value, and nothing after a fault
abbrev pub after : {A : Type 0} → Valued A → (A → List Place) → List Place
after (Ok v) go = go v
after (Err f) go = []

-- in an environment, where `contents` gives the number at a place; in the order of evaluation
module _ (env : Environment) (contents : Place → ℤ) where
  abbrev mutual
    -- the places that are read for the value of a number expression
    pub number_reads : Number → List Place
    number_reads (Literal n) = []
    number_reads (Scalar x) = []
    number_reads (Element s e) =
        number_reads e
        ++ after (then_try (number env contents e) (element_of (env.windows s))) (λ q. q ∷ [])
    number_reads (Length s) = []
    number_reads (Negative e) = number_reads e
    number_reads (Chain e rest) =
        number_reads e ++ after (number env contents e) (links_read rest)

    -- for the result of applying the remaining operands to the number so far
    pub links_read : Links → ℤ → List Place
    links_read Done x = []
    links_read (Link o e rest) x =
        number_reads e
        ++ after (then_try (number env contents e) (operate o x)) (links_read rest)

  -- for the numbers of a list of expressions
  abbrev pub numbers_read : List Number → List Place
  numbers_read [] = []
  numbers_read (e ∷ es) = number_reads e ++ after (number env contents e) (λ v. numbers_read es)

  abbrev mutual
    -- for the value of a boolean expression
    pub truth_reads : Truth → List Place
    truth_reads (Constant b) = []
    truth_reads (Compare r a b) =
        number_reads a ++ after (number env contents a) (λ x. number_reads b)
    truth_reads (Not t) = truth_reads t
    truth_reads (Both ts) = all_read ts true
    truth_reads (Either ts) = any_read ts false

    -- for whether all operands are true, given the result of those before
    pub all_read : Truths → Bool → List Place
    all_read NoMore b = []
    all_read (Also t rest) false = []
    all_read (Also t rest) true = truth_reads t ++ after (truth env contents t) (all_read rest)

    -- for whether some operand is true
    pub any_read : Truths → Bool → List Place
    any_read NoMore b = []
    any_read (Also t rest) true = []
    any_read (Also t rest) false = truth_reads t ++ after (truth env contents t) (any_read rest)

  -- the places that a statement of one step reads
  abbrev pub primitive_reads : Primitive → List Place
  primitive_reads Skip = []
  primitive_reads (Assign x e) = number_reads e
  primitive_reads (Store s i e) =
      number_reads i ++ after (number env contents i) (λ at. number_reads e)
  primitive_reads (Print es) = numbers_read es
  primitive_reads (Raise e) = number_reads e

  -- the places that the step of a statement reads
  abbrev pub step_reads : Code → List Place
  step_reads (Do s) = primitive_reads s
  step_reads (If t b c) = truth_reads t
  step_reads (While t b) = truth_reads t
  step_reads (Split s e l r b) = number_reads e
  step_reads (Parts s e x i b) = number_reads e
  step_reads (Begun s n k x i b) = []
  step_reads (Call f es ss) = numbers_read es
  step_reads (Async b) = []
  step_reads (Finish b) = []
  step_reads (Rescue b x c) = []

  -- the place that a store writes to, even if the number doesn't fit in its element type
  abbrev pub primitive_writes : Primitive → List Place
  primitive_writes Skip = []
  primitive_writes (Assign x e) = []
  primitive_writes (Store s i e) =
      after (number env contents i) (λ at.
      after (number env contents e) (λ v.
      after (element_of (env.windows s) at) (λ q. q ∷ [])))
  primitive_writes (Print es) = []
  primitive_writes (Raise e) = []

  -- the places that the step of a statement writes
  abbrev pub step_writes : Code → List Place
  step_writes (Do s) = primitive_writes s
  step_writes (If t b c) = []
  step_writes (While t b) = []
  step_writes (Split s e l r b) = []
  step_writes (Parts s e x i b) = []
  step_writes (Begun s n k x i b) = []
  step_writes (Call f es ss) = []
  step_writes (Async b) = []
  step_writes (Finish b) = []
  step_writes (Rescue b x c) = []

  -- the places that the first step of a list of statements reads
  abbrev pub first_reads : Codes → List Place
  first_reads End = []
  first_reads (Then l s rest) = step_reads s

  -- the places that the first step of a list of statements writes
  abbrev pub first_writes : Codes → List Place
  first_writes End = []
  first_writes (Then l s rest) = step_writes s

-- the places that a leaf's next step reads
abbrev pub next_reads : Leaf → Contents → List Place
next_reads k a = first_reads k.environment (read a) k.rest

-- the places that a leaf's next step writes
abbrev pub next_writes : Leaf → Contents → List Place
next_writes k a = first_writes k.environment (read a) k.rest
