-- The sections whose elements an expression can read.
use Rattle.std.specs.Prelude.{ℕ, List, [], ◌∷◌, ◌++◌}
use Rattle.types.specs.Code.{Number, Literal, Scalar, Element, Length, Negative, Chain, Links, Done, Link}
use Rattle.types.specs.Code.{Truth, Constant, Compare, Not, Both, Either, Truths, NoMore, Also}

abbrev mutual
  -- of a number expression
  pub indexed : Number → List ℕ
  indexed (Literal v) = []
  indexed (Scalar x) = []
  indexed (Element s i) = s ∷ indexed i
  indexed (Length s) = []
  indexed (Negative e) = indexed e
  indexed (Chain e rest) = indexed e ++ indexed_links rest

  pub indexed_links : Links → List ℕ
  indexed_links Done = []
  indexed_links (Link o e rest) = indexed e ++ indexed_links rest

abbrev mutual
  -- of a boolean expression
  pub indexed_truth : Truth → List ℕ
  indexed_truth (Constant b) = []
  indexed_truth (Compare r a b) = indexed a ++ indexed b
  indexed_truth (Not t) = indexed_truth t
  indexed_truth (Both ts) = indexed_truths ts
  indexed_truth (Either ts) = indexed_truths ts

  pub indexed_truths : Truths → List ℕ
  indexed_truths NoMore = []
  indexed_truths (Also t rest) = indexed_truth t ++ indexed_truths rest
