-- A chain represents what its operands, in order, represent.
use Rattle.std.proofs.Common.{◌≡◌, ℕ, suc, ◌<◌, List, length, drop, get_or, Vec, Box, Global, Ok, refl, sym, ap, ◌∙◌}
use Rattle.std.proofs.Math.Seq.{drop-cons}
use Rattle.std.specs.Prelude.{ℤ, Bool, true, false}
use mathlib.Core.Former.{Count}
use Rattle.types.specs.declared.code.Number.{Number as rNumber, Row_of-Link, end_of-Link, more_of-Link}
use Rattle.types.specs.declared.code.Number.{items-the_row-Link, items_hidden-the_row-Link-0}
use Rattle.types.specs.declared.code.Number.TheVariants.{Chain as rChain, Chain' as rChain'}
use Rattle.types.specs.declared.code.Link.{Link as rLink}
use Rattle.types.specs.declared.code.Truth.{Truth as rTruth, Row_of-Truth, end_of-Truth, more_of-Truth}
use Rattle.types.specs.declared.code.Truth.{items-the_row-Truth, items_hidden-the_row-Truth-0}
use Rattle.types.specs.declared.code.Truth.TheVariants.{Both as rBoth, Both' as rBoth', Either as rEither, Either' as rEither'}
use Rattle.types.specs.Code.{Chain, Link, Both, Either, Truths, NoMore, Also}
use Rattle.sections.specs.Place.{Place}
use Rattle.types.specs.Value.{Environment, Valued, then_try, all, any, truth as truth_value}
use Rattle.types.specs.Translation.{number, truth, links as row_links, truths as row_truths}
use Rattle.types.specs.Rows.{links, truths}

links_are : (n : Count) (row : Row_of-Link n) → row_links row ≡ links (items-the_row-Link n row)
links_are n end_of-Link = refl
links_are n (more_of-Link o e rest) = ap (Link o (number e)) (links_are _ rest)

abbrev links_in : rNumber → (n : Count) × Row_of-Link n
links_in (rChain' _ _ _ rest) = (_, rest)
links_in _ = (_, end_of-Link)

pub number-Chain : (first : Box rNumber Global) (rest : Vec rLink Global)
    → number (rChain first rest) ≡ Chain (number first.value) (links rest.items)
number-Chain first rest =
    let row = links_in (rChain first rest) in
    ap (Chain (number first.value)) (links_are row.0 row.1 ∙ ap links (items_hidden-the_row-Link-0 rest))

truths_are : (n : Count) (row : Row_of-Truth n) → row_truths row ≡ truths (items-the_row-Truth n row)
truths_are n end_of-Truth = refl
truths_are n (more_of-Truth t rest) = ap (Also (truth t)) (truths_are _ rest)

abbrev operands_in : rTruth → (n : Count) × Row_of-Truth n
operands_in (rBoth' _ rest) = (_, rest)
operands_in (rEither' _ rest) = (_, rest)
operands_in _ = (_, end_of-Truth)

pub truth-Both : (operands : Vec rTruth Global) → truth (rBoth operands) ≡ Both (truths operands.items)
truth-Both operands =
    let row = operands_in (rBoth operands) in ap Both (truths_are row.0 row.1 ∙ ap truths
    (items_hidden-the_row-Truth-0 operands))

pub truth-Either : (operands : Vec rTruth Global) → truth (rEither operands) ≡ Either (truths operands.items)
truth-Either operands =
    let row = operands_in (rEither operands) in ap Either (truths_are row.0 row.1 ∙ ap truths
    (items_hidden-the_row-Truth-0 operands))

-- if the remaining operands start with an operand
operands_from : (ts : List rTruth) (i : ℕ) (t : rTruth) → i < length ts → t ≡ get_or ts i t
    → truths (drop i ts) ≡ Also (truth t) (truths (drop (suc i) ts))
operands_from ts i t lt at = ap truths (drop-cons ts i t lt) ∙ ap (λ u. Also (truth u) (truths (drop (suc i) ts))) (sym at)

module _ (env : Environment) (read : Place → ℤ) where
  all-false : (ts : Truths) → Ok false ≡ all env read ts false
  all-false NoMore = refl
  all-false (Also t rest) = refl

  any-true : (ts : Truths) → Ok true ≡ any env read ts true
  any-true NoMore = refl
  any-true (Also t rest) = refl

  -- the value of a chain is whether all its operands, or any of them, are true
  pub value-Both : {t : rTruth} {row : List rTruth} (operands : Vec rTruth Global) → t ≡ rBoth operands
      → row ≡ operands.items → all env read (truths row) true ≡ truth_value env read (truth t)
  value-Both operands is at = ap (λ ts. all env read (truths ts) true) at
      ∙ ap (truth_value env read) (sym (ap truth is ∙ truth-Both operands))

  pub value-Either : {t : rTruth} {row : List rTruth} (operands : Vec rTruth Global) → t ≡ rEither operands
      → row ≡ operands.items → any env read (truths row) false ≡ truth_value env read (truth t)
  value-Either operands is at = ap (λ ts. any env read (truths ts) false) at
      ∙ ap (truth_value env read) (sym (ap truth is ∙ truth-Either operands))

  -- an operand whose value is known, before those after it
  decided : (b : Bool) (t : rTruth) (rest : Bool → Valued Bool) → Ok b ≡ truth_value env read (truth t) → Ok b ≡ rest b
      → Ok b ≡ then_try (truth_value env read (truth t)) rest
  decided b t rest e ends = ends ∙ ap (λ v. then_try v rest) e

  -- the first operand that is false ends the evaluation
  pub all_end : (ts : List rTruth) (i : ℕ) (t : rTruth) → i < length ts → t ≡ get_or ts i t
      → Ok false ≡ truth_value env read (truth t) → Ok false ≡ all env read (truths (drop i ts)) true
  all_end ts i t lt at e =
      let rest = truths (drop (suc i) ts) in
      decided false t (all env read rest) e (all-false rest) ∙ ap (λ l. all env read l true) (sym (operands_from ts i t lt at))

  -- the first operand that is true ends the evaluation
  pub any_ends : (ts : List rTruth) (i : ℕ) (t : rTruth) → i < length ts → t ≡ get_or ts i t
      → Ok true ≡ truth_value env read (truth t) → Ok true ≡ any env read (truths (drop i ts)) false
  any_ends ts i t lt at e =
      let rest = truths (drop (suc i) ts) in
      decided true t (any env read rest) e (any-true rest) ∙ ap (λ l. any env read l false) (sym (operands_from ts i t lt at))
