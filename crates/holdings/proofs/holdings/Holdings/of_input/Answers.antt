use Rattle.std.proofs.Common.{◌∙◌, ap, map, subst, sym, List, Vec, Global}
use Rattle.std.specs.List.{All}
use Rattle.std.specs.Prelude.{ℤ}
use Rattle.blocks.specs.Held.{as_owned}
use Rattle.holdings.specs.Holdings.{listed}
use Rattle.holdings.proofs.InputLemmas.{IsShort, short_lists}
use Rattle.holdings.proofs.holdings.Holdings.of_input.Goals as goal

pub of_lists-requires : goal.of_lists-requires
of_lists-requires c =
    subst (All IsShort) (sym c.deref.ensures.value)
    (short_lists c.args._typed.now.code.arrays.items c.args.input.now.arrays.items c.requires)

pub returns-clause-held : goal.returns-clause-held
returns-clause-held c =
    c.in_ok-rows.ensures ∙ ap (λ (vs : List (Vec ℤ Global)). as_owned (listed (map (λ v. v.items) vs))) c.deref.ensures.value
