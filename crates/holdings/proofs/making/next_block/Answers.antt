use Rattle.std.proofs.Common.{sym, ap, ◌∙◌}
use Rattle.std.proofs.lemmas.Result.{IfOk-weaker}
use Rattle.std.specs.Prelude.{option_copied}
use Rattle.holdings.proofs.MakingLemmas.{owns-again}
use Rattle.holdings.proofs.making.next_block.Goals as goal

pub returns : goal.returns
returns c =
    let there = sym c.last.ensures.value ∙ ap option_copied c.in-Some.is in
    let same = sym c.eq.ensures ∙ c.if-eq.true in
    IfOk-weaker c.again.result _ _
    (λ b alike. owns-again _ c.in-Some.last.now b c.args.before.now c.args.numbers.now there c.requires.last same alike)
    c.again.ensures
