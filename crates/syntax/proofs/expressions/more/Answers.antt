use Rattle.std.proofs.Common.{sym, ◌∙◌, arith}
use Rattle.syntax.proofs.ChainLemmas.{more_read, none_added}
use Rattle.syntax.proofs.RefusalLemmas.{passed_on, more_opened, more_closed}
use Rattle.syntax.proofs.StmtSpellings.{more_bind}
use Rattle.syntax.proofs.expressions.more.Goals as goal

pub loop-after-init : goal.loop-after-init
loop-after-init c = record { shorter = omega arith; spelled = none_added _ _; whole = λ all r ends spelled. (all, spelled) }

pub loop-after-preserved : goal.loop-after-preserved
loop-after-preserved c = record {
  shorter = omega (arith, c.loop-after.invariant.shorter, c.in-Some.ensures.shorter, c.in_ok-next.ensures.shorter);
  spelled = more_read _ _ _ _ _ _ _ _ c.loop-after.invariant.spelled c.in-Some.ensures.found
      c.in_ok-next.ensures.read.spelled c.in_ok-push.ensures.items;
  whole = λ all r ends spelled.
      let end = c.loop-after.invariant.whole all r ends spelled in
      let one = more_opened end.0 _ r ends (sym c.in-Some.ensures.found ∙ end.1) in
      (one.1, c.in_ok-next.ensures.read.whole one.0 _ (more_bind one.1 r ends) one.2);
}

pub returns-clause-whole : goal.returns-clause-whole
returns-clause-whole c = λ all r ends spelled.
    let end = c.loop-after.invariant.whole all r ends spelled in
    more_closed end.0 _ r c.in_default.ensures.absent end.1

pub returns-in_err-next-clause-refused : goal.returns-in_err-next-clause-refused
returns-in_err-next-clause-refused c =
    passed_on _ _ c.from_residual.ensures.1 (λ room all r ends spelled.
    let end = c.loop-after.invariant.whole all r ends spelled in
    let one = more_opened end.0 _ r ends (sym c.in-Some.ensures.found ∙ end.1) in
    c.in_err-next.ensures.refused room one.0 _ (more_bind one.1 r ends) one.2)
