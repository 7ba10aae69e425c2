use Rattle.std.proofs.Common.{rules, ap, sym, ◌∙◌, map, arith}
use Rattle.syntax.specs.Spelling.{arrays_then}
use Rattle.syntax.specs.Token.{plain}
use Rattle.syntax_tree.specs.Tree.{array}
use Rattle.syntax.proofs.ProgramLemmas.{arrays_read}
use Rattle.syntax.proofs.RefusalLemmas.{passed_on}
use Rattle.syntax.proofs.ProgramRefusals.{arrays_opened, arrays_closed}
use Rattle.syntax.proofs.programs.arrays.Goals as goal

pub loop-after-init : goal.loop-after-init
unfolding arrays_then
loop-after-init c = record {
  shorter = omega arith;
  spelled = ap (λ l. arrays_then (map array l) (plain c.args.tokens.now)) (sym c.new-arrays.ensures.items);
  whole = λ all r ends spelled. (all, spelled);
}

pub loop-after-preserved : goal.loop-after-preserved
loop-after-preserved c = record {
  shorter = omega (arith, c.loop-after.invariant.shorter, c.in-Some.ensures.shorter, c.in_ok-next.ensures.shorter);
  spelled = arrays_read _ _ _ _ _ _ _ c.loop-after.invariant.spelled c.in-Some.ensures.found
      c.in_ok-next.ensures.read.spelled c.in_ok-push.ensures.items;
  whole = λ all r ends spelled.
      let end = c.loop-after.invariant.whole all r ends spelled in
      let one = arrays_opened end.0 _ r ends (sym c.in-Some.ensures.found ∙ end.1) in
      (one.1, c.in_ok-next.ensures.read.whole one.0 (arrays_then one.1 r) one.2);
}

pub returns-in_err-next-clause-refused : goal.returns-in_err-next-clause-refused
returns-in_err-next-clause-refused c =
    passed_on _ _ c.from_residual.ensures.1 (λ room all r ends spelled.
    let end = c.loop-after.invariant.whole all r ends spelled in
    let one = arrays_opened end.0 _ r ends (sym c.in-Some.ensures.found ∙ end.1) in
    c.in_err-next.ensures.refused room one.0 (arrays_then one.1 r) one.2)

pub returns-clause-read : goal.returns-clause-read
returns-clause-read c = record {
  spelled = search rules;
  whole = λ all r ends spelled.
      let end = c.loop-after.invariant.whole all r ends spelled in
      arrays_closed end.0 _ r c.in_default.ensures.absent end.1;
}
