use Rattle.std.proofs.Common.{◌≢◌, [], ◌∷◌, ◌∙◌, ap, sym, map, arith, eqb, true-eqb}
use Rattle.syntax.specs.declared.token.Mark.TheVariants.{LeftBrace}
use Rattle.syntax.specs.declared.token.Word.TheVariants.{Main}
use Rattle.syntax.specs.Spelling.{arrays_then, block_then, procedures_then, main_tokens, spelling}
use Rattle.syntax.specs.Token.{WordToken, MarkToken, plain}
use Rattle.syntax_tree.specs.Tree.{array, block, procedure}
use Rattle.syntax.proofs.ProgramLemmas.{procedures_read, plain_none}
use Rattle.syntax.proofs.RefusalLemmas.{passed_on}
use Rattle.syntax.proofs.ProgramRefusals.{none_plain, procedures_opened, procedures_closed, main_opened}
use Rattle.syntax.proofs.SpellingLemmas.{main_binds}
use Rattle.syntax.proofs.programs.program.Goals as goal

pub loop-after-init : goal.loop-after-init
unfolding procedures_then
loop-after-init c = record {
  shorter = omega arith;
  spelled = ap (λ l. procedures_then (map procedure l) (plain c.args.tokens.now)) (sym c.new-procedures.ensures.items);
  whole = λ all m spelled. (all, spelled);
}

pub loop-after-preserved : goal.loop-after-preserved
loop-after-preserved c = record {
  shorter = omega (arith, c.loop-after.invariant.shorter, c.in-Some.ensures.shorter, c.in_ok-next.ensures.shorter);
  spelled = procedures_read _ _ _ _ _ _ _ c.loop-after.invariant.spelled c.in-Some.ensures.found
      c.in_ok-next.ensures.read.spelled c.in_ok-push.ensures.items;
  whole = λ all m spelled.
      let end = c.loop-after.invariant.whole all m spelled in
      let one = procedures_opened end.0 _ (main_tokens m) (omega (arith, main_binds m)) (sym c.in-Some.ensures.found ∙ end.1) in
      (one.1, c.in_ok-next.ensures.read.whole one.0 (procedures_then one.1 (main_tokens m)) one.2);
}

pub returns-then-is_empty-clause-spelled : goal.returns-then-is_empty-clause-spelled
unfolding spelling main_tokens
returns-then-is_empty-clause-spelled c =
    let none = plain_none _ (true-eqb _ 0 c.if-is_empty.ensures) in
    c.loop-after.invariant.spelled ∙ ap (procedures_then (map procedure c.loop-after.procedures.items)) none

pub returns-clause-spelled : goal.returns-clause-spelled
unfolding spelling main_tokens
returns-clause-spelled c =
    let none = plain_none _ (true-eqb _ 0 c.if-not-is_empty.ensures) in
    let body = ap (λ l. WordToken Main ∷ MarkToken LeftBrace ∷ arrays_then (map array c.in_ok-body.body.arrays.items)
    (block_then (block c.in_ok-body.body.body.items) l)) none in
    c.loop-after.invariant.spelled
    ∙ ap (procedures_then (map procedure c.loop-after.procedures.items)) (c.in_ok-body.ensures.spelled ∙ body)

pub returns-in_err-next-clause-refused : goal.returns-in_err-next-clause-refused
unfolding spelling
returns-in_err-next-clause-refused c =
    passed_on _ _ c.from_residual.ensures.1 (λ room p spelled.
    let end = c.loop-after.invariant.whole p.procedures p.main spelled in
    let one = procedures_opened end.0 _ (main_tokens p.main) (omega (arith, main_binds p.main)) (sym c.in-Some.ensures.found ∙ end.1) in
    c.in_err-next.ensures.refused room one.0 (procedures_then one.1 (main_tokens p.main)) one.2)

pub returns-in_err-body-clause-refused : goal.returns-in_err-body-clause-refused
unfolding spelling
returns-in_err-body-clause-refused c =
    let some : plain c.loop-after.left.now ≢ [] = λ none. cc (ap (λ n. eqb n 0) (none_plain _ none), c.if-is_empty.ensures) in
    passed_on _ _ c.from_residual-in_err-body.ensures.1 (λ room p spelled.
    let end = c.loop-after.invariant.whole p.procedures p.main spelled in
    let main = main_opened p.main _ some (procedures_closed end.0 _ (main_tokens p.main) c.in_default.ensures.absent end.1) in
    c.in_err-body.ensures.refused room main.0 [] main.1)

pub returns-then-not-is_empty-clause-refused : goal.returns-then-not-is_empty-clause-refused
unfolding spelling
returns-then-not-is_empty-clause-refused c = λ room p spelled.
    let some : plain c.loop-after.left.now ≢ [] = λ none. cc (ap (λ n. eqb n 0) (none_plain _ none), c.if-is_empty.ensures) in
    let end = c.loop-after.invariant.whole p.procedures p.main spelled in
    let main = main_opened p.main _ some (procedures_closed end.0 _ (main_tokens p.main) c.in_default.ensures.absent end.1) in
    let none = c.in_ok-body.ensures.whole main.0 [] main.1 in
    cc (ap (λ n. eqb n 0) (none_plain _ none), c.if-not-is_empty.ensures)
