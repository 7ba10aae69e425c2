use Rattle.std.proofs.Common.{[], ◌∷◌, ◌++◌, ◌∙◌, ap, sym, map, length, length-append, arith}
use Rattle.syntax.specs.declared.token.Mark.TheVariants.{RightParen}
use Rattle.syntax.specs.Spelling.{parameters_then, more_parameters_then}
use Rattle.syntax.specs.Token.{MarkToken, plain}
use Rattle.syntax_tree.specs.Tree.{parameter}
use Rattle.syntax.proofs.ProgramLemmas.{parameters_read, parameters_then-one}
use Rattle.syntax.proofs.RefusalLemmas.{passed_on, same_rest}
use Rattle.syntax.proofs.ProgramRefusals.{parameters_opened, parameters_closed, more_parameters_opened, more_parameters_closed}
use Rattle.syntax.proofs.programs.parameters.Goals as goal

pub returns-in-Some-clause-read : goal.returns-in-Some-clause-read
unfolding parameters_then
returns-in-Some-clause-read c = record {
  spelled = c.in-Some.ensures.found
      ∙ ap (λ l. parameters_then (map parameter l) (MarkToken RightParen ∷ plain c.in-Some.rest.now)) (sym c.new.ensures.items);
  whole = λ all r spelled.
      parameters_closed all _ r (sym c.in-Some.ensures.found ∙ spelled);
}

pub loop-after-init : goal.loop-after-init
loop-after-init c =
    let one = c.in_ok-push.ensures.items ∙ ap (λ l. l ++ c.in_ok-first.first ∷ []) c.new-parameters.ensures.items in
    record {
      shorter = c.in_ok-first.ensures.shorter;
      some = omega (arith, ap length one);
      spelled = c.in_ok-first.ensures.read.spelled ∙ parameters_then-one c.in_ok-first.first _
          ∙ ap (λ l. parameters_then (map parameter l) (plain c.in_ok-first.left.now)) (sym one);
      whole = λ all r spelled.
          let parts = parameters_opened all _ r c.in_default.ensures.absent spelled in
          (parts.1, c.in_ok-first.ensures.read.whole parts.0 (more_parameters_then parts.1 (MarkToken RightParen ∷ r)) parts.2);
    }

pub loop-after-preserved : goal.loop-after-preserved
loop-after-preserved c = record {
  shorter = omega (arith, c.loop-after.invariant.shorter, c.in-Some-after_mark.ensures.shorter, c.in_ok-next.ensures.shorter);
  some = omega (arith, ap length c.in_ok-push-2.ensures.items, length-append c.loop-after.parameters.items (c.in_ok-next.next ∷ []));
  spelled = parameters_read _ _ _ _ _ _ _ c.loop-after.invariant.some c.loop-after.invariant.spelled
      c.in-Some-after_mark.ensures.found c.in_ok-next.ensures.read.spelled c.in_ok-push-2.ensures.items;
  whole = λ all r spelled.
      let end = c.loop-after.invariant.whole all r spelled in
      let one = more_parameters_opened end.0 _ r (sym c.in-Some-after_mark.ensures.found ∙ end.1) in
      (one.1, c.in_ok-next.ensures.read.whole one.0 (more_parameters_then one.1 (MarkToken RightParen ∷ r)) one.2);
}

pub returns-clause-read : goal.returns-clause-read
returns-clause-read c = record {
  spelled = c.loop-after.invariant.spelled
      ∙ ap (parameters_then (map parameter c.loop-after.parameters.items)) c.in_ok-rest.ensures.found;
  whole = λ all r spelled.
      let end = c.loop-after.invariant.whole all r spelled in
      let paren = more_parameters_closed end.0 _ (MarkToken RightParen ∷ r) c.in_default-after_mark.ensures.absent end.1 in
      same_rest (sym c.in_ok-rest.ensures.found ∙ paren);
}

pub returns-in_err-first-clause-refused : goal.returns-in_err-first-clause-refused
returns-in_err-first-clause-refused c =
    passed_on _ _ c.from_residual.ensures.1 (λ room all r spelled.
    let parts = parameters_opened all _ r c.in_default.ensures.absent spelled in
    c.in_err-first.ensures.refused room parts.0 (more_parameters_then parts.1 (MarkToken RightParen ∷ r)) parts.2)

pub returns-in_err-next-clause-refused : goal.returns-in_err-next-clause-refused
returns-in_err-next-clause-refused c =
    passed_on _ _ c.from_residual-in_err-next.ensures.1 (λ room all r spelled.
    let end = c.loop-after.invariant.whole all r spelled in
    let one = more_parameters_opened end.0 _ r (sym c.in-Some-after_mark.ensures.found ∙ end.1) in
    c.in_err-next.ensures.refused room one.0 (more_parameters_then one.1 (MarkToken RightParen ∷ r)) one.2)

pub returns-in_err-rest-clause-refused : goal.returns-in_err-rest-clause-refused
returns-in_err-rest-clause-refused c =
    passed_on _ _ c.from_residual-in_err-rest.ensures.1 (λ room all r spelled.
    let end = c.loop-after.invariant.whole all r spelled in
    let paren = more_parameters_closed end.0 _ (MarkToken RightParen ∷ r) c.in_default-after_mark.ensures.absent end.1 in
    c.in_err-rest.ensures.refused _ paren)
