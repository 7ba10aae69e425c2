use Rattle.std.proofs.Common.{◌≡◌, false, if◌then◌else◌, [], ◌++◌, codes, ap, sym, ◌∙◌, rules, append-nil}
use Rattle.std.specs.String.{string_bytes}
use Rattle.syntax.proofs.ExpressionText.{then_adds, adds_next, adds_last}
use Rattle.syntax.proofs.LineText.{parameters_text, parameters_text_more, parameters_text_none}
use Rattle.syntax.proofs.canonical.parameters.Goals as goal
use Rattle.syntax.proofs.canonical.parameters.Goals.{then-not-first+in_ok-push_str, else-not-first}

pub loop-next-preserved : goal.loop-next-preserved
loop-next-preserved c =
    let first = c.loop-next.first in
    let old = string_bytes c.loop-next.out in
    let comma : string_bytes c.if-not-first.out ≡ old ++ (if first then [] else codes ", ") =
    elim c.if-not-first.branch [
      | then-not-first+in_ok-push_str w ↦ ap string_bytes w.out-is ∙ w.in_ok-push_str.ensures.bytes
          ∙ ap (λ b. old ++ (if b then [] else codes ", ")) (sym w.if-not-first.true)
      | else-not-first w ↦ ap string_bytes w.out-is ∙ sym (append-nil old)
          ∙ ap (λ b. old ++ (if b then [] else codes ", ")) (sym w.if-not-first.false)
    ] in
    adds_next (parameters_text first) (parameters_text false) c.args.parameters.now c.loop-next.next-index old _ c.next-item.is
    (search rules) c.loop-next.invariant (then_adds old _ _ comma c.in_ok-parameter.ensures)
    (parameters_text_more first _ _)

pub returns : goal.returns
returns c =
    adds_last (parameters_text c.loop-next.first) c.args.parameters.now c.loop-next.next-index (string_bytes c.loop-next.out)
    (search rules) c.loop-next.invariant (parameters_text_none c.loop-next.first)
