use Rattle.std.proofs.Common.{◌+◌, ◌-◌, ◌≤◌, ◌∷◌, [], codes, map, length, ap, sym, ◌∙◌, rules, append-nil}
use Rattle.std.proofs.lemmas.List.{at_drop_all}
use Rattle.std.specs.Option.{option_map}
use Rattle.std.specs.String.{string_bytes}
use Rattle.shared_lemmas.proofs.Results.{ok_then}
use Rattle.syntax.specs.Canonical.{laid}
use Rattle.syntax.specs.declared.token.Left.TheVariants.{Margin, Ended, Other}
use Rattle.syntax.specs.Spelling.{spelling, procedures_then, main_tokens, arrays_then, block_then}
use Rattle.syntax.specs.declared.token.Mark.TheVariants.{RightBrace}
use Rattle.syntax.specs.Token.{MarkToken}
use Rattle.syntax_tree.specs.Tree.{procedure, main, array, block}
use Rattle.syntax.specs.Writing.{with_rest}
use Rattle.syntax.proofs.ExpressionText.{then_adds}
use Rattle.syntax.proofs.LineText.{wrote, laid_main, laid-opening_brace, laid-closing_brace, arrays_are_lines}
use Rattle.syntax.proofs.canonical.Lines.program.Goals as goal

pub loop-procedure-init : goal.loop-procedure-init
unfolding spelling
loop-procedure-init c = record {
  counted = c.requires;
  written = ap (λ l. with_rest c.args.self.now Margin (procedures_then (map procedure l) (main_tokens (option_map main
      c.args.program.now.main)))) (sym c.deref-procedure-items.ensures.value);
}

pub returns-in_default : goal.returns-in_default
unfolding procedures_then main_tokens laid
returns-in_default c =
    let xs = c.deref-procedure-items.result.now in
    let old = c.loop-procedure.self in
    let at_end : length xs ≤ c.loop-procedure.procedure-index = search rules in
    c.loop-procedure.invariant.written
    ∙ at_drop_all (λ l. with_rest old Margin (procedures_then (map procedure l) (main_tokens (option_map main
    c.args.program.now.main)))) xs c.loop-procedure.procedure-index at_end
    ∙ ap (λ m. with_rest old Margin (main_tokens (option_map main m))) c.in_default.is
    ∙ append-nil (string_bytes old.text)

pub loop-array-init : goal.loop-array-init
unfolding procedures_then main_tokens
loop-array-init c =
    let xs = c.deref-procedure-items.result.now in
    let old = c.loop-procedure.self in
    let begun = c.begin.new.self in
    let arrays = map array c.in-Some.main.arrays.items in
    let body = block c.in-Some.main.body.items in
    let at_end : length xs ≤ c.loop-procedure.procedure-index = search rules in
    let text = then_adds (string_bytes old.text) _ _ c.in_ok-begin.ensures.text c.in_ok-push_str.ensures.bytes in
    record {
      counted = c.in_ok-open.ensures.counted;
      written = c.loop-procedure.invariant.written
          ∙ at_drop_all (λ l. with_rest old Margin (procedures_then (map procedure l) (main_tokens (option_map main
          c.args.program.now.main)))) xs c.loop-procedure.procedure-index at_end
          ∙ ap (λ m. with_rest old Margin (main_tokens (option_map main m))) c.in-Some.is
          ∙ wrote old (record begun { text = c.push_str.new.self }) Margin Other _ _ _ old.depth old.label text
          c.in_ok-begin.ensures.depth c.in_ok-begin.ensures.label (laid_main old.depth old.label (arrays_then arrays
          (block_then body [])))
          ∙ wrote (record begun { text = c.push_str.new.self }) c.open.new.self Other Margin _ _ (codes " {\n")
          (begun.depth + 1) begun.label c.in_ok-open.ensures.text c.in_ok-open.ensures.depth c.in_ok-open.ensures.label
          (laid-opening_brace begun.depth begun.label (arrays_then arrays (block_then body [])) (arrays_are_lines arrays body []))
          ∙ ap (λ l. with_rest c.open.new.self Margin (arrays_then (map array l) (block_then body []))) (sym
          c.deref-array-items.ensures.value);
    }

pub returns : goal.returns
unfolding arrays_then laid
returns c =
    let xs = c.deref-array-items.result.now in
    let old = c.loop-array.self in
    let behind = c.statements.new.lines in
    let body = c.in-Some.main.body.items in
    let at_end : length xs ≤ c.loop-array.array-index = search rules in
    ok_then c.end.result c.end.ensures (λ ends. c.loop-array.invariant.written
    ∙ at_drop_all (λ l. with_rest old Margin (arrays_then (map array l) (block_then (block body) []))) xs c.loop-array.array-index at_end
    ∙ ap (λ b. with_rest old Margin (block_then (block b) [])) (sym c.deref.ensures.value)
    ∙ c.in_ok-statements.ensures.written []
    ∙ wrote behind c.close.new.self Margin Ended (MarkToken RightBrace ∷ []) [] _ (behind.depth - 1) behind.label
    c.in_ok-close.ensures.text c.in_ok-close.ensures.depth c.in_ok-close.ensures.label (laid-closing_brace behind.depth behind.label [])
    ∙ sym ends.text)
