use Rattle.std.proofs.Common.{◌≡◌, length, ap, sym, ◌∙◌, subst, arith}
use Rattle.std.proofs.lemmas.List.{length-map}
use Rattle.types.specs.Translation.{procedure}
use Rattle.types.specs.Typed.{code_of}
use Rattle.types.specs.declared.code.Program.{Program as rProgram}
use Rattle.commands.specs.MeetingLines.{HasLines, none}
use Rattle.commands.proofs.MeetingLines.{all_lines, next_lines}
use Rattle.commands.proofs.accesses.lines_of.Goals as goal

pub loop-number-init : goal.loop-number-init
loop-number-init c = subst (HasLines (code_of c.args.typed.now) 0) (sym c.new-told.ensures.bytes) none

pub loop-number-preserved : goal.loop-number-preserved
loop-number-preserved c =
    next_lines (code_of c.args.typed.now) c.loop-number.number _ _ c.loop-number.invariant c.in_ok-push_lines.ensures

pub returns : goal.returns
returns c =
    let p = code_of c.args.typed.now in
    let xs = c.args.typed.now.code.procedures.items in
    let same : length c.code.result.now.procedures.items ≡ length xs =
    ap (λ (q : rProgram). length q.procedures.items) c.code.ensures.field in
    let main : c.len-main.result ≡ length p.procedures = omega (arith, c.len-main.ensures, same, length-map xs procedure) in
    let n : c.loop-number.number ≡ c.len-main.result = omega (arith, c.loop-number-test.false, c.loop-number.auto.number-end) in
    all_lines p _ _ _ _ (n ∙ main) main c.loop-number.invariant c.in_ok-push_lines-2.ensures
