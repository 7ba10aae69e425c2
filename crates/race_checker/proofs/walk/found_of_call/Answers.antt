use Rattle.std.proofs.Common.{map, arith}
use Rattle.sections.specs.Translation.{section}
use Rattle.types.specs.Translation.{program}
use Rattle.types.specs.Sound.{passed_for}
use Rattle.effects.specs.Firsts.{kept_in}
use Rattle.race_checker.proofs.Callees.{callee_all, callee_pending, past_procedures}
use Rattle.race_checker.proofs.Judging.{nothing_behind_all, nothing_behind_pending}
use Rattle.race_checker.proofs.walk.found_of_call.Goals as goal

pub returns-clause-all : goal.returns-clause-all
returns-clause-all c =
    callee_all c.args.code.now c.args.callee.number c.args.sections.now c.of-summary.result.now
    (omega (arith, c.if-callee-len.false, c.len.ensures)) c.requires.sound (c.of-summary.ensures.exact _ c.requires.summaries) c.requires.number _ c.in_ok-past_call.ensures

pub returns-clause-pending : goal.returns-clause-pending
returns-clause-pending c =
    callee_pending c.args.code.now c.args.callee.number c.args.sections.now c.of-summary.result.now
    (omega (arith, c.if-callee-len.false, c.len.ensures)) c.requires.sound (c.of-summary.ensures.exact _ c.requires.summaries) c.requires.number _ c.in_ok-past_call-2.ensures

pub returns-then-callee-len-clause-all : goal.returns-then-callee-len-clause-all
returns-then-callee-len-clause-all c =
    nothing_behind_all (program c.args.code.now) c.args.callee.number (passed_for (map section c.args.sections.now))
    (past_procedures c.args.code.now (omega (arith, c.if-callee-len.true, c.len.ensures))) (kept_in c.nothing.result.all) c.nothing.ensures.all

pub returns-then-callee-len-clause-pending : goal.returns-then-callee-len-clause-pending
returns-then-callee-len-clause-pending c =
    nothing_behind_pending (program c.args.code.now) c.args.callee.number (passed_for (map section c.args.sections.now))
    (past_procedures c.args.code.now (omega (arith, c.if-callee-len.true, c.len.ensures))) (kept_in c.nothing.result.pending) c.nothing.ensures.pending
