use Rattle.test_and_bench.proofs.Hunk.{described_so}
use Rattle.test_and_bench.proofs.differences.described.Goals as goal

pub returns : goal.returns
returns c =
    described_so (λ line. line.now) c.args.told.now c.args.wanted.now c.in_ok-text.text.items _ c.in_ok-told_lines.told_lines.items
    c.in_ok-wanted_lines.wanted_lines.items c.line_of_difference.result c.line_of_difference.ensures c.in_ok-text.ensures
    c.in_ok-told_lines.ensures c.in_ok-wanted_lines.ensures
    (rw (c.deref.ensures.value, c.deref-2.ensures.value) at c.in_ok-push_hunk.ensures)
