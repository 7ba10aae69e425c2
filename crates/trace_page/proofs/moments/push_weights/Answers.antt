use Rattle.std.proofs.Common.{[]}
use Rattle.shared_lemmas.proofs.Results.{ok_then}
use Rattle.trace_page.proofs.Weights.{book_added, by_event, shares_added}
use Rattle.trace_page.proofs.moments.push_weights.Goals as goal

pub returns-in-Spawn : goal.returns-in-Spawn
returns-in-Spawn c =
    by_event c.push_shares.result _ _ _ _ c.in-Spawn.is (ok_then c.push_shares.result c.push_shares.ensures
    (λ added w to shows_w shows_to. shares_added c.args.changes.now.items [] c.push_shares.new.changes.items _ _ _ _ added
    (c.weight.ensures w shows_w) (c.weight-in-Spawn.ensures to shows_to)))

pub returns-in-Open : goal.returns-in-Open
returns-in-Open c =
    by_event c.push_issued.result _ _ _ _ c.in-Open.is (ok_then c.push_issued.result c.push_issued.ensures
    (λ added w to shows_w shows_to. added to shows_to))

pub returns-in-Replenish : goal.returns-in-Replenish
returns-in-Replenish c =
    by_event c.push_issued-in-Replenish.result _ _ _ _ c.in-Replenish.is
    (ok_then c.push_issued-in-Replenish.result c.push_issued-in-Replenish.ensures (λ added w to shows_w shows_to. added to shows_to))

pub returns-in-Park : goal.returns-in-Park
returns-in-Park c =
    by_event c.push_book.result _ _ _ _ c.in-Park.is (ok_then c.push_book.result c.push_book.ensures
    (λ added w to shows_w shows_to. book_added c.args.changes.now.items [] c.push_book.new.changes.items to _ _ (added to shows_to)
    (c.innermost.ensures w shows_w)))

pub returns-in-End : goal.returns-in-End
returns-in-End c =
    by_event c.push_book-in-End.result _ _ _ _ c.in-End.is (ok_then c.push_book-in-End.result c.push_book-in-End.ensures
    (λ added w to shows_w shows_to. book_added c.args.changes.now.items [] c.push_book-in-End.new.changes.items to _ _
    (added to shows_to) (c.innermost-in-End.ensures w shows_w)))
