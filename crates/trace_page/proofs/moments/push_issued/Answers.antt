use Rattle.shared_lemmas.proofs.Results.{ok_then}
use Rattle.trace_page.proofs.Weights.{issued_added}
use Rattle.trace_page.proofs.moments.push_issued.Goals as goal

pub returns : goal.returns
returns c =
    ok_then c.push_book.result c.push_book.ensures (λ added w shows.
    issued_added _ _ _ w c.args.path.now.turns.items _ _ c.in_ok-push_weight.ensures (added w shows) (c.weight.ensures w shows)
    (c.innermost.ensures w shows))
