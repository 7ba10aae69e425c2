use Rattle.std.proofs.Common.{◌≡◌, ℕ, length, rules, arith}
use Rattle.std.proofs.lemmas.Iterator.Consumers.{YieldsList-from_first, YieldsList-turn, YieldsList-end}
use Rattle.std.proofs.lemmas.List.{length_push}
use Rattle.parallel_relation.specs.Pairs.{pairs_left}
use Rattle.commands.specs.Statements.{named_pair}
use Rattle.commands.proofs.Named.{text_one_more, text_of_all}
use Rattle.commands.proofs.telling.lines_of_pairs.Goals as goal

pub loop-one-preserved : goal.loop-one-preserved
loop-one-preserved c =
    let all = pairs_left c.args.pairs in
    let pair : ℕ × ℕ = (c.in-Some.one, c.in-Some.other) in
    let start : pairs_left c.into_iter-one-iterator.result ≡ all = search rules in
    let turn = YieldsList-turn (YieldsList-from_first (λ (x : ℕ × ℕ). x) pairs_left all start) c.loop-one.yielded
    c.loop-one.one-iterator c.loop-one.yielded_by c.next.result c.next.new.self pair c.in-Some.is c.next.ensures.steps in
    rw (length_push c.loop-one.yielded pair)
    (text_one_more (named_pair c.args.statements.now) all (length c.loop-one.yielded) pair pair _ _ turn.0 turn.1
    c.loop-one.invariant c.in_ok-push_pair.ensures)

pub returns : goal.returns
returns c =
    let all = pairs_left c.args.pairs in
    let start : pairs_left c.into_iter-one-iterator.result ≡ all = search rules in
    let end = YieldsList-end (YieldsList-from_first (λ (x : ℕ × ℕ). x) pairs_left all start) c.loop-one.yielded
    c.loop-one.one-iterator c.loop-one.yielded_by c.next.result c.next.new.self c.in-None.is c.next.ensures.steps in
    text_of_all (named_pair c.args.statements.now) all (length c.loop-one.yielded) _ (omega (arith, end.1)) c.loop-one.invariant
