use Rattle.std.proofs.Common.{◌≡◌, map, codes}
use Rattle.std.specs.Prelude.{IsSomeAnd}
use Rattle.std.specs.String.{string_bytes}
use Rattle.command_words.specs.Orders.{Order, order}
use Rattle.command_words.proofs.Orders.{bench_times, is_not_word, is_word, test_tests, told_only}
use Rattle.command_words.proofs.words.order_behind.Goals as goal

pub returns-then-eq : goal.returns-then-eq
returns-then-eq c o orders =
    test_tests c.args.command.now (map string_bytes c.args.behind.now)
    (λ (p : Order). IsSomeAnd c.tests_in.result (λ r. order r ≡ p))
    (is_word c.eq.result c.args.command.now (codes "test") c.eq.ensures c.if-eq.true) c.tests_in.ensures o orders

pub returns-then-eq-2 : goal.returns-then-eq-2
returns-then-eq-2 c o orders =
    bench_times c.args.command.now (map string_bytes c.args.behind.now)
    (λ (p : Order). IsSomeAnd c.bench_in.result (λ r. order r ≡ p))
    (is_word c.eq-else-eq.result c.args.command.now (codes "bench") c.eq-else-eq.ensures c.if-eq-2.true)
    c.bench_in.ensures.text c.bench_in.ensures.object o orders

pub returns-else-eq-2 : goal.returns-else-eq-2
returns-else-eq-2 c o orders =
    told_only c.args.command.now (map string_bytes c.args.behind.now)
    (λ (p : Order). IsSomeAnd c.told_in.result (λ r. order r ≡ p))
    (is_not_word c.eq.result c.args.command.now (codes "test") c.eq.ensures c.if-eq.false)
    (is_not_word c.eq-else-eq.result c.args.command.now (codes "bench") c.eq-else-eq.ensures c.if-eq-2.false)
    c.told_in.ensures.text c.told_in.ensures.object o orders
