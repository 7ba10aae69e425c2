use Rattle.std.proofs.Common.{List, ℕ, ◌++◌, ap, ◌∙◌, append_assoc}
use Rattle.std.specs.Prelude.{codes}
use Rattle.std.specs.String.{string_bytes}
use Rattle.shared_lemmas.proofs.Results.{ok_then}
use Rattle.trace_numbers.specs.Text.{line, parallelism}
use Rattle.test_and_bench.specs.declared.times.Times.{Times}
use Rattle.test_and_bench.proofs.timing.push_speeds.Goals as goal

pub returns : goal.returns
returns c =
    let old = string_bytes c.args.text.now in
    let limit = line (codes "work / span") (parallelism c.args.cost.now.work c.args.cost.now.span) in
    ok_then c.push_rate-2.result c.push_rate-2.ensures
    (λ both. both ∙ ap (λ (l : List ℕ). l ++ limit) c.in_ok-push_rate.ensures
    ∙ append_assoc old (line (codes "speed-up") (parallelism c.args.timed.now.serial.median c.unwrap_or-parallel.result.median)) limit
    ∙ ap (λ (t : Times). old ++ (line (codes "speed-up") (parallelism c.args.timed.now.serial.median t.median) ++ limit))
    c.unwrap_or-parallel.ensures)
