use Rattle.types.specs.Typed.{code_of}
use Rattle.parallel_relation.proofs.ExactSummaries.{exact_summaries}
use Rattle.race_checker.proofs.accepted.Accepted.summaries.Goals as goal

pub returns-clause-exact : goal.returns-clause-exact
returns-clause-exact c =
    exact_summaries (code_of c.args.self.now.typed) c.args.self.now.summaries c.args.self.now.exact
