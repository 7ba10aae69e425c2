use Rattle.cost.proofs.Untabled.{tally-account_of, totals-accounted}
use Rattle.cost.proofs.laws.accounts_change_no_tally.Goals as goal

pub returns-clause-state : goal.returns-clause-state
returns-clause-state c = totals-accounted

pub returns-clause-tally : goal.returns-clause-tally
returns-clause-tally c = tally-account_of
