use Rattle.std.proofs.Common.{arith}
use Rattle.json_answers.proofs.all_ends.search_ends.Goals as goal

pub lists-init : goal.lists-init
lists-init c = record { search = c.in_ok-search.ensures; few = omega arith }
