use Rattle.std.proofs.Common.{◌≡◌, ◌++◌, map}
use Rattle.json_answers.specs.AllEnds.{further}
use Rattle.json_answers.proofs.all_ends.wait_further.Given as goal

-- the lists so far, and those that are still to be added, are all of them
abbrev pub invariant-choices : goal.invariant-choices
invariant-choices l = record {
  waiting : map (λ v. v.items) l.search.waiting.items ++ further l.fn.choices l.number
      ≡ map (λ v. v.items) l.fn.search.waiting.items ++ further l.fn.choices l.fn.count;
  ends : l.search.ends ≡ l.fn.search.ends;
}

abbrev pub decreases-choices : goal.decreases-choices
decreases-choices l = l.number
