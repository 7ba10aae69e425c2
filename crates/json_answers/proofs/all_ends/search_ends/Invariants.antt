use Rattle.std.proofs.Common.{◌≤◌}
use Rattle.types.specs.Translation.{input}
use Rattle.types.specs.Typed.{code_of}
use Rattle.json_answers.specs.Searching.{IsSearch}
use Rattle.json_answers.proofs.all_ends.search_ends.Given as goal

abbrev pub invariant-lists : goal.invariant-lists
invariant-lists l = record {
  search : IsSearch (code_of l.fn.searched.typed.now) (input l.fn.searched.input.now) l.fn.searched.places.now l.search;
  few : l.left ≤ l.fn.most;
}

abbrev pub decreases-lists : goal.decreases-lists
decreases-lists l = l.left
