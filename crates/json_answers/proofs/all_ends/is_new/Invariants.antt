use Rattle.std.proofs.Common.{◌≡◌, length, map}
use Rattle.json_answers.specs.AllEnds.{is_new_in, line_of_end}
use Rattle.json_answers.proofs.all_ends.is_new.Given as goal

-- the ends that are left decide
abbrev pub invariant-ends : goal.invariant-ends
invariant-ends l =
    is_new_in l.fn.line (map line_of_end l.left) ≡ is_new_in l.fn.line (map line_of_end l.fn.ends)

abbrev pub decreases-ends : goal.decreases-ends
decreases-ends l = length l.left
