use Rattle.types.specs.Contents.{held_by}
use Rattle.types.specs.TreeSteps.{first_tree}
use Rattle.step_trees.proofs.ChosenRuns.{ends_by, opens_by, misses_by, chosen, choices_end, first_leaves_end}
use Rattle.step_trees.proofs.Lawful.{sound_parts}
use Rattle.step_trees.proofs.laws.choices_tell_of_runs.Goals as goal

pub returns-clause-ends : goal.returns-clause-ends
returns-clause-ends c p input cs o = ends_by p cs 0 (first_tree p) (held_by input) o

pub returns-clause-open : goal.returns-clause-open
returns-clause-open c p input cs leaves = opens_by p cs 0 (first_tree p) (held_by input) leaves

pub returns-clause-missing : goal.returns-clause-missing
returns-clause-missing c p input cs n = misses_by p cs n (first_tree p) (held_by input)

pub returns-clause-chosen : goal.returns-clause-chosen
returns-clause-chosen c p n t u a b r = chosen p r

pub returns-clause-accepted : goal.returns-clause-accepted
returns-clause-accepted c = choices_end

pub returns-clause-sound : goal.returns-clause-sound
returns-clause-sound c = sound_parts

pub returns-clause-first : goal.returns-clause-first
returns-clause-first c = first_leaves_end
