use Rattle.std.proofs.Common.{◌≡◌, map}
use Rattle.sections.specs.Place.{Place}
use Rattle.task_run.specs.Settling.{settle}
use Rattle.task_run.specs.Translation.{task_result}
use Rattle.gather.specs.GivesBack.{GiveBack, all_owned}
use Rattle.gather.specs.Parts.{comes_to, IsWhole}
use Rattle.gather.specs.Reached.{IsReached, used_by}
use Rattle.gather.specs.Stages.{AreClear, gathering, owned_in_end, turns_of}
use Rattle.gather.proofs.settle.settle.Given as goal

abbrev pub invariant-turns : goal.invariant-turns
invariant-turns l = record {
  comes : comes_to (gathering l.stage) ≡ settle (task_result l.fn.start) (map task_result l.fn.results.items);
  owned : (q : Place) → owned_in_end (gathering l.stage) q ≡ all_owned (task_result l.fn.start) q;
  whole : GiveBack (task_result l.fn.start) (map task_result l.fn.results.items) → IsWhole (gathering l.stage);
  clear : GiveBack (task_result l.fn.start) (map task_result l.fn.results.items) → AreClear l.stage;
  reached : IsReached (task_result l.fn.start) (map task_result l.fn.results.items) (used_by l.stage.results) (gathering l.stage);
}

abbrev pub decreases-turns : goal.decreases-turns
decreases-turns l = turns_of l.stage
