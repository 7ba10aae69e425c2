use Rattle.std.proofs.Common.{◌∙◌, sym}
use Rattle.event_worlds.specs.Courses.{course_of}
use Rattle.event_worlds.proofs.InHand.{its_doing}
use Rattle.event_worlds.proofs.task.WorldTask.in_hand.Goals as goal

pub look-requires-clause-task : goal.look-requires-clause-task
look-requires-clause-task c =
    let t = c.requires.task in
    (course_of t.0, its_doing c.args.job c.args.self.now t.0 c.in-Some.worker t.1 (sym c.hand.ensures ∙ c.in-Some.is))
