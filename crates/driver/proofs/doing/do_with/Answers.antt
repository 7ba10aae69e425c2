use Rattle.std.proofs.Common.{refl}
use Rattle.command_line.specs.Requests.{asked_of, settings as settings_of}
use Rattle.driver.specs.declared.doing.TextOrder.TheVariants.{Answering, Describing, Timing, TimingAsObject}
use Rattle.driver.specs.declared.doing.TextOrder.TheVariants.{Exploring, Inspecting, Walking}
use Rattle.driver.proofs.Acting.{handed_over}
use Rattle.driver.proofs.Ordered.{does_so}
use Rattle.driver.proofs.Tried.{times_on}
use Rattle.driver.proofs.Watched.{handed_watched, watched_so}
use Rattle.driver.specs.Watching.{is_watched_by}
use Rattle.command_line.specs.declared.request.Action.TheVariants.{Answer}
use Rattle.command_line.specs.declared.request.Command.TheVariants.{Run}
use Rattle.driver.proofs.doing.do_with.Goals as goal

pub returns-in-Answering-clause-done : goal.returns-in-Answering-clause-done
returns-in-Answering-clause-done g c =
    let request = c.args.loaded.request in let text = c.args.loaded.text.now in
    does_so c.args.doing Answering c.in-Answering.is (asked_of request) text _ _ _ _ c.handed_on.result
    (handed_over request.action request.file.now (settings_of request.settings) text _ _ _ _ _ c.perform-done.result
    c.handed_on.result c.perform-done.ensures.done c.handed_on.ensures)

pub returns-in-Describing-clause-done : goal.returns-in-Describing-clause-done
returns-in-Describing-clause-done g c =
    let request = c.args.loaded.request in let text = c.args.loaded.text.now in
    does_so c.args.doing (Describing c.in-Describing.subject) c.in-Describing.is (asked_of request) text _ _ _ _
    c.told.result.done c.told.ensures.done

pub returns-in-Timing-clause-done : goal.returns-in-Timing-clause-done
returns-in-Timing-clause-done g c =
    let request = c.args.loaded.request in let text = c.args.loaded.text.now in
    does_so c.args.doing Timing c.in-Timing.is (asked_of request) text _ _ _ _ c.handed_on-in-Timing.result
    (times_on (settings_of request.settings) text _ _ _ _ _ c.time-done.result c.handed_on-in-Timing.result
    c.time-done.ensures c.handed_on-in-Timing.ensures)

pub returns-in-TimingAsObject-clause-done : goal.returns-in-TimingAsObject-clause-done
returns-in-TimingAsObject-clause-done g c =
    does_so c.args.doing TimingAsObject c.in-TimingAsObject.is (asked_of c.args.loaded.request) c.args.loaded.text.now _ _ _ _
    c.time_as_object.result.done c.time_as_object.ensures

pub returns-in-Answering-clause-watched : goal.returns-in-Answering-clause-watched
returns-in-Answering-clause-watched g c =
    let request = c.args.loaded.request in
    watched_so g.T.Watch.Told _ _ c.args.doing Answering c.in-Answering.is (asked_of request) c.handed_on.result
    (handed_watched g.T.Watch.Told _ _ (is_watched_by request.action (settings_of request.settings)) _ _ c.perform-done.result
    c.handed_on.result c.handed_on.ensures c.perform-done.ensures.watched)

pub returns-in-Describing-clause-watched : goal.returns-in-Describing-clause-watched
returns-in-Describing-clause-watched g c =
    watched_so g.T.Watch.Told _ _ c.args.doing (Describing c.in-Describing.subject) c.in-Describing.is
    (asked_of c.args.loaded.request) c.told.result.done c.told.ensures.watched

pub returns-in-Timing-clause-watched : goal.returns-in-Timing-clause-watched
returns-in-Timing-clause-watched g c =
    watched_so g.T.Watch.Told _ _ c.args.doing Timing c.in-Timing.is (asked_of c.args.loaded.request)
    c.handed_on-in-Timing.result tt

pub returns-in-TimingAsObject-clause-watched : goal.returns-in-TimingAsObject-clause-watched
returns-in-TimingAsObject-clause-watched g c =
    watched_so g.T.Watch.Told _ _ c.args.doing TimingAsObject c.in-TimingAsObject.is (asked_of c.args.loaded.request)
    c.time_as_object.result.done tt

pub returns-in-Walking-clause-done : goal.returns-in-Walking-clause-done
returns-in-Walking-clause-done g c =
    let request = c.args.loaded.request in let text = c.args.loaded.text.now in
    let ran = c.run_as_tasks-done in
    does_so c.args.doing (Walking c.in-Walking.seed) c.in-Walking.is (asked_of request) text _ _ _ _
    c.handed_on-in-Walking.result
    (handed_over (Answer Run) request.file.now (settings_of request.settings) text _ _ _ _ _ ran.result
    c.handed_on-in-Walking.result (record { done = ran.ensures.done; leaves = ran.ensures.trace })
    c.handed_on-in-Walking.ensures)

pub returns-in-Walking-clause-watched : goal.returns-in-Walking-clause-watched
returns-in-Walking-clause-watched g c =
    watched_so g.T.Watch.Told _ _ c.args.doing (Walking c.in-Walking.seed) c.in-Walking.is (asked_of c.args.loaded.request)
    c.handed_on-in-Walking.result refl

pub returns-in-Exploring-clause-done : goal.returns-in-Exploring-clause-done
returns-in-Exploring-clause-done g c =
    does_so c.args.doing (Exploring c.in-Exploring.schedules) c.in-Exploring.is (asked_of c.args.loaded.request) c.args.loaded.text.now _ _ _ _
    c.schedules_told.result.done c.schedules_told.ensures

pub returns-in-Exploring-clause-watched : goal.returns-in-Exploring-clause-watched
returns-in-Exploring-clause-watched g c =
    watched_so g.T.Watch.Told _ _ c.args.doing (Exploring c.in-Exploring.schedules) c.in-Exploring.is (asked_of c.args.loaded.request)
    c.schedules_told.result.done refl

pub returns-in-Inspecting-clause-done : goal.returns-in-Inspecting-clause-done
returns-in-Inspecting-clause-done g c =
    does_so c.args.doing Inspecting c.in-Inspecting.is (asked_of c.args.loaded.request) c.args.loaded.text.now _ _ _ _
    c.inspected_told.result.done c.inspected_told.ensures

pub returns-in-Inspecting-clause-watched : goal.returns-in-Inspecting-clause-watched
returns-in-Inspecting-clause-watched g c =
    watched_so g.T.Watch.Told _ _ c.args.doing Inspecting c.in-Inspecting.is (asked_of c.args.loaded.request)
    c.inspected_told.result.done refl
