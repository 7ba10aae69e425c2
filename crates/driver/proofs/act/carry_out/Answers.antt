use Rattle.std.proofs.Common.{◌∷◌, [], ap, map, refl, sym}
use Rattle.std.specs.Prelude.{false}
use Rattle.command_line.specs.Requests.{asked_of, settings}
use Rattle.std.specs.String.{string_bytes}
use Rattle.command_words.specs.Orders.{AsText, AsObject, Times, TimesAsObject, Tests, TestsEach, TestsAsObject, Each}
use Rattle.command_words.specs.Orders.{Walks, Explores, Inspects, command_of, order}
use Rattle.driver.specs.Acts.{in_short}
use Rattle.driver.specs.Watching.{is_watched, is_watched_by}
use Rattle.driver.specs.declared.doing.TextOrder.TheVariants.{Answering, Describing, Timing, TimingAsObject}
use Rattle.driver.specs.declared.doing.TextOrder.TheVariants.{Exploring, Walking}
use Rattle.driver.proofs.Ordered.{acted, inspected_as, ordered, said_bare, tested_as, told_as}
use Rattle.driver.proofs.Watched.{reported_watched, watched_as}
use Rattle.driver.proofs.act.carry_out.Goals as goal

pub returns-in-AsText-clause-acts : goal.returns-in-AsText-clause-acts
returns-in-AsText-clause-acts g c =
    let asked = asked_of c.in-AsText.request in let done = c.read_and_do-done in
    ordered _ _ _ _ _ _ _ _ _ (AsText asked) (order c.args.order) (sym (ap order c.in-AsText.is))
    (acted _ _ _ _ _ _ _ _ Answering asked (in_short done.result) _ c.more_on-more.ensures done.ensures.done
    c.report.ensures)

pub returns-in-AsObject-clause-acts : goal.returns-in-AsObject-clause-acts
returns-in-AsObject-clause-acts g c =
    let x = c.in-AsObject.subject in let asked = asked_of c.in-AsObject.request in
    let done = c.read_and_do-done-in-AsObject in
    ordered _ _ _ _ _ _ _ _ _ (AsObject x asked) (order c.args.order) (sym (ap order c.in-AsObject.is))
    (acted _ _ _ _ _ _ _ _ (Describing x) asked (in_short done.result) _ c.more_on-more-in-AsObject.ensures
    done.ensures.done c.report-in-AsObject.ensures)

pub returns-in-Times-clause-acts : goal.returns-in-Times-clause-acts
returns-in-Times-clause-acts g c =
    let asked = asked_of c.in-Times.request in let done = c.read_and_do-done-in-Times in
    ordered _ _ _ _ _ _ _ _ _ (Times asked) (order c.args.order) (sym (ap order c.in-Times.is))
    (acted _ _ _ _ _ _ _ _ Timing asked (in_short done.result) _ c.more_on-more-in-Times.ensures done.ensures.done
    c.report-in-Times.ensures)

pub returns-in-TimesAsObject-clause-acts : goal.returns-in-TimesAsObject-clause-acts
returns-in-TimesAsObject-clause-acts g c =
    let asked = asked_of c.in-TimesAsObject.request in let done = c.read_and_do-done-in-TimesAsObject in
    ordered _ _ _ _ _ _ _ _ _ (TimesAsObject asked) (order c.args.order) (sym (ap order c.in-TimesAsObject.is))
    (acted _ _ _ _ _ _ _ _ TimingAsObject asked (in_short done.result) _ c.more_on-more-in-TimesAsObject.ensures
    done.ensures.done c.report-in-TimesAsObject.ensures)

pub returns-in-Tests-clause-acts : goal.returns-in-Tests-clause-acts
returns-in-Tests-clause-acts g c =
    let asked = asked_of c.in-Tests.request in
    ordered _ _ _ _ _ _ _ _ _ (Tests asked) (order c.args.order) (sym (ap order c.in-Tests.is))
    (tested_as _ _ _ _ _ _ _ _ (asked.file ∷ []) false asked.settings (in_short c.test_one-done.result) _
    c.nothing.ensures c.test_one-done.ensures.done c.report-in-Tests.ensures)

pub returns-in-TestsEach-clause-acts : goal.returns-in-TestsEach-clause-acts
returns-in-TestsEach-clause-acts g c =
    let tests = c.in-TestsEach.tests in
    let names = map string_bytes tests.names.now in let s = settings tests.settings in
    ordered _ _ _ _ _ _ _ _ _ (TestsEach tests.writes names s) (order c.args.order) (sym (ap order c.in-TestsEach.is))
    (tested_as _ _ _ _ _ _ _ _ names tests.writes s (in_short c.test_each-done.result) _
    c.nothing-in-TestsEach.ensures c.test_each-done.ensures.done c.report-in-TestsEach.ensures)

pub returns-in-TestsAsObject-clause-acts : goal.returns-in-TestsAsObject-clause-acts
returns-in-TestsAsObject-clause-acts g c =
    let tests = c.in-TestsAsObject.tests in
    let names = map string_bytes tests.names.now in let s = settings tests.settings in
    ordered _ _ _ _ _ _ _ _ _ (TestsAsObject tests.writes names s) (order c.args.order) (sym (ap order c.in-TestsAsObject.is))
    (told_as _ _ _ _ _ _ _ _ names tests.writes s (in_short c.test_as_object-done.result) _
    c.nothing-in-TestsAsObject.ensures c.test_as_object-done.ensures.done c.report-in-TestsAsObject.ensures)

pub report-requires-in-Tests : goal.report-requires-in-Tests
report-requires-in-Tests g c =
    record { said = said_bare _ c.test_one-done.result c.nothing.ensures c.test_one-done.ensures.said }

pub report-requires-in-TestsEach : goal.report-requires-in-TestsEach
report-requires-in-TestsEach g c =
    record { said = said_bare _ c.test_each-done.result c.nothing-in-TestsEach.ensures c.test_each-done.ensures.said }

pub report-requires-in-TestsAsObject : goal.report-requires-in-TestsAsObject
report-requires-in-TestsAsObject g c =
    let done = c.test_as_object-done in
    record { said = said_bare _ done.result c.nothing-in-TestsAsObject.ensures done.ensures.said }

pub returns-in-AsText-clause-watched : goal.returns-in-AsText-clause-watched
returns-in-AsText-clause-watched g c =
    let asked = asked_of c.in-AsText.request in let done = c.read_and_do-done in
    watched_as g.T.Watch.Told _ _ (AsText asked) (order c.args.order) (sym (ap order c.in-AsText.is)) _
    (reported_watched g.T.Watch.Told _ _ (is_watched_by asked.action asked.settings) _ _ _ (in_short done.result) _
    done.ensures.watched c.report.ensures)

pub returns-in-AsObject-clause-watched : goal.returns-in-AsObject-clause-watched
returns-in-AsObject-clause-watched g c =
    let x = c.in-AsObject.subject in let asked = asked_of c.in-AsObject.request in
    let done = c.read_and_do-done-in-AsObject in
    watched_as g.T.Watch.Told _ _ (AsObject x asked) (order c.args.order) (sym (ap order c.in-AsObject.is)) _
    (reported_watched g.T.Watch.Told _ _ (is_watched (command_of x) asked.settings) _ _ _ (in_short done.result) _
    done.ensures.watched c.report-in-AsObject.ensures)

pub returns-in-Times-clause-watched : goal.returns-in-Times-clause-watched
returns-in-Times-clause-watched g c =
    watched_as g.T.Watch.Told _ _ (Times (asked_of c.in-Times.request)) (order c.args.order) (sym (ap order c.in-Times.is)) _ tt

pub returns-in-TimesAsObject-clause-watched : goal.returns-in-TimesAsObject-clause-watched
returns-in-TimesAsObject-clause-watched g c =
    watched_as g.T.Watch.Told _ _ (TimesAsObject (asked_of c.in-TimesAsObject.request)) (order c.args.order)
    (sym (ap order c.in-TimesAsObject.is)) _ tt

pub returns-in-Tests-clause-watched : goal.returns-in-Tests-clause-watched
returns-in-Tests-clause-watched g c =
    watched_as g.T.Watch.Told _ _ (Tests (asked_of c.in-Tests.request)) (order c.args.order) (sym (ap order c.in-Tests.is)) _ refl

pub returns-in-TestsEach-clause-watched : goal.returns-in-TestsEach-clause-watched
returns-in-TestsEach-clause-watched g c =
    let tests = c.in-TestsEach.tests in
    watched_as g.T.Watch.Told _ _ (TestsEach tests.writes (map string_bytes tests.names.now) (settings tests.settings))
    (order c.args.order) (sym (ap order c.in-TestsEach.is)) _ refl

pub returns-in-TestsAsObject-clause-watched : goal.returns-in-TestsAsObject-clause-watched
returns-in-TestsAsObject-clause-watched g c =
    let tests = c.in-TestsAsObject.tests in
    watched_as g.T.Watch.Told _ _ (TestsAsObject tests.writes (map string_bytes tests.names.now) (settings tests.settings))
    (order c.args.order) (sym (ap order c.in-TestsAsObject.is)) _ refl

pub returns-in-Each-clause-acts : goal.returns-in-Each-clause-acts
returns-in-Each-clause-acts g c =
    let several = c.in-Each.several in
    ordered _ _ _ _ _ _ _ _ _ (Each several.action (map string_bytes several.files.now) several.telling)
    (order c.args.order) (sym (ap order c.in-Each.is)) c.do_with_each.ensures

pub returns-in-Each-clause-watched : goal.returns-in-Each-clause-watched
returns-in-Each-clause-watched g c =
    let several = c.in-Each.several in
    watched_as g.T.Watch.Told _ _ (Each several.action (map string_bytes several.files.now) several.telling)
    (order c.args.order) (sym (ap order c.in-Each.is)) _ tt

pub returns-in-Walks-clause-acts : goal.returns-in-Walks-clause-acts
returns-in-Walks-clause-acts g c =
    let seed = c.in-Walks.seed in let asked = asked_of c.in-Walks.request in let done = c.read_and_do-done-in-Walks in
    ordered _ _ _ _ _ _ _ _ _ (Walks seed asked) (order c.args.order) (sym (ap order c.in-Walks.is))
    (acted _ _ _ _ _ _ _ _ (Walking seed) asked (in_short done.result) _ c.more_on-more-in-Walks.ensures
    done.ensures.done c.report-in-Walks.ensures)

pub returns-in-Walks-clause-watched : goal.returns-in-Walks-clause-watched
returns-in-Walks-clause-watched g c =
    watched_as g.T.Watch.Told _ _ (Walks c.in-Walks.seed (asked_of c.in-Walks.request)) (order c.args.order)
    (sym (ap order c.in-Walks.is)) _ c.read_and_do-done-in-Walks.ensures.watched

pub returns-in-Explores-clause-acts : goal.returns-in-Explores-clause-acts
returns-in-Explores-clause-acts g c =
    let asked = asked_of c.in-Explores.request in let done = c.read_and_do-done-in-Explores in
    ordered _ _ _ _ _ _ _ _ _ (Explores c.in-Explores.schedules asked) (order c.args.order) (sym (ap order c.in-Explores.is))
    (acted _ _ _ _ _ _ _ _ (Exploring c.in-Explores.schedules) asked (in_short done.result) _ c.more_on-more-in-Explores.ensures
    done.ensures.done c.report-in-Explores.ensures)

pub returns-in-Explores-clause-watched : goal.returns-in-Explores-clause-watched
returns-in-Explores-clause-watched g c =
    watched_as g.T.Watch.Told _ _ (Explores c.in-Explores.schedules (asked_of c.in-Explores.request)) (order c.args.order)
    (sym (ap order c.in-Explores.is)) _ c.read_and_do-done-in-Explores.ensures.watched

pub returns-in-Inspects-clause-acts : goal.returns-in-Inspects-clause-acts
returns-in-Inspects-clause-acts g c =
    let asked = asked_of c.in-Inspects.request in let done = c.read_and_do-done-in-Inspects in
    ordered _ _ _ _ _ _ _ _ _ (Inspects asked) (order c.args.order) (sym (ap order c.in-Inspects.is))
    (inspected_as _ _ _ _ _ _ _ asked (in_short done.result) _ c.nothing-more.ensures done.ensures.done
    c.report-in-Inspects.ensures)

pub returns-in-Inspects-clause-watched : goal.returns-in-Inspects-clause-watched
returns-in-Inspects-clause-watched g c =
    watched_as g.T.Watch.Told _ _ (Inspects (asked_of c.in-Inspects.request)) (order c.args.order)
    (sym (ap order c.in-Inspects.is)) _ c.read_and_do-done-in-Inspects.ensures.watched
