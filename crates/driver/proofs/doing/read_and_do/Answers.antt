use Rattle.std.proofs.Common.{List, ℕ, ◌≤◌, ◌∙◌, length, Result, subst, sym}
use Rattle.files.specs.Held.{HasText}
use Rattle.failures.specs.declared.failure.Failure.{Failure}
use Rattle.command_line.specs.Requests.{asked_of}
use Rattle.driver.specs.Acts.{IsSaid, in_short}
use Rattle.driver.specs.Watching.{WatchesDoing}
use Rattle.driver.specs.declared.more.More.{More}
use Rattle.driver.proofs.Ordered.{read_on_text, read_without_text}
use Rattle.driver.proofs.Watched.{unread_watched}
use Rattle.driver.proofs.doing.read_and_do.Goals as goal

pub returns-in-Err-clause-done : goal.returns-in-Err-clause-done
returns-in-Err-clause-done g c =
    read_without_text c.args.ordered.doing (asked_of c.args.ordered.request) _ _ _ _ c.in-Err.refusal.failure
    (c.tell_unread.ensures.keeps ∙ c.in-Err.ensures.keeps) c.in-Err.ensures.why c.tell_unread.ensures.told

pub returns-clause-done : goal.returns-clause-done
returns-clause-done g c =
    let held = g.F.FileSource.held c.args.files.now in
    let text = c.as_str-text.result.now in
    let same = sym c.as_str-text.ensures.value in
    let request = c.args.ordered.request in
    read_on_text c.args.ordered.doing (asked_of request) held _ _ _ _ _ c.in-Ok.ensures.keeps c.explained.ensures.keeps
    (in_short c.explained.result) c.do_with-performed.result.done c.explained.ensures.same text
    (subst (HasText held request.file.now) same c.in-Ok.ensures.text)
    (subst (λ (t : List ℕ). length t ≤ 1048576) same c.in-Ok.ensures.short) c.do_with-performed.ensures.done

pub returns-in-Err-clause-watched : goal.returns-in-Err-clause-watched
returns-in-Err-clause-watched g c =
    unread_watched ℕ g.T.Watch.Told _ (g.met.T.Watch.told_nothing _) c.args.ordered.doing (asked_of c.args.ordered.request)
    c.in-Err.refusal.failure

pub returns-clause-watched : goal.returns-clause-watched
returns-clause-watched g c =
    let a = asked_of c.args.ordered.request in
    let old = c.args.terminal.now in let new = c.do_with-performed.new.terminal in
    subst (λ (r : Result ℕ Failure). WatchesDoing g.T.Watch.Told c.args.ordered.doing a r old new)
    (sym c.explained.ensures.same) c.do_with-performed.ensures.watched

pub returns-clause-said : goal.returns-clause-said
returns-clause-said g c =
    subst (λ (m : More). IsSaid m c.explained.result) c.in-Ok.ensures.more c.explained.ensures.said
