use Rattle.std.proofs.Common.{◌∙◌, ◌*◌, ◌<◌, ap, sym, subst}
use Rattle.std.proofs.lemmas.Bool.{OnFalse_from, OnTrue_from}
use Rattle.std.proofs.lemmas.Option.{none-some, same_Some}
use Rattle.std.specs.HashMap.{get}
use Rattle.shared_lemmas.proofs.Truths.{true_false}
use Rattle.event_worlds.specs.Acting.{IsWanting}
use Rattle.event_worlds.specs.Shown.{is_scope}
use Rattle.event_worlds.specs.declared.scope.WorldScope.{WorldScope as rScope}
use Rattle.event_worlds.proofs.AtEnds.{one_wanted}
use Rattle.event_worlds.proofs.world.World.is_short.Goals as goal

pub returns-in_default-wants-clause-not : goal.returns-in_default-wants-clause-not
returns-in_default-wants-clause-not c = λ s.
    c.in_default-wants.ensures s.id
    (subst (λ k. IsWanting k s.id) (sym (same_Some _ _ (c.in-Some.ensures.value ∙ s.at))) s.wants)

pub returns-in-Some-get-clause-is : goal.returns-in-Some-get-clause-is
returns-in-Some-get-clause-is c =
    OnTrue_from c.may_issue.result _
    (λ e. record {
      task = c.in-Some.task.now;
      at = sym c.in-Some.ensures.value;
      id = c.in-Some-wants.scope.now;
      wants = c.in-Some-wants.ensures;
      book = c.in-Some-get.book.now;
      found = sym c.in-Some-get.ensures.value;
      few = c.may_issue.ensures.few.0 e;
    })

pub returns-in-Some-get-clause-not : goal.returns-in-Some-get-clause-not
returns-in-Some-get-clause-not c =
    OnFalse_from c.may_issue.result _
    (λ e s.
    let id = one_wanted (same_Some _ _ (c.in-Some.ensures.value ∙ s.at)) c.in-Some-wants.ensures s.wants in
    let book = same_Some _ _ (c.in-Some-get.ensures.value ∙ ap (get is_scope c.args.self.now.scopes) id ∙ s.found) in
    let may = c.may_issue.ensures.few.1
    (subst (λ (b : rScope). b.issued < 2147483648 * c.args.self.now.job.w0) (sym book) s.few) in
    true_false (sym may ∙ e))

pub returns-in-None-clause-not : goal.returns-in-None-clause-not
returns-in-None-clause-not c = λ s.
    let id = one_wanted (same_Some _ _ (c.in-Some.ensures.value ∙ s.at)) c.in-Some-wants.ensures s.wants in
    none-some _ (c.in-None.ensures.value ∙ ap (get is_scope c.args.self.now.scopes) id ∙ s.found)
