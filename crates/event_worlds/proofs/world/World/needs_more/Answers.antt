use Rattle.std.proofs.Common.{◌∙◌, ◌*◌, ◌<◌, ap, sym, subst}
use Rattle.std.proofs.lemmas.Bool.{OnFalse_from, OnTrue_from}
use Rattle.std.proofs.lemmas.Option.{none-some, same_Some}
use Rattle.std.specs.HashMap.{get}
use Rattle.shared_lemmas.proofs.Truths.{true_false}
use Rattle.event_worlds.specs.Shown.{is_scope}
use Rattle.event_worlds.specs.declared.scope.WorldScope.{WorldScope as rScope}
use Rattle.event_worlds.specs.declared.task.WorldStake.{WorldStake as rStake}
use Rattle.event_worlds.specs.declared.task.WorldTask.{WorldTask as rTask}
use Rattle.event_worlds.proofs.InHand.{first_is, one_first}
use Rattle.event_worlds.proofs.world.World.needs_more.Goals as goal

pub returns-in-Some-get-clause-needs : goal.returns-in-Some-get-clause-needs
returns-in-Some-get-clause-needs c =
    let v = c.in-Some-front.ensures in
    let f = first_is c.in-Some.task.now.stakes.items c.in-Some-front.stake.now v.item.3.0 v.item.1 in
    OnTrue_from c.may_issue.result _
    (λ e. record {
      task = c.in-Some.task.now;
      at = sym c.in-Some.ensures.value;
      inner = c.in-Some-front.stake.now;
      outer = f.0;
      stakes = f.1;
      one = c.if-stake-ne1.false;
      book = c.in-Some-get.book.now;
      found = sym c.in-Some-get.ensures.value;
      few = c.may_issue.ensures.few.0 e;
    })

pub returns-in-Some-get-clause-not : goal.returns-in-Some-get-clause-not
returns-in-Some-get-clause-not c =
    let v = c.in-Some-front.ensures in
    let f = first_is c.in-Some.task.now.stakes.items c.in-Some-front.stake.now v.item.3.0 v.item.1 in
    OnFalse_from c.may_issue.result _
    (λ e s.
    let task = ap (λ (k : rTask). k.stakes.items) (same_Some _ _ (c.in-Some.ensures.value ∙ s.at)) in
    let inner = (one_first _ f.0 s.outer _ s.inner f.1 (task ∙ s.stakes)).0 in
    let id = ap (λ (k : rStake). k.scope) inner in
    let book = same_Some _ _ (c.in-Some-get.ensures.value ∙ ap (get is_scope c.args.self.now.scopes) id ∙ s.found) in
    let may = c.may_issue.ensures.few.1
    (subst (λ (b : rScope). b.issued < 2147483648 * c.args.self.now.job.w0) (sym book) s.few) in
    true_false (sym may ∙ e))

pub returns-in-None-clause-not : goal.returns-in-None-clause-not
returns-in-None-clause-not c = λ s.
    let v = c.in-Some-front.ensures in
    let f = first_is c.in-Some.task.now.stakes.items c.in-Some-front.stake.now v.item.3.0 v.item.1 in
    let task = ap (λ (k : rTask). k.stakes.items) (same_Some _ _ (c.in-Some.ensures.value ∙ s.at)) in
    let inner = (one_first _ f.0 s.outer _ s.inner f.1 (task ∙ s.stakes)).0 in
    let id = ap (λ (k : rStake). k.scope) inner in
    none-some _ (c.in-None.ensures.value ∙ ap (get is_scope c.args.self.now.scopes) id ∙ s.found)
