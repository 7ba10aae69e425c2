use Rattle.std.proofs.Common.{◌≡◌, ◌+◌, ◌∷◌, ◌∙◌, Some, sym, ap, subst, arith}
use Rattle.std.proofs.lemmas.Option.{none-some}
use Rattle.std.specs.HashMap.{get}
use Rattle.std.specs.Prelude.{is_some, slice_set, if◌then◌else◌}
use Rattle.std.specs.VecDeque.{deque_with_item}
use Rattle.event_worlds.specs.Shown.{IsBookOf, is_scope}
use Rattle.event_worlds.specs.declared.scope.WorldScope.{WorldScope}
use Rattle.event_worlds.specs.declared.task.WorldStake.{WorldStake}
use Rattle.event_worlds.specs.declared.task.WorldTask.{WorldTask}
use Rattle.event_worlds.proofs.InHand.{first_is, its_inner, short_book}
use Rattle.event_worlds.proofs.world.World.issue_to.Goals as goal

pub returns-in_default-get_mut-clause-issued : goal.returns-in_default-get_mut-clause-issued
returns-in_default-get_mut-clause-issued c = λ s.
    let r = c.args.self.now in
    let v = c.in-Some-front_mut.ensures in
    let f = first_is c.in-Some.task.now.stakes.items c.in-Some-front_mut.stake.now v.item.3.0 v.item.1 in
    let i = its_inner r c.args.path.now s c.in-Some.task.now (sym c.in-Some.ensures.value) c.in-Some-front_mut.stake.now f.0 f.1 in
    absurd (none-some _ (c.in_default-get_mut.ensures.value ∙ ap (get is_scope r.scopes) i.named ∙ s.found))

pub issue-requires-clause-may : goal.issue-requires-clause-may
issue-requires-clause-may c =
    let r = c.args.self.now in
    let s = c.requires.short in
    let v = c.in-Some-front_mut.ensures in
    let f = first_is c.in-Some.task.now.stakes.items c.in-Some-front_mut.stake.now v.item.3.0 v.item.1 in
    let i = its_inner r c.args.path.now s c.in-Some.task.now (sym c.in-Some.ensures.value) c.in-Some-front_mut.stake.now f.0 f.1 in
    let same : s.book.issued ≡ c.in-Some-get_mut.book.now.issued
    = ap (λ (b : WorldScope). b.issued) (short_book r c.args.path.now s c.in-Some-front_mut.stake.now.scope c.in-Some-get_mut.book.now i.named
    (sym c.in-Some-get_mut.ensures.value)) in
    let few = s.few in
    omega (arith, same, few)

pub returns-clause-issued : goal.returns-clause-issued
returns-clause-issued c = λ s.
    let r = c.args.self.now in
    let path = c.args.path.now in
    let w0 = r.job.w0 in
    let was = c.in-Some.task.now in
    let at = sym c.in-Some.ensures.value in
    let inner = c.in-Some-front_mut.stake.now in
    let v = c.in-Some-front_mut.ensures in
    let f = first_is was.stakes.items inner v.item.3.0 v.item.1 in
    let i = its_inner r path s was at inner f.0 f.1 in
    let book = short_book r path s inner.scope c.in-Some-get_mut.book.now i.named (sym c.in-Some-get_mut.ensures.value) in
    let more : WorldStake = record inner { weight = inner.weight + w0 } in
    let new : WorldTask = record was { stakes = deque_with_item was.stakes 0 more } in
    record {
      task = new;
      doing = ap (λ (k : WorldTask). k.doing) i.task;
      opened = ap (λ (k : WorldTask). k.opened) i.task;
      place = ap (λ (k : WorldTask). k.place) i.task;
      stakes = ap (λ l. slice_set l 0 more) f.1
          ∙ ap (λ n. record { scope = inner.scope; weight = n + w0 } ∷ f.0) i.one
          ∙ ap (λ (k : WorldStake). record k { weight = 1 + w0 } ∷ f.0) i.inner_is
          ∙ ap (λ l. record s.wants.inner { weight = 1 + w0 } ∷ l) i.outer_is;
      tasks = ((c.get_mut.follows.holds new).3 (ap is_some (sym c.in-Some.ensures.value))).0;
      book = c.issue.new.self;
      issued = λ b h. c.issue.ensures b (subst (λ z. IsBookOf z b) book h);
      scopes = λ q. ((c.get_mut-2.follows.holds c.issue.new.self).3 (ap is_some (sym c.in-Some-get_mut.ensures.value))).0 q
          ∙ ap (λ id. if is_scope id q then Some c.issue.new.self else get is_scope r.scopes q) i.named;
    }
