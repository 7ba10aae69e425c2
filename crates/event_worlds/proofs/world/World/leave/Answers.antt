use Rattle.std.proofs.Common.{◌∙◌, ap, drop, refl, rules, sym, None, Some}
use Rattle.std.specs.Prelude.{if◌then◌else◌}
use Rattle.std.specs.HashMap.{get}
use Rattle.event_worlds.specs.Shown.{is_scope}
use Rattle.event_worlds.specs.declared.scope.WorldScope.{WorldScope as rScope}
use Rattle.event_worlds.specs.declared.task.WorldStake.{WorldStake as rStake}
use Rattle.event_worlds.specs.declared.doing.TaskProgress.TheVariants.{Runs}
use Rattle.event_worlds.specs.declared.task.WorldTask.{WorldTask as rTask}
use Rattle.event_worlds.specs.declared.task.Whereabouts.TheVariants.{Hand}
use Rattle.event_worlds.specs.declared.world.World.{World as rWorld}
use Rattle.event_worlds.proofs.AtEnds.{found_here}
use Rattle.event_worlds.proofs.LookingAhead.{each_back}
use Rattle.event_worlds.proofs.world.World.leave.Goals as goal

pub settled_on-requires : goal.settled_on-requires
settled_on-requires c =
    let a = c.requires.stands in
    let same = found_here c.args.self.now c.args.path.now a
    (sym c.in-Some.ensures.value) c.in-Some-pop_front.ensures.lookup (sym c.in-Some-get_mut.ensures.value) in
    c.requires.may a c.in-AtFinish-Some.paused c.in-AtFinish-Some.made c.in-AtFinish-Some.results
    (ap (λ (k : rTask). k.doing) (sym same.task) ∙ c.in-AtFinish-Some.is-0)
    (ap (λ (b : rScope). b.results) (sym same.book) ∙ sym c.take-kept.ensures.value ∙ c.in-AtFinish-Some.is-1)

pub returns-clause-left : goal.returns-clause-left
returns-clause-left c = λ a.
    let old : rWorld = c.args.self.now in
    let path = c.args.path.now in
    let same = found_here old path a
    (sym c.in-Some.ensures.value) c.in-Some-pop_front.ensures.lookup (sym c.in-Some-get_mut.ensures.value) in
    let scope : rScope = record c.in-Some-get_mut.scope.now { results = c.take-kept.new.self } in
    let gone : rTask = record {
      doing = Runs c.in_ok-run.run';
      opened = c.in-Some.task.opened;
      stakes = c.pop_front.new.self;
      place = Hand c.args.worker;
    } in
    record {
      results = c.in-AtFinish-Some.results;
      kept = ap (λ (b : rScope). b.results) (sym same.book) ∙ sym c.take-kept.ensures.value ∙ c.in-AtFinish-Some.is-1;
      task = record {
        to = gone;
        fits = record {
          paused = c.in-AtFinish-Some.paused;
          made = c.in-AtFinish-Some.made;
          was = ap (λ (k : rTask). k.doing) (sym same.task) ∙ c.in-AtFinish-Some.is-0;
          run = c.in_ok-run.run';
          is = refl;
          goes = c.in_ok-run.ensures.goes;
          place = refl;
          opened = ap (λ (k : rTask). k.opened) same.task;
          stakes = c.in-Some-pop_front.ensures.rest ∙ ap (λ (k : rTask). drop 1 k.stakes.items) same.task;
        };
        each = each_back path c.in-Some.name gone old (record old { tasks = c.remove_entry.new.self })
            (record old { tasks = c.insert.new.self }) c.in-Some.ensures.same_key c.remove_entry.ensures.updates.0
            c.in_ok-insert.ensures.updates.0;
      };
      scope = record {
        to = scope;
        fits = ap (λ (o : _). record c.in-Some-get_mut.scope.now { results = o }) c.take-kept.ensures.after
            ∙ ap (λ (b : rScope). record b { results = None }) same.book;
        each = λ q.
            ((c.get_mut.follows.holds scope).3 (search rules)).0 q
            ∙ ap (λ (s : rStake). if is_scope s.scope q then Some scope else get is_scope old.scopes q) same.stake;
      };
    }
