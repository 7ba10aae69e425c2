use Rattle.std.proofs.Common.{◌∙◌, ◌∷◌, [], ap, rules, sym, subst, Some}
use Rattle.std.specs.Prelude.{if◌then◌else◌}
use Rattle.std.proofs.lemmas.Result.{on_ok_weaker, IfErr-weaker}
use Rattle.std.specs.HashMap.{get}
use Rattle.task_run.specs.Translation.{task_result}
use Rattle.event_worlds.specs.Ending.{GivesBack}
use Rattle.event_worlds.specs.Shown.{ScopeStays, is_scope}
use Rattle.event_worlds.specs.declared.task.WorldStake.{WorldStake as rStake}
use Rattle.event_worlds.proofs.AtEnds.{found_here, late_here}
use Rattle.event_worlds.proofs.world.World.hand_on.Goals as goal

pub end-requires : goal.end-requires
end-requires c =
    late_here c.args.self.now c.args.path.now c.requires.late c.requires.stands (sym c.in-Some.ensures.value)
    c.in-Some-front.ensures.lookup (sym c.in-Some-get_mut.ensures.value)

pub returns-clause-given : goal.returns-clause-given
returns-clause-given c =
    on_ok_weaker c.end.result
    (λ given a.
    let same = found_here c.args.self.now c.args.path.now a (sym c.in-Some.ensures.value)
    c.in-Some-front.ensures.lookup (sym c.in-Some-get_mut.ensures.value) in
    record {
      to = c.end.new.self;
      fits = subst (λ (s : rStake). GivesBack s.weight (task_result c.args.made ∷ []) a.book c.end.new.self) same.stake
          (subst (λ b. GivesBack c.in-Some-front.stake.now.weight (task_result c.args.made ∷ []) b c.end.new.self) same.book given);
      each = λ q.
          ((c.get_mut.follows.holds c.end.new.self).3 (search rules)).0 q
          ∙ ap (λ (s : rStake). if is_scope s.scope q then Some c.end.new.self else get is_scope c.args.self.now.scopes q) same.stake;
    }) c.end.ensures.ended

pub returns-clause-refused : goal.returns-clause-refused
returns-clause-refused c =
    IfErr-weaker c.end.result _ _
    (λ e h. (
      h.0,
      λ a. (let same = found_here c.args.self.now c.args.path.now a (sym c.in-Some.ensures.value)
          c.in-Some-front.ensures.lookup (sym c.in-Some-get_mut.ensures.value) in
          record {
            to = c.end.new.self;
            fits = subst (λ b. ScopeStays b c.end.new.self) same.book h.1;
            each = λ q.
                ((c.get_mut.follows.holds c.end.new.self).3 (search rules)).0 q
                ∙ ap (λ (s : rStake). if is_scope s.scope q then Some c.end.new.self else get is_scope c.args.self.now.scopes q) same.stake;
          }),
    )) c.end.ensures.refused
