use Rattle.std.proofs.Common.{◌∙◌, [], ap, rules, sym, subst, Some}
use Rattle.std.specs.Prelude.{if◌then◌else◌}
use Rattle.std.specs.HashMap.{get}
use Rattle.event_worlds.specs.Ending.{GivesBack}
use Rattle.event_worlds.specs.Shown.{is_scope}
use Rattle.event_worlds.specs.declared.task.WorldStake.{WorldStake as rStake}
use Rattle.event_worlds.proofs.AtEnds.{found_here, late_here}
use Rattle.event_worlds.proofs.world.World.return_weight.Goals as goal

pub give_back-requires : goal.give_back-requires
give_back-requires c =
    late_here c.args.self.now c.args.path.now c.requires.late c.requires.stands (sym c.in-Some.ensures.value)
    c.in-Some-front.ensures.lookup (sym c.in-Some-get_mut.ensures.value)

pub returns-clause-given : goal.returns-clause-given
returns-clause-given c = λ a.
    let same = found_here c.args.self.now c.args.path.now a (sym c.in-Some.ensures.value)
    c.in-Some-front.ensures.lookup (sym c.in-Some-get_mut.ensures.value) in
    record {
      to = c.give_back.new.self;
      fits = subst (λ (s : rStake). GivesBack s.weight [] a.book c.give_back.new.self) same.stake
          (subst (λ b. GivesBack c.in-Some-front.stake.now.weight [] b c.give_back.new.self) same.book c.give_back.ensures);
      each = λ q.
          ((c.get_mut.follows.holds c.give_back.new.self).3 (search rules)).0 q
          ∙ ap (λ (s : rStake). if is_scope s.scope q then Some c.give_back.new.self else get is_scope c.args.self.now.scopes q) same.stake;
    }
