use Rattle.std.proofs.Common.{◌≡◌, ◌<◌, length, arith}
use Rattle.effects.specs.UseSets.{HasUse}
use Rattle.effects.proofs.UseLemmas.{has_set_at, through}
use Rattle.effects.proofs.uses.Uses.insert.Goals as goal

pub returns : goal.returns
unfolding HasUse
returns c = λ s l.
    let room : c.args.section.number < length c.reserve.new.self.sets.items = omega (arith, c.in_ok-reserve.ensures.room) in
    through (has_set_at c.reserve.new.self.sets.items c.args.section.number c.index_mut.result.now c.insert.new.self
    (λ k. k ≡ c.args.label) room c.index_mut.ensures.value c.in_ok-insert.ensures s l)
    (c.in_ok-reserve.ensures.same s l)
