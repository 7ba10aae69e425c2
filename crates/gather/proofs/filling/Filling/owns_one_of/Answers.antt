use Rattle.std.proofs.Common.{◌∙◌, arith, sym}
use Rattle.gather.specs.Stages.{part}
use Rattle.gather.proofs.StrayPlaces.{one-behind}
use Rattle.gather.proofs.filling.Filling.owns_one_of.Goals as goal

pub places-preserved : goal.places-preserved
places-preserved c =
    let all = c.places.invariant.1 in
    let more = c.places-test.true in (
      one-behind (part c.args.self.now).owned c.args.window.array.number c.places.index c.places.left more
          (sym c.owns.ensures ∙ c.if-owns.false)
          ∙ c.places.invariant.0,
      omega (arith, all, more),
    )
