use Rattle.std.proofs.Common.{◌∙◌, sym}
use Rattle.gather.specs.Stages.{part}
use Rattle.gather.proofs.StrayPlaces.{meets-item, meets-more}
use Rattle.gather.proofs.filling.Filling.owns_one.Goals as goal

pub returns-then-owns_one_of : goal.returns-then-owns_one_of
returns-then-owns_one_of c =
    sym (meets-item (part c.args.self.now).owned c.args.windows.now c.loop-window.window-index c.window-item.result
    c.loop-window-test.true c.window-item.is (sym c.owns_one_of.ensures ∙ c.if-owns_one_of.true))

pub loop-window-preserved : goal.loop-window-preserved
loop-window-preserved c =
    meets-more (part c.args.self.now).owned c.args.windows.now c.loop-window.window-index c.window-item.result
    c.loop-window-test.true c.window-item.is c.loop-window.invariant (sym c.owns_one_of.ensures ∙ c.if-owns_one_of.false)
