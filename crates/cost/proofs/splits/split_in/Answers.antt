use Rattle.std.proofs.Common.{◌≡◌, ℕ, ap, ◌∙◌, arith}
use Rattle.sections.specs.Translation.{window}
use Rattle.types.specs.Translation.{program}
use Rattle.holdings.specs.Copied.{split_places}
use Rattle.holdings.proofs.CoverLemmas.{split-more}
use Rattle.cost.specs.Copied.{length_of}
use Rattle.cost.proofs.splits.split_in.Goals as goal

pub loop-window-preserved : goal.loop-window-preserved
loop-window-preserved c =
    let lengths = length_of (program c.args.code.now) in
    let w = c.window-item.result in
    let here : c.split_places.result ≡ split_places lengths (window w)
    = c.split_places.ensures ∙ ap (λ (n : ℕ). split_places (λ a. n) (window w)) c.length_in-length.ensures in
    let more = split-more lengths c.args.cover.now c.loop-window.window-index w c.loop-window-test.true c.window-item.is in
    omega (arith, c.in_ok-all.ensures, c.loop-window.invariant, here, more)
