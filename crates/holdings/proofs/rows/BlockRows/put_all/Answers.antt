use Rattle.std.proofs.Common.{◌+◌, List, ap, ◌∙◌, map, take}
use Rattle.std.proofs.lemmas.List.{take_all}
use Rattle.sections.specs.Covers.{has, is_in}
use Rattle.sections.specs.Translation.{window as window_of}
use Rattle.blocks.specs.Held.{numbers, only, put_all}
use Rattle.holdings.specs.Rows.{held_in}
use Rattle.holdings.proofs.PuttingLemmas.{put_all-both}
use Rattle.holdings.proofs.WindowLemmas.{has-take_more}
use Rattle.holdings.proofs.rows.BlockRows.put_all.Goals as goal

pub loop-window-preserved : goal.loop-window-preserved
loop-window-preserved c =
    let n = numbers (held_in c.args.others.now) in
    let ws = c.args.windows.now in
    let i = c.loop-window.window-index in
    let w = window_of c.window-item.result in
    c.in_ok-put_window.ensures
    ∙ ap (put_all (only (is_in w) n)) c.loop-window.invariant
    ∙ put_all-both (has (map window_of (take i ws))) (is_in w) (has (map window_of (take (i + 1) ws))) n (held_in c.args.self.now)
    (λ q. has-take_more ws i c.window-item.result q c.loop-window-test.true c.window-item.is)

pub returns : goal.returns
returns c =
    let n = numbers (held_in c.args.others.now) in
    let all = take_all c.loop-window.window-index c.args.windows.now c.loop-window-test.false in
    c.loop-window.invariant
    ∙ ap (λ (ws : List _). put_all (only (has (map window_of ws)) n) (held_in c.args.self.now)) all
