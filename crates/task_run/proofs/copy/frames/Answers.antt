use Rattle.std.proofs.Common.{◌≡◌, ◌+◌, ◌∙◌, [], ◌∷◌, ◌++◌, refl, sym, ap, subst, take}
use Rattle.std.proofs.lemmas.List.{take_all, take_more}
use Rattle.task_run.specs.Standings.{Stacked}
use Rattle.task_run.specs.declared.frame.TaskFrame.{TaskFrame as rFrame}
use Rattle.task_run.proofs.RunTops.{on_top}
use Rattle.task_run.proofs.copy.frames.Goals as goal

pub loop-frame-init : goal.loop-frame-init
loop-frame-init c = λ fs h. subst (λ gs. Stacked gs fs) (sym c.new-copies.ensures.items) h

pub loop-frame-preserved : goal.loop-frame-preserved
loop-frame-preserved c = λ fs h.
    let old = c.args.frames.now in
    let i = c.loop-frame.frame-index in
    let g = c.frame-item.result in
    let before = take i old in
    let more : take (i + 1) old ≡ before ++ g ∷ [] = take_more old i g c.loop-frame-test.true ∙ ap (λ (x : rFrame). before ++ x ∷ []) (sym c.frame-item.is) in
    subst (λ gs. Stacked gs fs) (sym c.in_ok-push.ensures.items)
    (on_top (take (i + 1) old) before g fs more h (λ xs. Stacked (c.loop-frame.copies.items ++ c.in_ok-copy.copy ∷ []) xs)
    (λ f below shown rest. (c.loop-frame.copies.items, c.in_ok-copy.copy, refl, c.in_ok-copy.ensures f shown, c.loop-frame.invariant below rest)))

pub returns : goal.returns
returns c = λ fs h.
    c.loop-frame.invariant fs
    (subst (λ gs. Stacked gs fs) (sym (take_all c.loop-frame.frame-index c.args.frames.now c.loop-frame-test.false)) h)
