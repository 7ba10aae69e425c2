use Rattle.std.proofs.Common.{◌≡◌, ◌-◌, ap, ◌∙◌, subst, List, [], ◌∷◌, ◌++◌, inr, Vec, Global}
use Rattle.std.specs.Prelude.{slice_index_or, take}
use Rattle.std.specs.Vec.{with_item}
use Rattle.std.proofs.lemmas.List.{nil_from_length}
use Rattle.types.specs.Code.{Then}
use Rattle.types.specs.Translation.{code, codes}
use Rattle.types.specs.declared.fault.Fault.{Fault as rFault}
use Rattle.task_run.specs.Frames.{Frame, Rest}
use Rattle.task_run.specs.OwnRun.{Own}
use Rattle.task_run.specs.Reached.{HasNext}
use Rattle.task_run.specs.RunTurns.{CanAct, KnowsFirst, Turns, taken_off}
use Rattle.task_run.specs.Standings.{state_of, with_own}
use Rattle.task_run.specs.declared.frame.TaskFrame.{TaskFrame as rFrame}
use Rattle.task_run.specs.declared.frame.TaskFrame.TheVariants.{Rest as rRest, Again as rAgain, Turns as rTurns, OnFault as rOnFault}
use Rattle.task_run.proofs.RunTops.{can_first, on_this}
use Rattle.task_run.proofs.StepsInPlace.{Handles, again_is_turn, back_is_turn, below, end_is_turn, first_is_turn, handler_is_turn, is_above, is_kept, is_off, is_put, turns_is_turn}
use Rattle.task_run.proofs.run.Run.step.Goals as goal

pub first-requires-clause-can : goal.first-requires-clause-can
first-requires-clause-can g c =
    let m = c.args.self.now in let top = c.in-Some.top.now in
    let needs = g.N.Needed.needs c.args.needed.now in let IsAsync = g.N.Needed.IsAsync c.args.needed.now in
    let s = c.in-Some-split_first.stmt.now in let k = code s.kind in let rest = codes c.in-Some-split_first.rest.now in
    let x = c.requires.own in
    let some = c.in-Some.ensures.item.3.0 in let read = c.in-Some.ensures.value in
    let put = with_item m.frames (m.frames.len - 1) (rRest c.in-Some-split_first.rest) in
    let P : List (Frame Own) → Type 0 = λ fs.
    HasNext needs (with_own x (state_of m.thread)) fs → KnowsFirst IsAsync fs → CanAct needs IsAsync s.label k (record m { frames = put }) in
    on_this m.frames.items (below m.frames top some read) top (rRest c.in-Rest.block) (Rest (Then s.label k rest)) c.requires.frames
    (is_above m.frames top some read) c.in-Rest.is (λ f shows. shows ∙ ap (λ b. Rest (codes b)) c.in-Some-split_first.ensures.cases.0)
    c.requires.shows.frames P
    (λ below stacked. can_first needs IsAsync m x s.label rest below c.requires.shows.owned put k)
    c.requires.next c.requires.known

pub returns-in_ok-take_off-in-None-split_first-clause-step :
    goal.returns-in_ok-take_off-in-None-split_first-clause-step
returns-in_ok-take_off-in-None-split_first-clause-step g c =
    let m = c.args.self.now in let top = rRest c.in-Rest.block in let new = c.take_off.new.self in
    let some = c.in-Some.ensures.item.3.0 in
    let read : top ≡ slice_index_or m.frames.items (m.frames.len - 1) top
    = subst (λ (t : rFrame). t ≡ slice_index_or m.frames.items (m.frames.len - 1) t) c.in-Rest.is c.in-Some.ensures.value in
    end_is_turn (g.N.Needed.needs c.args.needed.now) m (below m.frames top some read) c.in-Rest.block new
    (is_above m.frames top some read)
    (nil_from_length c.in-Rest.block.now c.in-None-split_first.ensures.cases)
    (subst (λ (v : Vec rFrame Global). Turns taken_off (record m { frames = v }) new) (is_kept m.frames top some read)
    c.in_ok-take_off-in-None-split_first.ensures)

pub returns-in_ok-done-in-Some-split_first-clause-step :
    goal.returns-in_ok-done-in-Some-split_first-clause-step
returns-in_ok-done-in-Some-split_first-clause-step g c =
    let m = c.args.self.now in let top = c.in-Some.top.now in
    let some = c.in-Some.ensures.item.3.0 in let read = c.in-Some.ensures.value in
    let hs = below m.frames top some read in let rest = c.in-Some-split_first.rest in
    first_is_turn (g.N.Needed.needs c.args.needed.now) m hs c.in-Rest.block rest c.in-Some-split_first.stmt.now
    (with_item m.frames (m.frames.len - 1) (rRest rest)) c.in_ok-done-in-Some-split_first.done c.first.new.self
    (is_above m.frames top some read ∙ ap (λ (g : rFrame). hs ++ g ∷ []) c.in-Rest.is) c.in-Some-split_first.ensures.cases.0
    (is_put m.frames top some read (rRest rest)) c.in_ok-done-in-Some-split_first.ensures.did

pub returns-in_ok-done-in-Again-clause-step : goal.returns-in_ok-done-in-Again-clause-step
returns-in_ok-done-in-Again-clause-step g c =
    let m = c.args.self.now in let top = rAgain c.in-Again.label c.in-Again.guard c.in-Again.body in
    let needs = g.N.Needed.needs c.args.needed.now in
    let some = c.in-Some.ensures.item.3.0 in
    let read : top ≡ slice_index_or m.frames.items (m.frames.len - 1) top
    = subst (λ (t : rFrame). t ≡ slice_index_or m.frames.items (m.frames.len - 1) t) c.in-Again.is c.in-Some.ensures.value in
    again_is_turn needs m (below m.frames top some read) c.in-Again.label c.in-Again.guard c.in-Again.body c.pop.new.self
    c.in_ok-done-in-Again.done c.again.new.self
    (is_above m.frames top some read)
    (c.pop.ensures.rest ∙ ap (λ (v : Vec rFrame Global). take (v.len - 1) v.items) (is_kept m.frames top some read))
    (c.in_ok-done-in-Again.ensures.did needs)

pub returns-in_ok-done-in-Turns-clause-step : goal.returns-in_ok-done-in-Turns-clause-step
returns-in_ok-done-in-Turns-clause-step g c =
    let m = c.args.self.now in let top = rTurns c.in-Turns.turns in
    let needs = g.N.Needed.needs c.args.needed.now in
    let some = c.in-Some.ensures.item.3.0 in
    let read : top ≡ slice_index_or m.frames.items (m.frames.len - 1) top
    = subst (λ (t : rFrame). t ≡ slice_index_or m.frames.items (m.frames.len - 1) t) c.in-Turns.is c.in-Some.ensures.value in
    turns_is_turn needs m (below m.frames top some read) c.in-Turns.turns c.pop-in-Turns.new.self
    c.in_ok-done-in-Turns.done c.next_turn.new.self
    (is_above m.frames top some read)
    (c.pop-in-Turns.ensures.rest ∙ ap (λ (v : Vec rFrame Global). take (v.len - 1) v.items) (is_kept m.frames top some read))
    (c.in_ok-done-in-Turns.ensures.did needs)

pub returns-in-EndFinish-clause-step : goal.returns-in-EndFinish-clause-step
returns-in-EndFinish-clause-step g c =
    let m = c.args.self.now in let top = c.in-Some.top.now in
    let some = c.in-Some.ensures.item.3.0 in let read = c.in-Some.ensures.value in
    let hs = below m.frames top some read in (
      ap (λ (v : Vec rFrame Global). record m { frames = v }) (is_kept m.frames top some read),
      inr (hs, c.in-EndFinish.field-0, is_above m.frames top some read ∙ ap (λ (g : rFrame). hs ++ g ∷ []) c.in-EndFinish.is),
    )

pub returns-in_ok-handle-in-OnFault-clause-step :
    goal.returns-in_ok-handle-in-OnFault-clause-step
returns-in_ok-handle-in-OnFault-clause-step g c =
    let m = c.args.self.now in let k = c.in-OnFault in let top = rOnFault k.before k.faults k.handler in
    let needs = g.N.Needed.needs c.args.needed.now in
    let some = c.in-Some.ensures.item.3.0 in
    let read : top ≡ slice_index_or m.frames.items (m.frames.len - 1) top
    = subst (λ (t : rFrame). t ≡ slice_index_or m.frames.items (m.frames.len - 1) t) k.is c.in-Some.ensures.value in
    let hs = below m.frames top some read in
    let popped = c.pop-in-OnFault.new.self in let new = c.handle.new.self in
    handler_is_turn needs m hs k.before k.faults k.handler popped new (is_above m.frames top some read)
    (c.pop-in-OnFault.ensures.rest ∙ is_off m.frames top some read (rOnFault c.replace-before.new.dest k.faults k.handler))
    (subst (λ (v : Vec rFault Global). Handles needs m hs v k.faults k.handler (record m { frames = popped }) new) c.replace-before.ensures.value
    c.in_ok-handle-in-OnFault.ensures)

pub returns-in_ok-take_off-in-EndCall-clause-step :
    goal.returns-in_ok-take_off-in-EndCall-clause-step
returns-in_ok-take_off-in-EndCall-clause-step g c =
    let m = c.args.self.now in let top = c.in-Some.top.now in let new = c.take_off-in-EndCall.new.self in
    let some = c.in-Some.ensures.item.3.0 in let read = c.in-Some.ensures.value in
    let hs = below m.frames top some read in
    back_is_turn (g.N.Needed.needs c.args.needed.now) m hs c.in-EndCall.environment new
    (is_above m.frames top some read ∙ ap (λ (g : rFrame). hs ++ g ∷ []) c.in-EndCall.is)
    (subst (λ (v : Vec rFrame Global). Turns taken_off (record m { frames = v }) new) (is_kept m.frames top some read)
    c.in_ok-take_off-in-EndCall.ensures)
