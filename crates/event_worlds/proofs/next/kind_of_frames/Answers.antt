use Rattle.std.proofs.Common.{◌≡◌, ◌-◌, take, ◌∙◌, arith, ap, sym}
use Rattle.types.specs.Translation.{environment}
use Rattle.event_worlds.specs.NextKinds.{top_does}
use Rattle.event_worlds.proofs.NextKinds.{acts_now, ends_now, left_below, taken_last}
use Rattle.event_worlds.proofs.next.kind_of_frames.Goals as goal

pub returns-in-Acts : goal.returns-in-Acts
returns-in-Acts c = λ j d ok is h.
    let some = c.frames-test.true in
    let at = c.in-Some.ensures.lookup in
    let parts = taken_last c.args.frames.now c.in-Some.top.now c.frames.left (c.frames.left - 1) (omega (arith, some)) at.3.0 at.1 in
    acts_now j ok d _ _ c.in-Some.top.now parts (environment c.frames.environment.now) c.frames.flow c.args.steps (c.frames.invariant.1 j d ok is h) c.in-Acts.kind
    (λ f shown. sym c.in-Acts.is ∙ c.first_of.ensures f shown ∙ ap (λ n. top_does n c.args.steps c.frames.flow (environment c.frames.environment.now).windows f) is)

pub frames-preserved : goal.frames-preserved
frames-preserved c =
    let most = c.frames.invariant.0 in (
      omega (arith, most),
      λ j d ok is h.
          let some = c.frames-test.true in
          let at = c.in-Some.ensures.lookup in
          let parts = taken_last c.args.frames.now c.in-Some.top.now c.frames.left (c.frames.left - 1) (omega (arith, some)) at.3.0 at.1 in
          left_below j ok d _ _ c.in-Some.top.now parts (environment c.frames.environment.now) c.frames.flow c.args.steps
          (c.frames.invariant.1 j d ok is h) (environment c.environment_after-environment.result.now) c.in-Goes.next c.environment_after-environment.ensures
          (λ f shown. sym c.in-Goes.is ∙ c.first_of.ensures f shown
          ∙ ap (λ n. top_does n c.args.steps c.frames.flow (environment c.frames.environment.now).windows f) is),
    )

pub returns : goal.returns
returns c = λ j d ok is h.
    let all = c.frames-test.false in
    let none : c.frames.left ≡ 0 = omega (arith, all) in
    ends_now j ok d (take c.frames.left c.args.frames.now) (environment c.frames.environment.now) c.frames.flow c.args.steps
    (ap (λ n. take n c.args.frames.now) none) (c.frames.invariant.1 j d ok is h)
