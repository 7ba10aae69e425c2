use Rattle.std.proofs.Common.{ℕ, List, ap, ◌∙◌, map, subst}
use Rattle.std.specs.String.{string_bytes}
use Rattle.types.specs.Outcome.{outcome}
use Rattle.types.specs.Translation.{budget, input as lists_in, outcome as outcome_in}
use Rattle.types.specs.Typed.{code_of}
use Rattle.types.specs.declared.budget.Budget.{Budget}
use Rattle.events.specs.Events.{event as event_of}
use Rattle.events.specs.declared.event.Event.{Event}
use Rattle.trace_text.specs.Headers.{header_of as header_in}
use Rattle.trace_text.specs.Lines.{trace_text}
use Rattle.trace_text.specs.Spelled.{fits}
use Rattle.trace_text.specs.declared.format.Format.{Format}
use Rattle.trace_text.specs.declared.format.Format.TheVariants.{Two}
use Rattle.finish_scope.specs.RunErrors.{IsRunCause}
use Rattle.finish_scope.proofs.RunCauses.{cause_so}
use Rattle.command_line.specs.Requests.{settings}
use Rattle.commands.specs.Answers.{IsTraced}
use Rattle.driver.proofs.TracedRuns.{is_trace, of_some}
use Rattle.driver.proofs.tracing.traced.Goals as goal

pub returns-in-Err-clause-why : goal.returns-in-Err-clause-why
returns-in-Err-clause-why g c =
    let s = settings c.args.settings in
    subst (λ (n : ℕ). IsRunCause n (IsTraced s) c.in-Err.error) c.run_settings-on.ensures.tasks
    (cause_so _ _ (IsTraced s) (λ some. c.requires.traced) c.in-Err.error c.in-Err.ensures.cause)

pub returns-in-Ok-write_lines-clause-outcome : goal.returns-in-Ok-write_lines-clause-outcome
returns-in-Ok-write_lines-clause-outcome g c =
    c.in-Ok-run.ensures.outcome
    ∙ ap (λ (b : Budget). outcome (code_of c.args.given.now.accepted.typed) (lists_in c.args.given.now.input) (budget b))
    c.run_settings-on.ensures.budget

pub returns-in-Ok-write_lines-clause-trace : goal.returns-in-Ok-write_lines-clause-trace
returns-in-Ok-write_lines-clause-trace g c =
    let on = c.run_settings-on.ensures in
    let h = c.header_of-header.result in
    is_trace c.in-Some.log _ h c.args.settings (outcome_in c.in-Ok-run.ran.0.outcome) (string_bytes c.in-Ok-write_lines.lines)
    (of_some _ _ _ c.in-Some.is c.in-Ok-run.ensures.job) on.budget on.w0 c.header_of-header.ensures.format (c.header_of-header.ensures.budget ∙ on.budget) (c.header_of-header.ensures.w0 ∙ on.w0)
    (c.header_of-header.ensures.workers ∙ on.workers) (of_some _ _ _ c.in-Some.is c.in-Ok-run.ensures.told)
    (c.in-Ok-run.ensures.outcome
    ∙ ap (λ (b : Budget). outcome (code_of c.args.given.now.accepted.typed) (lists_in c.args.given.now.input) (budget b)) on.budget)
    (c.in-Ok-write_lines.ensures ∙ ap (λ (es : List Event). trace_text (header_in h) (map event_of es)) c.events.ensures.events)

pub write_lines-requires : goal.write_lines-requires
write_lines-requires g c =
    ap (λ (f : Format). fits f c.events.result.now) c.header_of-header.ensures.format
    ∙ ap (λ (es : List Event). fits Two es) c.events.ensures.events ∙ c.events.ensures.fits
