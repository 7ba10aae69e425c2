use Rattle.types.specs.Translation.{input as lists_in}
use Rattle.types.specs.Typed.{code_of}
use Rattle.viewing.proofs.Scheduled.{no_run_shown, run_shown}
use Rattle.viewing.proofs.schedules.trace_shown.Goals as goal

pub returns-in-Some : goal.returns-in-Some
returns-in-Some c =
    run_shown (code_of c.args.accepted.now.typed) (lists_in c.args.input.now) c.header_of_run-header.result c.in_ok-found.found
    c.in-Some.events c.in-Some.is c.in_ok-found.ensures c.header_of_run-header.ensures

pub returns-in-None : goal.returns-in-None
returns-in-None c =
    no_run_shown (code_of c.args.accepted.now.typed) (lists_in c.args.input.now) c.header_of_none-header.result
    c.in_ok-found.found _ c.in-None.is c.in_ok-found.ensures c.header_of_none-header.ensures c.new-events.ensures.items
