use Rattle.workers.proofs.Draws.{drawn_by_some, tickets_of_some}
use Rattle.workers.proofs.run.run.Goals as goal

pub returns-clause-drawn : goal.returns-clause-drawn
returns-clause-drawn g c =
    drawn_by_some c.in_ok-tickets.tickets c.args.settings.workers c.in_ok-tickets.ensures.seats.0 (λ r. r.0.tasks) c.run_with.result
    c.run_with.ensures.drawn

pub returns-clause-ticket : goal.returns-clause-ticket
returns-clause-ticket g c =
    tickets_of_some c.in_ok-tickets.tickets c.args.settings.workers c.in_ok-tickets.ensures.seats.0 c.run_with.result
    c.run_with.ensures.ticket
