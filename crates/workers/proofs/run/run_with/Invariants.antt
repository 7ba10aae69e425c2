use Rattle.std.specs.Prelude.{Some}
use Rattle.tickets.specs.Seats.{id_of}
use Rattle.workers.proofs.run.run_with.Given as goal

-- this job, the weight of the settings, and the given word
abbrev pub ghosts-run_as : goal.ghosts-run_as
ghosts-run_as g a =
    record { job = Some a.job; w0 = a.terms.settings.w0; word = Some (id_of a.terms.word.tickets) }
