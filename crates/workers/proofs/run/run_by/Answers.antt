use Rattle.std.proofs.Common.{subst}
use Rattle.std.specs.Prelude.{IfErr, IfOk, slice_index_or}
use denote.Exit.{no}
use denote.Param.{param}
use denote.Param.Send.{IsSend, IsSync, param_send, param_sync}
use denote.Ref.{NamedLft}
use mir.Syntax.{named}
use Rattle.task_run.specs.declared.job.Job.{Job}
use Rattle.tickets.specs.Seats.{AreAllOf}
use Rattle.tickets.specs.declared.word.Tickets.{Tickets}
use Rattle.workers.specs.Causes.{IsReason}
use Rattle.workers.specs.WorkerStates.{Tells}
use Rattle.workers.specs.declared.settings.Settings.{Settings}
use Rattle.workers.specs.contracts.main_loop.Shared as Shared
use Rattle.workers.specs.contracts.worker.WorkerParts as WorkerParts
use Rattle.workers.proofs.Sending.{shared_sync, parts_send}
use Rattle.workers.proofs.run.run_by.Lts.{arg-3-0, arg-3-2}
use Rattle.workers.proofs.run.run_by.Goals as goal

-- the parts of the workers can be sent
pub work_together-requires-send-C-Kit : goal.work_together-requires-send-C-Kit
work_together-requires-send-C-Kit g c κs within =
    let κ : NamedLft = record { mir = named 6; lft = κs.1.1.1.1.1.1.0 } in
    let s : IsSend (WorkerParts.the_row κ (param 0 g.row.J) g.J.Running) = parts_send κ (param 0 g.row.J) g.J.Running in
    param_send 2 (arg-3-2 g.row.J g.row.G g.row.R g.J.laws g.G.laws g.R.laws g.J.Running g.J.Running-dict g.J.Recording g.J.Recording-dict g.G.Gate g.G.Gate-dict g.R.Threads g.R.Threads-dict g.R.Wait g.R.Wait-dict κs)
    (record { owned = s.owned; leaving = λ k. s.leaving no })

-- all threads can share the shared state
pub work_together-requires-sync-C : goal.work_together-requires-sync-C
work_together-requires-sync-C g c κs within =
    let κ : NamedLft = record { mir = named 6; lft = κs.1.1.1.1.1.1.0 } in
    let s : IsSync (Shared.the_row κ (param 0 g.row.J) (param 1 g.row.G) g.J.Running g.G.Gate) =
    shared_sync κ (param 0 g.row.J) g.J.Running (param 1 g.row.G) g.G.Gate c.type_bounds.sync-G in
    param_sync 0 (arg-3-0 g.row.J g.row.G g.row.R g.J.laws g.G.laws g.R.laws g.J.Running g.J.Running-dict g.J.Recording g.J.Recording-dict g.G.Gate g.G.Gate-dict g.R.Threads g.R.Threads-dict g.R.Wait g.R.Wait-dict κs)
    (record { shared = s.shared })

-- the job and the settings of the shared state are those of the run
pub told-requires-clause-each : goal.told-requires-clause-each
told-requires-clause-each g c k d below =
    let t = c.in_ok-shared.shared.tickets in
    let r = slice_index_or c.in-Ok.reports.items k d in
    subst (λ (j : Job). Tells g.J.Running.job t j c.args.terms.settings.tasks r) c.in_ok-shared.ensures.job
    (subst (λ (s : Settings). Tells g.J.Running.job t c.in_ok-shared.shared.job s.tasks r) c.in_ok-shared.ensures.settings
    (c.in-Ok.ensures.told k d below))

-- the shared tickets are those of the word
pub returns-in-Ok-clause-drawn : goal.returns-in-Ok-clause-drawn
returns-in-Ok-clause-drawn g c =
    subst (λ (t : Tickets). IfOk c.told.result (λ f. AreAllOf t f.tasks)) c.in_ok-shared.ensures.tickets c.told.ensures.drawn

pub returns-in-Ok-clause-failed : goal.returns-in-Ok-clause-failed
returns-in-Ok-clause-failed g c =
    subst (λ (t : Tickets). IfErr c.told.result (IsReason g.J.Running.job t c.args.terms.settings.tasks)) c.in_ok-shared.ensures.tickets
    c.told.ensures.failed
