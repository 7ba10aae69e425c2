use Rattle.std.proofs.Common.{◌≡◌, ap, ◌∙◌, sym, List, ◌++◌, map, Vec, Global}
use Rattle.std.proofs.lemmas.List.{map-append}
use Rattle.std.specs.Prelude.{ℤ, if◌then◌else◌}
use Rattle.types.specs.Meaning.{after_finish}
use Rattle.types.specs.Run.{Fault, On, Stopped}
use Rattle.types.specs.Translation.{fault}
use Rattle.types.specs.declared.fault.Fault.{Fault as rFault}
use Rattle.statement_steps.specs.Standing.{flow}
use Rattle.task_run.specs.Frames.{handed}
use Rattle.task_run.specs.OwnRun.{flow_after}
use Rattle.task_run.specs.Translation.{contents_of, settled}
use Rattle.task_run.proofs.turn.Paused.go_on.Goals as goal

pub returns-clause-stands : goal.returns-clause-stands
returns-clause-stands c = λ fs before st waits back.
    let q = c.args.self in let x = c.args.settled in
    let to = handed before (settled x) st in
    let numbers : Vec ℤ Global → List ℤ = λ v. v.items in
    let is_flow : flow c.flow_behind-flow.result ≡ flow_after (settled x)
    = c.flow_behind-flow.ensures
    ∙ ap (λ (fs : List rFault). if x.stopped then Stopped else after_finish On (map fault fs)) c.deref.ensures.value in
    let is_lines : map numbers c.append.new.self.items ≡ before.lines ++ map numbers x.lines.items
    = ap (map numbers) c.in_ok-append.ensures.items ∙ map-append numbers q.outer.lines.items x.lines.items
    ∙ ap (λ (ls : List (List ℤ)). ls ++ map numbers x.lines.items) (sym waits.outer.lines) in
    let is_faults : map fault c.append-2.new.self.items ≡ before.faults ++ map fault x.faults.items
    = ap (map fault) c.in_ok-append-2.ensures.items ∙ map-append fault q.outer.faults.items x.faults.items
    ∙ ap (λ (fs : List Fault). fs ++ map fault x.faults.items) (sym waits.outer.faults) in
    record {
      own = to.extra;
      shows = record {
        frames = waits.frames;
        owned = sym back;
        pending = waits.outer.pending;
        few = waits.few;
      };
      is = λ t. record {
        flow = is_flow t;
        environment = waits.environment t;
        store = contents_of x.holdings;
        lines = is_lines t;
        faults = is_faults t;
        steps = waits.steps t;
        path = waits.path t;
        spawned = waits.spawned t;
        extra = to.extra;
      };
    }
