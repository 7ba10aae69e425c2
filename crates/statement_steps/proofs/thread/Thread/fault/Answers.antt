use Rattle.std.proofs.Common.{ap, ◌∙◌, List, ℕ, ◌++◌, ◌∷◌, []}
use Rattle.types.specs.Run.{Fault, State, Faulted}
use Rattle.types.specs.Translation.{fault as fault_of}
use Rattle.statement_steps.specs.Standing.{state_by}
use Rattle.statement_steps.proofs.Steps.{map-pushed}
use Rattle.statement_steps.proofs.thread.Thread.fault.Goals as goal

pub returns-clause-state : goal.returns-clause-state
returns-clause-state g c =
    let st = state_by g.S.Memory.contents c.args.self.now in
    let with_faults : List Fault → State (Unit {0}) = λ fs. record st { flow = Faulted; faults = fs } in
    let with_path : List ℕ → State (Unit {0}) = λ path. with_faults (st.faults ++ record {
      path = path;
      label =
          c.args.label;
      kind = c.args.kind;
    } ∷ []) in
    ap with_faults (map-pushed fault_of c.args.self.now.faults.items c.push.new.self.items _ c.in_ok-push.ensures.items)
    ∙ ap with_path c.in_ok-path.ensures
