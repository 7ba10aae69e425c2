use Rattle.std.proofs.Common.{ap, ◌∙◌, sym, map, take, List}
use Rattle.std.proofs.lemmas.List.{take-map}
use Rattle.types.specs.declared.fault.Fault.{Fault as rFault}
use Rattle.types.specs.Run.{Fault}
use Rattle.types.specs.Translation.{fault}
use Rattle.statement_steps.specs.Lists.{lists_of}
use Rattle.statement_steps.specs.Standing.{state_of}
use Rattle.run_explanations.proofs.Ends.{faults_of-outcome_by}
use Rattle.run_explanations.proofs.run.seen_at_end.Goals as goal

pub returns-clause-faults : goal.returns-clause-faults
returns-clause-faults c =
    let t = c.args.thread in
    let st = state_of t in
    ap (λ (xs : List rFault). map fault xs) c.truncate-2.ensures.items
    ∙ sym (take-map fault 4 c.faults_left-faults.result.items)
    ∙ ap (λ (fs : List Fault). take 4 fs)
    (c.faults_left-faults.ensures
    ∙ sym (faults_of-outcome_by st.flow (record { arrays = lists_of t.store; lines = st.lines; faults = st.faults })))

pub returns-clause-overrun : goal.returns-clause-overrun
returns-clause-overrun c =
    let t = c.args.thread in
    let st = state_of t in
    c.overrun_left-overrun.ensures (record { arrays = lists_of t.store; lines = st.lines; faults = st.faults })
