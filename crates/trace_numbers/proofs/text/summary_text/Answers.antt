use Rattle.std.proofs.Common.{◌++◌, List, ℕ, ap, ◌∙◌, append_assoc}
use Rattle.std.specs.Prelude.{◌≡◌, map, refl}
use Rattle.trace_numbers.specs.Tables.{gathered}
use Rattle.trace_numbers.specs.Text.{faults_lines, work_lines, worker_lines}
use Rattle.trace_numbers.specs.declared.faults.FinishFaults.{FinishFaults}
use Rattle.trace_numbers.proofs.text.summary_text.Goals as goal

-- a text to which lines were added, by what the text before it and the lines are
added : {a b c d e : List ℕ} → a ≡ b ++ c → b ≡ d → c ≡ e → a ≡ d ++ e
added {a} {b} {c} {d} {e} is before lines =
    is ∙ ap (λ (l : List ℕ). l ++ c) before ∙ ap (λ (l : List ℕ). d ++ l) lines

pub returns : goal.returns
returns c =
    added c.in_ok-push_faults.ensures
    (added c.in_ok-push_workers.ensures
    (added c.in_ok-push_tasks.ensures
    (c.in_ok-push_work.ensures
    ∙ ap (λ (l : List ℕ). l ++ work_lines c.args.summary.now) c.new-text.ensures.bytes)
    refl)
    (ap (λ (ws : List ℕ). worker_lines c.args.workers 0 ws) c.deref.ensures.value))
    (ap (λ (fs : List FinishFaults). faults_lines (map gathered fs)) c.deref-2.ensures.value)
    ∙ simp append_assoc
