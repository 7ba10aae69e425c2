use Rattle.std.proofs.Common.{ap, ◌∙◌, map, subst}
use Rattle.types.specs.Translation.{array, input as lists_of, outcome as outcome_of}
use Rattle.types.specs.TreeRuns.{Ends, Open, NoSuchChoice}
use Rattle.types.specs.Typed.{code_of}
use Rattle.step_trees.specs.Exploring.{explored_of}
use Rattle.commands.specs.Chosen.{ComesTo}
use Rattle.command_line.specs.Requests.{settings}
use Rattle.command_line.specs.declared.request.Command.TheVariants.{Explore}
use Rattle.commands.proofs.Answering.{begun_so, declared_by, explores, no_leaf, open_explored, outcome_explored}
use Rattle.commands.proofs.Answering.{passes_no_choices, passes_not_begun, shown}
use Rattle.commands.proofs.running.run_by_choices.Goals as goal

pub returns-in_err-given-clause-done : goal.returns-in_err-given-clause-done
returns-in_err-given-clause-done g c =
    passes_not_begun Explore tt (settings c.args.question.settings) (g.F.FileSource.held c.args.files.now)
    c.args.question.text.now _ (λ code accepted. accepted) _ _ c.from_residual.ensures.1 c.in_err-given.ensures.why

pub returns-in_err-explored-clause-done : goal.returns-in_err-explored-clause-done
returns-in_err-explored-clause-done g c =
    let s = settings c.args.question.settings in let held = g.F.FileSource.held c.args.files.now in
    let text = c.args.question.text.now in
    passes_no_choices s held text (begun_so s held text c.in_ok-given.given c.in_ok-given.ensures.given) _
    c.in_ok-given.ensures.keeps _ _ _ c.from_residual-in_err-explored.ensures.1 c.in_err-explored.ensures.why

pub returns-in-Ended-clause-done : goal.returns-in-Ended-clause-done
returns-in-Ended-clause-done g c =
    let s = settings c.args.question.settings in let held = g.F.FileSource.held c.args.files.now in
    let text = c.args.question.text.now in let given = c.in_ok-given.given in
    let o = outcome_of c.in-Ended.outcome in
    let by = explores s held text given c.in_ok-given.ensures.given _ c.in_ok-given.ensures.keeps (Ends o)
    (subst (ComesTo s.choices _ (code_of given.accepted.typed) (lists_of given.input)) (ap explored_of c.in-Ended.is)
    c.in_ok-explored.ensures.comes_to) in
    shown Explore s held text _ _ c.show.result _ _
    (outcome_explored s held text o (map array c.deref.result.now) by
    (declared_by _ _ _ _ c.deref.ensures.value c.code.ensures.field c.typed.ensures.field))
    c.show.ensures.text c.show.ensures.status c.show.ensures.failure

pub returns-in-Open-clause-done : goal.returns-in-Open-clause-done
returns-in-Open-clause-done g c =
    let s = settings c.args.question.settings in let held = g.F.FileSource.held c.args.files.now in
    let text = c.args.question.text.now in let given = c.in_ok-given.given in
    let leaves = c.in-Open.leaves in
    let by = explores s held text given c.in_ok-given.ensures.given _ c.in_ok-given.ensures.keeps (Open leaves)
    (subst (ComesTo s.choices _ (code_of given.accepted.typed) (lists_of given.input)) (ap explored_of c.in-Open.is)
    c.in_ok-explored.ensures.comes_to) in
    shown Explore s held text _ _ c.show_open.result _ _
    (open_explored s held text leaves by (λ n is. c.in_ok-explored.ensures.open n (ap explored_of c.in-Open.is ∙ is)))
    c.show_open.ensures.text c.show_open.ensures.status c.show_open.ensures.failure

pub returns-clause-done : goal.returns-clause-done
returns-clause-done g c =
    let s = settings c.args.question.settings in let held = g.F.FileSource.held c.args.files.now in
    let text = c.args.question.text.now in let given = c.in_ok-given.given in
    let n = c.in-NoSuchChoice.choice in
    no_leaf s held text _ n
    (explores s held text given c.in_ok-given.ensures.given _ c.in_ok-given.ensures.keeps (NoSuchChoice n)
    (subst (ComesTo s.choices _ (code_of given.accepted.typed) (lists_of given.input)) (ap explored_of c.in-NoSuchChoice.is)
    c.in_ok-explored.ensures.comes_to))
