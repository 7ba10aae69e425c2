use Rattle.std.proofs.Common.{◌≡◌, ap, ◌∙◌, sym, refl, subst}
use Rattle.std.proofs.lemmas.Result.{IfOk-weaker}
use Rattle.std.specs.Prelude.{true, false}
use Rattle.types.specs.Code.{Then}
use Rattle.types.specs.Translation.{program}
use Rattle.types.specs.Trees.{is_done}
use Rattle.statement_steps.specs.Lists.{contents_of}
use Rattle.step_trees.specs.Translation.{blocks, leaf_of, next_label, next_code, Takes}
use Rattle.step_trees.proofs.Turns.{step_here, same_pair}
use Rattle.step_trees.proofs.turn.step.Goals as goal

pub perform-requires : goal.perform-requires
perform-requires c = record {
  on = refl;
  uncounted = refl;
  bounds = record { store = c.requires.bounds.store; windows = c.requires.bounds.windows };
}

pub returns-in-None : goal.returns-in-None
returns-in-None c =
    let takes = subst (λ o. Takes o (blocks c.args.leaf.rest.items) (blocks c.next.new.rest.items)) c.in-None.is c.in_ok-first.ensures in
    let bad : true ≡ false = sym (ap is_done takes.0) ∙ c.requires.left in
    absurd (let no : ⊥ = cc in no)

pub returns-in-Some : goal.returns-in-Some
returns-in-Some c =
    let p = program c.args.plan.program.now in let k = leaf_of c.args.leaf in
    let x = c.in-Some.step in
    let is : k.rest ≡ Then (next_label x) (next_code x) (blocks c.next.new.rest.items)
    = subst (λ o. Takes o (blocks c.args.leaf.rest.items) (blocks c.next.new.rest.items)) c.in-Some.is c.in_ok-first.ensures in
    IfOk-weaker c.perform.result _ _
    (λ r h. record {
      step = step_here p k.rest k (contents_of c.args.store) is ∙ same_pair (sym h.tree) (sym h.store);
      lengths = h.lengths;
    }) c.perform.ensures
