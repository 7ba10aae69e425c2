use Rattle.std.proofs.Common.{◌≡◌, List, [], ap, ◌∙◌, sym, length, rules}
use Rattle.std.specs.Prelude.{true, false, nat_eq, Vec}
use Rattle.std.specs.Global.{Global}
use Rattle.types.specs.Translation.{environment}
use Rattle.types.specs.Trees.{Leaf}
use Rattle.step_trees.specs.declared.leaf.Caller.{Caller as rCaller}
use Rattle.step_trees.specs.Translation.{blocks, caller, callers, leaf_of}
use Rattle.step_trees.proofs.Rests.{callers-push, done_is_none, nothing_left, returned-open, returned-last, returned-up}
use Rattle.step_trees.proofs.leaf.returned.Goals as goal
use Rattle.step_trees.proofs.leaf.returned.Goals.{else-calls-test, then-calls-test+in-None}

pub calls-preserved : goal.calls-preserved
calls-preserved c =
    let k : Leaf = record (leaf_of c.args.leaf) {
      environment = environment c.calls.environment;
      rest = blocks c.calls.rest.items;
      callers = callers c.calls.callers.items;
    } in
    let empty : nat_eq (length c.calls.rest.items) 0 ≡ true = search rules in
    sym (returned-up k (caller c.in-Some.caller) (callers c.pop.new.self.items) (nothing_left c.calls.rest.items empty)
    (ap callers c.in-Some.ensures.items ∙ callers-push c.pop.new.self.items c.in-Some.caller))
    ∙ c.calls.invariant

pub returns : goal.returns
returns c =
    let with_callers : List rCaller → Leaf = λ fs. record (leaf_of c.args.leaf) {
      environment = environment c.calls.environment;
      rest = blocks c.calls.rest.items;
      callers = callers fs;
    } in
    let k : Leaf = with_callers c.calls.callers.items in
    let of_vec : Vec rCaller Global → Leaf = λ v. with_callers v.items in
    elim c.calls-test.branch [
      | else-calls-test w ↦
          let some : nat_eq (length c.calls.rest.items) 0 ≡ false = search rules in
          ap of_vec w.callers-is
          ∙ sym (returned-open k (sym (done_is_none c.calls.rest.items) ∙ some))
          ∙ c.calls.invariant
      | then-calls-test+in-None w ↦
          let empty : nat_eq (length c.calls.rest.items) 0 ≡ true = search rules in
          let none : c.calls.callers.items ≡ [] = search rules in
          let gone : w.pop.new.self.items ≡ [] = search rules in
          ap of_vec w.callers-is
          ∙ ap with_callers (gone ∙ sym none)
          ∙ sym (returned-last k (nothing_left c.calls.rest.items empty) (ap callers none))
          ∙ c.calls.invariant
    ]
