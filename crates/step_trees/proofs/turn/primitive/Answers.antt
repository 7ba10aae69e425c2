use Rattle.std.proofs.Common.{inl, inr, ap, ◌∙◌}
use Rattle.types.specs.Translation.{program, primitive}
use Rattle.statement_steps.specs.Standing.{flow}
use Rattle.statement_steps.proofs.BoundsLemmas.{can_store}
use Rattle.step_trees.proofs.Turns.{on-tree, faulted-tree, stopped-tree, store-after}
use Rattle.step_trees.proofs.turn.primitive.Goals as goal

pub primitive-requires : goal.primitive-requires
primitive-requires c =
    let t = c.args.turn in
    can_store (program t.plan.program.now) t.thread (primitive c.args.primitive.now) c.requires.bounds

pub returns-in-On : goal.returns-in-On
returns-in-On c =
    let t = c.args.turn in let p = program t.plan.program.now in let s = primitive c.args.primitive.now in
    let is = c.in_ok-primitive.ensures.state in
    record {
      tree = c.going.ensures.tree ∙ on-tree p c.args.label s t c.requires c.primitive.new.self is (ap flow c.in-On.is);
      store = c.going.ensures.store ∙ store-after p c.args.label s t c.requires c.primitive.new.self is;
      lengths = c.going.ensures.lengths ∙ c.in_ok-primitive.ensures.task.memory;
    }

pub returns-in-Faulted : goal.returns-in-Faulted
returns-in-Faulted c =
    let t = c.args.turn in let p = program t.plan.program.now in let s = primitive c.args.primitive.now in
    let is = c.in_ok-primitive.ensures.state in
    record {
      tree = c.ended.ensures.tree ∙ elim c.in-Faulted.is [
        | inl off ↦ faulted-tree p c.args.label s t c.requires c.primitive.new.self is (ap flow off)
        | inr off ↦ stopped-tree p c.args.label s t c.requires c.primitive.new.self is (ap flow off)
      ];
      store = c.ended.ensures.store ∙ store-after p c.args.label s t c.requires c.primitive.new.self is;
      lengths = c.ended.ensures.lengths ∙ c.in_ok-primitive.ensures.task.memory;
    }
