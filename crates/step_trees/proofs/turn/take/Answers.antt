use Rattle.std.proofs.Common.{◌≡◌, ap, ◌∙◌, sym, refl, subst, inl, inr, Result}
use Rattle.std.specs.Prelude.{IfOk}
use Rattle.std.specs.declared.alloc.AllocError.{AllocError}
use Rattle.types.specs.Code.{Code, Codes, Then, While}
use Rattle.types.specs.Translation.{code, codes, truth}
use Rattle.types.specs.Trees.{Leaf, Tree, before_rest, single}
use Rattle.types.specs.TreeSteps.{by_flow}
use Rattle.sections.specs.Place.{Window, has_piece}
use Rattle.statement_steps.specs.declared.next.Next.{Next}
use Rattle.statement_steps.specs.declared.store.Store.{Store}
use Rattle.statement_steps.specs.Leading.{next_of}
use Rattle.statement_steps.specs.Standing.{flow}
use Rattle.statement_steps.specs.Turns.{begun}
use Rattle.step_trees.specs.Translation.{with_turns}
use Rattle.step_trees.specs.Turns.{Comes, IsLoopOf, becomes_by, leaf_in, store_in}
use Rattle.step_trees.specs.declared.turn.Becomes.{Becomes}
use Rattle.step_trees.specs.declared.turn.LeafTurn.{LeafTurn}
use Rattle.step_trees.proofs.Turns.{comes_as, with_turns-leaf}
use Rattle.step_trees.proofs.turn.take.Goals as goal

-- the result of going on with this
abbrev Goes : LeafTurn → Next → Becomes × Store → Type 0
Goes turn n r = Comes (becomes_by (next_of n) (flow turn.thread.flow) (leaf_in turn)) (store_in turn) turn r

goes_as : (turn : LeafTurn) (n m : Next) (r : Result (Becomes × Store) AllocError) → n ≡ m → IfOk r (Goes turn m) → IfOk r (Goes turn n)
goes_as turn n m r is goes = subst (λ k. IfOk r (Goes turn k)) (sym is) goes

pub returns-in-On : goal.returns-in-On
returns-in-On c =
    let turn = c.args.turn in let k = leaf_in turn in
    subst (λ n. Goes turn n c.going.result) (sym c.in-Nothing.is)
    (record {
      tree = c.going.ensures.tree ∙ ap (λ f. by_flow (flow f) k) (sym c.in-On.is);
      store = c.going.ensures.store;
      lengths = c.going.ensures.lengths;
    })

pub returns-in-Faulted : goal.returns-in-Faulted
returns-in-Faulted c =
    let turn = c.args.turn in let k = leaf_in turn in
    subst (λ n. Goes turn n c.ended.result) (sym c.in-Nothing.is)
    (record {
      tree = c.ended.ensures.tree ∙ elim c.in-Faulted.is [
        | inl off ↦ ap (λ f. by_flow (flow f) k) (sym off)
        | inr off ↦ ap (λ f. by_flow (flow f) k) (sym off)
      ];
      store = c.ended.ensures.store;
      lengths = c.ended.ensures.lengths;
    })

pub returns-in-Block : goal.returns-in-Block
returns-in-Block c = goes_as c.args.turn c.args.next _ c.enters.result c.in-Block.is c.enters.ensures

pub returns-in_ok-begin-in-Iteration : goal.returns-in_ok-begin-in-Iteration
returns-in_ok-begin-in-Iteration c =
    let turn = c.args.turn in let k = leaf_in turn in let n = c.in-Iteration in
    let l = c.args.stmt.now.label in let b = codes n.body.now in
    let loop = subst (λ m. IsLoopOf l (code c.args.stmt.now.kind) (next_of m)) n.is c.requires in
    let with_rest : Codes → Tree = λ d. let j : Leaf = record k { rest = d } in single (before_rest b j) in
    let again : Code → Codes = λ s. Then l s k.rest in
    goes_as turn c.args.next _ c.enters-in-Iteration.result n.is
    (comes_as turn (record turn { rest = c.begin.new.rest }) c.enters-in-Iteration.result
    (ap with_rest (c.in_ok-begin-in-Iteration.ensures ∙ ap again loop.1)
    ∙ ap (λ m. with_rest (Then m (While (truth n.guard.now) b) k.rest)) loop.0)
    refl refl c.enters-in-Iteration.ensures)

pub returns-in_ok-begin_turns-in-Turns : goal.returns-in_ok-begin_turns-in-Turns
returns-in_ok-begin_turns-in-Turns c =
    let turn = c.args.turn in let k = leaf_in turn in let t = c.in-Turns.turns in
    let at : Codes → Tree = λ d. let j : Leaf = record k { rest = d } in single j in
    let in_window : Window → Codes = λ w. with_turns t w k.rest in
    let left = has_piece (k.environment.windows t.section.number) t.size t.next in
    subst (λ n. Goes turn n c.going-in-Turns.result) (sym c.in-Turns.is)
    (record {
      tree =
          c.going-in-Turns.ensures.tree
          ∙ ap at (c.in_ok-begin_turns-in-Turns.ensures ∙ ap in_window c.window-window.ensures)
          ∙ ap single (with_turns-leaf left k (Then t.label (begun t) k.rest));
      store = c.going-in-Turns.ensures.store;
      lengths = c.going-in-Turns.ensures.lengths;
    })

pub returns-in-Body : goal.returns-in-Body
returns-in-Body c = goes_as c.args.turn c.args.next _ c.calls.result c.in-Body.is c.calls.ensures
