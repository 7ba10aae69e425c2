use Rattle.std.proofs.Common.{◌+◌, ap, ◌∙◌, sym}
use Rattle.std.specs.Prelude.{Bool, if◌then◌else◌}
use Rattle.sections.specs.Place.{Window, has_piece, piece_at}
use Rattle.sections.specs.Translation.{window}
use Rattle.types.specs.Code.{Codes, Then}
use Rattle.types.specs.Run.{State, with_piece}
use Rattle.types.specs.Translation.{codes}
use Rattle.types.specs.Trees.{Leaf, Tree, before_rest, single}
use Rattle.types.specs.TreeSteps.{before_turns, in_piece}
use Rattle.types.specs.Value.{Environment}
use Rattle.statement_steps.specs.Lists.{contents_of, lengths_of}
use Rattle.statement_steps.specs.Standing.{state_of}
use Rattle.statement_steps.specs.Turns.{begun}
use Rattle.statement_steps.specs.declared.store.Store.{Store}
use Rattle.statement_steps.specs.declared.thread.Thread.{Thread}
use Rattle.statement_steps.specs.declared.turns.TurnsToCome.{TurnsToCome}
use Rattle.step_trees.specs.declared.turn.LeafTurn.{LeafTurn}
use Rattle.step_trees.specs.Translation.{blocks, callers, with_turns}
use Rattle.step_trees.specs.Turns.{leaf_at, leaf_in}
use Rattle.step_trees.proofs.Turns.{comes_as, with_turns-leaf, has_none, has_some}
use Rattle.step_trees.proofs.turn.next_turn.Goals as goal

-- the tree after a turn, if one is left
abbrev turned : LeafTurn → TurnsToCome → Bool → Tree
turned turn t left =
    let k = leaf_in turn in let s = t.section.number in let n = t.size in let m = t.next in
    let x = t.piece.number in let i = t.turn.number in let b = codes t.body.now in
    single (if left then before_rest b (in_piece s n m x i (before_turns t.label s n (m + 1) x i b k)) else k)

pub returns-in-None : goal.returns-in-None
returns-in-None c =
    let k = leaf_in c.args.turn in let t = c.args.turns in
    let none = has_none (k.environment.windows t.section.number) t.size t.next c.in-None.ensures.piece in
    record {
      tree = c.going.ensures.tree ∙ ap (turned c.args.turn t) (sym none);
      store = c.going.ensures.store;
      lengths = c.going.ensures.lengths;
    }

pub returns-in_ok-begin_turn-in-Some : goal.returns-in_ok-begin_turn-in-Some
returns-in_ok-begin_turn-in-Some c =
    let turn = c.args.turn in let t = c.args.turns in let k = leaf_in turn in
    let s = t.section.number in let n = t.size in let m = t.next in
    let x = t.piece.number in let i = t.turn.number in let b = codes t.body.now in
    let w = k.environment.windows s in
    let some = has_some w n m (window c.in-Some.piece) c.in-Some.ensures.piece in
    let thread : Thread Store = c.begin_turn.new.self in
    let rest = blocks c.begin_turns.new.rest.items in
    let fs = callers turn.callers.items in
    let by_thread : Thread Store → Tree = λ th. single (before_rest b (leaf_at (state_of th) rest fs)) in
    let same_but : Thread Store = record turn.thread { environment = thread.environment } in
    let in_env : Environment → Tree = λ e. let j : Leaf = record k { environment = e; rest = rest } in single (before_rest b j) in
    let env_of : State (Unit {0}) → Environment = λ st. st.environment in
    let cut : Window → Environment = λ v. with_piece x i v m k.environment in
    let at : Codes → Tree = λ d. let j : Leaf = record k { environment = cut (piece_at n m w); rest = d } in single (before_rest b j) in
    let in_window : Window → Codes = λ v. with_turns c.after_next.result v k.rest in
    let later : TurnsToCome → Codes = λ t. with_turns t w k.rest in
    let then_in : Leaf → Tree = λ j. single (before_rest b (in_piece s n m x i j)) in
    let more : TurnsToCome = record t { next = m + 1 } in
    let left = has_piece w n (m + 1) in
    let new : LeafTurn = record turn { thread = thread; rest = c.begin_turns.new.rest } in
    comes_as turn new c.enters.result
    (ap by_thread c.in_ok-begin_turn-in-Some.ensures.rest
    ∙ ap in_env (ap env_of c.in_ok-begin_turn-in-Some.ensures.state ∙ ap cut some.1)
    ∙ ap at (c.in_ok-begin_turns-in-Some.ensures ∙ ap in_window c.window-window.ensures ∙ ap later c.after_next.ensures)
    ∙ ap then_in (with_turns-leaf left k (Then t.label (begun more) k.rest))
    ∙ ap (turned turn t) (sym some.0))
    (ap (λ (th : Thread Store). contents_of th.store) c.in_ok-begin_turn-in-Some.ensures.rest)
    (ap (λ (th : Thread Store). lengths_of th.store) c.in_ok-begin_turn-in-Some.ensures.rest)
    c.enters.ensures
