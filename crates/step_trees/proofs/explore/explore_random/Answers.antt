use Rattle.std.proofs.Common.{◌≡◌, sym, ◌∙◌, subst}
use Rattle.std.proofs.lemmas.Result.{IfOk-weaker}
use Rattle.std.specs.Prelude.{IfOk}
use Rattle.types.specs.Translation.{input}
use Rattle.types.specs.TreeRuns.{explored, explored_from}
use Rattle.types.specs.Typed.{code_of}
use Rattle.effects.specs.Sound.{IsSound}
use Rattle.race_checker.specs.Clash.{IsAccepted}
use Rattle.step_trees.specs.Drawing.{drawn, drawn_choices}
use Rattle.step_trees.specs.Exploring.{explored_of}
use Rattle.step_trees.proofs.ChosenRuns.{open_has_leaf}
use Rattle.step_trees.proofs.Drawing.{drawn_named, drawn_used, drawn_end}
use Rattle.step_trees.proofs.Exploring.{from_beginning}
use Rattle.step_trees.proofs.explore.explore_random.Goals as goal

pub returns : goal.returns
returns c =
    let p = code_of c.args.accepted.now.typed in let i = input c.args.input.now in let seed = c.args.seed in
    let sound = subst (λ t. IsSound (code_of t)) c.typed.ensures.field c.typed_programs_are_sound.ensures.typed in
    let accepted = subst (λ t. IsAccepted (code_of t)) c.typed.ensures.field c.typed.ensures.no_clash in
    let cs = drawn_choices p i seed in let result = c.by_draws.result in
    let whole = from_beginning p i (c.in_ok-plan.plan, c.in_ok-plan.course) c.in_ok-plan.ensures
    (λ q t a. explored_from q 0 (drawn q 1000000 seed t a) t a) in
    let told : IfOk result (λ e. explored_of e ≡ explored p i cs) = IfOk-weaker result _ _ (λ e h. h ∙ whole) c.by_draws.ensures in
    record {
      told = told;
      named = IfOk-weaker result _ _ (λ e h n is. drawn_named p i seed n (sym h ∙ is)) told;
      «open» = IfOk-weaker result _ _ (λ e h leaves is. open_has_leaf p i cs leaves (sym h ∙ is)) told;
      used = IfOk-weaker result _ _ (λ e h leaves is. drawn_used p i seed leaves (sym h ∙ is)) told;
      ended = IfOk-weaker result _ _ (λ e h o is b larger. drawn_end p i seed sound accepted o (sym h ∙ is) b larger) told;
    }
