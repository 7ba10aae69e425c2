use Rattle.std.proofs.Common.{◌≡◌, sym, ◌∙◌, subst}
use Rattle.std.proofs.lemmas.Result.{IfOk-weaker}
use Rattle.std.specs.Prelude.{IfOk}
use Rattle.types.specs.Translation.{input}
use Rattle.types.specs.TreeRuns.{explored, explored_from}
use Rattle.types.specs.Typed.{code_of}
use Rattle.effects.specs.Sound.{IsSound}
use Rattle.race_checker.specs.Clash.{IsAccepted}
use Rattle.step_trees.specs.Exploring.{explored_of}
use Rattle.step_trees.proofs.ChosenRuns.{open_has_leaf, choices_end}
use Rattle.step_trees.proofs.Exploring.{from_beginning}
use Rattle.step_trees.proofs.explore.explore.Goals as goal

pub returns : goal.returns
returns c =
    let p = code_of c.args.accepted.now.typed in let i = input c.args.input.now in let cs = c.args.choices.now in
    let sound = subst (λ t. IsSound (code_of t)) c.typed.ensures.field c.typed_programs_are_sound.ensures.typed in
    let accepted = subst (λ t. IsAccepted (code_of t)) c.typed.ensures.field c.typed.ensures.no_clash in
    let whole = from_beginning p i (c.in_ok-plan.plan, c.in_ok-plan.course) c.in_ok-plan.ensures (λ q t a. explored_from q 0 cs t a) in
    let told : IfOk c.by_choices.result (λ e. explored_of e ≡ explored p i cs)
    = IfOk-weaker c.by_choices.result _ _ (λ e h. h ∙ whole) c.by_choices.ensures in
    record {
      told = told;
      «open» = IfOk-weaker c.by_choices.result _ _ (λ e h leaves is. open_has_leaf p i cs leaves (sym h ∙ is)) told;
      ended = IfOk-weaker c.by_choices.result _ _ (λ e h o is b larger. choices_end p sound accepted i cs o (sym h ∙ is) b larger) told;
    }
