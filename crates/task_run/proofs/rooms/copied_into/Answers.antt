use Rattle.std.proofs.Common.{◌≡◌, ◌++◌, ◌∙◌, ap, List, map}
use Rattle.std.specs.Prelude.{ℤ, pos}
use Rattle.sections.specs.Place.{nowhere}
use Rattle.sections.specs.Translation.{window}
use Rattle.sections.specs.declared.window.Window.{Window}
use Rattle.types.specs.Run.{by_number}
use Rattle.task_run.proofs.rooms.copied_into.Goals as goal

pub returns : goal.returns
returns c =
    let e = c.args.environment.now in
    let scalars : c.extend_from_slice.new.self.items ≡ e.scalars.items
    = c.in_ok-extend_from_slice.ensures.items ∙ ap (λ (ns : List ℤ). ns ++ c.deref.result.now) c.clear.ensures.items
    ∙ c.deref.ensures.value in
    let windows : c.extend_from_slice-2.new.self.items ≡ e.windows.items
    = c.in_ok-extend_from_slice-2.ensures.items ∙ ap (λ (ws : List Window). ws ++ c.deref-2.result.now) c.clear-2.ensures.items
    ∙ c.deref-2.ensures.value in
    λ t. record { scalars = by_number (pos 0) (scalars t); windows = by_number nowhere (map window (windows t)) }
