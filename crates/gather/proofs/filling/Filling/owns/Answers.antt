use Rattle.std.proofs.Common.{◌≡◌, ◌∙◌, List, ap, map, sym}
use Rattle.std.specs.List.{list_any}
use Rattle.std.specs.Prelude.{Bool, ◌||◌}
use Rattle.sections.specs.Covers.{has}
use Rattle.sections.specs.Translation.{place, window}
use Rattle.task_run.specs.Translation.{owned_by}
use Rattle.gather.proofs.StrayPlaces.{covers, has_place}
use Rattle.gather.proofs.filling.Filling.owns.Goals as goal

pub returns-then-have : goal.returns-then-have
returns-then-have c =
    let q = place c.args.place in
    let f = c.args.self.now in
    let found : has (map window f.strays.items) q ≡ c.have.result =
    sym (c.have.ensures ∙ ap (λ (ws : List _). list_any (covers q) ws) c.deref.ensures.value ∙ has_place q f.strays.items) in
    c.if-have.true ∙ sym (ap (λ (b : Bool). b || owned_by f.so_far.holdings q) (found ∙ c.if-have.true))

pub returns-else-have : goal.returns-else-have
returns-else-have c =
    let q = place c.args.place in
    let f = c.args.self.now in
    let found : has (map window f.strays.items) q ≡ c.have.result =
    sym (c.have.ensures ∙ ap (λ (ws : List _). list_any (covers q) ws) c.deref.ensures.value ∙ has_place q f.strays.items) in
    c.owns.ensures ∙ sym (ap (λ (b : Bool). b || owned_by f.so_far.holdings q) (found ∙ c.if-have.false))
