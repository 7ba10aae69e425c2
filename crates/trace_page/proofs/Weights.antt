-- Weights and books that are added.
use Rattle.std.proofs.Common.{◌≡◌, ℕ, List, [], ◌++◌, Option, ap, ◌∙◌, append_assoc, subst, sym}
use Rattle.std.proofs.lemmas.List.{append-nil}
use Rattle.std.specs.Prelude.{OnOk, Result}
use Rattle.events.specs.Events.{Event, ScopeId, event}
use Rattle.events.specs.declared.event.Event.{Event as rEvent}
use Rattle.event_worlds.specs.Shown.{Shows}
use Rattle.event_worlds.specs.World.{World, weight_of}
use Rattle.event_worlds.specs.declared.world.World.{World as rWorld}
use Rattle.trace_page.specs.Changes.{book_told, innermost, shares_told, weight_told, weights_told}
use Rattle.trace_page.specs.declared.changes.WeightChange.{WeightChange}

module _ {T E : Type 0} (r : Result T E) (before after : rWorld) (old new : List WeightChange) where
  -- what an event changes was added
  abbrev pub AddsIfOk : Event → Type 0
  AddsIfOk e = OnOk r ((w to : World) → Shows before w → Shows after to → new ≡ old ++ weights_told e w to)

  -- by equal events
  pub by_event : {e other : rEvent} → e ≡ other → AddsIfOk (event other) → AddsIfOk (event e)
  by_event is adds = subst (λ e. AddsIfOk (event e)) (sym is) adds

module _ (old mid new : List WeightChange) where
  pub none_added : old ≡ old ++ []
  none_added = sym (append-nil old)

  -- shares
  pub shares_added : (had has told_had told_has : Option ℕ) → new ≡ old ++ shares_told had has → had ≡ told_had
      → has ≡ told_has → new ≡ old ++ shares_told told_had told_has
  shares_added had has told_had told_has added is_had is_has =
      added ∙ ap (λ (o : Option ℕ). old ++ shares_told o has) is_had
      ∙ ap (λ (o : Option ℕ). old ++ shares_told told_had o) is_has

  -- a book
  pub book_added : (w : World) (scope told : Option ScopeId) → new ≡ old ++ book_told scope w → scope ≡ told
      → new ≡ old ++ book_told told w
  book_added w scope told added is = added ∙ ap (λ (o : Option ScopeId). old ++ book_told o w) is

  -- a weight, and then a book
  pub issued_added : (w : World) (path : List ℕ) (weight : Option ℕ) (scope : Option ScopeId) → mid ≡ old ++ weight_told weight
      → new ≡ mid ++ book_told scope w → weight ≡ weight_of path w → scope ≡ innermost path w
      → new ≡ old ++ (weight_told (weight_of path w) ++ book_told (innermost path w) w)
  issued_added w path weight scope first second is_weight is_scope =
      second ∙ ap (λ (m : List WeightChange). m ++ book_told scope w) first
      ∙ append_assoc old (weight_told weight) (book_told scope w)
      ∙ ap (λ (o : Option ℕ). old ++ (weight_told o ++ book_told scope w)) is_weight
      ∙ ap (λ (o : Option ScopeId). old ++ (weight_told (weight_of path w) ++ book_told o w)) is_scope
