use Rattle.std.proofs.Common.{◌∙◌, ◌++◌, List, ap, map}
use Rattle.serde_json.specs.Data.{Data, array}
use Rattle.serde_json.specs.View.{items_of, view}
use Rattle.serde_json.specs.declared.value.Value.{Value}
use Rattle.serde_json.proofs.Views.{view-Array}
use Rattle.events.specs.Events.{event}
use Rattle.trace_page.specs.Changes.{change_json, weight_json, weights_told}
use Rattle.trace_page.specs.declared.changes.ValueChange.{ValueChange}
use Rattle.trace_page.specs.declared.changes.WeightChange.{WeightChange}
use Rattle.trace_page.proofs.moments.changes_of.Goals as goal

pub returns : goal.returns
returns c =
    let e = event c.args.moment.event.now in
    let weights = c.push_weights.new.changes.items in
    let values = c.in_ok-values.values.items in
    let first = c.in_ok-push_all.ensures
    ∙ ap (λ (vs : List Value). map view vs ++ map weight_json c.deref.result.now) c.new-list.ensures.items
    ∙ ap (map weight_json) c.deref.ensures.value in
    let both = c.in_ok-push_all-2.ensures
    ∙ ap (λ (ds : List Data). ds ++ map change_json c.deref-2.result.now) first
    ∙ ap (λ (xs : List ValueChange). map weight_json weights ++ map change_json xs) c.deref-2.ensures.value in (
      record { weights = weights; values = values },
      view-Array c.push_all-2.new.values ∙ ap (λ (ds : List Data). array (items_of ds)) both,
      λ before after shows_before shows_after. record {
        weights = c.in_ok-push_weights.ensures before after shows_before shows_after
            ∙ ap (λ (l : List WeightChange). l ++ weights_told e before after) c.new-weights.ensures.items;
      },
    )
