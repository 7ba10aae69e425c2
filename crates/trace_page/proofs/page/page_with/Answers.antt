use Rattle.std.proofs.Common.{◌≡◌, ◌++◌, ◌∙◌, ℕ, List, ap, string_bytes}
use Rattle.std.proofs.lemmas.Result.{IfOk-weaker}
use Rattle.serde_json.specs.View.{view}
use Rattle.trace_page.specs.Escaped.{escaped}
use Rattle.trace_page.specs.Pages.{IsPage, traced}
use Rattle.trace_page.specs.declared.after.TheConstants.{AFTER}
use Rattle.trace_page.specs.declared.before.TheConstants.{BEFORE}
use Rattle.trace_page.proofs.NoFloats.{data_has_none}
use Rattle.trace_page.proofs.page.page_with.Goals as goal

pub returns : goal.returns
returns c =
    let run = traced c.args.run in
    let d = view c.in_ok-data.data in
    let is_data = c.in_ok-data.ensures in
    let compact = c.in_ok-text.ensures.text (data_has_none run d is_data) in
    let inside = c.deref-2.ensures ∙ c.in_ok-inside.ensures ∙ ap escaped (c.deref.ensures ∙ compact) in
    IfOk-weaker c.joined.result
    (λ text. string_bytes text ≡ BEFORE.now ++ (c.deref-2.result.now ++ AFTER.now))
    (λ text. IsPage run (string_bytes text))
    (λ text is. record {
      contents = d;
      contains = is_data;
      are = is ∙ ap (λ (t : List ℕ). BEFORE.now ++ (t ++ AFTER.now)) inside;
    })
    c.joined.ensures
