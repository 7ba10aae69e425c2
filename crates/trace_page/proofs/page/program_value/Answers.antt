use Rattle.std.proofs.Common.{◌≡◌, ◌∙◌, ◌+◌, List, ap, length, map}
use Rattle.std.proofs.lemmas.Result.{IfOk-weaker}
use Rattle.serde_json.specs.View.{view}
use Rattle.serde_json.specs.declared.value.Value.{Value}
use Rattle.types.specs.Code.{Program}
use Rattle.types.specs.Translation.{array}
use Rattle.types.specs.Typed.{code_of}
use Rattle.types.specs.declared.code.Array.{Array}
use Rattle.types.specs.declared.typed.Typed.{Typed}
use Rattle.trace_page.specs.Costs.{cost_json}
use Rattle.trace_page.specs.Pages.{budget_of, described_json, program_json, traced}
use Rattle.trace_page.specs.Pieces.{list_by}
use Rattle.trace_page.specs.Programs.{array_json}
use Rattle.trace_page.proofs.Parts.{same_described}
use Rattle.trace_page.proofs.page.program_value.Goals as goal

pub returns : goal.returns
returns c =
    let run = traced c.args.run in
    let places = c.args.places.now in
    let typed = c.typed-typed.result.now in
    let arrays = ap (λ (xs : List Array). list_by array_json (map array xs)) c.deref.ensures.value
    ∙ ap (λ (p : Program). list_by array_json p.arrays) (c.code.ensures.code ∙ ap code_of c.typed-typed.ensures.field) in
    let cost = c.in_ok-cost.ensures
    ∙ ap (λ (t : Typed). cost_json (code_of t) (length places + 1) run.input (budget_of run)) c.typed-typed.ensures.field in
    IfOk-weaker c.described.result
    (λ (v : Value). view v ≡ described_json run (list_by array_json (map array c.deref.result.now)) (view c.in_ok-cost.cost) places)
    (λ (v : Value). view v ≡ program_json run places)
    (λ v is. same_described run places (view v) _ (list_by array_json run.code.arrays) _
    (cost_json run.code (length places + 1) run.input (budget_of run)) is arrays cost)
    c.described.ensures
