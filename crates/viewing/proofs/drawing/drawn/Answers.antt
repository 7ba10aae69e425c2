use Rattle.std.proofs.Common.{◌≡◌, ℕ, List, string_bytes, subst}
use Rattle.std.proofs.lemmas.Result.{IfOk-weaker}
use Rattle.command_line.specs.Requests.{Settings, settings}
use Rattle.trace_page.specs.Pages.{IsPage}
use Rattle.viewing.specs.Views.{ShowsPage, trace_name, traced_of}
use Rattle.viewing.specs.declared.traces.JudgedTrace.{JudgedTrace}
use Rattle.viewing.specs.declared.drawing.Form.TheVariants.{Html, Picture, Spans}
use Rattle.viewing.proofs.Viewing.{anything, drawn_so}
use Rattle.viewing.proofs.drawing.drawn.Goals as goal

-- with the name of the trace's file
page_shown : (name : List ℕ) (s : Settings) (text : List ℕ) (t : JudgedTrace) (file labels bytes : List ℕ) → file ≡ trace_name s
    → IsPage (traced_of t name text file labels) bytes → ShowsPage name s text t bytes
page_shown name s text t file labels bytes same page = record {
  labels = labels;
  page = subst (λ (f : List ℕ). IsPage (traced_of t name text f labels) bytes) same page;
}

pub returns-in-Picture : goal.returns-in-Picture
returns-in-Picture c =
    drawn_so c.args.form Picture c.in-Picture.is (settings c.args.question.settings) c.args.question.text.now c.args.judged.now
    c.draw.result (anything c.draw.result)

pub returns-in-Spans : goal.returns-in-Spans
returns-in-Spans c =
    drawn_so c.args.form Spans c.in-Spans.is (settings c.args.question.settings) c.args.question.text.now c.args.judged.now
    c.spans.result (anything c.spans.result)

pub returns : goal.returns
returns c =
    let s = settings c.args.question.settings in
    let name = c.in-Html.program.now in
    let text = c.args.question.text.now in
    let t = c.args.judged.now in
    drawn_so c.args.form (Html c.in-Html.program) c.in-Html.is s text t c.page_of.result
    (IfOk-weaker c.page_of.result _ (λ page. ShowsPage name s text t (string_bytes page))
    (λ page is. page_shown name s text t _ _ (string_bytes page) c.trace_name-in-Html.ensures is) c.page_of.ensures)
