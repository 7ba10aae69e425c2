use Rattle.std.proofs.Common.{List, ℕ, Ok, subst, sym}
use Rattle.files.specs.Held.{IsGiven}
use Rattle.viewing.proofs.Viewing.{no_text_no_lines}
use Rattle.viewing.proofs.traces.trace_in.Goals as goal

pub returns-in_default-clause-why : goal.returns-in_default-clause-why
returns-in_default-clause-why g c =
    let held = g.F.FileSource.held c.args.files.now in
    no_text_no_lines held c.args.name.now c.not_utf8.result c.not_utf8.ensures
    (record {
      bytes = c.deref.result.now;
      given = subst (λ (bs : List ℕ). IsGiven (held c.args.name.now) (Ok bs)) (sym c.deref.ensures.value) c.in_ok-bytes.ensures.given;
      no_text = c.in_default.ensures.cases.0;
    })
