use Rattle.std.proofs.Common.{ℕ, List, ◌≡◌, ◌∙◌, refl, subst, sym}
use Rattle.std.specs.Str.{chars}
use Rattle.std.specs.String.{string_bytes}
use Rattle.std.proofs.lemmas.Result.{IfOk-weaker}
use Rattle.std.proofs.lemmas.Slice.Eq.{bytes_eq-Decides}
use Rattle.std.proofs.lemmas.Str.{IsUtf8-string_bytes}
use Rattle.syntax_tree.specs.Tree.{program as tree_of}
use Rattle.layout.specs.Kept.{IsLaidOut}
use Rattle.failures.specs.declared.failure.Failure.TheVariants.{NotLaidOut}
use Rattle.commands.proofs.Answering.{differ, needs_layout, other_failure}
use Rattle.json_answers.specs.Objects.{ObjectOfCheckFormat}
use Rattle.json_answers.proofs.Written.{object_told}
use Rattle.json_answers.proofs.telling.format_told.Goals as goal

pub returns-then-eq-clause-object : goal.returns-then-eq-clause-object
returns-then-eq-clause-object c s held =
    let text = c.args.text.now in
    let equal = sym c.eq.ensures ∙ c.if-eq.true in
    let same : string_bytes c.in-Ok.laid ≡ text =
    sym c.as_str.ensures.value ∙ (bytes_eq-Decides c.as_str.result.now text).0 equal in
    object_told (ObjectOfCheckFormat text) c.told_or_no_memory.result c.formatted_object.result
    c.told_or_no_memory.ensures.line c.told_or_no_memory.ensures.status
    (IfOk-weaker c.formatted_object.result _ _ (λ x is. record {
      program = tree_of c.in_ok-_program._program;
      spelled = c.in_ok-_program.ensures.spelled;
      laid = subst (λ (t : List ℕ). IsLaidOut (chars text) (chars t)) same c.in-Ok.ensures.laid;
      told_is = is;
      status_is = refl;
    }) c.formatted_object.ensures.text)

pub returns-clause-why : goal.returns-clause-why
returns-clause-why c s held =
    let text = c.args.text.now in
    let laid = string_bytes c.in-Ok.laid in
    record {
      why = (
        refl,
        needs_layout text laid (tree_of c.in_ok-_program._program) c.in_ok-_program.ensures.spelled c.utf8.text
            (IsUtf8-string_bytes c.in-Ok.laid)
            (differ c.eq.result c.as_str.result.now laid text c.as_str.ensures.value c.eq.ensures c.if-eq.false)
            c.in-Ok.ensures.laid,
      );
      early = other_failure NotLaidOut tt;
    }
