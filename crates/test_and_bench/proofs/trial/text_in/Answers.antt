use Rattle.std.proofs.Common.{Global, List, ℕ, Ok, Vec, ap, subst, sym}
use Rattle.std.proofs.lemmas.Bool.{false≢true}
use Rattle.std.proofs.lemmas.Str.{IsUtf8-string_bytes}
use Rattle.std.specs.Prelude.{IsOk}
use Rattle.files.specs.Held.{IsGiven}
use Rattle.test_and_bench.proofs.Limited.{not_text}
use Rattle.test_and_bench.proofs.trial.text_in.Goals as goal

pub returns-in-Ok-clause-text : goal.returns-in-Ok-clause-text
returns-in-Ok-clause-text g c =
    let held = g.F.FileSource.held c.args.files.now in
    record {
      given = subst (λ (bs : List ℕ). IsGiven (held c.args.name.now) (Ok bs))
          (sym (ap (λ (v : Vec ℕ Global). v.items) c.in-Ok.ensures.ok)) c.in_ok-bytes.ensures.given;
      is_text = IsUtf8-string_bytes c.in-Ok.text;
    }

pub returns-clause-why : goal.returns-clause-why
returns-clause-why g c =
    not_text (g.F.FileSource.held c.args.files.now) c.args.name.now c.not_utf8.result c.not_utf8.ensures
    (record {
      bytes = c.in_ok-bytes.bytes.items;
      given = c.in_ok-bytes.ensures.given;
      no_text = λ is_text. false≢true (subst IsOk c.in-Err.is (c.from_utf8.ensures.succeeds is_text));
    })
