use Rattle.std.proofs.Common.{◌∙◌, ap}
use Rattle.std.specs.Str.{chars}
use Rattle.std.specs.String.{string_bytes}
use Rattle.std.proofs.Math.Utf8.{encodes}
use Rattle.std.proofs.lemmas.Str.{IsUtf8-string_bytes}
use Rattle.layout.proofs.GoingLemmas.{laid_chars}
use Rattle.layout.proofs.RelaidLemmas.{keeps_all, laid_stays, same_tokens}
use Rattle.layout.proofs.text.laid_out.Goals as goal

pub returns : goal.returns
returns c =
    let text = chars c.args.text.now in
    let bytes = string_bytes c.in_ok-text.text in
    let is = laid_chars text c.deref-2.result.now c.in_ok-laid.laid.items bytes
    (c.deref-2.ensures.value ∙ c.in_ok-characters.ensures.value) c.in_ok-laid.ensures (IsUtf8-string_bytes c.in_ok-text.text)
    (c.in_ok-text.ensures ∙ ap encodes c.deref-4.ensures.value)
    in
    record {
      laid = is;
      kept = keeps_all text (chars bytes) c.requires.1.pieces c.requires.1.cut is;
      tokens = same_tokens text (chars bytes) is;
      stays = laid_stays text (chars bytes) c.requires.1.pieces c.requires.1.cut is;
    }
