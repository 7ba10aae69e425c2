use Rattle.std.proofs.Common.{string_bytes}
use Rattle.std.proofs.lemmas.Result.{IfOk-weaker}
use Rattle.viewing.proofs.tables.numbers_by_line.Goals as goal

pub returns : goal.returns
returns c =
    IfOk-weaker c.joined.result _ _ (λ told is. record {
      before = string_bytes c.in_ok-numbers.numbers;
      is_text = c.in_ok-numbers.ensures;
      behind = c.as_str.result.now;
      told_is = is;
    }) c.joined.ensures
