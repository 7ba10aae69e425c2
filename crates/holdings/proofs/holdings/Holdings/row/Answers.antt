use Rattle.std.proofs.Common.{◌≡◌, ◌∙◌, ap, sym, length, replicate, pos}
use Rattle.std.proofs.lemmas.List.{length-replicate}
use Rattle.blocks.specs.Held.{numbers}
use Rattle.holdings.specs.Holdings.{held}
use Rattle.holdings.proofs.RowLemmas.{row-copied, written_back}
use Rattle.holdings.proofs.holdings.Holdings.row.Goals as goal

pub returns : goal.returns
returns c =
    let n = c.args.length in
    let zeros = c.deref_mut.result.now in
    let new = c.copy_to.new.row in
    let all_zero : c.in_ok-row.row.items ≡ replicate n (pos 0) = c.in_ok-row.ensures.items_if_clones_equal (λ y e. e) in
    let zeros_is : zeros ≡ replicate n (pos 0) = c.deref_mut.ensures.value ∙ all_zero in
    let long : length (replicate n (pos 0)) ≡ n = length-replicate n (pos 0) in
    let zeros_long : length zeros ≡ n = ap length zeros_is ∙ long in
    let new_long : length new ≡ n = c.copy_to.auto.row ∙ zeros_long in
    let len : c.in_ok-row.row.len ≡ n = c.in_ok-row.ensures.len in
    written_back c.in_ok-row.row.len c.in_ok-row.row.items new (ap length all_zero ∙ long ∙ sym len) (new_long ∙ sym len)
    ∙ row-copied (numbers (held c.args.self.now)) c.args.array.number n zeros new zeros_is zeros_long new_long c.copy_to.ensures
