use Rattle.std.proofs.Common.{List, ℕ, ap, map, subst, sym, codes, ◌∷◌, ◌∙◌, string_bytes}
use Rattle.command_words.specs.Orders.{AsksToTest}
use Rattle.test_and_bench.proofs.own_options.limits_of.Goals as goal

pub returns : goal.returns
returns c a asks =
    let same = ap (map string_bytes) c.deref.ensures.value ∙ c.in_ok-words.ensures in
    c.limits_in.ensures a (subst (λ (ws : List (List ℕ)). AsksToTest (codes "test" ∷ ws) a) (sym same) asks)
