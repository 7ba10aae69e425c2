use Rattle.std.proofs.Common.{◌≡◌, ℕ, List, ◌++◌, ◌∙◌, append_assoc, string_bytes}
use Rattle.shared_lemmas.proofs.Results.{ok_then}
use Rattle.cost.proofs.text.push_grain.Goals as goal

-- three parts, each added behind the earlier ones
in_turn : (old a b c first second last : List ℕ) → a ≡ old ++ first → b ≡ a ++ second → c ≡ b ++ last
    → c ≡ old ++ (first ++ (second ++ last))
in_turn old a b c first second last e f g = g ∙ rw f (rw e (simp append_assoc))

pub returns : goal.returns
returns c =
    ok_then c.push_advice.result c.push_advice.ensures
    (λ more. in_turn (string_bytes c.args.text.now) _ _ _ _ _ _ c.in_ok-push_steps.ensures c.in_ok-push_small.ensures more)
