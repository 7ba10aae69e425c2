use Rattle.std.proofs.Common.{ℕ, ◌∙◌, length, subst}
use Rattle.witness.specs.Known.{way_at}
use Rattle.witness.specs.Least.{AtMost}
use Rattle.witness.proofs.Rounds.{put_same}
use Rattle.witness.proofs.settling.put_if_shorter.Goals as goal

pub returns-then-has_within : goal.returns-then-has_within
returns-then-has_within c =
    put_same c.args.entry c.args.way.items c.args.known.now
    (subst (λ (n : ℕ). AtMost length (way_at c.args.known.now c.args.entry) n) (c.len-steps.ensures ∙ c.args.way.ok.0)
    (c.has_within.ensures.0 c.if-has_within.true))
