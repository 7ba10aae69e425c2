use Rattle.std.proofs.Common.{◌<◌, List, ap, ap₂, arith, map, ℕ, ◌∙◌}
use Rattle.shared_lemmas.proofs.Lists.{same_elements}
use Rattle.trace_numbers.specs.Faults.{Gathered}
use Rattle.trace_numbers.specs.Tables.{gathered}
use Rattle.trace_numbers.proofs.Gathering.{one_more_found}
use Rattle.trace_numbers.proofs.faults.Finishes.leave.Goals as goal

pub returns : goal.returns
returns c =
    let path = c.args.path.now in
    let n = c.args.faults in
    let some : 0 < n = omega arith in
    λ f shows. record {
      last = shows.last;
      found = ap (map gathered) c.in_ok-push.ensures.items
          ∙ one_more_found c.args.self.now f path.turns.items _ n shows some
          (ap₂ (λ (owner : List ℕ) (number : ℕ). (let g : Gathered = record { owner = owner; number = number; faults = n } in g))
          (same_elements path.turns.items c.in_ok-owner.owner.turns.items c.in_ok-owner.ensures.cases.0)
          (c.last-number.ensures ∙ shows.last path));
    }
