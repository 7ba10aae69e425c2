use Rattle.std.proofs.Common.{ℕ, ap, sym, ◌∙◌, ◌+◌}
use Rattle.std.proofs.lemmas.List.{append-nil}
use Rattle.event_worlds.specs.Gathered.{faults_of}
use Rattle.event_worlds.proofs.Gathers.{given_back}
use Rattle.event_worlds.proofs.scope.WorldScope.give_back.Goals as goal

pub returns : goal.returns
returns c = λ book h. record {
  issued = h.issued;
  returned = ap (λ (n : ℕ). n + c.args.weight) h.returned;
  passed = h.passed;
  results = given_back c.args.self.now.results c.args.weight book h.results;
  faults = h.faults ∙ ap faults_of (sym (append-nil book.results));
}
