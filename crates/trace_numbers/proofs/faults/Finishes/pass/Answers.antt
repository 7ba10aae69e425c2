use Rattle.std.proofs.Common.{ap, rules, ◌∙◌}
use Rattle.std.specs.Prelude.{cond, nat_eq, Some}
use Rattle.std.specs.Cmp.Lexicographic.{pointwise}
use Rattle.std.specs.HashMap.{get}
use Rattle.types.specs.Translation.{is_path}
use Rattle.trace_numbers.specs.Tables.{known_last, last_at}
use Rattle.trace_numbers.proofs.Gathering.{last_put, last_put_at, number_there}
use Rattle.trace_numbers.proofs.faults.Finishes.pass.Goals as goal

pub returns : goal.returns
returns c =
    let key = c.in_ok-clone.field-0 in let scope = c.args.scope.now in
    λ f shows. record {
      last = λ other.
          last_put_at key.turns.items scope.owner.turns.items other.turns.items scope.number
          (get is_path c.args.self.now.last other) (get is_path c.insert.new.self other) c.in_ok-clone.ensures.cases.0
          (c.in_ok-insert.ensures.updates.0 other
          ∙ ap (λ table. cond (is_path key other) (Some scope.number) (get is_path table other)) c.get_mut.follows.holds-at-none)
          ∙ number_there (pointwise nat_eq scope.owner.turns.items other.turns.items) scope.number
          (last_at c.args.self.now.last other) (f.last other.turns.items) (shows.last other);
      found = shows.found;
    }

pub returns-in-Some : goal.returns-in-Some
returns-in-Some c =
    let scope = c.args.scope.now in
    λ f shows. record {
      last = λ other.
          ap known_last (((c.get_mut.follows.holds scope.number).3 (search rules)).0 other)
          ∙ last_put (is_path scope.owner other) scope.number (get is_path c.args.self.now.last other)
          ∙ number_there (is_path scope.owner other) scope.number (last_at c.args.self.now.last other) (f.last other.turns.items)
          (shows.last other);
      found = shows.found;
    }
