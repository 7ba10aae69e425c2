use Rattle.std.proofs.Common.{ap, rules, ◌∙◌}
use Rattle.std.specs.Prelude.{cond, Some}
use Rattle.std.specs.HashMap.{get}
use Rattle.types.specs.Translation.{is_path}
use Rattle.trace_numbers.proofs.Holders.{held_at}
use Rattle.trace_numbers.proofs.hands.Hands.take.Goals as goal

pub returns : goal.returns
returns c =
    let key = c.in_ok-clone.field-0 in
    λ h shows. record {
      holder = λ other. held_at key.turns.items c.args.path.now.turns.items other.turns.items c.args.worker
          (h.holder other.turns.items) (get is_path c.insert.new.self other) c.in_ok-clone.ensures.cases.0
          (c.in_ok-insert.ensures.updates.0 other
          ∙ ap (λ tasks. cond (is_path key other) (Some c.args.worker) (get is_path tasks other)) c.get_mut.follows.holds-at-none
          ∙ ap (λ o. cond (is_path key other) (Some c.args.worker) o) (shows.holder other));
      did = shows.did;
    }

pub returns-in-Some : goal.returns-in-Some
returns-in-Some c = λ h shows. record {
  holder = λ other.
      ((c.get_mut.follows.holds c.args.worker).3 (search rules)).0 other
      ∙ ap (λ o. cond (is_path c.args.path.now other) (Some c.args.worker) o) (shows.holder other);
  did = shows.did;
}
