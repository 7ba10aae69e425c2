use Rattle.std.proofs.Common.{◌≡◌, ◌∙◌, List, Option, Some, sym, ap, length, reverse, arith}
use Rattle.std.specs.Prelude.{ℕ, nat_eq, if◌then◌else◌}
use Rattle.std.specs.Option.{option_flatten}
use Rattle.std.specs.Cmp.Lexicographic.{pointwise}
use Rattle.shared_lemmas.proofs.Lists.{same_elements}
use Rattle.indexmap.specs.IndexMap.{get}
use Rattle.types.specs.Translation.{is_path}
use Rattle.gather.specs.Unused.{first_of, left_in, said_of}
use Rattle.gather.proofs.Firsts.{chained_with, firsts_with, in_front, said_by}
use Rattle.gather.proofs.table.put_first.Goals as goal

pub returns-clause-left : goal.returns-clause-left
returns-clause-left c =
    ap left_in
    (in_front c.args.places.now.items c.push.new.self.items (record { task = c.args.task; next = c.flatten-next.result })
    c.in_ok-push.ensures.items)

pub returns-clause-chained : goal.returns-clause-chained
returns-clause-chained c =
    let xs = c.args.places.now.items in
    let key = c.in_ok-path.path in
    let next : c.flatten-next.result ≡ first_of c.args.task.path.turns.items (reverse xs) =
    c.flatten-next.ensures
    ∙ ap option_flatten c.in_ok-insert.ensures.old
    ∙ c.requires.finds key
    ∙ ap (λ (p : List ℕ). first_of p (reverse xs)) (same_elements c.args.task.path.turns.items key.turns.items c.in_ok-path.ensures.cases.0) in
    chained_with xs c.push.new.self.items (record { task = c.args.task; next = c.flatten-next.result })
    c.in_ok-push.ensures.items next c.requires.chained

pub returns-clause-finds : goal.returns-clause-finds
returns-clause-finds c = λ p.
    let xs = c.args.places.now.items in
    let old = c.args.first.now in
    let key = c.in_ok-path.path in
    let ok = c.args.places.now.ok in
    let many : c.len.result ≡ length xs = omega (arith, ok, c.len.ensures) in
    ap option_flatten (c.in_ok-insert.ensures.updates.0 p)
    ∙ said_by (is_path key p) (Some c.len.result) (get is_path old p)
    ∙ ap (λ (n : ℕ). if is_path key p then Some n else said_of old p) many
    ∙ ap (λ (o : Option ℕ). if is_path key p then Some (length xs) else o) (c.requires.finds p)
    ∙ ap (λ (k : List ℕ). if pointwise nat_eq k p.turns.items then Some (length xs) else first_of p.turns.items (reverse xs))
    (same_elements c.args.task.path.turns.items key.turns.items c.in_ok-path.ensures.cases.0)
    ∙ sym (firsts_with xs c.push.new.self.items (record { task = c.args.task; next = c.flatten-next.result })
    c.in_ok-push.ensures.items p.turns.items)
