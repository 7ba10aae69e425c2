use Rattle.std.proofs.Common.{◌≡◌, ◌∙◌, ◌++◌, ◌∷◌, [], ap, length, arith, List}
use Rattle.weights.specs.Ledger.{Returned}
use Rattle.weights.specs.Lines.{StandAmong, said_in}
use Rattle.weights.specs.declared.entries.ReturnedWeight.{ReturnedWeight}
use Rattle.weights.proofs.Lines.{one_more}
use Rattle.weights.proofs.entries.Entries.add.Goals as goal

more : (c : goal.After-push_reserved) → StandAmong c.extend_from_slice.new.self.items c.push_reserved.new.self.items
    × (said_in c.extend_from_slice.new.self.items c.push_reserved.new.self.items
    ≡ said_in c.self.inside.turns.items c.self.inside.lines.items
    ++ record { path = c.args.path.now.turns.items; weight = c.args.weight } ∷ [])
more c =
    let turns = c.self.inside.turns in let path = c.args.path.now.turns in
    let here = turns.ok in let there = path.ok in
    let is_at : c.len-at.result ≡ length turns.items = omega (arith, here, c.len-at.ensures) in
    let is_long : c.len-length.result ≡ length path.items = omega (arith, there, c.len-length.ensures) in
    one_more turns.items path.items c.extend_from_slice.new.self.items c.self.inside.lines.items
    c.push_reserved.new.self.items c.len-at.result c.len-length.result c.args.weight c.self.invariant is_at is_long
    (c.in-Ok.ensures.items ∙ ap (λ (p : List _). turns.items ++ p) c.deref.ensures.value)
    (c.push_reserved.ensures.items
    ∙ ap (λ (ls : List ReturnedWeight). ls ++ record { at = c.len-at.result; length = c.len-length.result; weight = c.args.weight } ∷ [])
    c.reserve.ensures.items)

pub invariant_of-self-in-Ok : goal.invariant_of-self-in-Ok
invariant_of-self-in-Ok c = (more c).0

pub returns-in-Ok-clause-added : goal.returns-in-Ok-clause-added
returns-in-Ok-clause-added c =
    (more c).1
    ∙ ap (λ (rs : List Returned). rs ++ record { path = c.args.path.now.turns.items; weight = c.args.weight } ∷ []) c.self.view_is
