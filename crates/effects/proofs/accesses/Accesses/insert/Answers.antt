use Rattle.std.proofs.Common.{◌≡◌}
use Rattle.std.proofs.lemmas.Result.{on_ok_weaker}
use Rattle.effects.proofs.UseLemmas.{written, are_read}
use Rattle.effects.proofs.accesses.Accesses.insert.Goals as goal

pub returns-then-write : goal.returns-then-write
returns-then-write c =
    let x = c.args in
    on_ok_weaker c.insert.result (written x.self.now c.insert.new.self x.section.number x.write (λ l. l ≡ x.label) c.if-write.true) c.insert.ensures

pub returns-else-write : goal.returns-else-write
returns-else-write c =
    let x = c.args in
    on_ok_weaker c.insert-else-write.result
    (are_read x.self.now c.insert-else-write.new.self x.section.number x.write (λ l. l ≡ x.label) c.if-write.false)
    c.insert-else-write.ensures
