use Rattle.std.proofs.Common.{◌≡◌, ℕ, ◌+◌, [], ◌∷◌, ◌++◌, Option, ap, ◌∙◌, arith, sym}
use Rattle.std.specs.Prelude.{unwrap_or}
use Rattle.std.specs.HashMap.{get}
use Rattle.shared_lemmas.proofs.Lists.{same_elements}
use Rattle.types.specs.Translation.{is_path}
use Rattle.trace_page.proofs.Spawned.{births_more}
use Rattle.trace_page.proofs.births.Births.spawn.Goals as goal

pub returns : goal.returns
returns c =
    let h = c.args.self.now in
    let path = c.args.path.now in
    let key = c.in_ok-clone.field-0 in
    let before : c.unwrap_or-before.result ≡ unwrap_or (get is_path h.spawned path) 0 =
    c.unwrap_or-before.ensures ∙ ap (λ (o : Option ℕ). unwrap_or o 0) (c.copied.ensures ∙ c.get.ensures.value) in
    let count : c.in-Some.count ≡ c.unwrap_or-before.result + 1 = omega (arith, c.in-Some.ensures) in
    λ es at was. births_more es c.args.number path key c.in_ok-child.child c.in-Some.count h _ at
    (record {
      key_is = same_elements path.turns.items key.turns.items c.in_ok-clone.ensures.cases.0;
      child_is = c.in_ok-child.ensures ∙ ap (λ (n : ℕ). path.turns.items ++ n ∷ []) (c.after.ensures ∙ sym count);
      counts = count ∙ ap (λ (n : ℕ). n + 1) before;
      puts = c.in_ok-insert.ensures.updates.0;
      adds = c.in_ok-push.ensures.items;
    }) was
