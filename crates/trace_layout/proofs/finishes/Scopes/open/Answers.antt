use Rattle.std.proofs.Common.{◌≡◌, ℕ, ◌+◌, Option, ap, ◌∙◌, refl, arith}
use Rattle.std.specs.Prelude.{unwrap_or}
use Rattle.std.specs.HashMap.{get}
use Rattle.shared_lemmas.proofs.Lists.{same_elements}
use Rattle.shared_lemmas.proofs.Results.{ok_then}
use Rattle.types.specs.Translation.{is_path}
use Rattle.trace_layout.proofs.Opened.{scopes_opened}
use Rattle.trace_layout.proofs.finishes.Scopes.open.Goals as goal

pub returns : goal.returns
returns c =
    let h = c.args.self.now in
    let path = c.args.path.now in
    let key = c.in_ok-clone.field-0 in
    let owner = c.in_ok-clone-2.field-0 in
    let before : c.unwrap_or-before.result ≡ unwrap_or (get is_path h.opened path) 0 =
    c.unwrap_or-before.ensures ∙ ap (λ (o : Option ℕ). unwrap_or o 0) (c.copied.ensures ∙ c.get.ensures.value) in
    let number : c.in-Some.count ≡ c.unwrap_or-before.result + 1 = omega (arith, c.in-Some.ensures) in
    ok_then c.begin.result c.begin.ensures (λ begun es opens was.
    scopes_opened es c.args.number path key (record { owner = owner; number = c.in-Some.count }) h _ c.begin.new.self opens
    (same_elements path.turns.items owner.turns.items c.in_ok-clone-2.ensures.cases.0)
    (same_elements path.turns.items key.turns.items c.in_ok-clone.ensures.cases.0)
    (number ∙ ap (λ (n : ℕ). n + 1) before)
    c.in_ok-insert.ensures.updates.0 refl refl begun was)
