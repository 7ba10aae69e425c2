use Rattle.std.proofs.Common.{◌≡◌, ◌<◌, ◌≤◌, ◌+◌, length, set, arith, refl, ap, sym, ◌∙◌}
use Rattle.std.specs.Prelude.{Some, cond}
use Rattle.std.specs.HashMap.{get}
use Rattle.std.proofs.lemmas.Option.{slice_get_within}
use Rattle.shared_lemmas.proofs.Lists.{same_elements}
use Rattle.types.specs.Translation.{is_path}
use Rattle.trace_layout.specs.Hands.{IsSpellSoFar}
use Rattle.trace_layout.specs.Spells.{Hold}
use Rattle.trace_layout.specs.declared.spells.SpellEnd.TheVariants.{Going}
use Rattle.trace_layout.specs.declared.spells.Spell.{Spell}
use Rattle.trace_layout.proofs.Handled.{hands_began}
use Rattle.trace_layout.proofs.WhichEvent.{taking_at}
use Rattle.trace_layout.proofs.hands.Hands.begin.Goals as goal

pub returns : goal.returns
returns c =
    let h = c.leave.new.self in
    let path = c.args.path.now.turns.items in
    let key = c.in_ok-clone-2.field-0 in
    let s : Spell = record {
      path = c.in_ok-clone.field-0;
      worker = c.args.worker;
      beginning = c.args.beginning;
      ending = Going;
      first = c.args.number;
      last = h.last;
      own = 1;
    } in
    let path_is : s.path.turns.items ≡ path = same_elements path s.path.turns.items c.in_ok-clone.ensures.cases.0 in
    let key_is : key.turns.items ≡ path = same_elements path key.turns.items c.in_ok-clone-2.ensures.cases.0 in
    let place_is : c.len-place.result ≡ length h.spells.items = c.len-place.ensures ∙ h.spells.ok.0 in
    λ es taking was.
    let y : Hold = record { worker = c.args.worker; path = path } in
    let at = taking_at es c.args.number y taking in
    let empty = c.leave.ensures es path taking was in
    let within : c.args.number < length es = slice_get_within es c.args.number at.event at.at in
    let last = empty.hands.last in
    let le : c.args.number ≤ h.last = omega arith in
    let is : IsSpellSoFar es (c.args.number + 1) h.last s = record {
      begins = taking ∙ ap (λ p. Some (record { worker = c.args.worker; path = p })) (sym path_is);
      ends = refl;
      forward = le;
      before = omega arith;
      within = omega arith;
    } in
    let few = c.number.ensures.few in
    let same = c.number.ensures.same in
    let hands = empty.hands.hands in
    hands_began es c.args.number at.event h _ s key at.at at.is (omega arith) refl (path_is ∙ sym key_is) is refl
    c.in_ok-push.ensures.items
    (λ other. c.in_ok-insert.ensures.updates.0 other
    ∙ ap (λ p. cond (is_path key other) (Some p) (get is_path h.tasks other)) place_is)
    (ap (λ w. set h.workers w (Some c.len-place.result)) same ∙ ap (λ p. set h.workers c.args.worker (Some p)) place_is)
    refl empty
