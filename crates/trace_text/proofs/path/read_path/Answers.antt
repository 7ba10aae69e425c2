use Rattle.std.proofs.Common.{◌≡◌, ◌≢◌, ◌<◌, ◌≤◌, ◌^◌, ℕ, List, Option, Bor, length, arith, rules, subst, codes, ap, sym, ◌∙◌, Ok}
use Rattle.std.specs.Prelude.{option_map}
use Rattle.trace_text.proofs.Cuts.{root_is}
use Rattle.trace_text.proofs.PathReading.{ReadSoFar, next_turn, read_more, read_start}
use Rattle.trace_text.proofs.path.read_path.Goals as goal

abbrev shown : Option (Bor (List ℕ)) → Option (List ℕ)
shown o = option_map (λ b. b.now) o

abbrev so_far : (turns text : List ℕ) → Option (Bor (List ℕ)) → Type 0
so_far turns text o = ReadSoFar turns (shown o) text

pub returns-then-ne-clause-spelled : goal.returns-then-ne-clause-spelled
returns-then-ne-clause-spelled c = λ p h same.
    let r = root_is c.cut_at_dot.result.0.now (shown c.cut_at_dot.result.1) c.args.text.now p same c.cut_at_dot.ensures in
    let other : c.cut_at_dot.result.0.now ≢ codes "0" = search rules in
    absurd (other r.0)

pub turns-init : goal.turns-init
turns-init c =
    rw c.new-turns.ensures.items
    (read_start c.cut_at_dot.result.0.now (shown c.cut_at_dot.result.1) c.args.text.now c.cut_at_dot.ensures)

pub returns-in_default-parse-clause-spelled : goal.returns-in_default-parse-clause-spelled
returns-in_default-parse-clause-spelled c = λ p h same.
    let n = next_turn c.turns.turns.items c.in-Some.more.now c.cut_at_dot-in-Some.result.0.now c.args.text.now
    (shown c.cut_at_dot-in-Some.result.1) c.parse.result (subst (so_far c.turns.turns.items c.args.text.now) c.in-Some.is c.turns.invariant) c.cut_at_dot-in-Some.ensures
    c.parse.ensures.value.0 p h same in
    let parsed = n.parsed in
    let failed = c.in_default-parse.is in
    cc

pub returns-in_default-new-clause-spelled : goal.returns-in_default-new-clause-spelled
returns-in_default-new-clause-spelled c = λ p h same.
    let n = next_turn c.turns.turns.items c.in-Some.more.now c.cut_at_dot-in-Some.result.0.now c.args.text.now
    (shown c.cut_at_dot-in-Some.result.1) c.parse.result (subst (so_far c.turns.turns.items c.args.text.now) c.in-Some.is c.turns.invariant) c.cut_at_dot-in-Some.ensures
    c.parse.ensures.value.0 p h same in
    let parsed = n.parsed in
    let read = c.in-Ok.is in
    let one : n.turn ≡ c.in-Ok.number = cc in
    absurd (omega (arith, n.some, one, c.in_default-new.ensures))

pub turns-preserved : goal.turns-preserved
turns-preserved c =
    let value = c.in-Ok.ensures.value.0 in
    let turn = c.in-Some-new.turn in
    let same : turn ≡ c.in-Ok.number = c.in-Some-new.ensures.1 in
    let low : 1 ≤ turn = omega (arith, same, c.in-Some-new.ensures.0) in
    let high : turn < 2 ^ 32 = omega (arith, same, value.0.1, value.1) in
    let few : length c.turns.turns.items < 1000 = omega (arith, c.len.ensures, c.if-len.false) in
    rw c.in_ok-push.ensures.items
    (read_more c.turns.turns.items c.in-Some.more.now c.cut_at_dot-in-Some.result.0.now c.args.text.now
    (shown c.cut_at_dot-in-Some.result.1) c.parse.result turn (subst (so_far c.turns.turns.items c.args.text.now) c.in-Some.is c.turns.invariant)
    c.cut_at_dot-in-Some.ensures c.parse.ensures.value.0 (c.in-Ok.is ∙ ap Ok (sym same)) (low, high) few)
