use Rattle.std.proofs.Common.{◌≡◌, ◌-◌, ◌<◌, ◌^◌, length, ap, ◌∙◌, arith, w64}
use Rattle.std.proofs.lemmas.Int.{to_z_pos}
use Rattle.std.proofs.lemmas.List.{length-map}
use Rattle.std.specs.Prelude.{ℤ, pos, map}
use Rattle.types.specs.Run.{On, State, assign}
use Rattle.types.specs.Translation.{fault}
use Rattle.statement_steps.specs.Standing.{state_by}
use Rattle.statement_steps.proofs.thread.Thread.catch_faults.Goals as goal

pub returns-clause-state : goal.returns-clause-state
returns-clause-state g c =
    let t = c.args.self.now in
    let st = state_by g.S.Memory.contents t in
    let x = c.args.faults.number in
    let before = map fault c.args.before.items in
    let v = t.faults in
    let caught_as : ℤ → State (Unit {0}) = λ z. record (assign x z st) { flow = On; faults = before } in
    let few : length v.items < 2 ^ 63 = omega (arith, v.ok.0, v.ok.1, v.small) in
    let number : c.saturating_sub-number.result ≡ length st.faults - length before =
    omega (
      arith,
      c.saturating_sub-number.ensures,
      c.len.ensures,
      c.len-2.ensures,
      v.ok.0,
      c.args.before.ok.0,
      length-map v.items fault,
      length-map c.args.before.items fault,
    ) in
    let small : c.saturating_sub-number.result < 2 ^ 63 = omega (arith, number, few, length-map v.items fault) in
    ap (λ env. record st { flow = On; environment = env; faults = before }) c.in_ok-assign.ensures
    ∙ ap caught_as (to_z_pos w64 c.saturating_sub-number.result small ∙ ap pos number)
