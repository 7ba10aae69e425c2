use Rattle.std.proofs.Common.{ℕ, List, ◌++◌, ap, length, map, refl, arith}
use Rattle.std.specs.Prelude.{Option, unwrap_or}
use Rattle.std.specs.Map.{lookup}
use Rattle.std.proofs.lemmas.Option.{slice_get_read}
use Rattle.types.specs.Translation.{is_path}
use Rattle.trace_page.specs.Births.{birth, births}
use Rattle.trace_page.specs.declared.births.Birth.{Birth}
use Rattle.trace_page.proofs.Spawned.{births_all}
use Rattle.trace_page.proofs.births.births_of.Goals as goal

pub loop-number-init : goal.loop-number-init
loop-number-init c = record {
  all = ap (λ (bs : List Birth). map birth bs ++ births c.args.events.now) c.new-all.ensures.items;
  spawned = λ path. ap (λ (o : Option ℕ). unwrap_or o 0) (ap (lookup (is_path path)) c.new-spawned.ensures.empty);
}

pub loop-number-preserved : goal.loop-number-preserved
loop-number-preserved c =
    let is = c.index-events-number.is in
    let at = slice_get_read c.args.events.now (length c.args.events.now) c.loop-number.number _ refl (omega arith) is in
    c.in_ok-happens.ensures c.args.events.now at c.loop-number.invariant

pub returns : goal.returns
returns c = births_all c.args.events.now c.loop-number.number c.loop-number.births (omega arith) c.loop-number.invariant
