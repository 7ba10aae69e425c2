use Rattle.std.proofs.Common.{rules}
use Rattle.std.proofs.lemmas.List.{append-nil}
use Rattle.std.proofs.KnownBytes.{Appends-trans}
use Rattle.printing.proofs.Appending.{fails, begins_longer, then_begins}
use Rattle.printing.proofs.OutcomeText.{ending_text-map}
use Rattle.printing.proofs.emit.emit.Goals as goal

pub returns-in_err-emit_lines-in-Ended : goal.returns-in_err-emit_lines-in-Ended
returns-in_err-emit_lines-in-Ended g c =
    let failed = rw c.deref.ensures.value at c.in_err-emit_lines-in-Ended.ensures in
    rw (c.in-Ended.is, ending_text-map) (fails _ (search rules) (begins_longer _ _ _ _ (begins_longer _ _ _ _ failed)))

pub returns-in_err-emit_faults-in-Ended : goal.returns-in_err-emit_faults-in-Ended
returns-in_err-emit_faults-in-Ended g c =
    let lines = rw c.deref.ensures.value at c.in_ok-emit_lines-in-Ended.ensures in
    let failed = rw c.deref-in-Ended.ensures.value at c.in_err-emit_faults-in-Ended.ensures in
    rw (c.in-Ended.is, ending_text-map)
    (fails _ (search rules) (begins_longer _ _ _ _ (then_begins _ _ _ _ _ lines failed)))

pub returns-in_err-emit_arrays-in-Ended : goal.returns-in_err-emit_arrays-in-Ended
returns-in_err-emit_arrays-in-Ended g c =
    let lines = rw c.deref.ensures.value at c.in_ok-emit_lines-in-Ended.ensures in
    let faults = rw c.deref-in-Ended.ensures.value at c.in_ok-emit_faults-in-Ended.ensures in
    let failed = rw c.deref-then-arrays.ensures.value at c.in_err-emit_arrays-in-Ended.ensures in
    rw (c.in-Ended.is, c.if-arrays.true, ending_text-map)
    (fails _ (search rules) (then_begins _ _ _ _ _ (Appends-trans _ _ _ _ _ lines faults) failed))

pub returns-in_ok-emit_arrays-in-Ended : goal.returns-in_ok-emit_arrays-in-Ended
returns-in_ok-emit_arrays-in-Ended g c =
    let lines = rw c.deref.ensures.value at c.in_ok-emit_lines-in-Ended.ensures in
    let faults = rw c.deref-in-Ended.ensures.value at c.in_ok-emit_faults-in-Ended.ensures in
    let arrays = rw c.deref-then-arrays.ensures.value at c.in_ok-emit_arrays-in-Ended.ensures in
    rw (c.in-Ended.is, c.if-arrays.true, ending_text-map) (Appends-trans _ _ _ _ _ (Appends-trans _ _ _ _ _ lines faults) arrays)

pub returns-else-arrays : goal.returns-else-arrays
returns-else-arrays g c =
    let lines = rw c.deref.ensures.value at c.in_ok-emit_lines-in-Ended.ensures in
    let faults = rw c.deref-in-Ended.ensures.value at c.in_ok-emit_faults-in-Ended.ensures in
    rw (c.in-Ended.is, c.if-arrays.false, ending_text-map, append-nil) (Appends-trans _ _ _ _ _ lines faults)
