use Rattle.std.proofs.Common.{◌≡◌, ℕ, ◌-◌, List, ◌++◌, length, take, drop, sym, ap, ◌∙◌, append_assoc, take-append-drop}
use Rattle.std.proofs.lemmas.List.{take_rest}
use Rattle.std.proofs.KnownBytes.{Appends-trans}
use Rattle.printing.proofs.emit.append.Goals as goal

-- n more bytes are no longer in the rest
moves_front : (all done rest : List ℕ) (n : ℕ) → all ≡ done ++ rest → all ≡ (done ++ take n rest) ++ take (length rest - n) (drop n rest)
moves_front all done rest n parts =
    parts ∙ ap (λ l. done ++ l) (sym (take-append-drop n rest)) ∙ sym (append_assoc done (take n rest) (drop n rest))
    ∙ ap (λ l. (done ++ take n rest) ++ l) (sym (take_rest rest n))

pub writes-preserved : goal.writes-preserved
writes-preserved g c =
    let (done, parts, appended) = c.writes.invariant in
    let rest = c.writes.rest.now in
    let taken = c.in-Ok.taken in
    (done ++ take taken rest, moves_front _ done rest taken parts, Appends-trans _ _ _ _ _ appended c.in-Ok.ensures.bytes)
