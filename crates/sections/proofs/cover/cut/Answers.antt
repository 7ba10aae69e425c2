use Rattle.std.proofs.Common.{◌≡◌, ◌++◌, ◌+◌, List, map, drop, arith, ap, ◌∙◌, sym, append-nil}
use Rattle.std.proofs.lemmas.List.{drop_all}
use Rattle.sections.specs.Covers.{has, is_cover}
use Rattle.sections.specs.Cutting.{unless_empty}
use Rattle.sections.specs.Place.{Window}
use Rattle.sections.specs.Translation.{window}
use Rattle.sections.proofs.Cutting.{cut_by, minus, has-minus, is_cover-minus, next_first, turn_within, turn_later, turn_alone}
use Rattle.sections.proofs.cover.cut.Goals as goal
use Rattle.sections.proofs.cover.cut.Goals.{then-cuts-test+else-ends_no_later, else-cuts-test, then-next-gone, else-next-gone}

whole : (c : goal.After-windows) → map window c.windows.left.items ≡ minus (map window c.args.kept.now) (map window c.args.gone.now)
whole c = sym (append-nil (map window c.windows.left.items))
    ∙ ap (λ xs. map window c.windows.left.items ++ minus (map window xs) (map window (drop c.windows.next c.args.gone.now)))
    (sym (drop_all c.windows.window-index c.args.kept.now c.windows-test.false))
    ∙ c.windows.invariant

pub returns-clause-places : goal.returns-clause-places
returns-clause-places c q = ap (λ xs. has xs q) (whole c)
    ∙ has-minus q (map window c.args.kept.now) (map window c.args.gone.now) c.requires.kept c.requires.gone

pub returns-clause-form : goal.returns-clause-form
returns-clause-form c = ap is_cover (whole c)
    ∙ is_cover-minus (map window c.args.kept.now) (map window c.args.gone.now) c.requires.kept c.requires.gone

-- the windows that are kept after this one, without those that are removed
pub cuts-init : goal.cuts-init
cuts-init c =
    ap (λ ws. map window c.windows.left.items ++ minus ws (map window (drop c.windows.next c.args.gone.now)))
    (sym (next_first c.args.kept.now c.windows.window-index c.windows-test.true c.window-item.result c.window-item.is))
    ∙ c.windows.invariant

pub cuts-preserved : goal.cuts-preserved
cuts-preserved c =
    let go : List Window → List Window = minus (map window (drop (c.windows.window-index + 1) c.args.kept.now)) in
    let gs : List Window = map window (drop (c.cuts.next + 1) c.args.gone.now) in
    ap (λ xs. xs ++ cut_by (window c.behind-rest.result) go gs) (c.in_ok-add.ensures
    ∙ ap (λ p. map window c.cuts.left.items ++ unless_empty p) c.before-in-cuts.ensures)
    ∙ turn_within c.args.gone.now c.cuts.next c.cuts-test.true (map window c.cuts.left.items) (window c.cuts.rest)
    (window c.behind-rest.result) go c.index-gone-next.result c.index-gone-next-in-cuts.result
    (minus (map window c.args.kept.now) (map window c.args.gone.now)) c.index-gone-next.is c.index-gone-next-in-cuts.is
    (sym c.ends_no_later.ensures ∙ c.if-ends_no_later.true) c.behind-rest.ensures c.cuts.invariant

pub windows-preserved : goal.windows-preserved
windows-preserved c =
    let go : List Window → List Window = minus (map window (drop (c.windows.window-index + 1) c.args.kept.now)) in
    let gs : List Window = map window (drop c.cuts.next c.args.gone.now) in
    ap (λ xs. xs ++ go gs) c.in_ok-add-2.ensures
    ∙ elim c.if-next-gone.branch [
      | then-next-gone w ↦ elim c.cuts-test.branch [
        | then-cuts-test+else-ends_no_later t ↦
            turn_later c.args.gone.now c.cuts.next w.if-next-gone.true (map window c.cuts.left.items) (window c.cuts.rest)
            (window c.if-next-gone.rest) go t.index-gone-next.result w.index-gone-next-then-next-gone.result
            (minus (map window c.args.kept.now) (map window c.args.gone.now)) t.index-gone-next.is w.index-gone-next-then-next-gone.is
            (sym t.ends_no_later.ensures ∙ t.if-ends_no_later.false) (ap window w.rest-is ∙ w.before-rest.ensures) c.cuts.invariant
        | else-cuts-test t ↦ absurd (omega (arith, w.if-next-gone.true, t.cuts-test.false))
      ]
      | else-next-gone w ↦
          turn_alone c.args.gone.now c.cuts.next w.if-next-gone.false (map window c.cuts.left.items) (window c.cuts.rest)
          (window c.if-next-gone.rest) go (minus (map window c.args.kept.now) (map window c.args.gone.now))
          (ap window w.rest-is) c.cuts.invariant
    ]
