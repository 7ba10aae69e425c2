use Rattle.std.proofs.Common.{◌≡◌, List, map, ap, ◌∙◌, arith}
use Rattle.sections.specs.Overlap.{beyond}
use Rattle.sections.specs.Origins.{origin_of}
use Rattle.sections.specs.Translation.{section, origin}
use Rattle.sections.specs.Tree.{origins_of}
use Rattle.sections.specs.declared.id.SectionId.{SectionId}
use Rattle.effects.specs.ListedRoots.{listed_root}
use Rattle.effects.proofs.RootLemmas.{roots_more, all_listed}
use Rattle.effects.proofs.roots.Roots.new.Goals as goal

pub loop-number-preserved : goal.loop-number-preserved
loop-number-preserved c =
    let n = c.loop-number.number in
    let roots = c.loop-number.roots.items in
    let tree = c.args.tree.now in
    let root : c.next_root-root.result.number ≡ beyond n (listed_root (map section roots)) (origin_of (origins_of tree) n) =
    c.next_root-root.ensures
    ∙ ap (λ (xs : List SectionId). beyond n (listed_root (map section xs)) (origin c.origin.result)) c.deref.ensures.value
    ∙ ap (beyond n (listed_root (map section roots))) c.origin.ensures in
    record {
      length = omega (arith, c.in_ok-push.ensures.len, c.loop-number.invariant.length);
      roots = roots_more (origins_of tree) tree.numbered roots _ c.next_root-root.result n c.loop-number.invariant.length
          c.in_ok-push.ensures.items c.loop-number.invariant.roots root;
    }

pub returns : goal.returns
returns c =
    all_listed (origins_of c.args.tree.now) c.loop-number.roots.items c.loop-number.number c.loop-number.invariant.length
    (omega (arith, c.loop-number-test.false, c.len-number-end.ensures)) c.loop-number.invariant.roots
