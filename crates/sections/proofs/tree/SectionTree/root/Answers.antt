use Rattle.std.proofs.Common.{[], ◌∷◌, length, map, sym, subst, is_ok}
use Rattle.sections.specs.Origins.{IsNumbered}
use Rattle.sections.specs.Translation.{origin}
use Rattle.sections.specs.declared.origin.Origin.TheVariants.{Root}
use Rattle.sections.proofs.Numbered.{kept_or_continued, root_continues}
use Rattle.sections.proofs.tree.SectionTree.root.Goals as goal

pub invariant_of-self : goal.invariant_of-self
invariant_of-self c = record {
  numbered = subst (λ items. IsNumbered (map origin items)) (sym c.push.ensures.items)
      (kept_or_continued c.args.self.now.origins.items (Root ∷ []) (is_ok c.push.result) c.args.self.now.numbered
      (root_continues (length (map origin c.args.self.now.origins.items))));
}
