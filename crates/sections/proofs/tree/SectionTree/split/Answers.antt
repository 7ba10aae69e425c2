use Rattle.std.proofs.Common.{[], ◌∷◌, length, map, sym, subst, is_ok}
use Rattle.sections.specs.Origins.{IsNumbered}
use Rattle.sections.specs.Translation.{origin}
use Rattle.sections.specs.declared.origin.Origin.TheVariants.{Left, Right}
use Rattle.sections.proofs.Numbered.{kept_or_continued, sides_continue}
use Rattle.sections.proofs.tree.SectionTree.split.Goals as goal

pub invariant_of-self : goal.invariant_of-self
invariant_of-self c = record {
  numbered = subst (λ items. IsNumbered (map origin items)) (sym c.extend_from_slice.ensures.items)
      (kept_or_continued c.args.self.now.origins.items (Left c.args.parent ∷ Right c.args.parent ∷ [])
      (is_ok c.extend_from_slice.result) c.args.self.now.numbered
      (sides_continue (length (map origin c.args.self.now.origins.items)) c.args.parent.number c.requires));
}
