use Rattle.std.proofs.Common.{[], ◌∷◌, length, map, sym, subst, is_ok}
use Rattle.sections.specs.Origins.{IsNumbered}
use Rattle.sections.specs.Translation.{origin}
use Rattle.sections.specs.declared.origin.Origin.TheVariants.{Piece}
use Rattle.sections.proofs.Numbered.{kept_or_continued, piece_continues}
use Rattle.sections.proofs.tree.SectionTree.part.Goals as goal

pub invariant_of-self : goal.invariant_of-self
invariant_of-self c = record {
  numbered = subst (λ items. IsNumbered (map origin items)) (sym c.push.ensures.items)
      (kept_or_continued c.args.self.now.origins.items (Piece c.args.parent ∷ []) (is_ok c.push.result)
      c.args.self.now.numbered
      (piece_continues (length (map origin c.args.self.now.origins.items)) c.args.parent.number c.requires));
}
