use Rattle.std.proofs.Common.{refl, sym, ◌∙◌}
use Rattle.syntax.specs.Lexical.{BlankPiece}
use Rattle.layout.proofs.GoingLemmas.{passes, passes_more}
use Rattle.layout.proofs.text.between.Goals as goal

pub loop-first-preserved-then-is_blank : goal.loop-first-preserved-then-is_blank
loop-first-preserved-then-is_blank c =
    let rest = c.loop-first.rest.now in
    let first = c.in-Some.first.now in
    let behind = c.in-Some.behind.now in
    let old = c.loop-first.writer in
    let new = c.blank.new.self in
    record {
      counted = c.blank.ensures.counted;
      passed = passes_more c.args.writer.now old new c.args.text.now rest behind c.loop-first.invariant.passed
          (passes (BlankPiece first) rest behind old new
          (record { spelled = c.in-Some.ensures.cases.0; fits = sym c.is_blank.ensures ∙ c.if-is_blank.true })
          refl c.blank.ensures.passed);
    }
