use Rattle.std.proofs.Common.{◌∙◌, ◌∷◌, refl, ap, arith, rules}
use Rattle.std.proofs.lemmas.List.Sums.{prefix_len-le-length}
use Rattle.syntax.specs.Lexical.{is_in_line, BlankPiece, CommentPiece}
use Rattle.syntax.proofs.LexicalLemmas.{cut_at, passes_at, stops_at}
use Rattle.syntax.proofs.lexer.blank.Goals as goal

pub returns-then-is_blank-clause-found : goal.returns-then-is_blank-clause-found
returns-then-is_blank-clause-found c = record {
  piece = BlankPiece c.in_ok-first.first.now;
  begins = record { spelled = c.in_ok-first.ensures.cases.0; fits = search rules };
  tokens = refl;
}

pub split_at-requires : goal.split_at-requires
split_at-requires c = omega (arith, c.line_length.ensures, prefix_len-le-length is_in_line c.in_ok-second.behind.now)

pub returns-then-second-eq47-clause-found : goal.returns-then-second-eq47-clause-found
returns-then-second-eq47-clause-found c =
    let behind = c.in_ok-second.behind.now in
    let split = c.split_at.ensures in
    let line = cut_at _ behind _ _ split.front split.back in
    let second = c.in_ok-second.ensures.cases.0 ∙ ap (λ x. x ∷ behind) c.if-second-eq47.true ∙ ap (λ l. 47 ∷ l) line in
    record {
      piece = CommentPiece c.split_at.result.0.now;
      begins = record {
        spelled = c.in_ok-first.ensures.cases.0 ∙ ap (λ x. x ∷ c.in_ok-first.after.now) c.if-first-eq47.true ∙ ap (λ l. 47 ∷ l) second;
        fits = (
          passes_at is_in_line _ behind _ c.line_length.ensures split.front,
          stops_at is_in_line _ behind _ c.line_length.ensures split.back,
        );
      };
      tokens = refl;
    }
