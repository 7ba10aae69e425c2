use Rattle.std.proofs.Common.{◌<◌, ◌+◌, List, ap, subst, length, drop, arith}
use Rattle.std.proofs.lemmas.List.{drop_all}
use Rattle.syntax.specs.Token.{Token, plain}
use Rattle.layout.specs.Laid.{laid_pieces}
use Rattle.layout.specs.Writing.{GoesOn}
use Rattle.layout.proofs.GoingLemmas.{all_laid, goes_from_first, goes_on, next_left}
use Rattle.layout.proofs.text.laid.Goals as goal

pub loop-spanned-init : goal.loop-spanned-init
loop-spanned-init c = record {
  counted = c.new-writer.ensures.counted;
  going = λ ps cut.
      goes_from_first c.args.text.now (plain c.args.tokens.now) c.new-writer.result c.requires c.new-writer.ensures.out
      c.new-writer.ensures.spot ps cut;
}

pub loop-spanned-preserved : goal.loop-spanned-preserved
loop-spanned-preserved c = record {
  counted = c.in_ok-rest-2.ensures.counted;
  going = λ ps cut.
      let tokens = c.args.tokens.now in
      let i = c.loop-spanned.spanned-index in
      let s = c.spanned-item.result in
      let within : i < length tokens = omega arith in
      let between = goes_on (laid_pieces ps) (plain (drop i tokens)) c.loop-spanned.writer c.between.new.writer
      c.loop-spanned.rest.now c.in_ok-rest.rest.now (c.loop-spanned.invariant.going ps cut) c.in_ok-rest.ensures.passed
      in
      c.in_ok-rest-2.ensures.passed (laid_pieces ps) (plain (drop (i + 1) tokens))
      (subst (λ (ts : List Token). GoesOn (laid_pieces ps) ts c.between.new.writer c.in_ok-rest.rest.now)
      (next_left tokens i s within c.spanned-item.is) between);
}

pub returns : goal.returns
returns c ps cut =
    let tokens = c.args.tokens.now in
    let i = c.loop-spanned.spanned-index in
    let w = c.between-2.new.writer in
    let rest = c.in_ok-between.field-0.now in
    let going = goes_on (laid_pieces ps) (plain (drop i tokens)) c.loop-spanned.writer w c.loop-spanned.rest.now rest
    (c.loop-spanned.invariant.going ps cut) c.in_ok-between.ensures.passed
    in
    all_laid (laid_pieces ps) rest c.end.new.self.out.items (plain (drop i tokens)) w (ap plain (drop_all i tokens (omega arith))) going
    c.in_ok-between.ensures.no_blank c.in_ok-between.ensures.no_comment c.in_ok-end.ensures
