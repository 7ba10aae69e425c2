use Rattle.std.proofs.Common.{◌<◌, ◌∙◌, length, ap, sym, subst, refl, append-nil, arith, rules}
use Rattle.std.proofs.lemmas.List.{map-append}
use Rattle.std.proofs.lemmas.Bool.Decides.{nat_tests}
use Rattle.syntax.specs.Lexical.{HasTokens}
use Rattle.syntax.specs.Refusals.{ArePlaced}
use Rattle.syntax.specs.Token.{plain}
use Rattle.syntax.proofs.LexicalLemmas.{piece_read}
use Rattle.syntax.proofs.Stops.{tells_unread, none_are_placed, one_more_placed}
use Rattle.syntax.proofs.lexer.tokens.Goals as goal

pub loop-rest-init : goal.loop-rest-init
loop-rest-init c = record {
  shorter = omega arith;
  read = search rules;
  placed = subst (ArePlaced c.args.text.now) (sym c.new-tokens.ensures.items) (none_are_placed c.args.text.now);
}

pub loop-rest-preserved-in-Some : goal.loop-rest-preserved-in-Some
loop-rest-preserved-in-Some c = record {
  shorter = omega (arith, c.loop-rest.invariant.shorter, c.in-Some.ensures.shorter);
  read = subst (λ ts. HasTokens c.args.text.now ts c.in-Some.behind.now) (append-nil (plain c.loop-rest.tokens.items))
      (piece_read _ _ _ _ _ c.loop-rest.invariant.read c.in-Some.ensures.found);
  placed = c.loop-rest.invariant.placed;
}

pub loop-rest-preserved : goal.loop-rest-preserved
loop-rest-preserved c =
    let items = c.in_ok-push.ensures.items in
    let pushed = ap plain items ∙ map-append _ c.loop-rest.tokens.items _ in
    let read = c.loop-rest.invariant.read in
    let found = c.in_ok-token.ensures.found in
    record {
      shorter = omega (arith, c.loop-rest.invariant.shorter, c.in_ok-token.ensures.shorter);
      read = subst (λ ts. HasTokens c.args.text.now ts c.in_ok-token.behind.now) (sym pushed) (piece_read _ _ _ _ _ read found);
      placed = subst (ArePlaced c.args.text.now) (sym items)
          (one_more_placed _ _ _ c.loop-rest.tokens.items _ read found refl c.loop-rest.invariant.placed);
    }

pub returns-in_err-token-clause-unread : goal.returns-in_err-token-clause-unread
returns-in_err-token-clause-unread c =
    let rest = c.loop-rest.rest.now in
    let some : 0 < length rest = grind (arith, nat_tests, c.loop-rest-test.ensures) in
    let read = c.loop-rest.invariant.read in
    let told = tells_unread c.args.text.now rest _ read _ some c.in_err-token.ensures.absent in
    search (rules, told)

pub returns-clause-placed : goal.returns-clause-placed
returns-clause-placed c = c.loop-rest.invariant.placed
