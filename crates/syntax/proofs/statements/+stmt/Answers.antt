use Rattle.std.proofs.Common.{◌∷◌, ◌∙◌, ap, sym, arith}
use Rattle.syntax.specs.Spelling.{expr_then, block_then}
use Rattle.syntax.specs.declared.token.Mark.TheVariants.{LeftBrace}
use Rattle.syntax.specs.Token.{MarkToken, plain}
use Rattle.syntax_tree.specs.Tree.{expr, block}
use Rattle.syntax.proofs.ChainLemmas.{behind}
use Rattle.syntax.proofs.BlockLemmas.{stmts_then, stmts_read, block_then-block, stmt_then_If, stmt_then_IfElse}
use Rattle.syntax.proofs.BlockLemmas.{stmt_then_While, stmt_then_Split, stmt_then_Parts, stmt_then_Async, stmt_then_Finish}
use Rattle.syntax.proofs.BlockLemmas.{stmt_then_Rescue}
use Rattle.syntax.proofs.RefusalLemmas.{passed_on, same_rest}
use Rattle.syntax.proofs.StmtRefusals.{block_closed, block_opened, if_opened, if_alone, if_otherwise, while_opened}
use Rattle.syntax.proofs.StmtRefusals.{split_opened, parts_opened, async_opened, finish_opened, finish_alone}
use Rattle.syntax.proofs.StmtRefusals.{finish_rescued, block_read, block_refused}
use Rattle.syntax.proofs.StmtSpellings.{block_binds}
use Rattle.syntax.proofs.statements.+stmt.Goals as goal

pub conditional-returns-in-None-clause-read : goal.conditional-returns-in-None-clause-read
conditional-returns-in-None-clause-read t c = record {
  spelled = behind (c.in_ok-guard.ensures.read.spelled ∙ ap (expr_then (expr c.in_ok-guard.guard)) c.in_ok-body.ensures.read.spelled) ∙ stmt_then_If _ _ _;
  whole = λ s r ends spelled.
      let parts = if_opened s _ r spelled in
      let body = c.in_ok-guard.ensures.read.whole parts.guard (MarkToken LeftBrace ∷ block_then parts.body parts.after)
      (omega arith) parts.spelled in
      let after = c.in_ok-body.ensures.read.whole parts.body parts.after body in
      if_alone parts _ c.in-None.ensures.absent after;
}

pub conditional-returns-in_ok-other-in-Some-clause-read : goal.conditional-returns-in_ok-other-in-Some-clause-read
conditional-returns-in_ok-other-in-Some-clause-read t c = record {
  spelled = let other = c.in-Some.ensures.found ∙ behind c.in_ok-other-in-Some.ensures.read.spelled in
      let body = c.in_ok-body.ensures.read.spelled ∙ behind (ap (block_then (block c.in_ok-body.body.items)) other) in
      behind (c.in_ok-guard.ensures.read.spelled ∙ ap (expr_then (expr c.in_ok-guard.guard)) body) ∙ stmt_then_IfElse _ _ _ _;
  whole = λ s r ends spelled.
      let parts = if_opened s _ r spelled in
      let body = c.in_ok-guard.ensures.read.whole parts.guard (MarkToken LeftBrace ∷ block_then parts.body parts.after)
      (omega arith) parts.spelled in
      let after = c.in_ok-body.ensures.read.whole parts.body parts.after body in
      let other = if_otherwise parts _ ends (sym c.in-Some.ensures.found ∙ after) in
      c.in_ok-other-in-Some.ensures.read.whole other.0 r other.1;
}

pub repeated-returns-clause-read : goal.repeated-returns-clause-read
repeated-returns-clause-read t c = record {
  spelled = behind (c.in_ok-guard.ensures.read.spelled ∙ ap (expr_then (expr c.in_ok-guard.guard)) c.in_ok-body.ensures.read.spelled) ∙ stmt_then_While _ _ _;
  whole = λ s r ends spelled.
      let parts = while_opened s _ r spelled in
      let body = c.in_ok-guard.ensures.read.whole parts.0 (MarkToken LeftBrace ∷ block_then parts.1 r) (omega arith) parts.2 in
      c.in_ok-body.ensures.read.whole parts.1 r body;
}

pub split-returns-clause-read : goal.split-returns-clause-read
split-returns-clause-read t c = record {
  spelled = let body = c.in_ok-right.ensures.found ∙ behind c.in_ok-body.ensures.read.spelled in
      let sides = c.in_ok-rest-2.ensures.found ∙ behind (c.in_ok-left.ensures.found ∙ behind (c.in_ok-rest-3.ensures.found ∙ behind body)) in
      let at = c.in_ok-at.ensures.read.spelled ∙ ap (expr_then (expr c.in_ok-at.at)) sides in
      behind (c.in_ok-section.ensures.found ∙ behind (c.in_ok-rest.ensures.found ∙ behind at)) ∙ stmt_then_Split _ _ _ _ _ _;
  whole = λ s r ends spelled.
      let parts = split_opened s _ r spelled in
      let at_word = same_rest (sym c.in_ok-section.ensures.found ∙ parts.spelled) in
      let place = same_rest (sym c.in_ok-rest.ensures.found ∙ at_word) in
      let as_word = c.in_ok-at.ensures.read.whole parts.at parts.sides parts.ends place ∙ parts.sided in
      let left = same_rest (sym c.in_ok-rest-2.ensures.found ∙ as_word) in
      let comma = same_rest (sym c.in_ok-left.ensures.found ∙ left) in
      let right = same_rest (sym c.in_ok-rest-3.ensures.found ∙ comma) in
      let body = same_rest (sym c.in_ok-right.ensures.found ∙ right) in
      c.in_ok-body.ensures.read.whole parts.body r body;
}

pub parts-returns-clause-read : goal.parts-returns-clause-read
parts-returns-clause-read t c = record {
  spelled = let body = c.in_ok-turn.ensures.found ∙ behind c.in_ok-body.ensures.read.spelled in
      let names = c.in_ok-rest-2.ensures.found ∙ behind (c.in_ok-piece.ensures.found ∙ behind (c.in_ok-rest-3.ensures.found ∙ behind body)) in
      let size = c.in_ok-size.ensures.read.spelled ∙ ap (expr_then (expr c.in_ok-size.size)) names in
      behind (c.in_ok-section.ensures.found ∙ behind (c.in_ok-rest.ensures.found ∙ behind size)) ∙ stmt_then_Parts _ _ _ _ _ _;
  whole = λ s r ends spelled.
      let parts = parts_opened s _ r spelled in
      let by_word = same_rest (sym c.in_ok-section.ensures.found ∙ parts.spelled) in
      let place = same_rest (sym c.in_ok-rest.ensures.found ∙ by_word) in
      let as_word = c.in_ok-size.ensures.read.whole parts.size parts.names parts.ends place ∙ parts.named in
      let piece = same_rest (sym c.in_ok-rest-2.ensures.found ∙ as_word) in
      let comma = same_rest (sym c.in_ok-piece.ensures.found ∙ piece) in
      let turn = same_rest (sym c.in_ok-rest-3.ensures.found ∙ comma) in
      let body = same_rest (sym c.in_ok-turn.ensures.found ∙ turn) in
      c.in_ok-body.ensures.read.whole parts.body r body;
}

pub statement-returns-in_ok-body-in-Async-clause-read : goal.statement-returns-in_ok-body-in-Async-clause-read
statement-returns-in_ok-body-in-Async-clause-read t c =
    block_read c.in-Some.ensures.found c.in-Async.is c.in_ok-body-in-Async.ensures.read (stmt_then_Async _ _) async_opened

pub finish-returns-in-None-clause-read : goal.finish-returns-in-None-clause-read
finish-returns-in-None-clause-read t c = record {
  spelled = behind c.in_ok-body.ensures.read.spelled ∙ stmt_then_Finish _ _;
  whole = λ s r ends spelled.
      let parts = finish_opened s _ r spelled in
      let after = c.in_ok-body.ensures.read.whole parts.body parts.after parts.spelled in
      finish_alone parts _ c.in-None.ensures.absent after;
}

pub finish-returns-in_ok-handler-in-Some-clause-read : goal.finish-returns-in_ok-handler-in-Some-clause-read
finish-returns-in_ok-handler-in-Some-clause-read t c = record {
  spelled = let name = c.in_ok-faults-in-Some.ensures.found ∙ behind c.in_ok-handler-in-Some.ensures.read.spelled in
      let word = c.in-Some.ensures.found ∙ behind name in
      behind (c.in_ok-body.ensures.read.spelled ∙ behind (ap (block_then (block c.in_ok-body.body.items)) word)) ∙ stmt_then_Rescue _ _ _ _;
  whole = λ s r ends spelled.
      let parts = finish_opened s _ r spelled in
      let after = c.in_ok-body.ensures.read.whole parts.body parts.after parts.spelled in
      let named = finish_rescued parts _ ends (sym c.in-Some.ensures.found ∙ after) in
      let handler = same_rest (sym c.in_ok-faults-in-Some.ensures.found ∙ named.2) in
      c.in_ok-handler-in-Some.ensures.read.whole named.1 r handler;
}

pub statements-returns-in-Some-clause-read : goal.statements-returns-in-Some-clause-read
statements-returns-in-Some-clause-read t c = record {
  spelled = c.loop-rest.invariant.spelled ∙ ap (stmts_then c.loop-rest.body.items) c.in-Some.ensures.found ∙ sym (block_then-block _ _);
  whole = λ b r spelled.
      let end = c.loop-rest.invariant.whole b r spelled in
      block_closed end.0 _ r (sym c.in-Some.ensures.found ∙ end.1);
}

pub statements-loop-rest-init : goal.statements-loop-rest-init
unfolding stmts_then
statements-loop-rest-init t c = record {
  shorter = omega arith;
  spelled = ap (λ l. stmts_then l (plain c.args.tokens.now)) (sym c.new-body.ensures.items);
  whole = λ b r spelled. (b, spelled);
}

pub statements-loop-rest-preserved : goal.statements-loop-rest-preserved
statements-loop-rest-preserved t c = record {
  shorter = omega (arith, c.loop-rest.invariant.shorter, c.in_ok-statement.ensures.shorter);
  spelled = stmts_read _ _ _ _ _ _ c.loop-rest.invariant.spelled c.in_ok-statement.ensures.read.spelled c.in_ok-push.ensures.items;
  whole = λ b r spelled.
      let end = c.loop-rest.invariant.whole b r spelled in
      let one = block_opened end.0 _ r c.in_default.ensures.absent end.1 in
      (one.1, c.in_ok-statement.ensures.read.whole one.0 (block_then one.1 r) (omega (arith, block_binds one.1 r)) one.2);
}

pub statements-returns-in_err-statement-clause-refused : goal.statements-returns-in_err-statement-clause-refused
statements-returns-in_err-statement-clause-refused t c =
    passed_on _ _ c.from_residual.ensures.1 (λ room b r spelled.
    let end = c.loop-rest.invariant.whole b r spelled in
    let one = block_opened end.0 _ r c.in_default.ensures.absent end.1 in
    c.in_err-statement.ensures.refused room one.0 (block_then one.1 r) (omega (arith, block_binds one.1 r)) one.2)

pub block-returns-in_err-rest-clause-refused : goal.block-returns-in_err-rest-clause-refused
block-returns-in_err-rest-clause-refused t c =
    passed_on _ _ c.from_residual.ensures.1 (λ room b r spelled.
    c.in_err-rest.ensures.refused _ spelled)

pub conditional-returns-in_err-guard-clause-refused : goal.conditional-returns-in_err-guard-clause-refused
conditional-returns-in_err-guard-clause-refused t c =
    passed_on _ _ c.from_residual.ensures.1 (λ room s r ends spelled.
    let parts = if_opened s _ r spelled in
    c.in_err-guard.ensures.refused room parts.guard (MarkToken LeftBrace ∷ block_then parts.body parts.after) (omega arith) parts.spelled)

pub conditional-returns-in_err-body-clause-refused : goal.conditional-returns-in_err-body-clause-refused
conditional-returns-in_err-body-clause-refused t c =
    passed_on _ _ c.from_residual-in_err-body.ensures.1 (λ room s r ends spelled.
    let parts = if_opened s _ r spelled in
    let body = c.in_ok-guard.ensures.read.whole parts.guard (MarkToken LeftBrace ∷ block_then parts.body parts.after)
    (omega arith) parts.spelled in
    c.in_err-body.ensures.refused room parts.body parts.after body)

pub conditional-returns-in_err-other-in-Some-clause-refused : goal.conditional-returns-in_err-other-in-Some-clause-refused
conditional-returns-in_err-other-in-Some-clause-refused t c =
    passed_on _ _ c.from_residual-in_err-other-in-Some.ensures.1 (λ room s r ends spelled.
    let parts = if_opened s _ r spelled in
    let body = c.in_ok-guard.ensures.read.whole parts.guard (MarkToken LeftBrace ∷ block_then parts.body parts.after)
    (omega arith) parts.spelled in
    let after = c.in_ok-body.ensures.read.whole parts.body parts.after body in
    let other = if_otherwise parts _ ends (sym c.in-Some.ensures.found ∙ after) in
    c.in_err-other-in-Some.ensures.refused room other.0 r other.1)

pub repeated-returns-in_err-guard-clause-refused : goal.repeated-returns-in_err-guard-clause-refused
repeated-returns-in_err-guard-clause-refused t c =
    passed_on _ _ c.from_residual.ensures.1 (λ room s r ends spelled.
    let parts = while_opened s _ r spelled in
    c.in_err-guard.ensures.refused room parts.0 (MarkToken LeftBrace ∷ block_then parts.1 r) (omega arith) parts.2)

pub repeated-returns-in_err-body-clause-refused : goal.repeated-returns-in_err-body-clause-refused
repeated-returns-in_err-body-clause-refused t c =
    passed_on _ _ c.from_residual-in_err-body.ensures.1 (λ room s r ends spelled.
    let parts = while_opened s _ r spelled in
    let body = c.in_ok-guard.ensures.read.whole parts.0 (MarkToken LeftBrace ∷ block_then parts.1 r) (omega arith) parts.2 in
    c.in_err-body.ensures.refused room parts.1 r body)

pub split-returns-in_err-section-clause-refused : goal.split-returns-in_err-section-clause-refused
split-returns-in_err-section-clause-refused t c =
    passed_on _ _ c.from_residual.ensures.1 (λ room s r ends spelled.
    let parts = split_opened s _ r spelled in
    c.in_err-section.ensures.refused room _ _ parts.spelled)

pub parts-returns-in_err-section-clause-refused : goal.parts-returns-in_err-section-clause-refused
parts-returns-in_err-section-clause-refused t c =
    passed_on _ _ c.from_residual.ensures.1 (λ room s r ends spelled.
    let parts = parts_opened s _ r spelled in
    c.in_err-section.ensures.refused room _ _ parts.spelled)

pub split-returns-in_err-rest-clause-refused : goal.split-returns-in_err-rest-clause-refused
split-returns-in_err-rest-clause-refused t c =
    passed_on _ _ c.from_residual-in_err-rest.ensures.1 (λ room s r ends spelled.
    let parts = split_opened s _ r spelled in
    let at_word = same_rest (sym c.in_ok-section.ensures.found ∙ parts.spelled) in
    c.in_err-rest.ensures.refused _ at_word)

pub parts-returns-in_err-rest-clause-refused : goal.parts-returns-in_err-rest-clause-refused
parts-returns-in_err-rest-clause-refused t c =
    passed_on _ _ c.from_residual-in_err-rest.ensures.1 (λ room s r ends spelled.
    let parts = parts_opened s _ r spelled in
    let by_word = same_rest (sym c.in_ok-section.ensures.found ∙ parts.spelled) in
    c.in_err-rest.ensures.refused _ by_word)

pub split-returns-in_err-at-clause-refused : goal.split-returns-in_err-at-clause-refused
split-returns-in_err-at-clause-refused t c =
    passed_on _ _ c.from_residual-in_err-at.ensures.1 (λ room s r ends spelled.
    let parts = split_opened s _ r spelled in
    let at_word = same_rest (sym c.in_ok-section.ensures.found ∙ parts.spelled) in
    let place = same_rest (sym c.in_ok-rest.ensures.found ∙ at_word) in
    c.in_err-at.ensures.refused room parts.at parts.sides parts.ends place)

pub parts-returns-in_err-size-clause-refused : goal.parts-returns-in_err-size-clause-refused
parts-returns-in_err-size-clause-refused t c =
    passed_on _ _ c.from_residual-in_err-size.ensures.1 (λ room s r ends spelled.
    let parts = parts_opened s _ r spelled in
    let by_word = same_rest (sym c.in_ok-section.ensures.found ∙ parts.spelled) in
    let place = same_rest (sym c.in_ok-rest.ensures.found ∙ by_word) in
    c.in_err-size.ensures.refused room parts.size parts.names parts.ends place)

pub split-returns-in_err-rest-2-clause-refused : goal.split-returns-in_err-rest-2-clause-refused
split-returns-in_err-rest-2-clause-refused t c =
    passed_on _ _ c.from_residual-in_err-rest-2.ensures.1 (λ room s r ends spelled.
    let parts = split_opened s _ r spelled in
    let at_word = same_rest (sym c.in_ok-section.ensures.found ∙ parts.spelled) in
    let place = same_rest (sym c.in_ok-rest.ensures.found ∙ at_word) in
    let as_word = c.in_ok-at.ensures.read.whole parts.at parts.sides parts.ends place ∙ parts.sided in
    c.in_err-rest-2.ensures.refused _ as_word)

pub parts-returns-in_err-rest-2-clause-refused : goal.parts-returns-in_err-rest-2-clause-refused
parts-returns-in_err-rest-2-clause-refused t c =
    passed_on _ _ c.from_residual-in_err-rest-2.ensures.1 (λ room s r ends spelled.
    let parts = parts_opened s _ r spelled in
    let by_word = same_rest (sym c.in_ok-section.ensures.found ∙ parts.spelled) in
    let place = same_rest (sym c.in_ok-rest.ensures.found ∙ by_word) in
    let as_word = c.in_ok-size.ensures.read.whole parts.size parts.names parts.ends place ∙ parts.named in
    c.in_err-rest-2.ensures.refused _ as_word)

pub split-returns-in_err-left-clause-refused : goal.split-returns-in_err-left-clause-refused
split-returns-in_err-left-clause-refused t c =
    passed_on _ _ c.from_residual-in_err-left.ensures.1 (λ room s r ends spelled.
    let parts = split_opened s _ r spelled in
    let at_word = same_rest (sym c.in_ok-section.ensures.found ∙ parts.spelled) in
    let place = same_rest (sym c.in_ok-rest.ensures.found ∙ at_word) in
    let as_word = c.in_ok-at.ensures.read.whole parts.at parts.sides parts.ends place ∙ parts.sided in
    let left = same_rest (sym c.in_ok-rest-2.ensures.found ∙ as_word) in
    c.in_err-left.ensures.refused room _ _ left)

pub parts-returns-in_err-piece-clause-refused : goal.parts-returns-in_err-piece-clause-refused
parts-returns-in_err-piece-clause-refused t c =
    passed_on _ _ c.from_residual-in_err-piece.ensures.1 (λ room s r ends spelled.
    let parts = parts_opened s _ r spelled in
    let by_word = same_rest (sym c.in_ok-section.ensures.found ∙ parts.spelled) in
    let place = same_rest (sym c.in_ok-rest.ensures.found ∙ by_word) in
    let as_word = c.in_ok-size.ensures.read.whole parts.size parts.names parts.ends place ∙ parts.named in
    let piece = same_rest (sym c.in_ok-rest-2.ensures.found ∙ as_word) in
    c.in_err-piece.ensures.refused room _ _ piece)

pub split-returns-in_err-rest-3-clause-refused : goal.split-returns-in_err-rest-3-clause-refused
split-returns-in_err-rest-3-clause-refused t c =
    passed_on _ _ c.from_residual-in_err-rest-3.ensures.1 (λ room s r ends spelled.
    let parts = split_opened s _ r spelled in
    let at_word = same_rest (sym c.in_ok-section.ensures.found ∙ parts.spelled) in
    let place = same_rest (sym c.in_ok-rest.ensures.found ∙ at_word) in
    let as_word = c.in_ok-at.ensures.read.whole parts.at parts.sides parts.ends place ∙ parts.sided in
    let left = same_rest (sym c.in_ok-rest-2.ensures.found ∙ as_word) in
    let comma = same_rest (sym c.in_ok-left.ensures.found ∙ left) in
    c.in_err-rest-3.ensures.refused _ comma)

pub parts-returns-in_err-rest-3-clause-refused : goal.parts-returns-in_err-rest-3-clause-refused
parts-returns-in_err-rest-3-clause-refused t c =
    passed_on _ _ c.from_residual-in_err-rest-3.ensures.1 (λ room s r ends spelled.
    let parts = parts_opened s _ r spelled in
    let by_word = same_rest (sym c.in_ok-section.ensures.found ∙ parts.spelled) in
    let place = same_rest (sym c.in_ok-rest.ensures.found ∙ by_word) in
    let as_word = c.in_ok-size.ensures.read.whole parts.size parts.names parts.ends place ∙ parts.named in
    let piece = same_rest (sym c.in_ok-rest-2.ensures.found ∙ as_word) in
    let comma = same_rest (sym c.in_ok-piece.ensures.found ∙ piece) in
    c.in_err-rest-3.ensures.refused _ comma)

pub split-returns-in_err-right-clause-refused : goal.split-returns-in_err-right-clause-refused
split-returns-in_err-right-clause-refused t c =
    passed_on _ _ c.from_residual-in_err-right.ensures.1 (λ room s r ends spelled.
    let parts = split_opened s _ r spelled in
    let at_word = same_rest (sym c.in_ok-section.ensures.found ∙ parts.spelled) in
    let place = same_rest (sym c.in_ok-rest.ensures.found ∙ at_word) in
    let as_word = c.in_ok-at.ensures.read.whole parts.at parts.sides parts.ends place ∙ parts.sided in
    let left = same_rest (sym c.in_ok-rest-2.ensures.found ∙ as_word) in
    let comma = same_rest (sym c.in_ok-left.ensures.found ∙ left) in
    let right = same_rest (sym c.in_ok-rest-3.ensures.found ∙ comma) in
    c.in_err-right.ensures.refused room _ _ right)

pub parts-returns-in_err-turn-clause-refused : goal.parts-returns-in_err-turn-clause-refused
parts-returns-in_err-turn-clause-refused t c =
    passed_on _ _ c.from_residual-in_err-turn.ensures.1 (λ room s r ends spelled.
    let parts = parts_opened s _ r spelled in
    let by_word = same_rest (sym c.in_ok-section.ensures.found ∙ parts.spelled) in
    let place = same_rest (sym c.in_ok-rest.ensures.found ∙ by_word) in
    let as_word = c.in_ok-size.ensures.read.whole parts.size parts.names parts.ends place ∙ parts.named in
    let piece = same_rest (sym c.in_ok-rest-2.ensures.found ∙ as_word) in
    let comma = same_rest (sym c.in_ok-piece.ensures.found ∙ piece) in
    let turn = same_rest (sym c.in_ok-rest-3.ensures.found ∙ comma) in
    c.in_err-turn.ensures.refused room _ _ turn)

pub split-returns-in_err-body-clause-refused : goal.split-returns-in_err-body-clause-refused
split-returns-in_err-body-clause-refused t c =
    passed_on _ _ c.from_residual-in_err-body.ensures.1 (λ room s r ends spelled.
    let parts = split_opened s _ r spelled in
    let at_word = same_rest (sym c.in_ok-section.ensures.found ∙ parts.spelled) in
    let place = same_rest (sym c.in_ok-rest.ensures.found ∙ at_word) in
    let as_word = c.in_ok-at.ensures.read.whole parts.at parts.sides parts.ends place ∙ parts.sided in
    let left = same_rest (sym c.in_ok-rest-2.ensures.found ∙ as_word) in
    let comma = same_rest (sym c.in_ok-left.ensures.found ∙ left) in
    let right = same_rest (sym c.in_ok-rest-3.ensures.found ∙ comma) in
    let body = same_rest (sym c.in_ok-right.ensures.found ∙ right) in
    c.in_err-body.ensures.refused room parts.body r body)

pub parts-returns-in_err-body-clause-refused : goal.parts-returns-in_err-body-clause-refused
parts-returns-in_err-body-clause-refused t c =
    passed_on _ _ c.from_residual-in_err-body.ensures.1 (λ room s r ends spelled.
    let parts = parts_opened s _ r spelled in
    let by_word = same_rest (sym c.in_ok-section.ensures.found ∙ parts.spelled) in
    let place = same_rest (sym c.in_ok-rest.ensures.found ∙ by_word) in
    let as_word = c.in_ok-size.ensures.read.whole parts.size parts.names parts.ends place ∙ parts.named in
    let piece = same_rest (sym c.in_ok-rest-2.ensures.found ∙ as_word) in
    let comma = same_rest (sym c.in_ok-piece.ensures.found ∙ piece) in
    let turn = same_rest (sym c.in_ok-rest-3.ensures.found ∙ comma) in
    let body = same_rest (sym c.in_ok-turn.ensures.found ∙ turn) in
    c.in_err-body.ensures.refused room parts.body r body)

pub statement-returns-in_err-body-in-Async-clause-refused : goal.statement-returns-in_err-body-in-Async-clause-refused
statement-returns-in_err-body-in-Async-clause-refused t c =
    passed_on _ _ c.from_residual.ensures.1
    (block_refused c.in-Some.ensures.found c.in-Async.is c.in_err-body-in-Async.ensures.refused async_opened)

pub finish-returns-in_err-body-clause-refused : goal.finish-returns-in_err-body-clause-refused
finish-returns-in_err-body-clause-refused t c =
    passed_on _ _ c.from_residual.ensures.1 (λ room s r ends spelled.
    let parts = finish_opened s _ r spelled in
    c.in_err-body.ensures.refused room parts.body parts.after parts.spelled)

pub finish-returns-in_err-faults-in-Some-clause-refused : goal.finish-returns-in_err-faults-in-Some-clause-refused
finish-returns-in_err-faults-in-Some-clause-refused t c =
    passed_on _ _ c.from_residual-in_err-faults-in-Some.ensures.1 (λ room s r ends spelled.
    let parts = finish_opened s _ r spelled in
    let after = c.in_ok-body.ensures.read.whole parts.body parts.after parts.spelled in
    let named = finish_rescued parts _ ends (sym c.in-Some.ensures.found ∙ after) in
    c.in_err-faults-in-Some.ensures.refused room _ _ named.2)

pub finish-returns-in_err-handler-in-Some-clause-refused : goal.finish-returns-in_err-handler-in-Some-clause-refused
finish-returns-in_err-handler-in-Some-clause-refused t c =
    passed_on _ _ c.from_residual-in_err-handler-in-Some.ensures.1 (λ room s r ends spelled.
    let parts = finish_opened s _ r spelled in
    let after = c.in_ok-body.ensures.read.whole parts.body parts.after parts.spelled in
    let named = finish_rescued parts _ ends (sym c.in-Some.ensures.found ∙ after) in
    let handler = same_rest (sym c.in_ok-faults-in-Some.ensures.found ∙ named.2) in
    c.in_err-handler-in-Some.ensures.refused room named.1 r handler)
