use Rattle.std.proofs.Common.{◌≡◌, ◌+◌, ◌-◌, ◌<◌, ◌≤◌, ℕ, List, ◌∷◌, ◌++◌, codes, drop, length, refl, ap, sym, ◌∙◌, rules}
use Rattle.std.proofs.Common.{Result, OnOk, String, Global, append_assoc}
use Rattle.std.proofs.lemmas.List.{at_drop_more, at_drop_all}
use Rattle.std.specs.Option.{option_map}
use Rattle.std.specs.String.{string_bytes}
use Rattle.shared_lemmas.proofs.Results.{ok_then}
use Rattle.syntax_tree.specs.declared.tree.Stmt.TheVariants.{If as rIf}
use Rattle.syntax.specs.declared.token.Word.TheVariants.{Else as WordElse, Rescue as WordRescue}
use Rattle.syntax.specs.declared.token.Mark.TheVariants.{LeftBrace}
use Rattle.syntax.specs.declared.token.Left.TheVariants.{Margin, Opening, Operand, Ended, Other}
use Rattle.syntax.specs.Spelling.{stmt_then, block_then}
use Rattle.syntax.specs.Token.{Token, NameToken, WordToken, MarkToken}
use Rattle.syntax.specs.declared.canonical.Lines.{Lines}
use Rattle.syntax.specs.Canonical.{laid}
use Rattle.syntax_tree.specs.Tree.{Stmt, If, IfElse, While, Split, Parts, Async, Finish, Rescue, Block, Then, expr, stmt, block}
use Rattle.syntax.specs.Writing.{place, with_rest}
use Rattle.syntax.proofs.ExpressionText.{ok_map3, pushed}
use Rattle.syntax.proofs.LineText.{wrote, wrote_adds, wrote_text, counted_by, stmt_begins, block_is_line, laid-opening_brace}
use Rattle.syntax.proofs.LineText.{laid-closing_brace, laid_If, laid_IfElse, laid_Else, laid_While, laid_Split, laid_Parts, laid_Async}
use Rattle.syntax.proofs.LineText.{laid_Finish, laid_Rescue, laid_handler, laid_end}
use Rattle.syntax_tree.proofs.RowLemmas.{stmt_If, stmt_IfElse, stmt_While, stmt_Split, stmt_Parts, stmt_Async, stmt_Finish, stmt_Rescue}
use Rattle.syntax.proofs.StatementKinds.{is_simple-true}
use Rattle.syntax.proofs.canonical.+stmt.Goals as goal

pub block-returns-clause-written : goal.block-returns-clause-written
block-returns-clause-written t c =
    let old = c.args.lines.now in
    let inside = c.open.new.self in
    let behind = c.statements.new.lines in
    let body = block c.args.body.now in
    ok_map3 c.close.result c.close.ensures.text c.close.ensures.depth c.close.ensures.label (λ text depth label r.
    wrote old inside Other Margin _ _ (codes " {\n") (old.depth + 1) old.label
    c.in_ok-open.ensures.text c.in_ok-open.ensures.depth c.in_ok-open.ensures.label
    (laid-opening_brace old.depth old.label (block_then body r) (block_is_line body r))
    ∙ c.in_ok-statements.ensures.written r
    ∙ wrote behind c.close.new.self Margin Ended _ _ _ (behind.depth - 1) behind.label text depth label
    (laid-closing_brace behind.depth behind.label r))

-- a statement that consists of a word and a block, after its word is written
block_written : {X E : Type 0} (result : Result X E) (old new : Lines) (now : String Global) (word : List ℕ) (s t : Stmt) (b : Block)
    → s ≡ t → string_bytes now ≡ string_bytes old.text ++ word
    → ((r : List Token) → laid (place old Opening) (stmt_then t r)
    ≡ word ++ laid (place old Other) (MarkToken LeftBrace ∷ block_then b r))
    → OnOk result ((r : List Token) → with_rest (record old { text = now }) Other (MarkToken LeftBrace ∷ block_then b r)
    ≡ with_rest new Ended r)
    → OnOk result ((r : List Token) → with_rest old Opening (stmt_then s r) ≡ with_rest new Ended r)
block_written result old new now word s t b is text laid_so behind =
    ok_then result behind (λ written r. ap (λ x. with_rest old Opening (stmt_then x r)) is
    ∙ wrote_text old now Opening Other _ _ word text (laid_so r) ∙ written r)

pub line-simple-requires-clause-simple : goal.line-simple-requires-clause-simple
line-simple-requires-clause-simple t c = is_simple-true c.args.statement.now c.in-Skip.is

pub line-returns-in-If-clause-written : goal.line-returns-in-If-clause-written
line-returns-in-If-clause-written t c =
    let old = c.args.lines.now in
    ok_then c.conditional.result c.conditional.ensures.written (λ written r.
    ap (λ s. with_rest old Opening (stmt_then (stmt s) r)) c.in-If.is ∙ written r)

pub line-returns-in_ok-header-in-While-clause-written : goal.line-returns-in_ok-header-in-While-clause-written
line-returns-in_ok-header-in-While-clause-written t c =
    let old = c.args.lines.now in
    let e = expr c.in-While.guard in
    let body = block c.deref.result.now in
    let is = ap stmt c.in-While.is ∙ stmt_While c.in-While.guard c.in-While.body
    ∙ ap (λ v. While e (block v)) (sym c.deref.ensures.value) in
    ok_then c.block.result c.block.ensures.written (λ written r.
    ap (λ s. with_rest old Opening (stmt_then s r)) is
    ∙ wrote_adds old c.header.new.lines Opening Other _ _ _ c.in_ok-header-in-While.ensures (laid_While
    (place old Opening) e body r)
    ∙ written r)

pub line-returns-in_ok-split-in-Split-clause-written : goal.line-returns-in_ok-split-in-Split-clause-written
line-returns-in_ok-split-in-Split-clause-written t c =
    let old = c.args.lines.now in
    let s = string_bytes c.in-Split.section in
    let e = expr c.in-Split.at in
    let x = string_bytes c.in-Split.left in
    let y = string_bytes c.in-Split.right in
    let body = block c.deref-in-Split.result.now in
    let is = ap stmt c.in-Split.is ∙ stmt_Split c.in-Split.section c.in-Split.at c.in-Split.left c.in-Split.right c.in-Split.body
    ∙ ap (λ v. Split s e x y (block v)) (sym c.deref-in-Split.ensures.value) in
    ok_then c.block-in-Split.result c.block-in-Split.ensures.written (λ written r.
    ap (λ z. with_rest old Opening (stmt_then z r)) is
    ∙ wrote_text old c.split.new.out Opening Other _ _ _ c.in_ok-split-in-Split.ensures (laid_Split (place old Opening) s e x y body r)
    ∙ written r)

pub line-returns-in_ok-parts-in-Parts-clause-written : goal.line-returns-in_ok-parts-in-Parts-clause-written
line-returns-in_ok-parts-in-Parts-clause-written t c =
    let old = c.args.lines.now in
    let s = string_bytes c.in-Parts.section in
    let e = expr c.in-Parts.size in
    let x = string_bytes c.in-Parts.piece in
    let y = string_bytes c.in-Parts.turn in
    let body = block c.deref-in-Parts.result.now in
    let is = ap stmt c.in-Parts.is ∙ stmt_Parts c.in-Parts.section c.in-Parts.size c.in-Parts.piece c.in-Parts.turn c.in-Parts.body
    ∙ ap (λ v. Parts s e x y (block v)) (sym c.deref-in-Parts.ensures.value) in
    ok_then c.block-in-Parts.result c.block-in-Parts.ensures.written (λ written r.
    ap (λ z. with_rest old Opening (stmt_then z r)) is
    ∙ wrote_text old c.parts.new.out Opening Other _ _ _ c.in_ok-parts-in-Parts.ensures (laid_Parts (place old Opening) s e x y body r)
    ∙ written r)

pub line-returns-in_ok-push_str-in-Async-clause-written : goal.line-returns-in_ok-push_str-in-Async-clause-written
line-returns-in_ok-push_str-in-Async-clause-written t c =
    let body = block c.deref-in-Async.result.now in
    let is = ap stmt c.in-Async.is ∙ stmt_Async c.in-Async.body ∙ ap (λ v. Async (block v)) (sym c.deref-in-Async.ensures.value) in
    block_written c.block-in-Async.result c.args.lines.now c.block-in-Async.new.lines c.push_str.new.self (codes "async") _ _ body is
    c.in_ok-push_str-in-Async.ensures.bytes (laid_Async (place c.args.lines.now Opening) body) c.block-in-Async.ensures.written

pub line-returns-in_ok-push_str-in-Finish-clause-written : goal.line-returns-in_ok-push_str-in-Finish-clause-written
line-returns-in_ok-push_str-in-Finish-clause-written t c =
    let body = block c.deref-in-Finish.result.now in
    let is = ap stmt c.in-Finish.is ∙ stmt_Finish c.in-Finish.body ∙ ap (λ v. Finish (block v)) (sym c.deref-in-Finish.ensures.value) in
    block_written c.block-in-Finish.result c.args.lines.now c.block-in-Finish.new.lines c.push_str-in-Finish.new.self (codes "finish") _ _ body is
    c.in_ok-push_str-in-Finish.ensures.bytes (laid_Finish (place c.args.lines.now Opening) body) c.block-in-Finish.ensures.written

pub line-returns-in-Rescue-clause-written : goal.line-returns-in-Rescue-clause-written
line-returns-in-Rescue-clause-written t c =
    let old = c.args.lines.now in
    ok_then c.rescue.result c.rescue.ensures.written (λ written r.
    ap (λ s. with_rest old Opening (stmt_then (stmt s) r)) c.in-Rescue.is ∙ written r)

pub line-returns-in_ok-simple-in-Skip : goal.line-returns-in_ok-simple-in-Skip
unfolding lib.Utf8.encode
line-returns-in_ok-simple-in-Skip t c =
    let old = c.simple.new.lines in
    let added = pushed c.push.result _ _ _ c.push.ensures.bytes in
    record {
      counted = ok_then c.push.result added (λ text. counted_by old (record old { text = c.push.new.self }) (codes ";") text refl refl
          c.in_ok-simple-in-Skip.ensures.counted);
      written = ok_then c.push.result added (λ text r. c.in_ok-simple-in-Skip.ensures.written r
          ∙ wrote_text old c.push.new.self Operand Ended _ _ (codes ";") text (laid_end (place old Operand) r));
    }

pub conditional-returns-in-None-clause-written : goal.conditional-returns-in-None-clause-written
conditional-returns-in-None-clause-written t c = λ r.
    let old = c.args.lines.now in
    let guard = c.args.guard.now in
    let body = block c.deref.result.now in
    let is = ap (λ o. stmt (rIf guard c.args.body.now o)) c.in-None.is ∙ stmt_If guard c.args.body.now
    ∙ ap (λ v. If (expr guard) (block v)) (sym c.deref.ensures.value) in
    ap (λ s. with_rest old Opening (stmt_then s r)) is
    ∙ wrote_adds old c.header.new.lines Opening Other _ _ _ c.in_ok-header.ensures (laid_If (place old Opening) (expr guard) body r)
    ∙ c.in_ok-block.ensures.written r

pub conditional-returns-in_ok-push_str-in-Some-clause-written : goal.conditional-returns-in_ok-push_str-in-Some-clause-written
conditional-returns-in_ok-push_str-in-Some-clause-written t c =
    let old = c.args.lines.now in
    let between = c.block.new.lines in
    let guard = c.args.guard.now in
    let e = expr guard in
    let body = block c.deref.result.now in
    let other = block c.deref-in-Some.result.now in
    let is = ap (λ o. stmt (rIf guard c.args.body.now o)) c.in-Some.is ∙ stmt_IfElse guard c.args.body.now c.in-Some.other
    ∙ ap (λ v. IfElse e (block v) (block c.in-Some.other.items)) (sym c.deref.ensures.value)
    ∙ ap (λ v. IfElse e body (block v)) (sym c.deref-in-Some.ensures.value) in
    ok_then c.block-in-Some.result c.block-in-Some.ensures.written (λ written r.
    ap (λ s. with_rest old Opening (stmt_then s r)) is
    ∙ wrote_adds old c.header.new.lines Opening Other _ _ _ c.in_ok-header.ensures (laid_IfElse (place old Opening) e body other r)
    ∙ c.in_ok-block.ensures.written (WordToken WordElse ∷ MarkToken LeftBrace ∷ block_then other r)
    ∙ wrote_text between c.push_str.new.self Ended Other _ _ (codes " else") c.in_ok-push_str-in-Some.ensures.bytes (laid_Else
    (place between Ended) (block_then other r))
    ∙ written r)

pub rescue-returns-clause-written : goal.rescue-returns-clause-written
rescue-returns-clause-written t c =
    let old = c.args.lines.now in
    let between = c.block.new.lines in
    let word = string_bytes c.push_str-2.new.self in
    let x = string_bytes c.args.faults.now in
    let body = block c.deref.result.now in
    let handler = block c.deref-2.result.now in
    let is = stmt_Rescue c.args.body.now c.args.faults.now c.args.handler.now
    ∙ ap (λ v. Rescue (block v) x (block c.args.handler.now.items)) (sym c.deref.ensures.value)
    ∙ ap (λ v. Rescue body x (block v)) (sym c.deref-2.ensures.value) in
    let name = c.in_ok-push_str-3.ensures.bytes ∙ ap (λ l. word ++ l) c.as_str.ensures.value
    ∙ ap (λ l. l ++ x) c.in_ok-push_str-2.ensures.bytes ∙ append_assoc (string_bytes between.text) (codes " rescue ") x in
    ok_then c.block-2.result c.block-2.ensures.written (λ written r.
    ap (λ s. with_rest old Opening (stmt_then s r)) is
    ∙ wrote_text old c.push_str.new.self Opening Other _ _ (codes "finish") c.in_ok-push_str.ensures.bytes
    (laid_Rescue (place old Opening) body x handler r)
    ∙ c.in_ok-block.ensures.written (WordToken WordRescue ∷ NameToken x ∷ MarkToken LeftBrace ∷ block_then handler r)
    ∙ wrote_text between c.push_str-3.new.self Ended Other _ _ (codes " rescue " ++ x) name
    (laid_handler (place between Ended) x (block_then handler r))
    ∙ written r)

pub statements-loop-statement-preserved : goal.statements-loop-statement-preserved
unfolding block_then
statements-loop-statement-preserved t c =
    let xs = c.args.body.now in
    let i = c.loop-statement.statement-index in
    let x = c.statement-item.result in
    let old = c.loop-statement.lines in
    let written = c.line.new.lines in
    let rest = block (drop (i + 1) xs) in
    let inside : i < length xs = search rules in
    let front = at_drop_more block xs i x inside ∙ ap (λ y. Then (stmt y) rest) (sym c.statement-item.is) in
    let ends = c.in_ok-end.ensures in
    record {
      counted = counted_by written c.end.new.self _ ends.text ends.depth ends.label c.in_ok-line.ensures.counted;
      written = λ r. c.loop-statement.invariant.written r
          ∙ ap (λ b. with_rest old Margin (block_then b r)) front
          ∙ wrote old c.begin_statement.new.self Margin Opening _ _ _ old.depth (option_map (λ n. n + 1) old.label)
          c.in_ok-begin_statement.ensures.text c.in_ok-begin_statement.ensures.depth c.in_ok-begin_statement.ensures.label
          (stmt_begins old.depth old.label (stmt x) (block_then rest r))
          ∙ c.in_ok-line.ensures.written (block_then rest r)
          ∙ wrote_adds written c.end.new.self Ended Margin _ _ (codes "\n") ends (block_is_line rest r written.depth written.label);
    }

pub statements-returns-clause-written : goal.statements-returns-clause-written
unfolding block_then
statements-returns-clause-written t c = λ r.
    let xs = c.args.body.now in
    let at_end : length xs ≤ c.loop-statement.statement-index = search rules in
    c.loop-statement.invariant.written r
    ∙ ap (λ b. with_rest c.loop-statement.lines Margin (block_then b r)) (at_drop_all block xs
    c.loop-statement.statement-index at_end)
