-- The tokens that start a statement are those at which the program's statements start.
use Rattle.std.proofs.Common.{◌≡◌, Bool, true, false, List, [], ◌∷◌, ◌++◌, Option, Some, None, refl, ap, sym, ◌∙◌, append_assoc, append-nil}
use Rattle.syntax.specs.declared.token.Word.TheVariants.{Else as WordElse, Rescue as WordRescue}
use Rattle.syntax.specs.declared.token.Mark.TheVariants.{LeftBrace, RightParen, Semicolon, RightBracket, Becomes}
use Rattle.syntax.specs.Spelling.{expr_then, more_then, stmt_then, block_then, arrays_then, parameter_then}
use Rattle.syntax.specs.Spelling.{more_parameters_then, parameters_then, procedures_then, main_tokens, spelling}
use Rattle.syntax.specs.Token.{Token, NameToken, WordToken, MarkToken}
use Rattle.syntax_tree.specs.Tree.{Stmt, Skip, Var, Assign, Store, Print, Fault, If, IfElse, While}
use Rattle.syntax_tree.specs.Tree.{Split, Parts, Call, Async, Finish, Rescue, Block, End, Then, Array, Parameter, Written, Read}
use Rattle.syntax_tree.specs.Tree.{Scalar, Procedure, Main, Program}
use Rattle.statement_places.specs.Starts.{inner_starts, block_starts, procedures_starts, main_starts, starts, token_starts}
use Rattle.statement_places.proofs.ExprStarts.{expr_starts, more_starts, exprs_starts}

mutual
  unfolding token_starts stmt_then block_then inner_starts block_starts

  inner_by_tokens : (s : Stmt) (r : List Token)
      → token_starts true (stmt_then s r) ≡ stmt_then s r ∷ (inner_starts s r ++ token_starts true r)
  inner_by_tokens Skip r = refl
  inner_by_tokens (Var x e) r = ap (λ l. stmt_then (Var x e) r ∷ l) (expr_starts e (MarkToken Semicolon ∷ r))
  inner_by_tokens (Assign x e) r = ap (λ l. stmt_then (Assign x e) r ∷ l) (expr_starts e (MarkToken Semicolon ∷ r))
  inner_by_tokens (Store s i e) r =
      ap (λ l. stmt_then (Store s i e) r ∷ l)
      (expr_starts i (MarkToken RightBracket ∷ MarkToken Becomes ∷ expr_then e (MarkToken Semicolon ∷ r))
      ∙ expr_starts e (MarkToken Semicolon ∷ r))
  inner_by_tokens (Print e es) r =
      ap (λ l. stmt_then (Print e es) r ∷ l)
      (expr_starts e (more_then es (MarkToken Semicolon ∷ r)) ∙ more_starts es (MarkToken Semicolon ∷ r))
  inner_by_tokens (Fault e) r = ap (λ l. stmt_then (Fault e) r ∷ l) (expr_starts e (MarkToken Semicolon ∷ r))
  inner_by_tokens (If e b) r =
      ap (λ l. stmt_then (If e b) r ∷ l) (expr_starts e (MarkToken LeftBrace ∷ block_then b r) ∙ block_by_tokens b r)
  inner_by_tokens (IfElse e b c) r =
      let other = WordToken WordElse ∷ MarkToken LeftBrace ∷ block_then c r in
      ap (λ l. stmt_then (IfElse e b c) r ∷ l)
      (expr_starts e (MarkToken LeftBrace ∷ block_then b other) ∙ block_by_tokens b other
      ∙ ap (λ l. block_starts b other ++ l) (block_by_tokens c r)
      ∙ sym (append_assoc (block_starts b other) (block_starts c r) (token_starts true r)))
  inner_by_tokens (While e b) r =
      ap (λ l. stmt_then (While e b) r ∷ l) (expr_starts e (MarkToken LeftBrace ∷ block_then b r) ∙ block_by_tokens b r)
  inner_by_tokens (Split s e x y b) r = ap (λ l. stmt_then (Split s e x y b) r ∷ l) (expr_starts e _ ∙ block_by_tokens b r)
  inner_by_tokens (Parts s e x i b) r = ap (λ l. stmt_then (Parts s e x i b) r ∷ l) (expr_starts e _ ∙ block_by_tokens b r)
  inner_by_tokens (Call f es) r =
      ap (λ l. stmt_then (Call f es) r ∷ l) (exprs_starts es (MarkToken RightParen ∷ MarkToken Semicolon ∷ r))
  inner_by_tokens (Async b) r = ap (λ l. stmt_then (Async b) r ∷ l) (block_by_tokens b r)
  inner_by_tokens (Finish b) r = ap (λ l. stmt_then (Finish b) r ∷ l) (block_by_tokens b r)
  inner_by_tokens (Rescue b x c) r =
      let handler = WordToken WordRescue ∷ NameToken x ∷ MarkToken LeftBrace ∷ block_then c r in
      ap (λ l. stmt_then (Rescue b x c) r ∷ l)
      (block_by_tokens b handler ∙ ap (λ l. block_starts b handler ++ l) (block_by_tokens c r)
      ∙ sym (append_assoc (block_starts b handler) (block_starts c r) (token_starts true r)))

  block_by_tokens : (b : Block) (r : List Token) → token_starts true (block_then b r) ≡ block_starts b r ++ token_starts true r
  block_by_tokens End r = refl
  block_by_tokens (Then s b) r =
      let inner = inner_starts s (block_then b r) in
      inner_by_tokens s (block_then b r)
      ∙ ap (λ l. stmt_then s (block_then b r) ∷ (inner ++ l)) (block_by_tokens b r)
      ∙ ap (λ l. stmt_then s (block_then b r) ∷ l) (sym (append_assoc inner (block_starts b r) (token_starts true r)))

-- ---- declarations, at which no statement starts

arrays_by_tokens : (declared : List Array) (r : List Token) → token_starts true (arrays_then declared r) ≡ token_starts true r
unfolding token_starts arrays_then
arrays_by_tokens [] r = refl
arrays_by_tokens (a ∷ rest) r = arrays_by_tokens rest r

parameter_by_tokens : (p : Parameter) (r : List Token) → token_starts false (parameter_then p r) ≡ token_starts false r
unfolding token_starts parameter_then
parameter_by_tokens (Written x e) r = refl
parameter_by_tokens (Read x e) r = refl
parameter_by_tokens (Scalar x) r = refl

more_parameters_by_tokens : (ps : List Parameter) (r : List Token)
    → token_starts false (more_parameters_then ps r) ≡ token_starts false r
unfolding token_starts more_parameters_then
more_parameters_by_tokens [] r = refl
more_parameters_by_tokens (p ∷ ps) r = parameter_by_tokens p (more_parameters_then ps r) ∙ more_parameters_by_tokens ps r

parameters_by_tokens : (ps : List Parameter) (r : List Token) → token_starts false (parameters_then ps r) ≡ token_starts false r
unfolding token_starts parameters_then
parameters_by_tokens [] r = refl
parameters_by_tokens (p ∷ ps) r = parameter_by_tokens p (more_parameters_then ps r) ∙ more_parameters_by_tokens ps r

-- ---- programs

main_by_tokens : (ended : Bool) (m : Option Main) → token_starts ended (main_tokens m) ≡ main_starts m
unfolding token_starts main_tokens main_starts
main_by_tokens true None = refl
main_by_tokens false None = refl
main_by_tokens true (Some m) =
    arrays_by_tokens m.arrays (block_then m.body []) ∙ block_by_tokens m.body [] ∙ append-nil (block_starts m.body [])
main_by_tokens false (Some m) =
    arrays_by_tokens m.arrays (block_then m.body []) ∙ block_by_tokens m.body [] ∙ append-nil (block_starts m.body [])

procedure_by_tokens : (p : Procedure) (r : List Token)
    → token_starts false (parameters_then p.parameters (MarkToken RightParen ∷ MarkToken LeftBrace ∷ block_then p.body r))
    ≡ block_starts p.body r ++ token_starts true r
unfolding token_starts
procedure_by_tokens p r =
    parameters_by_tokens p.parameters (MarkToken RightParen ∷ MarkToken LeftBrace ∷ block_then p.body r) ∙ block_by_tokens p.body r

program_by_tokens : (ended : Bool) (ps : List Procedure) (m : Option Main)
    → token_starts ended (procedures_then ps (main_tokens m)) ≡ procedures_starts ps (main_tokens m) ++ main_starts m
unfolding token_starts procedures_then procedures_starts
program_by_tokens ended [] m = main_by_tokens ended m
program_by_tokens true (p ∷ ps) m =
    procedure_by_tokens p (procedures_then ps (main_tokens m))
    ∙ ap (λ l. block_starts p.body (procedures_then ps (main_tokens m)) ++ l) (program_by_tokens true ps m)
    ∙ sym (append_assoc (block_starts p.body (procedures_then ps (main_tokens m))) (procedures_starts ps (main_tokens m)) (main_starts m))
program_by_tokens false (p ∷ ps) m =
    procedure_by_tokens p (procedures_then ps (main_tokens m))
    ∙ ap (λ l. block_starts p.body (procedures_then ps (main_tokens m)) ++ l) (program_by_tokens true ps m)
    ∙ sym (append_assoc (block_starts p.body (procedures_then ps (main_tokens m))) (procedures_starts ps (main_tokens m)) (main_starts m))

pub starts_by_tokens : (p : Program) → token_starts false (spelling p) ≡ starts p
unfolding spelling starts
starts_by_tokens p = program_by_tokens false p.procedures p.main
