-- The tokens that spell a program: for each production its tokens, followed by other tokens.
use Rattle.std.specs.Prelude.{List, [], ◌∷◌, Option, None, Some}
use Rattle.syntax_tree.specs.declared.tree.ElementType.{ElementType}
use Rattle.syntax_tree.specs.declared.tree.ElementType.TheVariants.{Int as IntElement, Byte as ByteElement}
use Rattle.syntax_tree.specs.declared.tree.Relation.{Relation}
use Rattle.syntax_tree.specs.declared.tree.Relation.TheVariants.{Less as IsLess, AtMost as IsAtMost}
use Rattle.syntax_tree.specs.declared.tree.Relation.TheVariants.{Greater as IsGreater, AtLeast as IsAtLeast}
use Rattle.syntax_tree.specs.declared.tree.Relation.TheVariants.{Equal as IsEqual, Differs as IsOther}
use Rattle.syntax_tree.specs.declared.tree.Sign.{Sign}
use Rattle.syntax_tree.specs.declared.tree.Sign.TheVariants.{Plus as PlusSign, Minus as MinusSign}
use Rattle.syntax_tree.specs.declared.tree.Operator.{Operator}
use Rattle.syntax_tree.specs.declared.tree.Operator.TheVariants.{Times, Over, Modulo}
use Rattle.syntax.specs.declared.token.Word.{Word}
use Rattle.syntax.specs.declared.token.Word.TheVariants.{And as WordAnd, Array as WordArray, As as WordAs}
use Rattle.syntax.specs.declared.token.Word.TheVariants.{Async as WordAsync, At as WordAt, By as WordBy}
use Rattle.syntax.specs.declared.token.Word.TheVariants.{Byte as WordByte, Parts as WordParts}
use Rattle.syntax.specs.declared.token.Word.TheVariants.{Else as WordElse, False as WordFalse}
use Rattle.syntax.specs.declared.token.Word.TheVariants.{Fault as WordFault, Finish as WordFinish}
use Rattle.syntax.specs.declared.token.Word.TheVariants.{If as WordIf, Int as WordInt, Len as WordLen}
use Rattle.syntax.specs.declared.token.Word.TheVariants.{Main as WordMain, Mut as WordMut, Not as WordNot}
use Rattle.syntax.specs.declared.token.Word.TheVariants.{Or as WordOr, Print as WordPrint, Proc as WordProc}
use Rattle.syntax.specs.declared.token.Word.TheVariants.{Read as WordRead, Rescue as WordRescue}
use Rattle.syntax.specs.declared.token.Word.TheVariants.{Skip as WordSkip, Split as WordSplit}
use Rattle.syntax.specs.declared.token.Word.TheVariants.{True as WordTrue, Var as WordVar, While as WordWhile}
use Rattle.syntax.specs.declared.token.Mark.{Mark}
use Rattle.syntax.specs.declared.token.Mark.TheVariants.{LeftParen, RightParen, LeftBrace, RightBrace}
use Rattle.syntax.specs.declared.token.Mark.TheVariants.{LeftBracket, RightBracket, Comma, Semicolon, Colon}
use Rattle.syntax.specs.declared.token.Mark.TheVariants.{Becomes, Plus, Minus, Star, Slash, Percent, Less}
use Rattle.syntax.specs.declared.token.Mark.TheVariants.{AtMost, Greater, AtLeast, Equal, Differs}
use Rattle.syntax.specs.Token.{Token, NameToken, NumberToken, WordToken, MarkToken}
use Rattle.syntax_tree.specs.Tree.{Expr, Or, Conjs, NoConj, OrConj, Conj, And, Negs, NoNeg, AndNeg, Neg}
use Rattle.syntax_tree.specs.Tree.{Plainly, Not, Cmp, Alone, Compare, Sum, Add, Terms, NoTerm, AddTerm, Prod}
use Rattle.syntax_tree.specs.Tree.{Multiply, Factors, NoFactor, MultiplyFactor, Unary, Positive, Negative}
use Rattle.syntax_tree.specs.Tree.{Atom, Number, True, False, Name, Element, Length, Parens, Stmt, Skip, Var}
use Rattle.syntax_tree.specs.Tree.{Assign, Store, Print, Fault, If, IfElse, While, Split, Parts, Call, Async}
use Rattle.syntax_tree.specs.Tree.{Finish, Rescue, Block, End, Then, Array, Parameter, Written, Read, Scalar}
use Rattle.syntax_tree.specs.Tree.{Procedure, Main, Program}

abbrev pub relation_mark : Relation → Mark
relation_mark IsLess = Less
relation_mark IsAtMost = AtMost
relation_mark IsGreater = Greater
relation_mark IsAtLeast = AtLeast
relation_mark IsEqual = Equal
relation_mark IsOther = Differs

abbrev pub sign_mark : Sign → Mark
sign_mark PlusSign = Plus
sign_mark MinusSign = Minus

abbrev pub operator_mark : Operator → Mark
operator_mark Times = Star
operator_mark Over = Slash
operator_mark Modulo = Percent

abbrev pub element_word : ElementType → Word
element_word IntElement = WordInt
element_word ByteElement = WordByte

unfoldable mutual
  -- expr = conj { "or" conj }
  pub expr_then : Expr → List Token → List Token
  expr_then (Or c cs) r = conj_then c (conjs_then cs r)

  pub conjs_then : Conjs → List Token → List Token
  conjs_then NoConj r = r
  conjs_then (OrConj c cs) r = WordToken WordOr ∷ conj_then c (conjs_then cs r)

  -- conj = neg { "and" neg }
  pub conj_then : Conj → List Token → List Token
  conj_then (And n ns) r = neg_then n (negs_then ns r)

  pub negs_then : Negs → List Token → List Token
  negs_then NoNeg r = r
  negs_then (AndNeg n ns) r = WordToken WordAnd ∷ neg_then n (negs_then ns r)

  -- neg = [ "not" ] cmp
  pub neg_then : Neg → List Token → List Token
  neg_then (Plainly c) r = cmp_then c r
  neg_then (Not c) r = WordToken WordNot ∷ cmp_then c r

  -- cmp = sum [ ( "<" | "<=" | ">" | ">=" | "==" | "!=" ) sum ]
  pub cmp_then : Cmp → List Token → List Token
  cmp_then (Alone s) r = sum_then s r
  cmp_then (Compare s relation t) r = sum_then s (MarkToken (relation_mark relation) ∷ sum_then t r)

  -- sum = prod { ( "+" | "-" ) prod }
  pub sum_then : Sum → List Token → List Token
  sum_then (Add p ts) r = prod_then p (terms_then ts r)

  pub terms_then : Terms → List Token → List Token
  terms_then NoTerm r = r
  terms_then (AddTerm sign p ts) r = MarkToken (sign_mark sign) ∷ prod_then p (terms_then ts r)

  -- prod = unary { ( "*" | "/" | "%" ) unary }
  pub prod_then : Prod → List Token → List Token
  prod_then (Multiply u fs) r = unary_then u (factors_then fs r)

  pub factors_then : Factors → List Token → List Token
  factors_then NoFactor r = r
  factors_then (MultiplyFactor operator u fs) r =
      MarkToken (operator_mark operator) ∷ unary_then u (factors_then fs r)

  -- unary = [ "-" ] atom
  pub unary_then : Unary → List Token → List Token
  unary_then (Positive a) r = atom_then a r
  unary_then (Negative a) r = MarkToken Minus ∷ atom_then a r

  -- atom = number | "true" | "false" | name | name "[" expr "]" | "len" "(" name ")" | "(" expr ")"
  pub atom_then : Atom → List Token → List Token
  atom_then (Number n) r = NumberToken n ∷ r
  atom_then True r = WordToken WordTrue ∷ r
  atom_then False r = WordToken WordFalse ∷ r
  atom_then (Name x) r = NameToken x ∷ r
  atom_then (Element s e) r =
      NameToken s ∷ MarkToken LeftBracket ∷ expr_then e (MarkToken RightBracket ∷ r)
  atom_then (Length s) r =
      WordToken WordLen ∷ MarkToken LeftParen ∷ NameToken s ∷ MarkToken RightParen ∷ r
  atom_then (Parens e) r = MarkToken LeftParen ∷ expr_then e (MarkToken RightParen ∷ r)

-- { "," expr }
unfoldable pub more_then : List Expr → List Token → List Token
more_then [] r = r
more_then (e ∷ es) r = MarkToken Comma ∷ expr_then e (more_then es r)

-- [ expr { "," expr } ]
unfoldable pub exprs_then : List Expr → List Token → List Token
exprs_then [] r = r
exprs_then (e ∷ es) r = expr_then e (more_then es r)

unfoldable mutual
  pub stmt_then : Stmt → List Token → List Token
  -- stmt = "skip" ";"
  stmt_then Skip r = WordToken WordSkip ∷ MarkToken Semicolon ∷ r
  -- | "var" name "=" expr ";"
  stmt_then (Var x e) r =
      WordToken WordVar ∷ NameToken x ∷ MarkToken Becomes ∷ expr_then e (MarkToken Semicolon ∷ r)
  -- | name "=" expr ";"
  stmt_then (Assign x e) r = NameToken x ∷ MarkToken Becomes ∷ expr_then e (MarkToken Semicolon ∷ r)
  -- | name "[" expr "]" "=" expr ";"
  stmt_then (Store s i e) r =
      NameToken s ∷ MarkToken LeftBracket
      ∷ expr_then i (MarkToken RightBracket ∷ MarkToken Becomes ∷ expr_then e (MarkToken Semicolon ∷ r))
  -- | "print" expr { "," expr } ";"
  stmt_then (Print e es) r =
      WordToken WordPrint ∷ expr_then e (more_then es (MarkToken Semicolon ∷ r))
  -- | "fault" expr ";"
  stmt_then (Fault e) r = WordToken WordFault ∷ expr_then e (MarkToken Semicolon ∷ r)
  -- | "if" expr block [ "else" block ]
  stmt_then (If e b) r = WordToken WordIf ∷ expr_then e (MarkToken LeftBrace ∷ block_then b r)
  stmt_then (IfElse e b c) r =
      WordToken WordIf ∷ expr_then e (MarkToken LeftBrace
      ∷ block_then b (WordToken WordElse ∷ MarkToken LeftBrace ∷ block_then c r))
  -- | "while" expr block
  stmt_then (While e b) r = WordToken WordWhile ∷ expr_then e (MarkToken LeftBrace ∷ block_then b r)
  -- | "split" name "at" expr "as" name "," name block
  stmt_then (Split s e x y b) r =
      WordToken WordSplit ∷ NameToken s ∷ WordToken WordAt
      ∷ expr_then e (WordToken WordAs ∷ NameToken x ∷ MarkToken Comma ∷ NameToken y
      ∷ MarkToken LeftBrace ∷ block_then b r)
  -- | "parts" name "by" expr "as" name "," name block
  stmt_then (Parts s e x i b) r =
      WordToken WordParts ∷ NameToken s ∷ WordToken WordBy
      ∷ expr_then e (WordToken WordAs ∷ NameToken x ∷ MarkToken Comma ∷ NameToken i
      ∷ MarkToken LeftBrace ∷ block_then b r)
  -- | name "(" [ expr { "," expr } ] ")" ";"
  stmt_then (Call f es) r =
      NameToken f ∷ MarkToken LeftParen ∷ exprs_then es (MarkToken RightParen ∷ MarkToken Semicolon ∷ r)
  -- | "async" block
  stmt_then (Async b) r = WordToken WordAsync ∷ MarkToken LeftBrace ∷ block_then b r
  -- | "finish" block [ "rescue" name block ]
  stmt_then (Finish b) r = WordToken WordFinish ∷ MarkToken LeftBrace ∷ block_then b r
  stmt_then (Rescue b x c) r =
      WordToken WordFinish ∷ MarkToken LeftBrace
      ∷ block_then b (WordToken WordRescue ∷ NameToken x ∷ MarkToken LeftBrace ∷ block_then c r)

  -- block = "{" { stmt } "}", its first brace before these
  pub block_then : Block → List Token → List Token
  block_then End r = MarkToken RightBrace ∷ r
  block_then (Then s b) r = stmt_then s (block_then b r)

-- array = "array" name ":" elem "[" number "]" ";"
unfoldable pub arrays_then : List Array → List Token → List Token
arrays_then [] r = r
arrays_then (a ∷ rest) r =
    WordToken WordArray ∷ NameToken a.name ∷ MarkToken Colon ∷ WordToken (element_word a.element)
    ∷ MarkToken LeftBracket ∷ NumberToken a.length ∷ MarkToken RightBracket ∷ MarkToken Semicolon
    ∷ arrays_then rest r

abbrev pub array_then : Array → List Token → List Token
array_then a = arrays_then (a ∷ [])

-- param = ( "mut" | "read" ) name ":" elem | name ":" "int"
unfoldable pub parameter_then : Parameter → List Token → List Token
parameter_then (Written x e) r =
    WordToken WordMut ∷ NameToken x ∷ MarkToken Colon ∷ WordToken (element_word e) ∷ r
parameter_then (Read x e) r =
    WordToken WordRead ∷ NameToken x ∷ MarkToken Colon ∷ WordToken (element_word e) ∷ r
parameter_then (Scalar x) r = NameToken x ∷ MarkToken Colon ∷ WordToken WordInt ∷ r

-- { "," param }
unfoldable pub more_parameters_then : List Parameter → List Token → List Token
more_parameters_then [] r = r
more_parameters_then (p ∷ ps) r = MarkToken Comma ∷ parameter_then p (more_parameters_then ps r)

-- [ param { "," param } ]
unfoldable pub parameters_then : List Parameter → List Token → List Token
parameters_then [] r = r
parameters_then (p ∷ ps) r = parameter_then p (more_parameters_then ps r)

-- { proc }, where proc = "proc" name "(" [ param { "," param } ] ")" block
unfoldable pub procedures_then : List Procedure → List Token → List Token
procedures_then [] r = r
procedures_then (p ∷ ps) r =
    WordToken WordProc ∷ NameToken p.name ∷ MarkToken LeftParen
    ∷ parameters_then p.parameters
    (MarkToken RightParen ∷ MarkToken LeftBrace ∷ block_then p.body (procedures_then ps r))

abbrev pub procedure_then : Procedure → List Token → List Token
procedure_then p = procedures_then (p ∷ [])

-- [ "main" "{" { array } { stmt } "}" ]
unfoldable pub main_tokens : Option Main → List Token
main_tokens None = []
main_tokens (Some m) =
    WordToken WordMain ∷ MarkToken LeftBrace ∷ arrays_then m.arrays (block_then m.body [])

-- program = { proc } [ "main" "{" { array } { stmt } "}" ]
unfoldable pub spelling : Program → List Token
spelling p = procedures_then p.procedures (main_tokens p.main)
