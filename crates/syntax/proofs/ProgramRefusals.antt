-- What the first tokens of a list of arrays, parameters or procedures imply about what the tokens
-- spell.
use Rattle.std.proofs.Common.{◌≡◌, ◌≢◌, ◌<◌, ℕ, List, [], ◌∷◌, Option, Some, None, length, refl, ap, arith}
use Rattle.syntax.specs.declared.token.Spanned.{Spanned}
use Rattle.syntax_tree.specs.declared.tree.ElementType.{ElementType}
use Rattle.syntax_tree.specs.declared.tree.ElementType.TheVariants.{Int as IntElement, Byte as ByteElement}
use Rattle.syntax.specs.declared.token.Word.TheVariants.{Array as WordArray, Byte as WordByte, Int as WordInt}
use Rattle.syntax.specs.declared.token.Word.TheVariants.{Main as WordMain, Mut as WordMut, Proc as WordProc}
use Rattle.syntax.specs.declared.token.Word.TheVariants.{Read as WordRead}
use Rattle.syntax.specs.declared.token.Mark.TheVariants.{RightParen, LeftBrace, Comma, Colon}
use Rattle.syntax.specs.Token.{Token, NameToken, WordToken, MarkToken, plain}
use Rattle.syntax_tree.specs.Tree.{Array, Parameter, Written, Read, Scalar, Procedure, Main}
use Rattle.syntax.specs.Spelling.{element_word, block_then, arrays_then, parameter_then, more_parameters_then}
use Rattle.syntax.specs.Spelling.{parameters_then, procedures_then, main_tokens}
use Rattle.syntax.specs.Reading.{binds, list_level}
use Rattle.syntax.proofs.SpellingLemmas.{paren_begins_no_parameter}
use Rattle.syntax.proofs.RefusalLemmas.{same_rest}

pub none_plain : (ts : List Spanned) → plain ts ≡ [] → length ts ≡ 0
none_plain [] none = refl
none_plain (t ∷ ts) none = cc

pub no_element : (ts : List Token) → ((rest : List Token) → ts ≢ WordToken WordInt ∷ rest)
    → ((rest : List Token) → ts ≢ WordToken WordByte ∷ rest) → (e : ElementType) (r : List Token)
    → ts ≢ WordToken (element_word e) ∷ r
no_element ts int byte IntElement r same = int _ same
no_element ts int byte ByteElement r same = byte _ same

pub arrays_opened : (all : List Array) (ts r : List Token) → binds r < list_level
    → WordToken WordArray ∷ ts ≡ arrays_then all r
    → (a : Array) × (more : List Array) × (WordToken WordArray ∷ ts ≡ arrays_then (a ∷ []) (arrays_then more r))
unfolding arrays_then
arrays_opened [] ts r ends same = absurd (omega (arith, ap binds same))
arrays_opened (a ∷ more) ts r ends same = (a, more, same)

pub arrays_closed : (all : List Array) (ts r : List Token) → ((rest : List Token) → ts ≢ WordToken WordArray ∷ rest)
    → ts ≡ arrays_then all r → ts ≡ r
unfolding arrays_then
arrays_closed [] ts r none same = same
arrays_closed (a ∷ more) ts r none same = absurd (none _ same)

pub mut_opened : (p : Parameter) (ts r : List Token) → WordToken WordMut ∷ ts ≡ parameter_then p r
    → (x : List ℕ) × (e : ElementType) × (ts ≡ NameToken x ∷ MarkToken Colon ∷ WordToken (element_word e) ∷ r)
unfolding parameter_then
mut_opened (Written x e) ts r same = (x, e, same_rest same)
mut_opened _ ts r same = cc

pub read_opened : (p : Parameter) (ts r : List Token) → WordToken WordRead ∷ ts ≡ parameter_then p r
    → (x : List ℕ) × (e : ElementType) × (ts ≡ NameToken x ∷ MarkToken Colon ∷ WordToken (element_word e) ∷ r)
unfolding parameter_then
read_opened (Read x e) ts r same = (x, e, same_rest same)
read_opened _ ts r same = cc

pub scalar_opened : (p : Parameter) (ts r : List Token) → ((rest : List Token) → ts ≢ WordToken WordMut ∷ rest)
    → ((rest : List Token) → ts ≢ WordToken WordRead ∷ rest) → ts ≡ parameter_then p r
    → (x : List ℕ) × (ts ≡ NameToken x ∷ MarkToken Colon ∷ WordToken WordInt ∷ r)
unfolding parameter_then
scalar_opened (Written x e) ts r mut read same = absurd (mut _ same)
scalar_opened (Read x e) ts r mut read same = absurd (read _ same)
scalar_opened (Scalar x) ts r mut read same = (x, same)

pub parameters_closed : (all : List Parameter) (ts r : List Token)
    → MarkToken RightParen ∷ ts ≡ parameters_then all (MarkToken RightParen ∷ r) → ts ≡ r
unfolding parameters_then
parameters_closed [] ts r same = same_rest same
parameters_closed (p ∷ more) ts r same = absurd (paren_begins_no_parameter p _ _ same)

pub parameters_opened : (all : List Parameter) (ts r : List Token)
    → ((rest : List Token) → ts ≢ MarkToken RightParen ∷ rest) → ts ≡ parameters_then all (MarkToken RightParen ∷ r)
    → (p : Parameter) × (more : List Parameter)
    × (ts ≡ parameter_then p (more_parameters_then more (MarkToken RightParen ∷ r)))
unfolding parameters_then
parameters_opened [] ts r none same = absurd (none _ same)
parameters_opened (p ∷ more) ts r none same = (p, more, same)

pub more_parameters_opened : (all : List Parameter) (ts r : List Token)
    → MarkToken Comma ∷ ts ≡ more_parameters_then all (MarkToken RightParen ∷ r)
    → (p : Parameter) × (more : List Parameter)
    × (ts ≡ parameter_then p (more_parameters_then more (MarkToken RightParen ∷ r)))
unfolding more_parameters_then
more_parameters_opened [] ts r same = cc
more_parameters_opened (p ∷ more) ts r same = (p, more, same_rest same)

pub more_parameters_closed : (all : List Parameter) (ts r : List Token)
    → ((rest : List Token) → ts ≢ MarkToken Comma ∷ rest) → ts ≡ more_parameters_then all r → ts ≡ r
unfolding more_parameters_then
more_parameters_closed [] ts r none same = same
more_parameters_closed (p ∷ more) ts r none same = absurd (none _ same)

pub procedures_opened : (all : List Procedure) (ts r : List Token) → binds r < list_level
    → WordToken WordProc ∷ ts ≡ procedures_then all r
    → (p : Procedure) × (more : List Procedure)
    × (WordToken WordProc ∷ ts ≡ procedures_then (p ∷ []) (procedures_then more r))
unfolding procedures_then
procedures_opened [] ts r ends same = absurd (omega (arith, ap binds same))
procedures_opened (p ∷ more) ts r ends same = (p, more, same)

pub procedures_closed : (all : List Procedure) (ts r : List Token)
    → ((rest : List Token) → ts ≢ WordToken WordProc ∷ rest) → ts ≡ procedures_then all r → ts ≡ r
unfolding procedures_then
procedures_closed [] ts r none same = same
procedures_closed (p ∷ more) ts r none same = absurd (none _ same)

pub main_opened : (m : Option Main) (ts : List Token) → ts ≢ [] → ts ≡ main_tokens m
    → (k : Main) × (ts ≡ WordToken WordMain ∷ MarkToken LeftBrace ∷ arrays_then k.arrays (block_then k.body []))
unfolding main_tokens
main_opened None ts some same = absurd (some same)
main_opened (Some k) ts some same = (k, same)
