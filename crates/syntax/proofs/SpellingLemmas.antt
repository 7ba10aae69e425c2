-- No two programs have the same spelling.
use Rattle.std.proofs.Common.{◌≡◌, ◌≢◌, ◌<◌, List, [], ◌∷◌, Option, Some, None, refl, ap, sym, arith}
use Rattle.syntax_tree.specs.declared.tree.ElementType.{ElementType}
use Rattle.syntax_tree.specs.declared.tree.ElementType.TheVariants.{Int as IntElement, Byte as ByteElement}
use Rattle.syntax.specs.declared.token.Mark.TheVariants.{RightParen, LeftBrace}
use Rattle.syntax.specs.Token.{Token, MarkToken}
use Rattle.syntax_tree.specs.Tree.{Array, Parameter, Written, Read, Scalar, Procedure, Main, Program}
use Rattle.syntax.specs.Spelling.{element_word, block_then, arrays_then, parameter_then, more_parameters_then}
use Rattle.syntax.specs.Spelling.{parameters_then, procedures_then, main_tokens, spelling}
use Rattle.syntax.specs.Reading.{binds, list_level}
use Rattle.syntax.proofs.ListSpellings.{lists_one}
use Rattle.syntax.proofs.StmtSpellings.{block_binds, block_one}

element_one : (x y : ElementType) → element_word x ≡ element_word y → x ≡ y
element_one IntElement IntElement e = refl
element_one ByteElement ByteElement e = refl
element_one _ _ e = cc

array_parts : (a b : Array) (rest more : List Array) (r s : List Token)
    → binds r < list_level → binds s < list_level → arrays_then (a ∷ rest) r ≡ arrays_then (b ∷ more) s
    → (a ≡ b) × (arrays_then rest r ≡ arrays_then more s)
unfolding arrays_then
array_parts a b rest more r s ends other same =
    let elements : a.element ≡ b.element = element_one _ _ (cc) in
    let names : a.name ≡ b.name = cc in
    let lengths : a.length ≡ b.length = cc in
    let first : a ≡ b = λ i. record { name = names i; element = elements i; length = lengths i } in
    (first, cc)

pub arrays_one : (x y : List Array) (r s : List Token) → binds r < list_level → binds s < list_level
    → arrays_then x r ≡ arrays_then y s → (x ≡ y) × (r ≡ s)
unfolding arrays_then
arrays_one = lists_one arrays_then (λ r. refl) (λ a rest r. omega arith) array_parts

pub parameter_one : (x y : Parameter) (r s : List Token) → parameter_then x r ≡ parameter_then y s → (x ≡ y) × (r ≡ s)
unfolding parameter_then
parameter_one (Written x e) (Written y f) r s same = let elements = element_one e f (cc) in (cc, cc)
parameter_one (Read x e) (Read y f) r s same = let elements = element_one e f (cc) in (cc, cc)
parameter_one (Scalar x) (Scalar y) r s same = (cc, cc)
parameter_one _ _ r s same = cc

parameter_parts : (p q : Parameter) (ps qs : List Parameter) (r s : List Token)
    → binds r < list_level → binds s < list_level
    → more_parameters_then (p ∷ ps) r ≡ more_parameters_then (q ∷ qs) s
    → (p ≡ q) × (more_parameters_then ps r ≡ more_parameters_then qs s)
unfolding more_parameters_then
parameter_parts p q ps qs r s ends other same =
    parameter_one p q (more_parameters_then ps r) (more_parameters_then qs s) (cc)

pub more_parameters_one : (x y : List Parameter) (r s : List Token) → binds r < list_level → binds s < list_level
    → more_parameters_then x r ≡ more_parameters_then y s → (x ≡ y) × (r ≡ s)
unfolding more_parameters_then
more_parameters_one = lists_one more_parameters_then (λ r. refl) (λ p ps r. omega arith) parameter_parts

pub paren_begins_no_parameter : (p : Parameter) (r s : List Token) → MarkToken RightParen ∷ s ≢ parameter_then p r
unfolding parameter_then
paren_begins_no_parameter (Written x e) r s same = cc
paren_begins_no_parameter (Read x e) r s same = cc
paren_begins_no_parameter (Scalar x) r s same = cc

pub parameters_one : (x y : List Parameter) (r s : List Token)
    → parameters_then x (MarkToken RightParen ∷ r) ≡ parameters_then y (MarkToken RightParen ∷ s) → (x ≡ y) × (r ≡ s)
unfolding parameters_then
parameters_one [] [] r s same = (refl, cc)
parameters_one [] (q ∷ qs) r s same = absurd (paren_begins_no_parameter q _ _ same)
parameters_one (p ∷ ps) [] r s same = absurd (paren_begins_no_parameter p _ _ (sym same))
parameters_one (p ∷ ps) (q ∷ qs) r s same =
    let first = parameter_one p q (more_parameters_then ps (MarkToken RightParen ∷ r))
    (more_parameters_then qs (MarkToken RightParen ∷ s)) same in
    let more = more_parameters_one ps qs (MarkToken RightParen ∷ r) (MarkToken RightParen ∷ s) (omega arith) (omega arith) first.1 in
    let last = more.1 in
    (cc (first.0, more.0), cc)

procedure_parts : (p q : Procedure) (ps qs : List Procedure) (r s : List Token)
    → binds r < list_level → binds s < list_level → procedures_then (p ∷ ps) r ≡ procedures_then (q ∷ qs) s
    → (p ≡ q) × (procedures_then ps r ≡ procedures_then qs s)
unfolding procedures_then
procedure_parts p q ps qs r s ends other same =
    let parameters = parameters_one p.parameters q.parameters (MarkToken LeftBrace
    ∷ block_then p.body (procedures_then ps r)) (MarkToken LeftBrace ∷ block_then q.body (procedures_then qs s))
    (cc) in
    let brace = parameters.1 in
    let body = block_one p.body q.body (procedures_then ps r) (procedures_then qs s) (cc) in
    let names : p.name ≡ q.name = cc in
    let first : p ≡ q = λ i. record { name = names i; parameters = parameters.0 i; body = body.0 i } in
    (first, body.1)

pub procedures_one : (x y : List Procedure) (r s : List Token) → binds r < list_level → binds s < list_level
    → procedures_then x r ≡ procedures_then y s → (x ≡ y) × (r ≡ s)
unfolding procedures_then
procedures_one = lists_one procedures_then (λ r. refl) (λ p ps r. omega arith) procedure_parts

pub main_binds : (m : Option Main) → binds (main_tokens m) ≡ 0
unfolding main_tokens
main_binds None = refl
main_binds (Some m) = refl

main_one : (x y : Option Main) → main_tokens x ≡ main_tokens y → x ≡ y
unfolding main_tokens
main_one None None same = refl
main_one None (Some m) same = cc
main_one (Some m) None same = cc
main_one (Some m) (Some k) same =
    let arrays = arrays_one m.arrays k.arrays (block_then m.body []) (block_then k.body [])
    (omega (arith, block_binds m.body [])) (omega (arith, block_binds k.body [])) (cc) in
    let body = block_one m.body k.body [] [] arrays.1 in
    ap Some (λ i. record { arrays = arrays.0 i; body = body.0 i })

pub one_spelling : (p q : Program) → spelling p ≡ spelling q → p ≡ q
unfolding spelling
one_spelling p q same =
    let procedures = procedures_one p.procedures q.procedures (main_tokens p.main) (main_tokens q.main)
    (omega (arith, main_binds p.main)) (omega (arith, main_binds q.main)) same in
    let mains = main_one p.main q.main procedures.1 in
    λ i. record { procedures = procedures.0 i; main = mains i }
