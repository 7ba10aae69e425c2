use Rattle.std.proofs.Common.{◌≡◌, [], ◌∷◌, map, sym, ap, ◌∙◌, rules}
use Rattle.std.proofs.lemmas.List.{nil_from_length}
use Rattle.std.specs.Prelude.{Bool, true, false, if◌then◌else◌}
use Rattle.std.specs.Str.{bytes_eq}
use Rattle.json_answers.specs.AllEnds.{is_new_in, line_of_end}
use Rattle.json_answers.proofs.all_ends.is_new.Goals as goal

pub returns-then-eq : goal.returns-then-eq
returns-then-eq c =
    let line = c.args.line.now in
    let split : c.ends.left.now ≡ c.in-Some.first.now ∷ c.in-Some.later.now = search rules in
    let is : bytes_eq (line_of_end c.in-Some.first.now) line ≡ true
    = ap (λ t. bytes_eq t line) (sym c.as_str.ensures.value) ∙ sym c.eq.ensures ∙ c.if-eq.true in
    sym (ap (λ (b : Bool). if b then false else is_new_in line (map line_of_end c.in-Some.later.now)) is)
    ∙ sym (ap (λ es. is_new_in line (map line_of_end es)) split) ∙ c.ends.invariant

pub ends-preserved : goal.ends-preserved
ends-preserved c =
    let line = c.args.line.now in
    let split : c.ends.left.now ≡ c.in-Some.first.now ∷ c.in-Some.later.now = search rules in
    let is : bytes_eq (line_of_end c.in-Some.first.now) line ≡ false
    = ap (λ t. bytes_eq t line) (sym c.as_str.ensures.value) ∙ sym c.eq.ensures ∙ c.if-eq.false in
    sym (ap (λ (b : Bool). if b then false else is_new_in line (map line_of_end c.in-Some.later.now)) is)
    ∙ sym (ap (λ es. is_new_in line (map line_of_end es)) split) ∙ c.ends.invariant

pub returns : goal.returns
returns c =
    let none : c.ends.left.now ≡ [] = nil_from_length c.ends.left.now c.in_default.ensures.cases in
    sym (ap (λ es. is_new_in c.args.line.now (map line_of_end es)) none) ∙ c.ends.invariant
