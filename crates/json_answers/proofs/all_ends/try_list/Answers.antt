use Rattle.std.proofs.Common.{◌≡◌, ◌++◌, ap, ◌∙◌, map, refl, subst, sym, length, arith, rules}
use Rattle.std.proofs.lemmas.List.{length-map}
use Rattle.types.specs.Translation.{input, outcome}
use Rattle.types.specs.Typed.{code_of}
use Rattle.statement_steps.proofs.Steps.{on_ok_both}
use Rattle.commands.proofs.Answering.{declared_of}
use Rattle.step_trees.specs.Standing.{candidate_of, standing, standing_of}
use Rattle.json_answers.specs.declared.all_ends.FoundEnd.{FoundEnd}
use Rattle.json_answers.specs.AllEnds.{further, noted}
use Rattle.json_answers.specs.Outcomes.{outcome_json}
use Rattle.json_answers.specs.Pieces.{line}
use Rattle.json_answers.specs.Searching.{IsSearchWith}
use Rattle.json_answers.proofs.Ends.{ended_search, missing_search, open_search}
use Rattle.json_answers.proofs.all_ends.try_list.Goals as goal

pub returns-in-Ended : goal.returns-in-Ended
returns-in-Ended c =
    let s = c.args.searched in let p = code_of s.typed.now in let i = input s.input.now in let places = s.places.now in
    let old = c.args.search.now in
    let ws = map (λ v. v.items) old.waiting.items in
    let reached = ap (standing p i) (sym c.deref.ensures.value) ∙ sym c.in_ok-stands.ensures ∙ ap standing_of c.in-Ended.is in
    let line_is = c.in_ok-line-in-Ended.ensures.text
    ∙ ap (λ ds. line (outcome_json ds places (outcome c.in-Ended.outcome)))
    (declared_of _ _ s.typed.now c.deref-in-Ended.ensures.value c.code.ensures.field) in
    let end : FoundEnd = record { choices = c.args.choices; outcome = c.in-Ended.outcome; line = c.in_ok-line-in-Ended.line } in
    let search = ended_search p i places ws c.args.choices.items old.ends.items end c.requires.search reached refl line_is in
    on_ok_both c.note.result
    (λ ends waiting. subst (λ es. IsSearchWith p i places (map (λ v. v.items) c.note.new.search.waiting.items) es) (sym ends)
    (subst (λ vs. IsSearchWith p i places (map (λ v. v.items) vs.items) (noted old.ends.items end)) (sym waiting) search))
    c.note.ensures.ends c.note.ensures.waiting

pub returns-in-Ok : goal.returns-in-Ok
returns-in-Ok c =
    let s = c.args.searched in let p = code_of s.typed.now in let i = input s.input.now in let places = s.places.now in
    let old = c.args.search.now in
    let ws = map (λ v. v.items) old.waiting.items in
    let tasks = map candidate_of c.in-Open.tasks.items in
    let stands = ap (standing p i) (sym c.deref.ensures.value) ∙ sym c.in_ok-stands.ensures ∙ ap standing_of c.in-Open.is in
    let number : c.in-Ok.count ≡ c.len.result = search rules in
    let all : c.len.result ≡ length c.in-Open.tasks.items = omega (arith, c.len.ensures) in
    let count : c.in-Ok.count ≡ length tasks = number ∙ all ∙ sym (length-map c.in-Open.tasks.items candidate_of) in
    let more = further c.deref-in-Ok.result.now c.in-Ok.count in
    let search = subst (λ cs. IsSearchWith p i places (ws ++ further cs c.in-Ok.count) old.ends.items) (sym c.deref-in-Ok.ensures.value)
    (open_search p i places ws c.args.choices.items old.ends.items c.requires.search tasks c.in-Ok.count stands count) in
    on_ok_both c.wait_further.result
    (λ waiting ends. subst (λ vs. IsSearchWith p i places vs c.wait_further.new.search.ends.items) (sym waiting)
    (subst (λ es. IsSearchWith p i places (ws ++ more) es.items) (sym ends) search))
    c.wait_further.ensures.waiting c.wait_further.ensures.ends

pub returns : goal.returns
returns c =
    let s = c.args.searched in let p = code_of s.typed.now in let i = input s.input.now in
    let old = c.args.search.now in
    missing_search p i s.places.now (map (λ v. v.items) old.waiting.items) c.args.choices.items old.ends.items c.requires.search
    c.in-NoSuchChoice.field-0
    (ap (standing p i) (sym c.deref.ensures.value) ∙ sym c.in_ok-stands.ensures ∙ ap standing_of c.in-NoSuchChoice.is)
