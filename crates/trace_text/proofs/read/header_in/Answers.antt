use Rattle.std.proofs.Common.{◌<◌, ◌≤◌, ◌^◌, ℕ, List, [], ◌∙◌, arith, rules}
use Rattle.std.proofs.lemmas.Grind.{common_steps}
use Rattle.std.specs.Fmt.{decimal}
use Rattle.trace_text.specs.Spelled.{Lacks}
use Rattle.trace_text.specs.Headers.{format_number}
use Rattle.trace_text.proofs.Arms.{behind_format, behind_nest, behind_steps, behind_w0, most_format, no_format, text_of_front, told_header}
use Rattle.trace_text.proofs.Marks.{number_then_brace, number_then_comma}
use Rattle.trace_text.proofs.read.header_in.Goals as goal

-- a number before a comma, as the result of looking for it there
number_in : {There Told : ℕ → List ℕ → Type 0} (n : ℕ) (behind : List ℕ) → n ≤ 4294967296
    → ((m : ℕ) (left : List ℕ) → m < 2 ^ 64 → Lacks 44 (decimal m) → There m left → Told m left) → There n behind → Told n behind
number_in n behind most told there = told n behind (omega (arith, most)) (number_then_comma n) there

pub returns-in_err-number : goal.returns-in_err-number
returns-in_err-number c = λ h fits same.
    absurd (number_in (format_number h.format) (behind_format h) (most_format h.format) c.in_err-number.ensures (same ∙ text_of_front h))

pub returns-in_err-format : goal.returns-in_err-format
returns-in_err-format c = λ h fits same.
    let number = number_in (format_number h.format) (behind_format h) (most_format h.format) c.in_ok-number.ensures (same ∙ text_of_front h) in
    absurd (no_format h.format (c.in_err-format.ensures h.format number.0))

pub returns-in_err-nest : goal.returns-in_err-nest
returns-in_err-nest c = λ h fits same.
    let number = number_in (format_number h.format) (behind_format h) (most_format h.format) c.in_ok-number.ensures (same ∙ text_of_front h) in
    absurd (number_in h.nest (behind_nest h) (omega (arith, fits.most_nest)) c.in_err-nest.ensures number.1)

pub returns-in_err-steps : goal.returns-in_err-steps
returns-in_err-steps c = λ h fits same.
    let number = number_in (format_number h.format) (behind_format h) (most_format h.format) c.in_ok-number.ensures (same ∙ text_of_front h) in
    let format = c.in_ok-format.ensures h.format number.0 in
    let nest = number_in h.nest (behind_nest h) (omega (arith, fits.most_nest)) c.in_ok-nest.ensures number.1 in
    absurd (number_in h.steps (behind_steps h) (omega (arith, fits.most_steps)) c.in_err-steps.ensures nest.1)

pub returns-in_err-w0 : goal.returns-in_err-w0
returns-in_err-w0 c = λ h fits same.
    let number = number_in (format_number h.format) (behind_format h) (most_format h.format) c.in_ok-number.ensures (same ∙ text_of_front h) in
    let format = c.in_ok-format.ensures h.format number.0 in
    let nest = number_in h.nest (behind_nest h) (omega (arith, fits.most_nest)) c.in_ok-nest.ensures number.1 in
    let steps = number_in h.steps (behind_steps h) (omega (arith, fits.most_steps)) c.in_ok-steps.ensures nest.1 in
    absurd (number_in h.w0 (behind_w0 h) (omega (arith, fits.most_weight)) c.in_err-w0.ensures steps.1)

pub returns-in_err-workers : goal.returns-in_err-workers
returns-in_err-workers c = λ h fits same.
    let number = number_in (format_number h.format) (behind_format h) (most_format h.format) c.in_ok-number.ensures (same ∙ text_of_front h) in
    let format = c.in_ok-format.ensures h.format number.0 in
    let nest = number_in h.nest (behind_nest h) (omega (arith, fits.most_nest)) c.in_ok-nest.ensures number.1 in
    let steps = number_in h.steps (behind_steps h) (omega (arith, fits.most_steps)) c.in_ok-steps.ensures nest.1 in
    let w0 = number_in h.w0 (behind_w0 h) (omega (arith, fits.most_weight)) c.in_ok-w0.ensures steps.1 in
    absurd (c.in_err-workers.ensures h.workers [] (omega (arith, fits.most_workers)) (number_then_brace h.workers) w0.1)

pub returns-in_err-budget : goal.returns-in_err-budget
returns-in_err-budget c = λ h fits same.
    let number = number_in (format_number h.format) (behind_format h) (most_format h.format) c.in_ok-number.ensures (same ∙ text_of_front h) in
    let format = c.in_ok-format.ensures h.format number.0 in
    let nest = number_in h.nest (behind_nest h) (omega (arith, fits.most_nest)) c.in_ok-nest.ensures number.1 in
    let steps = number_in h.steps (behind_steps h) (omega (arith, fits.most_steps)) c.in_ok-steps.ensures nest.1 in
    first_of (search rules, grind (arith, common_steps))

pub returns-in_err-ok : goal.returns-in_err-ok
returns-in_err-ok c = λ h fits same.
    let number = number_in (format_number h.format) (behind_format h) (most_format h.format) c.in_ok-number.ensures (same ∙ text_of_front h) in
    let format = c.in_ok-format.ensures h.format number.0 in
    let nest = number_in h.nest (behind_nest h) (omega (arith, fits.most_nest)) c.in_ok-nest.ensures number.1 in
    let steps = number_in h.steps (behind_steps h) (omega (arith, fits.most_steps)) c.in_ok-steps.ensures nest.1 in
    let w0 = number_in h.w0 (behind_w0 h) (omega (arith, fits.most_weight)) c.in_ok-w0.ensures steps.1 in
    let workers = c.in_ok-workers.ensures h.workers [] (omega (arith, fits.most_workers)) (number_then_brace h.workers) w0.1 in
    first_of (search rules, grind (arith, common_steps))

pub returns : goal.returns
returns c = λ h fits same.
    let number = number_in (format_number h.format) (behind_format h) (most_format h.format) c.in_ok-number.ensures (same ∙ text_of_front h) in
    let format = c.in_ok-format.ensures h.format number.0 in
    let nest = number_in h.nest (behind_nest h) (omega (arith, fits.most_nest)) c.in_ok-nest.ensures number.1 in
    let steps = number_in h.steps (behind_steps h) (omega (arith, fits.most_steps)) c.in_ok-steps.ensures nest.1 in
    let w0 = number_in h.w0 (behind_w0 h) (omega (arith, fits.most_weight)) c.in_ok-w0.ensures steps.1 in
    let workers = c.in_ok-workers.ensures h.workers [] (omega (arith, fits.most_workers)) (number_then_brace h.workers) w0.1 in
    first_of (search (rules, told_header), grind (arith, common_steps, told_header))
