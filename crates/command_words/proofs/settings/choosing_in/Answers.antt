use Rattle.std.proofs.Common.{ℕ, List, Option, Bor, sym, ap, ◌∙◌, option_map}
use Rattle.command_words.proofs.Reading.{is_no_seed, is_random}
use Rattle.command_words.proofs.settings.choosing_in.Goals as goal

pub returns-in-Ok : goal.returns-in-Ok
returns-in-Ok c chosen right list file seed =
    let text = c.in-None-None-Some.seed.now in
    let is = sym (ap (λ (o : Option (Bor (List ℕ))). option_map (λ t. t.now) o) c.in-None-None-Some.is-2) ∙ seed in
    is_random chosen text c.from_str_radix.result c.in-Ok.seed right is c.from_str_radix.ensures.value c.in-Ok.is

pub returns-in-Err : goal.returns-in-Err
returns-in-Err c chosen right list file seed =
    let text = c.in-None-None-Some.seed.now in
    let is = sym (ap (λ (o : Option (Bor (List ℕ))). option_map (λ t. t.now) o) c.in-None-None-Some.is-2) ∙ seed in
    absurd (is_no_seed chosen text c.from_str_radix.result c.in-Err.field-0 right is c.from_str_radix.ensures.value c.in-Err.is)
