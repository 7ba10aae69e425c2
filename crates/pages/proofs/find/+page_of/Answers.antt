use Rattle.pages.proofs.Finding.{in_first, in_others}
use Rattle.pages.specs.Pages.{answers_to}
use Rattle.pages.proofs.find.+page_of.Goals as goal

pub returns-in-Some : goal.returns-in-Some
returns-in-Some t c =
    in_first (λ page. answers_to page c.args.word.now) c.args.tables.now _ c.in-Some.page.now c.in-len1-up.len_at_least
    c.in-Some.ensures

pub returns-in-None : goal.returns-in-None
returns-in-None t c =
    in_others (λ page. answers_to page c.args.word.now) c.args.tables.now _ _ c.in-len1-up.len_at_least c.in-None.ensures
    c.page_of.ensures
