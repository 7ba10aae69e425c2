-- The page found in several tables is the one found in the first table, or else in the others.
use Rattle.std.proofs.Common.{◌≡◌, ◌-◌, ◌≤◌, suc, List, [], ◌∷◌, Bool, Bor, Option, Some, None, find, length, take, drop}
use Rattle.std.proofs.Common.{get_or, arith, ap, subst, sym, ◌∙◌}
use Rattle.std.specs.List.{flat_map}
use Rattle.std.specs.Option.{option_or}
use Rattle.std.proofs.lemmas.List.Folds.{find-append}
use Rattle.std.proofs.Math.Seq.{take-length}
use Rattle.pages.specs.declared.page.Page.{Page}

-- the pages of tables, in their order
abbrev pub all_pages : List (Bor (List Page)) → List Page
all_pages tables = flat_map (λ table. table.now) tables

found_first : (p : Page → Bool) (table : Bor (List Page)) (others : List (Bor (List Page))) (page : Page)
    → Some page ≡ find p table.now → Some page ≡ find p (all_pages (table ∷ others))
found_first p table others page here =
    ap (λ (o : Option Page). option_or o (find p (all_pages others))) here ∙ sym (find-append p table.now (all_pages others))

found_later : (p : Page → Bool) (table : Bor (List Page)) (others : List (Bor (List Page))) (found : Option Page)
    → (let o : Option Page = None in o) ≡ find p table.now → found ≡ find p (all_pages others)
    → found ≡ find p (all_pages (table ∷ others))
found_later p table others found missing later =
    later ∙ ap (λ (o : Option Page). option_or o (find p (all_pages others))) missing
    ∙ sym (find-append p table.now (all_pages others))

-- the first table and the others are all of them
first_and_others : (tables : List (Bor (List Page))) (d : Bor (List Page)) → 1 ≤ length tables
    → get_or tables 0 d ∷ take (length tables - 1) (drop 1 tables) ≡ tables
first_and_others [] d h = absurd (omega (arith, h))
first_and_others (table ∷ others) d h =
    let n : suc (length others) - 1 ≡ length others = omega arith in
    ap (λ n. table ∷ take n others) n ∙ ap (λ ts. table ∷ ts) (take-length others)

pub in_first : (p : Page → Bool) (tables : List (Bor (List Page))) (d : Bor (List Page)) (page : Page) → 1 ≤ length tables
    → Some page ≡ find p (get_or tables 0 d).now → Some page ≡ find p (all_pages tables)
in_first p tables d page long here =
    subst (λ (ts : List (Bor (List Page))). Some page ≡ find p (all_pages ts)) (first_and_others tables d long)
    (found_first p (get_or tables 0 d) (take (length tables - 1) (drop 1 tables)) page here)

pub in_others : (p : Page → Bool) (tables : List (Bor (List Page))) (d : Bor (List Page)) (found : Option Page)
    → 1 ≤ length tables → (let o : Option Page = None in o) ≡ find p (get_or tables 0 d).now
    → found ≡ find p (all_pages (take (length tables - 1) (drop 1 tables))) → found ≡ find p (all_pages tables)
in_others p tables d found long missing later =
    subst (λ (ts : List (Bor (List Page))). found ≡ find p (all_pages ts)) (first_and_others tables d long)
    (found_later p (get_or tables 0 d) (take (length tables - 1) (drop 1 tables)) found missing later)
