use Rattle.std.proofs.Common.{Option, ◌∙◌, ap, rules, sym, w64, FitsSigned}
use Rattle.std.proofs.lemmas.Int.{to_z-of_z}
use Rattle.std.specs.Prelude.{option_map, pos, unwrap_or}
use Rattle.blocks.specs.Held.{Held, number_of}
use Rattle.holdings.proofs.ReachLemmas.{place-held, within-list}
use Rattle.holdings.proofs.rows.BlockRows.number_at.Goals as goal

pub returns : goal.returns
returns c =
    let rs = c.args.self.now.list.items in let v = c.number_at.result in
    let fits : FitsSigned w64 v = search rules in
    let lt = within-list rs c.args.array c.requires.row c.requires.there in
    to_z-of_z w64 v fits
    ∙ c.number_at.ensures
    ∙ ap (λ (h : Option Held). unwrap_or (option_map number_of h) (pos 0)) (sym (place-held rs c.args.array c.index-row.result.now lt c.index-row.ensures c.args.at))
