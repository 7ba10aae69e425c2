use Rattle.std.proofs.Common.{◌≡◌, ◌∙◌, map, ap, subst}
use Rattle.types.specs.Translation.{code, codes, program}
use Rattle.effects.specs.AsyncNeeds.{needs_at}
use Rattle.effects.specs.Effects.{accesses, All}
use Rattle.effects.specs.Firsts.{kept_in}
use Rattle.effects.specs.Needs.{needs_by}
use Rattle.effects.specs.Rounds.{needs_of}
use Rattle.effects.specs.Statements.{Block, HasStatement}
use Rattle.effects.specs.Translation.{access, needs}
use Rattle.effects.proofs.AsyncLemmas.{keeps_one, keeps_same, needs_found}
use Rattle.effects.proofs.DoingLemmas.{firsts_added}
use Rattle.effects.proofs.StatementLemmas.{part_inside}
use Rattle.effects.proofs.Statements.{is_Async}
use Rattle.effects.proofs.asyncs.keep.Goals as goal

pub add_block-requires : goal.add_block-requires
add_block-requires c =
    let is = is_Async _ c.in-Async.body c.deref.result.now c.in-Async.is c.deref.ensures.value in
    record {
      sound = c.requires.sound;
      summaries = c.requires.summaries;
      part = part_inside (program c.args.code.now) c.args.statement.now.label (code c.args.statement.now.kind) _ _ c.requires.there is
          Block.async;
    }

pub returns : goal.returns
returns c =
    let p = program c.args.code.now in
    let l = c.args.statement.now.label in
    let b = codes c.deref.result.now in
    let is = is_Async _ c.in-Async.body c.deref.result.now c.in-Async.is c.deref.ensures.value in
    let same : needs c.in_ok-needs.needs ≡ needs_of p b =
    c.in_ok-needs.ensures ∙ ap (λ xs. needs_by (map access xs)) c.items.ensures
    ∙ needs_found p c.requires.sound b (kept_in c.add_block.new.into)
    (firsts_added (All p accesses b) (kept_in c.new-all.result) (kept_in c.add_block.new.into) c.new-all.ensures c.in_ok-add_block.ensures) in
    keeps_same p (λ m d. l ≡ m) _ (needs_at c.args.kept.now) (needs_at c.insert.new.self)
    (keeps_one p c.args.kept.now c.insert.new.self l c.in_ok-needs.needs c.in_ok-insert.ensures.updates b
    (subst (HasStatement p l) is c.requires.there) same)
    (λ m d k. k.0)
