use Rattle.std.proofs.Common.{◌≡◌, ◌+◌, ap, ◌∙◌, arith, map}
use Rattle.std.proofs.lemmas.Result.{IfOk-weaker}
use Rattle.sections.specs.Translation.{window}
use Rattle.types.specs.Translation.{environment, program}
use Rattle.holdings.specs.Copied.{split_in}
use Rattle.cost.specs.Copied.{copied_at, length_of, taken_at, written_at}
use Rattle.cost.specs.Cover.{cover_of}
use Rattle.cost.proofs.Covering.{cover-only}
use Rattle.cost.proofs.copied.copied_places.Goals as goal

pub returns : goal.returns
returns c =
    let p = program c.args.code.now in
    let env = environment c.args.environment.now in
    let taken : map window c.deref.result.now ≡ map env.windows (written_at p c.args.label)
    = ap (map window) c.deref.ensures.value ∙ c.in_ok-windows.ensures ∙ ap (map env.windows) (c.written.ensures p c.requires) in
    let cover = cover-only (map window c.deref.result.now) (map window c.in_ok-places.places.items)
    c.in_ok-places.ensures.places c.in_ok-places.ensures.form in
    let split : c.in_ok-split.split ≡ split_in (length_of p) (taken_at p c.args.label env)
    = c.in_ok-split.ensures ∙ ap (split_in (length_of p)) (ap (map window) c.deref-2.ensures.value ∙ cover ∙ ap cover_of taken) in
    IfOk-weaker c.plus.result (λ n. n ≡ c.in_ok-split.split + c.in_ok-split.split) (λ n. n ≡ copied_at p c.args.label env)
    (λ n e. omega (arith, e, split)) c.plus.ensures
