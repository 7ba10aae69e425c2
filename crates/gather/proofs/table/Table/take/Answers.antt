use Rattle.std.proofs.Common.{◌≡◌, ◌∙◌, Option, Some, IsSome, refl, sym, ap, subst, reverse}
use Rattle.std.specs.Prelude.{ℕ, if◌then◌else◌}
use Rattle.types.specs.declared.path.Path.{Path}
use Rattle.types.specs.Translation.{is_path}
use Rattle.gather.specs.Unused.{first_of, said_of}
use Rattle.gather.specs.declared.table.Table.{Table}
use Rattle.gather.proofs.Firsts.{nowhere, stands, taken_out, one_fewer, firsts_after, chained_after, if_none}
use Rattle.gather.proofs.table.Table.take.Goals as goal

-- the table is right
says : (u : Table) (path : Path) (place : Option ℕ) → place ≡ said_of u.first path
    → first_of path.turns.items (reverse u.places.items) ≡ place
says u path place e = sym (u.finds path) ∙ sym e

pub returns-in_err-place-clause-none : goal.returns-in_err-place-clause-none
returns-in_err-place-clause-none c =
    let u = c.args.self.now in
    let path = c.args.path.now in
    if_none _ c.from_residual.result
    (nowhere path.turns.items (reverse u.places.items) (says u path _ c.in_err-place.ensures))

pub take_from-entry-requires : goal.take_from-entry-requires
take_from-entry-requires c =
    let u = c.args.self.now in
    let path = c.args.path.now in
    let at = says u path (Some c.in_ok-place.place) c.in_ok-place.ensures in
    subst IsSome (sym (stands path.turns.items u.places.items c.in_ok-place.place u.chained at)) refl

pub invariant_of-self : goal.invariant_of-self
invariant_of-self c =
    let u = c.args.self.now in
    let path = c.args.path.now in
    let at = says u path (Some c.in_ok-place.place) c.in_ok-place.ensures in
    let taken = c.take_from-entry in
    record {
      chained =
          chained_after path.turns.items u.places.items c.in_ok-place.place u.chained at taken.new.places.items taken.result
          taken.ensures.found taken.ensures.taken;
      finds = λ other.
          c.set_first_place.ensures other
          ∙ ap (λ (o : Option ℕ). if is_path path other then taken.result.next else o) (u.finds other)
          ∙ sym (firsts_after path.turns.items u.places.items c.in_ok-place.place u.chained at taken.new.places.items taken.result
          taken.ensures.found taken.ensures.taken other.turns.items);
    }

pub returns : goal.returns
returns c =
    let u = c.args.self.now in
    let path = c.args.path.now in
    let at = says u path (Some c.in_ok-place.place) c.in_ok-place.ensures in
    record {
      found =
          taken_out path.turns.items u.places.items c.in_ok-place.place u.chained at c.take_from-entry.new.places.items
          c.take_from-entry.result c.take_from-entry.ensures.found c.take_from-entry.ensures.taken;
      none = tt;
      fewer =
          one_fewer path.turns.items u.places.items c.in_ok-place.place u.chained at c.take_from-entry.new.places.items
          c.take_from-entry.result c.take_from-entry.ensures.found c.take_from-entry.ensures.taken;
    }
