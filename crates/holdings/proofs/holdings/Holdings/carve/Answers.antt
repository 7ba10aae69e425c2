use Rattle.std.proofs.Common.{◌≡◌, ◌∙◌, Bool, ap, arith, map, sym}
use Rattle.sections.specs.Covers.{has}
use Rattle.sections.specs.Place.{Place}
use Rattle.sections.specs.Translation.{window as window_of}
use Rattle.blocks.specs.Held.{Held, Map, without}
use Rattle.holdings.specs.Carvings.{copied_places, cut_places, moved_places}
use Rattle.holdings.specs.Pieces.{taking}
use Rattle.holdings.proofs.CoverLemmas.{copies-from, counts-from}
use Rattle.holdings.proofs.MapLemmas.{taken-only}
use Rattle.holdings.specs.Rows.{held_in}
use Rattle.holdings.specs.Holdings.{held}
use Rattle.holdings.proofs.holdings.Holdings.carve.Goals as goal

pub cut_all-requires-clause-owned : goal.cut_all-requires-clause-owned
cut_all-requires-clause-owned c =
    let there = c.has_all.ensures.0 c.if-not-has_all.false in
    λ q is. there q (sym (ap (λ ws. has (map window_of ws) q) c.deref.ensures.value ∙ c.in_ok-places.ensures.places q) ∙ is)

pub returns-clause-taken : goal.returns-clause-taken
returns-clause-taken c =
    let own = held c.args.self.now in
    let cs = c.in_ok-carvings.carvings.list.items in
    c.carve_all.ensures.taken
    ∙ ap (λ (m : Map Held). taking (moved_places cs) m (held_in c.cut_all.new.others)) c.in_ok-carvings.ensures.same
    ∙ ap (taking (moved_places cs) own) c.in_ok-carvings.ensures.taken
    ∙ taken-only (moved_places cs) (copied_places cs) (has (map window_of c.args.windows.now)) own
    (λ q. sym (ap (λ ws. has (map window_of ws) q) c.deref.ensures.value ∙ c.in_ok-places.ensures.places q) ∙ c.in_ok-carvings.ensures.places q)

pub returns-clause-left : goal.returns-clause-left
returns-clause-left c =
    let own = held c.args.self.now in
    let cs = c.in_ok-carvings.carvings.list.items in
    let places : cut_places cs ≡ has (map window_of c.args.windows.now) = λ t q.
    (sym (c.in_ok-carvings.ensures.places q)
    ∙ ap (λ ws. has (map window_of ws) q) c.deref.ensures.value ∙ c.in_ok-places.ensures.places q) t in
    c.carve_all.ensures.left
    ∙ ap (without (cut_places cs)) c.in_ok-carvings.ensures.same
    ∙ ap (λ (set : Place → Bool). without set own) places

pub returns-clause-copied : goal.returns-clause-copied
returns-clause-copied c =
    let cs = c.in_ok-carvings.carvings in
    copies-from (held c.args.self.now) (has (map window_of c.deref.result.now)) (has (map window_of c.args.windows.now)) cs.copied
    c.args.self.now.copied c.saturating_add-self.result
    (λ q. ap (λ ws. has (map window_of ws) q) c.deref.ensures.value ∙ c.in_ok-places.ensures.places q)
    c.in_ok-carvings.ensures.copied (omega (arith, c.saturating_add-self.ensures))

pub returns-clause-counted : goal.returns-clause-counted
returns-clause-counted c =
    let cs = c.in_ok-carvings.carvings in
    counts-from (held c.args.self.now) (has (map window_of c.deref.result.now)) (has (map window_of c.args.windows.now)) cs.copied
    c.args.self.now.copied c.saturating_add-self.result
    (λ q. ap (λ ws. has (map window_of ws) q) c.deref.ensures.value ∙ c.in_ok-places.ensures.places q)
    c.in_ok-carvings.ensures.counted c.saturating_add-self.ensures
