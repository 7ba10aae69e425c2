use Rattle.std.proofs.Common.{◌≡◌, ◌∙◌, List, Option, length, map, nat_eq, not, refl, ap}
use Rattle.sections.specs.Tree.{origins_of}
use Rattle.std.specs.List.{filter}
use Rattle.effects.specs.Accesses.{Access}
use Rattle.effects.specs.Translation.{access}
use Rattle.effects.specs.declared.access.Access.{Access as rAccess}
use Rattle.race_checker.specs.Found.{crossing, in_piece, elsewhere}
use Rattle.race_checker.specs.Races.{Race}
use Rattle.race_checker.specs.Search.{lesser_of}
use Rattle.race_checker.specs.Translation.{found as race_found}
use Rattle.race_checker.proofs.PieceLists.{fewer_below, piece_plain, others_plain}
use Rattle.race_checker.proofs.found.Found.in_turns.Goals as goal

pub least_clash-of_piece-requires-clause-pending : goal.least_clash-of_piece-requires-clause-pending
least_clash-of_piece-requires-clause-pending c =
    let to_piece = λ (x : rAccess). nat_eq x.section.number c.args.piece.number in
    fewer_below (length (origins_of c.args.sections.now)) to_piece c.args.self.pending.items.items c.deref.result.now
    (c.deref.ensures.value ∙ c.in_ok-own.ensures ∙ ap (filter to_piece) c.items.ensures) c.requires.pending

pub least_clash-of_piece-requires-clause-later : goal.least_clash-of_piece-requires-clause-later
least_clash-of_piece-requires-clause-later c =
    let beside = λ (x : rAccess). not (nat_eq x.section.number c.args.piece.number) in
    fewer_below (length (origins_of c.args.sections.now)) beside c.args.self.all.items.items c.deref-2.result.now
    (c.deref-2.ensures.value ∙ c.in_ok-later.ensures ∙ ap (filter beside) c.items-2.ensures) c.requires.all

pub least_clash-of_others-requires-clause-pending : goal.least_clash-of_others-requires-clause-pending
least_clash-of_others-requires-clause-pending c =
    let beside = λ (x : rAccess). not (nat_eq x.section.number c.args.piece.number) in
    fewer_below (length (origins_of c.args.sections.now)) beside c.args.self.pending.items.items c.deref-3.result.now
    (c.deref-3.ensures.value ∙ c.in_ok-others.ensures ∙ ap (filter beside) c.items-3.ensures) c.requires.pending

pub returns : goal.returns
returns c =
    let os = origins_of c.args.sections.now in
    let f = c.args.procedure.number in
    let q = c.args.piece.number in
    let all = c.args.self.all.items.items in
    let pending = c.args.self.pending.items.items in
    let to_piece = λ (x : rAccess). nat_eq x.section.number q in
    let beside = λ (x : rAccess). not (nat_eq x.section.number q) in
    let own : map access c.deref.result.now ≡ in_piece q (map access pending) =
    piece_plain q pending c.deref.result.now (c.deref.ensures.value ∙ c.in_ok-own.ensures ∙ ap (filter to_piece) c.items.ensures) in
    let later : map access c.deref-2.result.now ≡ elsewhere q (map access all) =
    others_plain q all c.deref-2.result.now (c.deref-2.ensures.value ∙ c.in_ok-later.ensures ∙ ap (filter beside) c.items-2.ensures) in
    let others : map access c.deref-3.result.now ≡ elsewhere q (map access pending) =
    others_plain q pending c.deref-3.result.now (c.deref-3.ensures.value ∙ c.in_ok-others.ensures ∙ ap (filter beside) c.items-3.ensures) in
    let first : race_found c.least_clash-of_piece.result ≡ crossing os f (in_piece q (map access pending)) (elsewhere q (map access all)) =
    c.least_clash-of_piece.ensures ∙ ap (λ (xs : List Access). crossing os f xs (map access c.deref-2.result.now)) own
    ∙ ap (crossing os f (in_piece q (map access pending))) later in
    let second : race_found c.least_clash-of_others.result ≡ crossing os f (elsewhere q (map access pending)) (map access all) =
    c.least_clash-of_others.ensures ∙ ap (λ (xs : List Access). crossing os f xs (map access c.items-4.result.now)) others
    ∙ ap (λ (xs : List rAccess). crossing os f (elsewhere q (map access pending)) (map access xs)) c.items-4.ensures in
    record {
      all_stays = refl;
      pending_stays = refl;
      race_in_turns = c.lesser-self.ensures
          ∙ ap (λ (r : Option Race). lesser_of r (race_found c.args.self.race))
          (c.lesser.ensures ∙ ap (λ (r : Option Race). lesser_of r (race_found c.least_clash-of_others.result)) first
          ∙ ap (lesser_of (crossing os f (in_piece q (map access pending)) (elsewhere q (map access all)))) second);
    }
