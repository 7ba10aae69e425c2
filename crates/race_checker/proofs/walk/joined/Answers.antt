use Rattle.std.proofs.Common.{◌≡◌, List, [], sym, ap, subst, arith}
use Rattle.std.proofs.lemmas.List.{nil_from_length}
use Rattle.rayon.proofs.ToStd.{chunks_of-concat}
use Rattle.rayon.specs.Lists.{chunks_of}
use Rattle.sections.specs.Origins.{Origin}
use Rattle.sections.specs.Tree.{origins_of}
use Rattle.types.specs.Code.{Procedure}
use Rattle.types.specs.Translation.{program}
use Rattle.race_checker.specs.Found.{IsInFront}
use Rattle.race_checker.specs.Races.{numbered}
use Rattle.race_checker.specs.declared.found.Found.{Found}
use Rattle.race_checker.proofs.Finding.{found_in_none, in_these}
use Rattle.race_checker.proofs.Pieces.{PutTogether, so_far_in_range, piece_in_range, one_more_piece, all_pieces}
use Rattle.race_checker.proofs.walk.joined.Goals as goal

pub loop-piece-init : goal.loop-piece-init
loop-piece-init c =
    let p = program c.args.code.now in
    let f = c.args.procedure.number in
    let os = (numbered p f).sections in
    subst (λ (left : List Found). PutTogether p os f c.args.body.now c.nothing-found.result left)
    (sym c.into_iter-piece-iterator.ensures.into_iter_gives.0) (record {
      front = [];
      pieces = chunks_of 256 c.args.body.now;
      whole = chunks_of-concat 256 c.args.body.now (omega arith);
      of_front = found_in_none p os f c.nothing-found.result c.nothing-found.ensures.all c.nothing-found.ensures.pending c.nothing-found.ensures.race;
      of_pieces = c.requires.pieces;
    })

pub with_first-requires-clause-pending : goal.with_first-requires-clause-pending
with_first-requires-clause-pending c =
    in_these c.loop-piece.found.pending.items.items c.procedure_of.ensures
    (so_far_in_range _ _ c.args.procedure.number c.args.body.now c.requires.sound c.requires.stands
    c.loop-piece.found c.loop-piece.piece-iterator.rest.items c.loop-piece.invariant)

pub with_first-requires-clause-all : goal.with_first-requires-clause-all
with_first-requires-clause-all c =
    let p = program c.args.code.now in
    let f = c.args.procedure.number in
    let os = (numbered p f).sections in
    in_these c.in-Some.piece.all.items.items c.procedure_of.ensures
    (piece_in_range p os f c.args.body.now c.requires.sound c.requires.stands c.loop-piece.found c.in-Some.piece c.next.new.self.rest.items
    (subst (λ (left : List Found). PutTogether p os f c.args.body.now c.loop-piece.found left) c.in-Some.ensures.steps.0 c.loop-piece.invariant))

pub loop-piece-preserved : goal.loop-piece-preserved
loop-piece-preserved c =
    let p = program c.args.code.now in
    let f = c.args.procedure.number in
    let os = (numbered p f).sections in
    let same : origins_of c.procedure_of.result.now.sections ≡ os =
    ap (λ (g : Procedure). g.sections) c.procedure_of.ensures in
    one_more_piece p os f c.args.body.now c.loop-piece.found c.in-Some.piece c.in_ok-found.found c.next.new.self.rest.items
    (subst (λ (left : List Found). PutTogether p os f c.args.body.now c.loop-piece.found left) c.in-Some.ensures.steps.0 c.loop-piece.invariant)
    (subst (λ (o : List Origin). IsInFront o f c.loop-piece.found c.in-Some.piece c.in_ok-found.found) same c.in_ok-found.ensures)

pub returns : goal.returns
returns c =
    let p = program c.args.code.now in
    let f = c.args.procedure.number in
    let os = (numbered p f).sections in
    all_pieces p os f c.args.body.now c.loop-piece.found
    (subst (λ (left : List Found). PutTogether p os f c.args.body.now c.loop-piece.found left)
    (nil_from_length c.loop-piece.piece-iterator.rest.items (omega (arith, c.in-None.ensures.steps.0, c.loop-piece.piece-iterator.rest.ok)))
    c.loop-piece.invariant)
