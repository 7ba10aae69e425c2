use Rattle.std.proofs.Common.{◌≡◌, ◌≤◌, ◌-◌, ℕ, List, map, drop, refl, sym, ap, ◌∙◌, subst, arith}
use Rattle.sections.specs.Translation.{section}
use Rattle.types.specs.Code.{Codes, Procedure}
use Rattle.types.specs.Run.{procedure_of}
use Rattle.types.specs.Translation.{code, codes, number, primitive, program, truth}
use Rattle.types.specs.declared.code.Stmt.{Stmt}
use Rattle.types.specs.Sound.{passed_for}
use Rattle.effects.specs.Effects.{accesses, All, Pending}
use Rattle.effects.specs.Firsts.{AreFirsts, kept_in}
use Rattle.effects.specs.Rows.{Renamed}
use Rattle.effects.specs.Translation.{access}
use Rattle.effects.proofs.Statements.{size, size_in, size-drop, smaller, codes_before, is_If, is_While, is_Split, is_Parts, is_Async, is_Finish}
use Rattle.effects.proofs.Statements.{is_Rescue}
use Rattle.effects.specs.Accesses.{own_accesses}
use Rattle.effects.proofs.AccessesInScope.{pending_all}
use Rattle.rayon.proofs.ListFacts.{IfOk-then}
use Rattle.race_checker.specs.Found.{IsFoundIn, IsFoundOf, IsInFront, IsInTurns, IsWithOwn}
use Rattle.race_checker.specs.Races.{numbered}
use Rattle.race_checker.specs.Translation.{found as race_found}
use Rattle.race_checker.proofs.Finding.{in_range, in_these, below_all, below_of, below_pending, stands_at, stands_behind}
use Rattle.race_checker.proofs.Finding.{stands_if_body, stands_if_other, stands_while, stands_split, stands_parts, stands_async, stands_finish}
use Rattle.race_checker.proofs.Finding.{stands_rescued, stands_handler, found_inside_rescue}
use Rattle.race_checker.proofs.Finding.{found_in_front, found_in_none, found_inside_nothing, found_inside_if, found_inside_split}
use Rattle.race_checker.proofs.Finding.{found_inside_async, found_inside_finish, found_of_arm, found_of_loop, all_of_turn, found_in_turns, found_parts}
use Rattle.race_checker.proofs.Finding.{pending_of_turn, none_behind, least_none}
use Rattle.std.proofs.Crossing.{crosses}
use denote.Param.Send.{sendable}
use Rattle.std.specs.Prelude.{slice_index_or}
use Rattle.rayon.specs.Lists.{chunks_of}
use Rattle.rayon.proofs.ToStd.{chunks_of-concat}
use Rattle.std.proofs.Common.{Result, IfOk, Ok, Err, Vec, Global, max}
use Rattle.std.specs.Prelude.{MatchResult, Contains}
use Rattle.rayon.specs.Lists.{map_f, min_len_base, chunks_size, chunks_slice}
use Rattle.types.specs.Code.{Program}
use Rattle.std.specs.Borrow.{Bor}
use Rattle.std.specs.List.{AllZip}
use Rattle.std.specs.declared.alloc.AllocError.{AllocError}
use Rattle.race_checker.specs.declared.found.Found.{Found}
use Rattle.race_checker.proofs.Pieces.{pieces_of, pieces_found}
use Rattle.race_checker.proofs.walk.+walk.Goals as goal

pub found_in-found_in_piece-requires : goal.found_in-found_in_piece-requires
found_in-found_in_piece-requires g t c κs within =
    (omega arith, (within, (search (sendable, crosses) depth 40, (c.requires.sound, (c.requires.summaries, (c.requires.procedure, c.requires.stands))))))

pub found_in-found_in_pieces-requires : goal.found_in-found_in_pieces-requires
found_in-found_in_pieces-requires g t c κs within =
    (omega arith, (within, (search (sendable, crosses) depth 40, (c.requires.sound, (c.requires.summaries, (c.requires.procedure, (c.requires.stands, omega arith)))))))

pub found_in_pieces-collect-requires-clause-ready : goal.found_in_pieces-collect-requires-clause-ready
found_in_pieces-collect-requires-clause-ready g t c κs within =
    let p = program c.args.code.now in
    let os = (numbered p c.args.procedure.number).sections in
    let body = c.args.body.now in
    let pieces = pieces_of p os (chunks_of 256 body) body (chunks_of-concat 256 body (omega arith)) c.requires.stands in
    rw (c.map.ensures.f, c.map.ensures.base, c.with_min_len.ensures.base, c.par_chunks.ensures.slice, c.par_chunks.ensures.size)
    (λ k d lt x e. rw e (let h = pieces k d lt in (
      (
        let le : size (codes (slice_index_or (chunks_of 256 body) k d)) ≤ size (codes body) = h.small in omega arith,
        (λ a m. m, (search (sendable, crosses) depth 40, (c.requires.sound, (c.requires.summaries, (c.requires.procedure, (h.stands, search (sendable, crosses) depth 40)))))),
      ),
      λ y q. tt,
    )))

pub found_in_pieces-joined-requires-clause-pieces : goal.found_in_pieces-joined-requires-clause-pieces
found_in_pieces-joined-requires-clause-pieces g t c =
    let body = c.args.body.now in
    let asked = map_f c.map.result in
    let q = program asked.2.now in
    let n = asked.4.now.number in
    let IsFoundAt = λ (w : Program × ℕ) (piece : List Stmt) (x : Found). IsFoundIn w.0 (numbered w.0 w.1).sections w.1 (codes piece) x in
    let IsTold = λ (z : Bor (List Stmt)) (r : Result Found AllocError). IfOk r (IsFoundIn q (numbered q n).sections n (codes z.now)) in
    let same : (q, n) ≡ (program c.args.code.now, c.args.procedure.number) = ap (λ cl. (program cl.2.now, cl.4.now.number)) c.map.ensures.f in
    let results = c.in_ok-collect.ensures.0 in
    let chain = c.in_ok-collect.ensures.1 in
    let told = subst (λ (r : Result (Vec Found Global) AllocError). MatchResult r
    (λ v. (ys : List Found) × (results ≡ map Ok ys) × (v.items ≡ ys)) (λ e. Contains results (Err e))) c.in_ok-pieces.was c.in_ok-collect.ensures.2 in
    let chunks = ap (λ it. chunks_of (max (chunks_size (min_len_base it)) 1) (chunks_slice (min_len_base it))) c.map.ensures.base
    ∙ ap (λ it. chunks_of (max (chunks_size it) 1) (chunks_slice it)) c.with_min_len.ensures.base
    ∙ ap (λ k. chunks_of (max k 1) (chunks_slice c.par_chunks.result)) c.par_chunks.ensures.size
    ∙ ap (λ (ss : List Stmt). chunks_of (max 256 1) ss) c.par_chunks.ensures.slice in
    let each = pieces_found q (numbered q n).sections n body AllocError chain.0 told.0
    (subst (λ rs. AllZip IsTold chain.0 rs) told.1 chain.2) in
    subst (λ found. AllZip (IsFoundAt (program c.args.code.now, c.args.procedure.number)) (chunks_of 256 body) found) (sym told.2)
    (subst (λ pieces. AllZip (IsFoundAt (program c.args.code.now, c.args.procedure.number)) pieces told.0) (chain.1 ∙ chunks)
    (subst (λ w. AllZip (IsFoundAt w) (map (λ (z : Bor (List Stmt)). z.now) chain.0) told.0) same each))

pub found_in_piece-loop-place-init : goal.found_in_piece-loop-place-init
found_in_piece-loop-place-init g t c =
    let p = program c.args.code.now in
    let f = c.args.procedure.number in
    let os = (numbered p f).sections in
    subst (λ (b : Codes). IsFoundIn p os f b c.nothing-found.result) (sym (none_behind c.args.piece.now))
    (found_in_none p os f c.nothing-found.result c.nothing-found.ensures.all c.nothing-found.ensures.pending c.nothing-found.ensures.race)

pub found_in_piece-found_of-requires : goal.found_in_piece-found_of-requires
found_in_piece-found_of-requires g t c κs within =
    let k = c.loop-place.place in
    let fewer = smaller c.args.piece.now k c.index-piece-place.result (omega arith) (omega arith) c.index-piece-place.is in
    let stands = stands_at _ _ c.args.piece.now k c.index-piece-place.result (omega arith) (omega arith) c.index-piece-place.is c.requires.stands in
    (omega (arith, fewer, size-drop (k - 1) c.args.piece.now), (within, (search (sendable, crosses) depth 40, (c.requires.sound, (c.requires.summaries, (c.requires.procedure, stands))))))

pub found_in_piece-with_first-requires-clause-pending : goal.found_in_piece-with_first-requires-clause-pending
found_in_piece-with_first-requires-clause-pending g t c =
    let stands = stands_at _ _ c.args.piece.now c.loop-place.place c.index-piece-place.result (omega arith) (omega arith) c.index-piece-place.is c.requires.stands in
    in_these _ c.procedure_of.ensures (in_range _ c.in_ok-here.here.pending _ c.in_ok-here.ensures.pending_firsts (below_pending _ c.requires.sound _ _ _ stands))

pub found_in_piece-with_first-requires-clause-all : goal.found_in_piece-with_first-requires-clause-all
found_in_piece-with_first-requires-clause-all g t c =
    in_these _ c.procedure_of.ensures
    (in_range _ c.loop-place.found.all _ c.loop-place.invariant.all_firsts
    (below_all _ c.requires.sound _ _ (stands_behind _ _ c.args.piece.now c.loop-place.place c.requires.stands)))

pub found_in_piece-loop-place-preserved : goal.found_in_piece-loop-place-preserved
found_in_piece-loop-place-preserved g t c =
    let p = program c.args.code.now in
    let f = c.args.procedure.number in
    let os = (numbered p f).sections in
    let s = c.index-piece-place.result in
    subst (λ (b : Codes). IsFoundIn p os f b c.in_ok-found.found)
    (sym (codes_before c.args.piece.now c.loop-place.place s (omega arith) (omega arith) c.index-piece-place.is))
    (found_in_front p os f s.label (code s.kind) (codes (drop c.loop-place.place c.args.piece.now)) c.in_ok-here.here
    c.loop-place.found c.in_ok-found.found c.in_ok-here.ensures c.loop-place.invariant
    (subst (λ (g : Procedure). IsInFront g.sections f c.in_ok-here.here c.loop-place.found c.in_ok-found.found) c.procedure_of.ensures c.in_ok-found.ensures))

pub found_in_piece-returns : goal.found_in_piece-returns
found_in_piece-returns g t c =
    let p = program c.args.code.now in
    let f = c.args.procedure.number in
    let os = (numbered p f).sections in
    let e : c.loop-place.place ≡ 0 = omega arith in
    subst (λ n. IsFoundIn p os f (codes (drop n c.args.piece.now)) c.loop-place.found) e c.loop-place.invariant

pub found_of-returns-in-Do : goal.found_of-returns-in-Do
found_of-returns-in-Do g t c =
    found_of_arm _ _ _ _ _ _ (ap code c.in-Do.is) (λ x y h. h) _ (ap (map access) c.deref.ensures.value ∙ c.in_ok-own.ensures) _
    (found_inside_nothing (program c.args.code.now) _ _ (primitive c.in-Do.field-0) _ c.nothing.ensures.all c.nothing.ensures.pending c.nothing.ensures.race) _ c.with_own.ensures

pub found_of-found_in-requires : goal.found_of-found_in-requires
found_of-found_in-requires g t c κs within =
    let is = is_If _ c.in-If.guard c.in-If.body c.in-If.other c.deref-in-If.result.now c.in-If.other.items c.in-If.is c.deref-in-If.ensures.value refl in
    let stands = stands_if_body _ _ _ _ c.requires.stands _ _ _ is in
    (omega (arith, ap size_in is), (within, (search (sendable, crosses) depth 40, (c.requires.sound, (c.requires.summaries, (c.requires.procedure, stands))))))

pub found_of-found_in-requires-in-If : goal.found_of-found_in-requires-in-If
found_of-found_in-requires-in-If g t c κs within =
    let is = is_If _ c.in-If.guard c.in-If.body c.in-If.other c.in-If.body.items c.deref-in-If-2.result.now c.in-If.is refl c.deref-in-If-2.ensures.value in
    let stands = stands_if_other _ _ _ _ c.requires.stands _ _ _ is in
    (omega (arith, ap size_in is), (within, (search (sendable, crosses) depth 40, (c.requires.sound, (c.requires.summaries, (c.requires.procedure, stands))))))

pub found_of-returns-in-If : goal.found_of-returns-in-If
found_of-returns-in-If g t c =
    let is = is_If _ c.in-If.guard c.in-If.body c.in-If.other c.deref-in-If.result.now c.deref-in-If-2.result.now c.in-If.is c.deref-in-If.ensures.value c.deref-in-If-2.ensures.value in
    found_of_arm _ _ _ _ _ _ is (λ x y h. h) _ (ap (map access) c.deref-in-If-3.ensures.value ∙ c.in_ok-own.ensures) _
    (found_inside_if _ _ _ (truth c.in-If.guard) _ _ _ _ _ c.in_ok-body-in-If.ensures c.in_ok-other-in-If.ensures c.in_ok-or-in-If.ensures) _ c.with_own-in-If.ensures

pub found_of-found_in-requires-in-While : goal.found_of-found_in-requires-in-While
found_of-found_in-requires-in-While g t c κs within =
    let is = is_While _ c.in-While.guard c.in-While.body c.deref-in-While.result.now c.in-While.is c.deref-in-While.ensures.value in
    let stands = stands_while _ _ _ _ c.requires.stands _ _ is in
    (omega (arith, ap size_in is), (within, (search (sendable, crosses) depth 40, (c.requires.sound, (c.requires.summaries, (c.requires.procedure, stands))))))

pub found_of-in_turn-requires : goal.found_of-in_turn-requires
found_of-in_turn-requires g t c =
    let is = is_While _ c.in-While.guard c.in-While.body c.deref-in-While.result.now c.in-While.is c.deref-in-While.ensures.value in
    let own = ap (map access) c.deref-in-While-2.ensures.value ∙ c.in_ok-own.ensures in
    let turn = c.in_ok-turn-in-While in
    record {
      pending = in_these _ c.procedure_of.ensures
          (in_range _ turn.turn.pending _ (pending_of_turn _ _ _ _ _ _ _ is _ own _ _ c.in_ok-found_in-in-While.ensures turn.ensures)
          (below_pending _ c.requires.sound _ _ _ c.requires.stands));
      all = in_these _ c.procedure_of.ensures
          (in_range _ turn.turn.all _ (all_of_turn _ _ _ _ _ _ _ is _ own _ _ c.in_ok-found_in-in-While.ensures turn.ensures)
          (below_of _ c.requires.sound _ _ _ c.requires.stands));
    }

pub found_of-returns-in-While : goal.found_of-returns-in-While
found_of-returns-in-While g t c =
    let is = is_While _ c.in-While.guard c.in-While.body c.deref-in-While.result.now c.in-While.is c.deref-in-While.ensures.value in
    found_of_loop _ _ _ _ _ _ _ is _ (ap (map access) c.deref-in-While-2.ensures.value ∙ c.in_ok-own.ensures) _ _ _ c.in_ok-found_in-in-While.ensures
    c.in_ok-turn-in-While.ensures (rw (ap (λ (g : Procedure). g.sections) c.procedure_of.ensures) at c.in_turn.ensures)

pub found_of-found_in-requires-in-Split : goal.found_of-found_in-requires-in-Split
found_of-found_in-requires-in-Split g t c κs within =
    let s = c.in-Split in
    let is = is_Split _ s.sides s.body c.deref-in-Split.result.now s.is c.deref-in-Split.ensures.value in
    let stands = stands_split _ _ _ _ c.requires.stands _ _ _ _ _ is in
    (omega (arith, ap size_in is), (within, (search (sendable, crosses) depth 40, (c.requires.sound, (c.requires.summaries, (c.requires.procedure, stands))))))

pub found_of-returns-in-Split : goal.found_of-returns-in-Split
found_of-returns-in-Split g t c =
    let s = c.in-Split in
    let is = is_Split _ s.sides s.body c.deref-in-Split.result.now s.is c.deref-in-Split.ensures.value in
    found_of_arm _ _ _ _ _ _ is (λ x y h. h) _ (ap (map access) c.deref-in-Split-2.ensures.value ∙ c.in_ok-own.ensures) _
    (found_inside_split _ _ _ s.sides.section.number (number s.sides.at) s.sides.left.number s.sides.right.number _ _ _ c.in_ok-found-in-Split.ensures c.in_ok-outside-in-Split.ensures) _
    c.with_own-in-Split.ensures

pub found_of-found_in-requires-in-Parts : goal.found_of-found_in-requires-in-Parts
found_of-found_in-requires-in-Parts g t c κs within =
    let s = c.in-Parts in
    let is = is_Parts _ s.pieces s.body c.deref-in-Parts.result.now s.is c.deref-in-Parts.ensures.value in
    let stands = stands_parts _ _ _ _ c.requires.stands _ _ _ _ _ is in
    (omega (arith, ap size_in is), (within, (search (sendable, crosses) depth 40, (c.requires.sound, (c.requires.summaries, (c.requires.procedure, stands))))))

pub found_of-in_turns-requires : goal.found_of-in_turns-requires
found_of-in_turns-requires g t c =
    let s = c.in-Parts in
    let is = is_Parts _ s.pieces s.body c.deref-in-Parts.result.now s.is c.deref-in-Parts.ensures.value in
    let stands = stands_parts _ _ _ _ c.requires.stands _ _ _ _ _ is in
    let turn = c.in_ok-turn-in-Parts in
    record {
      pending = in_these _ c.procedure_of-in-Parts.ensures
          (in_range _ turn.turn.pending _ turn.ensures.pending_firsts (λ x h. below_all _ c.requires.sound _ _ stands x (pending_all _ h)));
      all = in_these _ c.procedure_of-in-Parts.ensures
          (in_range _ turn.turn.all _ turn.ensures.all_firsts (below_all _ c.requires.sound _ _ stands));
    }

pub found_of-returns-in-Parts : goal.found_of-returns-in-Parts
found_of-returns-in-Parts g t c =
    let s = c.in-Parts in
    let p = program c.args.code.now in
    let n = c.args.procedure.number in
    let os = (numbered p n).sections in
    let l = c.args.statement.now.label in
    let is = is_Parts _ s.pieces s.body c.deref-in-Parts.result.now s.is c.deref-in-Parts.ensures.value in
    let own = ap (map access) c.deref-in-Parts-2.ensures.value ∙ c.in_ok-own.ensures in
    let turns = found_in_turns p os n l s.pieces.piece.number (codes c.deref-in-Parts.result.now) c.in_ok-turn-in-Parts.turn c.in_ok-found-in-Parts.found
    c.in_ok-turn-in-Parts.ensures
    (subst (λ (h : Procedure). IsInTurns h.sections n s.pieces.piece.number c.in_ok-turn-in-Parts.turn c.in_ok-found-in-Parts.found)
    c.procedure_of-in-Parts.ensures c.in_ok-found-in-Parts.ensures) in
    subst (λ k. IfOk c.with_own-in-Parts.result (IsFoundOf p os n l k)) (sym is)
    (IfOk-then c.with_own-in-Parts.result _ _ c.with_own-in-Parts.ensures
    (λ whole o. found_parts p os n l s.pieces.section.number (number s.pieces.size) s.pieces.piece.number s.pieces.turn.number _ _ _ whole turns
    c.in_ok-outside-in-Parts.ensures (subst (λ xs. IsWithOwn xs c.in_ok-outside-in-Parts.outside whole) (own ∙ ap (own_accesses l) is) o)))

pub found_of-returns-in-Call : goal.found_of-returns-in-Call
found_of-returns-in-Call g t c =
    let p = program c.args.code.now in
    let callee = (procedure_of p c.in-Call.callee.number).body in
    let value = ap (map section) c.deref-in-Call.ensures.value in
    let found = c.in_ok-found-in-Call.ensures in
    let whole = c.in_ok-found-in-Call.found in
    found_of_arm _ _ _ _ _ _ (ap code c.in-Call.is) (λ x y h. h) _ (ap (map access) c.deref-in-Call-2.ensures.value ∙ c.in_ok-own.ensures) whole
    (record {
      all_firsts = subst (λ (ss : List ℕ). AreFirsts (Renamed p accesses (passed_for ss) (All p accesses callee)) (kept_in whole.all)) value found.all;
      pending_firsts = subst (λ (ss : List ℕ). AreFirsts (Renamed p accesses (passed_for ss) (Pending p accesses callee)) (kept_in whole.pending)) value found.pending;
      least_race = least_none _ _ (λ x y. ⊥) (race_found whole.race) found.race (λ x y h. h);
    }) _ c.with_own-in-Call.ensures

pub found_of-found_in-requires-in-Async : goal.found_of-found_in-requires-in-Async
found_of-found_in-requires-in-Async g t c κs within =
    let is = is_Async _ c.in-Async.body c.deref-in-Async.result.now c.in-Async.is c.deref-in-Async.ensures.value in
    let stands = stands_async _ _ _ _ c.requires.stands _ is in
    (omega (arith, ap size_in is), (within, (search (sendable, crosses) depth 40, (c.requires.sound, (c.requires.summaries, (c.requires.procedure, stands))))))

pub found_of-returns-in-Async : goal.found_of-returns-in-Async
found_of-returns-in-Async g t c =
    let is = is_Async _ c.in-Async.body c.deref-in-Async.result.now c.in-Async.is c.deref-in-Async.ensures.value in
    let e = c.in_ok-in_async-in-Async.ensures in
    found_of_arm _ _ _ _ _ _ is (λ x y h. h) _ (ap (map access) c.deref-in-Async-2.ensures.value ∙ c.in_ok-own.ensures) _
    (found_inside_async _ _ _ _ _ _ c.in_ok-found-in-Async.ensures e.all e.pending e.race) _ c.with_own-in-Async.ensures

pub found_of-found_in-requires-in-Finish : goal.found_of-found_in-requires-in-Finish
found_of-found_in-requires-in-Finish g t c κs within =
    let is = is_Finish _ c.in-Finish.body c.deref-in-Finish.result.now c.in-Finish.is c.deref-in-Finish.ensures.value in
    let stands = stands_finish _ _ _ _ c.requires.stands _ is in
    (omega (arith, ap size_in is), (within, (search (sendable, crosses) depth 40, (c.requires.sound, (c.requires.summaries, (c.requires.procedure, stands))))))

pub found_of-returns-in-Finish : goal.found_of-returns-in-Finish
found_of-returns-in-Finish g t c =
    let is = is_Finish _ c.in-Finish.body c.deref-in-Finish.result.now c.in-Finish.is c.deref-in-Finish.ensures.value in
    let e = c.in_finish.ensures in
    found_of_arm _ _ _ _ _ _ is (λ x y h. h) _ (ap (map access) c.deref-in-Finish-2.ensures.value ∙ c.in_ok-own.ensures) _
    (found_inside_finish _ _ _ _ _ _ c.in_ok-found-in-Finish.ensures e.all e.pending e.race) _ c.with_own-in-Finish.ensures

pub found_of-found_in-requires-in-Rescue : goal.found_of-found_in-requires-in-Rescue
found_of-found_in-requires-in-Rescue g t c κs within =
    let is = is_Rescue _ c.in-Rescue.body c.in-Rescue.faults c.in-Rescue.handler c.deref-in-Rescue.result.now c.in-Rescue.handler.items c.in-Rescue.is
    c.deref-in-Rescue.ensures.value refl in
    let stands = stands_rescued _ _ _ _ c.requires.stands _ _ _ is in
    (omega (arith, ap size_in is), (within, (search (sendable, crosses) depth 40, (c.requires.sound, (c.requires.summaries, (c.requires.procedure, stands))))))

pub found_of-found_in-requires-in-Rescue-2 : goal.found_of-found_in-requires-in-Rescue-2
found_of-found_in-requires-in-Rescue-2 g t c κs within =
    let is = is_Rescue _ c.in-Rescue.body c.in-Rescue.faults c.in-Rescue.handler c.in-Rescue.body.items c.deref-in-Rescue-2.result.now c.in-Rescue.is
    refl c.deref-in-Rescue-2.ensures.value in
    let stands = stands_handler _ _ _ _ c.requires.stands _ _ _ is in
    (omega (arith, ap size_in is), (within, (search (sendable, crosses) depth 40, (c.requires.sound, (c.requires.summaries, (c.requires.procedure, stands))))))

pub found_of-returns : goal.found_of-returns
found_of-returns g t c =
    let is = is_Rescue _ c.in-Rescue.body c.in-Rescue.faults c.in-Rescue.handler c.deref-in-Rescue.result.now c.deref-in-Rescue-2.result.now c.in-Rescue.is
    c.deref-in-Rescue.ensures.value c.deref-in-Rescue-2.ensures.value in
    let e = c.in_finish-in-Rescue.ensures in
    found_of_arm _ _ _ _ _ _ is (λ x y h. h) _ (ap (map access) c.deref-in-Rescue-3.ensures.value ∙ c.in_ok-own.ensures) _
    (found_inside_rescue _ _ _ _ c.in-Rescue.faults.number _ _ _ _ _ c.in_ok-body-in-Rescue.ensures e.all e.pending e.race
    c.in_ok-handler-in-Rescue.ensures c.in_ok-or-in-Rescue.ensures) _ c.with_own-in-Rescue.ensures
