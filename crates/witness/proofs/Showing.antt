-- Two ways that meet show each race.
use Rattle.std.proofs.Common.{inl, inr, ℕ, List, ◌∷◌, refl}
use Rattle.std.specs.Prelude.{true, false}
use Rattle.types.specs.Code.{Code, Codes, Procedure, Program}
use Rattle.effects.specs.Accesses.{Access}
use Rattle.effects.specs.Effects.{accesses, past_parts, All}
use Rattle.effects.specs.Sound.{IsSound, Follows, FollowsOf}
use Rattle.effects.specs.Statements.{Block}
use Rattle.parallel_relation.specs.Together.{OfTurn, Together}
use Rattle.race_checker.specs.Races.{Race, IsRace}
use Rattle.race_checker.proofs.Judging.{numbered_stands}
use Rattle.witness.specs.Meets.{Meets}
use Rattle.witness.specs.Ways.{step}
use Rattle.witness.specs.Witness.{IsShown}
use Rattle.witness.specs.declared.crossing.RunsTogether.{RunsTogether}
use Rattle.witness.specs.declared.crossing.RunsTogether.TheVariants.{Turns}
use Rattle.witness.specs.declared.step.Rule.TheVariants.{Piece}
use Rattle.witness.specs.declared.step.WayStep.{WayStep}
use Rattle.witness.proofs.HasWays.{done, done_of, left, left_of, leads_of, leads_in}

module _ (p : Program) (sound : IsSound p) where
  -- two ways meet in a list
  record HaveMet (b : Codes) (x y : Access) : Type 0 where
    kind : RunsTogether
    one : List WayStep
    other : List WayStep
    meets : Meets p b kind one other x y

  -- a block of a statement follows the rules at its position
  record BlockFollows (g : Procedure) (b : Codes) : Type 0 where
    scope : List ℕ
    follows : Follows p g scope b

  block_follows : {s : Code} {b : Codes} → Block s b → (g : Procedure) (scope : List ℕ) → FollowsOf p g scope s → BlockFollows g b
  block_follows Block.if_body g scope h = record { scope = scope; follows = h.1 }
  block_follows Block.if_other g scope h = record { scope = scope; follows = h.2 }
  block_follows Block.while g scope h = record { scope = scope; follows = h.1 }
  block_follows (Block.split {s} {e} {l} {r} {b}) g scope h = record { scope = l ∷ r ∷ scope; follows = h.2 }
  block_follows (Block.parts {q = q}) g scope h = record { scope = q ∷ scope; follows = h.2 }
  block_follows Block.async g scope h = record { scope = scope; follows = h }
  block_follows Block.finish g scope h = record { scope = scope; follows = h }
  block_follows Block.rescued g scope h = record { scope = scope; follows = h.0 }
  block_follows Block.handler g scope h = record { scope = scope; follows = h.2 }

  -- the step before a turn makes no access
  of_block : (l : ℕ) {b : Codes} {y : Access} → OfTurn p accesses l b y → All p accesses b y
  of_block l (inl h) = elim h [ ]
  of_block l (inr h) = h

  met : {b : Codes} {x y : Access} → Together p accesses b x y → (g : Procedure) (scope : List ℕ) → Follows p g scope b → HaveMet b x y
  met (Together.follows h k) g scope f =
      let w = left_of p sound h g scope f.0 in
      let v = done p sound k g scope f.1 in
      record { kind = _; one = w.steps; other = v.steps; meets = Meets.follows w.leads v.leads }
  met (Together.turns h k) g scope f =
      let w = left_of p sound h g scope f.0 in
      let v = done_of p sound k g scope f.0 in
      record { kind = _; one = w.steps; other = v.steps; meets = Meets.turns w.leads v.leads }
  met (Together.pieces {l = l} {s = s} {q = q} {x = x} {y = y} h) g scope f =
      let w = left p sound h.pending g (q ∷ scope) f.0.2 in
      let v = done p sound (of_block l h.later) g (q ∷ scope) f.0.2 in
      record {
        kind = Turns;
        one = step l Piece (past_parts s q x.section) ∷ w.steps;
        other = step l Piece (past_parts s q y.section) ∷ v.steps;
        meets = Meets.pieces (record {
          pending = record { behind = w.steps; is = refl; leads = w.leads };
          later = record { behind = v.steps; is = refl; leads = v.leads };
          meet = h.meet;
        });
      }
  met (Together.inside blk h) g scope f =
      let r = block_follows blk g scope f.0 in
      let m = met h g r.scope r.follows in
      record { kind = m.kind; one = m.one; other = m.other; meets = Meets.inside blk m.meets }
  met (Together.later h) g scope f =
      let m = met h g scope f.1 in
      record { kind = m.kind; one = m.one; other = m.other; meets = Meets.later m.meets }

  pub shown : (r : Race) → IsRace p r → IsShown p r
  shown r race =
      let st = numbered_stands p r.procedure sound in
      elim race.pair [
        | inl h ↦ (let m = met h st.around.procedure st.around.scope st.follows in
            record { first_pends = true; meeting = m.kind; pending = m.one; later = m.other; shows = m.meets })
        | inr h ↦ (let m = met h st.around.procedure st.around.scope st.follows in
            record { first_pends = false; meeting = m.kind; pending = m.one; later = m.other; shows = m.meets })
      ]

-- if two ways meet, the accesses that they lead to may run together
pub together : (p : Program) {b : Codes} {kind : RunsTogether} {one other : List WayStep} {x y : Access} → Meets p b kind one other x y
    → Together p accesses b x y
together p (Meets.follows w v) = Together.follows (leads_of p w) (leads_in p v)
together p (Meets.turns w v) = Together.turns (leads_of p w) (leads_of p v)
together p (Meets.pieces m) =
    Together.pieces (record { pending = leads_in p m.pending.leads; later = inr (leads_in p m.later.leads); meet = m.meet })
together p (Meets.inside blk m) = Together.inside blk (together p m)
together p (Meets.later m) = Together.later (together p m)
