use Rattle.std.proofs.Common.{ℕ, sym, subst}
use Rattle.types.specs.Code.{Program}
use Rattle.types.specs.Typed.{code_of}
use Rattle.effects.specs.AsyncNeeds.{IsNeedAt, needs_at}
use Rattle.effects.specs.Sound.{IsSound}
use Rattle.effects.specs.Summarized.{AreOfProcedures}
use Rattle.effects.proofs.Summarizing.{are_of_procedures}
use Rattle.effects.proofs.summaries.summarize.Goals as goal

pub needs_of_asyncs-requires-clause-sound : goal.needs_of_asyncs-requires-clause-sound
needs_of_asyncs-requires-clause-sound c = subst IsSound (sym c.code-2.ensures.code) c.typed_programs_are_sound.ensures.typed

pub needs_of_asyncs-requires-clause-summaries : goal.needs_of_asyncs-requires-clause-summaries
needs_of_asyncs-requires-clause-summaries c =
    let p : Program = code_of c.args.typed.now in
    subst (λ (q : Program). AreOfProcedures q c.deref.result.now) (sym c.code-2.ensures.code)
    (subst (AreOfProcedures p) (sym c.deref.ensures.value)
    (are_of_procedures p c.typed_programs_are_sound.ensures.typed c.in_ok-procedures.procedures.items _ c.code.ensures.code
    c.in_ok-procedures.ensures.exact c.in_ok-procedures.ensures.number))

pub returns : goal.returns
returns c =
    let p : Program = code_of c.args.typed.now in
    record {
      exact = record {
        procedures = are_of_procedures p c.typed_programs_are_sound.ensures.typed c.in_ok-procedures.procedures.items _ c.code.ensures.code
            c.in_ok-procedures.ensures.exact c.in_ok-procedures.ensures.number;
        asyncs = subst (λ (q : Program). (l : ℕ) → IsNeedAt q l (needs_at c.in_ok-asyncs.asyncs l)) c.code-2.ensures.code
            c.in_ok-asyncs.ensures;
      };
    }
