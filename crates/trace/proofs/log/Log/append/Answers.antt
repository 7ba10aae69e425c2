use Rattle.std.proofs.Common.{◌≡◌, ◌∙◌, List, sym, subst}
use Rattle.shared_lemmas.proofs.Results.{err_passed}
use Rattle.events.specs.declared.event.Event.{Event}
use Rattle.event_worlds.specs.Replaying.{event as event_of}
use Rattle.event_worlds.specs.Shown.{Becomes, IsLegal}
use Rattle.event_worlds.specs.Walks.{IsIllegal}
use Rattle.event_worlds.specs.declared.error.EventError.{EventError}
use Rattle.event_worlds.specs.declared.error.EventError.TheVariants.{Illegal, NoMemory}
use Rattle.event_worlds.proofs.Judging.{err_any}
use Rattle.trace.specs.Logs.{IsClean, Recorded}
use Rattle.trace.proofs.LogLemmas.{clean_more, recorded}
use Rattle.trace.proofs.log.Log.append.Goals as goal

pub returns-in_err-go_by-clause-refused : goal.returns-in_err-go_by-clause-refused
returns-in_err-go_by-clause-refused c =
    err_passed c.from_residual.result _ (λ (e : EventError). e ≡ Illegal → IsIllegal c.args.self.world (event_of c.args.event))
    c.from_residual.ensures.1
    (λ is. subst (λ (l : Recorded). IsIllegal l.world (event_of c.args.event)) c.self.view_is (c.in_err-go_by.ensures.refused is))

pub invariant_of-result : goal.invariant_of-result
invariant_of-result c =
    let old = c.self.inside in
    let new = c.go_by.new.self in
    subst (λ (l : List Event). IsClean (recorded new l)) (sym c.in_ok-push.ensures.items)
    (clean_more old.world new old.events.items c.args.event c.self.invariant c.in_ok-go_by.ensures.legal
    c.in_ok-go_by.ensures.job (sym c.suits.ensures ∙ c.if-not-suits.false))

pub returns-clause-moved : goal.returns-clause-moved
returns-clause-moved c =
    subst (λ (l : Recorded). Becomes (event_of c.args.event) l.world c.go_by.new.self) c.self.view_is
    c.in_ok-go_by.ensures.legal

pub returns-in_err-go_by-clause-memory : goal.returns-in_err-go_by-clause-memory
returns-in_err-go_by-clause-memory c =
    err_passed c.from_residual.result _ (λ (e : EventError). e ≡ NoMemory → IsLegal c.args.self.world (event_of c.args.event))
    c.from_residual.ensures.1
    (λ is. subst (λ (l : Recorded). IsLegal l.world (event_of c.args.event)) c.self.view_is (c.in_err-go_by.ensures.memory is))

pub returns-in_err-push-clause-memory : goal.returns-in_err-push-clause-memory
returns-in_err-push-clause-memory c =
    err_any c.from_residual-in_err-push.result
    (λ x is. subst (λ (l : Recorded). IsLegal l.world (event_of c.args.event)) c.self.view_is
    (λ w shown. let b = c.in_ok-go_by.ensures.legal w shown in (b.0, b.1)))

pub returns-then-not-suits-clause-memory : goal.returns-then-not-suits-clause-memory
returns-then-not-suits-clause-memory c = λ is.
    subst (λ (l : Recorded). IsLegal l.world (event_of c.args.event)) c.self.view_is
    (λ w shown. let b = c.in_ok-go_by.ensures.legal w shown in (b.0, b.1))
