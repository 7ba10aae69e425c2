use Rattle.std.proofs.Common.{◌∷◌, ◌++◌, [], List, refl, sym, ap, ◌∙◌, subst}
use Rattle.std.proofs.lemmas.Bool.{OnFalse_at, OnTrue_at}
use Rattle.events.specs.declared.event.Event.{Event}
use Rattle.event_worlds.specs.Replaying.{event as event_of}
use Rattle.event_worlds.specs.Shown.{Becomes, IsLegal}
use Rattle.event_worlds.specs.declared.error.EventError.TheVariants.{Illegal, NoMemory}
use Rattle.event_worlds.proofs.Judging.{err_any}
use Rattle.event_worlds.proofs.Staying.{stays_self}
use Rattle.trace.specs.Logs.{IsClean, Leaves, Recorded}
use Rattle.trace.proofs.LogLemmas.{clean_more, clean_still, recorded, stayed_by}
use Rattle.trace.proofs.log.Log.record.Goals as goal
use Rattle.shared_lemmas.proofs.Results.{if_err_then}

pub invariant_of-self-in_err-event : goal.invariant_of-self-in_err-event
invariant_of-self-in_err-event c =
    let old = c.self.inside in
    let new = c.event.new.self in
    subst (λ (l : List Event). IsClean (recorded new l)) (sym c.in_ok-reserve.ensures.items)
    (clean_still old.world new old.events.items c.self.invariant
    (stayed_by c.args.event old.world new c.in_err-event.field-0.0 c.in_err-event.ensures.refused))

pub returns-in_err-event-clause-refused : goal.returns-in_err-event-clause-refused
returns-in_err-event-clause-refused c =
    let old = c.self.inside in
    let new = recorded c.event.new.self c.reserve.new.self.items in
    if_err_then c.from_residual-in_err-event.result c.from_residual-in_err-event.ensures.1
    (λ x same. subst (λ (l : Recorded). Leaves c.args.event l new x) c.self.view_is
    (subst (Leaves c.args.event (recorded old.world old.events.items) new) (sym same)
    (record { events = c.in_ok-reserve.ensures.items; world = c.in_err-event.ensures.refused })))

pub invariant_of-self-2 : goal.invariant_of-self-2
invariant_of-self-2 c =
    let old = c.self.inside in
    let new = c.event.new.self in
    let items = c.in_ok-push.ensures.items ∙ ap (λ (l : List Event). l ++ c.args.event ∷ []) c.in_ok-reserve.ensures.items in
    subst (λ (l : List Event). IsClean (recorded new l)) (sym items)
    (clean_more old.world new old.events.items c.args.event c.self.invariant c.in_ok-event.ensures.legal c.event.ensures.job
    (sym c.suits.ensures ∙ c.if-not-suits.false))

pub returns-clause-moved : goal.returns-clause-moved
returns-clause-moved c =
    subst (λ (l : Recorded). Becomes (event_of c.args.event) l.world c.event.new.self) c.self.view_is c.in_ok-event.ensures.legal

pub returns-then-not-is_legal-clause-refused : goal.returns-then-not-is_legal-clause-refused
returns-then-not-is_legal-clause-refused c =
    let old = c.self.inside in
    subst (λ (l : Recorded). Leaves c.args.event l l Illegal) c.self.view_is
    (record { events = refl; world = (stays_self old.world, OnFalse_at c.if-not-is_legal.true c.is_legal.ensures.illegal) })

pub returns-in_err-reserve-clause-memory : goal.returns-in_err-reserve-clause-memory
returns-in_err-reserve-clause-memory c =
    err_any c.from_residual.result
    (λ x is. subst (λ (l : Recorded). IsLegal l.world (event_of c.args.event)) c.self.view_is
    (OnTrue_at c.if-not-is_legal.false c.is_legal.ensures.legal))

pub returns-in_err-event-clause-memory : goal.returns-in_err-event-clause-memory
returns-in_err-event-clause-memory c =
    err_any c.from_residual-in_err-event.result
    (λ x is. subst (λ (l : Recorded). IsLegal l.world (event_of c.args.event)) c.self.view_is
    (OnTrue_at c.if-not-is_legal.false c.is_legal.ensures.legal))

pub returns-then-not-suits-clause-refused : goal.returns-then-not-suits-clause-refused
returns-then-not-suits-clause-refused c =
    let old = c.self.inside in
    subst (λ (l : Recorded). Leaves c.args.event l l NoMemory) c.self.view_is
    (record { events = refl; world = stays_self old.world })

pub returns-then-not-suits-clause-memory : goal.returns-then-not-suits-clause-memory
returns-then-not-suits-clause-memory c = λ is.
    subst (λ (l : Recorded). IsLegal l.world (event_of c.args.event)) c.self.view_is
    (OnTrue_at c.if-not-is_legal.false c.is_legal.ensures.legal)
