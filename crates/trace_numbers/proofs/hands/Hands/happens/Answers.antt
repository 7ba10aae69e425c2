use Rattle.std.proofs.Common.{◌≡◌, ◌⊎◌, ℕ, Option, inl, inr, subst, sym}
use Rattle.std.specs.Prelude.{OnOk}
use Rattle.events.specs.declared.event.Event.{Event}
use Rattle.events.specs.declared.event.Event.TheVariants.{Take, Resume}
use Rattle.trace_numbers.specs.Hands.{Hands as AnyHands, handled}
use Rattle.trace_numbers.specs.Tables.{ShowsHands}
use Rattle.trace_numbers.proofs.hands.Hands.happens.Goals as goal

-- what holds for one event, and for another with any number, holds for an event that is one of these
by_either : (P : Event → Type 0) (e one : Event) (other : Option ℕ → Event) → (e ≡ one) ⊎ ((x : Option ℕ) × (e ≡ other x))
    → P one → ((x : Option ℕ) → P (other x)) → P e
by_either P e one other (inl is) h more = subst P (sym is) h
by_either P e one other (inr there) h more = subst P (sym there.1) (more there.0)

pub returns-in-Take : goal.returns-in-Take
returns-in-Take c =
    by_either
    (λ (e : Event). OnOk c.take.result ((h : AnyHands) → ShowsHands c.args.self.now h → ShowsHands c.take.new.self (handled e h)))
    c.args.event.now (Take c.in-Take.worker c.in-Take.path) (λ x. Resume c.in-Take.worker c.in-Take.path x) c.in-Take.is
    c.take.ensures (λ x. c.take.ensures)
