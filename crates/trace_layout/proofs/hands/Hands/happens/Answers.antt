use Rattle.std.proofs.Common.{◌≡◌, ap, ⊎_elim}
use Rattle.std.specs.Prelude.{false}
use Rattle.trace_layout.specs.Spells.{is_taking}
use Rattle.trace_layout.proofs.Handled.{later}
use Rattle.trace_layout.proofs.WhichEvent.{is_leaving}
use Rattle.trace_layout.proofs.hands.Hands.happens.Goals as goal

pub returns-in-Steal : goal.returns-in-Steal
returns-in-Steal c =
    let no : is_taking c.args.event.now ≡ false =
    ⊎_elim (λ x. ap is_taking x.3) (λ x. ap is_taking x.1) c.in-Steal.is in
    let stays : is_leaving c.args.event.now ≡ false =
    ⊎_elim (λ x. ap is_leaving x.3) (λ x. ap is_leaving x.1) c.in-Steal.is in
    λ es at was. later es c.args.number c.args.event.now c.args.self.now at no stays was

pub returns-in-Steal-2 : goal.returns-in-Steal-2
returns-in-Steal-2 c =
    let no : is_taking c.args.event.now ≡ false =
    ⊎_elim (λ x. ap is_taking x.3) (λ x. ap is_taking x.1) c.in-Steal.is in
    let stays : is_leaving c.args.event.now ≡ false =
    ⊎_elim (λ x. ap is_leaving x.3) (λ x. ap is_leaving x.1) c.in-Steal.is in
    λ es at was. later es c.args.number c.args.event.now c.args.self.now at no stays was

pub returns-in-Step : goal.returns-in-Step
returns-in-Step c =
    let no : is_taking c.args.event.now ≡ false =
    ⊎_elim (λ is. ap is_taking is)
    (λ r. ⊎_elim (λ is. ap is_taking is) (λ r. ⊎_elim (λ is. ap is_taking is) (λ is. ap is_taking is) r) r)
    c.in-Step.is in
    let stays : is_leaving c.args.event.now ≡ false =
    ⊎_elim (λ is. ap is_leaving is)
    (λ r. ⊎_elim (λ is. ap is_leaving is) (λ r. ⊎_elim (λ is. ap is_leaving is) (λ is. ap is_leaving is) r) r)
    c.in-Step.is in
    λ es at was. later es c.args.number c.args.event.now c.go_on.new.self at no stays (c.go_on.ensures es c.args.number was)
