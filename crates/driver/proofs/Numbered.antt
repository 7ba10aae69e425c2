-- Events with their numbers lead to the same world as without.
use Rattle.std.proofs.Common.{◌≡◌, ◌∙◌, ℕ, ◌+◌, ℤ, List, [], ◌∷◌, Option, None, Some, Bool, true, false, ap, refl}
use Rattle.std.proofs.lemmas.Bool.{eq-eqb}
use Rattle.types.specs.Code.{Codes, Program}
use Rattle.types.specs.Outcome.{Budget}
use Rattle.effects.specs.Needs.{Needs}
use Rattle.effects.specs.Rounds.{needs_of}
use Rattle.event_worlds.specs.Events.{Event, Resume, next, only_if}
use Rattle.event_worlds.specs.Numbering.{if_legal, numbered, numbered_from, with_number}
use Rattle.event_worlds.specs.Replay.{IllegalAt, Legal, does, event, gathered, go_or, hands_on, is_number, replay_from, start_of, tells}
use Rattle.event_worlds.specs.World.{World}
use Rattle.event_worlds.specs.Worlds.{replayed}

only_if_some : {A : Type 0} (b : Bool) (o : Option A) (x : A) → only_if b o ≡ Some x → o ≡ Some x
only_if_some true o x is = is
only_if_some false o x is = let bad : None ≡ Some x = is in cc

module _ (p : Program) (needs : Codes → Needs) (fresh w0 : ℕ) where
  told_rightly : (worker : ℕ) (path : List ℕ) (w : World) (o : Option ℕ) → gathered p needs fresh w0 path w ≡ o
      → tells p needs fresh w0 (Resume worker path o) w ≡ true
  told_rightly worker path w None is = refl
  told_rightly worker path w (Some n) is = ap (is_number n) is ∙ eq-eqb n n refl

  -- a legal event is legal with its number, and leads to the same world
  same_event : (e : Event) (w to : World) → event p needs fresh w0 e w ≡ Some to
      → event p needs fresh w0 (with_number p needs fresh w0 e w) w ≡ Some to
  same_event (Resume worker path faults) w to legal =
      let after = next w0 (does p needs fresh w0) (hands_on p needs fresh w0) (Resume worker path faults) w in
      ap (λ (b : Bool). only_if b after) (told_rightly worker path w (gathered p needs fresh w0 path w) refl)
      ∙ only_if_some (tells p needs fresh w0 (Resume worker path faults) w) after to legal
  same_event e w to legal = legal

  -- by the world after the first event
  first_numbered : (e : Event) (es : List Event) (n : ℕ) (w to : World)
      → ((v x : World) → replay_from p needs fresh w0 (n + 1) es v ≡ Legal x
      → replay_from p needs fresh w0 (n + 1) (numbered_from p needs fresh w0 es v) v ≡ Legal x)
      → (o : Option World) → event p needs fresh w0 e w ≡ o
      → go_or n (replay_from p needs fresh w0 (n + 1) es) o ≡ Legal to
      → replay_from p needs fresh w0 n (with_number p needs fresh w0 e w ∷ if_legal (numbered_from p needs fresh w0 es) o) w
      ≡ Legal to
  first_numbered e es n w to further None is legal = let bad : IllegalAt n ≡ Legal to = legal in cc
  first_numbered e es n w to further (Some v) is legal =
      ap (go_or n (replay_from p needs fresh w0 (n + 1) (numbered_from p needs fresh w0 es v))) (same_event e w v is)
      ∙ further v to legal

  numbered_lead_from : (es : List Event) (n : ℕ) (w to : World) → replay_from p needs fresh w0 n es w ≡ Legal to
      → replay_from p needs fresh w0 n (numbered_from p needs fresh w0 es w) w ≡ Legal to
  numbered_lead_from [] n w to legal = legal
  numbered_lead_from (e ∷ es) n w to legal =
      first_numbered e es n w to (numbered_lead_from es (n + 1)) (event p needs fresh w0 e w) refl legal

pub numbered_lead : (p : Program) (w0 : ℕ) (input : List (List ℤ)) (b : Budget) (es : List Event) (w : World)
    → replayed p w0 input b es ≡ Legal w → replayed p w0 input b (numbered p w0 input b es) ≡ Legal w
numbered_lead p w0 input b es w legal =
    numbered_lead_from p (needs_of p) b.steps w0 es 0 (start_of p w0 input b) w legal
