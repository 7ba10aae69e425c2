-- The owner of an async, which waits until its body is done.
use Rattle.std.proofs.Common.{◌≡◌, ℕ, ◌+◌, List, ◌++◌, ap, ◌∙◌}
use Rattle.std.specs.Prelude.{ℤ}
use Rattle.types.specs.Code.{Program}
use Rattle.types.specs.Meaning.{after_async}
use Rattle.types.specs.Run.{Fault, State}
use Rattle.types.specs.Translation.{environment as environment_of}
use Rattle.types.specs.Value.{Environment}
use Rattle.cost.specs.declared.frame.OwnerCosts.{OwnerCosts}
use Rattle.cost.specs.Books.{after_booked, beginning_booked}
use Rattle.cost.specs.Accounts.{Account, ends_behind, accounting}
use Rattle.cost.specs.Resume.{Standing, end_async, faults_in, lines_in}

-- it continues as the task was when it started a child
pub record Waiting (p : Program) (o : OwnerCosts) (l : ℕ) (st : State Account) (n : ℕ) : Type 0 where
  pub path : o.path.turns.items ≡ st.path
  pub environment : environment_of o.environment ≡ st.environment
  pub steps : o.steps ≡ st.steps
  pub spawned : o.spawned ≡ st.spawned + 1
  pub lines : lines_in o.told ≡ st.lines
  pub faults : faults_in o.told ≡ st.faults
  pub here : o.here ≡ (beginning_booked accounting p l st).extra.tally.here
  pub along : o.along ≡ (beginning_booked accounting p l st).extra.tally.along
  pub by_label : o.here_by_label.items ≡ (beginning_booked accounting p l st).extra.here
  pub nest : o.nest ≡ n

-- how it continues, from its parts
abbrev going : (path : List ℕ) → Environment → (steps spawned : ℕ) → List (List ℤ) → List Fault → (here along : ℕ) → (by_label : List ℕ)
    → (nest : ℕ) → State Account → Standing
going path env steps spawned lines faults here along by_label nest out = record {
  state = record {
    flow = after_async out.flow;
    environment = env;
    store = out.store;
    lines = lines ++ out.lines;
    faults = faults ++ out.faults;
    steps = steps;
    path = path;
    spawned = spawned;
    extra = ends_behind here along by_label out.extra;
  };
  nest = nest;
}

-- after the body, it is where that task is after its async
abbrev pub after_owner : OwnerCosts → State Account → Standing
after_owner o out = record { state = end_async o out; nest = o.nest }

abbrev pub after_begun : (p : Program) → (l : ℕ) → (st : State Account) → (nest : ℕ) → State Account → Standing
after_begun p l st n out = record { state = after_booked accounting (beginning_booked accounting p l st) out; nest = n }

pub goes_on : (p : Program) (o : OwnerCosts) (l : ℕ) (st out : State Account) (n : ℕ) → Waiting p o l st n
    → after_owner o out ≡ after_begun p l st n out
goes_on p o l st out n w =
    let lines = lines_in o.told in let faults = faults_in o.told in let env = environment_of o.environment in
    let k = st.spawned + 1 in let rows = o.here_by_label.items in let begun = (beginning_booked accounting p l st).extra in
    let was = begun.tally in
    ap (λ x. going x env o.steps o.spawned lines faults o.here o.along rows o.nest out) w.path
    ∙ ap (λ x. going st.path x o.steps o.spawned lines faults o.here o.along rows o.nest out) w.environment
    ∙ ap (λ x. going st.path st.environment x o.spawned lines faults o.here o.along rows o.nest out) w.steps
    ∙ ap (λ x. going st.path st.environment st.steps x lines faults o.here o.along rows o.nest out) w.spawned
    ∙ ap (λ x. going st.path st.environment st.steps k x faults o.here o.along rows o.nest out) w.lines
    ∙ ap (λ x. going st.path st.environment st.steps k st.lines x o.here o.along rows o.nest out) w.faults
    ∙ ap (λ x. going st.path st.environment st.steps k st.lines st.faults x o.along rows o.nest out) w.here
    ∙ ap (λ x. going st.path st.environment st.steps k st.lines st.faults was.here x rows o.nest out) w.along
    ∙ ap (λ x. going st.path st.environment st.steps k st.lines st.faults was.here was.along x o.nest out) w.by_label
    ∙ ap (λ x. going st.path st.environment st.steps k st.lines st.faults was.here was.along begun.here x out) w.nest
