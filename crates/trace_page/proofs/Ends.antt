-- The ends of tasks, event by event.
use Rattle.std.proofs.Common.{◌≡◌, ℕ, ◌+◌, ◌-◌, List, [], ◌∷◌, Option, Some, Bool, true, false, ap, sym, ◌∙◌, refl, drop, length}
use Rattle.std.specs.Prelude.{cond, nat_eq, unwrap_or}
use Rattle.std.specs.Cmp.Lexicographic.{pointwise}
use Rattle.types.specs.Translation.{is_path}
use Rattle.types.specs.declared.path.Path.{Path}
use Rattle.events.specs.Events.{event}
use Rattle.events.specs.declared.event.Event.{Event}
use Rattle.trace_page.specs.Tasks.{end_from, end_in, ended, is_path_of}

-- the ends so far, and those to come
pub record AreEndsSoFar (es : List Event) (n : ℕ) (found : Path → Option ℕ) : Type 0 where
  pub ends : (path : Path)
      → end_from path.turns.items n (unwrap_or (found path) (length es - 1)) (drop n es) ≡ end_in es path.turns.items

kept : (b : Bool) (number known : ℕ) (old : Option ℕ) → unwrap_or (cond b (Some number) old) known ≡ cond b number (unwrap_or old known)
kept true number known old = refl
kept false number known old = refl

-- an event's task is found by a copy of its path
pub by_copy : (copy : Path) (path : List ℕ) (task : Option (List ℕ)) → Some path ≡ task → copy.turns.items ≡ path → (q : Path)
    → is_path copy q ≡ is_path_of q.turns.items task
by_copy copy path task is same q =
    ap (λ (p : List ℕ). pointwise nat_eq p q.turns.items) same ∙ ap (is_path_of q.turns.items) is

module _ (es : List Event) (n : ℕ) (e : Event) (old new : Path → Option ℕ) (split : drop n es ≡ e ∷ drop (n + 1) es)
    (puts : (q : Path) → new q ≡ cond (is_path_of q.turns.items (ended (event e))) (Some n) (old q)) where
  pub ends_more : AreEndsSoFar es n old → AreEndsSoFar es (n + 1) new
  ends_more was = record {
    ends = λ path.
        let last = length es - 1 in
        ap (λ (known : ℕ). end_from path.turns.items (n + 1) known (drop (n + 1) es))
        (ap (λ (o : Option ℕ). unwrap_or o last) (puts path)
        ∙ kept (is_path_of path.turns.items (ended (event e))) n last (old path))
        ∙ sym (ap (end_from path.turns.items n (unwrap_or (old path) last)) split)
        ∙ was.ends path;
  }

pub ends_all : (es : List Event) (n : ℕ) (found : Path → Option ℕ) → drop n es ≡ [] → AreEndsSoFar es n found
    → (path : Path) → unwrap_or (found path) (length es - 1) ≡ end_in es path.turns.items
ends_all es n found none was path =
    sym (ap (end_from path.turns.items n (unwrap_or (found path) (length es - 1))) none) ∙ was.ends path
