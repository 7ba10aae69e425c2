-- Once it has passed, the root's scope holds the worth of all tasks below the root.
use Rattle.std.proofs.Common.{◌≡◌, ℕ, ◌+◌, List, [], ◌∷◌, ◌++◌, Some, refl, sym, ap, ◌∙◌}
use Rattle.std.proofs.lemmas.List.{append-nil}
use Rattle.std.proofs.lemmas.List.Folds.{fold-map}
use Rattle.std.specs.Prelude.{map, sum_by}
use Rattle.types.specs.Code.{Codes, Program}
use Rattle.effects.specs.Needs.{Needs}
use Rattle.task_run.specs.Results.{TaskResult}
use Rattle.task_run.specs.OwnRun.{Start, Child, result_of, last_action}
use Rattle.task_run.specs.Given.{in_truth, own, below, root_of}
use Rattle.task_run.specs.Worth.{measured, worth_by}
use Rattle.task_run.proofs.StartsWorth.{below_worth}
use Rattle.event_worlds.proofs.ReplayLaws.{RootHoldsAll}
use Rattle.event_worlds.proofs.Direct.{start_of, direct, direct-append, bracketed, own_lists}
use Rattle.event_worlds.proofs.OwnTasks.{truly, truly_is, own_is_awake}
use Rattle.event_worlds.proofs.Outcomes.{replays_are_worlds}
use Rattle.event_worlds.proofs.Worth.{coming, coming_is}
use Rattle.event_worlds.proofs.Whole.{root_scope_is_whole}

module _ (p : Program) (needs : Codes → Needs) (fresh : ℕ) (f : TaskResult → ℕ) where
  -- the worth of a start
  pub worth : Start → ℕ
  worth s = worth_by p needs fresh f s

  -- the worth of children, by their starts
  pub listed_is : (cs : List Child) → sum_by (λ c. worth_by p needs fresh f c.start) cs ≡ sum_by worth (map start_of cs)
  unfolding worth
  listed_is cs = sym (fold-map (λ n (s : Start). n + worth_by p needs fresh f s) start_of 0 cs)

  below_is : (s : Start) → measured f (below p needs fresh s.nest s) ≡ sum_by worth (map start_of (own p needs fresh s).extra.pending)
  below_is s = below_worth p needs fresh f s ∙ listed_is (own p needs fresh s).extra.pending

  pub worth_lists : (s : Start) → worth s ≡ f (result_of (own p needs fresh s)) + sum_by worth (map start_of (own p needs fresh s).extra.pending)
  unfolding worth
  worth_lists s = ap (λ n. f (result_of (own p needs fresh s)) + n) (below_is s)

  module _ (w0 : ℕ) (root : Start) (nameless : root.path ≡ []) where
    -- a task's own run spawns exactly the children that it lists for its scope
    truly_direct : (c : Start) → direct 0 (truly p needs fresh w0 root nameless c) ≡ map start_of (own p needs fresh c).extra.pending
    truly_direct c =
        let b = bracketed p needs fresh (in_truth p needs fresh) c in
        ap (direct 0) (truly_is p needs fresh w0 root nameless c)
        ∙ direct-append 0 (own p needs fresh c).extra.actions (last_action (own p needs fresh c).path ∷ []) b.rise b.level
        ∙ ap (λ n. direct 0 (own p needs fresh c).extra.actions ++ direct n (last_action (own p needs fresh c).path ∷ [])) (b.flat (own_is_awake p needs fresh w0 root nameless c))
        ∙ ap (λ l. direct 0 (own p needs fresh c).extra.actions ++ l) (no_last (own p needs fresh c).path)
        ∙ append-nil _ ∙ sym (own_lists p needs fresh c)
      where
        no_last : (q : List ℕ) → direct 0 (last_action q ∷ []) ≡ []
        no_last [] = refl
        no_last (k ∷ q) = refl

    below_comes : (c : Start) → measured f (below p needs fresh c.nest c) ≡ coming p needs fresh w0 root nameless worth (Some 0) (truly p needs fresh w0 root nameless c)
    below_comes c = below_is c ∙ ap (sum_by worth) (sym (truly_direct c)) ∙ sym (coming_is p needs fresh w0 root nameless worth 0 (truly p needs fresh w0 root nameless c))

    worth_is : (c : Start) → worth c ≡ f (result_of (own p needs fresh c)) + coming p needs fresh w0 root nameless worth (Some 0) (truly p needs fresh w0 root nameless c)
    unfolding worth
    worth_is c = ap (λ n. f (result_of (own p needs fresh c)) + n) (below_comes c)

pub root_holds_all : (p : Program) (needs : Codes → Needs) (w0 : ℕ) → RootHoldsAll p needs w0
root_holds_all p needs w0 least input b es w e s there passed f =
    let root = root_of p input b.nest in
    root_scope_is_whole p needs b.steps w0 least root refl (worth p needs b.steps f) f (worth_is p needs b.steps f w0 root refl) es w (replays_are_worlds p needs w0 input b es w e) s there passed
    ∙ sym (below_comes p needs b.steps f w0 root refl root)
