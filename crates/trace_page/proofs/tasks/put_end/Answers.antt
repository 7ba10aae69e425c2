use Rattle.std.proofs.Common.{◌∙◌, ℕ, List, Option, Some, Bool, ap, sym}
use Rattle.std.specs.Prelude.{cond, option_map}
use Rattle.std.specs.HashMap.{get}
use Rattle.types.specs.Translation.{is_path}
use Rattle.trace_page.specs.Tasks.{is_path_of}
use Rattle.trace_page.proofs.Ends.{by_copy}
use Rattle.trace_page.proofs.tasks.put_end.Goals as goal

pub returns-in_ok-insert-in-Some : goal.returns-in_ok-insert-in-Some
returns-in_ok-insert-in-Some c = λ q.
    c.in_ok-insert-in-Some.ensures.updates.0 q
    ∙ ap (λ (b : Bool). cond b (Some c.args.at) (get is_path c.args.by_path.now q))
    (by_copy c.in_ok-path-in-Some.path c.in-Some.path.now.turns.items _
    (ap (option_map (λ path. path.now.turns.items)) (sym c.in-Some.is) ∙ c.ended_by.ensures) c.in_ok-path-in-Some.ensures q)

pub returns-in-None : goal.returns-in-None
returns-in-None c = λ q.
    ap (λ (o : Option (List ℕ)). cond (is_path_of q.turns.items o) (Some c.args.at) (get is_path c.args.by_path.now q))
    (ap (option_map (λ path. path.now.turns.items)) (sym c.in-None.is) ∙ c.ended_by.ensures)
