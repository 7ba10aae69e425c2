-- Whichever tasks run whole, the results of all tasks settle.
use Rattle.std.proofs.Common.{◌≡◌, ℕ, zero, suc, ◌+◌, ◌<◌, List, [], ◌∷◌, ◌++◌, length, Some, refl, sym, ap, ◌∙◌, subst}
use Rattle.std.proofs.Common.{arith, le_refl}
use Rattle.std.proofs.lemmas.List.{append-nil}
use Rattle.std.specs.Prelude.{Bool, true, false, flat_map, if◌then◌else◌}
use Rattle.types.specs.Code.{Codes, Program}
use Rattle.effects.specs.Needs.{Needs, Provides}
use Rattle.race_checker.specs.Calm.{IsCalm}
use Rattle.race_checker.specs.Scope.{IsScoped}
use Rattle.task_run.specs.Given.{comes_to, own}
use Rattle.task_run.specs.Holds.{MayBegin}
use Rattle.task_run.specs.InPlace.{whole, made_of, made_below}
use Rattle.task_run.specs.Lists.{Each, Shuffled}
use Rattle.task_run.specs.OwnRun.{Start, Child, result_of}
use Rattle.task_run.specs.Results.{TaskResult, none_yet, complete, and_then}
use Rattle.task_run.specs.Settling.{settle_within, none_left, settle, IsParted, NoTwice}
use Rattle.task_run.proofs.CompleteResults.{Done, Settles, fill_with, settle_complete, stands, none_in}
use Rattle.task_run.proofs.OnePath.{Under, own_path, own_from, own_once, all_under, none_twice, shuffled_each, shuffled_once}
use Rattle.task_run.proofs.OwnRunSettles.{own_settles}
use Rattle.task_run.proofs.SettledResults.{IsGiven, lists_true, whole_settles}
use Rattle.task_run.proofs.TasksEnd.{each_below, own_ends}

module _ (p : Program) (needs : Codes → Needs) (fresh : ℕ) (runs_whole : Start → Bool) where
  -- the result of a task, and those of the tasks below it
  abbrev head : Start → TaskResult
  head = made_of p needs fresh runs_whole

  abbrev tail : ℕ → Start → List TaskResult
  tail = made_below p needs fresh runs_whole

  -- the result of a task that runs whole, or not
  abbrev one_of : Start → Bool → TaskResult
  one_of s b = if b then whole p needs fresh s else result_of (own p needs fresh s)

  -- the results below it
  abbrev others_of : ℕ → Start → Bool → List TaskResult
  others_of n s b = if b then [] else flat_map (λ c. head c.start ∷ tail n c.start) (own p needs fresh s).extra.pending

  head_path : (s : Start) → (head s).path ≡ s.path
  head_path s = by (runs_whole s)
    where
      by : (b : Bool) → (one_of s b).path ≡ s.path
      by true = refl
      by false = own_path p needs fresh s

  tail_under : (n : ℕ) (s : Start) → Each (Under p needs fresh s.path) (tail n s)
  tail_under zero s = tt
  tail_under (suc n) s = by (tail_under n) (runs_whole s)
    where
      by : ((s : Start) → Each (Under p needs fresh s.path) (tail n s)) → (b : Bool) → Each (Under p needs fresh s.path) (others_of n s b)
      by under true = tt
      by under false =
          all_under p needs fresh head (tail n) head_path under s.path (own p needs fresh s).extra.pending (own_from p needs fresh s)

  -- no path has two results
  tail_once : (n : ℕ) (s : Start) → NoTwice (tail n s)
  tail_once zero s = tt
  tail_once (suc n) s = by (tail_once n) (runs_whole s)
    where
      by : ((s : Start) → NoTwice (tail n s)) → (b : Bool) → NoTwice (others_of n s b)
      by once true = tt
      by once false =
          none_twice p needs fresh head (tail n) head_path (tail_under n) s.path (own p needs fresh s).extra.pending
          (own_from p needs fresh s) (own_once p needs fresh s) once

  module _ (root : Start) where
    -- the whole of a task uses up no other result
    whole_done : (k : ℕ) (s : Start) (ts rs : List TaskResult) → Shuffled ts rs → NoTwice rs → Each IsParted rs
        → Done p needs fresh root (settle_within (suc k) (whole p needs fresh s) rs) (comes_to p needs fresh s) ts rs
    whole_done k s ts rs order once parted = record {
      rest = rs;
      is = ap (λ x. Some (x, rs)) (whole_settles p needs fresh s);
      left = order;
      once = once;
      parted = parted;
      fewer = le_refl (length rs);
    }

    -- what is left to show of a task, by whether it runs whole
    abbrev DoneBy : (k : ℕ) → Start → List TaskResult → Bool → Type 0
    DoneBy k s below b =
        (ts rs : List TaskResult) → Shuffled (below ++ ts) rs → NoTwice rs → IsParted (one_of s b) → Each IsParted rs → length rs < suc k
        → Done p needs fresh root (settle_within (suc k) (one_of s b) rs) (comes_to p needs fresh s) ts rs

    abbrev Deep : ℕ → ℕ → Type 0
    Deep k n = (s : Start) → s.nest ≡ n → IsGiven p needs fresh root s → Settles p needs fresh root head (tail n) k s

    deep : (k n : ℕ) → Deep k n
    deep zero n s e is = λ ts rs order once pt parted lt. absurd (omega (arith, lt))
    deep (suc k) zero s e is = by (runs_whole s)
      where
        by : (b : Bool) → DoneBy k s [] b
        by true ts rs order once pt parted lt = whole_done k s ts rs order once parted
        by false ts rs order once pt parted lt = settle_complete p needs fresh root (suc k) zero s e is ts rs order once pt parted lt
    deep (suc k) (suc n) s e is = by (deep k n) (runs_whole s)
      where
        by : Deep k n → (b : Bool) → DoneBy k s (others_of n s b) b
        by deeper true ts rs order once pt parted lt = whole_done k s ts rs order once parted
        by deeper false ts rs order once pt parted lt =
            let end = own p needs fresh s in
            let f = fill_with p needs fresh root head (tail n) head_path k n deeper end.extra.owned end.extra.pending none_yet ts rs
            (stands p needs fresh root n s e is) order once pt parted (omega (arith, lt)) in
            record {
              rest = f.rest;
              is =
                  ap (λ o. and_then o (λ all. Some (complete (result_of end) all.0, all.1))) f.is
                  ∙ ap (λ x. Some (x, f.rest)) (own_settles p needs fresh s);
              left = f.left;
              once = f.once;
              parted = f.parted;
              fewer = f.fewer;
            }

module _ (p : Program) (needs : Codes → Needs) (scoped : IsScoped p) (calm : IsCalm p) (provided : Provides p needs) (fresh : ℕ)
    (root : Start) (runs_whole : Start → Bool) where
  head_parted : (s : Start) → IsGiven p needs fresh root s → MayBegin p needs s → IsParted (made_of p needs fresh runs_whole s)
  head_parted s is may = by (runs_whole s)
    where
      by : (b : Bool) → IsParted (one_of p needs fresh runs_whole s b)
      by true = tt
      by false = (own_ends p needs scoped calm provided fresh root s is may).parted

  tail_parted : (n : ℕ) (s : Start) → IsGiven p needs fresh root s → MayBegin p needs s
      → Each IsParted (made_below p needs fresh runs_whole n s)
  tail_parted zero s is may = tt
  tail_parted (suc n) s is may = by (tail_parted n) (runs_whole s)
    where
      by : ((s : Start) → IsGiven p needs fresh root s → MayBegin p needs s → Each IsParted (made_below p needs fresh runs_whole n s))
          → (b : Bool) → Each IsParted (others_of p needs fresh runs_whole n s b)
      by deeper true = tt
      by deeper false =
          each_below p needs scoped calm provided fresh root IsParted
          (λ (c : Child). made_of p needs fresh runs_whole c.start ∷ made_below p needs fresh runs_whole n c.start)
          (own p needs fresh s).extra.pending (lists_true p needs fresh root s is)
          (own_ends p needs scoped calm provided fresh root s is may).carried
          (λ c t k. (head_parted c.start t.is k.begins, deeper c.start t.is k.begins))

  -- the result of a task and those below it settle, in any order
  pub some_whole_settle : (s : Start) → IsGiven p needs fresh root s → MayBegin p needs s → (rs : List TaskResult)
      → Shuffled (made_below p needs fresh runs_whole s.nest s) rs
      → settle (made_of p needs fresh runs_whole s) rs ≡ Some (comes_to p needs fresh s)
  some_whole_settle s is may rs order =
      let d = deep p needs fresh runs_whole root (length rs + 1) s.nest s refl is [] rs
      (subst (λ l. Shuffled l rs) (sym (append-nil (made_below p needs fresh runs_whole s.nest s))) order)
      (shuffled_once order (tail_once p needs fresh runs_whole s.nest s)) (head_parted s is may)
      (shuffled_each IsParted order (tail_parted s.nest s is may)) (omega arith) in
      ap (λ o. and_then o none_left) d.is ∙ ap (λ rest. none_left (comes_to p needs fresh s, rest)) (none_in d.left)
