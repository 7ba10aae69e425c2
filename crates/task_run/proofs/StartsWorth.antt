-- The worth of a start: its own result, and the worth of the children that its task lists at its
-- end.
use Rattle.std.proofs.Common.{◌≡◌, ℕ, zero, suc, ◌+◌, List, [], ◌∷◌, refl, sym, ap, ◌∙◌, arith}
use Rattle.std.proofs.lemmas.List.Sums.{sum_by-cons, sum_by-append}
use Rattle.std.specs.Prelude.{sum_by}
use Rattle.types.specs.Code.{Codes, Program}
use Rattle.types.specs.Run.{State, Block}
use Rattle.effects.specs.Needs.{Needs}
use Rattle.task_run.specs.Results.{TaskResult}
use Rattle.task_run.specs.Lists.{Each}
use Rattle.task_run.specs.OwnRun.{Start, Child, Own, at_first, result_of, beginning}
use Rattle.task_run.specs.Given.{in_truth, own, below}
use Rattle.task_run.specs.Frames.{IsBegun}
use Rattle.task_run.specs.Worth.{measured, worth_by}
use Rattle.task_run.proofs.Begun.{run_tells, at_first_fine}
use Rattle.task_run.proofs.NeverStuck.{pending_results}

added_up : (all one rest a b : ℕ) → all ≡ one + rest → one ≡ a → rest ≡ b → all ≡ a + b
added_up all one rest a b e f g = omega (arith, e, f, g)

none_worth : (w : Child → ℕ) → 0 ≡ sum_by w []
none_worth w = refl

module _ (p : Program) (needs : Codes → Needs) (fresh : ℕ) (f : TaskResult → ℕ) where
  worth_of : Child → ℕ
  worth_of c = worth_by p needs fresh f c.start

  worth_of_is : sum_by worth_of ≡ sum_by (λ c. worth_by p needs fresh f c.start)
  unfolding worth_of
  worth_of_is = refl

  -- a listed child, with this nesting level
  one_listed : (n : ℕ) (c : Child) → c.start.nest ≡ n
      → measured f (result_of (own p needs fresh c.start) ∷ below p needs fresh n c.start) ≡ worth_of c
  unfolding worth_of
  one_listed n c e =
      sum_by-cons f (result_of (own p needs fresh c.start)) (below p needs fresh n c.start)
      ∙ ap (λ m. f (result_of (own p needs fresh c.start)) + measured f (below p needs fresh m c.start)) (sym e)

  all_listed : (nest : ℕ) (st : State Own) (cs : List Child) → Each (IsBegun nest st) cs
      → measured f (pending_results p needs fresh nest cs) ≡ sum_by worth_of cs
  all_listed zero st [] h = none_worth worth_of
  all_listed zero st (c ∷ cs) h = absurd (let d = h.0.deeper in omega (arith, d))
  all_listed (suc n) st [] h = none_worth worth_of
  all_listed (suc n) st (c ∷ cs) h =
      let e : c.start.nest ≡ n = (let d = h.0.deeper in omega (arith, d)) in
      added_up _ _ _ (worth_of c) (sum_by worth_of cs)
      (sum_by-append f (result_of (own p needs fresh c.start) ∷ below p needs fresh n c.start) (pending_results p needs fresh (suc n) cs))
      (one_listed n c e) (all_listed (suc n) st cs h.1)
      ∙ sym (sum_by-cons worth_of c cs)

  -- the results of all pending tasks are worth what is listed
  pub pending_worth : (nest : ℕ) (st : State Own) (cs : List Child) → Each (IsBegun nest st) cs
      → measured f (pending_results p needs fresh nest cs) ≡ sum_by (λ c. worth_by p needs fresh f c.start) cs
  pending_worth nest st cs h = all_listed nest st cs h ∙ ap (λ g. g cs) worth_of_is

  begun : (s : Start) → Each (IsBegun s.nest (own p needs fresh s)) (own p needs fresh s).extra.pending
  begun s =
      ((run_tells s.nest needs (in_truth p needs fresh) p (Block s.body) (beginning (at_first s.owned) fresh s)).fine
      (at_first_fine s.nest needs (in_truth p needs fresh) fresh s)).begun

  below_is : (n : ℕ) (s : Start)
      → measured f (below p needs fresh n s) ≡ measured f (pending_results p needs fresh n (own p needs fresh s).extra.pending)
  below_is zero s = refl
  below_is (suc n) s = refl

  -- what is below a start is worth what is listed at its task's end
  pub below_worth : (s : Start) → measured f (below p needs fresh s.nest s)
      ≡ sum_by (λ c. worth_by p needs fresh f c.start) (own p needs fresh s).extra.pending
  below_worth s = below_is s.nest s ∙ pending_worth s.nest (own p needs fresh s) (own p needs fresh s).extra.pending (begun s)

  -- and the start is worth this together with its own result
  pub worth_lists : (s : Start) → worth_by p needs fresh f s
      ≡ f (result_of (own p needs fresh s)) + sum_by (λ c. worth_by p needs fresh f c.start) (own p needs fresh s).extra.pending
  worth_lists s = ap (λ n. f (result_of (own p needs fresh s)) + n) (below_worth s)
