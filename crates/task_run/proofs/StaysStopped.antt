-- Among tasks apart, a stopped task stays stopped, and this changes nothing else.
use Rattle.std.proofs.Common.{ℕ, zero, suc, [], refl, ap, ◌∙◌, inr}
use Rattle.std.specs.Prelude.{Bool, true, false, ◌||◌}
use Rattle.types.specs.Code.{Codes, Program}
use Rattle.types.specs.Run.{Work, Block, block, within}
use Rattle.types.proofs.Views.{View, viewed, Never, surely, Follows, IsView, whole_view, work_follows, within_follows}
use Rattle.effects.specs.Needs.{Needs}
use Rattle.task_run.specs.Apart.{Aside, gather, apart_rules_by, begin_apart}
use Rattle.task_run.proofs.SideBySide.{A, Dies}

abbrev marking : View Bool Aside Aside
marking = record {
  lines = λ b x. [];
  faults = λ b x. [];
  steps = λ b n. n;
  extra = λ b x. record x { stopped = b || x.stopped };
}

-- the same state, or the same state with a task stopped
abbrev marked : Bool → A → A
marked = viewed marking

abbrev pub Marks : (A → A) → Type 0
Marks go = Follows marking Never go go

pub dies : (go : A → A) → Marks go → Dies go
dies go h a e =
    ap (λ b. (go (record a { extra = record a.extra { stopped = b } })).extra.stopped) e
    ∙ ap (λ a. a.extra.stopped) (surely (h true a))

module _ (begin : Codes → A → A) (marks : (b : Codes) → Marks (begin b)) where
  view : IsView marking Never (apart_rules_by begin) (apart_rules_by begin)
  view =
      whole_view marking (apart_rules_by begin) (apart_rules_by begin) (λ b n. refl) (λ b l st. refl) (λ l. marks)
      (λ l go to h b st. inr (ap (gather (marked b st)) (surely (h false ((apart_rules_by begin).enter l st)))))
      (λ b x y. refl)

  module _ (p : Program) where
    pub within_marks : (k : ℕ) (w : Work) → Marks (within p (apart_rules_by begin) k w)
    within_marks = within_follows p (apart_rules_by begin) (apart_rules_by begin) marking Never view

    pub block_marks : (d : Work → A → A) → ((w : Work) → Marks (d w)) → (c : Codes) → Marks (block p (apart_rules_by begin) d c)
    block_marks d h c = work_follows p (apart_rules_by begin) (apart_rules_by begin) marking Never view d d h (Block c)

pub begin_marks : (p : Program) (needs : Codes → Needs) (fresh nest : ℕ) (b : Codes) → Marks (begin_apart p needs fresh nest b)
begin_marks p needs fresh zero b i st = inr refl
begin_marks p needs fresh (suc n) b true st = inr refl
begin_marks p needs fresh (suc n) b false st = inr refl
