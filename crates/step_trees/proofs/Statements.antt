-- One list of statements before another: what both may do, and leave pending, one of them does.
use Rattle.std.proofs.Common.{◌⊎◌, inl, inr}
use Rattle.types.specs.Code.{Codes, End, Then, Program}
use Rattle.types.specs.Trees.{append}
use Rattle.effects.specs.Effects.{Subject, All, Pending}

pub either_of : {A B C D : Type 0} → (A → C) → (B → D) → A ⊎ B → C ⊎ D
either_of f g (inl a) = inl (f a)
either_of f g (inr b) = inr (g b)

pub from_either : {A B C : Type 0} → (A → C) → (B → C) → A ⊎ B → C
from_either f g (inl a) = f a
from_either f g (inr b) = g b

module _ (p : Program) (subject : Subject) where
  pub all_append : (b c : Codes) (x : subject.Item) → All p subject (append b c) x
      → All p subject b x ⊎ All p subject c x
  all_append End c x h = inr h
  all_append (Then l s b) c x (All.here h) = inl (All.here h)
  all_append (Then l s b) c x (All.later h) = either_of (λ h. All.later h) (λ h. h) (all_append b c x h)

  pub pending_append : (b c : Codes) (x : subject.Item) → Pending p subject (append b c) x
      → Pending p subject b x ⊎ Pending p subject c x
  pending_append End c x h = inr h
  pending_append (Then l s b) c x (Pending.here h) = inl (Pending.here h)
  pending_append (Then l s b) c x (Pending.later h) = either_of (λ h. Pending.later h) (λ h. h) (pending_append b c x h)
