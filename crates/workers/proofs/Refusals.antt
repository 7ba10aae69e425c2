-- What a scope's rejection becomes.
use Rattle.std.proofs.Common.{◌≡◌, ℕ, ◌<◌, ◌⊎◌, inl, inr, Option, None}
use Rattle.task_run.specs.declared.job.Job.{Job}
use Rattle.finish_scope.specs.Own.{IsOwnScope}
use Rattle.finish_scope.specs.Scopes.{Standing, Cannot, IsEven, IsOwnerless, IsUndue, out_of}
use Rattle.finish_scope.specs.declared.causes.Ownerless.{Ownerless}
use Rattle.finish_scope.specs.declared.causes.Undue.{Undue}
use Rattle.finish_scope.specs.declared.late.Reason.{Reason}
use Rattle.finish_scope.specs.declared.late.Reason.TheVariants.{NotDue, IssuedTooOften}
use Rattle.finish_scope.specs.declared.scope_table.FindError.{FindError}
use Rattle.finish_scope.specs.declared.scope_table.FindError.TheVariants.{OutOfMemory as NoCount, NoScope as EmptySlot}
use Rattle.workers.specs.Causes.{HadNoOwner, Happens, HappensAtScope, WasNotDue, trouble_at, trouble_of}

-- a scope that isn't found
pub not_found : (o : Option Job) (e : FindError) → Happens o (trouble_at e)
not_found o NoCount = tt
not_found o (EmptySlot c) = tt

-- nobody was parked in a scope that is complete and doesn't pass
pub nobody : (s : Standing) → IsEven s → (s.owner ≡ None) ⊎ (IsEven s → ⊥) → s.owner ≡ None
nobody s even (inl none) = none
nobody s even (inr odd) = absurd (odd even)

module _ (o : Option Job) (s : Standing) (of : IsOwnScope o s.results s.owner) where
  -- a scope that issued nothing
  pub issued_nothing : (weight : ℕ) (r : Reason) → Cannot s weight r → HappensAtScope o (trouble_of r)
  issued_nothing weight (NotDue c) late = record { scope = s; of = of; weight = weight; is = late.1; late = inl late.0 }
  issued_nothing weight (IssuedTooOften c) cannot = record { scope = s; of = of; weight = weight; cannot = cannot }

  pub issued_nothing_of : (weight : ℕ) (r : Reason) → Cannot s weight r → Happens o (trouble_of r)
  issued_nothing_of weight (NotDue c) late = record { scope = s; of = of; weight = weight; is = late.1; late = inl late.0 }
  issued_nothing_of weight (IssuedTooOften c) cannot = record { scope = s; of = of; weight = weight; cannot = cannot }

  -- a scope that took nothing back
  pub took_nothing : (weight : ℕ) (c : Undue) → IsUndue s weight c → out_of s < weight → WasNotDue o c
  took_nothing weight c is less = record { scope = s; of = of; weight = weight; is = is; late = inl less }

  -- a complete scope without an owner
  pub no_owner : (c : Ownerless) → IsOwnerless s c → IsEven s → s.owner ≡ None → HadNoOwner o c
  no_owner c is even nobody = record { scope = s; of = of; is = is; even = even; nobody = nobody }
