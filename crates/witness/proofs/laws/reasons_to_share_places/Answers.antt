use Rattle.witness.proofs.Splits.{shared_reason, splits_reason, shared_overlap, splits_cases}
use Rattle.witness.proofs.laws.reasons_to_share_places.Goals as goal

pub returns-clause-shared : goal.returns-clause-shared
returns-clause-shared c = λ origins numbered a b. (
  λ h. shared_overlap origins numbered a b h.0 h.1,
  λ h. shared_reason origins numbered a b h,
)

pub returns-clause-of_splits : goal.returns-clause-of_splits
returns-clause-of_splits c = λ origins numbered a b. (
  λ h. (shared_overlap origins numbered a b _ h.1, (splits_cases origins numbered a b h.0 h.1).first, (splits_cases origins numbered a b h.0 h.1).second),
  λ h. splits_reason origins numbered a b h.0 h.1 h.2,
)

pub returns-clause-nearest : goal.returns-clause-nearest
returns-clause-nearest c = λ origins numbered a b s h. (splits_cases origins numbered a b s h).nearest
