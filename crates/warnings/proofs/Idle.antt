-- A block that may leave no task leaves nothing pending.
use Rattle.std.proofs.Common.{◌≡◌, true≢false}
use Rattle.std.proofs.lemmas.Bool.{or_parts}
use Rattle.std.specs.Prelude.{false}
use Rattle.types.specs.Code.{Code, Async, Codes, End, Then, Program}
use Rattle.effects.specs.Effects.{Inner, Subject, PendingOf, Pending}
use Rattle.warnings.specs.Ends.{block_may_leave, may_leave}

module _ (p : Program) (subject : Subject) where
  mutual
    nothing_of : (s : Code) (x : subject.Item) → may_leave s ≡ false → PendingOf p subject s x → ⊥
    nothing_of s x lacks (PendingOf.inner {x = y} (Inner.if_body {b = b} {c = c}) pending is) =
        nothing_in b y (or_parts (block_may_leave b) (block_may_leave c) lacks).0 pending
    nothing_of s x lacks (PendingOf.inner {x = y} (Inner.if_other {b = b} {c = c}) pending is) =
        nothing_in c y (or_parts (block_may_leave b) (block_may_leave c) lacks).1 pending
    nothing_of s x lacks (PendingOf.inner {x = y} (Inner.while {b = b}) pending is) = nothing_in b y lacks pending
    nothing_of s x lacks (PendingOf.inner {x = y} (Inner.split {b = b}) pending is) = nothing_in b y lacks pending
    nothing_of s x lacks (PendingOf.inner {x = y} (Inner.parts {b = b}) pending is) = nothing_in b y lacks pending
    nothing_of s x lacks (PendingOf.inner Inner.call pending is) = true≢false lacks
    nothing_of s x lacks (PendingOf.inner {x = y} (Inner.handler {c = c}) pending is) = nothing_in c y lacks pending
    nothing_of (Async b) x lacks (PendingOf.async all) = true≢false lacks

    nothing_in : (b : Codes) (x : subject.Item) → block_may_leave b ≡ false → Pending p subject b x → ⊥
    nothing_in (Then l s rest) x lacks (Pending.here pending) =
        nothing_of s x (or_parts (may_leave s) (block_may_leave rest) lacks).0 pending
    nothing_in (Then l s rest) x lacks (Pending.later pending) =
        nothing_in rest x (or_parts (may_leave s) (block_may_leave rest) lacks).1 pending
    nothing_in End x lacks pending = elim pending [ ]

pub nothing : (p : Program) (subject : Subject) (b : Codes) (x : subject.Item) → block_may_leave b ≡ false
    → Pending p subject b x → ⊥
nothing p subject b x lacks pending = nothing_in p subject b x lacks pending
