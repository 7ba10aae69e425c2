-- Pairs that may run together have no order.
use Rattle.std.proofs.Common.{inl, inr, ℕ}
use Rattle.types.specs.Code.{Codes, Program}
use Rattle.types.specs.Run.{procedure_of}
use Rattle.effects.specs.Effects.{Subject, labels}
use Rattle.parallel_relation.specs.Together.{MayMeet, LabelsMeet}

pub meet_turned : (p : Program) (subject : Subject) (b : Codes) (x y : subject.Item)
    → MayMeet p subject b x y → MayMeet p subject b y x
meet_turned p subject b x y (inl h) = inr h
meet_turned p subject b x y (inr h) = inl h

pub labels_turned : (p : Program) (x y : ℕ) → LabelsMeet p x y → LabelsMeet p y x
labels_turned p x y (LabelsMeet.in_procedure f h) =
    LabelsMeet.in_procedure f (meet_turned p labels (procedure_of p f).body x y h)
labels_turned p x y (LabelsMeet.in_main h) = LabelsMeet.in_main (meet_turned p labels p.main.body x y h)
