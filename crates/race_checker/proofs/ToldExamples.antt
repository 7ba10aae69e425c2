-- Worked programs: the race that is reported for each.
use Rattle.std.proofs.Common.{◌≡◌, ℕ, ◌+◌, [], ◌∷◌, refl, fold}
use Rattle.std.specs.Prelude.{codes, Option, None, Some, true, false}
use Rattle.syntax_tree.specs.declared.tree.ElementType.TheVariants.{Int}
use Rattle.sections.specs.Origins.{Root}
use Rattle.types.specs.Code.{Async, Do, Store, End, Procedure, Program}
use Rattle.types.proofs.Programs.{◌⨾◌, lit}
use Rattle.effects.specs.Accesses.{Access}
use Rattle.effects.specs.Effects.{accesses}
use Rattle.effects.specs.Rounds.{summaries, pending_summaries}
use Rattle.parallel_relation.specs.Meetings.{met_in}
use Rattle.parallel_relation.proofs.Programs.{unfinished, two_splits, split_in_loop, call_then_store, readers_and_writer}
use Rattle.race_checker.specs.Races.{Race, numbered}
use Rattle.race_checker.specs.Search.{tell, lesser_of}

abbrev pub reads : ℕ → ℕ → Access
reads l s = record { label = l; section = s; write = false }

abbrev pub writes : ℕ → ℕ → Access
writes l s = record { label = l; section = s; write = true }

abbrev pub race : ℕ → Access → Access → Option Race
race f x y = Some (record { procedure = f; first = x; second = y })

-- the least clash of a procedure
abbrev pub told_in : Program → (f : ℕ) → Option Race
told_in p f =
    fold (tell (numbered p f).sections f) None (met_in accesses (summaries p) (pending_summaries p) (numbered p f).body)

unfinished_told : told_in unfinished 0 ≡ race 0 (writes 2 0) (reads 4 0)
unfinished_told = refl

two_splits_told : told_in two_splits 0 ≡ race 0 (writes 5 1) (writes 6 3)
two_splits_told = refl

split_in_loop_told : told_in split_in_loop 0 ≡ race 0 (writes 6 0) (writes 6 0)
split_in_loop_told = refl

readers_and_writer_told : told_in readers_and_writer 0 ≡ race 0 (reads 3 0) (writes 6 0)
readers_and_writer_told = refl

call_then_store_told : told_in call_then_store 1 ≡ race 1 (writes 2 0) (writes 5 0)
call_then_store_told = refl

-- proc p(mut s: int) { async { s[0] = 1; } s[0] = 2; }, with labels from this one
abbrev racing : (label : ℕ) → (name : ℕ) → Procedure
racing l n = record {
  name = n ∷ [];
  parameters = record { may_write = true; element = Int } ∷ [];
  scalars = 0;
  slots = 0;
  sections = Root ∷ [];
  section_names = (115 ∷ []) ∷ [];
  body = (l, Async ((l + 1, Do (Store 0 (lit 0) (lit 1))) ⨾ End)) ⨾ (l + 2, Do (Store 0 (lit 0) (lit 2))) ⨾ End;
}

-- two such procedures without callers
abbrev two_racing : Program
two_racing = record {
  arrays = [];
  procedures = racing 1 112 ∷ racing 4 113 ∷ [];
  main = record {
    name = codes "main";
    parameters = [];
    scalars = 0;
    slots = 0;
    sections = [];
    section_names = [];
    body = End;
  };
}

first_procedure_told :
    lesser_of (lesser_of (told_in two_racing 0) (told_in two_racing 1)) (told_in two_racing 2) ≡ race 0 (writes 2 0) (writes 3 0)
first_procedure_told = refl
