-- From the state at the end to the outcome.
use Rattle.std.proofs.Common.{◌≡◌, List, [], ◌∷◌, length, refl, sym, ap, ◌∙◌}
use Rattle.std.specs.Prelude.{ℤ, map}
use Rattle.types.specs.Code.{Array, Program}
use Rattle.types.specs.Contents.{held_by, shown, FitsArrays, no_more, also}
use Rattle.types.specs.Meaning.{one, one_rules, after_finish}
use Rattle.types.specs.Outcome.{Budget, Ending, start, outcome, outcome_by, outcome_of}
use Rattle.types.specs.Run.{Flow, On, Faulted, Stopped, Fault, State, Block}
use Rattle.types.proofs.Lists.{shown-held_by}

-- lists of the same lengths fit the same arrays
pub fits_too : (arrays : List Array) (xs ys : List (List ℤ)) → FitsArrays arrays xs → map length ys ≡ map length xs → FitsArrays arrays ys
fits_too [] [] [] no_more e = no_more
fits_too [] [] (y ∷ ys) no_more e = absurd (let bad : ⊥ = cc in bad)
fits_too [] (x ∷ xs) ys fits e = elim fits [ ]
fits_too (a ∷ arrays) [] ys fits e = elim fits [ ]
fits_too (a ∷ arrays) (x ∷ xs) [] fits e = absurd (let bad : ⊥ = cc in bad)
fits_too (a ∷ arrays) (x ∷ xs) (y ∷ ys) (also here rest) e =
    let same : length y ≡ length x = cc in let others : map length ys ≡ map length xs = cc in
    also (same ∙ here) (fits_too arrays xs ys rest others)

-- the outer finish doesn't change the outcome
outer : (f : Flow) (faults : List Fault) (e : Ending) → outcome_by f e ≡ outcome_by (after_finish f faults) e
outer On [] e = refl
outer On (x ∷ xs) e = refl
outer Faulted [] e = refl
outer Faulted (x ∷ xs) e = refl
outer Stopped [] e = refl
outer Stopped (x ∷ xs) e = refl

-- a state at the end, with these lists, gives the outcome
pub outcome_at : (p : Program) (input lists : List (List ℤ)) (b : Budget) (st : State (Unit {0}))
    → FitsArrays p.arrays lists → st.store ≡ held_by lists
    → st ≡ one p b.steps b.nest (Block p.main.body) (start tt p b.steps (held_by input))
    → outcome_by st.flow (record { arrays = lists; lines = st.lines; faults = st.faults }) ≡ outcome p input b
outcome_at p input lists b st fits holds is =
    ap (λ l. outcome_by st.flow (record { arrays = l; lines = st.lines; faults = st.faults }))
    (sym (shown-held_by p.arrays lists fits) ∙ ap (shown p.arrays) (sym holds))
    ∙ outer st.flow st.faults (record { arrays = shown p.arrays st.store; lines = st.lines; faults = st.faults })
    ∙ ap (λ (st : State (Unit {0})). outcome_of p ((one_rules p b.steps b.nest).leave (start tt p b.steps (held_by input)) st)) is
