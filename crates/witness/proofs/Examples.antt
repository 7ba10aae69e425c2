-- Worked ways, which show the races of some programs.
use Rattle.std.proofs.Common.{ℕ, [], ◌∷◌, refl, arith}
use Rattle.std.specs.Prelude.{true, false}
use Rattle.sections.specs.Member.{first}
use Rattle.types.specs.Code.{Store, Code, Do, Async, Rescue, End, Program}
use Rattle.types.proofs.Programs.{◌⨾◌, lit}
use Rattle.effects.specs.Accesses.{Access}
use Rattle.effects.specs.Statements.{Block}
use Rattle.parallel_relation.proofs.Programs.{unfinished, split_in_loop, call_then_store}
use Rattle.witness.specs.Ways.{Goes, Way, WayOf, step}
use Rattle.witness.specs.Meets.{Meets}
use Rattle.witness.specs.declared.crossing.RunsTogether.TheVariants.{Follows, Turns}
use Rattle.witness.specs.declared.step.Rule.TheVariants.{Own, Turn, Side, Enter, Begin, Handler}

abbrev reads : ℕ → ℕ → Access
reads l s = record { label = l; section = s; write = false }

abbrev writes : ℕ → ℕ → Access
writes l s = record { label = l; section = s; write = true }

-- async { a[0] = 7; } b[0] = 8; print a[0]; : the task's write, and the read after it
unfinished_shown : Meets unfinished unfinished.main.body Follows (step 1 Begin 0 ∷ step 2 Own 0 ∷ []) (step 4 Own 0 ∷ [])
    (writes 2 0) (reads 4 0)
unfinished_shown = Meets.follows (WayOf.by Goes.begin (Way.here (WayOf.own first))) (Way.later (Way.here (WayOf.own first)))

-- the task of the loop, and its next iteration: inside the split its section is l, around it s
split_in_loop_shown : Meets split_in_loop split_in_loop.main.body Turns
    (step 3 Turn 0 ∷ step 4 Side 0 ∷ step 5 Begin 1 ∷ step 6 Own 1 ∷ []) (step 3 Turn 0 ∷ step 4 Side 0 ∷ step 5 Begin 1 ∷ step 6 Own 1 ∷ [])
    (writes 6 0) (writes 6 0)
split_in_loop_shown =
    Meets.later (Meets.inside Block.finish (Meets.turns
    (WayOf.by Goes.turn (Way.here (WayOf.by (Goes.side {x = 1}) (Way.here (WayOf.by Goes.begin (Way.here (WayOf.own first)))))))
    (WayOf.by Goes.turn (Way.here (WayOf.by (Goes.side {x = 1}) (Way.here (WayOf.by Goes.begin (Way.here (WayOf.own first)))))))))

-- what the callee leaves pending, and what comes after the call
call_then_store_shown : Meets call_then_store call_then_store.main.body Follows
    (step 4 (Enter (record { number = 0 })) 0 ∷ step 1 Begin 0 ∷ step 2 Own 0 ∷ []) (step 5 Own 0 ∷ []) (writes 2 0) (writes 5 0)
call_then_store_shown =
    Meets.inside Block.finish (Meets.follows
    (WayOf.by (Goes.enter {k = 0} refl (omega arith)) (Way.here (WayOf.by Goes.begin (Way.here (WayOf.own first)))))
    (Way.here (WayOf.own first)))

-- a[0] = n;
abbrev gets : ℕ → Code
gets n = Do (Store 0 (lit 0) (lit n))

-- finish { } rescue n { async { a[0] = 2; } } a[0] = 3; : the handler's task, and the write after it
handler_shown : (p : Program)
    → Meets p ((1, Rescue End 0 ((2, Async ((3, gets 2) ⨾ End)) ⨾ End)) ⨾ (4, gets 3) ⨾ End) Follows
    (step 1 Handler 0 ∷ step 2 Begin 0 ∷ step 3 Own 0 ∷ []) (step 4 Own 0 ∷ []) (writes 3 0) (writes 4 0)
handler_shown p =
    Meets.follows (WayOf.by Goes.handler (Way.here (WayOf.by Goes.begin (Way.here (WayOf.own first)))))
    (Way.here (WayOf.own first))
