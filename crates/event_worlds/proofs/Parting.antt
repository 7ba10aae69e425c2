-- Each live task continues: what a passed scope holds settles what its owner made in it.
use Rattle.std.proofs.Common.{◌≡◌, ℕ, zero, suc, ◌+◌, ◌-◌, ◌/◌, List, [], ◌∷◌, ◌++◌, length, Option, Some, None}
use Rattle.std.proofs.Common.{refl, sym, ap, ◌∙◌, subst, inl, inr, arith, append_assoc}
use Rattle.std.proofs.lemmas.Option.{none-some, same_Some}
use Rattle.std.specs.Prelude.{true, false, ◌⊎◌, map, take, slice_get, sum_by, if◌then◌else◌}
use Rattle.shared_lemmas.proofs.Truths.{false_true}
use Rattle.shared_lemmas.proofs.Lists.{same_head, same_rest}
use Rattle.sections.specs.Member.{Member, first, next}
use Rattle.types.specs.Code.{Codes, Program}
use Rattle.types.specs.Run.{State}
use Rattle.effects.specs.Needs.{Needs, Provides}
use Rattle.race_checker.specs.Scope.{IsScoped}
use Rattle.race_checker.specs.Calm.{IsCalm}
use Rattle.task_run.specs.Results.{TaskResult, Settled}
use Rattle.task_run.specs.Settling.{settle}
use Rattle.task_run.specs.Lists.{Each}
use Rattle.task_run.specs.OwnRun.{Start, Child, Action, Step, Spawn, EnterFinish, EndFinish, Own, result_of}
use Rattle.task_run.specs.OwnRun.{own_rules, last_action, next_action}
use Rattle.task_run.specs.Given.{own, in_truth, IsOwn}
use Rattle.task_run.specs.Frames.{Frame, AtEnd, Standing, turn, handed}
use Rattle.task_run.specs.Holds.{MayBegin}
use Rattle.task_run.specs.Reached.{child_begins, begun}
use Rattle.task_run.specs.Worth.{measured, worth_by}
use Rattle.task_run.proofs.MeasuredResults.{measured_settles_by}
use Rattle.task_run.proofs.ReachedTasks.{goes}
use Rattle.task_run.proofs.TaskRuns.{each_if_given, goes_on, begins_follow}
use Rattle.task_run.proofs.SettledResults.{paths_same}
use Rattle.event_worlds.specs.World.{ScopeId, Stake, Live, Scope, World, Whereabouts, Queue, Hand, Parked, same_path}
use Rattle.event_worlds.specs.World.{child_path, task, put_task, without_task, is_parked}
use Rattle.event_worlds.specs.Events.{Event, Take, Steal, Steps, Replenish, Spawns, Opens, Parks, Ends, Pass, Resume}
use Rattle.event_worlds.specs.Events.{did, new_task}
use Rattle.event_worlds.proofs.Lookups.{by_test, other_path, task-without_task, gone-without_task}
use Rattle.event_worlds.proofs.Histories.{nil_snoc}
use Rattle.event_worlds.proofs.Changes.{IsQuiet, IsReplenish, IsSpawn, IsOpen, IsPark, IsEnd, IsResume, Becomes}
use Rattle.event_worlds.proofs.Kept.{Kept}
use Rattle.event_worlds.proofs.Steps.{put_cases}
use Rattle.event_worlds.proofs.Levels.{depth, depth-append, depth-last_action, take_next}
use Rattle.event_worlds.proofs.Direct.{start_of, bracketed}
use Rattle.event_worlds.proofs.OwnTasks.{IsOwnTask, AllOwn, truly, truly_is, own_is_awake, nexts, hands, next_in_truth}
use Rattle.event_worlds.proofs.OwnTasks.{depth_more, at_level}
use Rattle.event_worlds.proofs.GoingOn.{take_all}
use Rattle.event_worlds.proofs.Measured.{worth, worth_lists, listed_is}
use Rattle.event_worlds.proofs.Standing.{Stands, Closes, finishes, is_over, poise, moves, closes, closed}
use Rattle.event_worlds.proofs.Standing.{moved_on, left, IsMove}
use Rattle.event_worlds.proofs.Pending.{spawned, spawned-append, around, pendings, turn_pending, pending_spawned}
use Rattle.event_worlds.proofs.Owed.{AllEven, open_in, open_is, quiet_even, replenish_even, park_even, pass_even}
use Rattle.event_worlds.proofs.Owed.{open_even, spawn_even, end_even, resume_even, results_are, prior, prior_awake}

-- the last of the listed children
listed_last : (cs : List Child) (ss : List Start) (c : Start) → map start_of cs ≡ ss ++ c ∷ [] → (d : Child) × Member d cs × (d.start ≡ c)
listed_last [] ss c e = absurd (nil_snoc ss c [] e)
listed_last (d ∷ cs) [] c e = (d, first, same_head e)
listed_last (d ∷ cs) (s ∷ ss) c e = let h = listed_last cs ss c (same_rest e) in (h.0, next h.1, h.2)

module _ (p : Program) (needs : Codes → Needs) (scoped : IsScoped p) (calm : IsCalm p) (provided : Provides p needs) (fresh w0 : ℕ)
    (root : Start) (nameless : root.path ≡ []) (may_begin : MayBegin p needs root) where
  abbrev pub truth : Start → List Action
  truth s = truly p needs fresh w0 root nameless s

  abbrev IsTaskOf : Live → Type 0
  IsTaskOf t = IsOwnTask p needs fresh w0 root nameless t

  abbrev pub its_next : Live → Option Action
  its_next t = nexts p needs fresh w0 root nameless t

  abbrev pub StandsIn : (s : Start) → List (List TaskResult) → ℕ → Standing Own → Type 0
  StandsIn s receipts done u = Stands p needs scoped calm provided fresh root nameless may_begin s receipts done u

  -- a task with this start is at some point of its own run
  abbrev pub StandsBy : (s : Start) → List (List TaskResult) → ℕ → Type 0
  StandsBy s receipts done = (u : Standing Own) × StandsIn s receipts done u

  -- a parked task is at the end of a finish that it has ended
  pub record WaitsAt (t : Live) : Type 0 where
    pub before : State Own
    pub frames : List (Frame Own)
    pub state : State Own
    pub done : ℕ
    pub stands : StandsIn t.start t.receipts done (record { frames = AtEnd before ∷ frames; state = state })
    pub count : done + 1 ≡ t.done
    pub ends : slice_get (truth t.start) done ≡ Some EndFinish

  abbrev pub HasPlace : Whereabouts → List Stake → Live → Type 0
  HasPlace (Queue w) ss t = StandsBy t.start t.receipts t.done
  HasPlace (Hand w) ss t = StandsBy t.start t.receipts t.done
  HasPlace Parked [] t = Unit {0}
  HasPlace Parked (s ∷ []) t = Unit {0}
  HasPlace Parked (s ∷ o ∷ more) t = WaitsAt t

  place_awake : (w : Whereabouts) (ss : List Stake) (t : Live) → is_parked w ≡ false → HasPlace w ss t → StandsBy t.start t.receipts t.done
  place_awake (Queue w) ss t e h = h
  place_awake (Hand w) ss t e h = h
  place_awake Parked ss t e h = absurd (false_true (sym e))

  awake_place : (w : Whereabouts) (ss : List Stake) (t : Live) → is_parked w ≡ false → StandsBy t.start t.receipts t.done → HasPlace w ss t
  awake_place (Queue w) ss t e h = h
  awake_place (Hand w) ss t e h = h
  awake_place Parked ss t e h = absurd (false_true (sym e))

  -- each live task is at a point of its own run
  abbrev pub AllPlaced : List Live → Type 0
  AllPlaced ts = (q : List ℕ) (t : Live) → task q ts ≡ Some t → HasPlace t.place t.stakes t

  pub awake_stands : (t : Live) → is_parked t.place ≡ false → HasPlace t.place t.stakes t → StandsBy t.start t.receipts t.done
  awake_stands t e h = place_awake t.place t.stakes t e h

  put_placed : (to was : Live) (path : List ℕ) (ts : List Live) → task path ts ≡ Some was → to.path ≡ path → AllPlaced ts
      → HasPlace to.place to.stakes to → AllPlaced (put_task to ts)
  put_placed to was path ts e g h k q t f = by_place (put_cases to was t q ts (ap (λ r. task r ts) g ∙ e) f).here
    where
      by_place : ((to.path ≡ q) × (to ≡ t)) ⊎ ((to.path ≡ q → ⊥) × (task q ts ≡ Some t)) → HasPlace t.place t.stakes t
      by_place (inl (i, j)) = subst (λ (t : Live). HasPlace t.place t.stakes t) j k
      by_place (inr (i, j)) = h q t j

  -- one action further
  further : (s : Start) (receipts : List (List TaskResult)) (done : ℕ) (a : Action) → IsMove a
      → next_action p needs fresh receipts done s ≡ Some a → StandsBy s receipts done
      → StandsBy s receipts (done + 1)
  further s receipts done a m e h =
      let k = moves p needs scoped calm provided fresh root nameless may_begin s receipts done
      (poise p needs scoped calm provided fresh root nameless may_begin s receipts done h.0 h.1) a m e in (
        turn p (own_rules needs s.nest (in_truth p needs fresh)) k.frame k.frames k.state,
        moved_on p needs scoped calm provided fresh root nameless may_begin s receipts done a k,
      )

  -- no depth is left after all actions of a task
  truth_none : (s : Start) → depth 0 (truth s) ≡ None
  truth_none s =
      let b = bracketed p needs fresh (in_truth p needs fresh) s in
      ap (depth 0) (truly_is p needs fresh w0 root nameless s)
      ∙ depth-append 0 (own p needs fresh s).extra.actions (last_action (own p needs fresh s).path ∷ []) b.rise b.level
      ∙ ap (λ n. depth n (last_action (own p needs fresh s).path ∷ [])) (b.flat (own_is_awake p needs fresh w0 root nameless s))
      ∙ depth-last_action (own p needs fresh s).path

  take_whole : {A : Type 0} (xs : List A) (x : A) (n : ℕ) → length xs ≡ n → take (n + 1) (xs ++ x ∷ []) ≡ xs ++ x ∷ []
  take_whole xs x n e =
      let k : n + 1 ≡ suc n = omega arith in
      ap (λ m. take m (xs ++ x ∷ [])) k ∙ by_list xs n e
    where
      by_list : (xs : List _) (n : ℕ) → length xs ≡ n → take (suc n) (xs ++ x ∷ []) ≡ xs ++ x ∷ []
      by_list [] zero e = refl
      by_list [] (suc n) e = absurd (omega (arith, e))
      by_list (y ∷ xs) zero e = absurd (omega (arith, e))
      by_list (y ∷ xs) (suc n) e = ap (λ l. y ∷ l) (by_list xs n (omega (arith, e)))

  -- a task that is over has made what its own run makes
  over_own : (s : Start) (receipts : List (List TaskResult)) (done : ℕ) (st : State Own)
      → StandsIn s receipts done (record { frames = []; state = st }) → st ≡ own p needs fresh s
  over_own s receipts done st h = (goes p needs scoped calm provided fresh root nameless may_begin h.reached).task.runs

  over_whole : (s : Start) (receipts : List (List TaskResult)) (done : ℕ) (st : State Own)
      → StandsIn s receipts done (record { frames = []; state = st }) → take (done + 1) (truth s) ≡ truth s
  over_whole s receipts done st h =
      let e = truly_is p needs fresh w0 root nameless s in
      let l = ap (λ (x : State Own). length x.extra.actions) (sym (over_own s receipts done st h)) ∙ h.after in
      ap (take (done + 1)) e
      ∙ take_whole (own p needs fresh s).extra.actions (last_action (own p needs fresh s).path) done l ∙ sym e

  -- what it has done so far
  so_far : (s : Start) (receipts : List (List TaskResult)) (done : ℕ) (u : Standing Own) → StandsIn s receipts done u
      → take done (truth s) ≡ u.state.extra.actions
  so_far s receipts done u h =
      let task = (goes p needs scoped calm provided fresh root nameless may_begin h.reached).task in
      let g = goes_on p needs fresh root s u.frames u.state task in
      let last = last_action (own p needs fresh s).path ∷ [] in
      ap (take done) (truly_is p needs fresh w0 root nameless s ∙ ap (λ l. l ++ last) g.1 ∙ append_assoc u.state.extra.actions g.0 last)
      ∙ ap (λ n. take n (u.state.extra.actions ++ (g.0 ++ last))) (sym h.after)
      ∙ take_all u.state.extra.actions (g.0 ++ last)

  module _ (f : TaskResult → ℕ) where
    abbrev pub EvenBy : List Live → List Scope → Type 0
    EvenBy ts ss =
        AllEven p needs fresh w0 root nameless (worth p needs fresh f) f (worth_lists p needs fresh f) ts ss

    abbrev opened : Live → List (List Start)
    opened t = open_in p needs fresh w0 root nameless (worth p needs fresh f) f (worth_lists p needs fresh f) t

    opened_is : (t : Live) (n : ℕ) → prior p needs fresh w0 root nameless (worth p needs fresh f) f
        (worth_lists p needs fresh f) t.place t.done ≡ n → opened t ≡ spawned ([] ∷ []) (take n (truth t.start))
    opened_is t n e =
        open_is p needs fresh w0 root nameless (worth p needs fresh f) f (worth_lists p needs fresh f) t
        ∙ ap (λ n. spawned ([] ∷ []) (take n (truth t.start))) e

  -- each scope holds what it should, by any measure
  abbrev pub AllEvenBy : List Live → List Scope → Type 0
  AllEvenBy ts ss = (f : TaskResult → ℕ) → EvenBy f ts ss

  module _ (es : List Event) (a : World) (k : Kept es a) (o : AllOwn p needs fresh w0 root nameless a) (h : AllPlaced a.live) where
    quiet_placed : (path : List ℕ) (b : World) → IsQuiet its_next path a b → AllPlaced b.live
    quiet_placed path b c =
        subst (λ (w : World). AllPlaced w.live) c.now
        (put_placed c.to c.was path a.live c.found (c.renamed ∙ c.named) h
        (awake_place c.to.place c.to.stakes c.to c.awake
        (subst (λ s. StandsBy s c.to.receipts c.to.done) (sym c.start)
        (subst (λ rs. StandsBy c.was.start rs c.to.done) (sym c.receipts) (by_way c.way)))))
      where
        by_way : (c.to.done ≡ c.was.done) ⊎ ((its_next c.was ≡ Some Step) × (c.to.done ≡ c.was.done + 1))
            → StandsBy c.was.start c.was.receipts c.to.done
        by_way (inl e) =
            subst (λ n. StandsBy c.was.start c.was.receipts n) (sym e)
            (place_awake c.was.place c.was.stakes c.was c.was_awake (h path c.was c.found))
        by_way (inr (e, n)) =
            subst (λ n. StandsBy c.was.start c.was.receipts n) (sym n)
            (further c.was.start c.was.receipts c.was.done Step tt e
            (place_awake c.was.place c.was.stakes c.was c.was_awake (h path c.was c.found)))

    replenish_placed : (path : List ℕ) (b : World) → IsReplenish w0 path a b → AllPlaced b.live
    replenish_placed path b c =
        let to : Live = record c.at.was { stakes = record c.at.inner { weight = 1 + w0 } ∷ c.at.outer } in
        subst (λ (w : World). AllPlaced w.live) c.now
        (put_placed to c.at.was path a.live c.at.found c.at.named h
        (awake_place c.at.was.place to.stakes to c.at.awake
        (place_awake c.at.was.place c.at.was.stakes c.at.was c.at.awake (h path c.at.was c.at.found))))

    module _ (path : List ℕ) (b : World) (c : IsSpawn its_next path a b) where
      abbrev kid : Live
      kid = new_task (child_path c.at.was.path (c.at.was.spawned + 1)) c.child (record c.at.inner { weight = c.at.inner.weight / 2 }) c.at.worker

      abbrev parent : Live
      parent = record (did c.at.was (record c.at.inner { weight = c.at.inner.weight - c.at.inner.weight / 2 } ∷ c.at.outer)) { spawned = c.at.was.spawned + 1 }

      spawner_stood : StandsBy c.at.was.start c.at.was.receipts c.at.was.done
      spawner_stood = place_awake c.at.was.place c.at.was.stakes c.at.was c.at.awake (h path c.at.was c.at.found)

      on_parent : HasPlace parent.place parent.stakes parent
      on_parent =
          awake_place c.at.was.place parent.stakes parent c.at.awake
          (further c.at.was.start c.at.was.receipts c.at.was.done (Spawn c.child) tt c.next spawner_stood)

      on_kid : StandsBy c.child [] 0
      on_kid =
          let m = moves p needs scoped calm provided fresh root nameless may_begin c.at.was.start c.at.was.receipts c.at.was.done
          (poise p needs scoped calm provided fresh root nameless may_begin c.at.was.start c.at.was.receipts c.at.was.done spawner_stood.0 spawner_stood.1)
          (Spawn c.child) tt c.next in
          let s = moved_on p needs scoped calm provided fresh root nameless may_begin c.at.was.start c.at.was.receipts c.at.was.done (Spawn c.child) m in
          let to = turn p (own_rules needs c.at.was.start.nest (in_truth p needs fresh)) m.frame m.frames m.state in
          let all = turn_pending p needs fresh c.at.was.start.nest m.frame m.frames m.state
          ∙ ap (λ xs. spawned (pendings (m.frame ∷ m.frames) m.state) xs) m.does in
          let d = listed_last to.state.extra.pending (map start_of m.state.extra.pending) c.child (same_head all) in
          subst (λ x. StandsBy x [] 0) d.2 (
            begun fresh d.0.start,
            record {
              reached = child_begins s.reached d.1;
              follows = begins_follow p needs fresh root d.0.start;
              after = refl;
            },
          )

      placed : AllPlaced (kid ∷ put_task parent a.live)
      placed q t f =
          by_test (λ x. (if x then Some kid else task q (put_task parent a.live)) ≡ Some t → HasPlace t.place t.stakes t)
          (same_path kid.path q)
          (λ g e. subst (λ (t : Live). HasPlace t.place t.stakes t) (same_Some _ _ e) on_kid)
          (λ g e. put_placed parent c.at.was path a.live c.at.found c.at.named h on_parent q t e) f

      spawn_placed : AllPlaced b.live
      spawn_placed = subst (λ (w : World). AllPlaced w.live) c.now placed

    open_placed : (path : List ℕ) (b : World) → IsOpen its_next w0 path a b → AllPlaced b.live
    open_placed path b c =
        let id : ScopeId = record { owner = c.was.path; number = c.was.opened + 1 } in
        let to : Live = record (did c.was (record { scope = id; weight = w0 } ∷ c.was.stakes)) { opened = c.was.opened + 1 } in
        subst (λ (w : World). AllPlaced w.live) c.now
        (put_placed to c.was path a.live c.found c.named h
        (awake_place c.was.place to.stakes to c.awake
        (further c.was.start c.was.receipts c.was.done EnterFinish tt c.next
        (place_awake c.was.place c.was.stakes c.was c.awake (h path c.was c.found)))))

    module _ (path : List ℕ) (b : World) (c : IsPark its_next path a b) where
      abbrev parked : Live
      parked = record (did c.at.was (record c.at.inner { weight = 0 } ∷ c.at.outer)) { place = Parked }

      its : IsTaskOf c.at.was
      its = o.tasks path c.at.was c.at.found

      parker_stood : StandsBy c.at.was.start c.at.was.receipts c.at.was.done
      parker_stood = place_awake c.at.was.place c.at.was.stakes c.at.was c.at.awake (h path c.at.was c.at.found)

      by_close : (r : Stake) (more : List Stake) → c.at.outer ≡ r ∷ more
          → Closes p needs scoped calm provided fresh root nameless may_begin c.at.was.start c.at.was.receipts c.at.was.done → WaitsAt parked
      by_close r more e (finishes before fs st s) = record {
        before = before;
        frames = fs;
        state = st;
        done = c.at.was.done;
        stands = s;
        count = refl;
        ends = next_in_truth p needs fresh w0 root nameless c.at.was its EndFinish c.next;
      }
      by_close r more e (is_over st s) =
          let d = depth_more p needs fresh w0 root nameless c.at.was its EndFinish (length c.at.outer) c.next
          (at_level p needs fresh w0 root nameless a o path c.at) in
          absurd (none-some _
          (sym (truth_none c.at.was.start) ∙ ap (depth 0) (sym (over_whole c.at.was.start c.at.was.receipts c.at.was.done st s))
          ∙ d ∙ ap (λ (ss : List Stake). depth (length ss) (EndFinish ∷ [])) e))

      by_outer : (ss : List Stake) → c.at.outer ≡ ss → HasPlace Parked (record c.at.inner { weight = 0 } ∷ c.at.outer) parked
      by_outer [] e = subst (λ ss. HasPlace Parked (record c.at.inner { weight = 0 } ∷ ss) parked) (sym e) tt
      by_outer (r ∷ more) e =
          subst (λ ss. HasPlace Parked (record c.at.inner { weight = 0 } ∷ ss) parked) (sym e)
          (by_close r more e
          (closes p needs scoped calm provided fresh root nameless may_begin c.at.was.start c.at.was.receipts c.at.was.done
          (poise p needs scoped calm provided fresh root nameless may_begin c.at.was.start c.at.was.receipts c.at.was.done parker_stood.0 parker_stood.1) c.next))

      park_placed : AllPlaced b.live
      park_placed =
          subst (λ (w : World). AllPlaced w.live) c.now (put_placed parked c.at.was path a.live c.at.found c.at.named h (by_outer c.at.outer refl))

    end_placed : (path : List ℕ) (b : World) → IsEnd its_next (λ t. hands p needs fresh w0 root nameless t) path a b → AllPlaced b.live
    end_placed path b c = subst (λ (w : World). AllPlaced w.live) c.now (λ q t f.
        by_test (λ x. HasPlace t.place t.stakes t) (same_path c.at.was.path q)
        (λ g. absurd (none-some _ (sym (gone-without_task c.at.was.path a.live k.unique)
        ∙ ap (λ r. task r (without_task c.at.was.path a.live)) (paths_same c.at.was.path q g) ∙ f)))
        (λ g. h q t (sym (task-without_task c.at.was.path q a.live (other_path g)) ∙ f)))

    -- all that it spawned is pending at its end
    end_spawned : (path : List ℕ) (b : World) (c : IsEnd its_next (λ t. hands p needs fresh w0 root nameless t) path a b) (f : TaskResult → ℕ)
        → opened f c.at.was ≡ map start_of (own p needs fresh c.at.was.start).extra.pending ∷ []
    end_spawned path b c f =
        let stood = place_awake c.at.was.place c.at.was.stakes c.at.was c.at.awake (h path c.at.was c.at.found) in
        let over = closed p needs scoped calm provided fresh root nameless may_begin c.at.was.start c.at.was.receipts c.at.was.done
        (poise p needs scoped calm provided fresh root nameless may_begin c.at.was.start c.at.was.receipts c.at.was.done stood.0 stood.1) c.next in
        let at : Standing Own = record { frames = []; state = over.0 } in
        opened_is f c.at.was c.at.was.done
        (prior_awake p needs fresh w0 root nameless (worth p needs fresh f) f
        (worth_lists p needs fresh f) c.at.was.place c.at.was.done c.at.awake)
        ∙ ap (spawned ([] ∷ [])) (so_far c.at.was.start c.at.was.receipts c.at.was.done at over.1)
        ∙ sym (pending_spawned p needs fresh root over.1.reached)
        ∙ ap (λ (x : State Own). map start_of x.extra.pending ∷ []) (over_own c.at.was.start c.at.was.receipts c.at.was.done over.0 over.1)

    -- ---- after a finish
    module _ (even : AllEvenBy a.live a.scopes) (path : List ℕ) (b : World) (c : IsResume path a b) where
      pub waited : WaitsAt c.was
      waited = by_place c.was.place c.parked (subst (λ ss. HasPlace c.was.place ss c.was) c.stakes (h path c.was c.found))
        where
          by_place : (w : Whereabouts) → is_parked w ≡ true → HasPlace w (c.inner ∷ c.next ∷ c.outer) c.was → WaitsAt c.was
          by_place (Queue w) e x = absurd (false_true e)
          by_place (Hand w) e x = absurd (false_true e)
          by_place Parked e x = x

      here : List Start
      here = map start_of waited.state.extra.pending

      beyond : List (List Start)
      beyond = around (AtEnd waited.before ∷ waited.frames)

      prior_is : (f : TaskResult → ℕ) (w : Whereabouts) → is_parked w ≡ true
          → prior p needs fresh w0 root nameless (worth p needs fresh f) f
          (worth_lists p needs fresh f) w c.was.done ≡ waited.done
      prior_is f (Queue w) e = absurd (false_true e)
      prior_is f (Hand w) e = absurd (false_true e)
      prior_is f Parked e = let n = waited.count in omega (arith, n)

      so_long : take waited.done (truth c.was.start) ≡ waited.state.extra.actions
      so_long = so_far c.was.start c.was.receipts waited.done _ waited.stands

      was_open : (f : TaskResult → ℕ) → opened f c.was ≡ here ∷ beyond
      unfolding here beyond
      was_open f =
          opened_is f c.was waited.done (prior_is f c.was.place c.parked)
          ∙ ap (spawned ([] ∷ [])) so_long ∙ sym (pending_spawned p needs fresh root waited.stands.reached)

      left_open : (f : TaskResult → ℕ) → opened f
          (record c.was { receipts = c.was.receipts ++ c.of.book.results ∷ []; stakes = c.next ∷ c.outer; place = Hand c.worker }) ≡ beyond
      left_open f =
          let to : Live = record c.was { receipts = c.was.receipts ++ c.of.book.results ∷ []; stakes = c.next ∷ c.outer; place = Hand c.worker } in
          let n : suc waited.done ≡ c.was.done = (let e = waited.count in omega (arith, e)) in
          opened_is f to c.was.done refl
          ∙ ap (λ n. spawned ([] ∷ []) (take n (truth c.was.start))) (sym n)
          ∙ ap (spawned ([] ∷ [])) (take_next (truth c.was.start) waited.done EndFinish waited.ends)
          ∙ spawned-append ([] ∷ []) (take waited.done (truth c.was.start)) (EndFinish ∷ [])
          ∙ ap (λ css. spawned css (EndFinish ∷ []))
          (sym (opened_is f c.was waited.done (prior_is f c.was.place c.parked)) ∙ was_open f)

      pub resumed_even : AllEvenBy b.live b.scopes
      resumed_even f =
          resume_even p needs fresh w0 root nameless (worth p needs fresh f) f (worth_lists p needs fresh f)
          es a k o (even f) path b c here beyond (was_open f) (left_open f)

      -- the results are worth what is pending
      by_measure : (f : TaskResult → ℕ) → measured f c.of.book.results
          ≡ sum_by (λ (d : Child). worth_by p needs fresh f d.start) waited.state.extra.pending
      unfolding here
      by_measure f =
          results_are p needs fresh w0 root nameless (worth p needs fresh f) f (worth_lists p needs fresh f)
          es a k o (even f) path b c here beyond (was_open f)
          ∙ sym (listed_is p needs fresh f waited.state.extra.pending)

      own_results : Each (IsOwn p needs fresh root) c.of.book.results
      own_results = each_if_given p needs fresh root c.of.book.results (o.results c.inner.scope c.of.book c.of.found)

      pub comes : (x : Settled) × (settle (result_of waited.state) c.of.book.results ≡ Some x)
      comes =
          measured_settles_by p needs scoped calm provided fresh root nameless may_begin c.was.start
          (record { frames = AtEnd waited.before ∷ waited.frames; state = waited.state }) waited.stands.reached c.of.book.results own_results
          by_measure

      resume_placed : AllPlaced b.live
      resume_placed =
          let to : Live = record c.was { receipts = c.was.receipts ++ c.of.book.results ∷ []; stakes = c.next ∷ c.outer; place = Hand c.worker } in
          subst (λ (w : World). AllPlaced w.live) c.now
          (put_placed to c.was path a.live c.found c.named h
          (subst (λ n. StandsBy c.was.start (c.was.receipts ++ c.of.book.results ∷ []) n) waited.count (
            record { frames = waited.frames; state = handed waited.before comes.0 waited.state },
            left p needs scoped calm provided fresh root nameless may_begin c.was.start c.was.receipts waited.done waited.before waited.frames
                waited.state waited.stands c.of.book.results own_results comes.0 comes.1,
          )))

    -- ---- events
    pub event_placed : AllEvenBy a.live a.scopes → (e : Event) (b : World)
        → Becomes its_next (λ t. hands p needs fresh w0 root nameless t) w0 e a b → AllPlaced b.live
    event_placed even (Take w q) b c = quiet_placed q b c
    event_placed even (Steal w f q) b c = quiet_placed q b c
    event_placed even (Steps q) b c = quiet_placed q b c
    event_placed even (Replenish q) b c = replenish_placed q b c
    event_placed even (Spawns q) b c = spawn_placed q b c
    event_placed even (Opens q) b c = open_placed q b c
    event_placed even (Parks q) b c = park_placed q b c
    event_placed even (Ends q) b c = end_placed q b c
    event_placed even (Pass id) b c = subst (λ (w : World). AllPlaced w.live) c.now h
    event_placed even (Resume w q z) b c = resume_placed even q b c

    pub event_even : AllEvenBy a.live a.scopes → (e : Event) (b : World)
        → Becomes its_next (λ t. hands p needs fresh w0 root nameless t) w0 e a b → AllEvenBy b.live b.scopes
    event_even even (Take w q) b c f = quiet_even p needs fresh w0 root nameless (worth p needs fresh f) f (worth_lists p needs fresh f) es a k o (even f) q b c
    event_even even (Steal w v q) b c f = quiet_even p needs fresh w0 root nameless (worth p needs fresh f) f (worth_lists p needs fresh f) es a k o (even f) q b c
    event_even even (Steps q) b c f = quiet_even p needs fresh w0 root nameless (worth p needs fresh f) f (worth_lists p needs fresh f) es a k o (even f) q b c
    event_even even (Replenish q) b c f = replenish_even p needs fresh w0 root nameless (worth p needs fresh f) f (worth_lists p needs fresh f) es a k o (even f) q b c
    event_even even (Spawns q) b c f = spawn_even p needs fresh w0 root nameless (worth p needs fresh f) f (worth_lists p needs fresh f) es a k o (even f) q b c
    event_even even (Opens q) b c f = open_even p needs fresh w0 root nameless (worth p needs fresh f) f (worth_lists p needs fresh f) es a k o (even f) q b c
    event_even even (Parks q) b c f = park_even p needs fresh w0 root nameless (worth p needs fresh f) f (worth_lists p needs fresh f) es a k o (even f) q b c
    event_even even (Ends q) b c f = end_even p needs fresh w0 root nameless (worth p needs fresh f) f (worth_lists p needs fresh f) es a k o (even f) q b c (end_spawned q b c f)
    event_even even (Pass id) b c f = pass_even p needs fresh w0 root nameless (worth p needs fresh f) f (worth_lists p needs fresh f) es a k o (even f) id b c
    event_even even (Resume w q z) b c f = resumed_even even q b c f
