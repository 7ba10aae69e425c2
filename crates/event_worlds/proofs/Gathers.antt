-- The number of faults that a finish has gathered: what its scope counts, and what its owner has
-- made.
use Rattle.std.proofs.Common.{◌≡◌, ℕ, zero, suc, ◌+◌, List, [], ◌∷◌, ◌++◌, Option, Some, None, refl, sym, ap, ◌∙◌, subst, arith}
use Rattle.std.proofs.lemmas.List.{append-nil}
use Rattle.std.proofs.lemmas.Option.{none-some, same_Some}
use Rattle.std.proofs.lemmas.Bool.{and_parts, and_right, eqb-true}
use Rattle.std.specs.Global.{Global}
use Rattle.std.specs.Prelude.{◌<◌, ◌^◌, SomeIff, Vec, Bool, true, false, map, length, nat_eq, slice_get, if◌then◌else◌}
use Rattle.std.specs.HashMap.{get}
use Rattle.shared_lemmas.proofs.Truths.{false_true}
use Rattle.types.specs.Code.{Codes, Program}
use Rattle.types.specs.Run.{Flow, On, Faulted, Stopped, State, Fault, Rules, Block, Turn, Pieces, at_flow, run}
use Rattle.types.specs.Run.{rescued_by}
use Rattle.types.specs.Translation.{is_path}
use Rattle.types.specs.declared.path.Path.{Path}
use Rattle.effects.specs.Needs.{Needs}
use Rattle.effects.specs.Rounds.{needs_of}
use Rattle.task_run.specs.Apart.{is_stopped}
use Rattle.task_run.specs.Frames.{Frame, Rest, Again, Further, AtEnd, OnFault, Back, Standing, frame, resume, Follows}
use Rattle.task_run.specs.Jobs.{program_of, lists_of, budget_of}
use Rattle.task_run.specs.OwnRun.{Start, Own, EndFinish, notes, is_waiting, result_of, leave_with, leave_own, own_rules}
use Rattle.task_run.specs.OwnRun.{from_receipts, run_by}
use Rattle.task_run.specs.Results.{Listed, Settled, TaskResult, and_then}
use Rattle.task_run.specs.Runs.{root}
use Rattle.task_run.specs.Settling.{settle}
use Rattle.task_run.specs.Translation.{task_result}
use Rattle.task_run.specs.declared.result.TaskResult.{TaskResult as Made}
use Rattle.event_worlds.specs.Courses.{Course, course_of, IsAtAnEnd, IsDoing, made_at}
use Rattle.event_worlds.specs.Ending.{MayLeave}
use Rattle.event_worlds.specs.Events.{Event, Resume, give_back, only_if}
use Rattle.event_worlds.specs.Gathered.{before_children, faults_in, faults_of}
use Rattle.event_worlds.specs.Jobs.{IsWeightedJob}
use Rattle.event_worlds.specs.Numbering.{with_number}
use Rattle.event_worlds.specs.Replay.{hands_on, innermost, is_number}
use Rattle.event_worlds.specs.Shown.{AreResultsOf, Becomes, IsBookOf, IsDoingThere, IsLegal, IsParked, IsTaskOf, Refuses, Shows, is_scope, next_world}
use Rattle.event_worlds.specs.Shown.{scope_id, stake, whereabouts}
use Rattle.event_worlds.specs.Telling.{gathered_by}
use Rattle.event_worlds.specs.Walks.{IsIllegal}
use Rattle.event_worlds.specs.World.{Live, Scope, ScopeId, World, scope, task}
use Rattle.event_worlds.specs.declared.doing.TaskProgress.{TaskProgress}
use Rattle.event_worlds.specs.declared.doing.TaskProgress.TheVariants.{Starts, Runs, Steps, Spawns, Opens}
use Rattle.event_worlds.specs.declared.doing.TaskProgress.TheVariants.{AtFinish, AtEnd as rAtEnd}
use Rattle.event_worlds.specs.declared.error.EventError.{EventError}
use Rattle.event_worlds.specs.declared.error.EventError.TheVariants.{Illegal, NoMemory}
use Rattle.event_worlds.specs.declared.scope.WorldScope.{WorldScope as rScope}
use Rattle.event_worlds.specs.declared.world.World.{World as rWorld}
use Rattle.event_worlds.proofs.Came.{ends_with}
use Rattle.event_worlds.proofs.Lookups.{by_test}
use Rattle.event_worlds.proofs.Tables.{there}
use Rattle.event_worlds.proofs.Turning.{its_task}

-- ---- sums
pub before_one_more : (cs : List Listed) (c : Listed) → before_children (cs ++ c ∷ []) ≡ before_children cs + length c.faults
before_one_more [] c = omega arith
before_one_more (d ∷ cs) c = let rest = before_one_more cs c in omega (arith, rest)

pub one_result_more : (rs : List TaskResult) (r : TaskResult) → faults_of (rs ++ r ∷ []) ≡ faults_of rs + faults_in r
one_result_more [] r = omega arith
one_result_more (x ∷ rs) r = let rest = one_result_more rs r in omega (arith, rest)

-- ---- a scope
-- results that are kept while weight alone comes back
pub given_back : (o : Option (Vec Made Global)) (w : ℕ) (b : Scope) → AreResultsOf o b → AreResultsOf o (give_back w [] b)
given_back None w b h = h
given_back (Some rs) w b h = h ∙ sym (append-nil b.results)

-- one result more is kept, and its faults are counted
pub counted : (s : rScope) (b : Scope) (w n faults : ℕ) (r : TaskResult) → n ≡ faults_of b.results → faults ≡ n + faults_in r
    → IsBookOf (record s { faults = faults_of (b.results ++ r ∷ []) }) (give_back w (r ∷ []) b)
    → IsBookOf (record s { faults = faults }) (give_back w (r ∷ []) b)
counted s b w n faults r before is h =
    subst (λ (k : ℕ). IsBookOf (record s { faults = k }) (give_back w (r ∷ []) b))
    (one_result_more b.results r ∙ ap (λ (k : ℕ). k + faults_in r) (sym before) ∙ sym is) h

-- ---- a task that waits
module _ (p : Program) (needs : Codes → Needs) (nest : ℕ) (close : State Own → Option Settled) where
  abbrev r : Rules Own
  r = own_rules needs nest close

  abbrev faults_at : State Own → ℕ
  faults_at st = faults_in (result_of st)

  record StillWaits (st to : State Own) : Type 0 where
    waits : is_waiting to ≡ true
    faults : faults_at to ≡ faults_at st

  flow_waits : (g : Flow) (st : State Own) (go : State Own → State Own) → st.flow ≡ g → is_waiting st ≡ true
      → StillWaits st (at_flow g st go)
  flow_waits On st go e w = absurd (false_true (sym (ap is_stopped e) ∙ (and_parts (is_stopped st.flow) st.extra.waits w).0))
  flow_waits Faulted st go e w = record { waits = w; faults = refl }
  flow_waits Stopped st go e w = record { waits = w; faults = refl }

  rescue_waits : (g : Flow) (x : ℕ) (go : State Own → State Own) (before : List Fault) (st : State Own) → st.flow ≡ g
      → is_waiting st ≡ true → StillWaits st (rescued_by g x go before st)
  rescue_waits On x go before st e w = record { waits = w; faults = refl }
  rescue_waits Faulted x go before st e w =
      absurd (false_true (sym (ap is_stopped e) ∙ (and_parts (is_stopped st.flow) st.extra.waits w).0))
  rescue_waits Stopped x go before st e w = record { waits = w; faults = refl }

  leave_waits : (before st : State Own) → is_waiting st ≡ true → StillWaits st (leave_own close before st)
  leave_waits before st w =
      subst (λ b. StillWaits st (if b then st else leave_with before (record st { extra = notes EndFinish st.extra }) (close st))) (sym w)
      (record { waits = w; faults = refl })

  frame_waits : (f : Frame Own) (st : State Own) → is_waiting st ≡ true → StillWaits st (frame p r f st)
  frame_waits (Rest b) st w = flow_waits st.flow st (run p r (Block b)) refl w
  frame_waits (Again l t b) st w = flow_waits st.flow st (run p r (Turn l t b)) refl w
  frame_waits (Further l s n k q i b) st w = flow_waits st.flow st (run p r (Pieces l s n k q i b)) refl w
  frame_waits (AtEnd before) st w = leave_waits before st w
  frame_waits (OnFault before x c) st w = rescue_waits st.flow x (run p r (Block c)) before st refl w
  frame_waits (Back env) st w = record { waits = w; faults = refl }

  resume_waits : (fs : List (Frame Own)) (st : State Own) → is_waiting st ≡ true → StillWaits st (resume p r fs st)
  resume_waits [] st w = record { waits = w; faults = refl }
  resume_waits (f ∷ fs) st w =
      let h = frame_waits f st w in
      let k = resume_waits fs (frame p r f st) h.waits in
      record { waits = k.waits; faults = k.faults ∙ h.faults }

  -- at the end of a finish without a settled result it has the faults that it had
  pub end_faults : (before : State Own) (fs : List (Frame Own)) (st : State Own) → st.extra.waits ≡ false → close st ≡ None
      → faults_at (resume p r (AtEnd before ∷ fs) st) ≡ faults_at st
  end_faults before fs st w e =
      let noted = record st { extra = notes EndFinish st.extra } in
      let left : leave_own close before st ≡ leave_with before noted None =
      ap (λ b. if b then st else leave_with before noted (close st)) (and_right (is_stopped st.flow) st.extra.waits w)
      ∙ ap (leave_with before noted) e in
      let h = resume_waits fs (leave_with before noted None) refl in
      ap (λ st. faults_at (resume p r fs st)) left ∙ h.faults

-- a task at the end of a finish has, by its receipts so far, the faults that it has there
pub follower_faults : (p : Program) (needs : Codes → Needs) (fresh : ℕ) (root s : Start) (taken : List (List TaskResult))
    (before : State Own) (fs : List (Frame Own)) (st : State Own)
    → st.extra.waits ≡ false → Follows p needs fresh root s taken (record { frames = AtEnd before ∷ fs; state = st })
    → faults_in (result_of (run_by p needs fresh taken s)) ≡ faults_in (result_of st)
follower_faults p needs fresh root s taken before fs st w h =
    let same : run_by p needs fresh taken s ≡ resume p (own_rules needs s.nest (from_receipts taken)) (AtEnd before ∷ fs) st =
    ap (λ l. run_by p needs fresh l s) (sym (append-nil taken)) ∙ h.follows []
    ∙ ap (λ l. resume p (own_rules needs s.nest (from_receipts l)) (AtEnd before ∷ fs) st) (append-nil taken) in
    ap (λ st. faults_in (result_of st)) same
    ∙ end_faults p needs s.nest (from_receipts taken) before fs st w
    (ap (λ o. and_then o (settle (result_of st))) (past_end taken st.extra.ended (h.count)))
  where
    past_end : {A : Type 0} (xs : List A) (k : ℕ) → k ≡ length xs → slice_get xs k ≡ None
    past_end [] k e = refl
    past_end (x ∷ xs) zero e = absurd (omega (arith, e))
    past_end (x ∷ xs) (suc k) e = past_end xs k (omega (arith, e))

-- ---- a represented world
module _ (r : rWorld) (ok : IsWeightedJob r.job) (w : World) (h : Shows r w) (path : Path) (m : MayLeave r path) where
  abbrev p : Program
  p = program_of r.job.job

  abbrev gives : Start → List (List TaskResult) → TaskResult
  gives = hands_on p (needs_of p) (budget_of r.job.job).steps r.job.w0

  abbrev root_start : Start
  root_start = root p (lists_of r.job.job) (budget_of r.job.job)

  -- what it has made has the faults of its own run by its receipts
  made_faults : (c : Course) (d : TaskProgress) (made : Made) → made_at d ≡ Some made → IsDoing r.job.job c d
      → faults_in (gives c.start c.receipts) ≡ faults_in (task_result made)
  made_faults c (AtFinish q x) made e d =
      let at : Standing Own = record { frames = AtEnd d.1.before ∷ d.1.frames; state = d.1.state } in
      let its = its_task r.job.job ok.job c.start at d.1.come.stands in
      follower_faults p (needs_of p) (budget_of r.job.job).steps root_start c.start c.receipts d.1.before d.1.frames d.1.state its.awake
      d.1.come.follows
      ∙ ap faults_in (sym d.1.made) ∙ ap (λ y. faults_in (task_result y)) (same_Some _ _ e)
  made_faults c (rAtEnd x) made e d =
      ap faults_in (ends_with p (needs_of p) (budget_of r.job.job).steps root_start c.start c.receipts d.1.state d.1.come.follows
      ∙ sym d.1.is)
      ∙ ap (λ y. faults_in (task_result y)) (same_Some _ _ e)
  made_faults c (Starts s) made e d = absurd (none-some _ e)
  made_faults c (Runs q) made e d = absurd (none-some _ e)
  made_faults c (Steps q) made e d = absurd (none-some _ e)
  made_faults c (Spawns q s) made e d = absurd (none-some _ e)
  made_faults c (Opens q) made e d = absurd (none-some _ e)

  abbrev t : (t : Live) × (task path.turns.items w.live ≡ Some t) × IsTaskOf r.job.job m.at.its t
  t = there (IsTaskOf r.job.job) m.at.its (get is_path r.tasks path) (task path.turns.items w.live) (h.tasks path) m.at.at

  abbrev b : (z : Scope) × (scope (scope_id m.at.inner.scope) w.scopes ≡ Some z) × IsBookOf m.at.book z
  b = there IsBookOf m.at.book (get is_scope r.scopes m.at.inner.scope) (scope (scope_id m.at.inner.scope) w.scopes)
      (h.scopes m.at.inner.scope) m.at.there

  pub parked : IsParked r.job.job (course_of t.0) m.at.its.doing
  parked = subst (λ q. IsDoingThere r.job.job q (course_of t.0) m.at.its.doing) (sym t.2.place ∙ ap whereabouts m.place) t.2.doing

  own_faults : (made : Made) → made_at m.at.its.doing ≡ Some made
      → faults_in (gives t.0.start t.0.receipts) ≡ faults_in (task_result made)
  own_faults made e =
      ap (λ s. faults_in (gives s t.0.receipts)) (sym (ap (λ (c : Course). c.start) parked.last))
      ∙ ap (λ rs. faults_in (gives parked.before.start rs)) (sym (ap (λ (c : Course). c.receipts) parked.last))
      ∙ made_faults parked.before m.at.its.doing made e parked.at

  nothing : (d : TaskProgress) → IsAtAnEnd d → made_at d ≡ None → ⊥
  nothing (AtFinish q x) here e = none-some _ (sym e)
  nothing (rAtEnd x) here e = none-some _ (sym e)
  nothing (Starts s) here e = here
  nothing (Runs q) here e = here
  nothing (Steps q) here e = here
  nothing (Spawns q s) here e = here
  nothing (Opens q) here e = here

  -- it has made something
  pub none_made : made_at m.at.its.doing ≡ None → ⊥
  none_made e = nothing m.at.its.doing parked.waits e

  -- its scope's number, and that of what it has made
  pub gathered_so : (made : Made) → made_at m.at.its.doing ≡ Some made
      → gathered_by r path.turns.items w ≡ Some (m.at.book.faults + faults_in (task_result made))
  gathered_so made e =
      ap (λ o. and_then o (λ (x : Live). and_then (innermost x.stakes) (in_scope x))) t.1
      ∙ ap (λ o. and_then o (in_scope t.0)) (ap innermost (sym t.2.stakes ∙ ap (map stake) m.at.stakes))
      ∙ ap (λ o. and_then o (with_results t.0)) b.1
      ∙ ap (λ n. Some (n + faults_in (gives t.0.start t.0.receipts))) (sym b.2.faults)
      ∙ ap (λ n. Some (m.at.book.faults + n)) (own_faults made e)
    where
      with_results : Live → Scope → Option ℕ
      with_results x s = Some (faults_of s.results + faults_in (gives x.start x.receipts))

      in_scope : Live → ScopeId → Option ℕ
      in_scope x id = and_then (scope id w.scopes) (with_results x)

-- ---- a resume with a number
module _ (r : rWorld) (w : World) (worker : ℕ) (path : List ℕ) where
  abbrev without : Option World
  without = next_world r.job (Resume worker path None) w

  pub told_right : (n : ℕ) → is_number n (gathered_by r path w) ≡ true → next_world r.job (Resume worker path (Some n)) w ≡ without
  told_right n e = ap (λ x. only_if x without) e

  pub told_wrong : (n : ℕ) → is_number n (gathered_by r path w) ≡ false → next_world r.job (Resume worker path (Some n)) w ≡ None
  told_wrong n e = ap (λ x. only_if x without) e

  -- where none is legal, it isn't legal with a number either
  pub told_nowhere : (n : ℕ) → without ≡ None → next_world r.job (Resume worker path (Some n)) w ≡ without
  told_nowhere n e =
      ap (λ o. only_if (is_number n (gathered_by r path w)) o) e ∙ neither (is_number n (gathered_by r path w)) ∙ sym e
    where
      neither : (x : Bool) → only_if {A = World} x None ≡ None
      neither true = refl
      neither false = refl

-- a u64 isn't a number that is no u64
pub not_so_many : (n m : ℕ) → n < 2 ^ 64 → (m < 2 ^ 64 → ⊥) → nat_eq n m ≡ false
not_so_many n m small many =
    by_test (λ b. b ≡ false) (nat_eq n m) (λ e. absurd (many (subst (λ x. x < 2 ^ 64) (eqb-true n m e) small))) (λ e. refl)

-- ---- errors and changes of an event that is another in the worlds that are represented
module _ (old new : rWorld) (e f : Event) (same : (w : World) → Shows old w → next_world old.job e w ≡ next_world old.job f w) where
  pub becomes_as : Becomes f old new → Becomes e old new
  becomes_as h w k = let to = h w k in (to.0, same w k ∙ to.1, to.2)

  pub refuses_as : (x : EventError) → Refuses f old new x → Refuses e old new x
  refuses_as Illegal h = (h.0, λ w k. same w k ∙ h.1 w k)
  refuses_as NoMemory h = h

  pub legal_as : IsLegal old f → IsLegal old e
  legal_as h w k = let to = h w k in (to.0, same w k ∙ to.1)

  pub illegal_as : IsIllegal old f → IsIllegal old e
  illegal_as h w k = same w k ∙ h w k

-- the same number in another form
pub some_if : {n m : ℕ} (o : Option ℕ) → n ≡ m → SomeIff o (n < 2 ^ 64) n → SomeIff o (m < 2 ^ 64) m
some_if o same h = subst (λ x. SomeIff o (x < 2 ^ 64) x) same h

-- ---- an event with its number
module _ (r : rWorld) (path : Path) where
  abbrev with_number_in : Event → World → Event
  with_number_in = with_number (program_of r.job.job) (needs_of (program_of r.job.job)) (budget_of r.job.job).steps r.job.w0

  -- a resume whose finish has gathered so many
  pub numbered_so : (e : Event) (worker : ℕ) (z : Option ℕ) (n : ℕ) (w : World) → e ≡ Resume worker path.turns.items z
      → gathered_by r path.turns.items w ≡ Some n → Resume worker path.turns.items (Some n) ≡ with_number_in e w
  numbered_so e worker z n w is has =
      ap (Resume worker path.turns.items) (sym has) ∙ sym (ap (λ x. with_number_in x w) is)

  -- an event that isn't legal without a number isn't legal with one
  pub not_legal : (e : Event) (worker : ℕ) (z : Option ℕ) (w to : World) → e ≡ Resume worker path.turns.items z
      → next_world r.job (Resume worker path.turns.items None) w ≡ None → next_world r.job e w ≡ Some to → ⊥
  not_legal e worker z w to is none legal =
      none-some _ (sym (by_number z (sym (ap (λ x. next_world r.job x w) is) ∙ legal)))
    where
      by_number : (z : Option ℕ) → next_world r.job (Resume worker path.turns.items z) w ≡ Some to → Some to ≡ None
      by_number None h = sym h ∙ none
      by_number (Some n) h = sym h ∙ told_nowhere r w worker path.turns.items n none ∙ none
