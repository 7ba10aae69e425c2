use Rattle.std.proofs.Common.{◌≡◌, ℕ, ◌+◌, ◌-◌, ◌≤◌, ap, ◌∙◌, sym, refl, subst, List, [], ◌∷◌, ◌++◌, map, arith, Vec, Global}
use Rattle.std.proofs.lemmas.Bool.{or_right}
use Rattle.std.proofs.lemmas.List.{map-append}
use Rattle.std.specs.Prelude.{ℤ, ◌&&◌, not}
use Rattle.sections.specs.Covers.{has}
use Rattle.sections.specs.Place.{Window}
use Rattle.sections.specs.Translation.{section, window}
use Rattle.types.specs.Run.{State}
use Rattle.types.specs.Translation.{codes, environment, fault}
use Rattle.types.specs.declared.fault.Fault.{Fault as rFault}
use Rattle.statement_steps.proofs.Steps.{map-pushed}
use Rattle.statement_steps.specs.Standing.{flow}
use Rattle.task_run.specs.OwnRun.{Child, Own, Spawn, Start, child_of, list_child}
use Rattle.task_run.specs.Places.{only, without}
use Rattle.task_run.specs.Results.{Listed}
use Rattle.task_run.specs.Standings.{IsAt, state_of, with_own}
use Rattle.task_run.specs.Translation.{contents_of, listed, owned_by, start}
use Rattle.task_run.specs.declared.result.Listed.{Listed as rListed}
use Rattle.task_run.specs.declared.run.Run.{Run}
use Rattle.task_run.specs.declared.start.Start.{Start as rStart}
use Rattle.task_run.proofs.HeldPlaces.{has-append}
use Rattle.task_run.proofs.RunSteps.{begin_some, done_some, over_some}
use Rattle.task_run.proofs.run.Run.spawn.Goals as goal

pub part_for-requires-clause-there : goal.part_for-requires-clause-there
part_for-requires-clause-there g c = λ q inside.
    let env = environment c.args.self.now.thread.environment in
    let n = g.N.Needed.needs c.args.needed.now (codes c.args.body.now) in
    let reads : map env.windows (map section c.reads.result.now) ≡ map env.windows n.reads
    = ap (map env.windows) c.reads.ensures in
    c.requires.can.0.there q
    (ap (λ (ws : List Window). has ws q) (map-append env.windows n.writes n.reads)
    ∙ has-append (map env.windows n.writes) (map env.windows n.reads) q
    ∙ or_right (has (map env.windows n.writes) q) _ (ap (λ (ws : List Window). has ws q) (sym reads) ∙ inside))

pub returns-clause-did : goal.returns-clause-did
returns-clause-did g c =
    let m = c.args.self.now in
    let needs = g.N.Needed.needs c.args.needed.now in
    let b = codes c.args.body.now in
    let n = needs b in
    let nest = m.thread.nest in let some = c.if-self-eq0.false in
    let env = environment m.thread.environment in
    let store = contents_of m.thread.store.holdings in
    let s = start c.in_ok-start-2.start.value in
    let numbers : Vec ℤ Global → List ℤ = λ v. v.items in
    let listed_writes : map window c.in_ok-windows.windows.items ≡ map env.windows n.writes
    = c.in_ok-windows.ensures ∙ ap (map env.windows) c.writes.ensures in
    let writes : map window c.deref.result.now ≡ map env.windows n.writes
    = ap (map window) c.deref.ensures.value ∙ listed_writes in
    let reads : map env.windows (map section c.reads.result.now) ≡ map env.windows n.reads
    = ap (map env.windows) c.reads.ensures in
    let both : map window c.deref.result.now ++ map env.windows (map section c.reads.result.now) ≡ map env.windows (n.writes ++ n.reads)
    = ap (λ (ws : List Window). ws ++ map env.windows (map section c.reads.result.now)) writes
    ∙ ap (λ (ws : List Window). map env.windows n.writes ++ ws) reads
    ∙ sym (map-append env.windows n.writes n.reads) in
    let child : (x : Own) → Child = λ x. child_of n (nest - 1) b (with_own x (state_of m.thread)) in
    let is_start : (x : Own) → (child x).start ≡ s = λ x.
    let holds : only (has (map env.windows (n.writes ++ n.reads))) store ≡ contents_of c.in_ok-holdings.holdings
    = sym (c.in_ok-holdings.ensures.contents ∙ ap (λ (ws : List Window). only (has ws) store) both) in
    let owns : has (map env.windows n.writes) ≡ owned_by c.in_ok-holdings.holdings
    = sym (c.in_ok-holdings.ensures.owned ∙ ap has writes) in
    let given : (child x).start ≡ record {
      body = b;
      environment = env;
      contents = contents_of c.in_ok-holdings.holdings;
      owned = owned_by c.in_ok-holdings.holdings;
      nest = nest - 1;
      path = m.thread.path.turns.items ++ (m.thread.spawned + 1) ∷ [];
    } = (λ t. record {
      body = b;
      environment = env;
      contents = holds t;
      owned = owns t;
      nest = nest - 1;
      path = m.thread.path.turns.items ++ (m.thread.spawned + 1) ∷ [];
    }) in
    given ∙ sym c.in_ok-start.ensures.start ∙ ap start (sym c.in_ok-start-2.ensures) in
    let kept : rListed = record {
      path = c.in_ok-child.field-0;
      windows = c.in_ok-windows.windows;
      lines = c.replace.result;
      faults = c.replace-2.result;
    } in
    let is_listed : (x : Own) → (child x).listed ≡ listed kept = λ x t. record {
      path = (ap (λ (n : ℕ). m.thread.path.turns.items ++ n ∷ []) (sym c.after-number.ensures) ∙ sym c.in_ok-child.ensures) t;
      windows = sym listed_writes t;
      lines = map numbers (sym c.replace.ensures.value t).items;
      faults = map fault (sym c.replace-2.ensures.value t).items;
    } in
    let new : Run = record m {
      thread = record m.thread {
        store = c.part_for.new.self;
        lines = c.replace.new.dest;
        faults = c.replace-2.new.dest;
        spawned = m.thread.spawned + 1;
      };
      pending = c.push.new.self;
    } in
    let few : m.thread.spawned + 1 + m.thread.steps ≤ m.plan.budget.steps = omega (arith, c.requires.room.taken) in
    λ close. record {
      turns = record {
        plan = refl;
        nest = refl;
        stands = λ fs x shows.
            let st = with_own x (state_of m.thread) in
            let to = list_child n (nest - 1) b st in
            subst (λ (out : State Own). IsAt new (record { frames = fs; state = out })) (sym (begin_some needs nest some b st))
            (record {
              own = to.extra;
              shows = record {
                frames = shows.frames;
                owned = (λ t q. shows.owned t q && not (has (sym writes t) q)) ∙ sym c.in_ok-holdings.ensures.keeps;
                pending =
                    map-append (λ (c : Child). c.listed) x.pending (child x ∷ [])
                    ∙ ap (λ (ls : List Listed). ls ++ (child x).listed ∷ []) shows.pending
                    ∙ ap (λ (y : Listed). map listed m.pending.items ++ y ∷ []) (is_listed x)
                    ∙ sym (map-pushed listed m.pending.items c.push.new.self.items kept c.in_ok-push.ensures.items);
                few = few;
              };
              is = λ t. record {
                flow = flow (c.requires.room.on t);
                environment = env;
                store = (c.in_ok-holdings.ensures.left ∙ ap (λ (ws : List Window). without (has ws) store) writes) t;
                lines = (ap (λ (v : Vec (Vec ℤ Global) Global). map numbers v.items) c.replace.ensures.after
                    ∙ ap (map numbers) c.new.ensures.items) t;
                faults = (ap (λ (v : Vec rFault Global). map fault v.items) c.replace-2.ensures.after
                    ∙ ap (map fault) c.new-2.ensures.items) t;
                steps = m.thread.steps;
                path = m.thread.path.turns.items;
                spawned = m.thread.spawned + 1;
                extra = to.extra;
              };
            });
      };
      noted = λ x.
          let st = with_own x (state_of m.thread) in
          (over_some nest some b, done_some needs nest some b st ∙ ap (λ (s : Start). Spawn s ∷ []) (is_start x));
    }

pub returns-clause-label : goal.returns-clause-label
returns-clause-label g c =
    let IsAsync = g.N.Needed.IsAsync c.args.needed.now in
    let s = c.in_ok-start.start in
    subst (λ (s : rStart). IsAsync s.label (codes s.body.now)) (sym c.in_ok-start-2.ensures)
    (subst (λ l. IsAsync l (codes s.body.now)) (sym c.in_ok-start.ensures.label)
    (subst (IsAsync c.args.label) (sym c.in_ok-start.ensures.body) c.requires.can.1))
