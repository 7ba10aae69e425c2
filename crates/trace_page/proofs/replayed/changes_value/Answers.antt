use Rattle.std.proofs.Common.{◌∙◌, ◌∷◌, ◌+◌, List, ap, drop, refl, sym, subst, take_all}
use Rattle.std.proofs.lemmas.List.{drop_more}
use Rattle.serde_json.specs.Data.{array}
use Rattle.serde_json.specs.View.{items_of}
use Rattle.serde_json.proofs.Views.{view-Array}
use Rattle.task_run.specs.Jobs.{program_of, lists_of, budget_of}
use Rattle.events.specs.declared.event.Event.{Event}
use Rattle.event_worlds.specs.Replay.{start_of}
use Rattle.event_worlds.specs.Replaying.{event}
use Rattle.event_worlds.specs.Shown.{Shows, next_world}
use Rattle.event_worlds.proofs.Replaying.{left_comes, stops_at}
use Rattle.trace_page.specs.Changes.{AreTold}
use Rattle.serde_json.specs.declared.value.Value.{Value}
use Rattle.trace_page.proofs.Replays.{ToldFirst, comes_on, one_world, told_more, told_none}
use Rattle.trace_page.proofs.replayed.changes_value.Goals as goal

pub start-requires : goal.start-requires
start-requires c = c.requires.job.fits

pub start-requires-2 : goal.start-requires-2
start-requires-2 c = c.requires.job.fits

pub events-init : goal.events-init
events-init c =
    let j = c.args.job in
    let p = program_of j.job in
    let b = budget_of j.job in
    let start = start_of p j.w0 (lists_of j.job) b in
    record {
      ok = c.requires;
      job_before = c.in-Ok.ensures.job;
      job_after = c.in-Ok-start.ensures.job;
      at = start;
      shows_before = c.in-Ok.ensures.shows;
      shows_after = c.in-Ok-start.ensures.shows;
      same = refl;
      told = subst (λ (vs : List Value). ToldFirst p j.w0 b start c.args.events.now 0 vs start) (sym c.new-all.ensures.items)
          (told_none p j.w0 b start c.args.events.now);
    }

pub returns-in-Err-Illegal-clause-refused : goal.returns-in-Err-Illegal-clause-refused
returns-in-Err-Illegal-clause-refused c =
    let i = c.events.invariant in
    let n = c.events.number in
    let es = c.args.events.now in
    let e = c.index-events-number.result in
    let split = drop_more es n e c.events-test.true ∙ ap (λ x. x ∷ drop (n + 1) es) (sym c.index-events-number.is) in
    i.same ∙ ap (λ l. left_comes c.args.job n l i.at) split
    ∙ stops_at c.args.job c.events.after i.job_after i.at i.shows_after n e (drop (n + 1) es) c.go_by.new.self
    (c.in-Err-Illegal.ensures.refused c.in-Err-Illegal.field-0-is)

pub events-preserved : goal.events-preserved
events-preserved c =
    let i = c.events.invariant in
    let n = c.events.number in
    let es = c.args.events.now in
    let e = c.index-events-number.result in
    let j = c.args.job in
    let p = program_of j.job in
    let b = budget_of j.job in
    let split = drop_more es n e c.events-test.true ∙ ap (λ x. x ∷ drop (n + 1) es) (sym c.index-events-number.is) in
    let on = c.in-Ok-go_by.ensures.legal i.at i.shows_after in
    let legal = ap (λ k. next_world k (event e) i.at) (sym i.job_after) ∙ on.1 in
    let behind = c.in-Ok-go_by-2.ensures.legal i.at i.shows_before in
    let same = one_world p j.w0 b (event e) i.at on.0 behind.0 legal
    (ap (λ k. next_world k (event e) i.at) (sym i.job_before) ∙ behind.1) in
    let changes = c.in-Ok-changes_of.ensures in
    record {
      ok = i.ok;
      job_before = c.in-Ok-go_by-2.ensures.job ∙ i.job_before;
      job_after = c.in-Ok-go_by.ensures.job ∙ i.job_after;
      at = on.0;
      shows_before = subst (Shows _) same behind.2;
      shows_after = on.2;
      same = i.same ∙ ap (λ l. left_comes j n l i.at) split ∙ comes_on j i.at on.0 n e (drop (n + 1) es) legal;
      told = subst (λ (vs : List Value). ToldFirst p j.w0 b (start_of p j.w0 (lists_of j.job) b) es (n + 1) vs on.0)
          (sym c.in-Ok-push.ensures.items) (told_more p j.w0 b (start_of p j.w0 (lists_of j.job) b) es n e c.events.all.items c.in-Ok-changes_of.value i.at on.0
          changes.0 c.events-test.true c.index-events-number.is legal
          (changes.2 i.at on.0 i.shows_before on.2) changes.1 i.told);
    }

pub returns-clause-told : goal.returns-clause-told
returns-clause-told c =
    let told = c.events.invariant.told in
    let j = c.args.job in
    let p = program_of j.job in
    let b = budget_of j.job in
    record {
      told = told.told;
      last = c.events.invariant.at;
      replayed = subst (λ (l : List Event). AreTold p j.w0 b (start_of p j.w0 (lists_of j.job) b) l told.told c.events.invariant.at)
          (take_all c.events.number c.args.events.now c.events-test.false) told.replayed;
      are = view-Array c.events.all ∙ ap (λ ds. array (items_of ds)) told.seen;
    }
