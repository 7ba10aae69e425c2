use Rattle.std.proofs.Common.{◌≡◌, ◌∙◌, ◌∷◌, ◌++◌, ◌+◌, List, ap, drop, map, refl, subst, sym}
use Rattle.std.proofs.lemmas.Bool.{OnTrue_at}
use Rattle.std.proofs.lemmas.List.{append-nil, drop_all, drop_more}
use Rattle.std.specs.Prelude.{true}
use Rattle.events.specs.declared.event.Event.{Event}
use Rattle.task_run.specs.Jobs.{budget_of, lists_of, program_of}
use Rattle.event_worlds.specs.Jobs.{IsWeightedJob}
use Rattle.event_worlds.specs.Replay.{IllegalAt, start_of}
use Rattle.event_worlds.specs.Replaying.{comes, event}
use Rattle.event_worlds.specs.Shown.{Shows}
use Rattle.event_worlds.specs.declared.job.WeightedJob.{WeightedJob}
use Rattle.event_worlds.proofs.Replaying.{left_comes, stops_at}
use Rattle.trace_text.specs.Spelled.{fits}
use Rattle.trace_text.specs.declared.format.Format.TheVariants.{Two}
use Rattle.trace.specs.Upgrades.{IsUpgraded}
use Rattle.trace.proofs.LogLemmas.{fits_more}
use Rattle.trace.proofs.UpgradeLemmas.{from, goes_to, one_more}
use Rattle.trace.proofs.upgrade.upgrade.Goals as goal

pub events-init : goal.events-init
events-init c =
    let j = c.in-Ok.start.job in
    let same = c.in-Ok.ensures.job in
    let first = λ (k : WeightedJob). start_of (program_of k.job) k.w0 (lists_of k.job) (budget_of k.job) in
    record {
      ok = subst IsWeightedJob (sym same) c.in-Some.ensures.0;
      job = refl;
      at = first j;
      shows = subst (λ (k : WeightedJob). Shows c.in-Ok.start (first k)) (sym same) c.in-Ok.ensures.shows;
      same = refl;
      told = ap (λ (l : List Event). map event l ++ from j (map event c.args.events.now) (first j)) c.new-told.ensures.items;
      fits_so = ap (λ (l : List Event). fits Two l) c.new-told.ensures.items;
    }

pub returns-in-Err-Illegal-clause-refused : goal.returns-in-Err-Illegal-clause-refused
returns-in-Err-Illegal-clause-refused c =
    let i = c.events.invariant in
    let n = c.events.number in
    let es = c.args.events.now in
    let e = c.index-events-number.result in
    let split = drop_more es n e c.events-test.true ∙ ap (λ x. x ∷ drop (n + 1) es) (sym c.index-events-number.is) in
    subst (λ (j : WeightedJob). comes j es ≡ IllegalAt n) (c.in-Ok.ensures.job ∙ c.in-Some.ensures.1)
    (i.same ∙ ap (λ l. left_comes c.in-Ok.start.job n l i.at) split
    ∙ stops_at c.in-Ok.start.job c.events.world i.job i.at i.shows n e (drop (n + 1) es) c.go_by.new.self
    (c.in-Err-Illegal.ensures.refused c.in-Err-Illegal.field-0-is))

pub events-preserved : goal.events-preserved
events-preserved c =
    let i = c.events.invariant in
    let n = c.events.number in
    let es = c.args.events.now in
    let e = c.index-events-number.result in
    let next = c.in-Ok-numbered.next in
    let split = drop_more es n e c.events-test.true ∙ ap (λ x. x ∷ drop (n + 1) es) (sym c.index-events-number.is) in
    let b = c.in-Ok-go_by.ensures.legal i.at i.shows in
    let added = OnTrue_at c.if-not-push.false c.push.ensures in
    record {
      ok = i.ok;
      job = c.in-Ok-go_by.ensures.job ∙ i.job;
      at = b.0;
      shows = b.2;
      same = i.same ∙ ap (λ l. left_comes c.in-Ok.start.job n l i.at) split
          ∙ goes_to c.in-Ok.start.job c.events.world i.job i.at b.0 n e (drop (n + 1) es) b.1;
      told = ap (λ l. map event l ++ from c.in-Ok.start.job (map event (drop (n + 1) es)) b.0) added.0
          ∙ one_more c.events.world i.at b.0 e next (drop (n + 1) es) i.shows b.1 c.in-Ok-numbered.ensures.numbered c.in-Ok.start.job i.job
          c.events.told.items es (drop n es) split _ i.told;
      fits_so = ap (λ (l : List Event). fits Two l) added.0 ∙ fits_more c.events.told.items next i.fits_so added.1;
    }

pub returns-clause-upgraded : goal.returns-clause-upgraded
returns-clause-upgraded c =
    let i = c.events.invariant in
    let none = drop_all c.events.number c.args.events.now c.events-test.false in
    let new = c.in-Some-new.ensures.some in
    subst (λ (j : WeightedJob). IsUpgraded j c.args.header.now c.args.events.now c.in-Some-new.new c.events.told.items)
    (c.in-Ok.ensures.job ∙ c.in-Some.ensures.1)
    (record {
      format = new.0;
      budget = new.1;
      w0 = new.2;
      workers = new.3;
      world = i.at;
      legal = i.same ∙ ap (λ l. left_comes c.in-Ok.start.job c.events.number l i.at) none;
      events = sym (append-nil (map event c.events.told.items)) ∙ ap (λ l. map event c.events.told.items ++ from c.in-Ok.start.job (map event l) i.at) (sym none) ∙ i.told;
      fits_so = i.fits_so;
    })
