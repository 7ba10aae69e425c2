use Rattle.std.proofs.Common.{◌∙◌, ◌∷◌, ◌+◌, ap, drop, sym}
use Rattle.std.proofs.lemmas.List.{drop_all, drop_more}
use Rattle.event_worlds.proofs.Replaying.{goes_on, left_comes, stops_at}
use Rattle.event_worlds.proofs.replay.replay.Goals as goal

pub start-requires : goal.start-requires
start-requires c = c.requires.job.fits

pub returns-in-Err-Illegal-clause-refused : goal.returns-in-Err-Illegal-clause-refused
returns-in-Err-Illegal-clause-refused c =
    let i = c.events.invariant in
    let n = c.events.number in
    let es = c.args.events.now in
    let e = c.index-events-number.result in
    let split = drop_more es n e c.events-test.true ∙ ap (λ x. x ∷ drop (n + 1) es) (sym c.index-events-number.is) in
    i.same ∙ ap (λ l. left_comes c.args.job n l i.at) split
    ∙ stops_at c.args.job c.events.world i.job i.at i.shows n e (drop (n + 1) es) c.go_by.new.self
    (c.in-Err-Illegal.ensures.refused c.in-Err-Illegal.field-0-is)

pub events-preserved : goal.events-preserved
events-preserved c =
    let i = c.events.invariant in
    let n = c.events.number in
    let es = c.args.events.now in
    let e = c.index-events-number.result in
    let split = drop_more es n e c.events-test.true ∙ ap (λ x. x ∷ drop (n + 1) es) (sym c.index-events-number.is) in
    let s = goes_on c.args.job c.events.world i.job i.at i.shows n e (drop (n + 1) es) c.go_by.new.self c.in-Ok-go_by.ensures.legal in
    record {
      ok = i.ok;
      job = c.in-Ok-go_by.ensures.job ∙ i.job;
      at = s.0;
      shows = s.2;
      same = i.same ∙ ap (λ l. left_comes c.args.job n l i.at) split ∙ s.1;
    }

pub returns-clause-legal : goal.returns-clause-legal
returns-clause-legal c =
    let i = c.events.invariant in
    record {
      world = i.at;
      legal = i.same ∙ ap (λ l. left_comes c.args.job c.events.number l i.at) (drop_all c.events.number c.args.events.now c.events-test.false);
      shows = i.shows;
      job = i.job;
    }
