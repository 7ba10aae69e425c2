-- Logs stay clean.
use Rattle.std.proofs.Common.{◌≡◌, List, [], ◌∷◌, ◌++◌, ap, ◌∙◌, sym, subst}
use Rattle.std.proofs.lemmas.Bool.{and_parts}
use Rattle.std.specs.Prelude.{◌&&◌, true}
use Rattle.event_worlds.specs.Jobs.{IsWeightedJob}
use Rattle.event_worlds.specs.Replaying.{IsReplayed, event}
use Rattle.event_worlds.specs.Shown.{Becomes, Refuses, WorldStays}
use Rattle.event_worlds.specs.declared.error.EventError.{EventError}
use Rattle.event_worlds.specs.declared.error.EventError.TheVariants.{Illegal as IsIllegal}
use Rattle.event_worlds.specs.declared.error.EventError.TheVariants.{NoMemory as IsNoMemory}
use Rattle.events.specs.declared.event.Event.{Event}
use Rattle.event_worlds.specs.declared.world.World.{World}
use Rattle.event_worlds.proofs.Staying.{stays_shown}
use Rattle.event_worlds.proofs.Walking.{replayed_on}
use Rattle.trace.specs.Logs.{IsClean, Recorded}
use Rattle.trace_text.specs.Spelled.{fits, suits}
use Rattle.trace_text.specs.declared.format.Format.TheVariants.{Two}

-- the log of a world and events
abbrev pub recorded : World → List Event → Recorded
recorded world events = record { world = world; events = events }

-- one event more in the format
pub fits_more : (es : List Event) (e : Event) → fits Two es ≡ true → suits Two (event e) ≡ true → fits Two (es ++ e ∷ []) ≡ true
fits_more [] e h fit = ap (λ b. b && true) fit
fits_more (x ∷ es) e h fit =
    let parts = and_parts (suits Two (event x)) (fits Two es) h in
    ap (λ b. b && fits Two (es ++ e ∷ [])) parts.0 ∙ fits_more es e parts.1 fit

-- one event more
pub clean_more : (old new : World) (es : List Event) (e : Event) → IsClean (recorded old es) → Becomes (event e) old new
    → new.job ≡ old.job → suits Two (event e) ≡ true → IsClean (recorded new (es ++ e ∷ []))
clean_more old new es e clean b same fit = record {
  job = subst IsWeightedJob (sym same) clean.job;
  replayed = subst (λ k. IsReplayed k (es ++ e ∷ []) new) (sym same)
      (replayed_on old.job es e old new clean.replayed b same);
  fits = fits_more es e clean.fits fit;
}

-- a world that is unchanged
pub stayed_by : (e : Event) (old new : World) (x : EventError) → Refuses (event e) old new x → WorldStays old new
stayed_by e old new IsIllegal r = r.0
stayed_by e old new IsNoMemory r = r

pub clean_still : (old new : World) (es : List Event) → IsClean (recorded old es) → WorldStays old new
    → IsClean (recorded new es)
clean_still old new es clean stays =
    let r = clean.replayed in
    record {
      job = subst IsWeightedJob (sym stays.job) clean.job;
      replayed = subst (λ k. IsReplayed k es new) (sym stays.job) (record {
        world = r.world;
        legal = r.legal;
        shows = stays_shown old new stays r.world r.shows;
        job = stays.job;
      });
      fits = clean.fits;
    }
