-- Stacks of remaining blocks, under other windows, contents and locks.
use Rattle.std.proofs.Common.{◌≡◌, ℕ, List, [], ◌∷◌, ◌∙◌, inl, inr}
use Rattle.std.specs.Prelude.{◌⊎◌, true}
use Rattle.sections.specs.Place.{Window, Place}
use Rattle.types.specs.Code.{While, Begun, Codes, End, Then, Program}
use Rattle.types.specs.Contents.{Contents, IsThere}
use Rattle.types.specs.Value.{Environment}
use Rattle.effects.specs.Effects.{All, Pending, accesses}
use Rattle.effects.specs.Footprint.{Overwrites, TurnsStillWrite}
use Rattle.effects.specs.Needs.{Needs}
use Rattle.race_checker.specs.Scope.{Scope, InScope}
use Rattle.task_run.specs.Places.{Places}
use Rattle.task_run.specs.Ready.{Ready}
use Rattle.task_run.specs.OwnRun.{Own}
use Rattle.task_run.specs.Frames.{Frame, Rest, Again, Further, AtEnd, OnFault, Back}
use Rattle.task_run.specs.Holds.{having, locked_after, Stack}
use Rattle.effects.proofs.Footprints.{overwrites_touch, turns_write_touch}

abbrev pub anywhere : ℕ → Type 0
anywhere s = Unit {0}

module _ (p : Program) (needs : Codes → Needs) where
  -- other windows, which are the same within the limit
  pub restack : (f g : ℕ → Window) (limit wide : ℕ → Type 0) (c : Contents) (o : Places) (locked : Place → Type 0) (fs : List (Frame Own))
      → ((s : ℕ) → limit s → wide s) → ((s : ℕ) → limit s → g s ≡ f s) → Stack p needs f limit c o locked fs
      → Stack p needs g wide c o locked fs
  restack f g limit wide c o locked [] h e k = tt
  restack f g limit wide c o locked (Rest b ∷ fs) h e (sc, env, left, below) = (
    sc,
    env,
    record { inside = λ s i. h s (left.inside s i); known = λ s i. e s (left.inside s i) ∙ left.known s i; ready = left.ready },
    restack f g (InScope sc) (InScope sc) c o (locked_after p needs env locked b) fs (λ s i. i) (λ s i. e s (left.inside s i)) below,
  )
  restack f g limit wide c o locked (Again l t b ∷ fs) h e (sc, env, left, below) = (
    sc,
    env,
    record { inside = λ s i. h s (left.inside s i); known = λ s i. e s (left.inside s i) ∙ left.known s i; ready = left.ready },
    restack f g (InScope sc) (InScope sc) c o (locked_after p needs env locked (Then l (While t b) End)) fs (λ s i. i)
        (λ s i. e s (left.inside s i)) below,
  )
  restack f g limit wide c o locked (Further l s n j q i b ∷ fs) h e (sc, env, left, below) = (
    sc,
    env,
    record { inside = λ s i. h s (left.inside s i); known = λ s i. e s (left.inside s i) ∙ left.known s i; ready = left.ready },
    restack f g (InScope sc) (InScope sc) c o (locked_after p needs env locked (Then l (Begun s n j q i b) End)) fs (λ s i. i)
        (λ s i. e s (left.inside s i)) below,
  )
  restack f g limit wide c o locked (AtEnd before ∷ fs) h e k = restack f g limit wide before.store before.extra.owned (λ q. ⊥) fs h e k
  restack f g limit wide c o locked (OnFault before x b ∷ fs) h e (sc, env, left, below) = (
    sc,
    env,
    record { inside = λ s i. h s (left.inside s i); known = λ s i. e s (left.inside s i) ∙ left.known s i; ready = left.ready },
    restack f g (InScope sc) (InScope sc) c o (locked_after p needs env locked b) fs (λ s i. i) (λ s i. e s (left.inside s i)) below,
  )
  restack f g limit wide c o locked (Back env ∷ fs) h e k = k

  -- other contents, which have everything that isn't locked, and no more locks
  module _ (c d : Contents) (o n : Places) where
    pub record Keeps (locked fewer : Place → Type 0) : Type 0 where
      pub there : (q : Place) → (locked q → ⊥) → IsThere (c q) → IsThere (d q)
      pub owned : (q : Place) → (locked q → ⊥) → o q ≡ true → n q ≡ true
      pub fewer_locks : (q : Place) → fewer q → locked q

    keeps_on : (locked fewer more : Place → Type 0) → Keeps locked fewer → Keeps (λ q. locked q ⊎ more q) (λ q. fewer q ⊎ more q)
    keeps_on locked fewer more k = record {
      there = λ q m. k.there q (λ l. m (inl l));
      owned = λ q m. k.owned q (λ l. m (inl l));
      fewer_locks = λ q m. elim m as (λ _. locked q ⊎ more q) [ inl l ↦ inl (k.fewer_locks q l) | inr h ↦ inr h ];
    }

    pub anchor_ready : (sc : Scope) (env : Environment) (locked fewer final : Place → Type 0) (b : Codes) → Keeps locked fewer
        → Ready p needs (having sc env c o) locked final b → Ready p needs (having sc env d n) fewer (locked_after p needs env fewer b) b
    anchor_ready sc env locked fewer final b k r = record {
      fits = r.fits;
      scoped = r.scoped;
      calm = r.calm;
      provided = r.provided;
      free = λ q t l. r.free q t (k.fewer_locks q l);
      held = λ q t. k.there q (r.free q t) (r.held q t);
      wrote = λ q t. k.owned q (r.free q (overwrites_touch env (All p accesses b) q t)) (r.wrote q t);
      kept = λ q. inl;
      added = λ q h. inr (inl h);
      turns_free = λ q t l. r.turns_free q t (k.fewer_locks q l);
      turns_held = λ q t. k.there q (r.turns_free q t) (r.turns_held q t);
      turns_wrote = λ q t. k.owned q (r.turns_free q (turns_write_touch p env b q t)) (r.turns_wrote q t);
      turns_added = λ q h. inr (inr h);
    }

    pub anchor : (f : ℕ → Window) (limit : ℕ → Type 0) (locked fewer : Place → Type 0) (fs : List (Frame Own)) → Keeps locked fewer
        → Stack p needs f limit c o locked fs → Stack p needs f limit d n fewer fs
    anchor f limit locked fewer [] k h = tt
    anchor f limit locked fewer (Rest b ∷ fs) k (sc, env, left, below) = (
      sc,
      env,
      record {
        inside = left.inside;
        known = left.known;
        ready = anchor_ready sc env locked fewer _ b k left.ready;
      },
      anchor f (InScope sc) (locked_after p needs env locked b) (locked_after p needs env fewer b) fs
          (keeps_on locked fewer (λ q. Overwrites env (Pending p accesses b) q ⊎ TurnsStillWrite p env b q) k) below,
    )
    anchor f limit locked fewer (Again l t b ∷ fs) k (sc, env, left, below) = (
      sc,
      env,
      record {
        inside = left.inside;
        known = left.known;
        ready = anchor_ready sc env locked fewer _ (Then l (While t b) End) k left.ready;
      },
      anchor f (InScope sc) (locked_after p needs env locked (Then l (While t b) End))
          (locked_after p needs env fewer (Then l (While t b) End)) fs
          (keeps_on locked fewer
          (λ q. Overwrites env (Pending p accesses (Then l (While t b) End)) q ⊎ TurnsStillWrite p env (Then l (While t b) End) q) k) below,
    )
    anchor f limit locked fewer (Further l s n j q i b ∷ fs) k (sc, env, left, below) = (
      sc,
      env,
      record {
        inside = left.inside;
        known = left.known;
        ready = anchor_ready sc env locked fewer _ (Then l (Begun s n j q i b) End) k left.ready;
      },
      anchor f (InScope sc) (locked_after p needs env locked (Then l (Begun s n j q i b) End))
          (locked_after p needs env fewer (Then l (Begun s n j q i b) End)) fs
          (keeps_on locked fewer
          (λ x. Overwrites env (Pending p accesses (Then l (Begun s n j q i b) End)) x ⊎ TurnsStillWrite p env (Then l (Begun s n j q i b) End) x) k)
          below,
    )
    anchor f limit locked fewer (AtEnd before ∷ fs) k h = h
    anchor f limit locked fewer (OnFault before x b ∷ fs) k (sc, env, left, below) = (
      sc,
      env,
      record {
        inside = left.inside;
        known = left.known;
        ready = anchor_ready sc env locked fewer _ b k left.ready;
      },
      anchor f (InScope sc) (locked_after p needs env locked b) (locked_after p needs env fewer b) fs
          (keeps_on locked fewer (λ q. Overwrites env (Pending p accesses b) q ⊎ TurnsStillWrite p env b q) k) below,
    )
    anchor f limit locked fewer (Back env ∷ fs) k h = anchor env.windows anywhere locked fewer fs k h

  -- ---- the same contents, with fewer locks
  unlocks : (c : Contents) (o : Places) (locked fewer : Place → Type 0) → ((q : Place) → fewer q → locked q)
      → Keeps c c o o locked fewer
  unlocks c o locked fewer h = record { there = λ q m i. i; owned = λ q m i. i; fewer_locks = h }

  pub unlock_ready : (c : Contents) (o : Places) (sc : Scope) (env : Environment) (locked fewer final : Place → Type 0) (b : Codes)
      → ((q : Place) → fewer q → locked q) → Ready p needs (having sc env c o) locked final b
      → Ready p needs (having sc env c o) fewer (locked_after p needs env fewer b) b
  unlock_ready c o sc env locked fewer final b h =
      anchor_ready c c o o sc env locked fewer final b (unlocks c o locked fewer h)

  pub unlock : (f : ℕ → Window) (limit : ℕ → Type 0) (c : Contents) (o : Places) (locked fewer : Place → Type 0) (fs : List (Frame Own))
      → ((q : Place) → fewer q → locked q) → Stack p needs f limit c o locked fs → Stack p needs f limit c o fewer fs
  unlock f limit c o locked fewer fs h k =
      anchor c c o o f limit locked fewer fs (unlocks c o locked fewer h) k
