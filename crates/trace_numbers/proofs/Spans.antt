-- Chains of one event after another.
use Rattle.std.proofs.Common.{◌≡◌, ℕ, ◌+◌, ◌<◌, ◌≤◌, List, [], ◌∷◌, length, drop, get_or, ap, sym, ◌∙◌, arith}
use Rattle.std.proofs.lemmas.List.{drop_all, drop_more}
use Rattle.events.specs.declared.event.Event.{Event}
use Rattle.trace_numbers.specs.Chains.{Chains, chained, chains_after, span_of}
use Rattle.trace_numbers.specs.Tables.{AreWithin, Shows, scope_at}
use Rattle.trace_numbers.specs.declared.chains.Chains.{Chains as rChains}
use Rattle.trace_numbers.proofs.Within.{within_more}

-- the first events led to it, and those after them lead on to the span of all
pub record IsAt (es : List Event) (i : ℕ) (r : rChains) : Type 0 where
  pub chains : Chains
  pub within : AreWithin i chains
  pub shows : Shows r chains
  pub rest : (chains_after (drop i es) chains).came_back 0 ≡ span_of es

pub at_more : (es : List Event) (i : ℕ) (e d : Event) (old new : rChains) → i < length es → e ≡ get_or es i d → IsAt es i old
    → ((c : Chains) → Shows old c → Shows new (chained e c)) → IsAt es (i + 1) new
at_more es i e d old new there is at goes = record {
  chains = chained e at.chains;
  within = within_more e i at.chains at.within;
  shows = goes at.chains at.shows;
  rest = ap (λ (l : List Event). (chains_after l at.chains).came_back 0)
      (sym (drop_more es i d there ∙ ap (λ (x : Event). x ∷ drop (i + 1) es) (sym is)))
      ∙ at.rest;
}

-- the root's scope exists
pub root_there : (es : List Event) (i : ℕ) (r : rChains) → IsAt es i r → 0 < length r.scopes.items
root_there es i r at = omega (arith, at.within.stands [], at.shows.scopes)

pub at_last : (es : List Event) (i : ℕ) (r : rChains) → length es ≤ i → IsAt es i r → (scope_at r.scopes.items 0).came_back ≡ span_of es
at_last es i r past at =
    at.shows.came_back 0 (omega (arith, at.within.stands []))
    ∙ ap (λ (l : List Event). (chains_after l at.chains).came_back 0) (sym (drop_all i es past)) ∙ at.rest
