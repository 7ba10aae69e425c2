-- The meaning of the tables that the numbers of a trace are computed with.
use Rattle.std.specs.Prelude.{ℕ, ◌≡◌, ◌<◌, ◌≤◌, List, length, map, Option, None, Some, slice_index, slice_index_or}
use Rattle.std.specs.HashMap.{HashMap, get}
use Rattle.types.specs.Translation.{is_path}
use Rattle.types.specs.declared.path.Path.{Path}
use Rattle.trace_numbers.specs.Chains.{Chains}
use Rattle.trace_numbers.specs.Faults.{Finishes, Gathered}
use Rattle.trace_numbers.specs.Hands.{Hands}
use Rattle.trace_numbers.specs.declared.chains.Chain.{Chain}
use Rattle.trace_numbers.specs.declared.chains.Chains.{Chains as rChains}
use Rattle.trace_numbers.specs.declared.chains.ScopeChain.{ScopeChain}
use Rattle.trace_numbers.specs.declared.faults.FinishFaults.{FinishFaults}
use Rattle.trace_numbers.specs.declared.faults.Finishes.{Finishes as rFinishes}
use Rattle.trace_numbers.specs.declared.hands.Hands.{Hands as rHands}

-- ---- chains
abbrev pub known : Option Chain → Chain
known None = record { cost = 0; stands = 0; spawned = 0 }
known (Some chain) = chain

-- a table of chains as a function of paths
abbrev pub chain_at : {S : Type 0} → HashMap Path Chain S → Path → Chain
chain_at tasks path = known (get is_path tasks path)

-- the scope with this number
abbrev pub none_back : ScopeChain
none_back = record { came_back = 0; around = 0 }

abbrev pub scope_at : List ScopeChain → ℕ → ScopeChain
scope_at scopes n = slice_index_or scopes n none_back

pub record Shows (r : rChains) (c : Chains) : Type 0 where
  pub cost : (path : Path) → (chain_at r.tasks path).cost ≡ c.cost path.turns.items
  pub stands : (path : Path) → (chain_at r.tasks path).stands ≡ c.stands path.turns.items
  pub spawned : (path : Path) → (chain_at r.tasks path).spawned ≡ c.spawned path.turns.items
  pub scopes : length r.scopes.items ≡ c.scopes
  pub came_back : (n : ℕ) → n < c.scopes → (scope_at r.scopes.items n).came_back ≡ c.came_back n
  pub around : (n : ℕ) → n < c.scopes → (scope_at r.scopes.items n).around ≡ c.around n

-- after this many events no number is larger, and each scope that is named exists
pub record AreWithin (count : ℕ) (c : Chains) : Type 0 where
  pub cost : (path : List ℕ) → c.cost path ≤ count
  pub spawned : (path : List ℕ) → c.spawned path ≤ count
  pub came_back : (n : ℕ) → c.came_back n ≤ count
  pub stands : (path : List ℕ) → c.stands path < c.scopes
  pub around : (n : ℕ) → c.around n < c.scopes

-- events led to it, of which there may be one more
pub record AreAfter (r : rChains) : Type 0 where
  pub count : ℕ
  pub few : count < 18446744073709551615
  pub chains : Chains
  pub within : AreWithin count chains
  pub shows : Shows r chains

-- ---- finishes
abbrev pub known_last : Option ℕ → ℕ
known_last None = 0
known_last (Some n) = n

-- a table of numbers as a function of paths
abbrev pub last_at : {S : Type 0} → HashMap Path ℕ S → Path → ℕ
last_at table path = known_last (get is_path table path)

abbrev pub gathered : FinishFaults → Gathered
gathered g = record { owner = g.finish.owner.turns.items; number = g.finish.number; faults = g.faults }

pub record ShowsFinishes (r : rFinishes) (f : Finishes) : Type 0 where
  pub last : (path : Path) → last_at r.last path ≡ f.last path.turns.items
  pub found : map gathered r.found.items ≡ f.found

-- ---- hands
pub record ShowsHands (r : rHands) (h : Hands) : Type 0 where
  pub holder : (path : Path) → get is_path r.tasks path ≡ h.holder path.turns.items
  pub did : r.did.items ≡ h.did

-- the 64 workers, none of which did more steps than there were events
pub record DidWithin (count : ℕ) (did : List ℕ) : Type 0 where
  pub workers : length did ≡ 64
  pub few : (w : ℕ) → slice_index did w ≤ count

-- events led to it, of which there may be one more
pub record AreHandsAfter (r : rHands) : Type 0 where
  pub count : ℕ
  pub few : count < 18446744073709551615
  pub within : DidWithin count r.did.items
