-- A statement of a sound program accesses only sections in scope, and only as allowed.
use Rattle.std.specs.Prelude.{ℕ, ◌≡◌, List, true}
use Rattle.sections.specs.Member.{Member}
use Rattle.types.specs.Code.{Procedure}
use Rattle.effects.specs.Accesses.{Access}
-- the definition of a sound program is with the rules of the language; every well-typed program is
-- sound
pub use Rattle.types.specs.Sound.{no_parameter, may_write, as_parameter, numbers_from, parameters_of}
pub use Rattle.types.specs.Sound.{is_writable, SplitsWell, CutsWell, PassesWell, CallsWell, FollowsOf, Follows}
pub use Rattle.types.specs.Sound.{IsSoundIn, HasArrays, IsSound}

-- in a procedure, where the sections of the scope may be named, an access is allowed
pub record Allowed (g : Procedure) (scope : List ℕ) (x : Access) : Type 0 where
  -- its section is in scope
  pub in_scope : Member x.section scope
  -- a written section may be written
  pub writable : x.write ≡ true → is_writable g x.section ≡ true
