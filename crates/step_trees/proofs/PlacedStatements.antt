-- Statements as a leaf has them: blocks of one procedure, the innermost first, each in its scope.
use Rattle.std.proofs.Common.{◌≡◌, inl, inr, ℕ, List, [], ◌∷◌, refl, sym, ap, subst}
use Rattle.sections.specs.Member.{Member}
use Rattle.sections.specs.Origins.{IsNumbered}
use Rattle.types.specs.Code.{Code, Do, If, While, Split, Parts, Begun, Call, Async, Finish, Rescue, Codes, End, Then, Procedure, Program}
use Rattle.types.specs.Sound.{IsText, IsTextOf}
use Rattle.types.specs.Value.{Environment}
use Rattle.types.specs.Trees.{append}
use Rattle.effects.specs.Accesses.{Access}
use Rattle.effects.specs.Effects.{All, accesses}
use Rattle.effects.specs.Sound.{Follows, IsSoundIn, IsSound}
use Rattle.effects.specs.Fits.{Fits}
use Rattle.effects.specs.Kept.{SameWindows}
use Rattle.effects.proofs.EnvironmentsFit.{fits_same}
use Rattle.effects.proofs.AccessesInScope.{allowed}
use Rattle.race_checker.specs.Calm.{AlwaysApart, Calm}
use Rattle.race_checker.specs.Scope.{Scope, Lists}
use Rattle.step_trees.proofs.ComingTurns.{Among, turns_in_append, turns_in_more, follows_turns_in}
use Rattle.step_trees.proofs.Statements.{from_either, all_append}
use Rattle.step_trees.proofs.Scopes.{fits_scope}
use Rattle.step_trees.specs.Laws.{TurnsIn}
use Rattle.step_trees.specs.Still.{Footprint, nothing, Separate, all}
use Rattle.step_trees.proofs.Footprints.{Within, within_itself, separate_within, separate_both, both_separate, nothing_separate, separate_nothing, separate_from, pending, leaves, still_turn_of, all_shifted, pending_shifted, append_all, statement_pending, rest_pending, text_all}

-- a block with the sections in its scope
pub record Part : Type 0 where
  pub scope : List ℕ
  pub code : Codes

-- the blocks one after another
abbrev pub flat : List Part → Codes
flat [] = End
flat (b ∷ bs) = append b.code (flat bs)

-- the scope of the first block, or `keep` if there is none
abbrev pub top : (keep : List ℕ) → List Part → List ℕ
top keep [] = keep
top keep (b ∷ bs) = b.scope

abbrev pub IsEnd : Codes → Type 0
IsEnd End = Unit {0}
IsEnd (Then l s rest) = ⊥

-- statements of a text, or the turns to come of one `parts` alone
abbrev pub IsWritten : Codes → Type 0
IsWritten End = Unit {0}
IsWritten (Then l (Begun s n k q i b) rest) = IsText b × IsEnd rest
IsWritten (Then l s rest) = IsTextOf s × IsText rest

pub text_written : (b : Codes) → IsText b → IsWritten b
text_written End k = tt
text_written (Then l (Do s) rest) k = k
text_written (Then l (If t b c) rest) k = k
text_written (Then l (While t b) rest) k = k
text_written (Then l (Split s e x y b) rest) k = k
text_written (Then l (Parts s e q i b) rest) k = k
text_written (Then l (Begun s n m q i b) rest) k = absurd k.0
text_written (Then l (Call f es ss) rest) k = k
text_written (Then l (Async b) rest) k = k
text_written (Then l (Finish b) rest) k = k
text_written (Then l (Rescue b x c) rest) k = k

end_text : (b : Codes) → IsEnd b → IsText b
end_text End k = tt
end_text (Then l s b) k = absurd k

pub more_text : (l : ℕ) (s : Code) (rest : Codes) → IsWritten (Then l s rest) → IsText rest
more_text l (Do s) rest k = k.1
more_text l (If t b c) rest k = k.1
more_text l (While t b) rest k = k.1
more_text l (Split s e x y b) rest k = k.1
more_text l (Parts s e q i b) rest k = k.1
more_text l (Begun s n m q i b) rest k = end_text rest k.1
more_text l (Call f es ss) rest k = k.1
more_text l (Async b) rest k = k.1
more_text l (Finish b) rest k = k.1
more_text l (Rescue b x c) rest k = k.1

abbrev label_of : Codes → ℕ
label_of End = 0
label_of (Then l s rest) = l

abbrev first_code : Code → Codes → Code
first_code d End = d
first_code d (Then l s rest) = s

abbrev rest_of : Codes → Codes
rest_of End = End
rest_of (Then l s rest) = rest

abbrev is_then : Codes → Type 0
is_then End = ⊥
is_then (Then l s rest) = Unit {0}

module _ (p : Program) where
  -- a block fits in a scope
  pub record FitsIn (g : Procedure) (env : Environment) (scope : List ℕ) (b : Codes) : Type 0 where
    pub fits : Fits p g scope env
    pub follows : Follows p g scope b
    pub names : Scope
    pub lists : Lists g names scope
    pub calm : Calm p names b
    pub written : IsWritten b

  module _ (g : Procedure) (env : Environment) (keep : List ℕ) where
    -- a block fits before other blocks, and what it leaves pending is separate from them
    pub record Stands (scope : List ℕ) (b : Codes) (bs : List Part) : Type 0 where
      pub block : FitsIn g env scope b
      pub outer : Among (top keep bs) scope
      pub apart : Separate (pending p env b) (all p env (flat bs))

    pub data Placed : List Part → Type 0 where
      none : Placed []
      also : {b : Part} {bs : List Part} → Stands b.scope b.code bs → Placed bs → Placed (b ∷ bs)

  -- statements of one procedure, the first of which are in a scope, in an environment
  pub record IsPlaced (keep scope : List ℕ) (env : Environment) (c : Codes) : Type 0 where
    pub procedure : Procedure
    pub is_sound : IsSoundIn p procedure
    pub code : Codes
    pub parts : List Part
    pub stands : Stands procedure env keep scope code parts
    pub standing : Placed procedure env keep parts
    pub flat : c ≡ append code (flat parts)

  module _ (g : Procedure) (env : Environment) (keep : List ℕ) where
    pub keep_among : {bs : List Part} → Placed g env keep bs → Among keep (top keep bs)
    keep_among none = λ x m. m
    keep_among (also s r) = λ x m. s.outer x (keep_among r x m)

    module _ (sound : IsSound p) (numbered : IsNumbered g.sections) where
      pub block_scoped : {scope : List ℕ} {b : Codes} {bs : List Part} → Stands g env keep scope b bs → (x : Access)
          → All p accesses b x → Member x.section scope
      block_scoped {scope = scope} s x h = (allowed p sound h g scope numbered s.block.follows).in_scope

      pub block_turns_in : {scope : List ℕ} {b : Codes} {bs : List Part} → Stands g env keep scope b bs → TurnsIn p scope b
      block_turns_in {scope = scope} {b = b} s = follows_turns_in p sound g numbered scope b s.block.follows

      pub parts_turns_in : {bs : List Part} → Placed g env keep bs → TurnsIn p (top keep bs) (flat bs)
      parts_turns_in none = tt
      parts_turns_in (also {b = b} {bs = bs} s r) =
          turns_in_append p b.scope b.code (flat bs) (block_turns_in s) (turns_in_more p s.outer (flat bs) (parts_turns_in r))

      pub parts_scoped : {bs : List Part} → Placed g env keep bs → (x : Access) → All p accesses (flat bs) x
          → Member x.section (top keep bs)
      parts_scoped none x h = by h
        where
          by : {A : Type 0} → All p accesses End x → A
          by h = elim h [ ]
      parts_scoped (also {b = b} {bs = bs} s r) x h = elim (all_append p accesses b.code (flat bs) x h) [
        | inl h ↦ block_scoped s x h
        | inr h ↦ s.outer x.section (parts_scoped r x h)
      ]

  module _ (sound : IsSound p) (g : Procedure) (numbered : IsNumbered g.sections) (env other : Environment) (keep : List ℕ) where
    -- only the windows in scope matter
    pub same_stands : {scope : List ℕ} {b : Codes} {bs : List Part} → Placed g env keep bs
        → SameWindows scope env other
        → Stands g env keep scope b bs → Stands g other keep scope b bs
    same_stands {scope = scope} {b = b} {bs = bs} r same s = record {
      block = record {
        fits = fits_same p g scope env other s.block.fits same;
        follows = s.block.follows;
        names = s.block.names;
        lists = s.block.lists;
        calm = s.block.calm;
        written = s.block.written;
      };
      outer = s.outer;
      apart = separate_within
          (pending_shifted p {env = env} {other = other} b (block_scoped g env keep sound numbered s) (block_turns_in g env keep sound numbered s) same)
          (all_shifted p {env = env} {other = other} (flat bs) (λ x h. s.outer x.section (parts_scoped g env keep sound numbered r x h))
          (turns_in_more p s.outer (flat bs) (parts_turns_in g env keep sound numbered r)) same) s.apart;
    }

    pub same_parts : {bs : List Part} → SameWindows (top keep bs) env other → Placed g env keep bs
        → Placed g other keep bs
    same_parts same none = none
    same_parts same (also s r) = also (same_stands r same s) (same_parts (λ x m. same x (s.outer x m)) r)

  -- The first statement

  -- the first statement of some that are placed, with the blocks that contain it
  pub record Focus (keep : List ℕ) (env : Environment) (l : ℕ) (s : Code) (rest : Codes) : Type 0 where
    pub procedure : Procedure
    pub is_sound : IsSoundIn p procedure
    pub scope : List ℕ
    pub more : Codes
    pub parts : List Part
    pub stands : Stands procedure env keep scope (Then l s more) parts
    pub standing : Placed procedure env keep parts
    pub flat : rest ≡ append more (flat parts)

  module _ (keep : List ℕ) (env : Environment) (g : Procedure) (is_sound : IsSoundIn p g) (l : ℕ) (s : Code) (rest : Codes) where
    focus_in : (scope : List ℕ) (c : Codes) (bs : List Part) → Stands g env keep scope c bs → Placed g env keep bs
        → Then l s rest ≡ append c (flat bs) → (Placed g env keep bs → Then l s rest ≡ flat bs → Focus keep env l s rest) → Focus keep env l s rest
    focus_in scope End bs k r e deeper = deeper r e
    focus_in scope (Then m t c) bs k r e deeper = record {
      procedure = g;
      is_sound = is_sound;
      scope = scope;
      more = c;
      parts = bs;
      stands = subst (λ x. Stands g env keep scope (Then x s c) bs) (sym (ap label_of e))
          (subst (λ x. Stands g env keep scope (Then m x c) bs) (sym (ap (first_code t) e)) k);
      standing = r;
      flat = ap rest_of e;
    }

    focus_parts : (bs : List Part) → Placed g env keep bs → Then l s rest ≡ flat bs → Focus keep env l s rest
    focus_parts [] r e = absurd (subst is_then e tt)
    focus_parts (b ∷ bs) (also k r) e = focus_in b.scope b.code bs k r e (focus_parts bs)

  pub focus : {keep scope : List ℕ} {env : Environment} {l : ℕ} {s : Code} {rest : Codes}
      → IsPlaced keep scope env (Then l s rest) → Focus keep env l s rest
  focus {keep = keep} {scope = scope} {env = env} {l = l} {s = s} {rest = rest} k =
      focus_in keep env k.procedure k.is_sound l s rest scope k.code k.parts k.stands k.standing k.flat
      (focus_parts keep env k.procedure k.is_sound l s rest k.parts)

  -- a block fits at the position of the first statement
  abbrev pub fits_there : {keep : List ℕ} {env : Environment} {l : ℕ} {s : Code} {rest : Codes} → (f : Focus keep env l s rest)
      → {b : Codes} → Follows p f.procedure f.scope b → Calm p f.stands.block.names b → IsWritten b
      → FitsIn f.procedure env f.scope b
  fits_there f follows calm written = record {
    fits = f.stands.block.fits;
    follows = follows;
    names = f.stands.block.names;
    lists = f.stands.block.lists;
    calm = calm;
    written = written;
  }

  -- what is placed doesn't change the windows of `keep`
  pub keep_below : {keep scope : List ℕ} {env : Environment} {c : Codes} → IsPlaced keep scope env c
      → Among keep scope
  keep_below {keep = keep} {env = env} k = λ x m. k.stands.outer x (keep_among k.procedure env keep k.standing x m)

  end_all : {A : Type 0} {x : Access} → All p accesses End x → A
  end_all h = elim h [ ]

  -- nothing is left to keep apart from
  pub apart_end : (names : Scope) (xs : Access → Type 0) → AlwaysApart names xs (All p accesses End)
  apart_end names xs env h = record { writes_first = λ q w t. end_all t.among; writes_second = λ q t w. end_all w.among }

  pub end_within : (env : Environment) (f : Footprint) → Within (all p env End) f
  end_within env f = record {
    touches = λ q. from_either (λ t. end_all t.among) (λ t. absurd t);
    writes = λ q. from_either (λ t. end_all t.among) (λ t. absurd t);
  }

  separate_end : (env : Environment) (f : Footprint) → Separate f (all p env End)
  separate_end env f = separate_within (within_itself _) (end_within env nothing) (separate_nothing _)

  -- nothing is left
  pub end_placed : {keep scope : List ℕ} {env : Environment} {c : Codes} → IsPlaced keep scope env c
      → IsPlaced keep scope env End
  end_placed {env = env} k = record {
    procedure = k.procedure;
    is_sound = k.is_sound;
    code = End;
    parts = [];
    stands = record {
      block = record {
        fits = k.stands.block.fits;
        follows = tt;
        names = k.stands.block.names;
        lists = k.stands.block.lists;
        calm = tt;
        written = tt;
      };
      outer = keep_below k;
      apart = separate_end env _;
    };
    standing = none;
    flat = refl;
  }

  module _ (sound : IsSound p) where
    pub all_scoped : {keep scope : List ℕ} {env : Environment} {c : Codes} → IsPlaced keep scope env c → (x : Access)
        → All p accesses c x → Member x.section scope
    all_scoped {keep = keep} {env = env} k x h = elim (all_append p accesses k.code (flat k.parts) x (subst (λ c. All p accesses c x) k.flat h)) [
      | inl h ↦ block_scoped k.procedure env keep sound k.is_sound.numbered k.stands x h
      | inr h ↦ k.stands.outer x.section (parts_scoped k.procedure env keep sound k.is_sound.numbered k.standing x h)
    ]

    pub turns_scoped : {keep scope : List ℕ} {env : Environment} {c : Codes} → IsPlaced keep scope env c → TurnsIn p scope c
    turns_scoped {keep = keep} {scope = scope} {env = env} k = subst (TurnsIn p scope) (sym k.flat)
        (turns_in_append p scope k.code (flat k.parts) (block_turns_in k.procedure env keep sound k.is_sound.numbered k.stands)
        (turns_in_more p k.stands.outer (flat k.parts) (parts_turns_in k.procedure env keep sound k.is_sound.numbered k.standing)))

    -- only the windows in scope matter
    abbrev pub same_placed : {keep scope : List ℕ} {env other : Environment} {c : Codes} → SameWindows scope env other
        → IsPlaced keep scope env c → IsPlaced keep scope other c
    same_placed {keep = keep} {env = env} {other = other} same k = record {
      procedure = k.procedure;
      is_sound = k.is_sound;
      code = k.code;
      parts = k.parts;
      stands = same_stands sound k.procedure k.is_sound.numbered env other keep k.standing same k.stands;
      standing = same_parts sound k.procedure k.is_sound.numbered env other keep (λ x m. same x (k.stands.outer x m)) k.standing;
      flat = k.flat;
    }

    pub same_all : {keep scope : List ℕ} {env other : Environment} {c : Codes} → SameWindows scope env other
        → IsPlaced keep scope env c
        → Within (all p other c) (all p env c)
    same_all {env = env} {other = other} {c = c} same k =
        all_shifted p {env = env} {other = other} c (all_scoped k) (turns_scoped k) same

    pub same_pending : {keep scope : List ℕ} {env other : Environment} {c : Codes} → SameWindows scope env other
        → IsPlaced keep scope env c
        → Within (pending p other c) (pending p env c)
    same_pending {env = env} {other = other} {c = c} same k =
        pending_shifted p {env = env} {other = other} c (all_scoped k) (turns_scoped k) same

  -- after the first statement
  abbrev pub rest_placed : {keep : List ℕ} {env : Environment} {l : ℕ} {s : Code} {rest : Codes}
      → (f : Focus keep env l s rest) → IsPlaced keep f.scope env rest
  rest_placed {env = env} {l = l} {s = s} f = record {
    procedure = f.procedure;
    is_sound = f.is_sound;
    code = f.more;
    parts = f.parts;
    stands = record {
      block = fits_there f f.stands.block.follows.1 f.stands.block.calm.1 (text_written f.more (more_text l s f.more f.stands.block.written));
      outer = f.stands.outer;
      apart = separate_within (rest_pending p env l s f.more) (within_itself _) f.stands.apart;
    };
    standing = f.standing;
    flat = f.flat;
  }

  -- the first statement and what follows it
  abbrev pub focused : {keep : List ℕ} {env : Environment} {l : ℕ} {s : Code} {rest : Codes}
      → (f : Focus keep env l s rest) → IsPlaced keep f.scope env (Then l s rest)
  focused {l = l} {s = s} f = record {
    procedure = f.procedure;
    is_sound = f.is_sound;
    code = Then l s f.more;
    parts = f.parts;
    stands = f.stands;
    standing = f.standing;
    flat = ap (Then l s) f.flat;
  }

  -- the turns to come of a statement keep apart from what follows it in its block
  turns_before : (env : Environment) (l : ℕ) (s : Code) (rest : Codes) → IsWritten (Then l s rest)
      → Separate (still_turn_of p env s) (all p env rest)
  turns_before env l (Do s) rest k = nothing_separate _
  turns_before env l (If t b c) rest k = nothing_separate _
  turns_before env l (While t b) rest k = nothing_separate _
  turns_before env l (Split s e x y b) rest k = nothing_separate _
  turns_before env l (Parts s e q i b) rest k = nothing_separate _
  turns_before env l (Begun s n m q i b) End k = separate_end env _
  turns_before env l (Begun s n m q i b) (Then j c rest) k = absurd k.1
  turns_before env l (Call f es ss) rest k = nothing_separate _
  turns_before env l (Async b) rest k = nothing_separate _
  turns_before env l (Finish b) rest k = nothing_separate _
  turns_before env l (Rescue b x c) rest k = nothing_separate _

  -- what the first statement leaves pending keeps apart from what follows
  pub rest_apart : {keep : List ℕ} {env : Environment} {l : ℕ} {s : Code} {rest : Codes} → Focus keep env l s rest
      → Separate (leaves p env s) (all p env rest)
  rest_apart {env = env} {l = l} {s = s} f = subst (λ c. Separate (leaves p env s) (all p env c)) (sym f.flat)
      (separate_within (within_itself _) (append_all p env f.more (flat f.parts))
      (separate_both
      (both_separate
      (separate_within (within_itself _) (text_all p env f.more (more_text l s f.more f.stands.block.written))
      (separate_from (f.stands.block.calm.2 env (fits_scope p f.procedure f.is_sound f.stands.block.lists env f.stands.block.fits.placed))))
      (turns_before env l s f.more f.stands.block.written))
      (separate_within (statement_pending p env l s f.more) (within_itself _) f.stands.apart)))

  -- a block before what is placed
  abbrev pub prefixed : {keep scope : List ℕ} {env : Environment} {c : Codes} (k : IsPlaced keep scope env c)
      → (inner : List ℕ) (b : Codes) → Among scope inner → FitsIn k.procedure env inner b
      → Separate (pending p env b) (all p env c) → IsPlaced keep inner env (append b c)
  prefixed {scope = scope} {env = env} k inner b m fits apart = record {
    procedure = k.procedure;
    is_sound = k.is_sound;
    code = b;
    parts = record { scope = scope; code = k.code } ∷ k.parts;
    stands = record { block = fits; outer = m; apart = subst (λ c. Separate (pending p env b) (all p env c)) k.flat apart };
    standing = also k.stands k.standing;
    flat = ap (append b) k.flat;
  }

  -- a single block
  pub alone : (keep scope : List ℕ) (env : Environment) (g : Procedure) (b : Codes) → IsSoundIn p g
      → Among keep scope → FitsIn g env scope b → IsPlaced keep scope env b
  alone keep scope env g b is_sound m fits = record {
    procedure = g;
    is_sound = is_sound;
    code = b;
    parts = [];
    stands = record {
      block = fits;
      outer = m;
      apart = separate_end env _;
    };
    standing = none;
    flat = append_end b;
  }
    where
      append_end : (b : Codes) → b ≡ append b End
      append_end End = refl
      append_end (Then l s b) = ap (Then l s) (append_end b)
