-- What a walk tests, and what is reached.
use Rattle.std.proofs.Common.{◌≡◌, ◌⊎◌, ℕ, List, refl, inl, inr}
use Rattle.std.proofs.lemmas.Bool.{and_parts, false≢true, true≢false}
use Rattle.std.specs.Prelude.{◌↔◌, Bool, true, false, ◌&&◌}
use Rattle.types.specs.Code.{Code, Do, If, While, Split, Parts, Begun, Call, Async, Finish, Rescue, Codes, End, Then}
use Rattle.types.specs.Code.{Program}
use Rattle.types.specs.Run.{procedure_of}
use Rattle.effects.specs.Statements.{Block, Stands}
use Rattle.plain_code.specs.Calm.{AreCalm, AreMarked, are_plain_by, calm_at, is_plain_by}
use Rattle.plain_code.specs.Plain.{ArePlain, IsPlain, Reaches}
use Rattle.plain_code.proofs.Reaching.{reaches_behind, reaches_inside}

-- two tests, one of which fails
one_fails : (a b : Bool) → a && b ≡ false → (a ≡ false) ⊎ (b ≡ false)
one_fails true b h = inr h
one_fails false b h = inl refl

pub holds_first : (a b : Bool) → a ≡ true → b ≡ a && b
holds_first true b h = refl
holds_first false b h = absurd (false≢true h)

pub fails_first : (a b : Bool) → a ≡ false → a ≡ a && b
fails_first true b h = absurd (true≢false h)
fails_first false b h = refl

module _ (calm : List Bool) where
  abbrev Plain : Code → Type 0
  Plain s = is_plain_by calm s ≡ true

  abbrev Plains : Codes → Type 0
  Plains b = are_plain_by calm b ≡ true

  block_plain : {s : Code} {b : Codes} → Block s b → Plain s → Plains b
  block_plain (Block.if_body {t} {b} {c}) h = (and_parts (are_plain_by calm b) (are_plain_by calm c) h).0
  block_plain (Block.if_other {t} {b} {c}) h = (and_parts (are_plain_by calm b) (are_plain_by calm c) h).1
  block_plain Block.while h = h
  block_plain Block.split h = h
  block_plain Block.parts h = h
  block_plain Block.async h = absurd (false≢true h)
  block_plain Block.finish h = absurd (false≢true h)
  block_plain Block.rescued h = absurd (false≢true h)
  block_plain Block.handler h = absurd (false≢true h)

  stands_plain : {b : Codes} {l : ℕ} {s : Code} → Stands b l s → Plains b → Plain s
  stands_plain (Stands.here {l} {s} {rest}) h = (and_parts (is_plain_by calm s) (are_plain_by calm rest) h).0
  stands_plain (Stands.inside {l} {m} {s} {t} {b} {rest} k at) h =
      stands_plain at (block_plain k ((and_parts (is_plain_by calm s) (are_plain_by calm rest) h).0))
  stands_plain (Stands.later {l} {m} {s} {t} {rest} at) h =
      stands_plain at ((and_parts (is_plain_by calm s) (are_plain_by calm rest) h).1)

  module _ (p : Program) where
    -- the walk finds nothing in the bodies of calm procedures
    abbrev pub AreClosed : Type 0
    AreClosed = (f : ℕ) → calm_at calm f ≡ true → Plains (procedure_of p f).body

    nothing_reached : AreClosed → {b : Codes} → Reaches p b → Plains b → ⊥
    nothing_reached closed (Reaches.async at) h = false≢true (stands_plain at h)
    nothing_reached closed (Reaches.finish at) h = false≢true (stands_plain at h)
    nothing_reached closed (Reaches.rescue at) h = false≢true (stands_plain at h)
    nothing_reached closed (Reaches.call at r) h = nothing_reached closed r (closed _ (stands_plain at h))
    nothing_reached closed (Reaches.turn at r) h = nothing_reached closed r (stands_plain at h)

    -- and what it finds is reached
    module _ (marked : AreMarked p calm) where
      mutual
        statement_reaches : (l : ℕ) (s : Code) (rest : Codes) → is_plain_by calm s ≡ false → Reaches p (Then l s rest)
        statement_reaches l (Do s) rest h = absurd (true≢false h)
        statement_reaches l (If t b c) rest h =
            elim (one_fails (are_plain_by calm b) (are_plain_by calm c) h) [
              | inl e ↦ reaches_inside p Block.if_body (block_reaches b e)
              | inr e ↦ reaches_inside p Block.if_other (block_reaches c e)
            ]
        statement_reaches l (While t b) rest h = reaches_inside p Block.while (block_reaches b h)
        statement_reaches l (Split s e x y b) rest h = reaches_inside p Block.split (block_reaches b h)
        statement_reaches l (Parts s e q i b) rest h = reaches_inside p Block.parts (block_reaches b h)
        statement_reaches l (Begun s n k q i b) rest h = Reaches.turn Stands.here (block_reaches b h)
        statement_reaches l (Call f es ss) rest h = Reaches.call Stands.here (marked f h)
        statement_reaches l (Async b) rest h = Reaches.async Stands.here
        statement_reaches l (Finish b) rest h = Reaches.finish Stands.here
        statement_reaches l (Rescue b x c) rest h = Reaches.rescue Stands.here

        pub block_reaches : (b : Codes) → are_plain_by calm b ≡ false → Reaches p b
        block_reaches End h = absurd (true≢false h)
        block_reaches (Then l s rest) h =
            elim (one_fails (is_plain_by calm s) (are_plain_by calm rest) h) [
              | inl e ↦ statement_reaches l s rest e
              | inr e ↦ reaches_behind p (block_reaches rest e)
            ]

    -- so the two together decide what is plain
    tells : (b : Bool) (f : ℕ) → calm_at calm f ≡ b → AreMarked p calm → ArePlain p (procedure_of p f).body → calm_at calm f ≡ true
    tells true f e marked plain = e
    tells false f e marked plain = absurd (plain (marked f e))

    pub each_calm : AreClosed → AreMarked p calm → (f : ℕ) → (calm_at calm f ≡ true) ↔ ArePlain p (procedure_of p f).body
    each_calm closed marked f = (
      λ is r. nothing_reached closed r (closed f is),
      λ plain. tells (calm_at calm f) f refl marked plain,
    )

module _ (p : Program) (calm : List Bool) (of : AreCalm p calm) where
  not_reached : {b : Codes} → Reaches p b → are_plain_by calm b ≡ true → ⊥
  not_reached (Reaches.async at) h = false≢true (stands_plain calm at h)
  not_reached (Reaches.finish at) h = false≢true (stands_plain calm at h)
  not_reached (Reaches.rescue at) h = false≢true (stands_plain calm at h)
  not_reached (Reaches.call at r) h = (of.each _).0 (stands_plain calm at h) r
  not_reached (Reaches.turn at r) h = not_reached r (stands_plain calm at h)

  -- what the walk finds plain is plain
  pub plain_block : (b : Codes) → are_plain_by calm b ≡ true → ArePlain p b
  plain_block b h = λ r. not_reached r h

  pub plain_statement : (l : ℕ) (s : Code) → is_plain_by calm s ≡ true → IsPlain p l s
  plain_statement l s h = plain_block (Then l s End) (both (is_plain_by calm s) h)
    where
      both : (b : Bool) → b ≡ true → b && true ≡ true
      both true e = refl
      both false e = e
