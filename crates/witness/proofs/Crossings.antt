-- The shortest two ways that meet, from the shortest of their parts.
use Rattle.std.proofs.Common.{◌≡◌, ◌⊎◌, inl, inr, ℕ, ◌≤◌, List, ◌∷◌, length, refl, sym, ◌∙◌, subst, true≢false, arith}
use Rattle.std.specs.Prelude.{Bool, true, false, Option, None, Some, IfSome, option_map}
use Rattle.types.specs.Code.{Number, Truth, Code, Do, If, While, Split, Parts, Begun, Call, Async, Finish, Rescue}
use Rattle.types.specs.Code.{Codes, End, Then, Program}
use Rattle.effects.specs.Accesses.{Access}
use Rattle.effects.specs.Effects.{of_pieces, past_parts}
use Rattle.effects.specs.Statements.{Block}
use Rattle.witness.specs.Crossed.{Crossed, IsAcross, IsInTurn, IsInTurns, MeetAt, MeetIn, both}
use Rattle.witness.specs.Least.{AtMost, IsLesserOf, IsLeast, all_covered}
use Rattle.witness.specs.Searched.{IsLed}
use Rattle.witness.specs.Ways.{Way, WayOf, step}
use Rattle.witness.specs.Meets.{Meets, MeetsAt, WayInto}
use Rattle.witness.specs.declared.crossing.RunsTogether.{RunsTogether}
use Rattle.witness.specs.declared.crossing.RunsTogether.TheVariants.{Follows, Turns}
use Rattle.witness.specs.declared.step.Rule.TheVariants.{Piece}
use Rattle.witness.specs.declared.step.WayStep.{WayStep}
use Rattle.witness.proofs.Found.{stepped, behind_led}
use Rattle.witness.proofs.Leasts.{least_none, least_same, least_either, at_most_more}

abbrev crossing : RunsTogether → List WayStep → List WayStep → Crossed
crossing kind one other = record { meeting = kind; pending = one; later = other }

module _ (p : Program) (x y : Access) where
  -- ---- lists
  -- a statement leaves x pending, and one after it does y
  record IsFollowing (l : ℕ) (s : Code) (rest : Codes) (c : Crossed) : Type 0 where
    meeting : c.meeting ≡ Follows
    pending : WayOf p true l s c.pending x
    later : Way p false rest c.later y

  following : (l : ℕ) (s : Code) (rest : Codes) (behind : Option (List WayStep)) (found : Option Crossed)
      → IsLeast length all_covered (λ way. Way p false rest way y) behind → IsLeast both all_covered (IsAcross p l s x behind) found
      → IsLeast both all_covered (IsFollowing l s rest) found
  following l s rest behind found h k = record {
    among = some found k.among;
    least = λ c f t. shorter c f behind refl (h.least c.later f.later tt);
  }
    where
      some : (found : Option Crossed) → IfSome found (IsAcross p l s x behind) → IfSome found (IsFollowing l s rest)
      some None a = a
      some (Some c) a = record {
        meeting = a.meeting;
        pending = a.pending;
        later = subst (λ (o : Option (List WayStep)). IfSome o (λ way. Way p false rest way y)) a.later h.among;
      }

      shorter : (c : Crossed) → IsFollowing l s rest c → (o : Option (List WayStep)) → behind ≡ o → AtMost length o (length c.later)
          → AtMost both found (both c)
      shorter c f None e fewer = elim fewer [ ]
      shorter c f (Some way) e fewer =
          at_most_more both found (both (crossing Follows c.pending way)) (both c) (omega (arith, fewer))
          (k.least (crossing Follows c.pending way) (record { meeting = refl; pending = f.pending; later = e }) tt)

  abbrev Here : (l : ℕ) (s : Code) (rest : Codes) → Crossed → Type 0
  Here l s rest c = IsFollowing l s rest c ⊎ (MeetAt p l s x y c ⊎ MeetIn p rest x y c)

  meets_cases : {l : ℕ} {s : Code} {rest : Codes} {kind : RunsTogether} {one other : List WayStep} → Meets p (Then l s rest) kind one other x y
      → Here l s rest (crossing kind one other)
  meets_cases (Meets.follows w v) = inl (record { meeting = refl; pending = w; later = v })
  meets_cases (Meets.turns w v) = inr (inl (MeetsAt.turns w v))
  meets_cases (Meets.pieces m) = inr (inl (MeetsAt.pieces m))
  meets_cases (Meets.inside k m) = inr (inl (MeetsAt.inside k m))
  meets_cases (Meets.later m) = inr (inr m)

  follows_meet : (l : ℕ) (s : Code) (rest : Codes) (c : Crossed) → IsFollowing l s rest c → MeetIn p (Then l s rest) x y c
  follows_meet l s rest c h =
      subst (λ (k : RunsTogether). Meets p (Then l s rest) k c.pending c.later x y) (sym h.meeting) (Meets.follows h.pending h.later)

  at_meet : {l : ℕ} {s : Code} {kind : RunsTogether} {one other : List WayStep} → MeetsAt p l s kind one other x y → (rest : Codes)
      → Meets p (Then l s rest) kind one other x y
  at_meet (MeetsAt.turns w v) rest = Meets.turns w v
  at_meet (MeetsAt.pieces m) rest = Meets.pieces m
  at_meet (MeetsAt.inside k m) rest = Meets.inside k m

  pub crossing_end : IsLeast both all_covered (MeetIn p End x y) None
  crossing_end = least_none both all_covered (MeetIn p End x y) (λ c m. none c m)
    where
      none : (c : Crossed) → MeetIn p End x y c → ⊥
      none c m = elim m [ ]

  pub crossing_front : (l : ℕ) (s : Code) (rest : Codes) (behind : Option (List WayStep)) (follow here best two found : Option Crossed)
      → IsLesserOf both here best two → IsLesserOf both follow two found
      → IsLeast length all_covered (λ way. Way p false rest way y) behind → IsLeast both all_covered (IsAcross p l s x behind) follow
      → IsLeast both all_covered (MeetAt p l s x y) here → IsLeast both all_covered (MeetIn p rest x y) best
      → IsLeast both all_covered (MeetIn p (Then l s rest) x y) found
  crossing_front l s rest behind follow here best two found lesser least w f h k =
      least_either both all_covered (IsFollowing l s rest) Others (MeetIn p (Then l s rest) x y) follow two found least
      (λ c q. follows_meet l s rest c q) (λ c q. elim q [ inl m ↦ at_meet m rest | inr m ↦ Meets.later m ]) (λ c m. meets_cases m)
      (following l s rest behind follow w f)
      (least_either both all_covered (MeetAt p l s x y) (MeetIn p rest x y) Others here best two lesser (λ c q. inl q) (λ c q. inr q)
      (λ c q. q) h k)
    where
      Others : Crossed → Type 0
      Others c = MeetAt p l s x y c ⊎ MeetIn p rest x y c

  -- ---- statements
  module _ (l : ℕ) where
    pub at_if : (t : Truth) (b d : Codes) (one other found : Option Crossed) → IsLesserOf both one other found
        → IsLeast both all_covered (MeetIn p b x y) one → IsLeast both all_covered (MeetIn p d x y) other
        → IsLeast both all_covered (MeetAt p l (If t b d) x y) found
    at_if t b d one other found lesser h k =
        least_either both all_covered (MeetIn p b x y) (MeetIn p d x y) (MeetAt p l (If t b d) x y) one other found lesser
        (λ c m. MeetsAt.inside Block.if_body m) (λ c m. MeetsAt.inside Block.if_other m) (λ c m. cases m) h k
      where
        block : {e : Codes} → Block (If t b d) e → {kind : RunsTogether} {one other : List WayStep} → Meets p e kind one other x y
            → Meets p b kind one other x y ⊎ Meets p d kind one other x y
        block Block.if_body m = inl m
        block Block.if_other m = inr m

        cases : {kind : RunsTogether} {one other : List WayStep} → MeetsAt p l (If t b d) kind one other x y
            → Meets p b kind one other x y ⊎ Meets p d kind one other x y
        cases (MeetsAt.inside k m) = block k m

    pub at_while : (t : Truth) (b : Codes) (one other found : Option Crossed) → IsLesserOf both one other found
        → IsLeast both all_covered (IsInTurn p l (While t b) x y) one → IsLeast both all_covered (MeetIn p b x y) other
        → IsLeast both all_covered (MeetAt p l (While t b) x y) found
    at_while t b one other found lesser h k =
        least_either both all_covered (IsInTurn p l (While t b) x y) (MeetIn p b x y) (MeetAt p l (While t b) x y) one other found lesser
        (λ c q. subst (λ (k : RunsTogether). MeetsAt p l (While t b) k c.pending c.later x y) (sym q.meeting) (MeetsAt.turns q.pending q.later))
        (λ c m. MeetsAt.inside Block.while m) (λ c m. cases m) h k
      where
        block : {e : Codes} → Block (While t b) e → {kind : RunsTogether} {one other : List WayStep} → Meets p e kind one other x y
            → Meets p b kind one other x y
        block Block.while m = m

        cases : {kind : RunsTogether} {one other : List WayStep} → MeetsAt p l (While t b) kind one other x y
            → IsInTurn p l (While t b) x y (crossing kind one other) ⊎ Meets p b kind one other x y
        cases (MeetsAt.turns w v) = inl (record { meeting = refl; pending = w; later = v })
        cases (MeetsAt.inside k m) = inr (block k m)

    pub at_parts : (s : ℕ) (a : Number) (q i : ℕ) (b : Codes) (one other found : Option Crossed) → IsLesserOf both one other found
        → IsLeast both all_covered (IsInTurns p l s q b x y) one → IsLeast both all_covered (MeetIn p b x y) other
        → IsLeast both all_covered (MeetAt p l (Parts s a q i b) x y) found
    at_parts s a q i b one other found lesser h k =
        least_either both all_covered (IsInTurns p l s q b x y) (MeetIn p b x y) (MeetAt p l (Parts s a q i b) x y) one other found lesser
        (λ c t. subst (λ (k : RunsTogether). MeetsAt p l (Parts s a q i b) k c.pending c.later x y) (sym t.meeting)
        (MeetsAt.pieces {i = i} {e = a} t.meets))
        (λ c m. MeetsAt.inside Block.parts m) (λ c m. cases m) h k
      where
        block : {e : Codes} → Block (Parts s a q i b) e → {kind : RunsTogether} {one other : List WayStep} → Meets p e kind one other x y
            → Meets p b kind one other x y
        block Block.parts m = m

        cases : {kind : RunsTogether} {one other : List WayStep} → MeetsAt p l (Parts s a q i b) kind one other x y
            → IsInTurns p l s q b x y (crossing kind one other) ⊎ Meets p b kind one other x y
        cases (MeetsAt.pieces m) = inl (record { meeting = refl; meets = m })
        cases (MeetsAt.inside k m) = inr (block k m)

    -- a statement that has only this block, and none of whose iterations meet
    abbrev HasOnly : Code → Codes → Type 0
    HasOnly (Do a) b = ⊥
    HasOnly (If t d e) b = ⊥
    HasOnly (While t d) b = ⊥
    HasOnly (Split s a i r d) b = d ≡ b
    HasOnly (Parts s a q i d) b = ⊥
    HasOnly (Begun s n k q i d) b = ⊥
    HasOnly (Call f es ss) b = ⊥
    HasOnly (Async d) b = d ≡ b
    HasOnly (Finish d) b = d ≡ b
    HasOnly (Rescue d n e) b = ⊥

    at_block : (s : Code) (b : Codes) (found : Option Crossed) → Block s b → HasOnly s b
        → IsLeast both all_covered (MeetIn p b x y) found → IsLeast both all_covered (MeetAt p l s x y) found
    at_block s b found k only h =
        least_same both all_covered (MeetIn p b x y) (MeetAt p l s x y) found (λ c m. MeetsAt.inside k m)
        (λ c m. cases only m) h
      where
        block : {u : Code} {e : Codes} → HasOnly u b → Block u e → {kind : RunsTogether} {one other : List WayStep}
            → Meets p e kind one other x y → Meets p b kind one other x y
        block only Block.if_body m = absurd only
        block only Block.if_other m = absurd only
        block only Block.while m = absurd only
        block only Block.split {kind} {one} {other} m = subst (λ d. Meets p d kind one other x y) only m
        block only Block.parts m = absurd only
        block only Block.async {kind} {one} {other} m = subst (λ d. Meets p d kind one other x y) only m
        block only Block.finish {kind} {one} {other} m = subst (λ d. Meets p d kind one other x y) only m
        block only Block.rescued m = absurd only
        block only Block.handler m = absurd only

        cases : {u : Code} {kind : RunsTogether} {one other : List WayStep} → HasOnly u b
            → MeetsAt p l u kind one other x y → Meets p b kind one other x y
        cases only (MeetsAt.turns w v) = absurd only
        cases only (MeetsAt.pieces m) = absurd only
        cases only (MeetsAt.inside k m) = block only k m

    pub at_split : (s : ℕ) (a : Number) (i r : ℕ) (b : Codes) (found : Option Crossed)
        → IsLeast both all_covered (MeetIn p b x y) found
        → IsLeast both all_covered (MeetAt p l (Split s a i r b) x y) found
    at_split s a i r b found = at_block (Split s a i r b) b found Block.split refl

    pub at_async : (b : Codes) (found : Option Crossed) → IsLeast both all_covered (MeetIn p b x y) found
        → IsLeast both all_covered (MeetAt p l (Async b) x y) found
    at_async b found = at_block (Async b) b found Block.async refl

    pub at_finish : (b : Codes) (found : Option Crossed) → IsLeast both all_covered (MeetIn p b x y) found
        → IsLeast both all_covered (MeetAt p l (Finish b) x y) found
    at_finish b found = at_block (Finish b) b found Block.finish refl

    pub at_rescue : (n : ℕ) (b d : Codes) (one other found : Option Crossed) → IsLesserOf both one other found
        → IsLeast both all_covered (MeetIn p b x y) one → IsLeast both all_covered (MeetIn p d x y) other
        → IsLeast both all_covered (MeetAt p l (Rescue b n d) x y) found
    at_rescue n b d one other found lesser h k =
        least_either both all_covered (MeetIn p b x y) (MeetIn p d x y) (MeetAt p l (Rescue b n d) x y) one other found lesser
        (λ c m. MeetsAt.inside Block.rescued m) (λ c m. MeetsAt.inside Block.handler m) (λ c m. cases m) h k
      where
        block : {e : Codes} → Block (Rescue b n d) e → {kind : RunsTogether} {one other : List WayStep} → Meets p e kind one other x y
            → Meets p b kind one other x y ⊎ Meets p d kind one other x y
        block Block.rescued m = inl m
        block Block.handler m = inr m

        cases : {kind : RunsTogether} {one other : List WayStep} → MeetsAt p l (Rescue b n d) kind one other x y
            → Meets p b kind one other x y ⊎ Meets p d kind one other x y
        cases (MeetsAt.inside k m) = block k m

  pub at_statement : (l : ℕ) (k s : Code) (found : Option Crossed) → k ≡ s → IsLeast both all_covered (MeetAt p l s x y) found
      → IsLeast both all_covered (MeetAt p l k x y) found
  at_statement l k s found e h = subst (λ (z : Code). IsLeast both all_covered (MeetAt p l z x y) found) (sym e) h

-- ---- two turns of a `parts`
module _ (p : Program) (l s q : ℕ) (b : Codes) where
  -- a way into the block is one behind the step at the `parts`
  pub into_least : (m : Bool) (z : Access) (first : WayStep) (found led : Option (List WayStep)) → first ≡ step l Piece (past_parts s q z.section)
      → led ≡ option_map (λ way. first ∷ way) found → IsLeast length all_covered (λ way. Way p m b way z) found
      → IsLeast length all_covered (λ way. WayInto p m l s q b way z) led
  into_least m z first found led e f h =
      least_same length all_covered (IsLed (step l Piece (past_parts s q z.section)) (λ behind. Way p m b behind z))
      (λ way. WayInto p m l s q b way z) led
      (λ way k. record { behind = k.behind; is = k.is; leads = k.leads }) (λ way k. record { behind = k.behind; is = k.is; leads = k.leads })
      (stepped all_covered first (step l Piece (past_parts s q z.section)) (λ behind. Way p m b behind z) led e
      (behind_led all_covered first (λ behind. Way p m b behind z) found led f (λ n c. tt) h))

  module _ (x y : Access) where
    -- accesses to two pieces don't meet
    pub apart_in_turns : of_pieces q x y ≡ true → IsLeast both all_covered (IsInTurns p l s q b x y) None
    apart_in_turns e = least_none both all_covered (IsInTurns p l s q b x y) (λ c t. true≢false (sym e ∙ t.meets.meet))

    pub none_pending : IsLeast length all_covered (λ way. WayInto p true l s q b way x) None
        → IsLeast both all_covered (IsInTurns p l s q b x y) None
    none_pending h = least_none both all_covered (IsInTurns p l s q b x y) (λ c t. h.least c.pending t.meets.pending tt)

    pub none_later : IsLeast length all_covered (λ way. WayInto p false l s q b way y) None
        → IsLeast both all_covered (IsInTurns p l s q b x y) None
    none_later h = least_none both all_covered (IsInTurns p l s q b x y) (λ c t. h.least c.later t.meets.later tt)

    pub in_two_turns : (one other : List WayStep) → of_pieces q x y ≡ false
        → IsLeast length all_covered (λ way. WayInto p true l s q b way x) (Some one)
        → IsLeast length all_covered (λ way. WayInto p false l s q b way y) (Some other)
        → IsLeast both all_covered (IsInTurns p l s q b x y) (Some (crossing Turns one other))
    in_two_turns one other e h k = record {
      among = record { meeting = refl; meets = record { pending = h.among; later = k.among; meet = e } };
      least = λ c t n.
          let first : length one ≤ length c.pending = h.least c.pending t.meets.pending tt in
          let second : length other ≤ length c.later = k.least c.later t.meets.later tt in
          omega (arith, first, second);
    }
