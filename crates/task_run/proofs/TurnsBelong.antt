-- The work that a turn leaves belongs to the program, and a task's places stay the same, together
-- with those that come back.
use Rattle.std.proofs.Common.{◌≡◌, ℕ, zero, suc, List, [], ◌∷◌, ◌++◌, Ok, Err, refl, sym, ap, ◌∙◌, subst}
use Rattle.std.proofs.Math.Bool.{or-false, or_assoc}
use Rattle.std.specs.Prelude.{Bool, true, false, not, ◌+◌, ◌&&◌, ◌||◌, Option, ok_or, if◌then◌else◌}
use Rattle.sections.specs.Covers.{has}
use Rattle.sections.specs.Place.{Place, has_piece, sides_of}
use Rattle.types.specs.declared.fault.FaultKind.TheVariants.{SplitPoint, PieceSize}
use Rattle.types.specs.Code.{Primitive, Skip, Assign, Store, Print, Raise, Code, Do, If, While, Split, Parts, Begun, Call}
use Rattle.types.specs.Code.{Async, Finish, Rescue, Codes, End, Then, Program}
use Rattle.types.specs.Value.{Valued, element_of, holds_number}
use Rattle.types.specs.Run.{Flow, On, Faulted, Stopped, State, Rules, with_value, put, print, assign, counted}
use Rattle.types.specs.Run.{primitive, piece_size, number_at, numbers_at, truth_at, window_at, array_of, with_sides}
use Rattle.types.specs.Sound.{IsTextOf}
use Rattle.effects.specs.Needs.{Needs}
use Rattle.effects.specs.Statements.{Block, Stands, HasStatement, IsPartOf}
use Rattle.task_run.specs.Places.{Places, written}
use Rattle.task_run.specs.Results.{Settled}
use Rattle.task_run.specs.OwnRun.{Child, Own, back_from, begin_own, child_of, own_rules}
use Rattle.task_run.specs.Frames.{Frame, Rest, Again, Further, AtEnd, OnFault, Back, Standing, by_value, chosen}
use Rattle.task_run.specs.Frames.{acted, handled, paid, by_flow, turn, handed}
use Rattle.task_run.specs.Lists.{Each}
use Rattle.task_run.specs.Reached.{HasNeedsOf, HasNext}
use Rattle.task_run.proofs.Lists.{each_last}

-- ---- places
-- the places that come back from children listed around the open finishes
abbrev pub back_around : List (Frame Own) → Places
back_around [] q = false
back_around (Rest b ∷ fs) q = back_around fs q
back_around (Again l t b ∷ fs) q = back_around fs q
back_around (Further l s n k x i b ∷ fs) q = back_around fs q
back_around (AtEnd before ∷ fs) q = back_from before.extra.pending q || back_around fs q
back_around (OnFault before x c ∷ fs) q = back_around fs q
back_around (Back env ∷ fs) q = back_around fs q

-- all places of a task: those that it owns, and those that come back
abbrev pub all_places : List (Frame Own) → (owned : Places) → List Child → Places
all_places fs o cs q = (o q || back_from cs q) || back_around fs q

back_last : (cs : List Child) (c : Child) (q : Place) → back_from (cs ++ c ∷ []) q ≡ (back_from cs q || has c.listed.windows q)
back_last [] c q = or-false (has c.listed.windows q)
back_last (d ∷ cs) c q =
    ap (λ (b : Bool). has d.listed.windows q || b) (back_last cs c q)
    ∙ sym (or_assoc (has d.listed.windows q) (back_from cs q) (has c.listed.windows q))

-- what is owned and goes to a child comes back
gone_and_back : (o b w : Bool) → (w ≡ true → o ≡ true) → ((o && not w) || (b || w)) ≡ (o || b)
gone_and_back true true true h = refl
gone_and_back true true false h = refl
gone_and_back true false true h = refl
gone_and_back true false false h = refl
gone_and_back false true true h = refl
gone_and_back false true false h = refl
gone_and_back false false true h = sym (h refl)
gone_and_back false false false h = refl

-- a finish starts: what was listed is around it now
set_aside : (o b r : Bool) → ((o || false) || (b || r)) ≡ ((o || b) || r)
set_aside true b r = refl
set_aside false true r = refl
set_aside false false r = refl

-- a finish ends: what was listed in it has come back
got_back : (o b c r : Bool) → (((o || b) || c) || r) ≡ ((o || b) || (c || r))
got_back true b c r = refl
got_back false true c r = refl
got_back false false true r = refl
got_back false false false r = refl

-- ---- what a turn keeps
module _ (p : Program) where
  -- the blocks inside a statement belong to the program, and so does the block of a begun `parts`
  abbrev pub IsInner : Code → Type 0
  IsInner (Begun s n k q i b) = IsPartOf p b
  IsInner c = (b : Codes) → Block c b → IsPartOf p b

  -- so does a child's body, and what the child owns is what comes back from it
  pub record Belongs (c : Child) : Type 0 where
    pub body : IsPartOf p c.start.body
    pub places : (q : Place) → c.start.owned q ≡ has c.listed.windows q

  -- so does the remaining work, and so do the children around the open finishes
  abbrev pub AllBelong : List (Frame Own) → Type 0
  AllBelong [] = Unit {0}
  AllBelong (Rest b ∷ fs) = IsPartOf p b × AllBelong fs
  AllBelong (Again l t b ∷ fs) = IsInner (While t b) × AllBelong fs
  AllBelong (Further l s n k q i b ∷ fs) = IsPartOf p b × AllBelong fs
  AllBelong (AtEnd before ∷ fs) = Each Belongs before.extra.pending × AllBelong fs
  AllBelong (OnFault before x c ∷ fs) = IsPartOf p c × AllBelong fs
  AllBelong (Back env ∷ fs) = AllBelong fs

  -- a task with these places, whose remaining work and children belong to the program
  pub record IsOf (all : Places) (fs : List (Frame Own)) (o : Places) (cs : List Child) : Type 0 where
    pub frames : AllBelong fs
    pub children : Each Belongs cs
    pub places : (q : Place) → all_places fs o cs q ≡ all q

  -- ---- a primitive statement
  abbrev same : State Own → State Own → Type 0
  same st to = to.extra ≡ st.extra

  value_same : {B : Type 0} (l : ℕ) (v : Valued B) (go : B → State Own → State Own) (st : State Own) → ((y : B) → same st (go y st))
      → same st (with_value l v go st)
  value_same l (Ok y) go st h = h y
  value_same l (Err k) go st h = refl

  put_same : (l : ℕ) (fits : Bool) (q : Place) (v : _) (st : State Own) → same st (put l fits q v st)
  put_same l true q v st = refl
  put_same l false q v st = refl

  primitive_same : (l : ℕ) (s : Primitive) (st : State Own) → same st (primitive p l s st)
  primitive_same l Skip st = refl
  primitive_same l (Assign n e) st = value_same l (number_at st e) (assign n) st (λ v. refl)
  primitive_same l (Store s i e) st =
      value_same l (number_at st i) _ st (λ at. value_same l (number_at st e) _ st (λ v.
      value_same l (element_of (window_at st s) at) _ st (λ q. put_same l (holds_number (array_of p q.array).element v) q v st)))
  primitive_same l (Print es) st = value_same l (numbers_at st es) print st (λ vs. refl)
  primitive_same l (Raise e) st = value_same l (number_at st e) _ st (λ v. refl)

  -- ---- a statement
  module _ (texts : (l : ℕ) (c : Code) → HasStatement p l c → IsTextOf c) (needs : Codes → Needs) (nest : ℕ)
      (close : State Own → Option Settled) (all : Places) where
    abbrev r : Rules Own
    r = own_rules needs nest close

    abbrev Kept : List (Frame Own) → State Own → Type 0
    Kept fs st = IsOf all fs st.extra.owned st.extra.pending

    abbrev KeptAt : Standing Own → Type 0
    KeptAt t = Kept t.frames t.state

    -- an async owns what its body may write
    abbrev Owns : State Own → Code → Type 0
    Owns st (Async b) = (q : Place) → written st.environment (needs b) q ≡ true → st.extra.owned q ≡ true
    Owns st (Do s) = Unit {0}
    Owns st (If t b c) = Unit {0}
    Owns st (While t b) = Unit {0}
    Owns st (Split s e x y b) = Unit {0}
    Owns st (Parts s e q i b) = Unit {0}
    Owns st (Begun s n k q i b) = Unit {0}
    Owns st (Call f es ss) = Unit {0}
    Owns st (Finish b) = Unit {0}
    Owns st (Rescue b x c) = Unit {0}

    owns_next : (c : Code) (st : State Own) → HasNeedsOf needs st c → Owns st c
    owns_next (Async b) st h = h.owned
    owns_next (Do s) st h = tt
    owns_next (If t b c) st h = tt
    owns_next (While t b) st h = tt
    owns_next (Split s e x y b) st h = tt
    owns_next (Parts s e q i b) st h = tt
    owns_next (Begun s n k q i b) st h = tt
    owns_next (Call f es ss) st h = tt
    owns_next (Finish b) st h = tt
    owns_next (Rescue b x c) st h = tt

    value_kept : {A : Type 0} (l : ℕ) (v : Valued A) (go : A → Standing Own) (fs : List (Frame Own)) (st : State Own)
        → ((y : A) → KeptAt (go y)) → Kept fs st → KeptAt (by_value l v go fs st)
    value_kept l (Ok y) go fs st h k = h y
    value_kept l (Err f) go fs st h k = k

    chosen_kept : (v : Bool) (body other : List (Frame Own)) (st : State Own) → Kept body st → Kept other st
        → KeptAt (chosen v body other st)
    chosen_kept true body other st h k = h
    chosen_kept false body other st h k = k

    above : (b : Codes) (fs : List (Frame Own)) (st : State Own) → IsPartOf p b → Kept fs st → Kept (Rest b ∷ fs) st
    above b fs st i k = record { frames = (i, k.frames); children = k.children; places = k.places }

    async_kept : (n : ℕ) (b : Codes) (fs : List (Frame Own)) (st : State Own) → IsPartOf p b → Owns st (Async b) → Kept fs st
        → Kept fs (begin_own needs n b st)
    async_kept zero b fs st i h k = k
    async_kept (suc n) b fs st i h k =
        let c = child_of (needs b) n b st in
        record {
          frames = k.frames;
          children = each_last Belongs st.extra.pending c k.children (record { body = i; places = λ q. refl });
          places = λ q.
              let w = has c.listed.windows q in
              ap (λ (back : Bool). ((st.extra.owned q && not w) || back) || back_around fs q) (back_last st.extra.pending c q)
              ∙ ap (λ (here : Bool). here || back_around fs q)
              (gone_and_back (st.extra.owned q) (back_from st.extra.pending q) w (h q))
              ∙ k.places q;
        }

    acted_kept : (l : ℕ) (c : Code) (fs : List (Frame Own)) (st : State Own) → IsInner c → Owns st c → Kept fs st
        → KeptAt (acted p r l c fs st)
    acted_kept l (Do s) fs st i h k = subst (λ (x : Own). IsOf all fs x.owned x.pending) (sym (primitive_same l s st)) k
    acted_kept l (If t b c) fs st i h k =
        value_kept l (truth_at st t) _ fs st
        (λ v. chosen_kept v (Rest b ∷ fs) (Rest c ∷ fs) st (above b fs st (i b Block.if_body) k) (above c fs st (i c Block.if_other) k)) k
    acted_kept l (While t b) fs st i h k =
        value_kept l (truth_at st t) _ fs st
        (λ v. chosen_kept v (Rest b ∷ Again l t b ∷ fs) fs st
        (record { frames = (i b Block.while, (i, k.frames)); children = k.children; places = k.places }) k) k
    acted_kept l (Split s e x y b) fs st i h k =
        value_kept l (number_at st e) _ fs st (λ v.
        value_kept l (ok_or (sides_of (window_at st s) v) SplitPoint) _ fs st
        (λ ws. above b fs (record st { environment = with_sides x y ws st.environment }) (i b Block.split) k) k) k
    acted_kept l (Parts s e q j b) fs st i h k =
        value_kept l (number_at st e) _ fs st (λ v.
        value_kept l (ok_or (piece_size v) PieceSize) _ fs st (λ n.
        record { frames = (i b Block.parts, k.frames); children = k.children; places = k.places }) k) k
    acted_kept l (Begun s n m q j b) fs st i h k =
        record { frames = (i, (i, k.frames)); children = k.children; places = k.places }
    acted_kept l (Call f es ss) fs st i h k =
        value_kept l (numbers_at st es) _ fs st (λ vs.
        record {
          frames = ((λ m s j. HasStatement.in_procedure f j), k.frames);
          children = k.children;
          places = k.places;
        }) k
    acted_kept l (Async b) fs st i h k = async_kept nest b fs st (i b Block.async) h k
    acted_kept l (Finish b) fs st i h k = record {
      frames = (i b Block.finish, (k.children, k.frames));
      children = tt;
      places = λ q. set_aside (st.extra.owned q) (back_from st.extra.pending q) (back_around fs q) ∙ k.places q;
    }
    acted_kept l (Rescue b x c) fs st i h k = record {
      frames = (i b Block.rescued, (k.children, (i c Block.handler, k.frames)));
      children = tt;
      places = λ q. set_aside (st.extra.owned q) (back_from st.extra.pending q) (back_around fs q) ∙ k.places q;
    }

    paid_kept : (n l : ℕ) (c : Code) (fs : List (Frame Own)) (st : State Own) → IsInner c → Owns st c → Kept fs st
        → KeptAt (paid p r n l c fs st)
    paid_kept zero l c fs st i h k = k
    paid_kept (suc n) l (Do s) fs st i h k = acted_kept l (Do s) fs (counted r l (Do s) (record st { steps = n })) i h k
    paid_kept (suc n) l (If t b c) fs st i h k = acted_kept l (If t b c) fs (counted r l (If t b c) (record st { steps = n })) i h k
    paid_kept (suc n) l (While t b) fs st i h k = acted_kept l (While t b) fs (counted r l (While t b) (record st { steps = n })) i h k
    paid_kept (suc n) l (Split s e x y b) fs st i h k =
        acted_kept l (Split s e x y b) fs (counted r l (Split s e x y b) (record st { steps = n })) i h k
    paid_kept (suc n) l (Parts s e q j b) fs st i h k =
        acted_kept l (Parts s e q j b) fs (counted r l (Parts s e q j b) (record st { steps = n })) i h k
    paid_kept (suc n) l (Begun s z m q j b) fs st i h k =
        acted_kept l (Begun s z m q j b) fs (counted r l (Begun s z m q j b) (record st { steps = n })) i h k
    paid_kept (suc n) l (Call f es ss) fs st i h k =
        acted_kept l (Call f es ss) fs (counted r l (Call f es ss) (record st { steps = n })) i h k
    paid_kept (suc n) l (Async b) fs st i h k = acted_kept l (Async b) fs (counted r l (Async b) (record st { steps = n })) i h k
    paid_kept (suc n) l (Finish b) fs st i h k = acted_kept l (Finish b) fs (counted r l (Finish b) (record st { steps = n })) i h k
    paid_kept (suc n) l (Rescue b x c) fs st i h k =
        acted_kept l (Rescue b x c) fs (counted r l (Rescue b x c) (record st { steps = n })) i h k

    flow_kept : (f : Flow) (l : ℕ) (c : Code) (fs below : List (Frame Own)) (st : State Own) → IsInner c → Owns st c → Kept fs st
        → Kept below st → KeptAt (by_flow p r f l c fs below st)
    flow_kept On l c fs below st i h k d = paid_kept st.steps l c fs st i h k
    flow_kept Faulted l c fs below st i h k d = d
    flow_kept Stopped l c fs below st i h k d = d

    -- the statements of a program are texts, so none is a `parts` that has begun
    inner_of : (l : ℕ) (c : Code) (rest : Codes) → IsPartOf p (Then l c rest) → IsInner c
    inner_of l (Do s) rest part = λ b inner m t j. part m t (Stands.inside inner j)
    inner_of l (If g c d) rest part = λ b inner m t j. part m t (Stands.inside inner j)
    inner_of l (While g c) rest part = λ b inner m t j. part m t (Stands.inside inner j)
    inner_of l (Split s e x y c) rest part = λ b inner m t j. part m t (Stands.inside inner j)
    inner_of l (Parts s e q i c) rest part = λ b inner m t j. part m t (Stands.inside inner j)
    inner_of l (Begun s n k q i c) rest part = absurd (texts l (Begun s n k q i c) (part l (Begun s n k q i c) Stands.here))
    inner_of l (Call f es ss) rest part = λ b inner m t j. part m t (Stands.inside inner j)
    inner_of l (Async c) rest part = λ b inner m t j. part m t (Stands.inside inner j)
    inner_of l (Finish c) rest part = λ b inner m t j. part m t (Stands.inside inner j)
    inner_of l (Rescue c x d) rest part = λ b inner m t j. part m t (Stands.inside inner j)

    -- ---- a turn
    pub turn_kept : (f : Frame Own) (fs : List (Frame Own)) (st : State Own) → HasNext needs st (f ∷ fs)
        → IsOf all (f ∷ fs) st.extra.owned st.extra.pending
        → IsOf all (turn p r f fs st).frames (turn p r f fs st).state.extra.owned (turn p r f fs st).state.extra.pending
    turn_kept (Rest End) fs st h k = record { frames = k.frames.1; children = k.children; places = k.places }
    turn_kept (Rest (Then l c rest)) fs st h k =
        let below : Kept fs st = record { frames = k.frames.1; children = k.children; places = k.places } in
        flow_kept st.flow l c (Rest rest ∷ fs) fs st (inner_of l c rest k.frames.0) (owns_next c st h.1)
        (above rest fs st (λ m s j. k.frames.0 m s (Stands.later j)) below) below
    turn_kept (Again l t b) fs st h k =
        let below : Kept fs st = record { frames = k.frames.1; children = k.children; places = k.places } in
        flow_kept st.flow l (While t b) fs fs st k.frames.0 tt below below
    turn_kept (Further l s n m q i b) fs st h k = by (has_piece (window_at st s) n m)
      where
        below : Kept fs st
        below = record { frames = k.frames.1; children = k.children; places = k.places }

        by : (left : Bool)
            → KeptAt (if◌then◌else◌ {A = Standing Own} left (by_flow p r st.flow l (Begun s n m q i b) fs fs st) (record { frames = fs; state = st }))
        by true = flow_kept st.flow l (Begun s n m q i b) fs fs st k.frames.0 tt below below
        by false = below
    turn_kept (AtEnd before) fs st h k = k
    turn_kept (OnFault before x c) fs st h k = by st.flow
      where
        below : Kept fs st
        below = record { frames = k.frames.1; children = k.children; places = k.places }

        by : (f : Flow) → KeptAt (handled f before x c fs st)
        by On = below
        by Faulted = record { frames = k.frames; children = k.children; places = k.places }
        by Stopped = below
    turn_kept (Back env) fs st h k = record { frames = k.frames; children = k.children; places = k.places }

  -- ---- the end of a finish
  pub handed_kept : (all : Places) (before : State Own) (x : Settled) (fs : List (Frame Own)) (st : State Own)
      → IsOf all (AtEnd before ∷ fs) st.extra.owned st.extra.pending
      → IsOf all fs (handed before x st).extra.owned (handed before x st).extra.pending
  handed_kept all before x fs st k = record {
    frames = k.frames.1;
    children = k.frames.0;
    places = λ q.
        got_back (st.extra.owned q) (back_from st.extra.pending q) (back_from before.extra.pending q) (back_around fs q) ∙ k.places q;
  }

  -- ---- a start
  nothing_listed : (o : Bool) → ((o || false) || false) ≡ o
  nothing_listed true = refl
  nothing_listed false = refl

  pub begun_kept : (all : Places) (b : Codes) → IsPartOf p b → IsOf all (Rest b ∷ []) all []
  begun_kept all b i = record { frames = (i, tt); children = tt; places = λ q. nothing_listed (all q) }

  -- at the end nothing is around
  at_end : (o b : Bool) → ((o || b) || false) ≡ (o || b)
  at_end true b = refl
  at_end false true = refl
  at_end false false = refl

  pub ended_places : (all o : Places) (cs : List Child) → IsOf all [] o cs → (q : Place) → (o q || back_from cs q) ≡ all q
  ended_places all o cs k q = sym (at_end (o q) (back_from cs q)) ∙ k.places q
