-- What is found for statements, from what is found for their parts.
use Rattle.std.proofs.Common.{◌≡◌, ◌⊎◌, inl, inr, ℕ, suc, ◌≤◌, ◌<◌, List, [], ◌∷◌, length, refl, sym, ap, ◌∙◌, subst, arith, true≢false}
use Rattle.std.proofs.lemmas.Bool.{cases_eq}
use Rattle.std.specs.Prelude.{if◌then◌else◌, Bool, true, false}
use Rattle.std.specs.Prelude.{Option, None, Some, IfSome, MatchOption, option_map, slice_get}
use Rattle.sections.specs.declared.id.SectionId.{SectionId}
use Rattle.types.specs.Code.{Number, Truth, Code, If, While, Split, Parts, Call, Async, Finish, Rescue, Codes, End}
use Rattle.types.specs.Code.{Then, Program}
use Rattle.types.specs.Run.{procedure_of}
use Rattle.types.specs.Translation.{codes}
use Rattle.types.specs.declared.code.Stmt.{Stmt}
use Rattle.effects.specs.Accesses.{Access}
use Rattle.effects.specs.Effects.{past_split}
use Rattle.effects.specs.Translation.{access}
use Rattle.effects.specs.declared.access.Access.{Access as rAccess}
use Rattle.effects.proofs.AccessesInScope.{past_split-other}
use Rattle.witness.specs.Known.{AreShortest, AreWays, IsFrom, way_known}
use Rattle.witness.specs.Least.{AtMost, IsLesserOf, IsLeast, all_covered}
use Rattle.witness.specs.Searched.{GoesIn, GoesOn, IsInside, IsLed, IsOwn}
use Rattle.witness.specs.Ways.{Goes, Way, WayOf, step}
use Rattle.witness.specs.declared.known.Known.{Known}
use Rattle.witness.specs.declared.search.Sought.{Sought}
use Rattle.witness.specs.declared.step.Rule.{Rule}
use Rattle.witness.specs.declared.step.Rule.TheVariants.{Own, Body, Other, Turn, Side, Piece, Enter, Begin, Await, Handler}
use Rattle.witness.specs.declared.step.WayStep.{WayStep}
use Rattle.witness.proofs.Leasts.{least_none, least_same, least_either, least_led_at, at_most_more}

-- what is shortest below a number is so below a smaller one
pub covered_less : (p : Program) (x : Access) (known : Known) (n : ℕ) → AreShortest p x known (suc n) → AreShortest p x known n
covered_less p x known n close m f k way from less = close m f k way from (omega arith)

module _ (p : Program) where
  abbrev at : Access → ℕ → Access
  at x s = record x { section = s }

  -- ---- lists
  no_way : (m : Bool) (way : List WayStep) (x : Access) → Way p m End way x → ⊥
  no_way m way x w = elim w [ ]

  front_cases : {m : Bool} {l : ℕ} {s : Code} {rest : Codes} {way : List WayStep} {x : Access} → Way p m (Then l s rest) way x
      → WayOf p m l s way x ⊎ Way p m rest way x
  front_cases (Way.here w) = inl w
  front_cases (Way.later w) = inr w

  module _ (covered : ℕ → Type 0) (m : Bool) (x : Access) where
    pub least_end : IsLeast length covered (λ way. Way p m End way x) None
    least_end = least_none length covered (λ way. Way p m End way x) (λ way w. no_way m way x w)

    pub least_front : (l : ℕ) (s : Code) (rest : Codes) (one other found : Option (List WayStep)) → IsLesserOf length one other found
        → IsLeast length covered (λ way. WayOf p m l s way x) one → IsLeast length covered (λ way. Way p m rest way x) other
        → IsLeast length covered (λ way. Way p m (Then l s rest) way x) found
    least_front l s rest one other found lesser h k =
        least_either length covered (λ way. WayOf p m l s way x) (λ way. Way p m rest way x) (λ way. Way p m (Then l s rest) way x)
        one other found lesser (λ way w. Way.here w) (λ way w. Way.later w) (λ way w. front_cases w) h k

  -- ---- statements
  of_cases : {m : Bool} {l : ℕ} {s : Code} {way : List WayStep} {x : Access} → WayOf p m l s way x → IsOwn m l s x ⊎ GoesOn p m l s x way
  of_cases (WayOf.own h) = inl (record { done = refl; member = h })
  of_cases (WayOf.by {rule = rule} {b = b} {inner = inner} {steps = steps} g w) = inr (record {
    rule = rule;
    inner = inner;
    by = record { kind = _; list = b; goes = g; led = record { behind = steps; is = refl; leads = w } };
  })

  on_is_way : (m : Bool) (l : ℕ) (s : Code) (x : Access) (way : List WayStep) → GoesOn p m l s x way → WayOf p m l s way x
  on_is_way m l s x way g =
      subst (λ (w : List WayStep). WayOf p m l s w x) (sym g.by.led.is) (WayOf.by g.by.goes g.by.led.leads)

  own_is_way : (m : Bool) (l : ℕ) (s : Code) (x : Access) → IsOwn m l s x → WayOf p m l s (step l Own x.section ∷ []) x
  own_is_way true l s x h = absurd (true≢false h.done)
  own_is_way false l s x h = WayOf.own h.member

  -- no way has no steps
  some_step : {m : Bool} {l : ℕ} {s : Code} {way : List WayStep} {x : Access} → WayOf p m l s way x → 1 ≤ length way
  some_step (WayOf.own h) = omega arith
  some_step (WayOf.by g w) = omega arith

  module _ (covered : ℕ → Type 0) (m : Bool) (l : ℕ) (s : Code) (x : Access) where
    pub least_own : (found : Option (List WayStep)) → found ≡ Some (step l Own x.section ∷ []) → IsOwn m l s x
        → IsLeast length covered (λ way. WayOf p m l s way x) found
    least_own found e own = subst (IsLeast length covered (λ way. WayOf p m l s way x)) (sym e) (record {
      among = own_is_way m l s x own;
      least = λ way w c. some_step w;
    })

    pub least_on : (found : Option (List WayStep)) → (IsOwn m l s x → ⊥) → IsLeast length covered (GoesOn p m l s x) found
        → IsLeast length covered (λ way. WayOf p m l s way x) found
    least_on found none h =
        least_same length covered (GoesOn p m l s x) (λ way. WayOf p m l s way x) found (λ way g. on_is_way m l s x way g)
        (λ way w. elim (of_cases w) [ inl own ↦ absurd (none own) | inr g ↦ g ]) h

  -- ---- rules that lead into a block
  -- a way continues from the list inside by the rule
  led_on : (m k : Bool) (l : ℕ) (s : Code) (x : Access) (rule : Rule) (b : Codes) (inner : ℕ) → Goes p m s rule k b x.section inner
      → (way : List WayStep) → IsLed (step l rule x.section) (λ w. Way p k b w (at x inner)) way → GoesOn p m l s x way
  led_on m k l s x rule b inner g way led = record { rule = rule; inner = inner; by = record { kind = k; list = b; goes = g; led = led } }

  abbrev Led : (k : Bool) (l : ℕ) (rule : Rule) (b : Codes) (x : Access) → (inner : ℕ) → List WayStep → Type 0
  Led k l rule b x inner = IsLed (step l rule x.section) (λ way. Way p k b way (at x inner))

  -- the section has the same name around the block and inside it
  same_name : {k : Bool} {l : ℕ} {rule : Rule} {b : Codes} {x : Access} {way : List WayStep} (s : ℕ) → s ≡ x.section
      → Led k l rule b x s way → Led k l rule b x x.section way
  same_name {k} {l} {rule} {b} {x} {way} s e h = subst (λ (z : ℕ). Led k l rule b x z way) e h

  if_cases : {m k : Bool} {t : Truth} {b c d : Codes} {rule : Rule} {outer inner : ℕ} → Goes p m (If t b c) rule k d outer inner
      → (l : ℕ) (x : Access) (way : List WayStep) → outer ≡ x.section → Led k l rule d x inner way
      → Led m l Body b x x.section way ⊎ Led m l Other c x x.section way
  if_cases (Goes.body {s = s}) l x way e h = inl (same_name s e h)
  if_cases (Goes.other {s = s}) l x way e h = inr (same_name s e h)

  while_cases : {m k : Bool} {t : Truth} {b d : Codes} {rule : Rule} {outer inner : ℕ} → Goes p m (While t b) rule k d outer inner
      → (l : ℕ) (x : Access) (way : List WayStep) → outer ≡ x.section → Led k l rule d x inner way → Led m l Turn b x x.section way
  while_cases (Goes.turn {s = s}) l x way e h = same_name s e h

  async_cases : {m k : Bool} {b d : Codes} {rule : Rule} {outer inner : ℕ} → Goes p m (Async b) rule k d outer inner
      → (l : ℕ) (x : Access) (way : List WayStep) → outer ≡ x.section → Led k l rule d x inner way → Led false l Begin b x x.section way
  async_cases (Goes.begin {s = s}) l x way e h = same_name s e h

  finish_cases : {m k : Bool} {b d : Codes} {rule : Rule} {outer inner : ℕ} → Goes p m (Finish b) rule k d outer inner
      → (l : ℕ) (x : Access) (way : List WayStep) → outer ≡ x.section → Led k l rule d x inner way → (m ≡ false) × Led false l Await b x x.section way
  finish_cases (Goes.await {s = s}) l x way e h = (refl, same_name s e h)

  -- a way into a block after which nothing is left pending
  abbrev pub Awaited : (m : Bool) (l : ℕ) (b : Codes) (x : Access) → List WayStep → Type 0
  Awaited m l b x way = (m ≡ false) × Led m l Await b x x.section way

  awaited : (m : Bool) (l : ℕ) (b : Codes) (x : Access) (way : List WayStep) → m ≡ false → Led false l Await b x x.section way
      → Awaited m l b x way
  awaited true l b x way e led = absurd (true≢false e)
  awaited false l b x way e led = (e, led)

  rescue_cases : {m k : Bool} {n : ℕ} {b c d : Codes} {rule : Rule} {outer inner : ℕ} → Goes p m (Rescue b n c) rule k d outer inner
      → (l : ℕ) (x : Access) (way : List WayStep) → outer ≡ x.section → Led k l rule d x inner way
      → Awaited m l b x way ⊎ Led m l Handler c x x.section way
  rescue_cases (Goes.rescued {s = s}) l x way e h = inl (refl, same_name s e h)
  rescue_cases (Goes.handler {s = s}) l x way e h = inr (same_name s e h)

  -- inside a split a section has one of three names; the piece of a `parts` is both sides
  pub record BySide (rule : Rule) (m : Bool) (l : ℕ) (s i r : ℕ) (b : Codes) (x : Access) (inner : ℕ) (way : List WayStep) : Type 0 where
    pub names : past_split s i r inner ≡ x.section
    pub led : Led m l rule b x inner way

  record BySome (rule : Rule) (m : Bool) (l : ℕ) (s i r : ℕ) (b : Codes) (x : Access) (way : List WayStep) : Type 0 where
    inner : ℕ
    by : BySide rule m l s i r b x inner way

  split_cases : {m k : Bool} {s : ℕ} {a : Number} {i r : ℕ} {b d : Codes} {rule : Rule} {outer inner : ℕ} → Goes p m (Split s a i r b) rule k d outer inner
      → (l : ℕ) (x : Access) (way : List WayStep) → outer ≡ x.section → Led k l rule d x inner way → BySome Side m l s i r b x way
  split_cases (Goes.side {x = y}) l x way e h = record { inner = y; by = record { names = e; led = h } }

  parts_cases : {m k : Bool} {s : ℕ} {a : Number} {q i : ℕ} {b d : Codes} {rule : Rule} {outer inner : ℕ} → Goes p m (Parts s a q i b) rule k d outer inner
      → (l : ℕ) (x : Access) (way : List WayStep) → outer ≡ x.section → Led k l rule d x inner way → BySome Piece m l s q q b x way
  parts_cases (Goes.piece {x = y}) l x way e h = record { inner = y; by = record { names = e; led = h } }

  three_names : (s i r inner z : ℕ) → past_split s i r inner ≡ z → (inner ≡ i) ⊎ ((inner ≡ r) ⊎ (inner ≡ z))
  three_names s i r inner z e = elim (cases_eq i inner) [
    | inl is ↦ inl (sym is)
    | inr not_left ↦ elim (cases_eq r inner) [
      | inl is ↦ inr (inl (sym is))
      | inr not_right ↦ inr (inr (sym (past_split-other s i r inner not_left not_right) ∙ e))
    ]
  ]

  -- through a call, by a parameter
  record ByParameter (m : Bool) (l f : ℕ) (ss : List ℕ) (x : Access) (way : List WayStep) : Type 0 where
    parameter : ℕ
    passed : slice_get ss parameter ≡ Some x.section
    there : parameter < length (procedure_of p f).parameters
    led : Led m l (Enter (record { number = f })) (procedure_of p f).body x parameter way

  call_cases : {m k : Bool} {f : ℕ} {es : List Number} {ss : List ℕ} {d : Codes} {rule : Rule} {outer inner : ℕ} → Goes p m (Call f es ss) rule k d outer inner
      → (l : ℕ) (x : Access) (way : List WayStep) → outer ≡ x.section → Led k l rule d x inner way → ByParameter m l f ss x way
  call_cases (Goes.enter {k = k} there below) l x way e h =
      record { parameter = k; passed = there ∙ ap Some e; there = below; led = h }

  module _ (covered : ℕ → Type 0) (m : Bool) (l : ℕ) (x : Access) where
    pub least_if : (t : Truth) (b c : Codes) (one other found : Option (List WayStep)) → IsLesserOf length one other found
        → IsLeast length covered (Led m l Body b x x.section) one → IsLeast length covered (Led m l Other c x x.section) other
        → IsLeast length covered (GoesOn p m l (If t b c) x) found
    least_if t b c one other found lesser h k =
        least_either length covered (Led m l Body b x x.section) (Led m l Other c x x.section) (GoesOn p m l (If t b c) x) one other found lesser
        (λ way led. led_on m m l (If t b c) x Body b x.section Goes.body way led) (λ way led. led_on m m l (If t b c) x Other c x.section Goes.other way led)
        (λ way g. if_cases g.by.goes l x way refl g.by.led) h k

    pub least_while : (t : Truth) (b : Codes) (found : Option (List WayStep)) → IsLeast length covered (Led m l Turn b x x.section) found
        → IsLeast length covered (GoesOn p m l (While t b) x) found
    least_while t b found h =
        least_same length covered (Led m l Turn b x x.section) (GoesOn p m l (While t b) x) found
        (λ way led. led_on m m l (While t b) x Turn b x.section Goes.turn way led) (λ way g. while_cases g.by.goes l x way refl g.by.led) h

    pub least_async : (b : Codes) (found : Option (List WayStep)) → IsLeast length covered (Led false l Begin b x x.section) found
        → IsLeast length covered (GoesOn p m l (Async b) x) found
    least_async b found h =
        least_same length covered (Led false l Begin b x x.section) (GoesOn p m l (Async b) x) found
        (λ way led. led_on m false l (Async b) x Begin b x.section Goes.begin way led) (λ way g. async_cases g.by.goes l x way refl g.by.led) h

    pub least_unfinished : (b : Codes) → m ≡ true → IsLeast length covered (Awaited m l b x) None
    least_unfinished b e = least_none length covered (Awaited m l b x) (λ way i. true≢false (sym e ∙ i.0))

    pub least_awaited : (b : Codes) (found : Option (List WayStep)) → m ≡ false → IsLeast length covered (Led m l Await b x x.section) found
        → IsLeast length covered (Awaited m l b x) found
    least_awaited b found e h =
        least_same length covered (Led m l Await b x x.section) (Awaited m l b x) found (λ way led. (e, led)) (λ way i. i.1) h

    pub least_side : (rule : Rule) (s i r : ℕ) (b : Codes) (inner : ℕ) (found : Option (List WayStep)) → past_split s i r inner ≡ x.section
        → IsLeast length covered (Led m l rule b x inner) found → IsLeast length covered (BySide rule m l s i r b x inner) found
    least_side rule s i r b inner found names h =
        least_same length covered (Led m l rule b x inner) (BySide rule m l s i r b x inner) found
        (λ way led. record { names = names; led = led }) (λ way by. by.led) h

    pub least_no_side : (rule : Rule) (s i r : ℕ) (b : Codes) (inner : ℕ) (found : Option (List WayStep)) → found ≡ None
        → (past_split s i r inner ≡ x.section → ⊥) → IsLeast length covered (BySide rule m l s i r b x inner) found
    least_no_side rule s i r b inner found e none =
        subst (IsLeast length covered (BySide rule m l s i r b x inner)) (sym e)
        (least_none length covered (BySide rule m l s i r b x inner) (λ way by. none by.names))

    -- one of the names inside a split
    abbrev Side_by : (s i r : ℕ) (b : Codes) → (inner : ℕ) → List WayStep → Type 0
    Side_by s i r b inner = BySide Side m l s i r b x inner

    pub least_split : (s : ℕ) (a : Number) (i r : ℕ) (b : Codes) (left right itself two found : Option (List WayStep))
        → IsLesserOf length right itself two → IsLesserOf length left two found → IsLeast length covered (Side_by s i r b i) left
        → IsLeast length covered (Side_by s i r b r) right → IsLeast length covered (Side_by s i r b x.section) itself
        → IsLeast length covered (GoesOn p m l (Split s a i r b) x) found
    least_split s a i r b left right itself two found lesser least h k j =
        least_either length covered (Side_by s i r b i) Others (GoesOn p m l (Split s a i r b) x) left two found least
        (λ way by. on i way by) (λ way by. elim by [ inl y ↦ on r way y | inr y ↦ on x.section way y ])
        (λ way g. three way (split_cases g.by.goes l x way refl g.by.led)) h
        (least_either length covered (Side_by s i r b r) (Side_by s i r b x.section) Others right itself two lesser
        (λ way by. inl by) (λ way by. inr by) (λ way by. by) k j)
      where
        Others : List WayStep → Type 0
        Others way = Side_by s i r b r way ⊎ Side_by s i r b x.section way

        on : (inner : ℕ) (way : List WayStep) → Side_by s i r b inner way → GoesOn p m l (Split s a i r b) x way
        on inner way by =
            led_on m m l (Split s a i r b) x Side b inner
            (subst (λ (o : ℕ). Goes p m (Split s a i r b) Side m b o inner) by.names Goes.side) way by.led

        three : (way : List WayStep) → BySome Side m l s i r b x way → Side_by s i r b i way ⊎ Others way
        three way some = elim (three_names s i r some.inner x.section some.by.names) [
          | inl e ↦ inl (subst (λ (z : ℕ). Side_by s i r b z way) e some.by)
          | inr q ↦ elim q [
            | inl e ↦ inr (inl (subst (λ (z : ℕ). Side_by s i r b z way) e some.by))
            | inr e ↦ inr (inr (subst (λ (z : ℕ). Side_by s i r b z way) e some.by))
          ]
        ]

    -- one of the names inside a `parts`
    abbrev Piece_by : (s q : ℕ) (b : Codes) → (inner : ℕ) → List WayStep → Type 0
    Piece_by s q b inner = BySide Piece m l s q q b x inner

    pub least_parts : (s : ℕ) (a : Number) (q i : ℕ) (b : Codes) (piece itself found : Option (List WayStep))
        → IsLesserOf length piece itself found → IsLeast length covered (Piece_by s q b q) piece
        → IsLeast length covered (Piece_by s q b x.section) itself → IsLeast length covered (GoesOn p m l (Parts s a q i b) x) found
    least_parts s a q i b piece itself found lesser h k =
        least_either length covered (Piece_by s q b q) (Piece_by s q b x.section) (GoesOn p m l (Parts s a q i b) x) piece itself found lesser
        (λ way by. on q way by) (λ way by. on x.section way by) (λ way g. two way (parts_cases g.by.goes l x way refl g.by.led)) h k
      where
        on : (inner : ℕ) (way : List WayStep) → Piece_by s q b inner way → GoesOn p m l (Parts s a q i b) x way
        on inner way by =
            led_on m m l (Parts s a q i b) x Piece b inner
            (subst (λ (o : ℕ). Goes p m (Parts s a q i b) Piece m b o inner) by.names Goes.piece) way by.led

        two : (way : List WayStep) → BySome Piece m l s q q b x way → Piece_by s q b q way ⊎ Piece_by s q b x.section way
        two way some = elim (three_names s q q some.inner x.section some.by.names) [
          | inl e ↦ inl (subst (λ (z : ℕ). Piece_by s q b z way) e some.by)
          | inr o ↦ elim o [
            | inl e ↦ inl (subst (λ (z : ℕ). Piece_by s q b z way) e some.by)
            | inr e ↦ inr (subst (λ (z : ℕ). Piece_by s q b z way) e some.by)
          ]
        ]

  module _ (covered : ℕ → Type 0) (l : ℕ) (x : Access) where
    finish_on : (m : Bool) (b : Codes) (way : List WayStep) → Awaited m l b x way → GoesOn p m l (Finish b) x way
    finish_on true b way i = absurd (true≢false i.0)
    finish_on false b way i = led_on false false l (Finish b) x Await b x.section Goes.await way i.1

    pub least_finish : (m : Bool) (b : Codes) (found : Option (List WayStep)) → IsLeast length covered (Awaited m l b x) found
        → IsLeast length covered (GoesOn p m l (Finish b) x) found
    least_finish m b found h =
        least_same length covered (Awaited m l b x) (GoesOn p m l (Finish b) x) found (λ way i. finish_on m b way i)
        (λ way g. let f = finish_cases g.by.goes l x way refl g.by.led in awaited m l b x way f.0 f.1) h

    rescued_on : (m : Bool) (n : ℕ) (b c : Codes) (way : List WayStep) → Awaited m l b x way → GoesOn p m l (Rescue b n c) x way
    rescued_on true n b c way i = absurd (true≢false i.0)
    rescued_on false n b c way i = led_on false false l (Rescue b n c) x Await b x.section Goes.rescued way i.1

    pub least_rescue : (m : Bool) (n : ℕ) (b c : Codes) (one other found : Option (List WayStep)) → IsLesserOf length one other found
        → IsLeast length covered (Awaited m l b x) one → IsLeast length covered (Led m l Handler c x x.section) other
        → IsLeast length covered (GoesOn p m l (Rescue b n c) x) found
    least_rescue m n b c one other found lesser h k =
        least_either length covered (Awaited m l b x) (Led m l Handler c x x.section) (GoesOn p m l (Rescue b n c) x) one other found lesser
        (λ way i. rescued_on m n b c way i) (λ way led. led_on m m l (Rescue b n c) x Handler c x.section Goes.handler way led)
        (λ way g. rescue_cases g.by.goes l x way refl g.by.led) h k

  -- ---- calls
  module _ (m : Bool) (l : ℕ) (x : Access) (known : Known) (f : ℕ) (es : List Number) (ss : List ℕ) where
    abbrev first : WayStep
    first = step l (Enter (record { number = f })) x.section

    abbrev Past : List WayStep → Type 0
    Past = GoesIn known m f ss x.section first

    -- what is known is a way
    known_is : (k : ℕ) (way : List WayStep) → AreWays p x known → way_known known m f k ≡ Some way → IsFrom p m f (at x k) way
    known_is k way ways e = subst (λ (o : Option (List WayStep)). IfSome o (IsFrom p m f (at x k))) e (ways m f k)

    past_on : AreWays p x known → (way : List WayStep) → Past way → GoesOn p m l (Call f es ss) x way
    past_on ways way g =
        let from = known_is g.parameter g.led.behind ways g.led.leads in
        led_on m m l (Call f es ss) x (Enter (record { number = f })) (procedure_of p f).body g.parameter
        (Goes.enter g.passed from.parameter) way (record { behind = g.led.behind; is = g.led.is; leads = from.leads })

    -- the known way there, which has no more steps
    record IsKnown (k n : ℕ) : Type 0 where
      way : List WayStep
      is : way_known known m f k ≡ Some way
      fewer : length way ≤ n

    is_known : (k n : ℕ) → AtMost length (way_known known m f k) n → IsKnown k n
    is_known k n h = by (way_known known m f k) refl h
      where
        by : (o : Option (List WayStep)) → way_known known m f k ≡ o → AtMost length o n → IsKnown k n
        by None e h = elim h [ ]
        by (Some way) e h = record { way = way; is = e; fewer = h }

    pub least_call : AreWays p x known → (found : Option (List WayStep)) → IsLeast length all_covered Past found
        → IsLeast length (AreShortest p x known) (GoesOn p m l (Call f es ss) x) found
    least_call ways found h = record {
      among = some found h.among;
      least = λ way g close. shorter way (call_cases g.by.goes l x way refl g.by.led) close;
    }
      where
        some : (found : Option (List WayStep)) → IfSome found Past → IfSome found (GoesOn p m l (Call f es ss) x)
        some None h = h
        some (Some way) h = past_on ways way h

        shorter : (way : List WayStep) → ByParameter m l f ss x way → AreShortest p x known (length way) → AtMost length found (length way)
        shorter way by close =
            let e : length way ≡ suc (length by.led.behind) = ap length by.led.is in
            let k = is_known by.parameter (length by.led.behind)
            (close m f by.parameter by.led.behind (record { parameter = by.there; leads = by.led.leads }) (omega (arith, e))) in
            let fewer = k.fewer in
            at_most_more length found (length (first ∷ k.way)) (length way) (omega (arith, e, fewer))
            (h.least (first ∷ k.way) (record { parameter = by.parameter; passed = by.passed; led = record { behind = k.way; is = refl; leads = k.is } }) tt)

-- ---- what the search has available
pub stepped : (covered : ℕ → Type 0) (a b : WayStep) (those : List WayStep → Type 0) (found : Option (List WayStep)) → a ≡ b
    → IsLeast length covered (IsLed a those) found → IsLeast length covered (IsLed b those) found
stepped covered a b those found e h = subst (λ (s : WayStep). IsLeast length covered (IsLed s those) found) e h

pub at_code : (p : Program) (covered : ℕ → Type 0) (m : Bool) (l : ℕ) (x : Access) (k s : Code) (found : Option (List WayStep)) → k ≡ s
    → IsLeast length covered (GoesOn p m l s x) found → IsLeast length covered (GoesOn p m l k x) found
at_code p covered m l x k s found e h = subst (λ (z : Code). IsLeast length covered (GoesOn p m l z x) found) (sym e) h

-- a step in front of what is found after it
pub behind_led : (covered : ℕ → Type 0) (s : WayStep) (those : List WayStep → Type 0) (found led : Option (List WayStep))
    → led ≡ option_map (λ way. s ∷ way) found → ((n : ℕ) → covered (suc n) → covered n) → IsLeast length covered those found
    → IsLeast length covered (IsLed s those) led
behind_led covered s those found led e less h = least_led_at covered s those found led e less h

module _ (p : Program) (known : Known) (sought : Sought) where
  -- what is known are ways to what is sought inside a split
  pub inside_ways : (s i r : ℕ) (inner : SectionId) (aim : Option Sought)
      → MatchOption aim (past_split s i r inner.number ≡ sought.access.section.number → ⊥) (IsInside sought s i r inner)
      → AreWays p (access sought.access) known → IfSome aim (λ a. AreWays p (access a.access) known)
  inside_ways s i r inner None is ways = tt
  inside_ways s i r inner (Some a) is ways = subst (λ (y : rAccess). AreWays p (access y) known) (sym is.access) ways

  -- the known ways are ways to what is sought inside a finish, if anything is
  pub awaited_ways : (m : Bool) → AreWays p (access sought.access) known
      → IfSome (if m then None else Some sought) (λ a. AreWays p (access a.access) known)
  awaited_ways true ways = tt
  awaited_ways false ways = ways

  -- what is found inside a block after which nothing is left pending
  pub awaited_found : (l : ℕ) (b : Codes) (first : WayStep) (aim : Option Sought) (found : Option (List WayStep))
      → aim ≡ (if sought.pending then None else Some sought)
      → first ≡ step l Await sought.access.section.number
      → MatchOption aim (found ≡ None) (λ a. IsLeast length (AreShortest p (access a.access) known)
      (IsLed first (λ way. Way p a.pending b way (access a.access))) found)
      → IsLeast length (AreShortest p (access sought.access) known)
      (Awaited p sought.pending l b (access sought.access)) found
  awaited_found l b first aim found is at h =
      by sought.pending refl (subst (λ (o : Option Sought). MatchOption o (found ≡ None) Behind) is h)
    where
      Behind : Sought → Type 0
      Behind a = IsLeast length (AreShortest p (access a.access) known)
          (IsLed first (λ way. Way p a.pending b way (access a.access))) found

      by : (m : Bool) → sought.pending ≡ m
          → MatchOption (if m then None else Some sought) (found ≡ None) Behind
          → IsLeast length (AreShortest p (access sought.access) known)
          (Awaited p sought.pending l b (access sought.access)) found
      by true e none =
          subst (IsLeast length (AreShortest p (access sought.access) known)
          (Awaited p sought.pending l b (access sought.access))) (sym none)
          (least_unfinished p (AreShortest p (access sought.access) known) sought.pending l
          (access sought.access) b e)
      by false e h =
          least_awaited p (AreShortest p (access sought.access) known) sought.pending l (access sought.access)
          b found e (stepped (AreShortest p (access sought.access) known) _ _ _ _ at h)

  -- what is found by one of the names inside
  side_found : (rule : Rule) (l s i r : ℕ) (b : Codes) (inner : SectionId) (first : WayStep) (aim : Option Sought) (found : Option (List WayStep))
      → MatchOption aim (past_split s i r inner.number ≡ sought.access.section.number → ⊥) (IsInside sought s i r inner)
      → first ≡ step l rule sought.access.section.number
      → MatchOption aim (found ≡ None) (λ a. IsLeast length (AreShortest p (access a.access) known)
      (IsLed first (λ way. Way p a.pending b way (access a.access))) found)
      → IsLeast length (AreShortest p (access sought.access) known) (BySide p rule sought.pending l s i r b (access sought.access) inner.number) found
  side_found rule l s i r b inner first None found is e none =
      least_no_side p (AreShortest p (access sought.access) known) sought.pending l (access sought.access) rule s i r b inner.number found none is
  side_found rule l s i r b inner first (Some a) found is e h =
      least_side p (AreShortest p (access sought.access) known) sought.pending l (access sought.access) rule s i r b inner.number found is.names
      (stepped (AreShortest p (access sought.access) known) first (step l rule sought.access.section.number)
      (λ way. Way p sought.pending b way (record (access sought.access) { section = inner.number })) found e
      (subst (λ (m : Bool). IsLeast length (AreShortest p (access sought.access) known)
      (IsLed first (λ way. Way p m b way (record (access sought.access) { section = inner.number }))) found) is.pending
      (subst (λ (y : rAccess). IsLeast length (AreShortest p (access y) known) (IsLed first (λ way. Way p a.pending b way (access y))) found)
      is.access h)))

  -- the same fact, for the list of a split or a `parts`
  pub side_found_in : (rule : Rule) (l s i r : ℕ) (ys zs : List Stmt) (inner : SectionId) (first : WayStep) (aim : Option Sought) (found : Option (List WayStep)) → ys ≡ zs
      → MatchOption aim (past_split s i r inner.number ≡ sought.access.section.number → ⊥) (IsInside sought s i r inner)
      → first ≡ step l rule sought.access.section.number
      → MatchOption aim (found ≡ None) (λ a. IsLeast length (AreShortest p (access a.access) known)
      (IsLed first (λ way. Way p a.pending (codes ys) way (access a.access))) found)
      → IsLeast length (AreShortest p (access sought.access) known)
      (BySide p rule sought.pending l s i r (codes zs) (access sought.access) inner.number) found
  side_found_in rule l s i r ys zs inner first aim found e is at h =
      subst (λ (b : List Stmt). IsLeast length (AreShortest p (access sought.access) known)
      (BySide p rule sought.pending l s i r (codes b) (access sought.access) inner.number) found) e
      (side_found rule l s i r (codes ys) inner first aim found is at h)
