-- Results that are opened one after the other, and the error if this ends too early.
use Rattle.std.proofs.Common.{◌≡◌, ℕ, ◌+◌, ◌<◌, List, [], ◌∷◌, ◌++◌, map, Option, Some, None, refl, sym, ap, ◌∙◌, subst, arith}
use Rattle.std.proofs.Common.{append_assoc}
use Rattle.std.proofs.lemmas.Option.{none-some}
use Rattle.std.proofs.lemmas.List.{append-nil}
use Rattle.std.proofs.Math.Bool.{or_assoc, or-false}
use Rattle.std.specs.Prelude.{Bool, true, false, ◌||◌, nat_eq, if◌then◌else◌}
use Rattle.std.specs.Cmp.Lexicographic.{pointwise}
use Rattle.std.specs.List.{list_any}
use Rattle.shared_lemmas.proofs.Truths.{false_true}
use Rattle.sections.specs.Covers.{has}
use Rattle.sections.specs.Place.{Place}
use Rattle.types.specs.declared.path.Path.{Path}
use Rattle.task_run.specs.Places.{Places, meets}
use Rattle.task_run.specs.Results.{Listed, TaskResult, Settled, returned}
use Rattle.task_run.specs.Settling.{behind, take}
use Rattle.task_run.specs.Lists.{Each, Inserted, here, later}
use Rattle.task_run.proofs.Lists.{each_more, each_last}
use Rattle.task_run.proofs.SettledResults.{taken}
use Rattle.task_run.proofs.CompleteResults.{path_same}
use Rattle.gather.proofs.Wholes.{each_end}
use Rattle.types.specs.Translation.{is_path}
use Rattle.gather.specs.Parts.{Part, Waiting, opened as opened_of, filled, unopened, comes_back_twice}
use Rattle.gather.specs.Reached.{IsPartOf, IsReached, outstanding}
use Rattle.gather.specs.Refusal.{times, paths_of, listed, listed_by, IsDue, begun, further, IsLost, IsLeftOver, ComesBackTwice}
use Rattle.gather.specs.Refusal.{IsStranger, HasOneMore}

-- ---- number of occurrences
pub times-append : (p : List ℕ) (xs ys : List (List ℕ)) → times p (xs ++ ys) ≡ times p xs + times p ys
times-append p [] ys = omega arith
times-append p (x ∷ xs) ys =
    let h = times-append p xs ys in
    omega (arith, h)

times-here : (p : List ℕ) (ps : List (List ℕ)) → 0 < times p (p ∷ ps)
times-here p ps =
    subst (λ (b : Bool). 0 < (if b then 1 else 0) + times p ps) (sym (path_same p)) (omega arith)

-- a path that isn't taken doesn't occur
none_of : (path : List ℕ) (rs : List TaskResult) → take path rs ≡ None → times path (paths_of rs) ≡ 0
none_of path [] e = refl
none_of path (r ∷ rs) e = by_path (none_of path rs) (pointwise nat_eq r.path path) e
  where
    later_none : (o : Option (TaskResult × List TaskResult)) → behind r o ≡ None → o ≡ None
    later_none None q = refl
    later_none (Some x) q = absurd (none-some _ (sym q))

    by_path : (take path rs ≡ None → times path (paths_of rs) ≡ 0) → (b : Bool)
        → (if b then Some (r, rs) else behind r (take path rs)) ≡ None → (if b then 1 else 0) + times path (paths_of rs) ≡ 0
    by_path rec true q = absurd (none-some _ (sym q))
    by_path rec false q = let h = rec (later_none (take path rs) q) in omega (arith, h)

-- whether a path is among these paths
pub among_times : (path : Path) (paths : List Path) → list_any (λ p. is_path p path) paths ≡ true
    → 0 < times path.turns.items (map (λ p. p.turns.items) paths)
among_times path [] e = absurd (false_true e)
among_times path (p ∷ ps) e = by_path (among_times path ps) (is_path p path) e
  where
    by_path : (list_any (λ p. is_path p path) ps ≡ true → 0 < times path.turns.items (map (λ p. p.turns.items) ps)) → (b : Bool)
        → (b || list_any (λ p. is_path p path) ps) ≡ true → 0 < (if b then 1 else 0) + times path.turns.items (map (λ p. p.turns.items) ps)
    by_path rec true q = omega arith
    by_path rec false q = let h = rec q in omega (arith, h)

pub not_among : (path : Path) (paths : List Path) → list_any (λ p. is_path p path) paths ≡ false
    → times path.turns.items (map (λ p. p.turns.items) paths) ≡ 0
not_among path [] e = refl
not_among path (p ∷ ps) e = by_path (not_among path ps) (is_path p path) e
  where
    by_path : (list_any (λ p. is_path p path) ps ≡ false → times path.turns.items (map (λ p. p.turns.items) ps) ≡ 0) → (b : Bool)
        → (b || list_any (λ p. is_path p path) ps) ≡ false → (if b then 1 else 0) + times path.turns.items (map (λ p. p.turns.items) ps) ≡ 0
    by_path rec true q = absurd (false_true (sym q))
    by_path rec false q = let h = rec q in omega (arith, h)

-- ---- listed paths that aren't opened
outstanding-hole : (p : List ℕ) (ws : List Waiting) (w : Waiting)
    → times p (outstanding ws (unopened w)) ≡ times p (w.hole.path ∷ []) + times p (outstanding ws w.part)
outstanding-hole p [] w = omega arith
outstanding-hole p (v ∷ ws) w =
    let h = outstanding-hole p ws w in
    let a = times-append p (listed v.part.holes) (outstanding ws (unopened w)) in
    let b = times-append p (listed v.part.holes) (outstanding ws w.part) in
    omega (arith, h, a, b)

outstanding-push : (p : List ℕ) (ws : List Waiting) (w : Waiting) (f : Part)
    → times p (outstanding (ws ++ w ∷ []) f) ≡ times p (outstanding ws w.part) + times p (listed f.holes)
outstanding-push p [] w f = times-append p (listed w.part.holes) (listed f.holes)
outstanding-push p (v ∷ ws) w f =
    let h = outstanding-push p ws w f in
    let a = times-append p (listed v.part.holes) (outstanding (ws ++ w ∷ []) f) in
    let b = times-append p (listed v.part.holes) (outstanding ws w.part) in
    omega (arith, h, a, b)

outstanding-same : (ws : List Waiting) (f g : Part) → f.holes ≡ g.holes → outstanding ws f ≡ outstanding ws g
outstanding-same [] f g e = ap listed e
outstanding-same (v ∷ ws) f g e = ap (λ l. listed v.part.holes ++ l) (outstanding-same ws f g e)

each_unit : (xs : List TaskResult) → Each (λ y. Unit {0}) xs
each_unit [] = tt
each_unit (y ∷ ys) = (tt, each_unit ys)

-- ---- parts of results
record More (y r x : TaskResult) (rs : List TaskResult) : Type 0 where
  others : List TaskResult
  among : Inserted y others (r ∷ x ∷ rs)

more_among : (y r x : TaskResult) (others rs : List TaskResult) → Inserted y others (r ∷ rs) → More y r x rs
more_among y r x others rs here = record { others = x ∷ rs; among = here }
more_among y r x others rs (later {ys = ys} i) = record { others = r ∷ x ∷ ys; among = later (later i) }

more_results : (x r : TaskResult) (rs : List TaskResult) (f : Part) → IsPartOf (r ∷ rs) f → IsPartOf (r ∷ x ∷ rs) f
more_results x r rs f h =
    let m = more_among h.whole r x h.others rs h.among in
    record {
      whole = h.whole;
      others = m.others;
      among = m.among;
      before = h.before;
      lists = h.lists;
      owned = h.owned;
    }

opened_part : (r x : TaskResult) (rs : List TaskResult) → IsPartOf (r ∷ x ∷ rs) (opened_of x)
opened_part r x rs = record {
  whole = x;
  others = r ∷ rs;
  among = later here;
  before = [];
  lists = refl;
  owned = λ q. sym (or-false (x.owned q));
}

returned-last : (cs : List Listed) (c : Listed) (q : Place) → returned (cs ++ c ∷ []) q ≡ (returned cs q || has c.windows q)
returned-last [] c q = or-false (has c.windows q)
returned-last (d ∷ cs) c q =
    ap (λ b. has d.windows q || b) (returned-last cs c q)
    ∙ sym (or_assoc (has d.windows q) (returned cs q) (has c.windows q))

filled_part : (rs : List TaskResult) (w : Waiting) (child : Settled) → IsPartOf rs (unopened w) → IsPartOf rs (filled w child)
filled_part rs w child h = record {
  whole = h.whole;
  others = h.others;
  among = h.among;
  before = h.before ++ w.hole ∷ [];
  lists = h.lists ∙ sym (append_assoc h.before (w.hole ∷ []) w.part.holes);
  owned = λ q.
      ap (λ b. b || has w.hole.windows q) (h.owned q)
      ∙ or_assoc (h.whole.owned q) (returned h.before q) (has w.hole.windows q)
      ∙ ap (λ b. h.whole.owned q || b) (sym (returned-last h.before w.hole q));
}

module _ (start : TaskResult) (rs : List TaskResult) where
  -- ---- at the start
  pub reached-first : IsReached start rs [] (record { left = rs; waiting = []; part = opened_of start })
  reached-first = record {
    opened = [];
    opening = begun;
    counted = λ p. refl;
    listed = λ p. let h = ap (times p) (append-nil (listed start.children)) in omega (arith, h);
    part = record {
      whole = start;
      others = [];
      among = here;
      before = [];
      lists = refl;
      owned = λ q. sym (or-false (start.owned q));
    };
    waiting = tt;
  }

  module _ (used : List (List ℕ)) (left : List TaskResult) (ws : List Waiting) where
    -- ---- the next hole is due
    module _ (w : Waiting) (h : IsReached start rs used (record { left = left; waiting = ws; part = unopened w })) where
      next_is_due : IsDue start h.opened w.hole.path
      next_is_due =
          let a = h.listed w.hole.path in
          let b = outstanding-hole w.hole.path ws w in
          let c = times-here w.hole.path [] in
          omega (arith, a, b, c)

      -- its result is missing
      pub lost : take w.hole.path left ≡ None → IsLost start rs w.hole.path
      lost e = record {
        opened = h.opened;
        left = left;
        opening = h.opening;
        due = next_is_due;
        none = none_of w.hole.path left e;
      }

      -- it is there
      path_is : (x : TaskResult) (rest : List TaskResult) → take w.hole.path left ≡ Some (x, rest) → x.path ≡ w.hole.path
      path_is x rest e = (taken (λ y. Unit {0}) w.hole.path left (x, rest) (each_unit left) e).at

      pub reached-opened : (x : TaskResult) (rest : List TaskResult) → take w.hole.path left ≡ Some (x, rest)
          → (more : List (List ℕ)) → more ≡ used ++ x.path ∷ []
          → IsReached start rs more (record { left = rest; waiting = ws ++ w ∷ []; part = opened_of x })
      reached-opened x rest e more pushed = record {
        opened = x ∷ h.opened;
        opening =
            further left h.opening (subst (IsDue start h.opened) (sym (path_is x rest e)) next_is_due)
            (ap (λ p. take p left) (path_is x rest e) ∙ e);
        counted = λ p.
            let a = h.counted p in
            let b = ap (times p) pushed in
            let c = times-append p used (x.path ∷ []) in
            omega (arith, a, b, c);
        listed = λ p.
            let a = h.listed p in
            let b = outstanding-hole p ws w in
            let c = outstanding-push p ws w (opened_of x) in
            let d = times-append p (listed start.children) (listed_by h.opened) in
            let f = times-append p (listed start.children) (listed x.children ++ listed_by h.opened) in
            let g = times-append p (listed x.children) (listed_by h.opened) in
            let same = ap (λ path. times p (path ∷ [])) (path_is x rest e) in
            omega (arith, a, b, c, d, f, g, same);
        part = opened_part start x h.opened;
        waiting = each_last _ ws w (each_more _ _ ws (λ v k. more_results x start h.opened (unopened v) k) h.waiting)
            (more_results x start h.opened (unopened w) h.part);
      }

    -- ---- a hole is filled
    module _ (w : Waiting) (f : Part) (full : f.holes ≡ [])
        (h : IsReached start rs used (record { left = left; waiting = ws ++ w ∷ []; part = f })) where
      pub reached-filled : (child : Settled) → IsReached start rs used (record { left = left; waiting = ws; part = filled w child })
      reached-filled child = record {
        opened = h.opened;
        opening = h.opening;
        counted = h.counted;
        listed = λ p.
            let a = h.listed p in
            let b = outstanding-push p ws w f in
            let c = ap (λ hs. times p (listed hs)) full in
            let d = ap (times p) (outstanding-same ws (filled w child) w.part refl) in
            omega (arith, a, b, c, d);
        part = filled_part (start ∷ h.opened) w child (each_end _ ws w h.waiting).1;
        waiting = (each_end _ ws w h.waiting).0;
      }

      -- a place comes back that is already owned
      pub back_twice : comes_back_twice w ≡ true → ComesBackTwice start rs w.hole.path
      back_twice e =
          let k = (each_end _ ws w h.waiting).1 in
          let owned : w.part.owned ≡ (λ q. k.whole.owned q || returned k.before q) = λ t q. k.owned q t in
          record {
            opened = h.opened;
            left = left;
            opening = h.opening;
            parent = k.whole;
            others = k.others;
            among = k.among;
            before = k.before;
            child = w.hole;
            behind = w.part.holes;
            lists = k.lists;
            of_path = refl;
            twice = ap (λ (set : Places). meets set w.hole.windows) (sym owned) ∙ e;
          }

    -- ---- no result waits any more
    module _ (f : Part) (full : f.holes ≡ []) (none : ws ≡ [])
        (h : IsReached start rs used (record { left = left; waiting = ws; part = f })) where
      all_opened : (p : List ℕ) → times p (paths_of h.opened) ≡ times p (listed_by (start ∷ h.opened))
      all_opened p =
          let a = h.listed p in
          let b = ap (λ (vs : List Waiting). times p (outstanding vs f)) none in
          let c = ap (λ hs. times p (listed hs)) full in
          omega (arith, a, b, c)

      abbrev is_left : (x : TaskResult) (rest : List TaskResult) → left ≡ x ∷ rest → IsLeftOver start rs x.path
      is_left x rest e = record {
        opened = h.opened;
        left = left;
        opening = h.opening;
        all = all_opened;
        over = subst (λ (l : List TaskResult). 0 < times x.path (paths_of l)) (sym e) (times-here x.path (paths_of rest));
      }

      pub stranger : (x : TaskResult) (rest : List TaskResult) → left ≡ x ∷ rest → times x.path used ≡ 0 → IsStranger start rs x.path
      stranger x rest e k = record {
        is = is_left x rest e;
        unlisted = omega (arith, all_opened x.path, h.counted x.path, k);
      }

      pub one_more : (x : TaskResult) (rest : List TaskResult) → left ≡ x ∷ rest → 0 < times x.path used → HasOneMore start rs x.path
      one_more x rest e k = record {
        is = is_left x rest e;
        listed = omega (arith, all_opened x.path, h.counted x.path, k);
      }
