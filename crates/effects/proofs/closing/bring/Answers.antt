use Rattle.std.proofs.Common.{◌≡◌, ℕ, refl, rules}
use Rattle.std.specs.Prelude.{Bool, false, true}
use Rattle.std.proofs.lemmas.Result.{IfOk-weaker, on_ok_weaker}
use Rattle.effects.specs.Closing.{HasIn, Brings}
use Rattle.effects.specs.LabelSets.{HasLabel, HasNew}
use Rattle.effects.specs.SummaryRows.{HasRow}
use Rattle.effects.proofs.ClosingLemmas.{brought, got, has_some}
use Rattle.effects.proofs.closing.bring.Goals as goal

pub returns-in-Some-get_mut : goal.returns-in-Some-get_mut
returns-in-Some-get_mut c =
    let table = c.args.table.now.items in
    let x = c.args.flow in
    let from = c.in-Some.ensures.lookup in
    let to = c.in-Some-get_mut.ensures.item in
    let labels = c.in_ok-labels-in-Some.labels in
    let callee = got _ table x.callee.number c.in-Some.callee.now c.deref.ensures.value from.3.0 from.1 in
    let caller = got table table x.caller.number c.in-Some-get_mut.caller.now refl to.3.0 to.1 in
    record {
      number = search rules;
      both =
          on_ok_weaker c.unite.result
          (brought table x c.in-Some.callee.now c.in-Some-get_mut.caller.now c.unite.new.self labels callee caller to.3.0
          c.in_ok-labels-in-Some.ensures)
          c.unite.ensures.both;
      grown =
          IfOk-weaker c.unite.result (λ (g : Bool). g ≡ false → (l : ℕ) → HasLabel labels l → HasRow c.in-Some-get_mut.caller.now x.to l)
          (λ (g : Bool). g ≡ false → (l : ℕ) → Brings x table x.caller.number x.to l → HasIn table x.caller.number x.to l)
          (λ g h none l b. (has_some _ c.in-Some-get_mut.caller.now x.to l caller).0
          (h none l ((c.in_ok-labels-in-Some.ensures l).1 ((has_some _ c.in-Some.callee.now x.from l callee).1 b.label))))
          c.unite.ensures.grown;
      new =
          IfOk-weaker c.unite.result (λ (g : Bool). g ≡ true → HasNew (HasRow c.in-Some-get_mut.caller.now x.to) (HasLabel labels))
          (λ (g : Bool). g ≡ true → HasNew (HasIn table x.caller.number x.to) (Brings x table x.caller.number x.to))
          (λ g h new. let r = h new in record {
            label = r.label;
            among = record {
              there = to.3.0;
              caller = refl;
              to = refl;
              label = (has_some _ c.in-Some.callee.now x.from r.label callee).0 ((c.in_ok-labels-in-Some.ensures r.label).0 r.among);
            };
            missing = λ k. r.missing ((has_some _ c.in-Some-get_mut.caller.now x.to r.label caller).1 k);
          })
          c.unite.ensures.new;
    }
