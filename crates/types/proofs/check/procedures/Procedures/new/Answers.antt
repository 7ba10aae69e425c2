use Rattle.std.proofs.Common.{◌≡◌, ◌<◌, ◌+◌, [], ◌∷◌, ◌++◌, true, false, not, None, drop, length, map, sym, ap, ◌∙◌, subst, rules, append_assoc, if◌then◌else◌}
use Rattle.std.proofs.lemmas.List.{at_drop_more, map-append}
use Rattle.std.specs.Cmp.Lexicographic.{pointwise}
use Rattle.std.specs.List.{list_any}
use Rattle.std.specs.Prelude.{nat_eq}
use Rattle.std.specs.String.{string_bytes}
use Rattle.syntax_tree.specs.Tree as tree
use Rattle.types.specs.Rules.{name_errors}
use Rattle.types.specs.Told.{Told}
use Rattle.types.specs.declared.error.TypeError.TheVariants.{DeclaredTwice}
use Rattle.types.proofs.Calls.{declared_before, new_key}
use Rattle.types.proofs.Telling.{told_left, told_alone}
use Rattle.types.proofs.check.procedures.Procedures.new.Goals as goal

pub returns-then-not-added-clause-error : goal.returns-then-not-added-clause-error
returns-then-not-added-clause-error c =
    let xs = c.args.declared.now in
    let i = c.loop-procedure.procedure-index in
    let x = c.procedure-item.result in
    let left = map tree.procedure (drop (i + 1) xs) in
    let ks = c.loop-procedure.names.keys in
    let names = map string_bytes ks in
    let added = c.in_ok-added.added in
    let inside : i < length xs = search rules in
    let front : map tree.procedure (drop i xs) ≡ tree.procedure x ∷ left =
    at_drop_more (map tree.procedure) xs i x inside ∙ ap (λ y. tree.procedure y ∷ left) (sym c.procedure-item.is) in
    let old : not added ≡ true = search rules in
    let before : list_any (pointwise nat_eq (string_bytes x.name)) names ≡ true =
    declared_before x.name c.in_ok-name.name ks added c.in_ok-name.ensures.cases c.in_ok-added.ensures.added ∙ old in
    let told : Told (name_errors names (tree.procedure x ∷ left)) (DeclaredTwice None) =
    told_left _ (name_errors (names ++ string_bytes x.name ∷ []) left) (DeclaredTwice None)
    (subst (λ b. Told (if b then DeclaredTwice None ∷ [] else []) (DeclaredTwice None)) (sym before) (told_alone (DeclaredTwice None))) in
    subst (λ l. Told l (DeclaredTwice None)) (ap (name_errors names) (sym front) ∙ c.loop-procedure.invariant.right) told

pub loop-procedure-preserved : goal.loop-procedure-preserved
loop-procedure-preserved c =
    let xs = c.args.declared.now in
    let i = c.loop-procedure.procedure-index in
    let x = c.procedure-item.result in
    let left = map tree.procedure (drop (i + 1) xs) in
    let others = map (λ f. string_bytes f.name) (drop (i + 1) xs) in
    let ks = c.loop-procedure.names.keys in
    let k = c.in_ok-name.name in
    let names = map string_bytes ks in
    let added = c.in_ok-added.added in
    let inside : i < length xs = search rules in
    let front : map tree.procedure (drop i xs) ≡ tree.procedure x ∷ left =
    at_drop_more (map tree.procedure) xs i x inside ∙ ap (λ y. tree.procedure y ∷ left) (sym c.procedure-item.is) in
    let front_names : map (λ f. string_bytes f.name) (drop i xs) ≡ string_bytes x.name ∷ others =
    at_drop_more (map (λ f. string_bytes f.name)) xs i x inside ∙ ap (λ y. string_bytes y.name ∷ others) (sym c.procedure-item.is) in
    let new : added ≡ true = search rules in
    let before : list_any (pointwise nat_eq (string_bytes x.name)) names ≡ false =
    declared_before x.name k ks added c.in_ok-name.ensures.cases c.in_ok-added.ensures.added ∙ ap not new in
    let more : map string_bytes c.insert.new.self.keys ≡ names ++ string_bytes x.name ∷ [] =
    ap (map string_bytes) (c.in_ok-added.ensures.keys ∙ new_key k ks added c.in_ok-added.ensures.added new)
    ∙ map-append string_bytes ks (k ∷ []) ∙ ap (λ b. names ++ b ∷ []) c.in_ok-name.ensures.cases in
    record {
      named = ap (λ l. l ++ others) more ∙ append_assoc names (string_bytes x.name ∷ []) others
          ∙ ap (λ l. names ++ l) (sym front_names) ∙ c.loop-procedure.invariant.named;
      right = ap (λ l. name_errors l left) more
          ∙ sym (ap (λ b. (if b then DeclaredTwice None ∷ [] else []) ++ name_errors (names ++ string_bytes x.name ∷ []) left) before)
          ∙ ap (name_errors names) (sym front) ∙ c.loop-procedure.invariant.right;
    }
