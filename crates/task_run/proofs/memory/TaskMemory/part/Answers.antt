use Rattle.std.proofs.Common.{append-nil, ◌≡◌, ◌++◌, [], ◌∷◌, List, length, refl, ap, ◌∙◌, sym, subst, map, rules}
use Rattle.shared_lemmas.proofs.Results.{if_ok_then, ok_then}
use Rattle.std.specs.Prelude.{Result, Ok, Err, IfErr}
use Rattle.std.proofs.lemmas.List.{map-append}
use Rattle.std.specs.Prelude.{◌||◌}
use Rattle.sections.specs.Covers.{has}
use Rattle.sections.specs.Place.{Place}
use Rattle.sections.specs.declared.window.Window.{Window as rWindow}
use Rattle.sections.specs.Translation.{window}
use Rattle.holdings.specs.Errors.{RefusesPlaces}
use Rattle.holdings.specs.Held.{Held, Map, numbers, only, owned, AreApart}
use Rattle.holdings.specs.declared.error.HoldError.{HoldError}
use Rattle.holdings.specs.declared.error.HoldError.TheVariants.{NotHeld, OutOfMemory, OwnedTwice}
use Rattle.holdings.specs.Holdings.{held}
use Rattle.task_run.specs.Places.{Places}
use Rattle.task_run.proofs.HeldPlaces.{has-append, owns, all_owned, all_there, child_contents}
use Rattle.task_run.proofs.HeldPlaces.{child_owned, left_contents, left_owned, copies_apart, pasted, taken_contents, taken_owned}
use Rattle.task_run.proofs.memory.TaskMemory.part.Goals as goal

-- if nothing is read, what is written is all
all_written : (ws rs : List rWindow) → length rs ≡ 0 → ws ≡ ws ++ rs
all_written ws [] none = sym (append-nil ws)
all_written ws (r ∷ rs) none = absurd (cc)

-- if the places are there, only memory is the reason
no_memory : (P : Type 0) (e : HoldError) → P → RefusesPlaces e P → e ≡ OutOfMemory
no_memory P NotHeld there lacks = absurd (lacks there)
no_memory P OutOfMemory there r = refl
no_memory P OwnedTwice there r = absurd r

-- what follows from a property of the error
if_refused : {T E : Type 0} {P Q : E → Type 0} (r : Result T E) → IfErr r P → ((e : E) → P e → Q e) → IfErr r Q
if_refused (Ok x) p f = tt
if_refused (Err e) p f = f e p

pub returns-then-is_empty-clause-contents : goal.returns-then-is_empty-clause-contents
returns-then-is_empty-clause-contents c =
    let m = held c.args.self.now.holdings in
    let ws = map window c.args.writes.now in
    let none : length c.args.reads.now ≡ 0 = search rules in
    if_ok_then c.carve.result c.carve.ensures.taken (λ h e. ap numbers e ∙ taken_contents (has ws) m c.requires.owned
    ∙ ap (λ (vs : List rWindow). only (has (map window vs)) (numbers m)) (all_written c.args.writes.now c.args.reads.now none))

pub returns-then-is_empty-clause-owned : goal.returns-then-is_empty-clause-owned
returns-then-is_empty-clause-owned c =
    let m = held c.args.self.now.holdings in
    let ws = map window c.args.writes.now in
    if_ok_then c.carve.result c.carve.ensures.taken (λ h e. ap owns e ∙ taken_owned (has ws) m c.requires.owned)

pub returns-then-is_empty-clause-left : goal.returns-then-is_empty-clause-left
returns-then-is_empty-clause-left c =
    let m = held c.args.self.now.holdings in let ws = map window c.args.writes.now in
    ok_then c.carve.result c.carve.ensures.left (λ e. ap numbers e ∙ left_contents (has ws) (has ws) m c.requires.owned)

pub returns-then-is_empty-clause-keeps : goal.returns-then-is_empty-clause-keeps
returns-then-is_empty-clause-keeps c =
    let m = held c.args.self.now.holdings in let ws = map window c.args.writes.now in
    ok_then c.carve.result c.carve.ensures.left (λ e. ap owns e ∙ left_owned (has ws) (has ws) m c.requires.owned)

pub returns-then-is_empty-clause-refused : goal.returns-then-is_empty-clause-refused
returns-then-is_empty-clause-refused c =
    let m = held c.args.self.now.holdings in let ws = map window c.args.writes.now in
    if_refused c.carve.result c.carve.ensures.refused (λ e r. no_memory _ e (all_owned (has ws) m c.requires.owned) r)

pub returns-in_err-child-clause-refused : goal.returns-in_err-child-clause-refused
returns-in_err-child-clause-refused c =
    let m = held c.args.self.now.holdings in
    let rs = map window c.args.reads.now in
    let there = all_there (has rs) m c.requires.there in
    search rules

pub returns-in_err-own-clause-refused : goal.returns-in_err-own-clause-refused
returns-in_err-own-clause-refused c =
    let m = held c.args.self.now.holdings in
    let ws = map window c.args.writes.now in
    let there = all_owned (has ws) m c.requires.owned in
    search rules

pub returns-in-Ok-clause-contents : goal.returns-in-Ok-clause-contents
returns-in-Ok-clause-contents c =
    let m = held c.args.self.now.holdings in
    let ws = map window c.args.writes.now in let rs = map window c.args.reads.now in
    let together : (λ (q : Place). has ws q || has rs q) ≡ has (map window (c.args.writes.now ++ c.args.reads.now))
    = (λ t q. sym (has-append ws rs q) t) ∙ ap has (sym (map-append window c.args.writes.now c.args.reads.now)) in
    ap numbers (pasted ws rs m (held c.in_ok-child.child) (held c.in_ok-own.own) _ c.in-Ok.ensures.pasted
    c.in_ok-own.ensures.taken c.in_ok-child.ensures.shared)
    ∙ child_contents (has ws) (has rs) m c.requires.owned
    ∙ ap (λ (s : Places). only s (numbers m)) together

pub returns-in-Ok-clause-owned : goal.returns-in-Ok-clause-owned
returns-in-Ok-clause-owned c =
    let m = held c.args.self.now.holdings in
    let ws = map window c.args.writes.now in let rs = map window c.args.reads.now in
    ap owns (pasted ws rs m (held c.in_ok-child.child) (held c.in_ok-own.own) _ c.in-Ok.ensures.pasted
    c.in_ok-own.ensures.taken c.in_ok-child.ensures.shared)
    ∙ child_owned (has ws) (has rs) m c.requires.owned

pub returns-in-Ok-clause-left : goal.returns-in-Ok-clause-left
returns-in-Ok-clause-left c =
    let m = held c.args.self.now.holdings in let ws = map window c.args.writes.now in
    ap numbers c.in_ok-own.ensures.left
    ∙ left_contents (has ws) (has ws) m c.requires.owned

pub returns-in-Ok-clause-keeps : goal.returns-in-Ok-clause-keeps
returns-in-Ok-clause-keeps c =
    let m = held c.args.self.now.holdings in let ws = map window c.args.writes.now in
    ap owns c.in_ok-own.ensures.left
    ∙ left_owned (has ws) (has ws) m c.requires.owned

pub returns-in-Err-clause-refused : goal.returns-in-Err-clause-refused
returns-in-Err-clause-refused c =
    let m = held c.args.self.now.holdings in
    let apart : AreApart (owned (held c.in_ok-own.own)) (owned (held c.in_ok-child.child))
    = subst (λ (o : Map Held). AreApart (owned (held c.in_ok-own.own)) (owned o)) (sym c.in_ok-child.ensures.shared)
    (copies_apart (has (map window c.args.reads.now)) m (owned (held c.in_ok-own.own))) in
    search rules
