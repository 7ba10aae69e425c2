use Rattle.std.proofs.Common.{◌≡◌, List, [], ◌∷◌, ◌++◌, ◌+◌, map, drop, ap, ◌∙◌, sym, Vec, Global}
use Rattle.std.proofs.lemmas.List.{map-append, drop_more, drop_all}
use Rattle.sections.specs.Place.{Window}
use Rattle.sections.specs.Translation.{window}
use Rattle.sections.specs.declared.window.Window.{Window as rWindow}
use Rattle.sections.proofs.Covering.{joined_from, turn_met, turn_unmet, joined_covers, Covers}
use Rattle.sections.proofs.cover.join.Goals as goal
use Rattle.sections.proofs.cover.join.Goals.{then-meets, else-meets+in_ok-push}

pub loop-window-preserved : goal.loop-window-preserved
loop-window-preserved c =
    let done = c.loop-window.cover.items in
    let ws : List Window = map window (drop (c.loop-window.window-index + 1) c.args.rest.now) in
    let whole : List Window = joined_from (window c.args.first) (map window c.args.rest.now) in
    let next : map window (drop c.loop-window.window-index c.args.rest.now) ≡ window c.window-item.result ∷ ws =
    ap (map window) (drop_more c.args.rest.now c.loop-window.window-index c.window-item.result c.loop-window-test.true)
    ∙ ap (λ (x : rWindow). window x ∷ ws) (sym c.window-item.is)
    in
    let now : map window done ++ joined_from (window c.loop-window.last) (window c.window-item.result ∷ ws) ≡ whole =
    ap (λ ws. map window done ++ joined_from (window c.loop-window.last) ws) (sym next) ∙ c.loop-window.invariant
    in
    elim c.if-meets.branch [
      | then-meets w ↦
          ap (λ (v : Vec rWindow Global). map window v.items ++ joined_from (window c.if-meets.last) ws) w.cover-is
          ∙ ap (λ (l : rWindow). map window done ++ joined_from (window l) ws) w.last-is
          ∙ turn_met (map window done) (window c.loop-window.last) (window c.window-item.result)
          (window w.joined-last.result) ws whole w.joined-last.ensures (sym c.meets.ensures ∙ w.if-meets.true) now
      | else-meets+in_ok-push w ↦
          ap (λ (v : Vec rWindow Global). map window v.items ++ joined_from (window c.if-meets.last) ws) w.cover-is
          ∙ ap (λ (l : rWindow). map window w.push.new.self.items ++ joined_from (window l) ws) w.last-is
          ∙ ap (λ items. map window items ++ joined_from (window c.window-item.result) ws) w.in_ok-push.ensures.items
          ∙ ap (λ items. items ++ joined_from (window c.window-item.result) ws)
          (map-append window done (c.loop-window.last ∷ []))
          ∙ turn_unmet (map window done) (window c.loop-window.last) (window c.window-item.result) ws whole
          (sym c.meets.ensures ∙ w.if-meets.false) now
    ]

whole : (c : goal.In_ok-push-2)
    → map window c.push-2.new.self.items ≡ joined_from (window c.args.first) (map window c.args.rest.now)
whole c = ap (map window) c.in_ok-push-2.ensures.items
    ∙ map-append window c.loop-window.cover.items (c.loop-window.last ∷ [])
    ∙ ap (λ xs. map window c.loop-window.cover.items ++ joined_from (window c.loop-window.last) (map window xs))
    (sym (drop_all c.loop-window.window-index c.args.rest.now c.loop-window-test.false))
    ∙ c.loop-window.invariant

covers : (c : goal.In_ok-push-2) → Covers (map window (c.args.first ∷ c.args.rest.now)) (map window c.push-2.new.self.items)
covers c = joined_covers (window c.args.first) (map window c.args.rest.now) (map window c.push-2.new.self.items) c.requires (whole c)

pub returns-clause-places : goal.returns-clause-places
returns-clause-places c = (covers c).places

pub returns-clause-form : goal.returns-clause-form
returns-clause-form c = (covers c).form
