use Rattle.std.proofs.Common.{List, map, ◌∷◌, subst, sym}
use Rattle.effects.specs.Firsts.{AreFirstsIn}
use Rattle.effects.specs.Translation.{access}
use Rattle.effects.specs.declared.access.Access.{Access}
use Rattle.effects.proofs.FirstLabels.{lowered_by, put_behind}
use Rattle.effects.proofs.firsts.Firsts.add.Goals as goal

pub returns-in_ok-push-in-None : goal.returns-in_ok-push-in-None
returns-in_ok-push-in-None c =
    let kept = c.args.self.now.items.items in
    subst (λ (xs : List Access). AreFirstsIn (access c.args.access ∷ map access kept) (map access xs))
    (sym c.in_ok-push-in-None.ensures.items) (put_behind c.args.access kept)

pub returns-in-Some : goal.returns-in-Some
returns-in-Some c =
    lowered_by c.args.access _ _ c.args.self.now.items.items c.in-Some.place c.min-item.result c.in-Some.ensures
    c.index_mut-item.ensures.value c.min-item.ensures
