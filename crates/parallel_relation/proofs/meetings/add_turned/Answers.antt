use Rattle.std.proofs.Common.{◌≡◌, ◌++◌, ◌∙◌, List, OnOk, map, sym, ap, subst}
use Rattle.types.specs.Code.{Code, While, Parts}
use Rattle.types.specs.Translation.{code, codes, number, truth}
use Rattle.types.proofs.Blocks.{code_While, code_Parts}
use Rattle.effects.specs.Accesses.{Access, own_accesses}
use Rattle.effects.specs.Effects.{accesses}
use Rattle.effects.specs.Tables.{all_in, left_by, left_in}
use Rattle.effects.specs.Translation.{access}
use Rattle.effects.specs.declared.access.Access.{Access as rAccess}
use Rattle.parallel_relation.specs.Listing.{alls_of, pendings_of}
use Rattle.parallel_relation.specs.Meetings.{crossed, met_by_turns, turned}
use Rattle.parallel_relation.specs.Order.{Meeting, meeting_of}
use Rattle.parallel_relation.specs.Translation.{meeting}
use Rattle.parallel_relation.proofs.meetings.add_turned.Goals as goal

pub returns-in_ok-add_block-in-While : goal.returns-in_ok-add_block-in-While
returns-in_ok-add_block-in-While c =
    let lists = c.args.lists.now in
    let l = c.args.statement.now.label in
    let k = code c.args.statement.now.kind in
    let b = codes c.in-While.body.items in
    let loop = While (truth c.in-While.guard) b in
    let is : k ≡ loop = ap code c.in-While.is ∙ code_While c.in-While.guard c.in-While.body in
    let left = left_by accesses (alls_of lists) (pendings_of lists) in
    let turn : map access c.deref-in-While.result.now ≡ own_accesses l k ++ all_in accesses (alls_of lists) b =
    ap (map access) c.deref-in-While.ensures.value ∙ c.in_ok-add_block-in-While.ensures
    ∙ ap (λ (xs : List Access). xs ++ all_in accesses (alls_of lists) (codes c.deref.result.now))
    (c.in_ok-add_own-in-While.ensures ∙ ap (λ (xs : List rAccess). map access xs ++ own_accesses l k) c.new-turn.ensures.items)
    ∙ ap (λ d. own_accesses l k ++ all_in accesses (alls_of lists) (codes d)) c.deref.ensures.value in
    subst (λ (ms : List Meeting). OnOk c.add_crossed.result (map meeting c.add_crossed.new.into.items ≡ map meeting c.args.into.now.items ++ ms))
    (ap (λ (xs : List Access). map meeting_of (crossed xs (map access c.deref-in-While.result.now))) c.requires
    ∙ ap (λ (ys : List Access). map meeting_of (crossed (left k) ys)) turn
    ∙ ap (λ (j : Code). map meeting_of (crossed (left j) (own_accesses l j ++ all_in accesses (alls_of lists) b))) is
    ∙ sym (ap (λ (j : Code). map meeting_of (turned accesses (alls_of lists) (pendings_of lists) l j)) is))
    c.add_crossed.ensures

pub returns-in-Parts : goal.returns-in-Parts
returns-in-Parts c =
    let lists = c.args.lists.now in
    let l = c.args.statement.now.label in
    let k = code c.args.statement.now.kind in
    let x = c.in-Parts.pieces in
    let q = x.piece.number in
    let alls = alls_of lists in
    let pendings = pendings_of lists in
    let is : k ≡ Parts x.section.number (number x.size) q x.turn.number (codes c.in-Parts.body.items) =
    ap code c.in-Parts.is ∙ code_Parts x c.in-Parts.body in
    subst (λ (ms : List (Access × Access)).
    OnOk c.add_of_pieces.result (map meeting c.add_of_pieces.new.into.items ≡ map meeting c.args.into.now.items ++ map meeting_of ms))
    (ap (λ d. met_by_turns accesses q (left_in accesses alls pendings (codes d)) (all_in accesses alls (codes d))) c.deref-in-Parts.ensures.value
    ∙ sym (ap (λ (j : Code). turned accesses alls pendings l j) is))
    c.add_of_pieces.ensures
