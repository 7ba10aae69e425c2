-- Over tables that are the least solution, the test for clashes is exact.
use Rattle.std.proofs.lemmas.Bool.{and_from, and_parts}
use Rattle.std.proofs.Common.{◌≡◌, refl, sym, ◌∙◌, true≢false}
use Rattle.std.specs.Prelude.{Bool, true, false, ◌||◌, ◌↔◌}
use Rattle.sections.specs.Overlap.{overlap}
use Rattle.sections.proofs.Members.{any_member, member_any}
use Rattle.types.specs.Code.{Procedure, Program}
use Rattle.effects.specs.Effects.{accesses}
use Rattle.effects.specs.Tables.{Table, IsDerived, IsDerivedPending, IsStable, IsStablePending}
use Rattle.parallel_relation.specs.Meetings.{met_in}
use Rattle.parallel_relation.proofs.MeetingsExact.{meetings_exact}
use Rattle.race_checker.specs.Clash.{HasNoClash}
use Rattle.race_checker.specs.Acceptance.{is_clash, has_clash}

module _ (p : Program) (alls pendings : Table accesses)
    (alls_derived : IsDerived p accesses alls) (alls_stable : IsStable p accesses alls)
    (pendings_derived : IsDerivedPending p accesses pendings)
    (pendings_stable : IsStablePending p accesses alls pendings) where
  clash_found : (g : Procedure) → has_clash alls pendings g ≡ false → HasNoClash p g
  clash_found g e x y h c =
      true≢false (sym (member_any (is_clash g.sections) (met_in accesses alls pendings g.body)
      ((meetings_exact p accesses alls pendings alls_derived alls_stable pendings_derived pendings_stable g.body x y).1 h)
      (and_from (x.write || y.write) (overlap g.sections x.section y.section) c.writes c.overlap)) ∙ e)

  clash_stands : (g : Procedure) → HasNoClash p g → (b : Bool) → has_clash alls pendings g ≡ b → b ≡ false
  clash_stands g free true e =
      let m = any_member (is_clash g.sections) (met_in accesses alls pendings g.body) e in
      let c = and_parts (m.item.0.write || m.item.1.write) (overlap g.sections m.item.0.section m.item.1.section) m.passes in
      absurd (free m.item.0 m.item.1
      ((meetings_exact p accesses alls pendings alls_derived alls_stable pendings_derived pendings_stable g.body
      m.item.0 m.item.1).0 m.member)
      (record { writes = c.0; overlap = c.1 }))
  clash_stands g free false e = refl

  -- the test decides whether a procedure has a clash
  pub has_clash-exact : (g : Procedure) → (has_clash alls pendings g ≡ false) ↔ HasNoClash p g
  has_clash-exact g = (clash_found g, λ h. clash_stands g h (has_clash alls pendings g) refl)
