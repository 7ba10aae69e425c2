use Rattle.std.proofs.Common.{◌≡◌, ◌<◌, ap, ◌∙◌, refl, sym, subst, arith, List, [], length, map, Vec, Global}
use Rattle.std.specs.Prelude.{ℤ, slice_index_or}
use Rattle.types.specs.Meaning.{one}
use Rattle.types.specs.Run.{Block, Fault, On, State}
use Rattle.types.specs.Translation.{environment, fault, program}
use Rattle.types.specs.declared.fault.Fault.{Fault as rFault}
use Rattle.serial_run.specs.Machines.{AreCodes}
use Rattle.serial_run.specs.declared.code.Flat.{Flat}
use Rattle.task_run.specs.Translation.{contents_of}
use Rattle.task_run.specs.WholeRuns.{EndsBody}
use Rattle.task_run.proofs.WholeRuns.{both_done}
use Rattle.task_run.proofs.start.Start.run_by.Goals as goal

pub pass_within-requires : goal.pass_within-requires
pass_within-requires g c =
    let fits = c.requires.fits in
    let n = c.args.body.number in
    let codes = c.deref.ensures.value in
    let at : (f : Flat) → slice_index_or c.deref.result.now n f ≡ f → slice_index_or c.args.code.now.codes.items n f ≡ f
    = λ f is. subst (λ (fs : List Flat). slice_index_or fs n f ≡ f) codes is in
    record {
      codes = subst (AreCodes (program c.args.plan.program.now)) (sym codes) c.requires.codes;
      there = subst (λ (fs : List Flat). n < length fs) (sym codes) fits.there;
      on = refl;
      fits = tt;
      lies = λ s. tt;
      scalars = λ f is. fits.scalars f (at f is);
      sections = λ f is. fits.sections f (at f is);
      paid = omega arith;
    }

pub returns : goal.returns
returns g c =
    let s = c.args.self in let plan = c.args.plan in let p = program plan.program.now in let fresh = plan.budget.steps in
    let n = c.args.body.number in
    let st : List (List ℤ) → List Fault → State (Unit {0}) = λ lines faults. record {
      flow = On;
      environment = environment s.environment;
      store = contents_of s.holdings;
      lines = lines;
      faults = faults;
      steps = fresh;
      path = s.path.turns.items;
      spawned = 0;
      extra = tt;
    } in
    let begins =
    ap (λ (ls : List (Vec ℤ Global)). st (map (λ v. v.items) ls) (map fault c.new-2.result.items)) c.new.ensures.items
    ∙ ap (λ (fs : List rFault). st [] (map fault fs)) c.new-2.ensures.items in
    both_done _ _ (EndsBody p fresh c.args.code.now c.args.body s)
    (λ t state shape. record {
      owned = shape;
      state = λ is f at of.
          state is f (subst (λ (fs : List Flat). slice_index_or fs n f ≡ f) (sym c.deref.ensures.value) at) of
          ∙ ap (λ (x : State (Unit {0})). one p fresh s.nest (Block is) x) begins;
    })
    c.pass_within.result c.pass_within.ensures.state c.pass_within.ensures.shape
