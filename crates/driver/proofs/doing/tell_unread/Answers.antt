use Rattle.std.proofs.KnownBytes.{Keeps-refl}
use Rattle.driver.specs.declared.doing.TextOrder.TheVariants.{Answering, Exploring, Inspecting, Timing, TimingAsObject, Walking}
use Rattle.driver.proofs.Ordered.{unread_so}
use Rattle.driver.proofs.doing.tell_unread.Goals as goal

pub returns-in-Answering-clause-told : goal.returns-in-Answering-clause-told
returns-in-Answering-clause-told g c =
    let o = c.args.ordered in
    unread_so o.doing Answering c.in-Answering.is o.request.file.now _ _ c.args.failure.now (Keeps-refl _)

pub returns-in-Describing-clause-told : goal.returns-in-Describing-clause-told
returns-in-Describing-clause-told g c =
    let o = c.args.ordered in
    unread_so o.doing _ c.in-Describing.is o.request.file.now _ _ c.args.failure.now
    c.tell_unread_file.ensures.told

pub returns-in-Timing-clause-told : goal.returns-in-Timing-clause-told
returns-in-Timing-clause-told g c =
    let o = c.args.ordered in
    unread_so o.doing Timing c.in-Timing.is o.request.file.now _ _ c.args.failure.now (Keeps-refl _)

pub returns-in-TimingAsObject-clause-told : goal.returns-in-TimingAsObject-clause-told
returns-in-TimingAsObject-clause-told g c =
    let o = c.args.ordered in
    unread_so o.doing TimingAsObject c.in-TimingAsObject.is o.request.file.now _ _ c.args.failure.now
    c.tell_unread_file-in-TimingAsObject.ensures.told

pub returns-in-Walking-clause-told : goal.returns-in-Walking-clause-told
returns-in-Walking-clause-told g c =
    let o = c.args.ordered in
    unread_so o.doing (Walking c.in-Walking.field-0) c.in-Walking.is o.request.file.now _ _ c.args.failure.now (Keeps-refl _)

pub returns-in-Exploring-clause-told : goal.returns-in-Exploring-clause-told
returns-in-Exploring-clause-told g c =
    let o = c.args.ordered in
    unread_so o.doing (Exploring c.in-Exploring.field-0) c.in-Exploring.is o.request.file.now _ _ c.args.failure.now
    c.tell_unread_file-in-Exploring.ensures.told

pub returns-in-Inspecting-clause-told : goal.returns-in-Inspecting-clause-told
returns-in-Inspecting-clause-told g c =
    let o = c.args.ordered in
    unread_so o.doing Inspecting c.in-Inspecting.is o.request.file.now _ _ c.args.failure.now
    c.tell_unread_file-in-Inspecting.ensures.told
