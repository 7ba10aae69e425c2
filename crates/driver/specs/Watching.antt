-- The notifications of a user who watches the program.
use Rattle.std.specs.Prelude.{ℕ, ◌≡◌, ◌≢◌, ◌⊎◌, ◌≤◌, List, Bool, true, false, Result}
use Rattle.statement_steps.specs.Watched.{IsTold, IsToldOfEnd, Watches}
use Rattle.command_line.specs.Requests.{Asked, Settings}
use Rattle.command_line.specs.declared.request.Action.{Action}
use Rattle.command_line.specs.declared.request.Action.TheVariants.{Answer as AnswerBy, Rewrite}
use Rattle.command_line.specs.declared.request.Command.{Command}
use Rattle.command_line.specs.declared.request.Command.TheVariants.{Run, Serial, Check, Listing, Pairs}
use Rattle.command_line.specs.declared.request.Command.TheVariants.{Meetings, Explore, Labels, Places, Format}
use Rattle.command_line.specs.declared.request.Command.TheVariants.{CheckFormat, View, Summary, Draw, Chrome}
use Rattle.command_line.specs.declared.request.Command.TheVariants.{Page, Schedules, Upgrade}
use Rattle.command_line.specs.declared.request.Command.TheVariants.{Cost, CostByLabel, CostByProcedure}
use Rattle.command_line.specs.declared.request.Command.TheVariants.{PairsByLine, ViewByLine, SummaryByLine}
use Rattle.command_words.specs.Orders.{Order, AsText, AsObject, Times, TimesAsObject, Tests, TestsEach}
use Rattle.command_words.specs.Orders.{TestsAsObject, Each, Walks, Explores, Inspects, command_of}
use Rattle.driver.specs.declared.doing.TextOrder.{TextOrder}
use Rattle.driver.specs.declared.doing.TextOrder.TheVariants.{Answering, Describing, Timing, TimingAsObject}
use Rattle.driver.specs.declared.doing.TextOrder.TheVariants.{Exploring, Inspecting, Walking}

-- the progress of a run on one thread is reported on request, and for no other command
abbrev pub is_watched : Command → Settings → Bool
is_watched Serial s = s.progress
is_watched Run s = false
is_watched Check s = false
is_watched Listing s = false
is_watched Pairs s = false
is_watched Meetings s = false
is_watched PairsByLine s = false
is_watched Explore s = false
is_watched Labels s = false
is_watched Places s = false
is_watched Format s = false
is_watched CheckFormat s = false
is_watched Cost s = false
is_watched CostByLabel s = false
is_watched CostByProcedure s = false
is_watched View s = false
is_watched ViewByLine s = false
is_watched Summary s = false
is_watched SummaryByLine s = false
is_watched Draw s = false
is_watched Chrome s = false
is_watched Page s = false
is_watched Schedules s = false
is_watched Upgrade s = false

abbrev pub is_watched_by : Action → Settings → Bool
is_watched_by (AnswerBy c) s = is_watched c s
is_watched_by Rewrite s = false

module _ {W : Type 0} (Told : List ℕ → W → W → Type 0) where
  -- the notifications while this is done with a text; timing runs reads the clock
  abbrev pub WatchesDoing : {A E : Type 0} → TextOrder → Asked → Result A E → (old new : W) → Type 0
  WatchesDoing Answering a r old new = Watches Told (is_watched_by a.action a.settings) r old new
  WatchesDoing (Describing x) a r old new = Watches Told (is_watched (command_of x) a.settings) r old new
  WatchesDoing Timing a r old new = Unit {0}
  WatchesDoing TimingAsObject a r old new = Unit {0}
  WatchesDoing (Walking seed) a r old new = new ≡ old
  WatchesDoing (Exploring x) a r old new = new ≡ old
  WatchesDoing Inspecting a r old new = new ≡ old

  -- on request the progress of the run is reported, up to its end if the status is that of an outcome: a
  -- failure has 1, 4 or 5
  abbrev pub WatchesTo : (asked : Bool) → (status : ℕ) → (old new : W) → Type 0
  WatchesTo false status old new = new ≡ old
  WatchesTo true status old new =
      (IsTold Told old new ⊎ IsToldOfEnd Told old new) × (status ≢ 1 → status ≤ 3 → IsToldOfEnd Told old new)

  -- the notifications for an order
  abbrev pub WatchesOrder : Order → (status : ℕ) → (old new : W) → Type 0
  WatchesOrder (AsText a) status old new = WatchesTo (is_watched_by a.action a.settings) status old new
  WatchesOrder (AsObject x a) status old new = WatchesTo (is_watched (command_of x) a.settings) status old new
  WatchesOrder (Times a) status old new = Unit {0}
  WatchesOrder (TimesAsObject a) status old new = Unit {0}
  WatchesOrder (Tests a) status old new = new ≡ old
  WatchesOrder (TestsEach writes names s) status old new = new ≡ old
  WatchesOrder (TestsAsObject writes names s) status old new = new ≡ old
  WatchesOrder (Each x files t) status old new = Unit {0}
  WatchesOrder (Walks seed a) status old new = new ≡ old
  WatchesOrder (Explores x a) status old new = new ≡ old
  WatchesOrder (Inspects a) status old new = new ≡ old
