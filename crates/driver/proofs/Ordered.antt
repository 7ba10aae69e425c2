-- From a program that is read to what was ordered.
use Rattle.std.proofs.Common.{◌≡◌, ℕ, ◌≤◌, length, List, Option, Result, Err, sym, subst, Bool}
use Rattle.command_line.specs.Requests.{Asked, Settings}
use Rattle.files.specs.Held.{Held, HasText, TellsNoProgram}
use Rattle.failures.specs.declared.failure.Failure.{Failure}
use Rattle.command_words.specs.Orders.{Order}
use Rattle.test_and_bench.specs.Folders.{Folders}
use Rattle.driver.specs.More.{more_of, nothing_more}
use Rattle.driver.specs.declared.more.More.{More}
use Rattle.driver.specs.Acts.{IsSaid, Reports}
use Rattle.driver.specs.declared.answered.Answered.{Answered}
use Rattle.driver.specs.declared.refusal.Refusal.{Refusal}
use Rattle.driver.specs.Orders.{ActsOn, ActsWith, DoesWith, InspectsAs, ReadsAnd, TellsTestsAs, TellsUnread, TestsAll}
use Rattle.driver.specs.Orders.{on_text, without_text}
use Rattle.test_and_bench.specs.TestsObject.{TellsTests}
use Rattle.test_and_bench.specs.Trials.{DoesTest}
use Rattle.driver.specs.declared.doing.TextOrder.{TextOrder}
use Rattle.driver.specs.declared.doing.TextOrder.TheVariants.{Inspecting}

-- equal orders do the same
pub does_so : (d e : TextOrder) → d ≡ e → (a : Asked) (text : List ℕ) (held later : Held) (old new : Option (List ℕ))
    (r : Result ℕ Failure) → DoesWith e a text held later old new r → DoesWith d a text held later old new r
does_so d e same a text held later old new r does =
    subst (λ (x : TextOrder). DoesWith x a text held later old new r) (sym same) does

pub unread_so : (d e : TextOrder) → d ≡ e → (file : List ℕ) (old new : Option (List ℕ)) (f : Failure)
    → TellsUnread e file old new f → TellsUnread d file old new f
unread_so d e same file old new f told = subst (λ (x : TextOrder). TellsUnread x file old new f) (sym same) told

module _ (d : TextOrder) (a : Asked) (held : Held) (old new : Option (List ℕ)) where
  -- files were read before, and are read after it, and the result is the same
  pub read_on_text : (mid later last : Held) → mid ≡ held → last ≡ later → (r s : Result ℕ Failure) → r ≡ s
      → (text : List ℕ) → HasText held a.file text → length text ≤ 1048576 → DoesWith d a text mid later old new s
      → ReadsAnd d a held last old new r
  read_on_text mid later last before behind r s same text has short does =
      subst (ReadsAnd d a held last old new) (sym same) (on_text text has short
      (subst (λ (h : Held). DoesWith d a text held h old new s) (sym behind)
      (subst (λ (h : Held). DoesWith d a text h later old new s) before does)))

  pub read_without_text : (later : Held) (f : Failure) → later ≡ held → TellsNoProgram held a.file f
      → TellsUnread d a.file old new f → ReadsAnd d a held later old new (Err f)
  read_without_text later f keeps why told = without_text (record { why = why; told = told }) keeps

-- what is said with nothing more is said so
pub said_bare : (m : More) (r : Result Answered Refusal) → m ≡ nothing_more → IsSaid nothing_more r → IsSaid m r
said_bare m r is said = subst (λ (n : More). IsSaid n r) (sym is) said

-- ---- what was ordered

module _ (held later : Held) (old new err_old err_new : Option (List ℕ)) (status : ℕ) where
  pub acted : (at_terminal : Bool) (d : TextOrder) (a : Asked) (r : Result ℕ Failure) (m : More)
      → m ≡ more_of a.action a.telling at_terminal → ReadsAnd d a held later old new r
      → Reports m err_old err_new r status
      → ActsWith at_terminal d a held later old new err_old err_new status
  acted at_terminal d a r m is does reports = record {
    result = r;
    does = does;
    reports = subst (λ (n : More). Reports n err_old err_new r status) is reports;
  }

  pub inspected_as : (a : Asked) (r : Result ℕ Failure) (m : More) → m ≡ nothing_more → ReadsAnd Inspecting a held later old new r
      → Reports m err_old err_new r status → InspectsAs a held later old new err_old err_new status
  inspected_as a r m is does reports = record {
    result = r;
    does = does;
    reports = subst (λ (n : More). Reports n err_old err_new r status) is reports;
  }

module _ (named : Folders) (held later : Held) (old new err_old err_new : Option (List ℕ)) (status : ℕ) where
  -- nothing follows
  bare : (r : Result ℕ Failure) (m : More) → m ≡ nothing_more → Reports m err_old err_new r status
      → Reports nothing_more err_old err_new r status
  bare r m is reports = subst (λ (n : More). Reports n err_old err_new r status) is reports

  pub tested_as : (names : List (List ℕ)) (writes : Bool) (s : Settings) (r : Result ℕ Failure) (m : More) → m ≡ nothing_more
      → DoesTest named held names writes s later old new r → Reports m err_old err_new r status
      → TestsAll names writes s named held later old new err_old err_new status
  tested_as names writes s r m is does reports = record { result = r; does = does; reports = bare r m is reports }

  pub told_as : (names : List (List ℕ)) (writes : Bool) (s : Settings) (r : Result ℕ Failure) (m : More) → m ≡ nothing_more
      → TellsTests named held names writes s later old new r → Reports m err_old err_new r status
      → TellsTestsAs names writes s named held later old new err_old err_new status
  told_as names writes s r m is does reports = record { result = r; does = does; reports = bare r m is reports }

  -- one order is another
  pub ordered : (at_terminal : Bool) (o p : Order) → o ≡ p
      → ActsOn at_terminal o named held later old new err_old err_new status
      → ActsOn at_terminal p named held later old new err_old err_new status
  ordered at_terminal o p same acts = subst (λ (q : Order). ActsOn at_terminal q named held later old new err_old err_new status) same acts
