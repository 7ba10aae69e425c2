-- From what a command wrote, or why it wrote nothing, to what it has done.
pub use Rattle.shared_lemmas.proofs.Results.{err_passed}
use Rattle.std.proofs.Common.{◌≡◌, ◌≢◌, ◌<◌, ◌≤◌, inl, inr, ℕ, List, Option, Some, Result, Ok, Err, ap, ◌∙◌, map, sym, subst, refl}
use Rattle.std.proofs.KnownBytes.{Keeps-refl}
use Rattle.std.proofs.Math.Dec.{ltb}
use Rattle.std.proofs.lemmas.Bool.{ltb-false, ltb-true}
use Rattle.std.specs.List.{flat_map}
use Rattle.shared_lemmas.proofs.Results.{ok_is_no_error}
use Rattle.std.specs.Prelude.{◌↔◌, ℤ, IfErr, IfOk, IsErrAnd, Bool, length, suc, true, false}
use Rattle.std.specs.Str.{chars}
use Rattle.std.specs.Str.Lines.{lines}
use Rattle.syntax.specs.Canonical.{listed}
use Rattle.syntax.specs.Lexical.{AreTokensOf}
use Rattle.syntax.specs.Spelling.{spelling}
use Rattle.syntax.specs.declared.place.TextPlace.{TextPlace}
use Rattle.syntax_tree.specs.Tree as tree
use Rattle.statement_places.specs.Begun.{AreBegun}
use Rattle.statement_places.specs.Lines.{placed_lines}
use Rattle.statement_places.specs.Starts.{starts}
use Rattle.types.specs.Code.{Array, Program}
use Rattle.types.specs.Outcome.{Outcome}
use Rattle.types.specs.TreeRuns.{Explored, Ends, Open, NoSuchChoice}
use Rattle.types.specs.Translation.{array, input as lists_of}
use Rattle.types.specs.Typed.{code_of, program_of}
use Rattle.types.specs.declared.code.Array.{Array as rArray}
use Rattle.types.specs.declared.code.Program.{Program as rProgram}
use Rattle.types.specs.declared.typed.Typed.{Typed}
use Rattle.parallel_relation.specs.Pairs.{ArePairs, AreListed, HasPair}
use Rattle.parallel_relation.specs.Together.{LabelsMeet}
use Rattle.parallel_relation.specs.declared.pairs.Pairs.{Pairs as KeptPairs}
use Rattle.race_checker.specs.Clash.{IsAccepted}
use Rattle.commands.specs.Answers.{Answers, AnswersExplore, AnswersMeetings, AnswersPairs, TellsAccepted, accepted_told, command_about}
use Rattle.commands.specs.Answers.{Explores, HasInput, IsExplored, LacksInput}
use Rattle.commands.specs.Answers.{Answer, Does, Done, Explains, Failed, IsCodeOf, IsRunBy, LooksForRaces, Shows}
use Rattle.commands.specs.Answers.{TellsNoCode, TellsNotAccepted, TellsNotBegun, TellsNotGiven, TestsRules}
use Rattle.commands.specs.Answers.{AnswersLabels, AnswersPlaces, AnswersFormat, IsLayoutOf, NeedsLayout}
use Rattle.commands.specs.Answers.{AnswersCost, command_of}
use Rattle.commands.specs.declared.costing.Shares.{Shares}
use Rattle.commands.specs.declared.costing.Shares.TheVariants.{Untold, ByLabel, ByProcedure}
use Rattle.commands.specs.declared.question.Begun.{Begun}
use Rattle.commands.specs.declared.telling.About.{About}
use Rattle.commands.specs.declared.telling.About.TheVariants.{Counts, Lines}
use Rattle.layout.specs.Kept.{HaveSameTokens, IsLaidOut, KeepsAll}
use Rattle.std.specs.Str.{IsUtf8, bytes_eq}
use Rattle.std.proofs.lemmas.Slice.Eq.{bytes_eq-Decides}
use Rattle.std.proofs.Math.Utf8.{encodes}
use Rattle.std.proofs.lemmas.Str.{encodes-chars}
use Rattle.shared_lemmas.proofs.Truths.{false_true}
use Rattle.printing.specs.Appending.{Writes}
use Rattle.commands.specs.Chosen.{ComesTo}
use Rattle.commands.specs.MeetingLines.{HasLines}
use Rattle.files.specs.Choosing.{TellsNoChoices}
use Rattle.printing.specs.ExploredText.{open_text}
use Rattle.files.specs.Held.{Held, TellsNoInput}
use Rattle.printing.specs.Labels.{pair_text}
use Rattle.printing.specs.OutcomeText.{outcome_text, status_of}
use Rattle.command_line.specs.Requests.{Settings}
use Rattle.failures.specs.declared.failure.Failure.{Failure}
use Rattle.failures.specs.declared.failure.Failure.TheVariants.{CannotRead, NotUtf8, Syntax, Types}
use Rattle.failures.specs.declared.failure.Failure.TheVariants.{Race, NoMemoryInCheck, Input, CannotWriteOutput, NoMemory}
use Rattle.failures.specs.declared.failure.Failure.TheVariants.{ChoicesNotUnderstood, NoLeaf}
use Rattle.command_line.specs.declared.request.Command.{Command}
use Rattle.command_line.specs.declared.request.Command.TheVariants.{Run, Serial, Explore}
use Rattle.command_line.specs.declared.request.Command.TheVariants.{Labels, Places, Format, CheckFormat}

-- ---- failures

-- any failure but that of writing
abbrev pub IsOther : Failure → Type 0
IsOther CannotWriteOutput = ⊥
IsOther _ = Unit {0}

pub other_failure : (f : Failure) → IsOther f → f ≢ CannotWriteOutput
other_failure f other is = subst IsOther is other

module _ (Is : Answer) (Why : Failure → Type 0) where
  -- a failure before anything is written
  pub refused : (b : Option (List ℕ)) (f : Failure) → Why f → f ≢ CannotWriteOutput → Failed Is Why b b f
  refused b f why other = record { why = why; silent = λ _. Keeps-refl b; begun = λ is. absurd (other is) }

  -- one that is passed on
  pub passed_on : (b : Option (List ℕ)) (r : Result ℕ Failure) (f : Failure) → IsErrAnd r (λ y. y ≡ f) → Why f
      → f ≢ CannotWriteOutput → Done Is Why b b r
  passed_on b (Ok x) f is why other = absurd is
  passed_on b (Err y) f is why other = subst (Failed Is Why b b) (sym is) (refused b f why other)

  -- what was shown is the answer, or a prefix of it
  pub answered : (old new : Option (List ℕ)) (r : Result ℕ Failure) (told : List ℕ) (status : ℕ) → Why CannotWriteOutput
      → Is told status → Writes old new r told → IfOk r (λ x. x ≡ status) → IfErr r (λ f. f ≡ CannotWriteOutput)
      → Done Is Why old new r
  answered old new (Ok x) told status why answers written is only = record {
    told = told;
    answers = subst (Is told) (sym is) answers;
    written = written;
  }
  answered old new (Err f) told status why answers written is only = record {
    why = subst Why (sym only) why;
    silent = λ other. absurd (other only);
    begun = λ _. record { told = told; status = status; answers = answers; begun = written };
  }

module _ (c : Command) (s : Settings) (held : Held) (text : List ℕ) (b : Option (List ℕ)) where
  -- a failure of a command before anything is written
  pub refuses : (f : Failure) → Explains c s held text f → f ≢ CannotWriteOutput
      → Failed (Answers c s held text) (Explains c s held text) b b f
  refuses f why other = refused (Answers c s held text) (Explains c s held text) b f why other

  -- one that is passed on
  pub passes_on : (r : Result ℕ Failure) (f : Failure) → IsErrAnd r (λ y. y ≡ f) → Explains c s held text f
      → f ≢ CannotWriteOutput → Does c s held text b b r
  passes_on r f is why other = passed_on (Answers c s held text) (Explains c s held text) b r f is why other

  -- ---- a text without a code

  pub no_code_explained : TestsRules c → (f : Failure) → TellsNoCode text f → Explains c s held text f
  no_code_explained tests (Syntax e) told = told
  no_code_explained tests (Types e) told = (tests, told)
  no_code_explained tests _ told = absurd told

  pub no_code_other : (f : Failure) → TellsNoCode text f → IsOther f
  no_code_other CannotWriteOutput told = told
  no_code_other _ told = tt

  -- ---- a run without an input

  module _ (code : Program) (is_code : IsCodeOf text code) (is_run : IsRunBy c code) where
    pub no_input_explained : (f : Failure) → TellsNoInput s.input held code.arrays f → Explains c s held text f
    no_input_explained (CannotRead name) told = inl (record { code = code; is_code = is_code; is_run = is_run; why = told })
    no_input_explained (NotUtf8 name) told = record { code = code; is_code = is_code; is_run = is_run; why = told }
    no_input_explained (Input e) told = record { code = code; is_code = is_code; is_run = is_run; why = told }
    no_input_explained NoMemory told = tt
    no_input_explained _ told = absurd told

    pub no_input_other : (f : Failure) → TellsNoInput s.input held code.arrays f → IsOther f
    no_input_other CannotWriteOutput told = told
    no_input_other _ told = tt

  -- for a command that runs every program that another runs
  module _ (d : Command) (runs : (code : Program) → IsRunBy d code → IsRunBy c code) where
    pub lack_explained : (f : Failure) → LacksInput d s held text f → Explains c s held text f
    lack_explained f lack = no_input_explained lack.code lack.is_code (runs lack.code lack.is_run) f lack.why

    pub lack_other : (f : Failure) → LacksInput d s held text f → IsOther f
    lack_other f lack = no_input_other lack.code lack.is_code (runs lack.code lack.is_run) f lack.why

  -- ---- a run without a program or an input

  module _ (tests : TestsRules c) (runs : (code : Program) → IsRunBy c code) where
    pub not_given_explained : (f : Failure) → TellsNotGiven s held text f → Explains c s held text f
    not_given_explained f (inl no_code) = no_code_explained tests f no_code
    not_given_explained f (inr lack) = lack_explained Serial (λ code is_run. runs code) f lack

    pub not_given_other : (f : Failure) → TellsNotGiven s held text f → IsOther f
    not_given_other f (inl no_code) = no_code_other f no_code
    not_given_other f (inr lack) = lack_other Serial (λ code is_run. runs code) f lack

    pub passes_not_given : (r : Result ℕ Failure) (f : Failure) → IsErrAnd r (λ y. y ≡ f)
        → TellsNotGiven s held text f → Does c s held text b b r
    passes_not_given r f is told =
        passes_on r f is (not_given_explained f told) (other_failure f (not_given_other f told))

-- ---- a text without an accepted program

rules_tested : (c : Command) → LooksForRaces c → TestsRules c
rules_tested Labels looks = absurd looks
rules_tested Places looks = absurd looks
rules_tested Format looks = absurd looks
rules_tested CheckFormat looks = absurd looks
rules_tested _ looks = tt

module _ (c : Command) (looks : LooksForRaces c) (s : Settings) (held : Held) (text : List ℕ) (b : Option (List ℕ)) where
  pub not_accepted_explained : (f : Failure) → TellsNotAccepted text f → Explains c s held text f
  not_accepted_explained (Syntax e) told = told
  not_accepted_explained (Types e) told = (rules_tested c looks, told)
  not_accepted_explained (Race found) told = (looks, told)
  not_accepted_explained NoMemoryInCheck told = looks
  not_accepted_explained _ told = absurd told

  pub not_accepted_other : (f : Failure) → TellsNotAccepted text f → IsOther f
  not_accepted_other CannotWriteOutput told = told
  not_accepted_other _ told = tt

  pub passes_not_accepted : (r : Result ℕ Failure) (f : Failure) → IsErrAnd r (λ y. y ≡ f) → TellsNotAccepted text f
      → Does c s held text b b r
  passes_not_accepted r f is told =
      passes_on c s held text b r f is (not_accepted_explained f told) (other_failure f (not_accepted_other f told))

  -- nor an input
  module _ (runs : (code : Program) → IsAccepted code → IsRunBy c code) where
    pub not_begun_explained : (f : Failure) → TellsNotBegun s held text f → Explains c s held text f
    not_begun_explained f (inl refused) = not_accepted_explained f refused
    not_begun_explained f (inr lack) = lack_explained c s held text b Run runs f lack

    pub not_begun_other : (f : Failure) → TellsNotBegun s held text f → IsOther f
    not_begun_other f (inl refused) = not_accepted_other f refused
    not_begun_other f (inr lack) = lack_other c s held text b Run runs f lack

    pub passes_not_begun : (r : Result ℕ Failure) (f : Failure) → IsErrAnd r (λ y. y ≡ f)
        → TellsNotBegun s held text f → Does c s held text b b r
    passes_not_begun r f is told =
        passes_on c s held text b r f is (not_begun_explained f told) (other_failure f (not_begun_other f told))

-- ---- answers

-- the code of a program that a text spells
abbrev pub code_of_text : (text : List ℕ) (typed : Typed) → AreTokensOf (chars text) (spelling (program_of typed))
    → IsCodeOf text (code_of typed)
code_of_text text typed spelled = record {
  program = program_of typed;
  spelled = spelled;
  right = typed.right;
  resolved = typed.resolved;
}

module _ (text told : List ℕ) (kept typed : Typed) (same : typed ≡ kept)
    (spelled : AreTokensOf (chars text) (spelling (program_of kept))) (accepted : IsAccepted (code_of typed)) where
  spelled_so : AreTokensOf (chars text) (spelling (program_of typed))
  spelled_so = subst (λ (t : Typed). AreTokensOf (chars text) (spelling (program_of t))) (sym same) spelled

  -- what is reported for an accepted program
  pub accepted_answers : (about : About) → told ≡ accepted_told about (code_of typed) (program_of typed)
      → TellsAccepted text (accepted_told about) told 0
  accepted_answers about is = record {
    code = code_of typed;
    is_code = code_of_text text typed spelled_so;
    accepted = accepted;
    told_is = is;
    status_is = refl;
  }

-- ---- what is reported for an accepted program

-- the commands that request it look for races
pub checks_look : (about : About) → LooksForRaces (command_about about)
checks_look Counts = tt
checks_look Lines = tt

-- and their answer is that text
pub check_answers : (about : About) (s : Settings) (held : Held) (text told : List ℕ) (status : ℕ)
    → TellsAccepted text (accepted_told about) told status → Answers (command_about about) s held text told status
check_answers Counts s held text told status answers = answers
check_answers Lines s held text told status answers = answers

-- ---- listings of any program

short_by : {A E : Type 0} (r : Result A E) (x : A) (e : E) (n : ℕ) (b : Bool) → ltb 1048576 n ≡ b → r ≡ Ok x
    → ((r ≡ Err e) ↔ (1048576 < n)) → n ≤ 1048576
short_by r x e n true long is over = absurd (ok_is_no_error x e (sym is ∙ over.1 (ltb-true 1048576 n long)))
short_by r x e n false long is over = ltb-false 1048576 n long

-- what is read isn't too long
pub read_is_short : {A E : Type 0} (r : Result A E) (x : A) (e : E) (n : ℕ) → r ≡ Ok x → ((r ≡ Err e) ↔ (1048576 < n))
    → n ≤ 1048576
read_is_short r x e n is over = short_by r x e n (ltb 1048576 n) refl is over

-- the listing
pub labels_answer : (text told : List ℕ) (program : tree.Program) → AreTokensOf (chars text) (spelling program)
    → told ≡ listed program → AnswersLabels text told 0
labels_answer text told program spelled is = record { program = program; spelled = spelled; told_is = is; status_is = refl }

-- the listing with places
pub places_answer : (text told listing : List ℕ) (program : tree.Program) (places : List TextPlace)
    → AreTokensOf (chars text) (spelling program) → AreBegun (chars text) (starts program) places
    → told ≡ placed_lines places (lines listing) → listing ≡ listed program → AnswersPlaces text told 0
places_answer text told listing program places spelled begun is of = record {
  program = program;
  spelled = spelled;
  places = places;
  begun = begun;
  told_is = is ∙ ap (λ (l : List ℕ). placed_lines places (lines l)) of;
  status_is = refl;
}

-- the text in the canonical layout
pub is_layout : (text laid : List ℕ) (program : tree.Program) → AreTokensOf (chars text) (spelling program) → IsUtf8 laid
    → IsLaidOut (chars text) (chars laid) → KeepsAll (chars text) (chars laid) → HaveSameTokens (chars text) (chars laid)
    → IsLayoutOf text program laid
is_layout text laid program spelled utf8 laid_out kept same =
    record { is_text = utf8; is_laid = laid_out; kept = kept; same = same (spelling program) spelled }

-- and written
pub format_answer : (text laid told : List ℕ) (program : tree.Program) → AreTokensOf (chars text) (spelling program)
    → told ≡ laid → IsLayoutOf text program laid → AnswersFormat text told 0
format_answer text laid told program spelled is layout = record {
  program = program;
  spelled = spelled;
  layout = subst (IsLayoutOf text program) (sym is) layout;
  status_is = refl;
}

-- two texts that were found to differ
pub differ : (equal : Bool) (told laid text : List ℕ) → told ≡ laid → equal ≡ bytes_eq told text → equal ≡ false → laid ≢ text
differ equal told laid text of is none same =
    false_true (sym none ∙ is ∙ (bytes_eq-Decides told text).1 (of ∙ same))

-- a text that is not formatted: its layout is another text
pub needs_layout : (text laid : List ℕ) (program : tree.Program) → AreTokensOf (chars text) (spelling program)
    → IsUtf8 text → IsUtf8 laid → laid ≢ text → IsLaidOut (chars text) (chars laid) → NeedsLayout text
needs_layout text laid program spelled utf8 laid_utf8 other laid_out = record {
  program = program;
  spelled = spelled;
  not_laid = λ stands.
      let same : chars laid ≡ chars text = laid_out spelled.pieces spelled.cut ∙ sym (stands spelled.pieces spelled.cut) in
      other (sym (encodes-chars laid laid_utf8) ∙ ap encodes same ∙ encodes-chars text utf8);
}

-- pairs as they are stored are listed as those of the program
pub listed_as : (has meets : ℕ → ℕ → Type 0) → ((x y : ℕ) → has x y ↔ meets x y) → (pairs : List (ℕ × ℕ))
    → AreListed has pairs → AreListed meets pairs
listed_as has meets same pairs listed = record {
  smaller_first = listed.smaller_first;
  only = λ x y m. (same x y).0 (listed.only x y m);
  every = λ x y le meet. listed.every x y le ((same x y).1 meet);
  ascending = listed.ascending;
}

-- the pairs of labels that may run together
pub pairs_answer : (text : List ℕ) (code : Program) (kept : KeptPairs) (list : List (ℕ × ℕ)) → IsCodeOf text code
    → ArePairs code kept → AreListed (HasPair kept) list → AnswersPairs text (flat_map pair_text list) 0
pairs_answer text code kept list is_code are listed = record {
  code = code;
  is_code = is_code;
  pairs = list;
  listed = listed_as (HasPair kept) (LabelsMeet code) are list listed;
  told_is = refl;
  status_is = refl;
}

-- the pairs of accesses that may run together
pub meetings_answer : (text told lines : List ℕ) (code : Program) → IsCodeOf text code → told ≡ lines
    → HasLines code (suc (length code.procedures)) lines → AnswersMeetings text told 0
meetings_answer text told lines code is_code is has = record {
  code = code;
  is_code = is_code;
  lines_are = subst (HasLines code (suc (length code.procedures))) (sym is) has;
  status_is = refl;
}

-- what was shown is the answer, or a prefix of it
pub shown : (c : Command) (s : Settings) (held : Held) (text : List ℕ) (old new : Option (List ℕ)) (r : Result ℕ Failure)
    (told : List ℕ) (status : ℕ) → Answers c s held text told status → Writes old new r told → IfOk r (λ x. x ≡ status)
    → IfErr r (λ f. f ≡ CannotWriteOutput) → Does c s held text old new r
shown c s held text old new r told status answers written is only =
    answered (Answers c s held text) (Explains c s held text) old new r told status tt answers written is only

-- ---- costs

-- the commands that report them test the rules of types, and run the program
pub costs_test_rules : (shares : Shares) → TestsRules (command_of shares)
costs_test_rules Untold = tt
costs_test_rules ByLabel = tt
costs_test_rules ByProcedure = tt

pub costs_are_run : (shares : Shares) (code : Program) → IsRunBy (command_of shares) code
costs_are_run Untold code = tt
costs_are_run ByLabel code = tt
costs_are_run ByProcedure code = tt

-- their answer is a cost with shares
pub cost_answers : (shares : Shares) (s : Settings) (held : Held) (text told : List ℕ) (status : ℕ)
    → AnswersCost shares s held text told status → Answers (command_of shares) s held text told status
cost_answers Untold s held text told status answers = answers
cost_answers ByLabel s held text told status answers = answers
cost_answers ByProcedure s held text told status answers = answers

-- ---- outcomes

-- arrays that were taken from a program are those of its code
pub declared_of : (read : List rArray) (q : rProgram) (t : Typed) → read ≡ q.arrays.items → q ≡ t.code
    → map array read ≡ (code_of t).arrays
declared_of read q t is of = ap (map array) is ∙ ap (λ (p : rProgram). map array p.arrays.items) of

pub declared_by : (read : List rArray) (q : rProgram) (t kept : Typed) → read ≡ q.arrays.items → q ≡ t.code → t ≡ kept
    → map array read ≡ (code_of kept).arrays
declared_by read q t kept is of same = declared_of read q t is of ∙ ap (λ (u : Typed). (code_of u).arrays) same

pub outcome_shown : (arrays : Bool) (code : Program) (o p : Outcome) (declared : List Array) → o ≡ p → declared ≡ code.arrays
    → Shows arrays p code (outcome_text declared arrays o) (status_of o)
outcome_shown arrays code o p declared same are = record {
  told_is = ap (λ (d : List Array). outcome_text d arrays o) are ∙ ap (outcome_text code.arrays arrays) same;
  status_is = ap status_of same;
}

-- ---- runs by choices

ends_not_open : (o : Outcome) (leaves : ℕ) → Ends o ≡ Open leaves → ⊥
ends_not_open o leaves is = cc

-- the outcome that it leads to
pub outcome_explored : (s : Settings) (held : Held) (text : List ℕ) (o : Outcome) (declared : List Array)
    (by : Explores s held text (Ends o)) → declared ≡ by.run.code.arrays
    → AnswersExplore s held text (outcome_text declared s.arrays o) (status_of o)
outcome_explored s held text o declared by are = record {
  comes_to = Ends o;
  explores = by;
  open_yet = λ leaves is. absurd (ends_not_open o leaves is);
  told_is = ap (λ (d : List Array). Some (outcome_text d s.arrays o)) (sym are);
  status_is = refl;
}

-- the leaves that can step
pub open_explored : (s : Settings) (held : Held) (text : List ℕ) (leaves : ℕ) (by : Explores s held text (Open leaves))
    → ((n : ℕ) → Open leaves ≡ Open n → 0 < n) → AnswersExplore s held text (open_text leaves) 3
open_explored s held text leaves by some =
    record { comes_to = Open leaves; explores = by; open_yet = some; told_is = refl; status_is = refl }

-- a choice that names no leaf
pub no_leaf : (s : Settings) (held : Held) (text : List ℕ) (b : Option (List ℕ)) (n : ℕ)
    → Explores s held text (NoSuchChoice n) → Failed (Answers Explore s held text) (Explains Explore s held text) b b (NoLeaf n)
no_leaf s held text b n by =
    refuses Explore s held text b (NoLeaf n) (record { by_choices = refl; explores = by }) (other_failure (NoLeaf n) tt)

-- ---- a run without choices

module _ (s : Settings) (held : Held) (text : List ℕ) (run : IsExplored s held text) where
  no_choices_explained : (f : Failure) → TellsNoChoices s.choices held f → Explains Explore s held text f
  no_choices_explained ChoicesNotUnderstood told = record { by_choices = refl; run = run; why = told }
  no_choices_explained (CannotRead name) told = inr (record { by_choices = refl; run = run; why = told })
  no_choices_explained NoMemory told = tt
  no_choices_explained _ told = absurd told

  no_choices_other : (f : Failure) → TellsNoChoices s.choices held f → IsOther f
  no_choices_other CannotWriteOutput told = told
  no_choices_other _ told = tt

  pub passes_no_choices : (later : Held) → later ≡ held → (b : Option (List ℕ)) (r : Result ℕ Failure) (f : Failure)
      → IsErrAnd r (λ y. y ≡ f) → TellsNoChoices s.choices later f → Does Explore s held text b b r
  passes_no_choices later keeps b r f is tells =
      let told = subst (λ (h : Held). TellsNoChoices s.choices h f) keeps tells in
      passes_on Explore s held text b r f is (no_choices_explained f told) (other_failure f (no_choices_other f told))

-- what was explored of a program that was accepted
abbrev pub is_explored : (s : Settings) (held : Held) (text : List ℕ) (code : Program) → IsAccepted code
    → (input : List (List ℤ)) → HasInput s held text code input → IsExplored s held text
is_explored s held text code accepted input given =
    record { code = code; accepted = accepted; input = input; given = given }

-- a program without a race, and its input
module _ (s : Settings) (held : Held) (text : List ℕ) (b : Begun)
    (given : HasInput s held text (code_of b.accepted.typed) (lists_of b.input)) where
  abbrev pub begun_so : IsExplored s held text
  begun_so = is_explored s held text (code_of b.accepted.typed) b.accepted.no_clash (lists_of b.input) given

  abbrev pub explores : (later : Held) → later ≡ held → (e : Explored)
      → ComesTo s.choices later (code_of b.accepted.typed) (lists_of b.input) e → Explores s held text e
  explores later keeps e by = record {
    run = begun_so;
    by_choices = subst (λ (h : Held). ComesTo s.choices h (code_of b.accepted.typed) (lists_of b.input) e) keeps by;
  }
