-- The programs that the arguments of `test` name.
use Rattle.std.specs.Prelude.{ℕ, ◌≡◌, ◌≢◌, ◌-◌, Bool, true, false, if◌then◌else◌, List, [], ◌∷◌, ◌++◌, codes}
use Rattle.std.specs.Prelude.{None, Ok, String, length, map, take, drop, IsPermutation}
use Rattle.std.specs.Global.{Global}
use Rattle.std.specs.List.{Contains, flat_map}
use Rattle.std.specs.List.Sorted.{IsSorted}
use Rattle.std.specs.Str.{bytes_eq}
use Rattle.std.specs.Str.Pattern.{RFindsChar, SplitsAroundMatch}
use Rattle.std.specs.String.{string_bytes, string_cmp}
use Rattle.failures.specs.declared.failure.Failure.{Failure}
use Rattle.test_and_bench.specs.Folders.{AreGiven, Folders, TellsNoFolder}
use Rattle.test_and_bench.specs.declared.listed.Listed.{Listed as rListed}

-- what comes before the endings of a program's files, and before `.afx` in its lines; whether it has an `.err`
-- file, a `.json` file and an `.args` file
pub record Listed : Type 0 where
  pub base : List ℕ
  pub shown : List ℕ
  pub is_refused : Bool
  pub has_input : Bool
  pub has_options : Bool

abbrev pub listed : rListed → Listed
listed l = record {
  base = string_bytes l.base;
  shown = string_bytes l.shown;
  is_refused = l.is_refused;
  has_input = l.has_input;
  has_options = l.has_options;
}

-- whether it is one of these
abbrev pub has_name : (names : List (List ℕ)) → (name : List ℕ) → Bool
has_name [] name = false
has_name (one ∷ names) name = if bytes_eq one name then true else has_name names name

-- the part of a name before `.afx`, if it ends with that
abbrev pub stem : (name : List ℕ) → List (List ℕ)
stem name =
    if bytes_eq (drop (length name - 4) name) (codes ".afx") then take (length name - 4) name ∷ [] else []

-- a program of a folder with these entries, by its name there
abbrev pub listed_in : (names : List (List ℕ)) → (stem base shown : List ℕ) → Listed
listed_in names stem base shown = record {
  base = base;
  shown = shown;
  is_refused = has_name names (stem ++ codes ".err");
  has_input = has_name names (stem ++ codes ".json");
  has_options = has_name names (stem ++ codes ".args");
}

-- ---- a folder

-- a program of it, whose files are `folder/stem.afx` and so on
abbrev pub of_folder : (folder : List ℕ) → (names : List (List ℕ)) → (stem : List ℕ) → Listed
of_folder folder names stem = listed_in names stem (folder ++ (codes "/" ++ stem)) stem

-- these are the programs of a folder, sorted by name
pub record AreOfFolder (named : Folders) (folder : List ℕ) (ps : List Listed) : Type 0 where
  pub names : List (List ℕ)
  pub given : AreGiven (named folder) (Ok names)
  pub stems : List (String Global)
  pub all : IsPermutation (flat_map stem names) (map string_bytes stems)
  pub ordered : IsSorted string_cmp stems
  pub are : ps ≡ map (of_folder folder names) (map string_bytes stems)

-- ---- one program

-- the folder of a file, and its name there: they are before and after its last `/`, if it has one
pub data IsIn (base folder stem : List ℕ) : Type 0 where
  in_folder : SplitsAroundMatch (RFindsChar 47) base folder stem → folder ≢ [] → IsIn base folder stem
  in_root : SplitsAroundMatch (RFindsChar 47) base [] stem → folder ≡ codes "/" → IsIn base folder stem
  alone : RFindsChar 47 base None → folder ≡ codes "." → stem ≡ base → IsIn base folder stem

-- this is the program whose file has this name, without its ending; it is called so in lines, too
pub record IsProgram (named : Folders) (base : List ℕ) (ps : List Listed) : Type 0 where
  pub folder : List ℕ
  pub stem : List ℕ
  pub is_in : IsIn base folder stem
  pub names : List (List ℕ)
  pub given : AreGiven (named folder) (Ok names)
  pub are : ps ≡ listed_in names stem base base ∷ []

-- the failure says why the folder of a file can't be read, unless memory runs out
pub record TellsUnlistedProgram (named : Folders) (base : List ℕ) (f : Failure) : Type 0 where
  pub folder : List ℕ
  pub stem : List ℕ
  pub is_in : IsIn base folder stem
  pub why : TellsNoFolder named folder f

-- ---- all of them

-- the programs of a name: one that ends with `.afx` is a program, and any other a folder
pub data AreNamed (named : Folders) (name : List ℕ) (ps : List Listed) : Type 0 where
  a_program : (base : List ℕ) → name ≡ base ++ codes ".afx" → IsProgram named base ps → AreNamed named name ps
  a_folder : ((base : List ℕ) → name ≢ base ++ codes ".afx") → AreOfFolder named name ps → AreNamed named name ps

-- why a name has none
pub data TellsUnlistedName (named : Folders) (name : List ℕ) (f : Failure) : Type 0 where
  no_program : (base : List ℕ) → name ≡ base ++ codes ".afx" → TellsUnlistedProgram named base f
      → TellsUnlistedName named name f
  no_folder : ((base : List ℕ) → name ≢ base ++ codes ".afx") → TellsNoFolder named name f
      → TellsUnlistedName named name f

-- the programs of these names, in their order
pub data AreAllNamed (named : Folders) : (names : List (List ℕ)) → (ps : List Listed) → Type 0 where
  none : AreAllNamed named [] []
  more : (ns : List (List ℕ)) (n : List ℕ) (ps qs : List Listed) → AreAllNamed named ns ps → AreNamed named n qs
      → AreAllNamed named (ns ++ n ∷ []) (ps ++ qs)

-- one of these names has no programs, for the reason in the failure
pub record TellsUnlisted (named : Folders) (names : List (List ℕ)) (f : Failure) : Type 0 where
  pub name : List ℕ
  pub among : Contains names name
  pub why : TellsUnlistedName named name f

-- ---- what is added to others

-- programs for which this is true are added
pub record Adds (Are : List Listed → Type 0) (old new : List Listed) : Type 0 where
  pub ps : List Listed
  pub are : Are ps
  pub added : new ≡ old ++ ps

abbrev pub AddsNamed : Folders → (name : List ℕ) → (old new : List Listed) → Type 0
AddsNamed named name = Adds (AreNamed named name)

abbrev pub AddsProgram : Folders → (base : List ℕ) → (old new : List Listed) → Type 0
AddsProgram named base = Adds (IsProgram named base)

abbrev pub AddsFolder : Folders → (folder : List ℕ) → (old new : List Listed) → Type 0
AddsFolder named folder = Adds (AreOfFolder named folder)
