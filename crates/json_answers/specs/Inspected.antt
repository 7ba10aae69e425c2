-- The object with the answers of several commands for one program.
use Rattle.std.specs.Prelude.{ℕ, ◌≡◌, List, ◌++◌, codes, if◌then◌else◌, nat_eq}
use Rattle.std.specs.Fmt.{decimal}
use Rattle.command_line.specs.Requests.{Settings}
use Rattle.command_line.specs.declared.request.Command.{Command}
use Rattle.command_line.specs.declared.request.Command.TheVariants.{Check, Labels, Serial}
use Rattle.files.specs.Held.{Held}
use Rattle.failures.specs.FailureStatus.{failure_status}
use Rattle.failures.specs.declared.failure.Failure.{Failure}
use Rattle.json_answers.specs.Failing.{TellsFailure}
use Rattle.json_answers.specs.Objects.{FailsEarly, ObjectOf}

-- what a command writes as one object for the text of a program's file, and its status: the answer, or the reason why
-- there is none
pub data Describes (c : Command) (file : List ℕ) (s : Settings) (held : Held) (text told : List ℕ) (status : ℕ)
    : Type 0 where
  answered : ObjectOf c s held text told status → Describes c file s held text told status
  refused : (f : Failure) → FailsEarly c s held text f → TellsFailure file text f told → status ≡ failure_status f
      → Describes c file s held text told status

-- the lines of three objects as members of one
abbrev pub members_text : (check list serial : List ℕ) → (status : ℕ) → List ℕ
members_text check list serial status =
    codes "{\"check\":" ++ (check ++ (codes ",\"list\":" ++ (list ++ (codes ",\"serial\":" ++ (serial
    ++ (codes ",\"status\":" ++ (decimal status ++ codes "}\n")))))))

-- the status of `check`, or that of `serial` if the program is accepted
abbrev pub status_of_both : (check serial : ℕ) → ℕ
status_of_both check serial = if nat_eq check 0 then serial else check

-- `inspect`: what `check`, `list` and `serial` write for the program
pub record ObjectOfInspect (file : List ℕ) (s : Settings) (held : Held) (text told : List ℕ) (status : ℕ) : Type 0 where
  pub check_told : List ℕ
  pub check_status : ℕ
  pub check : Describes Check file s held text check_told check_status
  pub list_told : List ℕ
  pub list_status : ℕ
  pub list : Describes Labels file s held text list_told list_status
  pub serial_told : List ℕ
  pub serial_status : ℕ
  pub serial : Describes Serial file s held text serial_told serial_status
  pub told_is : told ≡ members_text check_told list_told serial_told status
  pub status_is : status ≡ status_of_both check_status serial_status
