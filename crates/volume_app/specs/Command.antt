-- What the words of a command line ask for.
use Rattle.std.specs.Prelude.{ℕ, ◌≤◌, ◌-◌, Bool, true, false, ◌&&◌, ◌||◌, List, [], ◌∷◌, codes, bytes_eq, length, take, slice_index_or, Option, Some, None, option_map, if◌then◌else◌}
use Rattle.program_words.specs.Words.{is_path, plain_number}
use Rattle.btr_reader.specs.btr_node.NodeSize.{IsNodeSize}
use Rattle.unit_plan.specs.convert_options.Asked.{is_verbose, options_of_convert, options_of_inspect}
use Rattle.reiser_volume.specs.outside.declared.disk.Access.{Access}
use Rattle.reiser_volume.specs.outside.declared.disk.Access.TheVariants.{Read, Write}
use Rattle.unit_plan.specs.convert_options.declared.options.Options.{Options}
use Rattle.volume_app.specs.declared.command.Command.{Command}
use Rattle.volume_app.specs.declared.command.CommandLine.{CommandLine}
use Rattle.volume_app.specs.declared.command.Command.TheVariants.{Inspect, List as ListRows, Convert, Recover, Rollback, Trial, Help, Version}

pub data Asked : Type 0 where
  inspect : Options → List ℕ → Asked
  list : List ℕ → Asked
  convert : Options → List ℕ → Asked
  recover : List ℕ → Asked
  rollback : List ℕ → Asked
  trial : ℕ → List ℕ → Asked
  help : Asked
  version : Asked

-- the path that a command opens, and for what
abbrev pub opens : Asked → Option (List ℕ × Access)
opens (inspect o path) = Some (path, Read)
opens (list path) = Some (path, Read)
opens (convert o path) = Some (path, Write)
opens (recover path) = Some (path, Write)
opens (rollback path) = Some (path, Write)
opens (trial number path) = Some (path, Write)
opens help = None
opens version = None

-- ---- one command

-- a word that asks for the help
abbrev pub is_help : List ℕ → Bool
is_help word = bytes_eq word (codes "--help") || bytes_eq word (codes "-h")

-- a word that asks for the version
abbrev pub is_version : List ℕ → Bool
is_version word = bytes_eq word (codes "--version") || bytes_eq word (codes "-V")

-- a word that stands alone
abbrev pub alone : List ℕ → Option Asked
alone word = if is_help word then Some help else (if is_version word then Some version else None)

-- the name of a command that has a path
abbrev pub is_name : List ℕ → Bool
is_name name =
    bytes_eq name (codes "inspect") || (bytes_eq name (codes "list") || (bytes_eq name (codes "convert")
    || (bytes_eq name (codes "recover") || (bytes_eq name (codes "rollback") || bytes_eq name (codes "trial")))))

-- a command's name, and behind it one word, that asks for the help
abbrev pub asks_help : List ℕ → List (List ℕ) → Bool
asks_help name [] = false
asks_help name (word ∷ []) = is_help word && is_name name
asks_help name (word ∷ more ∷ rest) = false

-- a command with its path, without options
abbrev pub named : List ℕ → List ℕ → Option Asked
named name path =
    if bytes_eq name (codes "list") then Some (list path)
    else (if bytes_eq name (codes "recover") then Some (recover path)
    else (if bytes_eq name (codes "rollback") then Some (rollback path) else None))

-- a command that has its path alone
abbrev pub with_path : List ℕ → List (List ℕ) → Option Asked
with_path name [] = None
with_path name (path ∷ []) = if is_path path then named name path else None
with_path name (path ∷ more ∷ rest) = None

-- the number of a sample, at most 4000 and without leading zeros, and behind it a path alone
abbrev pub numbered : List ℕ → List (List ℕ) → Option Asked
numbered number [] = None
numbered number (path ∷ []) = if is_path path then option_map (λ n. trial n path) (plain_number 4000 number) else None
numbered number (path ∷ more ∷ rest) = None

abbrev pub trying : List (List ℕ) → Option Asked
trying [] = None
trying (number ∷ words) = numbered number words

-- ---- a command line: a command, and whether more is to be told of it

abbrev pub Line : Type 0
Line = Asked × Bool

-- the options of `convert`, and behind them a path
abbrev pub converting : List (List ℕ) → List ℕ → Option Line
converting words path = if is_path path then option_map (λ a. (convert a.options path, a.verbose)) (options_of_convert words) else None

-- the options of `inspect`, and behind them a path
abbrev pub inspecting : List (List ℕ) → List ℕ → Option Line
inspecting words path = if is_path path then option_map (λ a. (inspect a.options path, a.verbose)) (options_of_inspect words) else None

-- a command that has no option but `--verbose`, in front of its other words
abbrev pub plain_words : List ℕ → List (List ℕ) → Option Asked
plain_words name words = if bytes_eq name (codes "trial") then trying words else with_path name words

abbrev pub plain_line : List ℕ → List (List ℕ) → Option Line
plain_line name [] = None
plain_line name (word ∷ words) =
    if is_verbose word then option_map (λ asked. (asked, true)) (plain_words name words)
    else option_map (λ asked. (asked, false)) (plain_words name (word ∷ words))

abbrev pub begun_by : List ℕ → List (List ℕ) → Option Line
begun_by name words =
    if bytes_eq name (codes "convert") then converting (take (length words - 1) words) (slice_index_or words (length words - 1) [])
    else (if bytes_eq name (codes "inspect") then inspecting (take (length words - 1) words) (slice_index_or words (length words - 1) [])
    else plain_line name words)

-- what the words of a command line ask for
abbrev pub line : List (List ℕ) → Option Line
line [] = None
line (word ∷ []) = option_map (λ asked. (asked, false)) (alone word)
line (name ∷ word ∷ words) = if asks_help name (word ∷ words) then Some (help, false) else begun_by name (word ∷ words)

-- the command alone
abbrev pub command : List (List ℕ) → Option Asked
command words = option_map (λ asked. asked.0) (line words)

-- ---- as the code has them

abbrev pub seen : Command → Asked
seen (Inspect path o) = inspect o path.now
seen (ListRows path) = list path.now
seen (Convert path o) = convert o path.now
seen (Recover path) = recover path.now
seen (Rollback path) = rollback path.now
seen (Trial number path) = trial number path.now
seen Help = help
seen Version = version

abbrev pub seen_line : CommandLine → Line
seen_line l = (seen l.command, l.verbose)

-- the size of a node that is asked for is one that nodes have, and the number of a sample is one of those that samples have
abbrev pub IsInRange : Command → Type 0
IsInRange (Inspect path o) = IsNodeSize o.nodesize
IsInRange (ListRows path) = Unit {0}
IsInRange (Convert path o) = IsNodeSize o.nodesize
IsInRange (Recover path) = Unit {0}
IsInRange (Rollback path) = Unit {0}
IsInRange (Trial number path) = number ≤ 4000
IsInRange Help = Unit {0}
IsInRange Version = Unit {0}
