-- What the names of a sample stand for. The kinds come in a fixed pattern, the sizes are drawn.
use Rattle.std.specs.Prelude.{◌≤◌, ℕ, zero, suc, ◌+◌, ◌%◌, ◌==◌, Bool, true, false, List, [], ◌∷◌, if◌then◌else◌}
use Rattle.reiser_make.specs.Draw.{next_state, drawn}
use Rattle.reiser_make.specs.declared.sample_entry.SampleEntry.{SampleEntry}
use Rattle.reiser_make.specs.declared.sample_entry.SampleEntry.TheVariants.{Name, Symlink, File}

-- A file by its class, drawn behind a state: its whole blocks of 4096 bytes and the bytes behind them. Classes are a few
-- bytes, a few more, whole blocks and a rest, whole blocks, and whole blocks of which every second one is a hole.
abbrev pub file_of : ℕ → ℕ → SampleEntry
file_of class state =
    if class == 0 then File 0 (drawn 2049 (next_state state)) false
    else (if class == 1 then File 0 (2049 + drawn 1500 (next_state state)) false
    else (if class == 2 then File (1 + drawn 8 (next_state state)) (1 + drawn 3000 (next_state (next_state state))) false
    else (if class == 3 then File (1 + drawn 20 (next_state state)) 0 false
    else File (2 + drawn 10 (next_state state)) 0 true)))

-- the state behind the size: a rest is drawn by a number of its own
abbrev pub state_behind : ℕ → ℕ → ℕ
state_behind class state = if class == 2 then next_state (next_state state) else next_state state

-- every tenth name is a further name of the file before it, and every fiftieth a symlink
abbrev pub is_further_name : ℕ → Bool
is_further_name i = i % 10 == 9

abbrev pub is_symlink : ℕ → Bool
is_symlink i = i % 50 == 24

-- what name i stands for, drawn from a state
unfoldable pub content_of : ℕ → ℕ → SampleEntry
content_of i state =
    if is_further_name i then Name
    else (if is_symlink i then Symlink else file_of (drawn 5 (next_state state)) (next_state state))

-- the state behind that
unfoldable pub state_after : ℕ → ℕ → ℕ
state_after i state =
    if is_further_name i then state
    else (if is_symlink i then state else state_behind (drawn 5 (next_state state)) (next_state state))

-- n names from name i on
abbrev pub contents_from : ℕ → ℕ → ℕ → List SampleEntry
contents_from zero i state = []
contents_from (suc n) i state = content_of i state ∷ contents_from n (i + 1) (state_after i state)

-- the names of a sample, which begins with its number as the state
unfoldable pub contents : ℕ → List SampleEntry
contents number = contents_from number 0 number

-- the bounds of what is drawn
pub record IsSmallFile (whole rest : ℕ) : Type 0 where
  pub blocks : whole ≤ 20
  pub bytes : rest ≤ 3548

abbrev pub IsSmallContent : SampleEntry → Type 0
IsSmallContent Name = Unit {0}
IsSmallContent Symlink = Unit {0}
IsSmallContent (File whole rest sparse) = IsSmallFile whole rest
