-- What the first line of a text says: which form it is of, and a version, or how many activators there are.
use Rattle.std.specs.Prelude.{ℕ, ◌++◌, ◌&&◌, nat_eq, nat_le, List, drop, length, Option, None, Some, codes, if◌then◌else◌}
use Rattle.std.specs.Fmt.{decimal}
use Rattle.std.specs.List.{starts_with}
use Rattle.std.specs.Str.{bytes_eq}
use Rattle.kn_event.specs.Numbers.{number_of}
use Rattle.kn_preamble.specs.declared.first.FirstLine.{FirstLine}
use Rattle.kn_preamble.specs.declared.first.FirstLine.TheVariants.{Journal as JournalLine, Setups as SetupsLine, Slices as SlicesLine, Workload as WorkloadLine}

abbrev pub first_line : ℕ → List ℕ
first_line version = codes "kact journal " ++ decimal version

-- the version that a first line names
abbrev pub version_of : List ℕ → Option ℕ
version_of line = if bytes_eq line (codes "kact journal 1") then Some 1 else (if bytes_eq line (codes "kact journal 2") then Some 2 else None)

-- the version of a workload that a first line names
abbrev pub workload_version_of : List ℕ → Option ℕ
workload_version_of line = if bytes_eq line (codes "kact workload 1") then Some 1 else None

-- the version of a list of setups that a first line names
abbrev pub setups_version_of : List ℕ → Option ℕ
setups_version_of line = if bytes_eq line (codes "kact setups 1") then Some 1 else None

-- how many activators there may be
abbrev pub activators_most : ℕ
activators_most = 16

abbrev pub as_activators : Option ℕ → Option ℕ
as_activators None = None
as_activators (Some n) = if nat_le 1 n && nat_le n activators_most then Some n else None

-- how many activators a first line `kact slices N` names
unfoldable pub activators_of : List ℕ → Option ℕ
activators_of line = if starts_with nat_eq line (codes "kact slices ") then as_activators (number_of (drop (length (codes "kact slices ")) line)) else None

-- what a first line of this form names: a version, or how many activators there are
abbrev pub version_by : FirstLine → List ℕ → Option ℕ
version_by JournalLine line = version_of line
version_by WorkloadLine line = workload_version_of line
version_by SlicesLine line = activators_of line
version_by SetupsLine line = setups_version_of line

-- the greatest that it may name
abbrev pub version_most : FirstLine → ℕ
version_most JournalLine = 2
version_most WorkloadLine = 2
version_most SlicesLine = activators_most
version_most SetupsLine = 1
