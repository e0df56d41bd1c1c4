-- Names that stand for what the program has open (this profile's own rule).
use Rattle.std.specs.Prelude.{ℕ, ◌||◌, Bool, List, bytes_eq, codes, if◌then◌else◌, take}
use Rattle.oltctl.specs.declared.opened.Opened.{Opened}
use Rattle.oltctl.specs.declared.opened.Opened.TheVariants.{Output, Error, Other, Nothing}

-- standard output, and standard error
abbrev pub is_output : List ℕ → Bool
is_output path =
    bytes_eq path (codes "/dev/stdout") || bytes_eq path (codes "/dev/fd/1")
    || bytes_eq path (codes "/proc/self/fd/1")

abbrev pub is_error : List ℕ → Bool
is_error path =
    bytes_eq path (codes "/dev/stderr") || bytes_eq path (codes "/dev/fd/2")
    || bytes_eq path (codes "/proc/self/fd/2")

-- a name in the folder of descriptors, or of what the system has of processes
abbrev pub is_other : List ℕ → Bool
is_other path = bytes_eq (codes "/dev/fd/") (take 8 path) || bytes_eq (codes "/proc/") (take 6 path)

-- what a path stands for
abbrev pub opened_by : List ℕ → Opened
opened_by path =
    if is_output path then Output
    else if is_error path then Error
    else if is_other path then Other
    else Nothing
