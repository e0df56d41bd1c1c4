-- Mistakes that a script may have (this profile's own rule). Each text says in a comment which fault it is.
use Rattle.std.specs.Prelude.{ℕ, ◌≡◌, ◌+◌, ◌-◌, ◌/◌, ◌%◌, ◌==◌, ◌&&◌, ◌++◌, if◌then◌else◌, List, Option, None, Some, codes, length, nat_lt, option_map, slice_index_or}
use Rattle.std.specs.Borrow.{Bor}
use Rattle.gp_generate.specs.declared.mistake.Mistake.{Mistake}
use Rattle.gp_generate.specs.declared.mistake.Mistake.TheVariants as mistakes
use Rattle.gp_generate.specs.declared.plan.Wish.{Wish}

-- the mistake that comes at this place: in turn, from one on that the seed tells
abbrev pub mistake_by : List Mistake → ℕ → ℕ → Mistake
mistake_by all seed number =
    slice_index_or all ((seed % length all + number) % length all) mistakes.UnclosedBracket

-- the mistake that an event has, if it has one: of as many events as there are for each mistake the last
abbrev pub mistake_of_each : List Mistake → Wish → ℕ → ℕ → Option Mistake
mistake_of_each all plan each event =
    if (event % each == each - 1) && nat_lt (event / each) plan.mistakes
    then Some (mistake_by all plan.seed (event / each)) else None

abbrev pub mistake_at : List Mistake → Wish → ℕ → Option Mistake
mistake_at all plan event =
    if plan.mistakes == 0 then None else mistake_of_each all plan (plan.events / plan.mistakes) event

-- the event that is wrong so; a serial number that is admitted twice is none
abbrev pub text_of_mistake : Mistake → Option (List ℕ)
text_of_mistake mistakes.UnclosedBracket =
    Some (codes "# mistake 1 syntax: The name of the table isn't closed.\n[[event]\nport = 0\nframes = 1\n\n")
text_of_mistake mistakes.UnclosedText =
    Some (codes "# mistake 1 syntax: A text isn't closed.\n[[event]]\nport = 0\ncommand = \"search\n\n")
text_of_mistake mistakes.NoValue =
    Some (codes "# mistake 1 syntax: A key has no value.\n[[event]]\nport =\nframes = 1\n\n")
text_of_mistake mistakes.KeyTwice =
    Some (codes "# mistake 1 syntax: A key stands twice.\n[[event]]\nport = 0\nframes = 1\nframes = 1\n\n")
text_of_mistake mistakes.UnknownKey =
    Some (codes "# mistake 2 shape: A key is unknown.\n[[event]]\nport = 0\nframe = 1\n\n")
text_of_mistake mistakes.NoPort =
    Some (codes "# mistake 2 shape: The port is missing.\n[[event]]\nframes = 1\n\n")
text_of_mistake mistakes.UnknownWord =
    Some (codes "# mistake 2 shape: A command is unknown.\n[[event]]\nport = 0\ncommand = \"serach\"\n\n")
text_of_mistake mistakes.TextForNumber =
    Some (codes "# mistake 2 shape: A number is a text.\n[[event]]\nport = 0\nframes = \"1\"\n\n")
text_of_mistake mistakes.KeyTooMany =
    Some (codes "# mistake 2 shape: A key is one too many.\n[[event]]\nport = 0\ncommand = \"search\"\nonu = 0\n\n")
text_of_mistake mistakes.NoFrames =
    Some (codes "# mistake 3 range: No frame goes by.\n[[event]]\nport = 0\nframes = 0\n\n")
text_of_mistake mistakes.TooManyFrames =
    Some (codes "# mistake 3 range: One frame more than may.\n[[event]]\nport = 0\nframes = 1000001\n\n")
text_of_mistake mistakes.NoSuchPort =
    Some (codes "# mistake 3 range: No port has this number.\n[[event]]\nport = 16\nframes = 1\n\n")
text_of_mistake mistakes.TooFarAway =
    Some (codes "# mistake 3 range: The delay has more than 32 bits.\n"
    ++ codes "[[event]]\nport = 0\nat = 4294967296\nsay = \"none\"\nonu = 0\n\n")
text_of_mistake mistakes.NoSuchOnu =
    Some (codes "# mistake 3 range: The ONU-ID is no octet.\n"
    ++ codes "[[event]]\nport = 0\nat = 0\nsay = \"none\"\nonu = 256\n\n")
text_of_mistake mistakes.ShortSerial =
    Some (codes "# mistake 4 serial: A serial number has a digit too few.\n"
    ++ codes "[[event]]\nport = 0\ncommand = \"show\"\nserial = \"ABCD0000000\"\n\n")
text_of_mistake mistakes.LowerVendor =
    Some (codes "# mistake 4 serial: A vendor code is in lower case.\n"
    ++ codes "[[event]]\nport = 0\ncommand = \"show\"\nserial = \"abcd00000000\"\n\n")
text_of_mistake mistakes.NoDigit =
    Some (codes "# mistake 4 serial: A digit of a serial number is none.\n"
    ++ codes "[[event]]\nport = 0\ncommand = \"show\"\nserial = \"ABCD0000000G\"\n\n")
text_of_mistake mistakes.ShortCode =
    Some (codes "# mistake 5 hex: A code has two digits too few.\n"
    ++ codes "[[event]]\nport = 0\nat = 0\nburst = \"000400000000000000000000\"\n\n")
text_of_mistake mistakes.NoHexDigit =
    Some (codes "# mistake 5 hex: A digit of a code is none.\n"
    ++ codes "[[event]]\nport = 0\nat = 0\nburst = \"000400000000000000000000g0\"\n\n")
text_of_mistake mistakes.AdmittedTwice = None

-- as it is returned
abbrev pub IsMistakeText : Mistake → Option (Bor (List ℕ)) → Type 0
IsMistakeText mistake found = option_map (λ text. text.now) found ≡ text_of_mistake mistake
