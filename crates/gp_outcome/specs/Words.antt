-- Why something did not pass, in words (this profile's own rule).
use Rattle.std.specs.Prelude.{ℕ, Bool, true, false, List, [], ◌++◌, codes, decimal, if◌then◌else◌, string_bytes}
use Rattle.gp_json.specs.Spelling.{quoted}
use Rattle.gp_folder.specs.declared.part.Part.{Part}
use Rattle.gp_folder.specs.declared.part.Part.TheVariants as parts
use Rattle.gp_compare.specs.declared.difference.Difference.{Difference}
use Rattle.gp_compare.specs.declared.shown.LineEnd.{LineEnd}
use Rattle.gp_compare.specs.declared.shown.LineEnd.TheVariants as ends
use Rattle.gp_compare.specs.declared.shown.ShownLine.{ShownLine}
use Rattle.gp_outcome.specs.declared.outcome.Failure.{Failure}
use Rattle.gp_outcome.specs.declared.outcome.Failure.TheVariants as failures

-- what stands behind what is shown of a line, where it isn't a line feed
abbrev pub end_text : LineEnd → List ℕ
end_text ends.Feed = []
end_text ends.Text = codes " with no line feed behind it"
end_text ends.More = codes " and more"

-- there is no such line: the text ended before it
abbrev pub is_no_line_by : List ℕ → LineEnd → Bool
is_no_line_by [] ends.Text = true
is_no_line_by octets end = false

abbrev pub is_no_line : ShownLine → Bool
is_no_line line = is_no_line_by line.octets.items line.end

-- a line between quotation marks, as JSON spells it; the end, where there is no such line
abbrev pub shown_text : ShownLine → List ℕ
shown_text line = if is_no_line line then codes "the end" else quoted line.octets.items ++ end_text line.end

-- where two texts differ, and the line on both sides
abbrev pub difference_text : List ℕ → Difference → List ℕ
difference_text what difference =
    codes "line " ++ decimal difference.line ++ codes " of " ++ what ++ codes ", octet " ++ decimal difference.octet
    ++ codes ": expected " ++ shown_text difference.expected ++ codes ", got " ++ shown_text difference.got

-- which file it is, before what is told of it
abbrev pub part_text : Part → List ℕ
part_text parts.Script = []
part_text parts.Trace = codes "its .trace: "
part_text parts.Faults = codes "its .faults: "

-- why something did not pass, where that takes no name and no line
abbrev pub plain_text : Failure → List ℕ
plain_text failures.NoScripts = codes "no script in it, whose name ends in .toml"
plain_text failures.NoScript = codes "no script beside it, whose name ends in .toml"
plain_text failures.NothingBeside =
    codes "nothing beside it to compare with, neither .trace nor .faults; --bless writes its .trace"
plain_text failures.BothBeside = codes ".trace and .faults stand beside it, of which one can't be right"
plain_text failures.Right = codes "it is a script, but its .faults says that it is wrong"
plain_text failures.NothingPlayed =
    codes "a play of it writes no line, so nothing was compared; give it an [[event]] that does, as frames = 1"
plain_text failures.Stopped = codes "it was not played to its end"
plain_text failures.OutOfMemory = codes "out of memory"
plain_text (failures.Unwritten cause) = codes "its .trace was not written: "
plain_text (failures.Unread part cause) = part_text part
plain_text failure = []

-- the cause that is known of it, or the line that differs
abbrev pub cause_text : Failure → List ℕ
cause_text (failures.Unread part cause) = string_bytes cause
cause_text (failures.Unlisted cause) = string_bytes cause
cause_text (failures.Wrong told) = string_bytes told
cause_text (failures.Unwritten cause) = string_bytes cause
cause_text (failures.OtherTrace difference) = difference_text (codes "its .trace") difference
cause_text (failures.OtherFault difference) = difference_text (codes "its .faults") difference
cause_text failure = []

-- why something did not pass
abbrev pub why_text : Failure → List ℕ
why_text failure = plain_text failure ++ cause_text failure
