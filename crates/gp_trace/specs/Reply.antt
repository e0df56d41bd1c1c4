-- The text of a reply (this profile's own rule).
use Rattle.std.specs.Prelude.{ℕ, Bool, true, false, List, [], ◌∷◌, ◌++◌, codes, decimal}
use Rattle.std.specs.List.{flat_map}
use Rattle.std.specs.FinMap.{entries}
use Rattle.gp_unit.specs.declared.row.Phase.{Phase}
use Rattle.gp_unit.specs.declared.row.Phase.TheVariants.{Ranging, Operating}
use Rattle.gp_unit.specs.declared.row.Row.{Row}
use Rattle.gp_machine.specs.declared.refusal.Refusal.{Refusal}
use Rattle.gp_machine.specs.Refusals.{refusal_name, refusal_number}
use Rattle.gp_machine.specs.declared.reply.Reply.{Reply}
use Rattle.gp_machine.specs.declared.reply.Reply.TheVariants as replies

-- a word and a number
abbrev pub numbered : List ℕ → ℕ → List ℕ
numbered word number = word ++ codes " " ++ decimal number

-- a refusal, by its number and its name
abbrev pub refusal_text : Refusal → List ℕ
refusal_text refusal = numbered (codes "refused") (refusal_number refusal) ++ codes " " ++ refusal_name refusal

-- a mark on an Alloc-ID that the unit is giving back
abbrev pub leaving_text : Bool → List ℕ
leaving_text true = codes "!"
leaving_text false = []

-- an Alloc-ID, and whether it is leaving
abbrev pub alloc_text : ℕ × Bool → List ℕ
alloc_text alloc = decimal alloc.0 ++ leaving_text alloc.1

-- an Alloc-ID behind another
abbrev pub next_alloc_text : ℕ × Bool → List ℕ
next_alloc_text alloc = codes "," ++ alloc_text alloc

-- Alloc-IDs with commas between
abbrev pub listed : List (ℕ × Bool) → List ℕ
listed [] = []
listed (alloc ∷ allocs) = alloc_text alloc ++ flat_map next_alloc_text allocs

-- the further Alloc-IDs of a unit, if it has any
abbrev pub allocs_text : List (ℕ × Bool) → List ℕ
allocs_text [] = codes "-"
allocs_text (alloc ∷ allocs) = listed (alloc ∷ allocs)

-- how far the activation of a unit has gone: its ranging windows without a result, or its equalization delay in bit
-- times
abbrev pub phase_text : Phase → List ℕ
phase_text (Ranging attempts seen) = numbered (codes "ranging") attempts
phase_text (Operating eqd dark garbled) = numbered (codes "operating") eqd

-- what a port knows of a unit; its Alloc-IDs rise
abbrev pub row_text : Row → List ℕ
row_text row =
    numbered (codes "unit") row.onu ++ codes " " ++ phase_text row.phase ++ codes " allocs "
    ++ allocs_text (entries row.allocs)

-- what the port replied
abbrev pub reply_text : Reply → List ℕ
reply_text replies.Ticked = codes "ok"
reply_text (replies.Refused refusal) = refusal_text refusal
reply_text replies.Searching = codes "searching"
reply_text (replies.Found onu) = numbered (codes "found") onu
reply_text (replies.Again onu) = numbered (codes "again") onu
reply_text (replies.Repeat onu) = numbered (codes "repeat") onu
reply_text (replies.Restarted onu) = numbered (codes "restarted") onu
reply_text replies.DisabledSeen = codes "disabled-seen"
reply_text (replies.Ranged onu eqd) = numbered (codes "ranged") onu ++ codes " " ++ decimal eqd
reply_text (replies.TooFar onu) = numbered (codes "too-far") onu
reply_text (replies.StillRanging onu) = numbered (codes "still-ranging") onu
reply_text (replies.Alive onu) = numbered (codes "alive") onu
reply_text (replies.Acked alloc) = numbered (codes "acked") alloc
reply_text (replies.Gasp onu) = numbered (codes "gasp") onu
reply_text (replies.Allocated alloc) = numbered (codes "allocated") alloc
reply_text (replies.Releasing alloc) = numbered (codes "releasing") alloc
reply_text (replies.Deactivated onu) = numbered (codes "deactivated") onu
reply_text replies.Disabled = codes "disabled"
reply_text replies.Enabled = codes "enabled"
reply_text replies.EnabledAll = codes "enabled-all"
reply_text (replies.PoppedUp onu) = numbered (codes "popped-up") onu
reply_text (replies.PoppedUpAll count) = numbered (codes "popped-up-all") count
reply_text (replies.Shown row) = row_text row
