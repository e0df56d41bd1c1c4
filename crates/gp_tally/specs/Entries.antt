-- What an entry tells that is counted, and what is counted of entries (this profile's own rule): no line is spoken of.
use Rattle.std.specs.Prelude.{◌≡◌, ℕ, ◌<◌, ◌≤◌, ◌^◌, Bool, true, false, List, [], ◌∷◌, Option, None, Some, IfSome, length, replicate}
use Rattle.gp_ploam.specs.declared.check.Mask.{Mask}
use Rattle.gp_machine.specs.declared.answer.Answer.{Answer}
use Rattle.gp_machine.specs.declared.entry.Entry.{Entry}
use Rattle.gp_machine.specs.declared.entry.Receipt.{Receipt}
use Rattle.gp_machine.specs.declared.refusal.Refusal.{Refusal}
use Rattle.gp_machine.specs.declared.reply.Reply.{Reply}
use Rattle.gp_machine.specs.declared.reply.Reply.TheVariants.{Found, Ranged, Refused}
use Rattle.gp_lines.specs.Spelling.{last_port}
use Rattle.gp_lines.specs.Told.{AreOctets, IsTold}
use Rattle.gp_tally.specs.declared.told.Answered.{Answered}
use Rattle.gp_tally.specs.declared.told.Told.{Told}
use Rattle.gp_tally.specs.Ports.{told_at}
use Rattle.gp_tally.specs.Tally.{PortTally, no_tally}
use Rattle.gp_tally.specs.Told.{HappensAs}

-- ---- an entry

-- why something was refused, if it was
abbrev pub refused_of : Reply → Option Refusal
refused_of (Refused refusal) = Some refusal
refused_of _ = None

-- the ONU-ID of the unit that was found, if one was
abbrev pub found_of : Reply → Option ℕ
found_of (Found onu) = Some onu
found_of _ = None

-- whether a unit was ranged
abbrev pub ranged_of : Reply → Bool
ranged_of (Ranged onu eqd) = true
ranged_of _ = false

-- what a port gave for an event, as far as it is counted
abbrev pub answered_of : Answer → Answered
answered_of answer = record {
  refused = refused_of answer.reply;
  found = found_of answer.reply;
  ranged = ranged_of answer.reply;
  alarm = answer.alarm;
}

-- what an entry tells, a burst with the message that it is read as under the mask
pub record TellsEntry (mask : Mask) (entry : Entry) (told : Told) : Type 0 where
  pub happened : HappensAs mask entry.event told.happened
  pub answered_is : told.answered ≡ answered_of entry.answer

-- ---- entries of ports

-- the octets and numbers of an entry are what their types hold, and its port and the Alloc-ID that it names are within
-- their limits
pub record IsWithinLimits (receipt : Receipt) : Type 0 where
  pub port : receipt.port ≤ last_port
  pub number : receipt.number < 2 ^ 64
  pub event : IsTold receipt.entry.event
  pub found : IfSome (found_of receipt.entry.answer.reply) (λ onu. onu < 2 ^ 16)
  pub alarm : IfSome receipt.entry.answer.alarm (λ alarm. AreOctets 8 alarm.serial.0)

-- an entry is counted for its port
pub record CountsEntry (mask : Mask) (receipt : Receipt) (old new : List PortTally) : Type 0 where
  pub told : Told
  pub tells : TellsEntry mask receipt.entry told
  pub counted : new ≡ told_at old receipt.port told

-- entries are counted one after another
abbrev pub CountsEntries : Mask → List Receipt → List PortTally → List PortTally → Type 0
CountsEntries mask [] old new = new ≡ old
CountsEntries mask (receipt ∷ receipts) old new =
    (mid : List PortTally) × CountsEntry mask receipt old mid × CountsEntries mask receipts mid new

-- what is counted of each port by these entries, of which nothing was counted before
abbrev pub AreCountsOf : Mask → List Receipt → List PortTally → Type 0
AreCountsOf mask receipts ports = CountsEntries mask receipts (replicate (length ports) no_tally) ports
