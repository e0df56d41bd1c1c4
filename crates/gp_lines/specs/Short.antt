-- Answers whose lines are not too long (this profile's own rule).
use Rattle.std.specs.Prelude.{◌≡◌, ◌≤◌, length, ⊤}
use Rattle.std.specs.FinMap.{len}
use Rattle.std.specs.Option.{ForSome}
use Rattle.gp_ploam.specs.Down.{IsProperDown}
use Rattle.gp_pools.specs.Slots.{max_allocs}
use Rattle.gp_machine.specs.declared.reply.Reply.{Reply}
use Rattle.gp_machine.specs.declared.reply.Reply.TheVariants.{Shown}
use Rattle.gp_machine.specs.declared.answer.Answer.{Answer}

-- a row that is shown has no more further Alloc-IDs than a unit may have
abbrev pub HasShortReply : Reply → Type 0
HasShortReply (Shown row) = len row.allocs ≤ max_allocs
HasShortReply _ = ⊤

-- its parts are no longer than they may be: the row that it shows, the message that was sent, and the serial number of
-- the alarm
pub record IsShortAnswer (answer : Answer) : Type 0 where
  pub reply : HasShortReply answer.reply
  pub sent : ForSome answer.sent IsProperDown
  pub alarm : ForSome answer.alarm (λ alarm. length alarm.serial.0 ≡ 8)
