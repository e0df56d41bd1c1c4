-- What an entry's types hold of it, as far as its line is told by that (this profile's own rule).
-- Inside: no public contract cites this.
use Rattle.std.specs.Prelude.{◌≡◌, ℕ, ◌<◌, ◌^◌, Bool, true, false, List, Option, None, Some, Ok, ⊤}
use Rattle.hex.specs.Hex.{decode_sized, encode_lower}
use Rattle.gp_ploam.specs.declared.check.Mask.{Mask}
use Rattle.gp_ploam.specs.declared.message.Down.{Down}
use Rattle.gp_ploam.specs.Down.{code_of_down}
use Rattle.gp_ploam.specs.Mask.{mask_value}
use Rattle.gp_ranging.specs.declared.grant.Grant.{Grant}
use Rattle.gp_ranging.specs.declared.grant.Grant.TheVariants as grants
use Rattle.gp_unit.specs.declared.row.Phase.{Phase}
use Rattle.gp_unit.specs.declared.row.Phase.TheVariants.{Ranging, Operating}
use Rattle.gp_machine.specs.declared.event.Command.{Command}
use Rattle.gp_machine.specs.declared.event.Command.TheVariants.{Dealloc}
use Rattle.gp_machine.specs.declared.event.Event.{Event}
use Rattle.gp_machine.specs.declared.event.Event.TheVariants as events
use Rattle.gp_machine.specs.declared.reply.Reply.{Reply}
use Rattle.gp_machine.specs.declared.reply.Reply.TheVariants as replies
use Rattle.gp_json.specs.Fields.{TellsFields, TellsMessage}

-- a number of 64 bits
abbrev pub IsSmall : ℕ → Type 0
IsSmall number = number < 2 ^ 64

-- octets are a code, and its message is told, or that its check octet is wrong
pub record IsCodeTold (upstream : Bool) (mask : Mask) (octets : List ℕ) : Type 0 where
  pub spelled : decode_sized (encode_lower octets) 13 ≡ Ok octets
  pub message : List ℕ
  pub fields : List ℕ
  pub tells : TellsMessage upstream mask octets message
  pub shows : TellsFields upstream mask octets fields

abbrev pub CommandHolds : Command → Type 0
CommandHolds (Dealloc serial alloc) = IsSmall alloc
CommandHolds _ = ⊤

abbrev pub EventHolds : Mask → Event → Type 0
EventHolds told events.Frame = ⊤
EventHolds told (events.Burst at octets) = IsSmall at × IsCodeTold true told octets
EventHolds told (events.Command command) = CommandHolds command

abbrev pub SentHolds : Mask → Mask → Option Down → Type 0
SentHolds mask told None = ⊤
SentHolds mask told (Some message) = IsCodeTold false told (code_of_down message (mask_value mask))

abbrev pub GrantHolds : Option Grant → Type 0
GrantHolds None = ⊤
GrantHolds (Some grants.Search) = ⊤
GrantHolds (Some (grants.Range onu)) = IsSmall onu
GrantHolds (Some (grants.Poll onu)) = IsSmall onu

abbrev pub PhaseHolds : Phase → Type 0
PhaseHolds (Ranging attempts seen) = IsSmall attempts
PhaseHolds (Operating eqd dark garbled) = IsSmall eqd

abbrev pub ReplyHolds : Reply → Type 0
ReplyHolds (replies.Found onu) = IsSmall onu
ReplyHolds (replies.Again onu) = IsSmall onu
ReplyHolds (replies.Repeat onu) = IsSmall onu
ReplyHolds (replies.Restarted onu) = IsSmall onu
ReplyHolds (replies.Ranged onu eqd) = IsSmall onu × IsSmall eqd
ReplyHolds (replies.TooFar onu) = IsSmall onu
ReplyHolds (replies.StillRanging onu) = IsSmall onu
ReplyHolds (replies.Alive onu) = IsSmall onu
ReplyHolds (replies.Acked alloc) = IsSmall alloc
ReplyHolds (replies.Gasp onu) = IsSmall onu
ReplyHolds (replies.Allocated alloc) = IsSmall alloc
ReplyHolds (replies.Releasing alloc) = IsSmall alloc
ReplyHolds (replies.Deactivated onu) = IsSmall onu
ReplyHolds (replies.PoppedUp onu) = IsSmall onu
ReplyHolds (replies.PoppedUpAll count) = IsSmall count
ReplyHolds (replies.Shown row) = IsSmall row.onu × PhaseHolds row.phase
ReplyHolds _ = ⊤
