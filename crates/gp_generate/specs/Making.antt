-- The event that a step of a scene is (this profile's own rule).
use Rattle.std.specs.Prelude.{ℕ, ◌+◌, ◌*◌, ◌%◌, List, Option, None, Some, bit_xor, max, slice_index, slice_set}
use Rattle.gp_ploam.specs.declared.check.Mask.{Mask}
use Rattle.gp_ploam.specs.declared.message.Serial.{Serial}
use Rattle.gp_ploam.specs.declared.message.Up.TheVariants as up
use Rattle.gp_ploam.specs.Mask.{mask_value}
use Rattle.gp_ploam.specs.Up.{code_of_up}
use Rattle.gp_machine.specs.declared.event.Command.{Command}
use Rattle.gp_machine.specs.declared.event.Command.TheVariants as commands
use Rattle.gp_generate.specs.declared.action.Action.{Action}
use Rattle.gp_generate.specs.declared.action.Action.TheVariants as actions
use Rattle.gp_generate.specs.declared.cast.Cast.{Cast}
use Rattle.gp_generate.specs.declared.chance.Draw.{Draw}
use Rattle.gp_generate.specs.declared.event.Event.{Event}
use Rattle.gp_generate.specs.declared.event.Event.TheVariants as events
use Rattle.gp_generate.specs.declared.event.Said.{Said}
use Rattle.gp_generate.specs.declared.event.Said.TheVariants as said
use Rattle.gp_generate.specs.declared.plan.Wish.{Wish}
use Rattle.gp_generate.specs.declared.step.Order.{Order}
use Rattle.gp_generate.specs.declared.step.Order.TheVariants as orders
use Rattle.gp_generate.specs.declared.step.Step.{Step}
use Rattle.gp_generate.specs.declared.step.Step.TheVariants as steps
use Rattle.gp_generate.specs.declared.step.Words.{Words}
use Rattle.gp_generate.specs.declared.step.Words.TheVariants as words
use Rattle.gp_generate.specs.Actions.{any_action}
use Rattle.gp_generate.specs.Cast.{cast_anew, serial_of, stranger_of, unit_behind}
use Rattle.gp_generate.specs.Plan.{cycles_of, mask_of}

-- the serial number of the scene's unit, of the one so many places behind it, and of a unit that is not admitted
abbrev pub own_serial : Cast → Serial
own_serial cast = serial_of cast.port cast.unit

abbrev pub serial_behind : Wish → Cast → ℕ → Serial
serial_behind plan cast places = serial_of cast.port (unit_behind plan cast places)

abbrev pub strange_serial : Cast → Serial
strange_serial cast = stranger_of cast.port cast.unit

-- the command that an order is
abbrev pub command_of : Wish → Cast → Order → Command
command_of plan cast orders.Search = commands.Search
command_of plan cast orders.EnableAll = commands.EnableAll
command_of plan cast orders.PopupAll = commands.PopupAll
command_of plan cast orders.Alloc = commands.Alloc (own_serial cast)
command_of plan cast orders.Dealloc = commands.Dealloc (own_serial cast) 256
command_of plan cast orders.Deactivate = commands.Deactivate (own_serial cast)
command_of plan cast orders.Disable = commands.Disable (own_serial cast)
command_of plan cast orders.Enable = commands.Enable (own_serial cast)
command_of plan cast orders.Popup = commands.Popup (own_serial cast)
command_of plan cast orders.Show = commands.Show (own_serial cast)
command_of plan cast orders.ShowStranger = commands.Show (strange_serial cast)
command_of plan cast orders.PopupOther = commands.Popup (serial_behind plan cast 1)

-- the code with which a unit without an ONU-ID says its serial number, with a random delay
unfoldable pub code_of : Mask → Serial → Draw → List ℕ
code_of mask serial draw = code_of_up (up.SerialNumber 255 serial (draw.what % 4096) 0) (mask_value mask)

-- the same with another check octet
abbrev pub garbled_code : Mask → Serial → Draw → List ℕ
garbled_code mask serial draw =
    slice_set (code_of mask serial draw) 12 (bit_xor (slice_index (code_of mask serial draw) 12) (draw.who % 255 + 1))

-- what is said in words
abbrev pub said_of : Wish → Cast → Words → Option Said
said_of plan cast (words.New places) = Some (said.Serial (serial_behind plan cast places) 255)
said_of plan cast words.Code = None
said_of plan cast words.Garbled = None
said_of plan cast words.Stranger = Some (said.Serial (strange_serial cast) 255)
said_of plan cast words.Own = Some (said.Serial (own_serial cast) 0)
said_of plan cast words.Far = Some (said.Serial (own_serial cast) 0)
said_of plan cast words.Other = Some (said.Serial (serial_behind plan cast 1) 0)
said_of plan cast words.Gasp = Some (said.Gasp 0)
said_of plan cast words.Nothing = Some (said.Nothing 0)
said_of plan cast words.Elsewhere = Some (said.Nothing 1)
said_of plan cast words.Ack = Some (said.Ack 0 10)

-- the code of what isn't
abbrev pub code_said : Wish → Cast → Words → Draw → List ℕ
code_said plan cast words.Garbled draw = garbled_code (mask_of plan) (own_serial cast) draw
code_said plan cast _ draw = code_of (mask_of plan) (own_serial cast) draw

-- from how far away, in bit times
abbrev pub distance_of : Cast → Words → ℕ
distance_of cast words.Far = cast.at + 400000
distance_of cast _ = cast.at

abbrev pub burst_with : Wish → Cast → Words → Draw → Option Said → Event
burst_with plan cast words draw (Some said) = events.Say cast.port (distance_of cast words) said
burst_with plan cast words draw None = events.Burst cast.port (distance_of cast words) (code_said plan cast words draw)

-- the burst in which something is said
abbrev pub burst_of : Wish → Cast → Words → Draw → Event
burst_of plan cast words draw = burst_with plan cast words draw (said_of plan cast words)

-- the event that an action is
abbrev pub event_of : Wish → Cast → Action → Draw → Event
event_of plan cast (actions.Frames count) draw = events.Frames cast.port (max count 1)
event_of plan cast (actions.Say words) draw = burst_of plan cast words draw
event_of plan cast (actions.Ask order) draw = events.Command cast.port (command_of plan cast order)
event_of plan cast (actions.Light lit) draw = events.Light cast.unit lit

-- the event of a step; up to a ranging window there are four frames for each search window
abbrev pub event_of_step : List Words → List Order → Wish → Cast → Step → Draw → Event
event_of_step sayings orders plan cast (steps.Frames count) draw = event_of plan cast (actions.Frames count) draw
event_of_step sayings orders plan cast steps.Ranging draw =
    event_of plan cast (actions.Frames (4 * cycles_of plan cast.port)) draw
event_of_step sayings orders plan cast (steps.Say words) draw = event_of plan cast (actions.Say words) draw
event_of_step sayings orders plan cast (steps.Ask order) draw = event_of plan cast (actions.Ask order) draw
event_of_step sayings orders plan cast steps.Wild draw =
    event_of plan (cast_anew plan cast draw) (any_action sayings orders plan draw) draw
