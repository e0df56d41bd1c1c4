-- What it means that every proper message can be said (this profile's own rule).
use Rattle.std.specs.Prelude.{◌≡◌, ◌<◌, ◌^◌, ℕ, Bool, List, Result, Ok, ⊤}
use Rattle.gp_ploam.specs.declared.check.Mask.{Mask}
use Rattle.gp_ploam.specs.declared.message.Down.{Down}
use Rattle.gp_ploam.specs.declared.message.Down.TheVariants as down
use Rattle.gp_ploam.specs.declared.message.Up.{Up}
use Rattle.gp_ploam.specs.declared.message.Up.TheVariants as up
use Rattle.gp_decode.specs.Line.{HasWords}
use Rattle.gp_lines.specs.Told.{AreOctets}
use Rattle.gp_encode.specs.declared.fault.WordsFault.{WordsFault}
use Rattle.gp_encode.specs.Encoding.{Encodes}
use Rattle.gp_encode.specs.Words.{no_copy}

-- the fields of a message are what their types hold
abbrev pub HoldsDown : Down → Type 0
HoldsDown (down.UpstreamOverhead burst) = AreOctets 10 burst
HoldsDown (down.AssignOnu onu serial) = (onu < 256) × AreOctets 8 serial.0
HoldsDown (down.RangingTime onu eqd) = (onu < 256) × (eqd < 2 ^ 32)
HoldsDown (down.Deactivate onu) = onu < 256
HoldsDown (down.DisableSerial serial) = AreOctets 8 serial.0
HoldsDown (down.EnableSerial serial) = AreOctets 8 serial.0
HoldsDown down.EnableAll = ⊤
HoldsDown (down.AssignAlloc onu alloc keep) = (onu < 256) × (alloc < 2 ^ 16)
HoldsDown down.NoMessage = ⊤
HoldsDown (down.Popup onu) = onu < 256
HoldsDown (down.Other id octet1 body) = (id < 256) × (octet1 < 256) × AreOctets 10 body

abbrev pub HoldsUp : Up → Type 0
HoldsUp (up.SerialNumber onu serial random flags) =
    (onu < 256) × AreOctets 8 serial.0 × (random < 2 ^ 16) × (flags < 256)
HoldsUp (up.DyingGasp onu) = onu < 256
HoldsUp (up.NoMessage onu) = onu < 256
HoldsUp (up.Acknowledge onu id copy) = (onu < 256) × (id < 256) × AreOctets 9 copy
HoldsUp (up.Other id octet1 body) = (id < 256) × (octet1 < 256) × AreOctets 10 body

-- a message as its words have it: an acknowledgement without its copy
abbrev pub as_said : Up → Up
as_said (up.Acknowledge onu id copy) = up.Acknowledge onu id no_copy
as_said message = message

-- these words have a code, of which `decode` says these words
abbrev pub ComeBack : Bool → Mask → List ℕ → Type 0
ComeBack upstream mask words = (answer : Result (List ℕ) WordsFault) → Encodes upstream mask words answer
    → (code : List ℕ) × (answer ≡ Ok code) × HasWords upstream mask code words
