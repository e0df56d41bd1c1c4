-- Why there is no line.
use Rattle.std.proofs.Common.{◌≡◌, ℕ, Bool, true, false, List, ◌++◌, length, codes, Ok, refl}
use Rattle.hex.specs.Hex.{decode_of}
use Rattle.gp_ploam.specs.declared.check.Mask.{Mask}
use Rattle.gp_decode.specs.declared.fault.DecodeFault.{DecodeFault}
use Rattle.gp_decode.specs.declared.fault.DecodeFault.TheVariants as fault
use Rattle.gp_decode.specs.Message.{down_text, up_text}
use Rattle.gp_decode.specs.Line.{HasDecodeFault, HasWordsIn, LacksLine, LacksWords}

-- a text with a fault of its own has no line
pub lacks_line : (upstream : Bool) (mask : Mask) (text : List ℕ) (f : DecodeFault) → HasDecodeFault mask text f → LacksLine upstream mask text f
lacks_line upstream mask text fault.Length h = h
lacks_line upstream mask text fault.Digit h = h
lacks_line upstream mask text fault.Crc h = h
lacks_line upstream mask text fault.OutOfMemory h = absurd h
lacks_line upstream mask text fault.Write h = absurd h
lacks_line upstream mask text fault.Direction h = absurd h

-- why thirteen octets have no words is why a text of their digits has no line
pub lacks_words : (upstream : Bool) (mask : Mask) (text code : List ℕ) (f : DecodeFault) → decode_of text ≡ Ok code → length code ≡ 13
    → LacksWords upstream mask code f → LacksLine upstream mask text f
lacks_words upstream mask text code fault.OutOfMemory spelled long h =
    (h.0 ++ codes "\n", record { code = code; spelled = spelled; said = (h.0, h.1, refl) })
lacks_words upstream mask text code fault.Crc spelled long h = (code, spelled, long, h)
lacks_words upstream mask text code fault.Length spelled long h = absurd h
lacks_words upstream mask text code fault.Digit spelled long h = absurd h
lacks_words upstream mask text code fault.Write spelled long h = absurd h
lacks_words upstream mask text code fault.Direction spelled long h = absurd h

-- thirteen octets that have words with names of the standard have words, which there was no memory for
pub lacks_memory : (names upstream : Bool) (mask : Mask) (code words : List ℕ) → HasWordsIn names upstream mask code words
    → LacksWords upstream mask code fault.OutOfMemory
lacks_memory names true mask code words h = (up_text h.0, (h.0, h.1, refl))
lacks_memory names false mask code words h = (down_text h.0, (h.0, h.1, refl))
