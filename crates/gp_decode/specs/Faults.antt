-- The faults of decoding a line (this profile's own rule).
use Rattle.gp_ploam.specs.declared.message.PloamFault.{PloamFault}
use Rattle.gp_ploam.specs.declared.message.PloamFault.TheVariants as ploam
use Rattle.gp_decode.specs.declared.fault.DecodeFault.{DecodeFault}
use Rattle.gp_decode.specs.declared.fault.DecodeFault.TheVariants as fault

-- a fault of the code as a fault of the line
abbrev pub line_fault_of : PloamFault → DecodeFault
line_fault_of ploam.Length = fault.Length
line_fault_of ploam.Crc = fault.Crc
