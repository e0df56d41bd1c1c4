-- The declarations of a dump: a scope a port, and in it a scope a lane (this profile's own rule).
use Rattle.std.specs.Prelude.{ℕ, ◌+◌, List, [], ◌∷◌, ◌++◌, Option, None, Some, codes, decimal, zero, suc}
use Rattle.gp_dump.specs.Text.{port_id, unit_id}

-- a variable of this type and width, with its identifier and its name
unfoldable pub variable_text : List ℕ → List ℕ → List ℕ → List ℕ
variable_text kind id name = codes "$var " ++ kind ++ id ++ name ++ codes " $end\n"

-- a scope of this name, with its number
unfoldable pub scope_text : List ℕ → ℕ → List ℕ
scope_text name number = name ++ decimal number ++ codes " $end\n"

unfoldable pub end_text : List ℕ
end_text = codes "$upscope $end\n"

-- what is sent on a port, and what is granted
unfoldable pub down_text : ℕ → List ℕ
down_text port =
    variable_text (codes "wire 1 ") (port_id port 102) (codes " frame")
    ++ variable_text (codes "reg 104 ") (port_id port 115) (codes " sent")
    ++ variable_text (codes "reg 8 ") (port_id port 103) (codes " grant")
    ++ variable_text (codes "reg 8 ") (port_id port 97) (codes " asked")

-- what comes back
unfoldable pub up_text : ℕ → List ℕ
up_text port =
    variable_text (codes "reg 8 ") (port_id port 119) (codes " window")
    ++ variable_text (codes "reg 104 ") (port_id port 98) (codes " burst")
    ++ variable_text (codes "reg 32 ") (port_id port 100) (codes " delay")
    ++ variable_text (codes "reg 8 ") (port_id port 108) (codes " alarm")

-- what is known of a unit
unfoldable pub unit_text : ℕ → ℕ → List ℕ
unit_text port lane =
    variable_text (codes "reg 64 ") (unit_id port 110 lane) (codes " serial")
    ++ variable_text (codes "reg 8 ") (unit_id port 116 lane) (codes " state")
    ++ variable_text (codes "reg 8 ") (unit_id port 111 lane) (codes " onu")
    ++ variable_text (codes "reg 32 ") (unit_id port 101 lane) (codes " delay")

-- where the scope of a lane begins, and that of a port
unfoldable pub unit_scope : ℕ → List ℕ
unit_scope lane = scope_text (codes "$scope module unit") lane

unfoldable pub port_scope : ℕ → List ℕ
port_scope port = scope_text (codes "$scope module port") port

unfoldable pub lane_text : ℕ → ℕ → List ℕ
lane_text port lane = unit_scope lane ++ unit_text port lane ++ end_text

-- so many lanes
abbrev pub lanes_text : ℕ → ℕ → List ℕ
lanes_text port zero = []
lanes_text port (suc lanes) = lanes_text port lanes ++ lane_text port lanes

-- a port of so many lanes
unfoldable pub port_text : ℕ → ℕ → List ℕ
port_text port lanes =
    port_scope port ++ down_text port ++ up_text port ++ lanes_text port lanes ++ end_text

-- a port, if it is declared
abbrev pub port_if : ℕ → Option ℕ → List ℕ
port_if port None = []
port_if port (Some lanes) = port_text port lanes

-- the ports from this one on, each with how many lanes it has, if it is declared
abbrev pub ports_text : ℕ → List (Option ℕ) → List ℕ
ports_text port [] = []
ports_text port (lanes ∷ ports) = port_if port lanes ++ ports_text (port + 1) ports

-- what times are counted in, and what the numbers stand for
unfoldable pub front_text : List ℕ
front_text = codes "$timescale 1 ns $end\n$comment grant, window: 1 search, 2 range, 3 poll; alarm: 1 LOS, 2 LOAM, 3 LOA, 4 SUF, 5 DF, 6 DG; state: 0 removed, 1 asking, 2 ranging, 3 operating; z: none $end\n"

unfoldable pub last_text : List ℕ
last_text = codes "$enddefinitions $end\n"

abbrev pub head_text : List (Option ℕ) → List ℕ
head_text ports = front_text ++ ports_text 0 ports ++ last_text
