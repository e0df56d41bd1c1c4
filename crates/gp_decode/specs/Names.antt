-- The names that G.984.3, clause 9.2, gives to messages that this profile has no row for, by their identifiers.
use Rattle.std.specs.Prelude.{ℕ, ◌==◌, Bool, true, false, List, Option, None, Some, codes, if◌then◌else◌}

-- messages of the line terminal
abbrev pub other_down_name : ℕ → Option (List ℕ)
other_down_name id =
    if id == 8 then Some (codes "Encrypted_Port-ID")
    else if id == 9 then Some (codes "Request_Password")
    else if id == 13 then Some (codes "Request_Key")
    else if id == 14 then Some (codes "Configure_Port-ID")
    else if id == 15 then Some (codes "PEE")
    else if id == 16 then Some (codes "Change_Power_Level")
    else if id == 17 then Some (codes "PST")
    else if id == 18 then Some (codes "BER_interval")
    else if id == 19 then Some (codes "Key_Switching_Time")
    else if id == 20 then Some (codes "Extended_Burst_Length")
    else if id == 21 then Some (codes "PON-ID")
    else if id == 22 then Some (codes "Swift_POPUP")
    else if id == 23 then Some (codes "Ranging_Adjustment")
    else None

-- messages of a unit
abbrev pub other_up_name : ℕ → Option (List ℕ)
other_up_name id =
    if id == 2 then Some (codes "Password")
    else if id == 5 then Some (codes "Encryption_key")
    else if id == 6 then Some (codes "PEE")
    else if id == 7 then Some (codes "PST")
    else if id == 8 then Some (codes "REI")
    else None

-- the name of a message with this identifier, upstream or downstream
abbrev pub other_name : Bool → ℕ → Option (List ℕ)
other_name true id = other_up_name id
other_name false id = other_down_name id
