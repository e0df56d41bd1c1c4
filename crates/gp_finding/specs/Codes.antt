-- How many codes the lines of an input have, and how many of these are garbled: their check octet is wrong under the mask
-- (this profile's own rule). Each code of a line counts, whatever the time of the line.
use Rattle.std.specs.Prelude.{◌≡◌, ◌+◌, ◌-◌, ◌^◌, ◌==◌, ◌&&◌, ℕ, Bool, true, false, nat_lt, min, List, [], ◌∷◌, Option, None, Some, Ok}
use Rattle.gp_ploam.specs.declared.check.Mask.{Mask}
use Rattle.gp_log.specs.declared.said.Said.{Said}
use Rattle.gp_log.specs.declared.said.Said.TheVariants as said
use Rattle.gp_log.specs.declared.line.LogLine.{LogLine}
use Rattle.gp_log.specs.declared.line.LogLine.TheVariants as line
use Rattle.gp_log.specs.Line.{Reads}
use Rattle.gp_finding.specs.declared.codes.Codes.{Codes}
use Rattle.gp_finding.specs.Hearing.{is_right}

-- before the first code
abbrev pub no_codes : Codes
no_codes = record { came = 0; garbled = 0 }

-- one more; 64 bits hold how many
abbrev pub one_more : ℕ → ℕ
one_more count = min (count + 1) (2 ^ 64 - 1)

-- a code is garbled, whose check octet is not right under the mask
abbrev pub garbled_with : Bool → ℕ → ℕ
garbled_with true garbled = garbled
garbled_with false garbled = one_more garbled

-- behind a code
abbrev pub with_code : Mask → List ℕ → Codes → Codes
with_code mask code codes =
    record { came = one_more codes.came; garbled = garbled_with (is_right mask code) codes.garbled }

-- behind what is said: a grant has no code
abbrev pub with_said : Mask → Said → Codes → Codes
with_said mask (said.Down code) codes = with_code mask code codes
with_said mask (said.Up code delay) codes = with_code mask code codes
with_said mask (said.Grant grant) codes = codes

abbrev pub with_some : Mask → Option Said → Codes → Codes
with_some mask None codes = codes
with_some mask (Some said) codes = with_said mask said codes

-- behind a line
abbrev pub codes_after : Mask → LogLine → Codes → Codes
codes_after mask line.Remark codes = codes
codes_after mask (line.Log port time said) codes = with_said mask said codes
codes_after mask (line.Trace port is_frame first second) codes =
    with_some mask second (with_some mask first codes)

-- each of these lines is read, and its codes lead from some counts to others
abbrev pub CodesLead : Mask → List (List ℕ) → Codes → Codes → Type 0
CodesLead mask [] from to = to ≡ from
CodesLead mask (text ∷ texts) from to =
    (line : LogLine) × Reads text (Ok line) × CodesLead mask texts (codes_after mask line from) to

-- these lines were read, and so many codes came with them, of which so many are garbled under the mask
abbrev pub HaveCodes : Mask → List (List ℕ) → Codes → Type 0
HaveCodes mask texts codes = CodesLead mask texts no_codes codes

-- there are codes, and all of them are garbled
abbrev pub are_all_garbled : Codes → Bool
are_all_garbled codes = nat_lt 0 codes.came && codes.garbled == codes.came
