-- Worked cases of what is told, by literal texts: each rule once, and each form.
use Rattle.std.proofs.Common.{◌≡◌, ℕ, true, false, List, [], ◌∷◌, None, Some, codes, refl}
use Rattle.std.specs.FinMap.{get}
use Rattle.std.specs.Fmt.{digits}
use Rattle.hex.specs.Hex.{encode_with}
use Rattle.gp_ploam.specs.declared.check.Mask.TheVariants.{Plain}
use Rattle.gp_ploam.specs.Crc.{crc_of}
use Rattle.gp_ploam.specs.declared.message.Serial.{Serial}
use Rattle.gp_ploam.specs.declared.message.Down.TheVariants.{AssignOnu, RangingTime, Deactivate, AssignAlloc, Popup}
use Rattle.gp_ploam.specs.declared.message.Up.TheVariants.{SerialNumber, DyingGasp, Acknowledge}
use Rattle.gp_ranging.specs.declared.grant.Grant.TheVariants.{Range, Poll}
use Rattle.gp_serial.specs.Spelling.{text_of_serial}
use Rattle.gp_observer.specs.declared.rule.Rule.{Rule}
use Rattle.gp_observer.specs.declared.rule.Rule.TheVariants as rule
use Rattle.gp_observer.specs.Watch.{Watch}
use Rattle.gp_observer.specs.Rules.{Settings}
use Rattle.gp_observer.specs.Heard.{Heard, HeardDown, HeardUp, HeardGrant}
use Rattle.gp_log.specs.declared.fault.LogFault.TheVariants as fault
use Rattle.gp_log.specs.declared.said.Said.{Said}
use Rattle.gp_log.specs.declared.said.Said.TheVariants as said
use Rattle.gp_finding.specs.declared.error.LineError.TheVariants as errors
use Rattle.gp_finding.specs.declared.push.Place.{Place}
use Rattle.gp_watch.specs.Changes.{onu_held}
use Rattle.gp_finding.specs.Why.{why_of}
use Rattle.gp_finding.specs.Text.{error_text, finding_text, sum_text}
use Rattle.gp_finding.specs.Object.{error_object, finding_object, sum_object}

abbrev first : Serial
first = record { 0 = 65 ∷ 66 ∷ 67 ∷ 68 ∷ 0 ∷ 0 ∷ 0 ∷ 1 ∷ [] }

abbrev second : Serial
second = record { 0 = 65 ∷ 66 ∷ 67 ∷ 68 ∷ 0 ∷ 0 ∷ 0 ∷ 2 ∷ [] }

abbrev settings : Settings
settings = record { teqd = 311040; drift = 8 }

abbrev place : Place
place = record { line = 25; port = 0 }

-- the octets of a message that is heard don't matter
abbrev told : Watch → Heard → Rule → List ℕ
told watch heard rule = finding_text place (said.Down []) heard rule (why_of Plain settings watch (said.Down []) heard rule)

-- a code of zeros with this check octet
abbrev zeros : ℕ → List ℕ
zeros check = 0 ∷ 0 ∷ 0 ∷ 0 ∷ 0 ∷ 0 ∷ 0 ∷ 0 ∷ 0 ∷ 0 ∷ 0 ∷ 0 ∷ check ∷ []

abbrev garbled : Watch → Said → Heard → List ℕ
garbled watch octets heard = finding_text place octets heard rule.Garbled (why_of Plain settings watch octets heard rule.Garbled)

-- ---- of a terminal

garbled_down : (watch : Watch) → garbled watch (said.Down (zeros 1)) (HeardDown None)
    ≡ codes "line 25: terminal garbled: 00000000000000000000000001, 00 should stand\n"
unfolding crc_of digits encode_with
garbled_down watch = refl

garbled_up : (watch : Watch) → garbled watch (said.Up (zeros 85) None) (HeardUp None None)
    ≡ codes "line 25: unit garbled: 00000000000000000000000055, right under mask 85\n"
unfolding crc_of digits encode_with
garbled_up watch = refl

copies : (watch : Watch) → watch.to_come ≡ 2
    → told watch (HeardDown (Some (Deactivate 4))) rule.Copies ≡ codes "line 25: terminal copies: Deactivate_ONU-ID 4, 2 copies of the message before are missing\n"
unfolding digits
copies watch h = rw h refl

one_copy : (watch : Watch) → watch.to_come ≡ 1
    → told watch (HeardDown (Some (Deactivate 4))) rule.Copies ≡ codes "line 25: terminal copies: Deactivate_ONU-ID 4, 1 copy of the message before is missing\n"
unfolding digits
one_copy watch h = rw h refl

range : (watch : Watch) → told watch (HeardDown (Some (AssignOnu 254 first))) rule.Range ≡ codes "line 25: terminal range: Assign_ONU-ID 254 ABCD00000001, ONU-IDs are 0 to 253\n"
unfolding digits encode_with text_of_serial
range watch = refl

alloc_range : (watch : Watch) → told watch (HeardDown (Some (AssignAlloc 3 255 true))) rule.Range
    ≡ codes "line 25: terminal range: Assign_Alloc-ID 3 255 keep, a unit's further Alloc-IDs begin at 256\n"
unfolding digits
alloc_range watch = refl

barred : (watch : Watch) → told watch (HeardDown (Some (AssignOnu 3 first))) rule.Barred ≡ codes "line 25: terminal barred: Assign_ONU-ID 3 ABCD00000001, it is disabled\n"
unfolding digits encode_with text_of_serial
barred watch = refl

unasked : (watch : Watch) → told watch (HeardDown (Some (AssignOnu 3 first))) rule.Unasked ≡ codes "line 25: terminal unasked: Assign_ONU-ID 3 ABCD00000001, it didn't ask\n"
unfolding digits encode_with text_of_serial
unasked watch = refl

taken : (watch : Watch) → get watch.seen.holder 3 ≡ Some first
    → told watch (HeardDown (Some (AssignOnu 3 second))) rule.Taken ≡ codes "line 25: terminal taken: Assign_ONU-ID 3 ABCD00000002, 3 is of ABCD00000001\n"
unfolding digits encode_with text_of_serial
taken watch h = rw h refl

renumbered : (watch : Watch) → onu_held watch first ≡ Some 5
    → told watch (HeardDown (Some (AssignOnu 3 first))) rule.Renumbered ≡ codes "line 25: terminal renumbered: Assign_ONU-ID 3 ABCD00000001, it holds 5\n"
unfolding digits encode_with text_of_serial
renumbered watch h = rw h refl

nobody : (watch : Watch) → told watch (HeardDown (Some (Popup 7))) rule.Nobody ≡ codes "line 25: terminal nobody: POPUP 7, nobody holds 7\n"
unfolding digits
nobody watch = refl

unranged : (watch : Watch) → told watch (HeardDown (Some (RangingTime 3 310040))) rule.Unranged
    ≡ codes "line 25: terminal unranged: Ranging_Time 3 310040, its serial number was not heard with 3\n"
unfolding digits
unranged watch = refl

delay : (watch : Watch) → told watch (HeardDown (Some (RangingTime 3 310040))) rule.Delay
    ≡ codes "line 25: terminal delay: Ranging_Time 3 310040, no answer had a delay of 1000\n"
unfolding digits
delay watch = refl

great_delay : (watch : Watch) → told watch (HeardDown (Some (RangingTime 3 311041))) rule.Delay
    ≡ codes "line 25: terminal delay: Ranging_Time 3 311041, the equalized delay is 311040\n"
unfolding digits
great_delay watch = refl

early : (watch : Watch) → told watch (HeardDown (Some (AssignAlloc 3 256 true))) rule.Early ≡ codes "line 25: terminal early: Assign_Alloc-ID 3 256 keep, it has no delay yet\n"
unfolding digits
early watch = refl

shared : (watch : Watch) → get watch.seen.alloc 256 ≡ Some 4
    → told watch (HeardDown (Some (AssignAlloc 3 256 true))) rule.Shared ≡ codes "line 25: terminal shared: Assign_Alloc-ID 3 256 keep, 256 is of 4\n"
unfolding digits
shared watch h = rw h refl

not_held : (watch : Watch) → get watch.seen.alloc 256 ≡ Some 4
    → told watch (HeardDown (Some (AssignAlloc 3 256 false))) rule.NotHeld ≡ codes "line 25: terminal not-held: Assign_Alloc-ID 3 256 back, 256 is of 4\n"
unfolding digits
not_held watch h = rw h refl

unowned : (watch : Watch) → get watch.seen.alloc 256 ≡ None
    → told watch (HeardDown (Some (AssignAlloc 3 256 false))) rule.NotHeld ≡ codes "line 25: terminal not-held: Assign_Alloc-ID 3 256 back, nobody has 256\n"
unfolding digits
unowned watch h = rw h refl

grant_nobody : (watch : Watch) → get watch.seen.holder 9 ≡ None → told watch (HeardGrant (Range 9)) rule.Grant ≡ codes "line 25: terminal grant: grant range 9, nobody holds 9\n"
unfolding digits
grant_nobody watch h = rw h refl

grant_early : (watch : Watch) → get watch.seen.holder 9 ≡ Some first → told watch (HeardGrant (Poll 9)) rule.Grant ≡ codes "line 25: terminal grant: grant poll 9, 9 has no delay yet\n"
unfolding digits
grant_early watch h = rw h refl

-- ---- of a unit

disabled : (watch : Watch) → told watch (HeardUp (Some (SerialNumber 255 first 12 0)) None) rule.Disabled
    ≡ codes "line 25: unit disabled: Serial_Number_ONU 255 ABCD00000001 12 0, it is disabled\n"
unfolding digits encode_with text_of_serial
disabled watch = refl

anew : (watch : Watch) → onu_held watch first ≡ Some 5
    → told watch (HeardUp (Some (SerialNumber 255 first 12 0)) None) rule.Anew ≡ codes "line 25: unit anew: Serial_Number_ONU 255 ABCD00000001 12 0, it holds 5\n"
unfolding digits encode_with text_of_serial
anew watch h = rw h refl

number : (watch : Watch) → get watch.seen.holder 9 ≡ None → told watch (HeardUp (Some (DyingGasp 9)) None) rule.Number ≡ codes "line 25: unit number: Dying_Gasp 9, nobody holds 9\n"
unfolding digits
number watch h = rw h refl

acknowledge : (watch : Watch) → told watch (HeardUp (Some (Acknowledge 3 10 [])) None) rule.Acknowledge ≡ codes "line 25: unit acknowledge: Acknowledge 3 10, none was sent to it\n"
unfolding digits
acknowledge watch = refl

drift : (watch : Watch) → get watch.seen.delay 3 ≡ Some 310040
    → told watch (HeardUp (Some (DyingGasp 3)) (Some 1020)) rule.Drift ≡ codes "line 25: unit drift: Dying_Gasp 3, it was ranged with 1000, its delay is 1020\n"
unfolding digits
drift watch h = rw h refl

-- a message that can't break the rule has no reason
no_reason : (watch : Watch) → told watch (HeardDown (Some (Popup 7))) rule.Anew ≡ codes "line 25: terminal anew: POPUP 7, \n"
unfolding digits
no_reason watch = refl

-- ---- another port, and objects

other_port : (watch : Watch) → finding_text (record { line = 25; port = 3 }) (said.Down []) (HeardDown (Some (Popup 7))) rule.Nobody (why_of Plain settings watch (said.Down []) (HeardDown (Some (Popup 7))) rule.Nobody)
    ≡ codes "line 25, port 3: terminal nobody: POPUP 7, nobody holds 7\n"
unfolding digits
other_port watch = refl

taken_object : (watch : Watch) → get watch.seen.holder 3 ≡ Some first
    → finding_object watch place (HeardDown (Some (AssignOnu 3 second))) rule.Taken (why_of Plain settings watch (said.Down []) (HeardDown (Some (AssignOnu 3 second))) rule.Taken)
    ≡ codes "{\"line\":25,\"port\":0,\"side\":\"terminal\",\"rule\":\"taken\",\"message\":\"Assign_ONU-ID 3 ABCD00000002\",\"onu\":3,\"serial\":\"ABCD00000002\",\"why\":\"3 is of ABCD00000001\"}\n"
unfolding digits encode_with text_of_serial
taken_object watch h = rw h refl

-- the holder of the ONU-ID that is named
grant_object : (watch : Watch) → get watch.seen.holder 9 ≡ Some first
    → finding_object watch place (HeardGrant (Poll 9)) rule.Grant (why_of Plain settings watch (said.Grant (Poll 9)) (HeardGrant (Poll 9)) rule.Grant)
    ≡ codes "{\"line\":25,\"port\":0,\"side\":\"terminal\",\"rule\":\"grant\",\"message\":\"grant poll 9\",\"onu\":9,\"serial\":\"ABCD00000001\",\"why\":\"9 has no delay yet\"}\n"
unfolding digits encode_with text_of_serial
grant_object watch h = rw h refl

garbled_object : (watch : Watch) → finding_object watch place (HeardUp None None) rule.Garbled (why_of Plain settings watch (said.Up (zeros 1) None) (HeardUp None None) rule.Garbled)
    ≡ codes "{\"line\":25,\"port\":0,\"side\":\"unit\",\"rule\":\"garbled\",\"message\":null,\"onu\":null,\"serial\":null,\"why\":\"00 should stand\"}\n"
unfolding crc_of digits encode_with
garbled_object watch = refl

-- ---- errors, and the sum

full : error_text 7 errors.Full ≡ codes "error 7 full\n"
unfolding digits
full = refl

code_error : error_object 5 (errors.Log fault.Code) ≡ codes "{\"error\":\"code\",\"line\":5}\n"
unfolding digits
code_error = refl

many : sum_text (record { lines = 412; findings = 2; errors = 0 }) ≡ codes "412 lines, 2 findings\n"
unfolding digits
many = refl

one_each : sum_text (record { lines = 1; findings = 1; errors = 1 }) ≡ codes "1 line, 1 finding, 1 error\n"
one_each = refl

sum_as_object : sum_object (record { lines = 412; findings = 2; errors = 0 }) ≡ codes "{\"lines\":412,\"findings\":2,\"errors\":0}\n"
unfolding digits
sum_as_object = refl
