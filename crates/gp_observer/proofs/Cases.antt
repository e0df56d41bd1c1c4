-- Worked cases of the definitions: each rule is broken where it should be, and judged where it may be broken or kept.
use Rattle.std.proofs.Common.{◌≡◌, true, false, List, [], ◌∷◌, None, Some, refl}
use Rattle.std.specs.FinMap.{gets}
use Rattle.std.specs.FinSet.{members}
use Rattle.gp_ploam.specs.declared.message.Serial.{Serial}
use Rattle.gp_ploam.specs.declared.message.Down.{Down}
use Rattle.gp_ploam.specs.declared.message.Down.TheVariants.{AssignOnu, RangingTime, Deactivate, DisableSerial, EnableSerial, AssignAlloc, Popup}
use Rattle.gp_ploam.specs.declared.message.Up.{Up}
use Rattle.gp_ploam.specs.declared.message.Up.TheVariants.{SerialNumber, DyingGasp, Acknowledge}
use Rattle.gp_ploam.proofs.Serials.{serials_total}
use Rattle.gp_ranging.specs.declared.grant.Grant.TheVariants.{Poll}
use Rattle.gp_machine.specs.State.{some_number}
use Rattle.gp_observer.proofs.Listed.{dropped_at}
use Rattle.gp_observer.proofs.Numbers.{kept_in, in_below}
use Rattle.gp_observer.specs.declared.rule.Rule.TheVariants as rule
use Rattle.gp_observer.specs.Watch.{Watch, watch_begun}
use Rattle.gp_observer.specs.Rules.{Settings, breaks_copies, breaks_range, breaks_barred, breaks_unasked, breaks_taken, breaks_renumbered, breaks_nobody, breaks_unranged, breaks_delay, breaks_early, breaks_shared, breaks_not_held, breaks_grant}
use Rattle.gp_observer.specs.UnitRules.{breaks_disabled, breaks_anew, breaks_number, breaks_acknowledge, breaks_drift}
use Rattle.gp_observer.specs.Heard.{Heard, HeardDown, HeardUp, HeardGrant, watch_after_all, breaks}
use Rattle.gp_observer.specs.Judged.{judges}

abbrev first : Serial
first = record { 0 = 65 ∷ 66 ∷ 67 ∷ 68 ∷ 0 ∷ 0 ∷ 0 ∷ 1 ∷ [] }

abbrev second : Serial
second = record { 0 = 65 ∷ 66 ∷ 67 ∷ 68 ∷ 0 ∷ 0 ∷ 0 ∷ 2 ∷ [] }

abbrev settings : Settings
settings = record { teqd = 311040; drift = 8 }

-- a message down, as often as it should be sent
abbrev down : Down → List Heard → List Heard
down message later = HeardDown (Some message) ∷ HeardDown (Some message) ∷ HeardDown (Some message) ∷ later

abbrev up : Up → List Heard → List Heard
up message later = HeardUp (Some message) (Some 1000) ∷ later

abbrev asks : Serial → List Heard → List Heard
asks serial later = up (SerialNumber 255 serial 0 0) later

abbrev after : List Heard → Watch
after things = watch_after_all (watch_begun false) things

-- the first unit asks, and gets 3; it answers, is ranged, and is told of Alloc-ID 256
abbrev assigned : List Heard → List Heard
assigned later = asks first (down (AssignOnu 3 first) later)

abbrev answered : List Heard → List Heard
answered later = assigned (up (SerialNumber 3 first 0 0) later)

abbrev ranged : List Heard → List Heard
ranged later = answered (down (RangingTime 3 310040) later)

abbrev given : List Heard → List Heard
given later = ranged (down (AssignAlloc 3 256 true) later)

-- ---- a terminal

copies : breaks_copies (after (asks first (HeardDown (Some (AssignOnu 3 first)) ∷ []))) (Deactivate 4) ≡ true
copies = refl

three_copies : breaks_copies (after (assigned [])) (Deactivate 4) ≡ false
three_copies = refl

range : breaks_range (AssignOnu 254 first) ≡ true
range = refl

barred : breaks_barred (after (down (DisableSerial first) [])) (AssignOnu 3 first) ≡ true
barred = simp (gets, members, serials_total)

enabled : breaks_barred (after (down (DisableSerial first) (down (EnableSerial first) []))) (AssignOnu 3 first) ≡ false
enabled = simp (gets, members, serials_total)

unasked : breaks_unasked (after []) (AssignOnu 3 first) ≡ true
unasked = simp (gets, members)

asked : breaks_unasked (after (asks first [])) (AssignOnu 3 first) ≡ false
asked = simp (gets, members, serials_total)

asked_once : breaks_unasked (after (assigned [])) (AssignOnu 3 first) ≡ true
asked_once = simp (gets, members, serials_total)

taken : breaks_taken (after (assigned [])) (AssignOnu 3 second) ≡ true
taken = simp (gets, serials_total)

again : breaks_taken (after (assigned [])) (AssignOnu 3 first) ≡ false
again = simp (gets, serials_total)

nobody : breaks_nobody (after (assigned [])) (RangingTime 4 0) ≡ true
nobody = simp (gets, members, serials_total, dropped_at)

deactivated : breaks_nobody (after (assigned (down (Deactivate 3) []))) (Deactivate 3) ≡ true
deactivated = simp (gets, members, serials_total, dropped_at)

dropped_all : breaks_nobody (after (assigned (down (Deactivate 255) []))) (Deactivate 3) ≡ true
dropped_all = simp (gets, members, serials_total, dropped_at)

disabled_unit : breaks_nobody (after (assigned (down (DisableSerial first) []))) (Deactivate 3) ≡ true
disabled_unit = simp (gets, members, serials_total, dropped_at)

renumbered : breaks_renumbered (after (assigned [])) (AssignOnu 4 first) ≡ true
unfolding some_number
renumbered = simp (gets, serials_total, dropped_at)

same_number : breaks_renumbered (after (assigned [])) (AssignOnu 3 first) ≡ false
unfolding some_number
same_number = simp (gets, serials_total, dropped_at)

unranged : breaks_unranged (after (assigned [])) (RangingTime 3 310040) ≡ true
unranged = simp (gets, members, serials_total, dropped_at)

heard : breaks_unranged (after (answered [])) (RangingTime 3 310040) ≡ false
heard = simp (gets, members, serials_total)

delay : breaks_delay settings (after (answered [])) (RangingTime 3 310041) ≡ true
delay = simp (gets, members, serials_total, dropped_at)

right_delay : breaks_delay settings (after (answered [])) (RangingTime 3 310040) ≡ false
right_delay = simp (gets, members, serials_total, dropped_at)

no_delay : breaks_delay settings (after (answered (HeardUp (Some (SerialNumber 3 first 0 0)) None ∷ []))) (RangingTime 3 310041) ≡ false
no_delay = simp (gets, members, serials_total)

early : breaks_early (after (answered [])) (AssignAlloc 3 256 true) ≡ true
early = simp (gets, members, serials_total, dropped_at)

in_time : breaks_early (after (ranged [])) (AssignAlloc 3 256 true) ≡ false
in_time = simp (gets, members, serials_total)

popped_up : breaks_early (after (ranged (down (Popup 255) []))) (Popup 3) ≡ true
popped_up = simp (gets, members, serials_total)

shared : breaks_shared (after (given [])) (AssignAlloc 4 256 true) ≡ true
shared = simp (gets, members, serials_total)

given_again : breaks_shared (after (given [])) (AssignAlloc 3 256 true) ≡ false
given_again = simp (gets, members, serials_total)

not_held : breaks_not_held (after (ranged [])) (AssignAlloc 3 256 false) ≡ true
not_held = simp (gets, members, serials_total, dropped_at)

held : breaks_not_held (after (given [])) (AssignAlloc 3 256 false) ≡ false
held = simp (gets, members, serials_total)

granted : breaks_grant (after (answered [])) (Poll 3) ≡ true
granted = simp (gets, members, serials_total, dropped_at)

polled : breaks_grant (after (ranged [])) (Poll 3) ≡ false
polled = simp (gets, members, serials_total)

-- ---- a unit

asks_disabled : breaks_disabled (after (down (DisableSerial first) [])) (SerialNumber 255 first 0 0) ≡ true
asks_disabled = simp (gets, members, serials_total)

anew : breaks_anew (after (assigned [])) (SerialNumber 255 first 0 0) ≡ true
unfolding some_number
anew = simp (gets, serials_total, dropped_at)

number : breaks_number (after (assigned [])) (SerialNumber 3 second 0 0) ≡ true
number = simp (gets, members, serials_total)

own_number : breaks_number (after (assigned [])) (SerialNumber 3 first 0 0) ≡ false
own_number = simp (gets, members, serials_total)

other_number : breaks_number (after (assigned [])) (DyingGasp 4) ≡ true
other_number = simp (gets, members, serials_total, dropped_at)

acknowledge : breaks_acknowledge (after (ranged [])) (Acknowledge 3 10 []) ≡ true
acknowledge = simp (gets, members, serials_total, kept_in)

acknowledge_told : breaks_acknowledge (after (given [])) (Acknowledge 3 10 []) ≡ false
acknowledge_told = simp (gets, members, serials_total)

drift : breaks_drift settings (after (ranged [])) (DyingGasp 3) (Some 1009) ≡ true
drift = simp (gets, members, serials_total)

near : breaks_drift settings (after (ranged [])) (DyingGasp 3) (Some 1008) ≡ false
near = simp (gets, members, serials_total)

-- ---- in the middle

abbrev midway : List Heard → Watch
midway things = watch_after_all (watch_begun true) things

-- two copies of a message, then another
abbrev cut_off : List Heard → List Heard
cut_off later = HeardDown (Some (Popup 5)) ∷ HeardDown (Some (Popup 5)) ∷ later

copies_cut_off : breaks_copies (midway (cut_off [])) (Deactivate 4) ≡ false
copies_cut_off = refl

-- it isn't known who holds 4
who_holds : breaks_nobody (midway (cut_off (down (AssignOnu 3 first) []))) (Deactivate 4) ≡ false
who_holds = simp (gets, members, in_below)

known_midway : breaks_nobody (midway (cut_off (down (AssignOnu 3 first) (down (Deactivate 3) [])))) (Deactivate 3) ≡ true
known_midway = simp (gets, members, dropped_at)

taken_midway : breaks_taken (midway (cut_off (down (AssignOnu 3 first) []))) (AssignOnu 3 second) ≡ true
taken_midway = simp gets

-- it may have asked before
asked_before : breaks_unasked (midway (cut_off (down (AssignOnu 3 first) (down (Deactivate 3) [])))) (AssignOnu 3 second) ≡ false
asked_before = refl

-- ---- all that is broken

-- another unit gets 3
taken_alone : breaks settings (after (assigned (asks second []))) (HeardDown (Some (AssignOnu 3 second))) ≡ rule.Taken ∷ []
unfolding some_number
taken_alone = simp (gets, members, serials_total, dropped_at)

-- the first one gets 254 though it didn't ask again, and holds 3
three_rules : breaks settings (after (assigned [])) (HeardDown (Some (AssignOnu 254 first))) ≡ rule.Range ∷ rule.Unasked ∷ rule.Renumbered ∷ []
unfolding some_number
three_rules = simp (gets, members, serials_total, dropped_at)

-- a copy that tells nothing new isn't judged
copy_again : breaks settings (after (asks first (HeardDown (Some (Deactivate 4)) ∷ []))) (HeardDown (Some (Deactivate 4))) ≡ []
copy_again = refl

-- one that does is
first_copy : breaks settings (after (asks first [])) (HeardDown (Some (Deactivate 4))) ≡ rule.Nobody ∷ []
first_copy = simp (gets, members)

-- it restarted
anew_alone : breaks settings (after (assigned [])) (HeardUp (Some (SerialNumber 255 first 12 0)) None) ≡ rule.Anew ∷ []
unfolding some_number
anew_alone = simp (gets, members, serials_total, dropped_at)

garbled : breaks settings (after []) (HeardDown None) ≡ rule.Garbled ∷ []
garbled = refl

-- ---- of what a rule is judged

garbled_judged : judges (after []) (HeardDown (Some (Deactivate 4))) rule.Garbled ≡ true
garbled_judged = refl

garbled_alone : judges (after []) (HeardDown None) rule.Taken ≡ false
garbled_alone = refl

-- before the first message there is none whose copies could be missing
first_copies : judges (after []) (HeardDown (Some (Deactivate 4))) rule.Copies ≡ false
first_copies = refl

copies_judged : judges (after (asks first (HeardDown (Some (AssignOnu 3 first)) ∷ []))) (HeardDown (Some (Deactivate 4))) rule.Copies ≡ true
copies_judged = refl

-- a copy that tells nothing new isn't judged
copy_unjudged : judges (after (asks first (HeardDown (Some (Deactivate 4)) ∷ []))) (HeardDown (Some (Deactivate 4))) rule.Nobody ≡ false
copy_unjudged = refl

delay_judged : judges (after (answered [])) (HeardDown (Some (RangingTime 3 5))) rule.Delay ≡ true
delay_judged = simp (gets, members, serials_total, dropped_at, kept_in)

-- its answer had no delay
delay_unjudged : judges (after (assigned (HeardUp (Some (SerialNumber 3 first 0 0)) None ∷ []))) (HeardDown (Some (RangingTime 3 5))) rule.Delay ≡ false
delay_unjudged = simp (gets, members, serials_total)

drift_judged : judges (after (ranged [])) (HeardUp (Some (DyingGasp 3)) (Some 1000)) rule.Drift ≡ true
drift_judged = simp (gets, members, serials_total)

drift_unjudged : judges (after (ranged [])) (HeardUp (Some (DyingGasp 3)) None) rule.Drift ≡ false
drift_unjudged = refl

anew_judged : judges (after []) (HeardUp (Some (SerialNumber 255 first 0 0)) None) rule.Anew ≡ true
anew_judged = simp (gets, serials_total)

-- what was said before it isn't known
anew_midway : judges (midway []) (HeardUp (Some (SerialNumber 255 first 0 0)) None) rule.Anew ≡ false
unfolding some_number
anew_midway = simp (gets, members)

disabled_midway : judges (midway []) (HeardUp (Some (SerialNumber 255 first 0 0)) None) rule.Disabled ≡ false
disabled_midway = simp members

grant_midway : judges (midway []) (HeardGrant (Poll 4)) rule.Grant ≡ false
grant_midway = simp (members, in_below)

shared_midway : judges (midway (cut_off (down (AssignOnu 3 first) []))) (HeardDown (Some (AssignAlloc 3 256 true))) rule.Shared ≡ false
shared_midway = simp (gets, members, serials_total, dropped_at)

shared_judged : judges (after (assigned [])) (HeardDown (Some (AssignAlloc 3 256 true))) rule.Shared ≡ true
shared_judged = simp (gets, serials_total, dropped_at)
