-- What is known of the units of a port by what was said on its fibre, and what changes it (G.984.3, clauses 9 and 10;
-- what stays unknown is this profile's own rule).
use Rattle.std.specs.Prelude.{ℕ, suc, ◌-◌, ◌==◌, ◌&&◌, nat_le, Bool, true, false, if◌then◌else◌, List, [], ◌∷◌, Option, None, Some}
use Rattle.gp_ploam.specs.declared.message.Serial.{Serial}
use Rattle.gp_ploam.specs.declared.message.Down.{Down}
use Rattle.gp_ploam.specs.declared.message.Down.TheVariants.{UpstreamOverhead, AssignOnu, RangingTime, Deactivate, DisableSerial, EnableSerial, EnableAll, AssignAlloc, NoMessage, Popup, Other}
use Rattle.gp_ploam.specs.declared.message.Up.{Up}
use Rattle.gp_ploam.specs.declared.message.Up.TheVariants.{SerialNumber}
use Rattle.gp_ploam.specs.OnuIds.{broadcast_onu}
use Rattle.gp_ploam.specs.Serials.{same_serial}
use Rattle.gp_ploam.specs.Up.{octet1_of}
use Rattle.gp_observer.specs.Observer.{is_unit_number}
use Rattle.gp_observer.specs.Heard.{Heard, HeardDown, HeardUp, HeardGrant}
use Rattle.hear_rules.specs.Facts.{Fact, Unknown, Nothing, Is, Sure, Yes, No, Unsure, is_other}

-- ---- what is kept

-- the delays of all that a unit said: one of them had none, or they are between these two
pub data Span : Type 0 where
  Bare : Span
  Between : (least : ℕ) (greatest : ℕ) → Span

-- an ONU-ID
pub data Number : Type 0 where
  -- it isn't known who holds it
  Unheard : Number
  -- nobody holds it
  Nobodys : Number
  -- this unit holds it: the equalization delay that it was told, and what it said since it was assigned
  Of : (serial : Serial) (delay : Fact ℕ) (answers : Fact Span) → Number

-- an Alloc-ID
pub data Owner : Type 0 where
  -- it isn't known whose it is
  Unclear : Owner
  -- it is nobody's; whose it was last
  Free : (last : Fact ℕ) → Owner
  -- it belongs to this ONU-ID; whose it was before
  Has : (onu : ℕ) (last : Fact ℕ) → Owner

pub record Known : Type 0 where
  -- each ONU-ID
  pub numbers : ℕ → Number
  -- which ONU-ID each serial number holds
  pub holds : Serial → Fact ℕ
  -- whether it is disabled
  pub disabled : Serial → Sure
  -- how often it asked without being assigned one, or None where that isn't known
  pub asks : Serial → Option ℕ
  -- whether it was heard asking since it was assigned an ONU-ID, and gave none behind that
  pub asked : Serial → Sure
  -- whose each Alloc-ID is
  pub owners : ℕ → Owner
  -- whether Upstream_Overhead was sent
  pub overhead : Sure
  -- whether the port has had a code up
  pub up : Bool

-- from the first message on: nobody holds anything, nobody asked, nobody is disabled
abbrev pub known_whole : Known
known_whole =
    record {
      numbers = λ onu. Nobodys;
      holds = λ serial. Nothing;
      disabled = λ serial. No;
      asks = λ serial. Some 0;
      asked = λ serial. No;
      owners = λ alloc. Free Nothing;
      overhead = No;
      up = false;
    }

-- from the middle on
abbrev pub known_midway : Known
known_midway =
    record {
      numbers = λ onu. Unheard;
      holds = λ serial. Unknown;
      disabled = λ serial. Unsure;
      asks = λ serial. None;
      asked = λ serial. Unsure;
      owners = λ alloc. Unclear;
      overhead = Unsure;
      up = false;
    }

-- ---- Assign_ONU-ID

-- a unit that was assigned just now has no delay, and said nothing
abbrev pub fresh : Serial → Number
fresh serial = Of serial Nothing Nothing

-- where it isn't known who held the ONU-ID this may be the third copy, but of a unit that was heard asking it is the
-- beginning
abbrev pub begun : Sure → Serial → Number
begun Yes serial = fresh serial
begun No serial = Of serial Unknown Unknown
begun Unsure serial = Of serial Unknown Unknown

-- the ONU-ID that is assigned, to a unit that was heard asking or not
abbrev pub assigned : Sure → Number → Serial → Number
assigned asked Unheard serial = begun asked serial
assigned asked Nobodys serial = fresh serial
assigned asked (Of holder delay answers) serial =
    if same_serial serial holder then Of holder delay answers else fresh serial

-- an ONU-ID, where a unit gets another one, or is disabled
abbrev pub left_by : Number → Serial → Number
left_by Unheard serial = Unheard
left_by Nobodys serial = Nobodys
left_by (Of holder delay answers) serial =
    if same_serial serial holder then Nobodys else Of holder delay answers

-- it is known whether the unit doesn't hold the ONU-ID that it is assigned
abbrev pub is_news : Known → ℕ → Serial → Sure
is_news known onu serial = is_other (known.holds serial) onu

-- a unit that gets an ONU-ID which it didn't hold has asked once less
abbrev pub asks_less : Sure → Option ℕ → Option ℕ
asks_less Yes None = None
asks_less Yes (Some asks) = Some (asks - 1)
asks_less No asks = asks
asks_less Unsure asks = None

-- which ONU-ID a unit holds, once this one is another's or nobody's
abbrev pub given_up : Fact ℕ → ℕ → Fact ℕ
given_up Unknown onu = Unknown
given_up Nothing onu = Nothing
given_up (Is held) onu = if held == onu then Nothing else Is held

-- ---- Alloc-IDs

-- whether who holds an ONU-ID loses its Alloc-IDs, where it gets it again: it may have restarted, but without a delay
-- it has none
abbrev pub may_lose : Fact ℕ → Sure
may_lose Unknown = Unsure
may_lose Nothing = No
may_lose (Is eqd) = Unsure

-- whether the Alloc-IDs of an ONU-ID are lost, where a unit gets it
abbrev pub lost_of : Number → Serial → Sure
lost_of Unheard serial = Unsure
lost_of Nobodys serial = Yes
lost_of (Of holder delay answers) serial = if same_serial serial holder then may_lose delay else Yes

-- or those of another ONU-ID, where a unit gets this one, or is disabled
abbrev pub lost_by : Number → Serial → Sure
lost_by Unheard serial = Unsure
lost_by Nobodys serial = No
lost_by (Of holder delay answers) serial = if same_serial serial holder then Yes else No

-- an Alloc-ID, where it is known whether its unit loses it
abbrev pub freed : Sure → ℕ → Fact ℕ → Owner
freed Yes onu last = Free (Is onu)
freed No onu last = Has onu last
freed Unsure onu last = Unclear

-- one that nobody has: where it isn't known whether a unit lost its Alloc-IDs, nothing is known of those that it had
-- last
abbrev pub still_free : Sure → ℕ → Owner
still_free Yes onu = Free (Is onu)
still_free No onu = Free (Is onu)
still_free Unsure onu = Unclear

abbrev pub free_after : (ℕ → Sure) → Fact ℕ → Owner
free_after lost Unknown = Free Unknown
free_after lost Nothing = Free Nothing
free_after lost (Is onu) = still_free (lost onu) onu

abbrev pub owner_after : (ℕ → Sure) → Owner → Owner
owner_after lost Unclear = Unclear
owner_after lost (Free last) = free_after lost last
owner_after lost (Has onu last) = freed (lost onu) onu last

-- it is given to an ONU-ID
abbrev pub owner_given : Owner → ℕ → Owner
owner_given Unclear onu = Has onu Unknown
owner_given (Free last) onu = Has onu last
owner_given (Has other last) onu = if other == onu then Has onu last else Has onu (Is other)

abbrev pub owner_kept : Number → Owner → ℕ → Owner
owner_kept Unheard owner onu = Unclear
owner_kept Nobodys owner onu = owner
owner_kept (Of holder delay answers) owner onu = owner_given owner onu

-- it is taken back from one
abbrev pub owner_back : Owner → ℕ → Owner
owner_back Unclear onu = Unclear
owner_back (Free last) onu = Free last
owner_back (Has other last) onu = if other == onu then Free (Is onu) else Has other last

abbrev pub owner_told : Number → Owner → ℕ → Bool → Owner
owner_told number owner onu true = owner_kept number owner onu
owner_told number owner onu false = owner_back owner onu

-- ---- the other messages

-- Deactivate_ONU-ID
abbrev pub dropped : Number → Number
dropped Unheard = Nobodys
dropped Nobodys = Nobodys
dropped (Of holder delay answers) = Nobodys

-- Ranging_Time: it is kept of a unit alone
abbrev pub ranged : Number → ℕ → Number
ranged Unheard eqd = Unheard
ranged Nobodys eqd = Nobodys
ranged (Of holder delay answers) eqd = Of holder (Is eqd) answers

-- POPUP of all: only a unit in O6 loses its delay, and nobody but the unit knows. Ranging_Adjustment changes it by what
-- isn't read here
abbrev pub delay_unsure : Fact ℕ → Fact ℕ
delay_unsure Nothing = Nothing
delay_unsure _ = Unknown

abbrev pub popped_up : Number → Number
popped_up Unheard = Unheard
popped_up Nobodys = Nobodys
popped_up (Of holder delay answers) = Of holder (delay_unsure delay) answers

-- ---- what is known after a message

-- whether an ONU-ID loses its Alloc-IDs, where this one is assigned
abbrev pub lost_with : Known → ℕ → Serial → ℕ → Sure
lost_with known onu serial other =
    if other == onu then lost_of (known.numbers other) serial else lost_by (known.numbers other) serial

abbrev pub after_assign : Known → ℕ → Serial → Known
after_assign known onu serial =
    record known {
      numbers = λ other.
          if other == onu
          then assigned (known.asked serial) (known.numbers other) serial
          else left_by (known.numbers other) serial;
      holds = λ other. if same_serial other serial then Is onu else given_up (known.holds other) onu;
      asks = λ other.
          if same_serial other serial
          then asks_less (is_news known onu serial) (known.asks other)
          else known.asks other;
      asked = λ other. if same_serial other serial then No else known.asked other;
      owners = λ alloc. owner_after (lost_with known onu serial) (known.owners alloc);
    }

abbrev pub after_range : Known → ℕ → ℕ → Known
after_range known onu eqd =
    record known { numbers = λ other. if other == onu then ranged (known.numbers other) eqd else known.numbers other }

abbrev pub after_drop : Known → ℕ → Known
after_drop known onu =
    record known {
      numbers = λ other. if other == onu then dropped (known.numbers other) else known.numbers other;
      holds = λ serial. given_up (known.holds serial) onu;
      owners = λ alloc. owner_after (λ other. if other == onu then Yes else No) (known.owners alloc);
    }

abbrev pub after_drop_all : Known → Known
after_drop_all known =
    record known {
      numbers = λ onu. dropped (known.numbers onu);
      holds = λ serial. Nothing;
      owners = λ alloc. owner_after (λ other. Yes) (known.owners alloc);
    }

abbrev pub after_disable : Known → Serial → Known
after_disable known serial =
    record known {
      numbers = λ onu. left_by (known.numbers onu) serial;
      holds = λ other. if same_serial other serial then Nothing else known.holds other;
      disabled = λ other. if same_serial other serial then Yes else known.disabled other;
      owners = λ alloc. owner_after (λ onu. lost_by (known.numbers onu) serial) (known.owners alloc);
    }

abbrev pub after_enable : Known → Serial → Known
after_enable known serial =
    record known { disabled = λ other. if same_serial other serial then No else known.disabled other }

abbrev pub after_alloc : Known → ℕ → ℕ → Bool → Known
after_alloc known onu alloc keep =
    record known {
      owners = λ other.
          if other == alloc then owner_told (known.numbers onu) (known.owners other) onu keep else known.owners other;
    }

abbrev pub after_pop_up_all : Known → Known
after_pop_up_all known = record known { numbers = λ onu. popped_up (known.numbers onu) }

abbrev pub after_adjust : Known → ℕ → Known
after_adjust known onu =
    record known { numbers = λ other. if other == onu then popped_up (known.numbers other) else known.numbers other }

-- Ranging_Adjustment, to one unit or to all
abbrev pub adjustment : ℕ
adjustment = 23

abbrev pub after_other : Known → ℕ → ℕ → Known
after_other known id onu =
    if id == adjustment
    then (if onu == broadcast_onu then after_pop_up_all known else after_adjust known onu)
    else known

-- 254 and 255 are given to nobody
abbrev pub after_message : Known → Down → Known
after_message known (UpstreamOverhead burst) = record known { overhead = Yes }
after_message known (AssignOnu onu serial) = if is_unit_number onu then after_assign known onu serial else known
after_message known (RangingTime onu eqd) = after_range known onu eqd
after_message known (Deactivate onu) = if onu == broadcast_onu then after_drop_all known else after_drop known onu
after_message known (DisableSerial serial) = after_disable known serial
after_message known (EnableSerial serial) = after_enable known serial
after_message known EnableAll = record known { disabled = λ serial. No }
after_message known (AssignAlloc onu alloc keep) = after_alloc known onu alloc keep
after_message known (Popup onu) = if onu == broadcast_onu then after_pop_up_all known else known
after_message known NoMessage = known
after_message known (Other id octet1 body) = after_other known id octet1

-- ---- what a unit says

-- the delays, and one more
abbrev pub span_with : Span → Option ℕ → Span
span_with Bare delay = Bare
span_with (Between least greatest) None = Bare
span_with (Between least greatest) (Some delay) =
    Between (if nat_le least delay then least else delay) (if nat_le delay greatest then greatest else delay)

abbrev pub span_of : Option ℕ → Span
span_of None = Bare
span_of (Some delay) = Between delay delay

abbrev pub answers_with : Fact Span → Option ℕ → Fact Span
answers_with Unknown delay = Unknown
answers_with Nothing delay = Is (span_of delay)
answers_with (Is span) delay = Is (span_with span delay)

-- the holder of an ONU-ID speaks, and not another unit that gives its own serial number
abbrev pub is_by : Serial → Up → Bool
is_by holder (SerialNumber onu serial random flags) = same_serial serial holder
is_by holder _ = true

abbrev pub spoken : Number → Up → Option ℕ → Number
spoken Unheard message delay = Unheard
spoken Nobodys message delay = Nobodys
spoken (Of holder eqd answers) message delay =
    if is_by holder message then Of holder eqd (answers_with answers delay) else Of holder eqd answers

-- who asks with 255
abbrev pub asked_by : Up → Serial → Bool
asked_by (SerialNumber onu serial random flags) other = onu == broadcast_onu && same_serial other serial
asked_by _ other = false

abbrev pub asks_more : Option ℕ → Option ℕ
asks_more None = None
asks_more (Some asks) = Some (suc asks)

-- whether a unit asked since it was assigned: one that gives an ONU-ID behind its ask was assigned that since
abbrev pub was_assigned : Sure → Sure
was_assigned Yes = No
was_assigned No = No
was_assigned Unsure = Unsure

abbrev pub asked_with : Up → Serial → Sure → Sure
asked_with (SerialNumber onu serial random flags) other asked =
    if same_serial other serial then (if onu == broadcast_onu then Yes else was_assigned asked) else asked
asked_with _ other asked = asked

abbrev pub after_answer : Known → Up → Option ℕ → Known
after_answer known message delay =
    record known {
      numbers = λ onu. if onu == octet1_of message then spoken (known.numbers onu) message delay else known.numbers onu;
      asks = λ serial. if asked_by message serial then asks_more (known.asks serial) else known.asks serial;
      asked = λ serial. asked_with message serial (known.asked serial);
      up = true;
    }

-- ---- what is known after what is heard: by a garbled code, or a grant, nothing more

abbrev pub known_after : Known → Heard → Known
known_after known (HeardDown None) = known
known_after known (HeardDown (Some message)) = after_message known message
known_after known (HeardUp None delay) = known
known_after known (HeardUp (Some message) delay) = after_answer known message delay
known_after known (HeardGrant grant) = known

abbrev pub known_after_all : Known → List Heard → Known
known_after_all known [] = known
known_after_all known (heard ∷ others) = known_after_all (known_after known heard) others
