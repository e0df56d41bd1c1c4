-- What an observer of a port keeps besides: who asked, what was answered, who was told of an Alloc-ID, of which ONU-IDs
-- it isn't known who holds them, and the copies of the last message (this profile's own rule).
use Rattle.std.specs.Prelude.{◌≡◌, ◌↔◌, ℕ, zero, suc, ◌-◌, ◌==◌, ◌&&◌, ◌||◌, nat_lt, Bool, true, false, not, if◌then◌else◌, Option, None, Some, is_some, option_map}
use Rattle.std.specs.Ordering.{nat_cmp}
use Rattle.std.specs.FinMap.{FinMap, get, insert, len, retain_keys}
use Rattle.std.specs.FinMap as finmap
use Rattle.std.specs.FinSet.{FinSet, contains}
use Rattle.std.specs.FinSet as finset
use Rattle.gp_ploam.specs.declared.message.Serial.{Serial}
use Rattle.gp_ploam.specs.declared.message.Down.{Down}
use Rattle.gp_ploam.specs.declared.message.Down.TheVariants.{AssignOnu, DisableSerial, AssignAlloc, NoMessage}
use Rattle.gp_ploam.specs.declared.message.Up.{Up}
use Rattle.gp_ploam.specs.declared.message.Up.TheVariants.{SerialNumber}
use Rattle.gp_ploam.specs.contracts.message.DownPartialEq.TheImpl as messages
use Rattle.gp_ploam.specs.OnuIds.{onu_ids, broadcast_onu}
use Rattle.gp_ploam.specs.Serials.{serial_cmp}
use Rattle.gp_volley.specs.Copies.{copies_each}
use Rattle.gp_observer.specs.Observer.{Observed, nothing_observed, is_of, is_unit_number, drops, units_without, observed_after}

-- ---- what is kept

-- how many serial numbers are followed
abbrev pub most_followed : ℕ
most_followed = 4096

-- how many different delays of one unit are kept
abbrev pub most_delays : ℕ
most_delays = 64

-- the delays that were measured with a unit's serial number, and whether these are all: each of its answers had one,
-- and there was room for it
pub record Answers : Type 0 where
  pub delays : FinSet nat_cmp
  pub all : Bool

pub record Watch : Type 0 where
  -- what the messages told of the units
  pub seen : Observed
  -- how many asks each serial number that is followed has left
  pub asks : FinMap serial_cmp ℕ
  -- the answers of each unit that gave its serial number with its ONU-ID since it was assigned
  pub answers : FinMap nat_cmp Answers
  -- the units to which an Assign_Alloc-ID was sent since they were assigned
  pub told : FinSet nat_cmp
  -- the ONU-IDs of which it isn't known who holds them
  pub unknown : FinSet nat_cmp
  -- the last message down, and how many of its copies are still to come
  pub last : Down
  pub to_come : ℕ
  -- whether it began in the middle, and whether only copies of one message were heard since
  pub midway : Bool
  pub cut : Bool

-- the numbers below this one
unfoldable pub numbers_below : ℕ → FinSet nat_cmp
numbers_below zero = finset.empty
numbers_below (suc count) = finset.insert (numbers_below count) count

-- before the first message: where it isn't the first one of the terminal, nothing is known of any ONU-ID
abbrev pub watch_begun : Bool → Watch
watch_begun midway =
    record {
      seen = nothing_observed;
      asks = finmap.empty;
      answers = finmap.empty;
      told = finset.empty;
      unknown = if midway then numbers_below onu_ids else finset.empty;
      last = NoMessage;
      to_come = 0;
      midway = midway;
      cut = midway;
    }

-- ---- who asked

-- what is kept, and else 0 where there is room
abbrev pub kept_or_new : Option ℕ → Bool → Option ℕ
kept_or_new (Some asks) room = Some asks
kept_or_new None true = Some 0
kept_or_new None false = None

-- how many asks a serial number has left, or None where it is not followed and there is no room for it
abbrev pub asks_left : Watch → Serial → Option ℕ
asks_left watch serial = kept_or_new (get watch.asks serial) (nat_lt (len watch.asks) most_followed)

-- a serial number is followed from now on, if it wasn't already
abbrev pub can_follow : Watch → Serial → Bool
can_follow watch serial = is_some (asks_left watch serial)

-- the asks of a serial number are now these, if it is followed
abbrev pub asks_put : FinMap serial_cmp ℕ → Serial → Option ℕ → FinMap serial_cmp ℕ
asks_put asks serial None = asks
asks_put asks serial (Some left) = insert asks serial left

-- the asks, where those of this serial number change so
abbrev pub asks_with : Watch → Serial → (ℕ → ℕ) → FinMap serial_cmp ℕ
asks_with watch serial change = asks_put watch.asks serial (option_map change (asks_left watch serial))

-- ---- a message down

-- an Assign_ONU-ID takes an ask, and a serial number that is assigned or disabled is followed
abbrev pub asks_after : Watch → Down → FinMap serial_cmp ℕ
asks_after watch (AssignOnu onu serial) = asks_with watch serial (λ asks. asks - 1)
asks_after watch (DisableSerial serial) = asks_with watch serial (λ asks. asks)
asks_after watch _ = watch.asks

-- of a serial number that can't be followed nothing is noted, but that its ONU-ID is no other unit's
abbrev pub seen_after : Watch → Down → Observed
seen_after watch (AssignOnu onu serial) =
    if can_follow watch serial then observed_after watch.seen (AssignOnu onu serial)
    else units_without watch.seen (drops watch.seen (AssignOnu onu serial))
seen_after watch (DisableSerial serial) =
    if can_follow watch serial then observed_after watch.seen (DisableSerial serial) else watch.seen
seen_after watch message = observed_after watch.seen message

-- it is known who holds an ONU-ID that was assigned to a serial number that is followed, and not who holds one of
-- another
abbrev pub unknown_after : Watch → Down → FinSet nat_cmp
unknown_after watch (AssignOnu onu serial) =
    if is_unit_number onu
    then (if can_follow watch serial then finset.remove watch.unknown onu else finset.insert watch.unknown onu)
    else watch.unknown
unknown_after watch _ = watch.unknown

-- who was told of an Alloc-ID
abbrev pub told_with : FinSet nat_cmp → Down → FinSet nat_cmp
told_with told (AssignAlloc onu alloc keep) = finset.insert told onu
told_with told _ = told

-- what is known after a message: what its unit answered and was told is forgotten where it is dropped
abbrev pub noted : Watch → Down → Watch
noted watch message =
    record watch {
      seen = seen_after watch message;
      asks = asks_after watch message;
      answers = retain_keys watch.answers (λ onu. not (drops watch.seen message onu));
      told = told_with (finset.retain watch.told (λ onu. not (drops watch.seen message onu))) message;
      unknown = unknown_after watch message;
    }

-- the two messages are one
abbrev pub same_message : Down → Down → Bool
same_message first second = (messages.ghosts).eq first second

-- it tells whether they are equal
abbrev pub SameMessagesAreEqual : Type 0
SameMessagesAreEqual = (first second : Down) → (same_message first second ≡ true) ↔ (first ≡ second)

-- in the middle the copies of the first message are passed over, since others may have been sent before them
abbrev pub passes_over : Watch → Down → Bool
passes_over watch message =
    watch.cut && (same_message watch.last NoMessage || same_message watch.last message)

-- with this copy a message is told: it is the first one, the first behind three others, or one of another message
abbrev pub tells : Watch → Down → Bool
tells watch message = watch.to_come == 0 || not (same_message watch.last message)

-- a message is told with this copy, which isn't passed over
abbrev pub is_new : Watch → Down → Bool
is_new watch message = not (passes_over watch message) && tells watch message

-- a copy was heard
abbrev pub copy_heard : Watch → Down → Watch
copy_heard watch message =
    if passes_over watch message then record watch { last = message }
    else if tells watch message
    then record (noted watch message) { last = message; to_come = copies_each - 1; cut = false }
    else record watch { to_come = watch.to_come - 1 }

-- a code down was heard: No_message says nothing, and neither does one that is garbled
abbrev pub after_down : Watch → Option Down → Watch
after_down watch None = watch
after_down watch (Some NoMessage) = watch
after_down watch (Some message) = copy_heard watch message

-- ---- a message up

-- the answers of a unit that gave none yet
abbrev pub no_answers : Answers
no_answers = record { delays = finset.empty; all = true }

abbrev pub answers_of : Option Answers → Answers
answers_of None = no_answers
answers_of (Some answers) = answers

-- there is room for this delay
abbrev pub has_room_for : Answers → ℕ → Bool
has_room_for answers delay = contains answers.delays delay || nat_lt (finset.len answers.delays) most_delays

-- one answer more, where its delay was measured or not
abbrev pub with_answer : Answers → Option ℕ → Answers
with_answer answers None = record answers { all = false }
with_answer answers (Some delay) =
    if has_room_for answers delay then record answers { delays = finset.insert answers.delays delay }
    else record answers { all = false }

-- a serial number was given with 255, or with an ONU-ID
abbrev pub serial_heard : Watch → ℕ → Serial → Option ℕ → Watch
serial_heard watch onu serial delay =
    if onu == broadcast_onu then record watch { asks = asks_with watch serial (λ asks. suc asks) }
    else if is_of watch.seen serial onu
    then record watch { answers = insert watch.answers onu (with_answer (answers_of (get watch.answers onu)) delay) }
    else watch

-- a code up was heard
abbrev pub after_up : Watch → Option Up → Option ℕ → Watch
after_up watch (Some (SerialNumber onu serial random flags)) delay = serial_heard watch onu serial delay
after_up watch _ delay = watch
