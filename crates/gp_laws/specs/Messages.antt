-- The messages of whole runs: what is sent, and what is still owed, is what the steps owe (G.984.3, clauses 9 and 10;
-- that the three copies go out in a row, behind all that is owed, is this profile's own rule).
use Rattle.std.specs.Prelude.{◌≡◌, ◌^◌, ◌<◌, ◌≤◌, List, ◌++◌, length, take, drop, All}
use Rattle.gp_pools.specs.Limits.{last_alloc_id}
use Rattle.gp_ploam.specs.declared.message.Down.{Down}
use Rattle.gp_ploam.specs.Down.{IsProperDown}
use Rattle.gp_machine.specs.declared.config.PortConfig.{PortConfig}
use Rattle.gp_machine.specs.declared.entry.Entry.{Entry}
use Rattle.gp_machine.specs.State.{PortState, opening_of}
use Rattle.gp_machine.specs.Run.{Run}
use Rattle.gp_machine.specs.Messages.{RunOwing, sent_in, three_times}
use Rattle.gp_laws.specs.Quarantine.{frames_in}

-- each run has a list of the messages that its steps owe; it may be empty
abbrev pub EveryRunHasOwedMessages : Type 0
EveryRunHasOwedMessages =
    (port last : PortState) (entries : List Entry) → Run port entries last
    → (messages : List Down) × RunOwing port entries messages last

-- in every run from an opening, where nothing is owed, the copies sent, and after them those still owed, are the
-- messages that the steps owe, in order, each three times: SendsWhatWasOwedFirst, below, at an opening
abbrev pub SendsEachThreeTimes : Type 0
SendsEachThreeTimes =
    (config : PortConfig) (last : PortState) (entries : List Entry) (messages : List Down)
    → RunOwing (opening_of config) entries messages last
    → sent_in entries ++ last.owed ≡ three_times messages

-- in a run from any state the copies that are owed at its start come before these
abbrev pub SendsWhatWasOwedFirst : Type 0
SendsWhatWasOwedFirst =
    (port last : PortState) (entries : List Entry) (messages : List Down)
    → RunOwing port entries messages last
    → sent_in entries ++ last.owed ≡ port.owed ++ three_times messages

-- each frame of a run sends one of the copies that were owed at its start, in order, while there are any; what the
-- steps of the run owe, those frames included, comes behind the rest of these
abbrev pub SendsFirstOwed : Type 0
SendsFirstOwed =
    (port last : PortState) (entries : List Entry) (messages : List Down)
    → RunOwing port entries messages last
    → frames_in entries ≤ length port.owed
    → (sent_in entries ≡ take (frames_in entries) port.owed)
    × (last.owed ≡ drop (frames_in entries) port.owed ++ three_times messages)

-- with as many frames or more all of these are sent, and then the first of those that the steps owe
abbrev pub SendsAllOwed : Type 0
SendsAllOwed =
    (port last : PortState) (entries : List Entry) (messages : List Down)
    → RunOwing port entries messages last
    → length port.owed ≤ frames_in entries
    → (more : List Down) × (sent_in entries ≡ port.owed ++ more) × (three_times messages ≡ more ++ last.owed)

-- what the types of a configuration say of what it puts into messages, and that its Alloc-IDs have twelve bits: ten
-- octets of Upstream_Overhead, delays of 32 bits, and serial numbers of eight octets
pub record IsTypedConfig (config : PortConfig) : Type 0 where
  pub overhead : length config.overhead ≡ 10
  pub delay : config.teqd < 2 ^ 32
  pub allocs : config.alloc_last ≤ last_alloc_id
  pub serials : All (λ serial. length serial.0 ≡ 8) config.admitted

-- in every run from an opening each message that is sent or owed is proper, so it has a code
abbrev pub SendsOnlyProperMessages : Type 0
SendsOnlyProperMessages =
    (config : PortConfig) (last : PortState) (entries : List Entry)
    → IsTypedConfig config
    → Run (opening_of config) entries last
    → All IsProperDown (sent_in entries ++ last.owed)
