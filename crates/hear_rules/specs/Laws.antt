-- Which messages change nothing that is known, and so no verdict after them (this profile's own rule; that a message is
-- sent three times is G.984.3, clause 9).
use Rattle.std.specs.Prelude.{◌≡◌, ◌⊎◌, ◌↔◌, ◌≤◌, ℕ, ◌==◌, ◌&&◌, ◌||◌, Bool, true, false, List, ◌∷◌, ◌++◌, Some}
use Rattle.std.specs.List.{list_any}
use Rattle.gp_ploam.specs.declared.message.Down.{Down}
use Rattle.gp_ploam.specs.declared.message.Serial.{Serial}
use Rattle.gp_ploam.specs.declared.message.Down.TheVariants.{AssignOnu, RangingTime, Deactivate, DisableSerial, EnableSerial, EnableAll, AssignAlloc, Popup, Other}
use Rattle.gp_ploam.specs.OnuIds.{broadcast_onu}
use Rattle.gp_ploam.specs.Serials.{same_serial}
use Rattle.gp_observer.specs.Heard.{Heard, HeardDown}
use Rattle.hear_rules.specs.declared.rule.Rule.{Rule}
use Rattle.hear_rules.specs.Known.{Known, adjustment, after_message}
use Rattle.hear_rules.specs.Rules.{Settings, directed}
use Rattle.hear_rules.specs.declared.rule.Verdict.TheVariants.{Broken}
use Rattle.hear_rules.specs.Copies.{Subject, OfNothing, subject_of, same_subject, ends, Twice, Said, Sendings, sendings_after, sendings_heard, copies_heard, copies}
use Rattle.hear_rules.specs.Findings.{breaks, findings}

-- a message with an identifier of no table breaks nothing, and the findings of a log are the same with it and without
abbrev pub OutsideSaysNothing : Type 0
OutsideSaysNothing =
    (settings : Settings) (known : Known) (before later : List Heard) (id octet1 : ℕ) (body : List ℕ)
    → list_any (λ other. other == id) (adjustment ∷ directed) ≡ false
    → findings settings known (before ++ HeardDown (Some (Other id octet1 body)) ∷ later)
    ≡ findings settings known (before ++ later)

-- a message that needn't be said three times, put in before something that is heard no earlier: the copies are kept as
-- without it, and what either of the two finds cut short or overdue is found without it too, and nothing else
pub record SaysNothingOf
    (sendings : Sendings) (now later : ℕ) (message : Down) (heard : Heard) : Type 0 where
  pub same : sendings_heard (sendings_heard sendings now (HeardDown (Some message))) later heard
      ≡ sendings_heard sendings later heard
  pub found : (subject : Subject)
      → ((copies sendings now (HeardDown (Some message)) subject ≡ Broken)
      ⊎ (copies (sendings_heard sendings now (HeardDown (Some message))) later heard subject ≡ Broken))
      ↔ (copies sendings later heard subject ≡ Broken)

abbrev pub OutsideCutsNothing : Type 0
OutsideCutsNothing =
    (sendings : Sendings) (now later : ℕ) (message : Down) (heard : Heard)
    → subject_of message ≡ OfNothing
    → now ≤ later
    → SaysNothingOf sendings now later message heard

-- its third copy came
abbrev pub IsOver : Sendings → Down → Type 0
IsOver sendings message = sendings (subject_of message) ≡ Said message

-- the other message isn't about what this one is about, and doesn't end it
pub record IsApart (message other : Down) : Type 0 where
  pub differs : same_subject (subject_of message) (subject_of other) ≡ false
  pub stays : ends (subject_of other) (subject_of message) ≡ false

-- so it is with the third copy, and stays so while messages are sent that are apart from it; and a further copy changes
-- nothing of the copies, and breaks nothing
pub record FurtherCutsNothing : Type 0 where
  pub third : (sendings : Sendings) (now at : ℕ) (message : Down)
      → same_subject (subject_of message) OfNothing ≡ false
      → sendings (subject_of message) ≡ Twice message at
      → IsOver (sendings_after sendings now message) message
  pub stays : (sendings : Sendings) (now : ℕ) (message other : Down) → IsApart message other → IsOver sendings message
      → IsOver (sendings_after sendings now other) message
  pub same : (sendings : Sendings) (now : ℕ) (message : Down) → IsOver sendings message
      → sendings_after sendings now message ≡ sendings
  pub none : (sendings : Sendings) (message : Down) (subject : Subject) → IsOver sendings message
      → copies_heard sendings (HeardDown (Some message)) subject ≡ Broken → ⊥

-- a message that is said again changes nothing that is known
abbrev pub CopiesSayNothing : Type 0
CopiesSayNothing =
    (known : Known) (message : Down)
    → after_message (after_message known message) message ≡ after_message known message

-- what is found in all that follows one copy is found in what follows another one
abbrev pub CopiesFindNothing : Type 0
CopiesFindNothing =
    (settings : Settings) (known : Known) (message : Down) (later : List Heard)
    → findings settings known (HeardDown (Some message) ∷ HeardDown (Some message) ∷ later)
    ≡ breaks settings known (HeardDown (Some message))
    ++ (breaks settings (after_message known message) (HeardDown (Some message))
    ++ findings settings (after_message known message) later)

-- a repetition: what is known stays
abbrev pub IsRepetition : Known → Down → Type 0
IsRepetition known message = after_message known message ≡ known

-- what a message down breaks
abbrev pub breaks_down : Settings → Known → Down → List Rule
breaks_down settings known message = breaks settings known (HeardDown (Some message))

-- two neighbouring repetitions may change places: each breaks what it broke, and what follows is found as before
abbrev pub RepetitionsChangePlaces : Type 0
RepetitionsChangePlaces =
    (settings : Settings) (known : Known) (one other : Down) (later : List Heard)
    → IsRepetition known one
    → IsRepetition known other
    → (breaks_down settings (after_message known one) other ≡ breaks_down settings known other)
    × (breaks_down settings (after_message known other) one ≡ breaks_down settings known one)
    × (findings settings (after_message (after_message known one) other) later
    ≡ findings settings (after_message (after_message known other) one) later)

-- ---- a message that is said once more, behind others

-- the message says something of this ONU-ID, or of all
abbrev pub names_onu : Down → ℕ → Bool
names_onu (AssignOnu onu serial) other = onu == other
names_onu (RangingTime onu eqd) other = onu == other
names_onu (Deactivate onu) other = onu == broadcast_onu || onu == other
names_onu (AssignAlloc onu alloc keep) other = onu == other
names_onu (Popup onu) other = onu == broadcast_onu || onu == other
names_onu (Other id onu body) other = id == adjustment && (onu == broadcast_onu || onu == other)
names_onu _ other = false

-- of this serial number, or of all
abbrev pub names_serial : Down → Serial → Bool
names_serial (AssignOnu onu serial) other = same_serial other serial
names_serial (DisableSerial serial) other = same_serial other serial
names_serial (EnableSerial serial) other = same_serial other serial
names_serial EnableAll other = true
names_serial _ other = false

-- a repetition stays one behind a message that says nothing of what it is about
pub record StaysRepetition : Type 0 where
  pub range : (known : Known) (message : Down) (onu eqd : ℕ) → names_onu message onu ≡ false
      → IsRepetition known (RangingTime onu eqd) → IsRepetition (after_message known message) (RangingTime onu eqd)
  pub drop : (known : Known) (message : Down) (onu : ℕ) → names_onu message onu ≡ false
      → (onu == broadcast_onu) ≡ false
      → IsRepetition known (Deactivate onu) → IsRepetition (after_message known message) (Deactivate onu)
  pub enable : (known : Known) (message : Down) (serial : Serial) → names_serial message serial ≡ false
      → IsRepetition known (EnableSerial serial) → IsRepetition (after_message known message) (EnableSerial serial)
