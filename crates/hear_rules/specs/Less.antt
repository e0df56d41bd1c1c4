-- Less is known where less was heard: an order of what is known, and that less never finds more (this profile's own
-- rule).
use Rattle.std.specs.Prelude.{◌≡◌, ◌⊎◌, ℕ, true, List, [], ◌∷◌, Option, None, Some}
use Rattle.gp_ploam.specs.declared.message.Serial.{Serial}
use Rattle.gp_observer.specs.Heard.{Heard, HeardUp}
use Rattle.hear_rules.specs.declared.rule.Rule.{Rule}
use Rattle.hear_rules.specs.declared.rule.Verdict.TheVariants.{Broken}
use Rattle.hear_rules.specs.Facts.{Fact, Unknown, Nothing, Is, Sure, Yes, No, Unsure}
use Rattle.hear_rules.specs.Known.{Span, Number, Unheard, Nobodys, Of, Owner, Unclear, Free, Has, Known, known_whole, known_midway, asked_by, known_after, known_after_all}
use Rattle.hear_rules.specs.Rules.{Settings, judge_known}
use Rattle.hear_rules.specs.Copies.{Subject, Sending, Cut, Silent, Once, Twice, Said, Sendings, sendings_heard, copies}
use Rattle.gp_ploam.specs.declared.message.Down.{Down}

-- ---- facts: what isn't known is less than anything, and what is known is the same

abbrev pub LessFact : {X : Type 0} → Fact X → Fact X → Type 0
LessFact Unknown more = Unit {0}
LessFact Nothing more = more ≡ Nothing
LessFact (Is value) more = more ≡ Is value

abbrev pub LessSure : Sure → Sure → Type 0
LessSure Unsure more = Unit {0}
LessSure Yes more = more ≡ Yes
LessSure No more = more ≡ No

abbrev pub LessAsks : Option ℕ → Option ℕ → Type 0
LessAsks None more = Unit {0}
LessAsks (Some asks) more = more ≡ Some asks

-- nobody holds it
abbrev pub IsNobodys : Number → Type 0
IsNobodys Unheard = ⊥
IsNobodys Nobodys = Unit {0}
IsNobodys (Of holder delay answers) = ⊥

-- where it is known what a unit said, its delay is the same to both
abbrev pub AsWell : Fact Span → Fact ℕ → Fact ℕ → Type 0
AsWell Unknown delay told = Unit {0}
AsWell Nothing delay told = told ≡ delay
AsWell (Is span) delay told = told ≡ delay

abbrev pub LessNumber : Number → Number → Type 0
LessNumber Unheard more = Unit {0}
LessNumber Nobodys more = IsNobodys more
LessNumber (Of holder delay answers) (Of its told heard) =
    (its ≡ holder) × LessFact delay told × LessFact answers heard × AsWell answers delay told
LessNumber (Of holder delay answers) Unheard = ⊥
LessNumber (Of holder delay answers) Nobodys = ⊥

abbrev pub LessOwner : Owner → Owner → Type 0
LessOwner Unclear more = Unit {0}
LessOwner (Free last) (Free its) = its ≡ last
LessOwner (Free last) Unclear = ⊥
LessOwner (Free last) (Has onu its) = ⊥
LessOwner (Has onu last) (Has other its) = (other ≡ onu) × LessFact last its
LessOwner (Has onu last) Unclear = ⊥
LessOwner (Has onu last) (Free its) = ⊥

-- all that is known by the first is known by the second
pub record Less (less more : Known) : Type 0 where
  pub numbers : (onu : ℕ) → LessNumber (less.numbers onu) (more.numbers onu)
  pub holds : (serial : Serial) → LessFact (less.holds serial) (more.holds serial)
  pub disabled : (serial : Serial) → LessSure (less.disabled serial) (more.disabled serial)
  pub asks : (serial : Serial) → LessAsks (less.asks serial) (more.asks serial)
  pub asked : (serial : Serial) → LessSure (less.asked serial) (more.asked serial)
  pub owners : (alloc : ℕ) → LessOwner (less.owners alloc) (more.owners alloc)
  pub overhead : LessSure less.overhead more.overhead
  pub up : less.up ≡ true → more.up ≡ true

-- ---- who begins later

-- who holds the ONU-ID is known to hold it
abbrev pub HoldsIt : Known → ℕ → Number → Type 0
HoldsIt known onu Unheard = Unit {0}
HoldsIt known onu Nobodys = Unit {0}
HoldsIt known onu (Of holder delay answers) = known.holds holder ≡ Is onu

-- all that is known by the first, who began later, is known by the second; and no unit that the first heard asking has
-- an ONU-ID of which it knows nothing
pub record Later (later known : Known) : Type 0 where
  pub less : Less later known
  pub agrees : (onu : ℕ) → HoldsIt known onu (known.numbers onu)
  pub asked : (serial : Serial) (onu : ℕ) → later.asked serial ≡ Yes → known.holds serial ≡ Is onu
      → later.numbers onu ≡ Unheard → ⊥

-- no unit asks that was there before, and of whose ONU-ID the first knows nothing: none of them restarts
abbrev pub NoneRestarts : Known → Known → Heard → Type 0
NoneRestarts later known (HeardUp (Some message) delay) =
    (serial : Serial) (onu : ℕ) → asked_by message serial ≡ true → known.holds serial ≡ Is onu
    → later.numbers onu ≡ Unheard → ⊥
NoneRestarts later known heard = Unit {0}

abbrev pub NoneEverRestarts : Known → Known → List Heard → Type 0
NoneEverRestarts later known [] = Unit {0}
NoneEverRestarts later known (heard ∷ others) =
    NoneRestarts later known heard × NoneEverRestarts (known_after later heard) (known_after known heard) others

-- ---- the laws

-- what is heard keeps the order
abbrev pub HearingKeepsLess : Type 0
HearingKeepsLess =
    (later known : Known) (heard : Heard) → Later later known → NoneRestarts later known heard
    → Later (known_after later heard) (known_after known heard)

-- what is broken by less is broken by more
abbrev pub LessBreaksNoMore : Type 0
LessBreaksNoMore =
    (settings : Settings) (less more : Known) (heard : Heard) (rule : Rule)
    → Less less more
    → judge_known settings less heard rule ≡ Broken
    → judge_known settings more heard rule ≡ Broken

-- of each thing that is heard: what is broken by what the first knows is broken by what the second knows
abbrev pub FindsNoMore : Settings → Known → Known → List Heard → Type 0
FindsNoMore settings less more [] = Unit {0}
FindsNoMore settings less more (heard ∷ others) =
    ((rule : Rule) → judge_known settings less heard rule ≡ Broken → judge_known settings more heard rule ≡ Broken)
    × FindsNoMore settings (known_after less heard) (known_after more heard) others

-- a log is known from its beginning, or begins in the middle itself
abbrev pub IsBeginning : Known → Type 0
IsBeginning known = (known ≡ known_whole) ⊎ (known ≡ known_midway)

-- who begins later, wherever that is, finds nothing that who heard what was before doesn't find there
abbrev pub LaterFindsNoMore : Type 0
LaterFindsNoMore =
    (settings : Settings) (known : Known) (before later : List Heard)
    → IsBeginning known
    → NoneEverRestarts known_midway (known_after_all known before) later
    → FindsNoMore settings known_midway (known_after_all known before) later

-- ---- copies

-- what was sent last about a subject: where it isn't known how often, that is less
abbrev pub IsOfMessage : Sending → Down → Type 0
IsOfMessage Cut _ = ⊥
IsOfMessage Silent _ = ⊥
IsOfMessage (Once last at) message = last ≡ message
IsOfMessage (Twice last at) message = last ≡ message
IsOfMessage (Said last) message = last ≡ message

abbrev pub LessSending : Sending → Sending → Type 0
LessSending Cut more = Unit {0}
LessSending Silent more = more ≡ Silent
LessSending (Once last at) more = more ≡ Once last at
LessSending (Twice last at) more = more ≡ Twice last at
LessSending (Said last) more = IsOfMessage more last

abbrev pub LessSendings : Sendings → Sendings → Type 0
LessSendings less more = (subject : Subject) → LessSending (less subject) (more subject)

-- what is heard keeps the order, and what breaks `copies` by less does so by more
pub record LessCutsNoMore : Type 0 where
  pub keeps : (less more : Sendings) (now : ℕ) (heard : Heard) → LessSendings less more
      → LessSendings (sendings_heard less now heard) (sendings_heard more now heard)
  pub breaks : (less more : Sendings) (now : ℕ) (heard : Heard) (subject : Subject) → LessSendings less more
      → copies less now heard subject ≡ Broken → copies more now heard subject ≡ Broken

-- of each thing that is heard in its frame
abbrev pub CutsNoMore : Sendings → Sendings → List (ℕ × Heard) → Type 0
CutsNoMore less more [] = Unit {0}
CutsNoMore less more ((now, heard) ∷ others) =
    ((subject : Subject) → copies less now heard subject ≡ Broken → copies more now heard subject ≡ Broken)
    × CutsNoMore (sendings_heard less now heard) (sendings_heard more now heard) others

-- who begins later, wherever that is, finds no copies cut short that who heard what was before doesn't find there
abbrev pub LaterCutsNoMore : Type 0
LaterCutsNoMore =
    (sendings : Sendings) (later : List (ℕ × Heard)) → CutsNoMore (λ subject. Cut) sendings later
