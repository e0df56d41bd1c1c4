-- The rules of the terminal (G.984.3, clauses 9 and 10): one function a rule, of what is known and what is said, with
-- three answers. That a rule isn't judged by what is unknown is this profile's own rule.
use Rattle.std.specs.Prelude.{ℕ, zero, suc, ◌+◌, ◌==◌, ◌&&◌, ◌||◌, nat_lt, Bool, true, false, not, if◌then◌else◌, List, [], ◌∷◌, Option, None, Some}
use Rattle.std.specs.List.{list_any}
use Rattle.gp_ploam.specs.declared.message.Serial.{Serial}
use Rattle.gp_ploam.specs.declared.message.Down.{Down}
use Rattle.gp_ploam.specs.declared.message.Down.TheVariants.{AssignOnu, RangingTime, AssignAlloc, Popup, Other}
use Rattle.gp_ploam.specs.OnuIds.{broadcast_onu}
use Rattle.gp_ploam.specs.Serials.{same_serial}
use Rattle.gp_ranging.specs.declared.grant.Grant.{Grant}
use Rattle.gp_ranging.specs.declared.grant.Grant.TheVariants.{Search, Range, Poll}
use Rattle.gp_pools.specs.Limits.{first_alloc_id}
use Rattle.gp_observer.specs.Observer.{is_unit_number}
use Rattle.gp_observer.specs.Heard.{Heard, HeardDown, HeardUp, HeardGrant}
use Rattle.hear_rules.specs.declared.rule.Rule.{Rule}
use Rattle.hear_rules.specs.declared.rule.Rule.TheVariants as rule
use Rattle.hear_rules.specs.declared.rule.Verdict.{Verdict}
use Rattle.hear_rules.specs.declared.rule.Verdict.TheVariants.{Kept, Broken, NotJudged}
use Rattle.hear_rules.specs.Facts.{Fact, Unknown, Nothing, Is, Sure, Yes, No, Unsure, broken_if, broken_where, given, but_not, unless, broken_without, broken_unless, is_other}
use Rattle.hear_rules.specs.Known.{Span, Bare, Between, Number, Unheard, Nobodys, Of, Owner, Unclear, Free, Has, Known, is_news}

-- the equalized delay, by how many bit times an equalization delay may miss what the delays leave of it, by how many a
-- unit may drift, and for how many frames behind a message it may still do as before
pub record Settings : Type 0 where
  pub teqd : ℕ
  pub tolerance : ℕ
  pub drift : ℕ
  pub grace : ℕ

-- ---- Assign_ONU-ID

-- `range`: 254 or 255 is given, or an Alloc-ID below 256 that isn't the ONU-ID itself; judged of each copy
abbrev pub range : Down → Verdict
range (AssignOnu onu serial) = broken_if (not (is_unit_number onu))
range (AssignAlloc onu alloc true) = broken_if (nat_lt alloc first_alloc_id && not (alloc == onu))
range _ = NotJudged

abbrev pub judged_if : Bool → Verdict → Verdict
judged_if true verdict = verdict
judged_if false verdict = NotJudged

-- of 254 and 255 `range` alone is needs_holder
abbrev pub assigning : ℕ → Verdict → Verdict
assigning onu verdict = judged_if (is_unit_number onu) verdict

-- `barred`: to a disabled serial number
abbrev pub barred : Known → Down → Verdict
barred known (AssignOnu onu serial) =
    assigning onu (given (is_news known onu serial) (broken_where (known.disabled serial)))
barred known _ = NotJudged

-- `unasked`: to one that has no ask left
abbrev pub broken_unasked : Option ℕ → Verdict
broken_unasked None = NotJudged
broken_unasked (Some zero) = Broken
broken_unasked (Some (suc more)) = Kept

abbrev pub unasked : Known → Down → Verdict
unasked known (AssignOnu onu serial) =
    assigning onu (judged_if known.up (given (is_news known onu serial) (broken_unasked (known.asks serial))))
unasked known _ = NotJudged

-- `taken`: of one that another unit holds, which didn't ask since: if it did it restarted, and its ONU-ID may be
-- another's
abbrev pub taken_of : (Serial → Sure) → Number → Serial → Verdict
taken_of asked Unheard serial = NotJudged
taken_of asked Nobodys serial = Kept
taken_of asked (Of holder delay answers) serial =
    if same_serial serial holder then NotJudged else unless (asked holder) Broken

abbrev pub taken : Known → Down → Verdict
taken known (AssignOnu onu serial) =
    assigning onu (judged_if known.up (taken_of known.asked (known.numbers onu) serial))
taken known _ = NotJudged

-- `renumbered`: to a unit that holds another, and didn't ask since
abbrev pub renumbered_from : Sure → Fact ℕ → ℕ → Verdict
renumbered_from asked Unknown onu = NotJudged
renumbered_from asked Nothing onu = Kept
renumbered_from asked (Is held) onu = if held == onu then NotJudged else unless asked Broken

abbrev pub renumbered : Known → Down → Verdict
renumbered known (AssignOnu onu serial) =
    assigning onu (judged_if known.up (renumbered_from (known.asked serial) (known.holds serial) onu))
renumbered known _ = NotJudged

-- ---- a message to one ONU-ID

-- the identifiers of messages to one ONU-ID, of those that the other rules don't speak of
abbrev pub directed : List ℕ
directed = 4 ∷ 8 ∷ 9 ∷ 10 ∷ 12 ∷ 13 ∷ 14 ∷ 16 ∷ 18 ∷ 19 ∷ []

-- the ONU-ID that somebody has to hold where the message is sent: Deactivate_ONU-ID of one that nobody has is harmless
abbrev pub to_one : ℕ → Option ℕ
to_one onu = if onu == broadcast_onu then None else Some onu

abbrev pub needs_holder : Down → Option ℕ
needs_holder (RangingTime onu eqd) = Some onu
needs_holder (AssignAlloc onu alloc keep) = Some onu
needs_holder (Popup onu) = to_one onu
needs_holder (Other id octet1 body) = if list_any (λ other. other == id) directed then to_one octet1 else None
needs_holder _ = None

-- `nobody`: to one that nobody holds; judged of each copy
abbrev pub held_by_none : Number → Verdict
held_by_none Unheard = NotJudged
held_by_none Nobodys = Broken
held_by_none (Of holder delay answers) = Kept

abbrev pub nobody_to : Known → Option ℕ → Verdict
nobody_to known None = NotJudged
nobody_to known (Some onu) = held_by_none (known.numbers onu)

abbrev pub nobody : Known → Down → Verdict
nobody known message = nobody_to known (needs_holder message)

-- of a message to an ONU-ID that nobody holds the rules below aren't judged
abbrev pub to_holder : Number → Verdict → Verdict
to_holder Unheard verdict = NotJudged
to_holder Nobodys verdict = NotJudged
to_holder (Of holder delay answers) verdict = verdict

-- ---- Ranging_Time: news unless the unit is known to have this delay

-- `unranged`: nothing was heard of the unit since it was assigned
abbrev pub unranged_of : Number → ℕ → Verdict
unranged_of Unheard eqd = NotJudged
unranged_of Nobodys eqd = NotJudged
unranged_of (Of holder delay answers) eqd = but_not (is_other delay eqd) (broken_without answers)

abbrev pub unranged : Known → Down → Verdict
unranged known (RangingTime onu eqd) = judged_if known.up (unranged_of (known.numbers onu) eqd)
unranged known _ = NotJudged

-- the equalization delay is outside of what these delays leave
abbrev pub is_outside : Settings → ℕ → ℕ → ℕ → Bool
is_outside settings eqd least greatest =
    nat_lt (eqd + greatest + settings.tolerance) settings.teqd
    || nat_lt (settings.teqd + settings.tolerance) (eqd + least)

abbrev pub misses : Settings → ℕ → Fact Span → Verdict
misses settings eqd Unknown = NotJudged
misses settings eqd Nothing = NotJudged
misses settings eqd (Is Bare) = NotJudged
misses settings eqd (Is (Between least greatest)) = broken_if (is_outside settings eqd least greatest)

abbrev pub delay_of : Settings → Number → ℕ → Verdict
delay_of settings Unheard eqd = NotJudged
delay_of settings Nobodys eqd = NotJudged
delay_of settings (Of holder delay answers) eqd = but_not (is_other delay eqd) (misses settings eqd answers)

-- `delay`: it is above the equalized one (judged of each copy), or not what the delays of its unit leave of that
abbrev pub delay : Settings → Known → Down → Verdict
delay settings known (RangingTime onu eqd) =
    if nat_lt settings.teqd eqd then Broken else delay_of settings (known.numbers onu) eqd
delay settings known _ = NotJudged

-- ---- Alloc-IDs and POPUP

-- the unit has no delay
abbrev pub early_of : Number → Verdict
early_of Unheard = NotJudged
early_of Nobodys = NotJudged
early_of (Of holder delay answers) = broken_without delay

-- `early`: Assign_Alloc-ID, or POPUP of one, to a unit that has no delay; judged of each copy
abbrev pub early : Known → Down → Verdict
early known (AssignAlloc onu alloc keep) = early_of (known.numbers onu)
early known (Popup onu) = if onu == broadcast_onu then NotJudged else early_of (known.numbers onu)
early known _ = NotJudged

-- `shared`: one is given that another unit has, which didn't ask since it was assigned
abbrev pub shared_with : (Serial → Sure) → Number → Verdict
shared_with asked Unheard = NotJudged
shared_with asked Nobodys = NotJudged
shared_with asked (Of holder delay answers) = unless (asked holder) Broken

abbrev pub shared_of : Known → Owner → ℕ → Verdict
shared_of known Unclear onu = NotJudged
shared_of known (Free last) onu = Kept
shared_of known (Has other last) onu =
    if other == onu then NotJudged else shared_with known.asked (known.numbers other)

abbrev pub shared : Known → Down → Verdict
shared known (AssignAlloc onu alloc true) =
    to_holder (known.numbers onu) (judged_if known.up (shared_of known (known.owners alloc) onu))
shared known _ = NotJudged

-- `not-held`: one is taken back that the unit neither has nor had last; judged of each copy
abbrev pub not_held_of : Owner → ℕ → Verdict
not_held_of Unclear onu = NotJudged
not_held_of (Free last) onu = broken_unless last onu
not_held_of (Has other last) onu = if other == onu then Kept else broken_unless last onu

abbrev pub not_held : Known → Down → Verdict
not_held known (AssignAlloc onu alloc false) =
    to_holder (known.numbers onu) (not_held_of (known.owners alloc) onu)
not_held known _ = NotJudged

-- ---- grants

-- `grant`: a window of an ONU-ID that nobody holds, or a poll of a unit that has no delay
abbrev pub polled : Number → Verdict
polled Unheard = NotJudged
polled Nobodys = Broken
polled (Of holder delay answers) = broken_without delay

abbrev pub granted : Known → Grant → Verdict
granted known Search = NotJudged
granted known (Range onu) = held_by_none (known.numbers onu)
granted known (Poll onu) = polled (known.numbers onu)

-- `overhead`: a search, and no Upstream_Overhead came before
abbrev pub no_overhead : Sure → Verdict
no_overhead Yes = Kept
no_overhead No = Broken
no_overhead Unsure = NotJudged

abbrev pub overhead : Known → Grant → Verdict
overhead known Search = no_overhead known.overhead
overhead known _ = NotJudged

-- ---- the rules of the terminal, of what is known and what is said

abbrev pub judge_message : Settings → Known → Down → Rule → Verdict
judge_message settings known _ rule.Garbled = Kept
judge_message settings known message rule.Range = range message
judge_message settings known message rule.Barred = barred known message
judge_message settings known message rule.Unasked = unasked known message
judge_message settings known message rule.Taken = taken known message
judge_message settings known message rule.Renumbered = renumbered known message
judge_message settings known message rule.Nobody = nobody known message
judge_message settings known message rule.Unranged = unranged known message
judge_message settings known message rule.Delay = delay settings known message
judge_message settings known message rule.Early = early known message
judge_message settings known message rule.Shared = shared known message
judge_message settings known message rule.NotHeld = not_held known message
judge_message settings known _ _ = NotJudged

abbrev pub judge_grant : Known → Grant → Rule → Verdict
judge_grant known grant rule.Overhead = overhead known grant
judge_grant known grant rule.Grant = granted known grant
judge_grant known grant _ = NotJudged

-- a code is garbled
abbrev pub judge_garbled : Rule → Verdict
judge_garbled rule.Garbled = Broken
judge_garbled _ = NotJudged

abbrev pub judge_known : Settings → Known → Heard → Rule → Verdict
judge_known settings known (HeardDown None) rule = judge_garbled rule
judge_known settings known (HeardDown (Some message)) rule = judge_message settings known message rule
judge_known settings known (HeardUp message delay) rule = NotJudged
judge_known settings known (HeardGrant grant) rule = judge_grant known grant rule
