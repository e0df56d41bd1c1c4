-- Codes are told of each trace of which all was told.
use Rattle.std.proofs.Common.{◌≡◌, ℕ, List, Option, IsSome, ◌⊎◌, Result, Ok, Err, IfOk, OnOk, inl, inr, subst, sym, rules}
use Rattle.std.specs.declared.alloc.AllocError.{AllocError}
use Rattle.std.specs.declared.alloc.Global.{Global}
use Rattle.std.specs.declared.vec.Vec.{Vec}
use Rattle.gp_explain.specs.declared.fault.ExplainFault.{ExplainFault}
use Rattle.gp_explain.specs.declared.fault.ExplainFault.TheVariants.{Refused, Lines}
use Rattle.gp_explain.specs.Telling.{Manner}
use Rattle.gp_stream.specs.Source.{SourceState}
use Rattle.gp_tell.specs.Teller.{TellerState}
use Rattle.gp_tell.specs.declared.fault.TellFault.{TellFault}
use Rattle.gp_tell.specs.declared.fault.TellFault.TheVariants as tells
use Rattle.gp_ploam.specs.declared.check.Mask.{Mask}
use Rattle.gp_summary.specs.declared.form.SummaryForm.{SummaryForm}
use Rattle.gp_summed.specs.declared.codes.HeardCodes.{HeardCodes}
use Rattle.gp_with_units.specs.declared.explaining.ToldTrace.{ToldTrace}
use Rattle.gp_with_units.specs.Behind.{TellsThen, WritesSummary, WritesText, stopped_by}
use Rattle.gp_with_units.specs.Explaining.{ExplainsForSummary, ExplainsWithUnits, SumsTrace, no_memory, not_written, told_with, trace_ended_by}

abbrev pub HasHeard : ToldTrace → Type 0
HasHeard told = OnOk told.lines (IsSome told.codes)

by : (done told : ToldTrace) → told ≡ done → HasHeard done → HasHeard told
by done told is h = subst HasHeard (sym is) h

with_codes : (lines : Result ℕ ExplainFault) (codes : Result HeardCodes AllocError) → HasHeard (told_with lines codes)
with_codes (Ok lines) (Ok codes) = search rules
with_codes (Err fault) (Ok codes) = tt
with_codes lines (Err memory) = tt

by_text : (done unwritten told : ToldTrace) (text : List ℕ) (old new : Option (List ℕ)) → HasHeard done → HasHeard unwritten → WritesText done unwritten text old new told
    → HasHeard told
by_text done unwritten told text old new h k (inl w) = by done told w.1 h
by_text done unwritten told text old new h k (inr w) = by unwritten told w.3 k

by_summary : (done told : ToldTrace) (summary : Result (Vec ℕ Global) AllocError) (old new : Option (List ℕ)) → HasHeard done
    → WritesSummary done no_memory not_written summary old new told → HasHeard told
by_summary done told (Ok text) old new h w = by_text done not_written told text.items old new h tt w
by_summary done told (Err memory) old new h w = by no_memory told w.1 tt

pub by_sums : (lines : Result ℕ ExplainFault) (codes : Result HeardCodes AllocError) (summary : Result (Vec ℕ Global) AllocError) (old new : Option (List ℕ)) (told : ToldTrace)
    → SumsTrace lines codes summary old new told → HasHeard told
by_sums (Ok lines) codes summary old new told w = by_summary (told_with (Ok lines) codes) told summary old new (with_codes (Ok lines) codes) w
by_sums (Err (Refused line why)) codes summary old new told w =
    by_summary (told_with (Err (Refused line why)) codes) told summary old new (with_codes (Err (Refused line why)) codes) w
by_sums (Err (Lines fault)) codes summary old new told w = by _ told w.1 tt

by_fault : (fault : TellFault) (lines : Result ℕ ExplainFault) → HasHeard (trace_ended_by fault lines)
by_fault tells.OutOfMemory lines = tt
by_fault tells.Write (Ok lines) = tt
by_fault tells.Write (Err (Refused line why)) = tt
by_fault tells.Write (Err (Lines fault)) = tt

by_telling : {W : Type 0} (manner : Manner) (teller : TellerState W) (lines : Result ℕ ExplainFault) (codes : Result HeardCodes AllocError) (summary : Result (Vec ℕ Global) AllocError)
    (old new : Option (List ℕ)) (told : ToldTrace) → TellsThen manner teller (SumsTrace lines codes summary) (λ fault. trace_ended_by fault lines) old new told → HasHeard told
by_telling manner teller lines codes summary old new told (inl w) = by_sums lines codes summary w.0 new told w.3
by_telling manner teller lines codes summary old new told (inr w) = by _ told w.1 (by_fault (stopped_by teller.fault) lines)

pub heard_with : {R W : Type 0} (form : SummaryForm) (manner : Manner) (from to : SourceState R) (old new : Option (List ℕ)) (told : ToldTrace)
    → ExplainsWithUnits R W form manner from to old new told → HasHeard told
heard_with form manner from to old new told e = by_telling manner e.counting.inner e.lines e.codes e.summary old new told e.tells

heard_alone : {R W : Type 0} (form : SummaryForm) (mask : Mask) (from to : SourceState R) (old new : Option (List ℕ)) (told : ToldTrace)
    → ExplainsForSummary R W form mask from to old new told → HasHeard told
heard_alone form mask from to old new told e = by_sums e.lines e.codes e.summary old new told e.sums

-- or memory was refused before anything was read
pub heard_unless : {R W A B : Type 0} (form : SummaryForm) (mask : Mask) (from to : SourceState R) (old new : Option (List ℕ)) (told : ToldTrace)
    → ((told ≡ no_memory) × A × B) ⊎ ExplainsForSummary R W form mask from to old new told → HasHeard told
heard_unless form mask from to old new told (inl h) = by no_memory told h.0 tt
heard_unless form mask from to old new told (inr e) = heard_alone form mask from to old new told e

pub if_ok : {A E : Type 0} {P Q : A → Type 0} (r : Result A E) → IfOk r P → ((x : A) → P x → Q x) → IfOk r Q
if_ok (Ok x) p f = f x p
if_ok (Err e) p f = tt
