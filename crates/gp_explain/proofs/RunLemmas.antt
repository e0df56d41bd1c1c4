-- Runs of a line that are told as they are.
use Rattle.std.proofs.Common.{◌≡◌, ℕ, ◌-◌, ◌≤◌, List, [], ◌∷◌, ◌++◌, Option, None, Some, Result, OnOk, codes, length, take, drop, refl, sym, ap, subst, ◌∙◌, append_assoc, take_at, length-append, false, arith}
use Rattle.std.proofs.lemmas.List.{append-nil, take_rest}
use Rattle.std.proofs.lemmas.List.Splits.{join_with_byte-slice_split}
use Rattle.std.proofs.Math.Seq.{drop-append_seam}
use Rattle.std.specs.List.{join_with_byte}
use Rattle.gp_ploam.specs.declared.check.Mask.{Mask}
use Rattle.gp_lines.specs.Parts.{parts_of, parts_behind}
use Rattle.gp_lines.proofs.PartsLemmas.{parts_some}
use Rattle.gp_explain.specs.declared.place.Place.{Place}
use Rattle.gp_explain.specs.declared.place.Place.TheVariants.{Word, Delay, UnitCode, TerminalCode}
use Rattle.gp_explain.specs.Words.{TellsLine, TellsPart, place_after}
use Rattle.gp_explain.specs.Runs.{RunsOn, front, is_code}
use Rattle.gp_explain.proofs.PartsLemmas.{LeadsBehind, behind_ended, behind_first, behind_next}

-- a space and what stands behind it, if there is a space
abbrev pub spaced_rest : Option (List ℕ) → List ℕ
spaced_rest None = []
spaced_rest (Some text) = 32 ∷ text

joined : (text : List ℕ) → join_with_byte 32 (parts_of text) ≡ text
unfolding parts_of
joined text = join_with_byte-slice_split 32 text

joined_first : (part : List ℕ) (rest : Option (List ℕ)) → join_with_byte 32 (part ∷ parts_behind rest) ≡ part ++ spaced_rest rest
joined_first part None = sym (append-nil part)
joined_first part (Some text) =
    let some = parts_some text in
    ap (λ (ps : List (List ℕ)). join_with_byte 32 (part ∷ ps)) some.2
    ∙ ap (λ (l : List ℕ). part ++ 32 ∷ l) (ap (join_with_byte 32) (sym some.2) ∙ joined text)

-- a text is its first part and the rest
pub cut_apart : (text part : List ℕ) (rest : Option (List ℕ)) → parts_of text ≡ part ∷ parts_behind rest → text ≡ part ++ spaced_rest rest
cut_apart text part rest is = sym (joined text) ∙ ap (join_with_byte 32) is ∙ joined_first part rest

-- what stands before the end of a run
front_is : (run first behind : List ℕ) → run ≡ first ++ behind → front run behind ≡ first
front_is run first behind is =
    let long = ap length is in
    let sum = length-append first behind in
    let many : length run - length behind ≡ length first = omega (arith, long, sum) in
    ap (λ (n : ℕ). take n run) many ∙ ap (take (length first)) is ∙ take_at first behind (length first) refl

-- ---- one part

told_as_is : (mask : Mask) (place : Place) (part : List ℕ) → is_code place ≡ false → TellsPart mask place part part
told_as_is mask Word part is = refl
told_as_is mask Delay part is = refl
told_as_is mask UnitCode part is = absurd (cc)
told_as_is mask TerminalCode part is = absurd (cc)

-- nothing is appended
pub runs_silent : (mask : Mask) (place : Place) (part run behind out : List ℕ) → is_code place ≡ false → run ≡ front run behind ++ behind
    → RunsOn mask place part run behind run out out
runs_silent mask place part run behind out is ends = record {
  told = part;
  tells = told_as_is mask place part is;
  pending = front run behind ++ part;
  apart = λ rest apart. ends ∙ ap (λ (l : List ℕ). front run behind ++ l) apart ∙ sym (append_assoc (front run behind) part rest);
  stands = sym (append_assoc out (front run behind) part);
}

-- all up to the part is appended, and the part
pub runs_told : (mask : Mask) (place : Place) (part run behind before between after : List ℕ) → between ≡ before ++ front run behind
    → ((told : List ℕ) × TellsPart mask place part told × (after ≡ between ++ told))
    → RunsOn mask place part run behind (take (length behind - length part) (drop (length part) behind)) before after
runs_told mask place part run behind before between after front_told told = record {
  told = told.0;
  tells = told.1;
  pending = [];
  apart = λ rest apart.
      take_rest behind (length part) ∙ ap (drop (length part)) apart ∙ drop-append_seam part rest;
  stands = append-nil after ∙ told.2 ∙ ap (λ (l : List ℕ). l ++ told.0) front_told;
}

-- ---- all parts

-- what was appended, with what of the run isn't yet, leads to what is told of the whole line
pub record Pending (before : List ℕ) (mask : Mask) (text : List ℕ) (place : Place) (rest : Option (List ℕ)) (out run : List ℕ) : Type 0 where
  pub pending : List ℕ
  pub apart : run ≡ pending ++ spaced_rest rest
  pub leads : LeadsBehind before mask text place (parts_behind rest) (out ++ pending)

pub pending_first : (before : List ℕ) (mask : Mask) (text first : List ℕ) (place : Place) (rest : Option (List ℕ)) → parts_of text ≡ first ∷ parts_behind rest → place ≡ place_after Word first
    → Pending before mask text place rest before text
pending_first before mask text first place rest parts there = record {
  pending = first;
  apart = cut_apart text first rest parts;
  leads = behind_first before mask text first (before ++ first) place (parts_behind rest) parts there refl;
}

-- behind which a space stands
pub at_space : (before : List ℕ) (mask : Mask) (text : List ℕ) (place : Place) (rest : Option (List ℕ)) (behind out run : List ℕ) → Pending before mask text place rest out run → rest ≡ Some behind
    → Pending before mask text place (Some behind) out run
at_space before mask text place rest behind out run h is = subst (λ (o : Option (List ℕ)). Pending before mask text place o out run) is h

-- the run up to the part
run_apart : (run pending behind : List ℕ) → run ≡ pending ++ 32 ∷ behind → run ≡ (pending ++ 32 ∷ []) ++ behind
run_apart run pending behind is = is ∙ sym (append_assoc pending (32 ∷ []) behind)

pub run_ends : (before : List ℕ) (mask : Mask) (text : List ℕ) (place : Place) (behind out run : List ℕ) → Pending before mask text place (Some behind) out run
    → run ≡ front run behind ++ behind
run_ends before mask text place behind out run h =
    let is = run_apart run h.pending behind h.apart in
    is ∙ ap (λ (l : List ℕ). l ++ behind) (sym (front_is run (h.pending ++ 32 ∷ []) behind is))

pub run_long : (before : List ℕ) (mask : Mask) (text : List ℕ) (place : Place) (behind out run : List ℕ) → Pending before mask text place (Some behind) out run
    → length behind ≤ length run
run_long before mask text place behind out run h =
    let all = ap length h.apart in
    let sum = length-append h.pending (32 ∷ behind) in
    omega (arith, all, sum)

pub part_long : (behind part : List ℕ) (rest : Option (List ℕ)) → parts_of behind ≡ part ∷ parts_behind rest → length part ≤ length behind
part_long behind part rest parts =
    let all = ap length (cut_apart behind part rest parts) in
    let sum = length-append part (spaced_rest rest) in
    omega (arith, all, sum)

pub pending_next : (before : List ℕ) (mask : Mask) (text : List ℕ) (place next : Place) (part behind out new run left : List ℕ) (rest : Option (List ℕ)) → Pending before mask text place (Some behind) out run
    → parts_of behind ≡ part ∷ parts_behind rest → RunsOn mask place part run behind left out new → next ≡ place_after place part
    → Pending before mask text next rest new left
pending_next before mask text place next part behind out new run left rest h parts runs there =
    let apart = run_apart run h.pending behind h.apart in
    let same : new ++ runs.pending ≡ ((out ++ h.pending) ++ 32 ∷ []) ++ runs.told =
    runs.stands
    ∙ ap (λ (l : List ℕ). (out ++ l) ++ runs.told) (front_is run (h.pending ++ 32 ∷ []) behind apart)
    ∙ ap (λ (l : List ℕ). l ++ runs.told) (sym (append_assoc out h.pending (32 ∷ []))) in
    record {
      pending = runs.pending;
      apart = runs.apart (spaced_rest rest) (cut_apart behind part rest parts);
      leads = behind_next before mask text place next part (out ++ h.pending) ((out ++ h.pending) ++ 32 ∷ []) (new ++ runs.pending) (parts_of behind) (parts_behind rest) h.leads parts refl
          (runs.told, runs.tells, same) there;
    }

pub pending_ended : {E : Type 0} (r : Result (Unit {0}) E) (before : List ℕ) (mask : Mask) (text : List ℕ) (place : Place) (rest : Option (List ℕ)) (out run between new : List ℕ) → Pending before mask text place rest out run
    → rest ≡ None → between ≡ out ++ run → OnOk r (new ≡ between ++ codes "\n") → OnOk r ((line : List ℕ) × TellsLine mask text line × (new ≡ before ++ line))
pending_ended r before mask text place rest out run between new h none appended is =
    let all : between ≡ out ++ h.pending =
    appended ∙ ap (λ (l : List ℕ). out ++ l) (h.apart ∙ ap (λ (o : Option (List ℕ)). h.pending ++ spaced_rest o) none ∙ append-nil h.pending) in
    behind_ended r before mask text place (parts_behind rest) (out ++ h.pending) new h.leads (ap parts_behind none)
    (subst (λ (l : List ℕ). OnOk r (new ≡ l ++ codes "\n")) all is)
