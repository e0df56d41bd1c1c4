-- The parts of a line that are told one after another.
use Rattle.std.proofs.Common.{◌≡◌, ℕ, List, [], ◌∷◌, ◌++◌, Result, Ok, Err, OnOk, codes, refl, sym, ap, subst, ◌∙◌, append_assoc}
use Rattle.std.proofs.lemmas.List.{append-nil}
use Rattle.std.specs.List.{join_with_byte}
use Rattle.gp_ploam.specs.declared.check.Mask.{Mask}
use Rattle.gp_lines.specs.Parts.{parts_of}
use Rattle.gp_explain.specs.declared.place.Place.{Place}
use Rattle.gp_explain.specs.declared.place.Place.TheVariants.{Word}
use Rattle.gp_explain.specs.Words.{TellsLine, TellsPart, TellsParts, place_after}

-- a space before each part
abbrev pub spaced : List (List ℕ) → List ℕ
spaced [] = []
spaced (part ∷ parts) = 32 ∷ part ++ spaced parts

join_spaced : (first : List ℕ) (others : List (List ℕ)) → join_with_byte 32 (first ∷ others) ≡ first ++ spaced others
join_spaced first [] = sym (append-nil first)
join_spaced first (next ∷ others) = ap (λ (l : List ℕ). first ++ 32 ∷ l) (join_spaced next others)

-- whatever the parts left are told as, with what was told before them it is the whole line's
pub record Leads (mask : Mask) (text : List ℕ) (place : Place) (left : List (List ℕ)) (out : List ℕ) : Type 0 where
  pub ends : (more : List (List ℕ)) → TellsParts mask place left more
      → (told : List (List ℕ)) × TellsParts mask Word (parts_of text) told × (join_with_byte 32 told ≡ out ++ spaced more)

-- behind the first part
pub leads_first : (mask : Mask) (text first out : List ℕ) (place : Place) (left : List (List ℕ)) → parts_of text ≡ first ∷ left → place ≡ place_after Word first → out ≡ first
    → Leads mask text place left out
leads_first mask text first out place left parts there same =
    let whole : Leads mask text (place_after Word first) left first = record {
      ends = λ more h. (
        first ∷ more,
        subst (λ (ps : List (List ℕ)). TellsParts mask Word ps (first ∷ more)) (sym parts) (refl, h),
        join_spaced first more,
      );
    } in
    subst (λ (p : Place). Leads mask text p left out) (sym there) (subst (λ (o : List ℕ). Leads mask text (place_after Word first) left o) (sym same) whole)

leads_part : (mask : Mask) (text : List ℕ) (place : Place) (part told out : List ℕ) (left : List (List ℕ)) → TellsPart mask place part told
    → Leads mask text place (part ∷ left) out → Leads mask text (place_after place part) left ((out ++ 32 ∷ []) ++ told)
leads_part mask text place part told out left tells h = record {
  ends = λ more others.
      let whole = h.ends (told ∷ more) (tells, others) in (
        whole.0,
        whole.1,
        whole.2 ∙ sym (append_assoc out (32 ∷ []) (told ++ spaced more)) ∙ sym (append_assoc (out ++ 32 ∷ []) told (spaced more)),
      );
}

-- behind one part more
pub leads_next : (mask : Mask) (text : List ℕ) (place next : Place) (part out between new : List ℕ) (left others : List (List ℕ)) → Leads mask text place left out
    → left ≡ part ∷ others → between ≡ out ++ 32 ∷ [] → ((told : List ℕ) × TellsPart mask place part told × (new ≡ between ++ told)) → next ≡ place_after place part
    → Leads mask text next others new
leads_next mask text place next part out between new left others h is space told there =
    let here : Leads mask text place (part ∷ others) out = subst (λ (l : List (List ℕ)). Leads mask text place l out) is h in
    let same : new ≡ (out ++ 32 ∷ []) ++ told.0 = told.2 ∙ ap (λ (l : List ℕ). l ++ told.0) space in
    subst (λ (p : Place). Leads mask text p others new) (sym there)
    (subst (λ (o : List ℕ). Leads mask text (place_after place part) others o) (sym same) (leads_part mask text place part told.0 out others told.1 here))

-- behind the last part
pub leads_end : (mask : Mask) (text : List ℕ) (place : Place) (left : List (List ℕ)) (out line : List ℕ) → Leads mask text place left out → left ≡ [] → line ≡ out ++ codes "\n"
    → TellsLine mask text line
leads_end mask text place left out line h none is =
    let whole = (subst (λ (l : List (List ℕ)). Leads mask text place l out) none h).ends [] tt in
    (whole.0, whole.1, is ∙ ap (λ (l : List ℕ). l ++ codes "\n") (sym (whole.2 ∙ append-nil out)))

-- ---- the same behind what stood in the buffer before

pub record LeadsBehind (before : List ℕ) (mask : Mask) (text : List ℕ) (place : Place) (left : List (List ℕ)) (out : List ℕ) : Type 0 where
  pub line : List ℕ
  pub stands : out ≡ before ++ line
  pub leads : Leads mask text place left line

pub behind_first : (before : List ℕ) (mask : Mask) (text first out : List ℕ) (place : Place) (left : List (List ℕ)) → parts_of text ≡ first ∷ left → place ≡ place_after Word first → out ≡ before ++ first
    → LeadsBehind before mask text place left out
behind_first before mask text first out place left parts there same =
    record { line = first; stands = same; leads = leads_first mask text first first place left parts there refl }

pub behind_next : (before : List ℕ) (mask : Mask) (text : List ℕ) (place next : Place) (part out between new : List ℕ) (left others : List (List ℕ)) → LeadsBehind before mask text place left out
    → left ≡ part ∷ others → between ≡ out ++ 32 ∷ [] → ((told : List ℕ) × TellsPart mask place part told × (new ≡ between ++ told)) → next ≡ place_after place part
    → LeadsBehind before mask text next others new
behind_next before mask text place next part out between new left others h is space told there =
    let line = (h.line ++ 32 ∷ []) ++ told.0 in
    let first : between ≡ before ++ (h.line ++ 32 ∷ []) = space ∙ ap (λ (l : List ℕ). l ++ 32 ∷ []) h.stands ∙ append_assoc before h.line (32 ∷ []) in
    record {
      line = line;
      stands = told.2 ∙ ap (λ (l : List ℕ). l ++ told.0) first ∙ append_assoc before (h.line ++ 32 ∷ []) told.0;
      leads = leads_next mask text place next part h.line (h.line ++ 32 ∷ []) line left others h.leads is refl (told.0, told.1, refl) there;
    }

pub behind_ended : {E : Type 0} (r : Result (Unit {0}) E) (before : List ℕ) (mask : Mask) (text : List ℕ) (place : Place) (left : List (List ℕ)) (out new : List ℕ) → LeadsBehind before mask text place left out
    → left ≡ [] → OnOk r (new ≡ out ++ codes "\n") → OnOk r ((line : List ℕ) × TellsLine mask text line × (new ≡ before ++ line))
behind_ended (Ok x) before mask text place left out new h none is = (
  h.line ++ codes "\n",
  leads_end mask text place left h.line (h.line ++ codes "\n") h.leads none refl,
  is ∙ ap (λ (l : List ℕ). l ++ codes "\n") h.stands ∙ append_assoc before h.line (codes "\n"),
)
behind_ended (Err e) before mask text place left out new h none is = tt
