-- A text is told from a place of a line on where its first part is told, and what stands behind it from the next place on.
use Rattle.std.proofs.Common.{◌≡◌, ℕ, true, List, [], ◌∷◌, ◌++◌, refl, sym, ap, subst, ◌∙◌, ◌⊎◌, inl, inr, append-nil}
use Rattle.std.proofs.lemmas.List.Splits.{slice_split_at, slice_split_none}
use Rattle.gp_ploam.specs.declared.check.Mask.{Mask}
use Rattle.gp_lines.specs.Parts.{is_space, parts_of}
use Rattle.gp_json.specs.declared.slot.Slot.{Slot}
use Rattle.gp_json.specs.Fields.{TellsPart, TellsParts}
use Rattle.gp_json.specs.Slots.{may_end, slot_after}
use Rattle.gp_entry_objects.proofs.SpaceLemmas.{Whole}

-- from this place on, the parts of a text are told
abbrev pub ToldAt : Mask → Slot → List ℕ → Type 0
ToldAt mask slot text = (fields : List ℕ) × TellsParts mask slot (parts_of text) fields

-- behind a part there is nothing, where a line may end; or a space, and what is told from there on
abbrev pub Behind : Mask → Slot → List ℕ → Type 0
Behind mask slot tail = ((tail ≡ []) × (may_end slot ≡ true)) ⊎ ((rest : List ℕ) × (tail ≡ 32 ∷ rest) × ToldAt mask slot rest)

-- the parts, told
abbrev PartsTold : Mask → Slot → List (List ℕ) → Type 0
PartsTold mask slot parts = (fields : List ℕ) × TellsParts mask slot parts fields

cut_last : (part tail : List ℕ) → Whole part → tail ≡ [] → parts_of (part ++ tail) ≡ part ∷ []
unfolding parts_of
cut_last part tail whole none = ap parts_of (ap (λ (t : List ℕ). part ++ t) none ∙ append-nil part) ∙ slice_split_none is_space part whole

cut_first : (part tail rest : List ℕ) → Whole part → tail ≡ 32 ∷ rest → parts_of (part ++ tail) ≡ part ∷ parts_of rest
unfolding parts_of
cut_first part tail rest whole is = ap parts_of (ap (λ (t : List ℕ). part ++ t) is) ∙ slice_split_at is_space part 32 rest whole refl

pub part_told : (mask : Mask) (slot : Slot) (part tail said : List ℕ) → Whole part → TellsPart mask slot part said → Behind mask (slot_after slot part) tail
    → ToldAt mask slot (part ++ tail)
part_told mask slot part tail said whole tells (inl ends) =
    subst (PartsTold mask slot) (sym (cut_last part tail whole ends.0)) (said ++ [], (said, [], tells, (ends.1, refl), refl))
part_told mask slot part tail said whole tells (inr more) =
    subst (PartsTold mask slot) (sym (cut_first part tail more.0 whole more.1)) (said ++ more.2.0, (said, more.2.0, tells, more.2.1, refl))
