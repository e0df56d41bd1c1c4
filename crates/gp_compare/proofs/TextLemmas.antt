-- A text that is handed in piece by piece.
use Rattle.std.proofs.Common.{◌≡◌, ◌<◌, ◌≤◌, ℕ, ◌+◌, true, false, List, [], ◌++◌, Option, None, Some, IfSome, refl, sym, ap, ◌∙◌, take, drop, length, arith, append_assoc, append-nil, subst}
use Rattle.std.proofs.Math.Seq.{take-add}
use Rattle.std.proofs.lemmas.List.{take-append-drop, take_all}
use Rattle.gp_compare.specs.declared.difference.Difference.{Difference}
use Rattle.gp_compare.specs.Comparer.{ComparerState, ComparesAs, DiffersWithin, IsAll, Refuses}
use Rattle.gp_compare.specs.Texts.{ComparesText, HandsIn}

pub handed_none : (old text : List ℕ) → old ≡ old ++ take 0 text
handed_none old text = sym (append-nil old)

pub handed_more : (old now new text : List ℕ) (at count : ℕ) → now ≡ old ++ take at text → new ≡ now ++ take count (drop at text) → new ≡ old ++ take (at + count) text
handed_more old now new text at count before more =
    more ∙ ap (λ l. l ++ take count (drop at text)) before ∙ append_assoc old (take at text) (take count (drop at text)) ∙ ap (λ l. old ++ l) (sym (take-add at count text))

-- a part was taken
pub handed_part : (old now new text : List ℕ) (at : ℕ) → now ≡ old ++ take at text → new ≡ now → HandsIn old new text false
handed_part old now new text at before same = record {
  left = drop at text;
  taken = ap (λ l. old ++ l) (sym (take-append-drop at text)) ∙ sym (append_assoc old (take at text) (drop at text)) ∙ ap (λ l. l ++ drop at text) (sym (same ∙ before));
  none = λ e. absurd (cc);
}

-- all of it was
pub handed_all : (old new text : List ℕ) (at : ℕ) → new ≡ old ++ take at text → length text ≤ at → HandsIn old new text true
handed_all old new text at before end = record {
  left = [];
  taken = ap (λ l. old ++ l) (sym (take_all at text end)) ∙ sym before ∙ sym (append-nil new);
  none = λ e. refl;
}

-- ---- what is told of it

-- all of it was taken, and it ended
pub text_ended : (known : Option (List ℕ)) (taken text : List ℕ) (end : Option Difference) → HandsIn [] taken text true → ComparesAs known taken end → ComparesText known text end
text_ended known taken text None h compares =
    let same : text ≡ taken = h.taken ∙ ap (λ l. taken ++ l) (h.none refl) ∙ append-nil taken in
    subst (λ (l : List ℕ). IsAll known l) (sym same) compares
text_ended known taken text (Some difference) h compares = record {
  came = taken;
  left = h.left;
  split = h.taken;
  differs = compares;
  ended = λ none. h.none refl;
}

-- a part was taken, and no more will be
pub text_stopped : (known : Option (List ℕ)) (comparer : ComparerState) (text : List ℕ) (end : Option Difference) → HandsIn [] comparer.taken text false → Refuses comparer → comparer.fault ≡ None
    → end ≡ comparer.difference → IfSome end (DiffersWithin known comparer.taken) → ComparesText known text end
text_stopped known comparer text None h refuses unfailed found differs = absurd (refuses (sym found) unfailed)
text_stopped known comparer text (Some difference) h refuses unfailed found within = record {
  came = comparer.taken;
  left = h.left;
  split = h.taken;
  differs = within.differs;
  ended = λ none. let zero : length within.differs.right ≡ 0 = ap length none in let some : 0 < length within.differs.right = within.some in absurd (omega arith);
}
