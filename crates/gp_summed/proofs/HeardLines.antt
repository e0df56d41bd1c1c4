-- Lines that are heard one after another, while their text comes in pieces.
use Rattle.std.proofs.Common.{◌≡◌, ℕ, ◌||◌, Bool, true, false, List, [], ◌∷◌, ◌++◌, Result, Ok, Err, OnOk, refl, sym, ap, ◌∙◌, subst, append_assoc}
use Rattle.std.specs.Prelude.{is_err}
use Rattle.std.specs.List.{All, flat_map}
use Rattle.std.proofs.lemmas.List.{append-nil}
use Rattle.std.proofs.lemmas.List.Elements.{All-append, All-cons, All-nil}
use Rattle.std.proofs.lemmas.Grind.{flat_map-append}
use Rattle.gp_ploam.specs.declared.check.Mask.{Mask}
use Rattle.gp_lines.specs.Trace.{is_feed}
use Rattle.gp_audit.specs.Listening.{HearsLine, none_heard}
use Rattle.gp_audit.specs.Port.{PortState}
use Rattle.gp_tally.specs.Text.{HasLines, IsOneLine, fed}
use Rattle.gp_summed.specs.Hearing.{HearsLines, HearsText, IsHearing}

-- ---- the lines of a text

-- a part of a line more
has_more : (taken last part : List ℕ) (lines : List (List ℕ)) → HasLines taken lines last → IsOneLine part → HasLines (taken ++ part) lines (last ++ part)
has_more taken last part lines has one = record {
  split = ap (λ (t : List ℕ). t ++ part) has.split ∙ append_assoc (flat_map fed lines) last part;
  each = has.each;
  one = All-append (λ octet. is_feed octet ≡ false) last part has.one one;
}

-- the line that is kept is ended by a part and a line feed
has_ended : (taken last part : List ℕ) (lines : List (List ℕ)) → HasLines taken lines last → IsOneLine part
    → HasLines (taken ++ (part ++ 10 ∷ [])) (lines ++ (last ++ part) ∷ []) []
has_ended taken last part lines has one =
    let whole = last ++ part in
    let front = flat_map fed lines in
    let split : taken ++ (part ++ 10 ∷ []) ≡ front ++ fed whole =
    ap (λ (t : List ℕ). t ++ (part ++ 10 ∷ [])) has.split ∙ append_assoc front last (part ++ 10 ∷ []) ∙ ap (λ (t : List ℕ). front ++ t) (sym (append_assoc last part (10 ∷ []))) in
    let said : flat_map fed (lines ++ whole ∷ []) ++ [] ≡ front ++ fed whole =
    append-nil _ ∙ flat_map-append fed lines (whole ∷ []) ∙ ap (λ (t : List ℕ). front ++ t) (append-nil (fed whole)) in
    record {
      split = split ∙ sym said;
      each = All-append IsOneLine lines (whole ∷ []) has.each
          (All-cons IsOneLine whole [] (All-append (λ octet. is_feed octet ≡ false) last part has.one one) (All-nil IsOneLine));
      one = All-nil (λ octet. is_feed octet ≡ false);
    }

-- ---- what is heard of them

lines_more : (mask : Mask) (lines : List (List ℕ)) (line : List ℕ) (old mid new : List PortState) → HearsLines mask lines old mid → HearsLine mask line mid new
    → HearsLines mask (lines ++ line ∷ []) old new
lines_more mask [] line old mid new h it = (new, subst (λ (p : List PortState). HearsLine mask line p new) h it, refl)
lines_more mask (first ∷ lines) line old mid new h it = (h.0, h.1, lines_more mask lines line h.0 mid new h.2 it)

text_kept : (mask : Mask) (taken last part : List ℕ) (ports : List PortState) → HearsText mask taken last ports → IsOneLine part
    → HearsText mask (taken ++ part) (last ++ part) ports
text_kept mask taken last part ports h one = record { lines = h.lines; has = has_more taken last part h.lines h.has one; heard = h.heard }

text_ended : (mask : Mask) (taken last part : List ℕ) (old new : List PortState) → HearsText mask taken last old → IsOneLine part
    → HearsLine mask (last ++ part) old new → HearsText mask (taken ++ (part ++ 10 ∷ [])) [] new
text_ended mask taken last part old new h one it = record {
  lines = h.lines ++ (last ++ part) ∷ [];
  has = has_ended taken last part h.lines h.has one;
  heard = lines_more mask h.lines (last ++ part) none_heard old new h.heard it;
}

-- nothing came yet
pub text_begun : (mask : Mask) → HearsText mask [] [] none_heard
text_begun mask = record {
  lines = [];
  has = record { split = refl; each = All-nil IsOneLine; one = All-nil (λ octet. is_feed octet ≡ false) };
  heard = refl;
}

-- ---- a hearer

pub kept : {E : Type 0} (mask : Mask) (taken last part line : List ℕ) (ports : List PortState) (refused : Bool) (r : Result (Unit {0}) E)
    → IsHearing refused mask taken last ports → IsOneLine part → OnOk r (line ≡ last ++ part)
    → IsHearing (refused || is_err r) mask (taken ++ part) line ports
kept mask taken last part line ports true r h one is = tt
kept mask taken last part line ports false (Ok u) h one is = subst (λ (l : List ℕ). HearsText mask (taken ++ part) l ports) (sym is) (text_kept mask taken last part ports h one)
kept mask taken last part line ports false (Err e) h one is = tt

pub ended : {E : Type 0} (mask : Mask) (taken last part line : List ℕ) (old new : List PortState) (refused : Bool) (r : Result (Unit {0}) E)
    → IsHearing refused mask taken last old → IsOneLine part → OnOk r (HearsLine mask (last ++ part) old new) → OnOk r (line ≡ [])
    → IsHearing (refused || is_err r) mask (taken ++ (part ++ 10 ∷ [])) line new
ended mask taken last part line old new true r h one it is = tt
ended mask taken last part line old new false (Ok u) h one it is = subst (λ (l : List ℕ). HearsText mask (taken ++ (part ++ 10 ∷ [])) l new) (sym is) (text_ended mask taken last part old new h one it)
ended mask taken last part line old new false (Err e) h one it is = tt
