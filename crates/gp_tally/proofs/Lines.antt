-- Lines that are counted one after another, while their text comes in pieces.
use Rattle.std.proofs.Common.{◌≡◌, ℕ, ◌||◌, Bool, true, false, List, [], ◌∷◌, ◌++◌, Option, None, Some, Result, Ok, Err, OnOk, length, replicate, refl, sym, ap, ◌∙◌, subst, inl, inr, append_assoc}
use Rattle.std.specs.Prelude.{OnErr, is_err, slice_get}
use Rattle.std.specs.List.{All, flat_map}
use Rattle.std.specs.declared.alloc.AllocError.{AllocError}
use Rattle.std.proofs.lemmas.List.{append-nil, length-replicate, length-set}
use Rattle.std.proofs.lemmas.List.Elements.{All-append, All-cons, All-nil}
use Rattle.std.proofs.lemmas.Grind.{flat_map-append}
use Rattle.gp_ploam.specs.declared.check.Mask.{Mask}
use Rattle.gp_lines.specs.Trace.{is_feed}
use Rattle.gp_tally.specs.declared.told.Told.{Told}
use Rattle.gp_tally.specs.Tally.{PortTally, no_tally, noted}
use Rattle.gp_tally.specs.Ports.{CountsLine, CountsLines, told_with}
use Rattle.gp_tally.specs.Text.{CountsText, IsOneLine, fed}
use Rattle.gp_tally.specs.Counter.{IsCounting}

-- ---- one line

told_keeps : (ports : List PortTally) (port : ℕ) (told : Told) (at : Option PortTally) → length (told_with ports port told at) ≡ length ports
told_keeps ports port told None = refl
told_keeps ports port told (Some tally) = length-set ports port (noted tally told)

pub line_keeps : (mask : Mask) (line : List ℕ) (old new : List PortTally) → CountsLine mask line old new → length new ≡ length old
line_keeps mask line old new (inl it) = ap length it.counted ∙ told_keeps old it.port it.told (slice_get old it.port)
line_keeps mask line old new (inr none) = ap length none.1

-- ---- lines

lines_more : (mask : Mask) (lines : List (List ℕ)) (line : List ℕ) (old mid new : List PortTally) → CountsLines mask lines old mid → CountsLine mask line mid new
    → CountsLines mask (lines ++ line ∷ []) old new
lines_more mask [] line old mid new h it = (new, subst (λ (p : List PortTally). CountsLine mask line p new) h it, refl)
lines_more mask (first ∷ lines) line old mid new h it = (h.0, h.1, lines_more mask lines line h.0 mid new h.2 it)

-- ---- a text

-- a part of a line more
text_kept : (mask : Mask) (taken last part : List ℕ) (ports : List PortTally) → CountsText mask taken last ports → IsOneLine part
    → CountsText mask (taken ++ part) (last ++ part) ports
text_kept mask taken last part ports h one = record {
  lines = h.lines;
  has = record {
    split = ap (λ (t : List ℕ). t ++ part) h.has.split ∙ append_assoc (flat_map fed h.lines) last part;
    each = h.has.each;
    one = All-append (λ octet. is_feed octet ≡ false) last part h.has.one one;
  };
  counted = h.counted;
}

-- the line that is kept is ended by a part and a line feed
text_ended : (mask : Mask) (taken last part : List ℕ) (old new : List PortTally) → CountsText mask taken last old → IsOneLine part
    → CountsLine mask (last ++ part) old new → CountsText mask (taken ++ (part ++ 10 ∷ [])) [] new
text_ended mask taken last part old new h one it =
    let whole = last ++ part in
    let front = flat_map fed h.lines in
    let split : taken ++ (part ++ 10 ∷ []) ≡ front ++ fed whole =
    ap (λ (t : List ℕ). t ++ (part ++ 10 ∷ [])) h.has.split ∙ append_assoc front last (part ++ 10 ∷ []) ∙ ap (λ (t : List ℕ). front ++ t) (sym (append_assoc last part (10 ∷ []))) in
    let said : flat_map fed (h.lines ++ whole ∷ []) ++ [] ≡ front ++ fed whole =
    append-nil _ ∙ flat_map-append fed h.lines (whole ∷ []) ∙ ap (λ (t : List ℕ). front ++ t) (append-nil (fed whole)) in
    record {
      lines = h.lines ++ whole ∷ [];
      has = record {
        split = split ∙ sym said;
        each = All-append IsOneLine h.lines (whole ∷ []) h.has.each (All-single whole (All-append (λ octet. is_feed octet ≡ false) last part h.has.one one));
        one = All-nil (λ octet. is_feed octet ≡ false);
      };
      counted = subst (λ (n : ℕ). CountsLines mask (h.lines ++ whole ∷ []) (replicate n no_tally) new) (sym (line_keeps mask whole old new it))
          (lines_more mask h.lines whole (replicate (length old) no_tally) old new h.counted it);
    }
  where
    All-single : (x : List ℕ) → IsOneLine x → All IsOneLine (x ∷ [])
    All-single x p = All-cons IsOneLine x [] p (All-nil IsOneLine)

-- nothing came yet
pub text_begun : (mask : Mask) (ports : ℕ) → CountsText mask [] [] (replicate ports no_tally)
text_begun mask ports = record {
  lines = [];
  has = record { split = refl; each = All-nil IsOneLine; one = All-nil (λ octet. is_feed octet ≡ false) };
  counted = ap (λ (n : ℕ). replicate n no_tally) (sym (length-replicate ports no_tally));
}

-- ---- a counter

pub kept : (mask : Mask) (taken last part line : List ℕ) (ports : List PortTally) (refused : Bool) (r : Result (Unit {0}) AllocError)
    → IsCounting refused mask taken last ports → IsOneLine part → OnOk r (line ≡ last ++ part)
    → IsCounting (refused || is_err r) mask (taken ++ part) line ports
kept mask taken last part line ports true r h one is = tt
kept mask taken last part line ports false (Ok u) h one is = subst (λ (l : List ℕ). CountsText mask (taken ++ part) l ports) (sym is) (text_kept mask taken last part ports h one)
kept mask taken last part line ports false (Err e) h one is = tt

pub ended : (mask : Mask) (taken last part line : List ℕ) (old new : List PortTally) (refused : Bool) (r : Result (Unit {0}) AllocError)
    → IsCounting refused mask taken last old → IsOneLine part → OnOk r (CountsLine mask (last ++ part) old new) → OnOk r (line ≡ [])
    → IsCounting (refused || is_err r) mask (taken ++ (part ++ 10 ∷ [])) line new
ended mask taken last part line old new true r h one it is = tt
ended mask taken last part line old new false (Ok u) h one it is = subst (λ (l : List ℕ). CountsText mask (taken ++ (part ++ 10 ∷ [])) l new) (sym is) (text_ended mask taken last part old new h one it)
ended mask taken last part line old new false (Err e) h one it is = tt

pub ports_kept : (mask : Mask) (text : List ℕ) (old new : List PortTally) (r : Result (Unit {0}) AllocError) → OnOk r (CountsLine mask text old new) → OnErr r (new ≡ old) → length new ≡ length old
ports_kept mask text old new (Ok u) it same = line_keeps mask text old new it
ports_kept mask text old new (Err e) it same = ap length same
