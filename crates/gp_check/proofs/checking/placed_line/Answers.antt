use Rattle.std.proofs.Common.{◌≡◌, ℕ, Bool, true, false, List, Option, None, Some, if◌then◌else◌, string_bytes, refl, ap, sym, ◌∙◌}
use Rattle.gp_check.specs.Check.{found_text, is_script}
use Rattle.gp_check.proofs.checking.placed_line.Goals as goal

-- nothing is told of a script
script_told : (is_script : Bool) (told : Option (List ℕ)) (text : List ℕ) → is_script ≡ true → told ≡ None
    → told ≡ (if is_script then None else Some text)
script_told true told text is same = same
script_told false told text is same = absurd (cc is)

-- of anything else what was found
other_told : (is_script : Bool) (told : Option (List ℕ)) (text : List ℕ) → is_script ≡ false → told ≡ Some text
    → told ≡ (if is_script then None else Some text)
other_told true told text is same = absurd (cc is)
other_told false told text is same = same

pub returns-then-is_script : goal.returns-then-is_script
returns-then-is_script c = record {
  found = c.in_ok-found.found;
  is = c.in_ok-found.ensures;
  tells = script_told (is_script c.in_ok-found.found) None (found_text c.in_ok-found.found) (sym c.is_script.ensures ∙ c.if-is_script.true) refl;
}

pub returns : goal.returns
returns c = record {
  found = c.in_ok-found.found;
  is = c.in_ok-found.ensures;
  tells = other_told (is_script c.in_ok-found.found) (Some (string_bytes c.in_ok-text.text)) (found_text c.in_ok-found.found) (sym c.is_script.ensures ∙ c.if-is_script.false) (ap (λ (text : List ℕ). Some text) c.in_ok-text.ensures);
}
