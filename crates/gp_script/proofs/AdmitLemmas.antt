-- One more serial number that is not among those before it.
use Rattle.std.proofs.Common.{◌≡◌, Bool, true, false, not, ◌&&◌, ◌||◌, List, [], ◌∷◌, ◌++◌, inl, inr, refl, sym, ap, ◌∙◌, append_assoc}
use Rattle.std.proofs.lemmas.Bool.{cases_Bool, or_parts}
use Rattle.std.proofs.lemmas.Grind.{flat_map-append}
use Rattle.std.proofs.lemmas.List.{append-nil}
use Rattle.std.proofs.lemmas.List.Folds.{list_any-append}
use Rattle.std.specs.List.{list_any}
use Rattle.gp_ploam.specs.declared.message.Serial.{Serial}
use Rattle.gp_ploam.specs.Serials.{same_serial, is_among}
use Rattle.gp_ploam.proofs.Serials.{same_serial-true, same_serial-itself}
use Rattle.gp_machine.specs.declared.config.PortConfig.{PortConfig}
use Rattle.gp_machine.specs.Config.{is_distinct}
use Rattle.gp_script.specs.Port.{all_admitted, is_admitted}

list_any-push : {A : Type 0} (p : A → Bool) (xs : List A) (y : A) → p y ≡ false → list_any p (xs ++ y ∷ []) ≡ list_any p xs
list_any-push p [] y h = ap (λ b. b || false) h
list_any-push p (x ∷ xs) y h = ap (λ b. p x || b) (list_any-push p xs y h)

-- serial numbers that differ one way round differ the other way round
other-way_round : (s t : Serial) → same_serial s t ≡ false → same_serial t s ≡ false
other-way_round s t differ =
    elim (cases_Bool (same_serial t s)) [
      | inl same ↦ let is = same_serial-true t s same in let itself = same_serial-itself s in let both = ap (λ (x : Serial). same_serial s x) is in cc
      | inr not_same ↦ not_same
    ]

-- a list with a new serial number at its end is as distinct as before
pub is_distinct-push : (serials : List Serial) (s : Serial) → is_among s serials ≡ false → is_distinct (serials ++ s ∷ []) ≡ is_distinct serials
is_distinct-push [] s h = refl
is_distinct-push (t ∷ ts) s h =
    let h' = or_parts (same_serial s t) (is_among s ts) h in
    ap (λ b. not b && is_distinct (ts ++ s ∷ [])) (list_any-push (same_serial t) ts s (other-way_round s t h'.0))
    ∙ ap (λ b. not (is_among t ts) && b) (is_distinct-push ts s h'.1)

-- a serial number that no port admits is not among those of all ports
not_among : (ports : List PortConfig) (s : Serial) → is_among s (all_admitted ports) ≡ is_admitted s ports
not_among [] s = refl
not_among (port ∷ ports) s = list_any-append (same_serial s) port.admitted (all_admitted ports) ∙ ap (λ b. is_among s port.admitted || b) (not_among ports s)

-- a serial number that is new on these ports and the one after them leaves all of them distinct
pub once_more : (ports : List PortConfig) (serials : List Serial) (s : Serial) → is_among s serials ≡ false → is_admitted s ports ≡ false
    → is_distinct (all_admitted ports ++ serials) ≡ true → is_distinct (all_admitted ports ++ (serials ++ s ∷ [])) ≡ true
once_more ports serials s here before once =
    let absent : is_among s (all_admitted ports ++ serials) ≡ false = list_any-append (same_serial s) (all_admitted ports) serials ∙ ap (λ b. b || is_among s serials) (not_among ports s ∙ before) ∙ here in
    ap is_distinct (sym (append_assoc (all_admitted ports) serials (s ∷ []))) ∙ is_distinct-push (all_admitted ports ++ serials) s absent ∙ once

-- the serial numbers of the ports, with one port more
pub all_admitted-push : (ports : List PortConfig) (port : PortConfig) → all_admitted (ports ++ port ∷ []) ≡ all_admitted ports ++ port.admitted
all_admitted-push ports port =
    flat_map-append (λ (p : PortConfig). p.admitted) ports (port ∷ []) ∙ ap (λ (l : List Serial). all_admitted ports ++ l) (append-nil port.admitted)
