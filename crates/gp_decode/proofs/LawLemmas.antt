-- Laws of what a line says.
use Rattle.std.proofs.Common.{◌≡◌, ℕ, ◌==◌, true, false, List, [], ◌∷◌, get_or, None, slice_index, refl, sym, ap, ◌∙◌, inl, inr, arith}
use Rattle.std.proofs.lemmas.Bool.{cases_Bool, false≢true}
use Rattle.std.proofs.lemmas.Bool.Decides.{nat_tests}
use Rattle.std.proofs.lemmas.List.Splits.{slice_split_none}
use Rattle.std.proofs.lemmas.List.Sums.{AllPass-from_list_all}
use Rattle.std.proofs.Common.{append-nil}
use Rattle.std.specs.List.{AllPass, flat_map, list_all, slice_split}
use Rattle.hex.specs.Hex.{is_hex_digit}
use Rattle.gp_ploam.specs.declared.message.Down.{Down}
use Rattle.gp_ploam.specs.declared.message.Down.TheVariants as down
use Rattle.gp_ploam.specs.declared.message.Up.{Up}
use Rattle.gp_ploam.specs.declared.message.Up.TheVariants as up
use Rattle.gp_ploam.specs.Down.{IsNamedDown, down_row}
use Rattle.gp_ploam.specs.Row.{written}
use Rattle.gp_ploam.specs.Up.{IsNamedUp, up_row}
use Rattle.gp_decode.specs.LineText.{code_digits, is_between, without_prefix}
use Rattle.gp_decode.specs.Names.{other_name}

-- a digit is no octet that isn't one
no_digit : (octet other : ℕ) → is_hex_digit other ≡ false → is_hex_digit octet ≡ true → (octet == other) ≡ false
no_digit octet other none digit =
    elim (cases_Bool (octet == other)) [
      | inl same ↦
          let is : octet ≡ other = grind (arith, nat_tests, same) in
          absurd (false≢true (sym none ∙ ap is_hex_digit (sym is) ∙ digit))
      | inr different ↦ different
    ]

not_between : (octet : ℕ) → is_hex_digit octet ≡ true → is_between octet ≡ false
not_between octet digit = rw (no_digit octet 32 refl digit, no_digit octet 45 refl digit, no_digit octet 58 refl digit) refl

no_prefix : (text : List ℕ) → AllPass is_hex_digit text → without_prefix text ≡ text
no_prefix [] all = refl
no_prefix (octet ∷ []) all = refl
no_prefix (octet ∷ next ∷ rest) all =
    let digit : is_hex_digit next ≡ true = all 1 0 (omega arith) in
    elim (cases_Bool (octet == 48)) [
      | inl zero ↦ rw (zero, no_digit next 120 refl digit, no_digit next 88 refl digit) refl
      | inr other ↦ rw other refl
    ]

pub digits_stay : (text : List ℕ) → list_all is_hex_digit text ≡ true → code_digits text ≡ text
unfolding code_digits
digits_stay text digits =
    let all = AllPass-from_list_all is_hex_digit text digits in
    let one : slice_split is_between text ≡ text ∷ [] = slice_split_none is_between text (λ k d below. not_between (get_or text k d) (all k d below)) in
    ap (flat_map without_prefix) one ∙ append-nil (without_prefix text) ∙ no_prefix text all

pub down_stays : (m : Down) → IsNamedDown m → other_name false (slice_index (written (down_row m)) 1) ≡ None
down_stays (down.UpstreamOverhead burst) named = refl
down_stays (down.AssignOnu onu serial) named = refl
down_stays (down.RangingTime onu eqd) named = refl
down_stays (down.Deactivate onu) named = refl
down_stays (down.DisableSerial serial) named = refl
down_stays (down.EnableSerial serial) named = refl
down_stays down.EnableAll named = refl
down_stays (down.AssignAlloc onu alloc keep) named = refl
down_stays down.NoMessage named = refl
down_stays (down.Popup onu) named = refl
down_stays (down.Other id octet1 body) named = absurd named

pub up_stays : (m : Up) → IsNamedUp m → other_name true (slice_index (written (up_row m)) 1) ≡ None
up_stays (up.SerialNumber onu serial random flags) named = refl
up_stays (up.DyingGasp onu) named = refl
up_stays (up.NoMessage onu) named = refl
up_stays (up.Acknowledge onu id copy) named = refl
up_stays (up.Other id octet1 body) named = absurd named
