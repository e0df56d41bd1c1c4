-- A code is heard as the message that it is read as.
use Rattle.std.proofs.Common.{◌≡◌, ℕ, ◌+◌, ◌*◌, ◌/◌, ◌%◌, ◌<◌, ◌==◌, ◌&&◌, Bool, true, false, if◌then◌else◌, List, [], ◌∷◌, ◌++◌, map, replicate, get_or, Some, refl, sym, ap, subst, ◌∙◌, arith, zero, suc, eq-eqb}
use Rattle.std.proofs.lemmas.Bool.Decides.{nat_tests}
use Rattle.std.proofs.lemmas.Nat.{be_bytes_4}
use Rattle.std.specs.Int.{from_be_bytes, to_be_bytes, w32}
use Rattle.gp_ploam.specs.declared.check.Mask.{Mask}
use Rattle.gp_ploam.specs.declared.message.Down.{Down}
use Rattle.gp_ploam.specs.declared.message.Down.TheVariants as down
use Rattle.gp_ploam.specs.declared.message.Up.{Up}
use Rattle.gp_ploam.specs.declared.message.Up.TheVariants as up
use Rattle.gp_ploam.specs.Down.{IsFittingDown, IsNamedDown, IsProperDown, MatchesNoNamedDown, ReadsDown, down_row}
use Rattle.gp_ploam.specs.Mask.{mask_value}
use Rattle.gp_ploam.specs.Row.{Agrees, Even, Free, Is}
use Rattle.gp_ploam.specs.Up.{IsProperUp, MatchesNoNamedUp, ReadsUp, up_row}
use Rattle.gp_ploam.proofs.Rows.{exact_agrees}
use Rattle.gp_ploam.proofs.DownRows.{down_reads_once}
use Rattle.gp_ploam.proofs.UpRows.{up_reads_once}
use Rattle.gp_finding.specs.Hearing.{admission_of, alloc_of, broadcast_of, down_in, down_of, is_right, other_down, serial_number_of, up_in, up_of}

-- one of two, by a test
by_if : {M : Type 0} (P : M → Type 0) (test : Bool) (x y : M) → (test ≡ true → P x) → (test ≡ false → P y) → P (if test then x else y)
by_if P true x y hit miss = hit refl
by_if P false x y hit miss = miss refl

tested : (a b : ℕ) → (a == b) ≡ true → a ≡ b
tested a b h = grind (arith, nat_tests, h)

-- ---- a message down

-- octets that are heard as no named message are those of none
not_named : (a b c d e : ℕ) (rest : List ℕ) → down_of (a ∷ b ∷ c ∷ d ∷ e ∷ rest) ≡ other_down (a ∷ b ∷ c ∷ d ∷ e ∷ rest)
    → MatchesNoNamedDown (a ∷ b ∷ c ∷ d ∷ e ∷ rest)
not_named a b c d e rest is (down.UpstreamOverhead burst) n f h = let t = rw (h.0, h.1.0) at is in absurd (cc)
not_named a b c d e rest is (down.AssignOnu onu serial) n f h = let t = rw (h.0, h.1.0) at is in absurd (cc)
not_named a b c d e rest is (down.RangingTime onu eqd) n f h = let t = rw (h.1.0, h.1.1.0) at is in absurd (cc)
not_named a b c d e rest is (down.Deactivate onu) n f h = let t = rw (h.1.0) at is in absurd (cc)
not_named a b c d e rest is (down.DisableSerial serial) n f h = let t = rw (h.0, h.1.0, h.1.1.0) at is in absurd (cc)
not_named a b c d e rest is (down.EnableSerial serial) n f h = let t = rw (h.0, h.1.0, h.1.1.0) at is in absurd (cc)
not_named a b c d e rest is down.EnableAll n f h = let t = rw (h.0, h.1.0, h.1.1.0) at is in absurd (cc)
not_named a b c d e rest is (down.AssignAlloc onu alloc true) n f h = let t = rw (h.1.0, h.1.1.1.1.0) at is in absurd (cc)
not_named a b c d e rest is (down.AssignAlloc onu alloc false) n f h = let t = rw (h.1.0, h.1.1.1.1.0) at is in absurd (cc)
not_named a b c d e rest is down.NoMessage n f h = let t = rw (h.1.0) at is in absurd (cc)
not_named a b c d e rest is (down.Popup onu) n f h = let t = rw (h.1.0) at is in absurd (cc)
not_named a b c d e rest is (down.Other id octet1 body) n f h = absurd n

-- a message that these octets are read as
abbrev IsRead : List ℕ → Down → Type 0
IsRead octets message = IsProperDown message × Agrees (down_row message) octets

-- where the octets are heard as this message, they are read as it
abbrev IsReadIf : List ℕ → Down → Type 0
IsReadIf octets message = down_of octets ≡ message → IsRead octets message

module _ (a b c d e f g h i j k l : ℕ) (octet_c : c < 256) (octet_d : d < 256) (octet_e : e < 256) (octet_f : f < 256) (octet_g : g < 256) where
  abbrev octets : List ℕ
  octets = a ∷ b ∷ c ∷ d ∷ e ∷ f ∷ g ∷ h ∷ i ∷ j ∷ k ∷ l ∷ []

  read_other : IsReadIf octets (other_down octets)
  read_other is = ((refl, not_named a b c d e (f ∷ g ∷ h ∷ i ∷ j ∷ k ∷ l ∷ []) is), exact_agrees octets)

  small : (n : ℕ) → get_or (d ∷ e ∷ f ∷ g ∷ []) n 0 < 256
  small zero = octet_d
  small (suc zero) = octet_e
  small (suc (suc zero)) = octet_f
  small (suc (suc (suc zero))) = octet_g
  small (suc (suc (suc (suc n)))) = omega arith

  ranging : (b == 4 && c % 2 == 0) ≡ true → IsReadIf octets (down.RangingTime a (from_be_bytes w32 (d ∷ e ∷ f ∷ g ∷ [])))
  ranging hit is =
      let id : b ≡ 4 = grind (arith, nat_tests, hit) in
      let even : c % 2 ≡ 0 = grind (arith, nat_tests, hit) in
      let spelled : to_be_bytes w32 (from_be_bytes w32 (d ∷ e ∷ f ∷ g ∷ [])) ≡ d ∷ e ∷ f ∷ g ∷ [] = be_bytes_4 (d ∷ e ∷ f ∷ g ∷ []) _ refl small refl in (
        omega (arith, octet_d, octet_e, octet_f, octet_g),
        subst (λ (bs : List ℕ). Agrees (Is a ∷ Is 4 ∷ Even ∷ map Is bs ++ replicate 5 (Free 0)) octets) (sym spelled) (refl, (id, (even, (refl, (refl, (refl, (refl, (tt, (tt, (tt, (tt, (tt, tt)))))))))))),
      )

  deactivate : (b == 5) ≡ true → IsReadIf octets (down.Deactivate a)
  deactivate hit is = (tt, (refl, (tested b 5 hit, (tt, (tt, (tt, (tt, (tt, (tt, (tt, (tt, (tt, (tt, tt)))))))))))))

  alloc_with : (keep : Bool) (kind : ℕ) → b ≡ 10 → e ≡ kind → kind ≡ Rattle.gp_ploam.specs.Down.alloc_id_type keep → IsRead octets (down.AssignAlloc a (c * 16 + d / 16) keep)
  alloc_with keep kind id is same = (
    omega (arith, octet_c, octet_d),
    (refl, (id, (omega (arith, octet_d), (omega (arith, octet_d), (is ∙ same, (tt, (tt, (tt, (tt, (tt, (tt, (tt, tt)))))))))))),
  )

  alloc_read : (b == 10) ≡ true → IsReadIf octets (alloc_of octets)
  alloc_read hit =
      let id = tested b 10 hit in
      by_if (IsReadIf octets) (e == 1) _ _ (λ one is. alloc_with true 1 id (tested e 1 one) refl)
      (λ not_one. by_if (IsReadIf octets) (e == 255) _ _ (λ all is. alloc_with false 255 id (tested e 255 all) refl) (λ neither. read_other))

  popup : (b == 12) ≡ true → IsReadIf octets (down.Popup a)
  popup hit is = (tt, (refl, (tested b 12 hit, (tt, (tt, (tt, (tt, (tt, (tt, (tt, (tt, (tt, (tt, tt)))))))))))))

  nothing : (b == 11) ≡ true → IsReadIf octets down.NoMessage
  nothing hit is = (tt, (tt, (tested b 11 hit, (tt, (tt, (tt, (tt, (tt, (tt, (tt, (tt, (tt, (tt, tt)))))))))))))

  -- a row of every unit with a serial number behind octet 3
  abbrev serial : Rattle.gp_ploam.specs.declared.message.Serial.Serial
  serial = record { 0 = d ∷ e ∷ f ∷ g ∷ h ∷ i ∷ j ∷ k ∷ [] }

  admission : a ≡ 255 → (b == 6) ≡ true → IsReadIf octets (admission_of octets)
  admission all hit =
      let id = tested b 6 hit in
      by_if (IsReadIf octets) (c == 255) _ _
      (λ t is. (refl, (all, (id, (tested c 255 t, (refl, (refl, (refl, (refl, (refl, (refl, (refl, (refl, (tt, tt))))))))))))))
      (λ t. by_if (IsReadIf octets) (c == 0) _ _
      (λ u is. (refl, (all, (id, (tested c 0 u, (refl, (refl, (refl, (refl, (refl, (refl, (refl, (refl, (tt, tt))))))))))))))
      (λ u. by_if (IsReadIf octets) (c == 15) _ _
      (λ v is. (tt, (all, (id, (tested c 15 v, (tt, (tt, (tt, (tt, (tt, (tt, (tt, (tt, (tt, tt))))))))))))))
      (λ v. read_other)))

  broadcast : (a == 255) ≡ true → IsReadIf octets (broadcast_of octets)
  broadcast hit =
      let all = tested a 255 hit in
      by_if (IsReadIf octets) (b == 1) _ _
      (λ t is. (refl, (all, (tested b 1 t, exact_agrees (c ∷ d ∷ e ∷ f ∷ g ∷ h ∷ i ∷ j ∷ k ∷ l ∷ [])))))
      (λ t. by_if (IsReadIf octets) (b == 3) _ _
      (λ u is. (refl, (all, (tested b 3 u, (refl, (refl, (refl, (refl, (refl, (refl, (refl, (refl, (refl, (tt, tt))))))))))))))
      (λ u. by_if (IsReadIf octets) (b == 6) _ _ (λ v. admission all v) (λ v. read_other)))

  pub read_whole : IsReadIf octets (down_of octets)
  read_whole =
      by_if (IsReadIf octets) (b == 4 && c % 2 == 0) _ _ ranging
      (λ p. by_if (IsReadIf octets) (b == 5) _ _ deactivate
      (λ q. by_if (IsReadIf octets) (b == 10) _ _ alloc_read
      (λ r. by_if (IsReadIf octets) (b == 11) _ _ nothing
      (λ s. by_if (IsReadIf octets) (b == 12) _ _ popup
      (λ t. by_if (IsReadIf octets) (a == 255) _ _ broadcast (λ u. read_other))))))

-- a code is heard as the message that it is read as
pub heard_down : (mask : Mask) (code : List ℕ) (message : Down) → ((n : ℕ) → get_or code n 0 < 256) → ReadsDown code (mask_value mask) message
    → Some message ≡ down_in mask code
heard_down mask (a ∷ b ∷ c ∷ d ∷ e ∷ f ∷ g ∷ h ∷ i ∷ j ∷ k ∷ l ∷ check ∷ []) message small read =
    let octets = a ∷ b ∷ c ∷ d ∷ e ∷ f ∷ g ∷ h ∷ i ∷ j ∷ k ∷ l ∷ [] in
    let mine : IsRead octets (down_of octets) = read_whole a b c d e f g h i j k l (small 2) (small 3) (small 4) (small 5) (small 6) refl in
    let same : down_of octets ≡ message = down_reads_once octets (down_of octets) message mine.0 read.proper mine.1 read.row in
    let right : is_right mask (a ∷ b ∷ c ∷ d ∷ e ∷ f ∷ g ∷ h ∷ i ∷ j ∷ k ∷ l ∷ check ∷ []) ≡ true = eq-eqb _ _ read.check in
    rw right (ap Some (sym same))
heard_down mask code _ small read = absurd (omega (arith, read.long))

-- ---- a message up

not_named_up : (a b c : ℕ) (rest : List ℕ) → up_of (a ∷ b ∷ c ∷ rest) ≡ up.Other b a (c ∷ rest) → MatchesNoNamedUp (a ∷ b ∷ c ∷ rest)
not_named_up a b c rest is (up.SerialNumber onu serial random flags) n f h = let t = rw (h.1.0) at is in absurd (cc)
not_named_up a b c rest is (up.DyingGasp onu) n f h = let t = rw (h.1.0) at is in absurd (cc)
not_named_up a b c rest is (up.NoMessage onu) n f h = let t = rw (h.1.0) at is in absurd (cc)
not_named_up a b c rest is (up.Acknowledge onu id copy) n f h = let t = rw (h.1.0) at is in absurd (cc)
not_named_up a b c rest is (up.Other id octet1 body) n f h = absurd n

abbrev IsReadUp : List ℕ → Up → Type 0
IsReadUp octets message = IsProperUp message × Agrees (up_row message) octets

abbrev IsReadUpIf : List ℕ → Up → Type 0
IsReadUpIf octets message = up_of octets ≡ message → IsReadUp octets message

module _ (a b c d e f g h i j k l : ℕ) (octet_k : k < 256) (octet_l : l < 256) where
  abbrev up_octets : List ℕ
  up_octets = a ∷ b ∷ c ∷ d ∷ e ∷ f ∷ g ∷ h ∷ i ∷ j ∷ k ∷ l ∷ []

  serial_number : (b == 1) ≡ true → IsReadUpIf up_octets (serial_number_of up_octets)
  serial_number hit is = (
    (refl, omega (arith, octet_k, octet_l), omega (arith, octet_l)),
    (refl, (tested b 1 hit, (refl, (refl, (refl, (refl, (refl, (refl, (refl, (refl, (omega (arith, octet_l), (omega (arith, octet_l), tt)))))))))))),
  )

  gasp : (b == 3) ≡ true → IsReadUpIf up_octets (up.DyingGasp a)
  gasp hit is = (tt, (refl, (tested b 3 hit, (tt, (tt, (tt, (tt, (tt, (tt, (tt, (tt, (tt, (tt, tt)))))))))))))

  silent : (b == 4) ≡ true → IsReadUpIf up_octets (up.NoMessage a)
  silent hit is = (tt, (refl, (tested b 4 hit, (tt, (tt, (tt, (tt, (tt, (tt, (tt, (tt, (tt, (tt, tt)))))))))))))

  acknowledge : (b == 9) ≡ true → IsReadUpIf up_octets (up.Acknowledge a c (d ∷ e ∷ f ∷ g ∷ h ∷ i ∷ j ∷ k ∷ l ∷ []))
  acknowledge hit is = (refl, (refl, (tested b 9 hit, exact_agrees (c ∷ d ∷ e ∷ f ∷ g ∷ h ∷ i ∷ j ∷ k ∷ l ∷ []))))

  pub read_up : IsReadUpIf up_octets (up_of up_octets)
  read_up =
      by_if (IsReadUpIf up_octets) (b == 1) _ _ serial_number
      (λ p. by_if (IsReadUpIf up_octets) (b == 3) _ _ gasp
      (λ q. by_if (IsReadUpIf up_octets) (b == 4) _ _ silent
      (λ r. by_if (IsReadUpIf up_octets) (b == 9) _ _ acknowledge
      (λ s is. ((refl, not_named_up a b c (d ∷ e ∷ f ∷ g ∷ h ∷ i ∷ j ∷ k ∷ l ∷ []) is), exact_agrees up_octets)))))

pub heard_up : (mask : Mask) (code : List ℕ) (message : Up) → ((n : ℕ) → get_or code n 0 < 256) → ReadsUp code (mask_value mask) message
    → Some message ≡ up_in mask code
heard_up mask (a ∷ b ∷ c ∷ d ∷ e ∷ f ∷ g ∷ h ∷ i ∷ j ∷ k ∷ l ∷ check ∷ []) message small read =
    let octets = a ∷ b ∷ c ∷ d ∷ e ∷ f ∷ g ∷ h ∷ i ∷ j ∷ k ∷ l ∷ [] in
    let mine : IsReadUp octets (up_of octets) = read_up a b c d e f g h i j k l (small 10) (small 11) refl in
    let same : up_of octets ≡ message = up_reads_once octets (up_of octets) message mine.0 read.proper mine.1 read.row in
    let right : is_right mask (a ∷ b ∷ c ∷ d ∷ e ∷ f ∷ g ∷ h ∷ i ∷ j ∷ k ∷ l ∷ check ∷ []) ≡ true = eq-eqb _ _ read.check in
    rw right (ap Some (sym same))
heard_up mask code message small read = absurd (omega (arith, read.long))
