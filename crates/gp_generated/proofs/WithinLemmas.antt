-- Each event of a generated script is within its ranges.
use Rattle.std.proofs.Common.{◌≡◌, ℕ, zero, suc, ◌+◌, ◌*◌, ◌/◌, ◌%◌, ◌<◌, ◌≤◌, ◌^◌, ◌==◌, Bool, List, [], ◌∷◌, ◌++◌, length, true, false, refl, ◌∙◌, arith, rules, slice_set, if◌then◌else◌}
use Rattle.std.proofs.lemmas.Nat.{xor_of_8}
use Rattle.hex.specs.Hex.{IsBytes}
use Rattle.gp_ploam.specs.Crc.{crc_of}
use Rattle.gp_ploam.specs.Mask.{mask_value}
use Rattle.gp_ploam.specs.declared.check.Mask.{Mask}
use Rattle.gp_ploam.specs.declared.check.Mask.TheVariants as masks
use Rattle.gp_ploam.proofs.Division.{check_from-lt, crc_of-check_from}
use Rattle.gp_generate.specs.declared.cast.Cast.{Cast}
use Rattle.gp_generate.specs.declared.chance.Draw.{Draw}
use Rattle.gp_generate.specs.declared.plan.Wish.{Wish}
use Rattle.gp_generate.specs.declared.step.Order.{Order}
use Rattle.gp_generate.specs.declared.step.Order.TheVariants as orders
use Rattle.gp_generate.specs.declared.step.Words.{Words}
use Rattle.gp_generate.specs.declared.step.Words.TheVariants as words
use Rattle.gp_generate.specs.Cast.{serial_of, stranger_of, unit_by}
use Rattle.gp_generate.specs.Making.{burst_of, code_of, command_of, garbled_code}
use Rattle.gp_generate.specs.Plan.{cast_units, mask_of}
use Rattle.gp_generated.specs.Meant.{IsCommandWithin, IsSerial, IsWithin}

-- ---- octets

pub bytes_none : IsBytes []
bytes_none i = omega arith

pub bytes_cons : (b : ℕ) (rest : List ℕ) → b < 256 → IsBytes rest → IsBytes (b ∷ rest)
bytes_cons b rest h hs zero = h
bytes_cons b rest h hs (suc i) = hs i

pub bytes_end : (xs : List ℕ) (b : ℕ) → IsBytes xs → b < 256 → IsBytes (xs ++ b ∷ [])
bytes_end [] b hs h = bytes_cons b [] h bytes_none
bytes_end (x ∷ xs) b hs h = bytes_cons x (xs ++ b ∷ []) (hs 0) (bytes_end xs b (λ i. hs (suc i)) h)

pub bytes_set : (xs : List ℕ) (n v : ℕ) → IsBytes xs → v < 256 → IsBytes (slice_set xs n v)
bytes_set [] n v hs h = hs
bytes_set (x ∷ xs) zero v hs h = bytes_cons v xs h (λ i. hs (suc i))
bytes_set (x ∷ xs) (suc n) v hs h = bytes_cons x (slice_set xs n v) (hs 0) (bytes_set xs n v (λ i. hs (suc i)) h)

pub length_set : (xs : List ℕ) (n v : ℕ) → length (slice_set xs n v) ≡ length xs
length_set xs n v = search rules

pub first_octet : (b : Bool) → (if b then 1 else 65) < 256
first_octet true = omega arith
first_octet false = omega arith

-- ---- serial numbers

-- each of them is an octet
abbrev pub AreBytes : List ℕ → Type 0
AreBytes [] = Unit {0}
AreBytes (b ∷ rest) = (b < 256) × AreBytes rest

pub bytes_of : (xs : List ℕ) → AreBytes xs → IsBytes xs
bytes_of [] are = bytes_none
bytes_of (b ∷ rest) are = bytes_cons b rest are.0 (bytes_of rest are.1)

pub own_within : (port unit : ℕ) → port < 256 → unit < 65536 → IsSerial (serial_of port unit)
own_within port unit p u =
    let high : unit / 256 < 256 = omega (arith, u) in
    let low : unit % 256 < 256 = omega arith in (
      refl,
      bytes_of ((if unit % 4 == 3 then 1 else 65) ∷ 66 ∷ 67 ∷ 68 ∷ 0 ∷ port ∷ (unit / 256) ∷ (unit % 256) ∷ [])
          (first_octet (unit % 4 == 3), (omega arith, (omega arith, (omega arith, (omega arith, (p, (high, (low, tt)))))))),
    )

pub stranger_within : (port unit : ℕ) → port < 256 → unit < 65536 → IsSerial (stranger_of port unit)
stranger_within port unit p u =
    let high : unit / 256 < 256 = omega (arith, u) in
    let low : unit % 256 < 256 = omega arith in (
      refl,
      bytes_of (87 ∷ 88 ∷ 89 ∷ 90 ∷ 0 ∷ port ∷ (unit / 256) ∷ (unit % 256) ∷ [])
          (omega arith, (omega arith, (omega arith, (omega arith, (omega arith, (p, (high, (low, tt)))))))),
    )

-- ---- codes

pub mask_small : (mask : Mask) → mask_value mask < 2 ^ 8
mask_small masks.Plain = omega arith
mask_small masks.Coset = omega arith

pub crc_small : (octets : List ℕ) (mask : Mask) → IsBytes octets → crc_of octets (mask_value mask) < 256
crc_small octets mask bytes =
    rw (crc_of-check_from octets (mask_value mask) bytes)
    (xor_of_8 _ _ (check_from-lt octets 0 bytes (omega arith)) (mask_small mask))

pub code_within : (mask : Mask) (port unit : ℕ) (draw : Draw) → port < 256 → unit < 65536
    → (length (code_of mask (serial_of port unit) draw) ≡ 13) × IsBytes (code_of mask (serial_of port unit) draw)
unfolding code_of
code_within mask port unit draw p u =
    let random = draw.what % 4096 in
    let small : random < 4096 = omega arith in
    let twelve : List ℕ = 255 ∷ 1 ∷ (if unit % 4 == 3 then 1 else 65) ∷ 66 ∷ 67 ∷ 68 ∷ 0 ∷ port ∷ (unit / 256) ∷ (unit % 256) ∷ (random / 16) ∷ (random % 16 * 16 + 0) ∷ [] in
    let upper : random / 16 < 256 = omega (arith, small) in
    let lower : random % 16 * 16 + 0 < 256 = omega arith in
    let high : unit / 256 < 256 = omega (arith, u) in
    let low : unit % 256 < 256 = omega arith in
    let bytes : IsBytes twelve = bytes_of twelve (
      omega arith,
      (
        omega arith,
        (
          first_octet (unit % 4 == 3),
          (
            omega arith,
            (
              omega arith,
              (
                omega arith,
                (
                  omega arith,
                  (
                    p,
                    (
                      high,
                      (
                        low,
                        (upper, (lower, tt)),
                      ),
                    ),
                  ),
                ),
              ),
            ),
          ),
        ),
      ),
    ) in
    (refl, bytes_end twelve (crc_of twelve (mask_value mask)) bytes (crc_small twelve mask bytes))

pub garbled_within : (mask : Mask) (port unit : ℕ) (draw : Draw) → port < 256 → unit < 65536
    → (length (garbled_code mask (serial_of port unit) draw) ≡ 13) × IsBytes (garbled_code mask (serial_of port unit) draw)
garbled_within mask port unit draw p u =
    let code = code_within mask port unit draw p u in
    let turn : draw.who % 255 + 1 < 2 ^ 8 = omega arith in (
      length_set (code_of mask (serial_of port unit) draw) 12 _ ∙ code.0,
      bytes_set (code_of mask (serial_of port unit) draw) 12 _ code.1 (xor_of_8 _ _ (code.1 12) turn),
    )

-- ---- what is said and asked

-- who is in a scene is there
pub record IsCast (plan : Wish) (cast : Cast) : Type 0 where
  pub port : cast.port < plan.ports
  pub octet : cast.port < 256
  pub unit : cast.unit < cast_units plan
  pub few : cast_units plan < 65536
  pub near : cast.at < 300000

pub unit_small : (plan : Wish) (cast : Cast) → IsCast plan cast → cast.unit < 65536
unit_small plan cast is = let a = is.unit in let b = is.few in omega (arith, a, b)

pub other_small : (plan : Wish) (cast : Cast) (number : ℕ) → IsCast plan cast → unit_by plan number < 65536
other_small plan cast number is =
    let a = is.unit in
    let b = is.few in
    let some : 0 < cast_units plan = omega (arith, a) in
    grind (arith, some, b)

pub asked_within : (plan : Wish) (cast : Cast) (order : Order) → IsCast plan cast → IsCommandWithin (command_of plan cast order)
asked_within plan cast orders.Search is = tt
asked_within plan cast orders.EnableAll is = tt
asked_within plan cast orders.PopupAll is = tt
asked_within plan cast orders.Alloc is = own_within cast.port cast.unit is.octet (unit_small plan cast is)
asked_within plan cast orders.Dealloc is = (own_within cast.port cast.unit is.octet (unit_small plan cast is), omega arith)
asked_within plan cast orders.Deactivate is = own_within cast.port cast.unit is.octet (unit_small plan cast is)
asked_within plan cast orders.Disable is = own_within cast.port cast.unit is.octet (unit_small plan cast is)
asked_within plan cast orders.Enable is = own_within cast.port cast.unit is.octet (unit_small plan cast is)
asked_within plan cast orders.Popup is = own_within cast.port cast.unit is.octet (unit_small plan cast is)
asked_within plan cast orders.Show is = own_within cast.port cast.unit is.octet (unit_small plan cast is)
asked_within plan cast orders.ShowStranger is = stranger_within cast.port cast.unit is.octet (unit_small plan cast is)
asked_within plan cast orders.PopupOther is = own_within cast.port _ is.octet (other_small plan cast (cast.unit + 1) is)

pub at_small : (plan : Wish) (cast : Cast) → IsCast plan cast → cast.at ≤ 4294967295
at_small plan cast is = let a = is.near in omega (arith, a)

pub far_small : (plan : Wish) (cast : Cast) → IsCast plan cast → cast.at + 400000 ≤ 4294967295
far_small plan cast is = let a = is.near in omega (arith, a)

pub burst_within : (plan : Wish) (cast : Cast) (said : Words) (draw : Draw) → IsCast plan cast → IsWithin plan.ports plan.units (burst_of plan cast said draw)
burst_within plan cast (words.New places) draw is =
    (is.port, at_small plan cast is, (own_within cast.port _ is.octet (other_small plan cast (cast.unit + places) is), omega arith))
burst_within plan cast words.Code draw is =
    let code = code_within (mask_of plan) cast.port cast.unit draw is.octet (unit_small plan cast is) in
    (is.port, at_small plan cast is, code.0, code.1)
burst_within plan cast words.Garbled draw is =
    let code = garbled_within (mask_of plan) cast.port cast.unit draw is.octet (unit_small plan cast is) in
    (is.port, at_small plan cast is, code.0, code.1)
burst_within plan cast words.Stranger draw is =
    (is.port, at_small plan cast is, (stranger_within cast.port cast.unit is.octet (unit_small plan cast is), omega arith))
burst_within plan cast words.Own draw is =
    (is.port, at_small plan cast is, (own_within cast.port cast.unit is.octet (unit_small plan cast is), omega arith))
burst_within plan cast words.Far draw is =
    (is.port, far_small plan cast is, (own_within cast.port cast.unit is.octet (unit_small plan cast is), omega arith))
burst_within plan cast words.Other draw is =
    (is.port, at_small plan cast is, (own_within cast.port _ is.octet (other_small plan cast (cast.unit + 1) is), omega arith))
burst_within plan cast words.Gasp draw is = (is.port, at_small plan cast is, omega arith)
burst_within plan cast words.Nothing draw is = (is.port, at_small plan cast is, omega arith)
burst_within plan cast words.Elsewhere draw is = (is.port, at_small plan cast is, omega arith)
burst_within plan cast words.Ack draw is = (is.port, at_small plan cast is, (omega arith, omega arith))
