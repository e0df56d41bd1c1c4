use Rattle.std.proofs.Common.{◌≡◌, ◌*◌, ◌++◌, List, ℕ, length, ap, ◌∙◌, arith}
use Rattle.std.proofs.lemmas.Str.{IsAscii-append}
use Rattle.hex.specs.Hex.{encode_upper, upper_digits}
use Rattle.hex.proofs.HexLemmas.{length-encode_with}
use Rattle.gp_serial.proofs.TextLemmas.{IsAscii-encode_upper, IsAscii-vendor, text_written}
use Rattle.gp_serial.proofs.text.SerialText.of_vendor.Goals as goal

pub invariant_of-result : goal.invariant_of-result
invariant_of-result c =
    let eight : length c.write_digits.new.digits ≡ 8 =
    ap length c.write_digits.ensures ∙ length-encode_with upper_digits c.args.number.now ∙ ap (λ (n : ℕ). 2 * n) c.requires.number in (
      omega arith,
      rw (text_written c.args.vendor.now c.write_digits.new.digits c.copy_from_slice.new.self c.requires.vendor eight c.copy_from_slice.ensures.after, c.write_digits.ensures)
          (IsAscii-append c.args.vendor.now (encode_upper c.args.number.now) (IsAscii-vendor c.args.vendor.now c.requires.code) (IsAscii-encode_upper c.args.number.now)),
    )

pub returns : goal.returns
returns c =
    let eight : length c.write_digits.new.digits ≡ 8 =
    ap length c.write_digits.ensures ∙ length-encode_with upper_digits c.args.number.now ∙ ap (λ (n : ℕ). 2 * n) c.requires.number in
    text_written c.args.vendor.now c.write_digits.new.digits c.copy_from_slice.new.self c.requires.vendor eight c.copy_from_slice.ensures.after
    ∙ ap (λ (digits : List ℕ). c.args.vendor.now ++ digits) c.write_digits.ensures
