use Rattle.std.proofs.Common.{◌≡◌, codes, length, refl, inl, inr, arith, rules}
use Rattle.gp_decode.specs.Line.{HasWrongCheck}
use Rattle.gp_decode.specs.Message.{down_text}
use Rattle.gp_json.specs.Message.{down_object}
use Rattle.gp_json.specs.Spelling.{quoted}
use Rattle.gp_entry_objects.proofs.CodeLemmas.{digits_back}
use Rattle.gp_entry_objects.proofs.held.down_code_is_told.Goals as goal

pub returns-in-Ok : goal.returns-in-Ok
returns-in-Ok c =
    let long : length c.args.octets.now ≡ 13 = search rules in
    record {
      spelled = digits_back c.args.octets.now long (λ i. let fits = c.fits-octets i in omega (arith, fits));
      message = quoted (down_text c.in-Ok._message);
      fields = down_object c.in-Ok._message;
      tells = inl (down_text c.in-Ok._message, (c.in-Ok._message, c.in-Ok.ensures.read, refl), refl);
      shows = inl (c.in-Ok._message, c.in-Ok.ensures.read, refl);
    }

pub returns-in-Err : goal.returns-in-Err
returns-in-Err c =
    let long : length c.args.octets.now ≡ 13 = search rules in
    let wrong : HasWrongCheck c.args.mask c.args.octets.now = search rules in
    record {
      spelled = digits_back c.args.octets.now long (λ i. let fits = c.fits-octets i in omega (arith, fits));
      message = codes "null";
      fields = codes "null";
      tells = inr (wrong, refl);
      shows = inr (wrong, refl);
    }
