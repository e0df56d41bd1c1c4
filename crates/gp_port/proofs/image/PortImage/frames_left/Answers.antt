use Rattle.std.proofs.Common.{◌<◌, ◌≤◌, Some, length, sym, ap, ◌∙◌, arith}
use Rattle.std.proofs.lemmas.Option.{slice_get_past, slice_get-get_or}
use Rattle.gp_port.proofs.image.PortImage.frames_left.Goals as goal

pub returns-then-onu-ge-ONU_IDS : goal.returns-then-onu-ge-ONU_IDS
returns-then-onu-ge-ONU_IDS c =
    let counted = c.stands.ensures.sound.barred.counted in
    let past : length c.args.self.now.cooling ≤ c.args.onu = omega (arith, counted, c.if-onu-ge-ONU_IDS.true) in
    sym (slice_get_past c.args.self.now.cooling c.args.onu past)

pub returns : goal.returns
returns c =
    let counted = c.stands.ensures.sound.barred.counted in
    let within : c.args.onu < length c.args.self.now.cooling = omega (arith, counted, c.if-onu-ge-ONU_IDS.false) in
    rw (← c.self.view_is) (ap Some c.frames_left.ensures ∙ sym (slice_get-get_or c.self.inside.units.cooling c.args.onu 0 (rw (← c.self.view_is) at within)))
