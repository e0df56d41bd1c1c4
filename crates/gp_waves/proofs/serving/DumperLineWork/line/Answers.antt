use Rattle.std.proofs.Common.{rules}
use Rattle.gp_waves.proofs.ServingLemmas.{hears_as, may_fill, read_as, refused_line, stopped_line, undumped_line, unread_as, written_line}
use Rattle.gp_waves.proofs.WritingLemmas.{spills_as}
use Rattle.gp_waves.specs.Hearing.{fibre_of}
use Rattle.gp_waves.proofs.serving.DumperLineWork.line.Goals as goal

pub returns-in_default : goal.returns-in_default
returns-in_default g c =
    refused_line _ _ c.args.text.now _ (search rules) (unread_as c.args.text.now c.read_line.result c.in_default.field-0 c.in_default.is c.read_line.ensures) (search rules)

pub returns-in_err-hear : goal.returns-in_err-hear
returns-in_err-hear g c =
    undumped_line _ c.args.self.now _ _ c.in_err-hear.field-0.0 _ (search rules) (may_fill c.args.self.now c.args.text.now c.read_line.result c.in-Ok.read (search rules) c.in-Ok.is c.read_line.ensures)

pub returns-in_err-spill : goal.returns-in_err-spill
returns-in_err-spill g c =
    undumped_line _ c.args.self.now _ _ c.in_err-spill.field-0.0 _ (search rules) (may_fill c.args.self.now c.args.text.now c.read_line.result c.in-Ok.read (search rules) c.in-Ok.is c.read_line.ensures)

pub returns-in_err-put : goal.returns-in_err-put
returns-in_err-put g c =
    stopped_line {T = Unit {0}} c.args.self.now _ c.args.text.now c.as_slice.result.now c.in-Ok.read (fibre_of c.hear-2.new.self) c.spill.new.waves.held c.spill.new.self _ _ _ _ (search rules)
    (read_as c.args.text.now c.read_line.result c.in-Ok.read c.in-Ok.is c.read_line.ensures)
    (hears_as c.args.self.now c.args.text.now c.in-Ok.read c.self.inside.waves.options.frames c.self.inside.waves.options.mask _ _ (fibre_of c.self.inside.waves)
    (fibre_of c.hear-2.new.self) (search rules) (search rules) (search rules) (search rules) (search rules) c.in_ok-hear.ensures.heard)
    (spills_as c.hear-2.new.self.held c.args.self.now.written c.self.inside.writing c.spill.new.self c.as_slice.result.now c.spill.new.out.items c.spill.new.waves.held c.in_ok-spill.ensures.spilled (search rules) (search rules))
    (search rules) (search rules)

pub returns : goal.returns
returns g c =
    written_line {T = Unit {0}} c.args.self.now _ c.args.text.now c.as_slice.result.now c.in-Ok.read (fibre_of c.hear-2.new.self) c.spill.new.waves.held c.spill.new.self _ _ _ (search rules)
    (read_as c.args.text.now c.read_line.result c.in-Ok.read c.in-Ok.is c.read_line.ensures)
    (hears_as c.args.self.now c.args.text.now c.in-Ok.read c.self.inside.waves.options.frames c.self.inside.waves.options.mask _ _ (fibre_of c.self.inside.waves)
    (fibre_of c.hear-2.new.self) (search rules) (search rules) (search rules) (search rules) (search rules) c.in_ok-hear.ensures.heard)
    (spills_as c.hear-2.new.self.held c.args.self.now.written c.self.inside.writing c.spill.new.self c.as_slice.result.now c.spill.new.out.items c.spill.new.waves.held c.in_ok-spill.ensures.spilled (search rules) (search rules))
    (search rules) (search rules)
