use Rattle.std.proofs.Common.{rules, ap, ◌∙◌}
use Rattle.line_columns.specs.Layout.{plain_of}
use Rattle.gp_picture.specs.Drawing.{DrawState}
use Rattle.gp_picture.proofs.ServingLemmas.{drawn_line, read_as, refused_line, undrawn_line, unread_as}
use Rattle.gp_picture.proofs.serving.DrawerLineWork.line.Goals as goal

pub returns-in_default : goal.returns-in_default
returns-in_default g c =
    refused_line _ _ c.args.text.now _ (search rules) (unread_as c.args.self.now.layout c.args.text.now c.in_ok-plain.plain.now c.read_line.result c.in_default.field-0 (c.in_ok-plain.ensures ∙ ap (λ (s : DrawState). plain_of s.layout c.args.text.now) c.self.view_is) c.in_default.is c.read_line.ensures) (search rules)

pub returns : goal.returns
returns g c =
    drawn_line _ _ c.args.text.now c.in-Ok.read _ (search rules) (read_as c.args.self.now.layout c.args.text.now c.in_ok-plain.plain.now c.read_line.result c.in-Ok.read (c.in_ok-plain.ensures ∙ ap (λ (s : DrawState). plain_of s.layout c.args.text.now) c.self.view_is) c.in-Ok.is c.read_line.ensures) (search rules)

pub returns-in_err-line : goal.returns-in_err-line
returns-in_err-line g c =
    undrawn_line c.args.self.now _ c.args.text.now c.in-Ok.read _ c.in_err-line.field-0.0 _ (search rules) (search rules)
    (read_as c.args.self.now.layout c.args.text.now c.in_ok-plain.plain.now c.read_line.result c.in-Ok.read (c.in_ok-plain.ensures ∙ ap (λ (s : DrawState). plain_of s.layout c.args.text.now) c.self.view_is) c.in-Ok.is c.read_line.ensures) c.in_err-line.ensures
