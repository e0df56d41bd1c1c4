use Rattle.std.proofs.Common.{rules, arith, ◌-◌, ◌+◌, ◌∙◌}
use Rattle.line_columns.proofs.FieldLemmas.{field_next}
use Rattle.line_columns.proofs.field.field.Goals as goal

pub fields-preserved : goal.fields-preserved
fields-preserved c =
    c.fields.invariant
    ∙ field_next c.args.separator (c.args.place - c.fields.counter) (c.args.place - (c.fields.counter + 1)) c.fields.rest.now c.in_ok-rest.rest.now (omega arith) (search rules)
