use Rattle.std.proofs.Common.{◌≡◌, ◌-◌}
use Rattle.line_columns.specs.Fields as spec
use Rattle.line_columns.proofs.field.field.Given as goal

abbrev pub invariant-fields : goal.invariant-fields
invariant-fields l = spec.field l.separator l.place l.text ≡ spec.field l.separator (l.place - l.counter) l.rest
