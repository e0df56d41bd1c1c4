-- A message in words and as an object, behind what was written (this profile's own rule).
-- Inside: no public contract cites this.
use Rattle.std.specs.Prelude.{◌≡◌, ℕ, Bool, List, ◌++◌}
use Rattle.gp_ploam.specs.declared.check.Mask.{Mask}
use Rattle.gp_json.specs.Fields.{TellsFields, TellsMessage, fields_opening, message_opening}

-- both are told of a code, each behind its name
pub record TellsBoth (upstream : Bool) (mask : Mask) (octets old new : List ℕ) : Type 0 where
  pub message : List ℕ
  pub fields : List ℕ
  pub tells : TellsMessage upstream mask octets message
  pub shows : TellsFields upstream mask octets fields
  pub stands : new ≡ old ++ (message_opening upstream ++ message ++ fields_opening upstream ++ fields)
