-- What the getters of clap's matches give, by the rows of the parse.
use Rattle.std.proofs.Common.{◌≡◌}
use Rattle.std.specs.Prelude.{option_map}
use Rattle.clap.proofs.WalkLemmas.{first_value-rows, one_text-rows, raw_values-rows}
use Rattle.clap.specs.Words.{Text, all_of, first_of, first_value, matched_of, one_of, one_text, raw_values, rows_of}
use Rattle.clap.specs.declared.parser.matches.Found.{Found}

pub value_by_rows : (found : Found) (id : Text) → first_value found id ≡ first_of id (rows_of found)
value_by_rows = first_value-rows

pub flag_by_rows : (found : Found) (id : Text) → one_text found id ≡ one_of id (rows_of found)
flag_by_rows = one_text-rows

pub values_by_rows : (found : Found) (id : Text) → option_map raw_values (matched_of found id) ≡ all_of id (rows_of found)
values_by_rows = raw_values-rows
