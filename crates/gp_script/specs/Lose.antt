-- The tables under `lose`, each of which names what is lost on the way by its number (this profile's own rule).
use Rattle.std.specs.Prelude.{ℕ, ℤ, ◌+◌, List, [], ◌∷◌, ◌++◌, Option, Some, None, Result, Ok, Err}
use Rattle.toml.specs.Data.{table, Items, no_items, item, Members}
use Rattle.gp_script.specs.declared.lose.Loss.{Loss}
use Rattle.gp_script.specs.declared.lose.Loss.TheVariants.{Copy, Burst}
use Rattle.gp_script.specs.declared.place.Key.{Key}
use Rattle.gp_script.specs.declared.place.Key.TheVariants as key
use Rattle.gp_script.specs.declared.place.TablePlace.TheVariants as places
use Rattle.gp_script.specs.declared.place.Spot.TheVariants as spots
use Rattle.gp_script.specs.declared.place.Wanted.TheVariants as wanted
use Rattle.gp_script.specs.Fault.{◌>>=◌}
use Rattle.gp_script.specs.Mistake.{TableMistakeView, unmet, MistakeView, at_key, in_table, no_table}
use Rattle.gp_script.specs.Keys.{has_only, number_at}
use Rattle.gp_script.specs.Values.{number_from_0}

-- the numbers of what is lost
pub record LossesView : Type 0 where
  -- the copies of messages that reach no unit
  pub copies : List ℕ
  -- the bursts of units that do not arrive
  pub bursts : List ℕ

-- nothing is lost
abbrev pub no_losses : LossesView
no_losses = record { copies = []; bursts = [] }

-- something more is lost
abbrev pub with_loss : LossesView → Loss → LossesView
with_loss losses (Copy number) = record losses { copies = losses.copies ++ number ∷ [] }
with_loss losses (Burst number) = record losses { bursts = losses.bursts ++ number ∷ [] }

-- the copy with this number is lost
abbrev pub lost_copy : ℤ → Result Loss TableMistakeView
lost_copy number = do
  number ← at_key key.Copy (number_from_0 number)
  Ok (Copy number)

-- the burst with this number is lost
abbrev pub lost_burst : ℤ → Result Loss TableMistakeView
lost_burst number = do
  number ← at_key key.Burst (number_from_0 number)
  Ok (Burst number)

-- exactly one of both is named
abbrev pub one_loss : Option ℤ → Option ℤ → Result Loss TableMistakeView
one_loss (Some copy) None = lost_copy copy
one_loss None (Some burst) = lost_burst burst
one_loss (Some copy) (Some burst) = Err (unmet spots.Table wanted.OneLoss)
one_loss None None = Err (unmet spots.Table wanted.OneLoss)

-- the keys of a table under `lose`
abbrev pub lose_keys : List Key
lose_keys = key.Copy ∷ key.Burst ∷ []

-- a table under `lose`
unfoldable pub loss_of : Members → Result Loss TableMistakeView
loss_of members = do
  _ ← has_only lose_keys members
  copy ← number_at key.Copy members
  burst ← number_at key.Burst members
  one_loss copy burst

-- what is lost by the tables under `lose` from this place on, behind what is lost before them
unfoldable pub losses_from : ℕ → LossesView → Items → Result LossesView MistakeView
losses_from place before no_items = Ok before
losses_from place before (item (table members) rest) = do
  loss ← in_table (places.Lose place) (loss_of members)
  losses_from (place + 1) (with_loss before loss) rest
losses_from place before (item _ rest) = Err (no_table key.Lose place)
