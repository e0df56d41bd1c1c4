-- What is lost where no table says it, and what is read one after another.
use Rattle.std.proofs.Common.{◌≡◌, ℕ, ◌+◌, List, [], None, Result, Ok, Err, IfOk, refl, sym, ap, subst}
use Rattle.std.proofs.lemmas.Result.{IfOk-at_ok}
use Rattle.toml.specs.Data.{Data, string, integer, float, boolean, datetime, array, table, Members, Items, item, as_table}
use Rattle.toml.specs.View.{items_view}
use Rattle.toml.specs.declared.value.Value.{Value}
use Rattle.gp_script.specs.declared.lose.Loss.{Loss}
use Rattle.gp_script.specs.declared.place.Key.TheVariants as key
use Rattle.gp_script.specs.declared.place.TablePlace.TheVariants as places
use Rattle.gp_script.specs.Fault.{◌>>=◌}
use Rattle.gp_script.specs.Mistake.{TableMistakeView, inside, in_table, no_table}
use Rattle.gp_script.specs.Lose.{LossesView, loss_of, losses_from, no_losses, with_loss}

-- no tables, nothing lost
pub nothing_lost : (losses : LossesView) (tables : List Value) → tables ≡ [] → losses_from 0 no_losses (items_view tables) ≡ Ok losses → losses ≡ no_losses
unfolding losses_from
nothing_lost losses tables none says =
    IfOk-at_ok (λ (l : LossesView). l ≡ no_losses) says (subst (λ (t : List Value). IfOk (losses_from 0 no_losses (items_view t)) (λ l. l ≡ no_losses)) (sym none) refl)

-- the walk ends at what is no table,
pub no_loss : (place : ℕ) (before : LossesView) (d : Data) (rest : Items) → as_table d ≡ None → losses_from place before (item d rest) ≡ Err (no_table key.Lose place)
unfolding losses_from
no_loss place before (string s) rest none = refl
no_loss place before (integer z) rest none = refl
no_loss place before (float x) rest none = refl
no_loss place before (boolean b) rest none = refl
no_loss place before (datetime t) rest none = refl
no_loss place before (array items) rest none = refl
no_loss place before (table ms) rest none = cc none

-- and at a table that is refused,
pub bad_loss : (place : ℕ) (before : LossesView) (ms : Members) (rest : Items) (m : TableMistakeView) → loss_of ms ≡ Err m
    → losses_from place before (item (table ms) rest) ≡ Err (inside (places.Lose place) m)
unfolding losses_from
bad_loss place before ms rest m says = simp says

-- and goes on behind one that is read
pub next_loss : (place : ℕ) (before : LossesView) (ms : Members) (rest : Items) (loss : Loss) → loss_of ms ≡ Ok loss
    → losses_from (place + 1) (with_loss before loss) rest ≡ losses_from place before (item (table ms) rest)
unfolding losses_from
next_loss place before ms rest loss says =
    ap (λ (r : Result Loss TableMistakeView). in_table (places.Lose place) r >>= (λ l. losses_from (place + 1) (with_loss before l) rest)) (sym says)
