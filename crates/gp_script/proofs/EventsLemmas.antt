-- Events read one after another.
use Rattle.std.proofs.Common.{◌≡◌, ℕ, ◌+◌, List, [], ◌∷◌, ◌++◌, None, Result, Ok, Err, refl, sym, ap, ◌∙◌, append_assoc}
use Rattle.toml.specs.Data.{Data, string, integer, float, boolean, datetime, array, table, Members, Items, item, as_table}
use Rattle.gp_ploam.specs.declared.check.Mask.{Mask}
use Rattle.gp_script.specs.declared.script.ScriptEvent.{ScriptEvent}
use Rattle.gp_script.specs.declared.place.Key.TheVariants as key
use Rattle.gp_script.specs.declared.place.TablePlace.TheVariants as places
use Rattle.gp_script.specs.Fault.{◌>>=◌}
use Rattle.gp_script.specs.Mistake.{TableMistakeView, MistakeView, inside, in_table, no_table}
use Rattle.gp_script.specs.Event.{event_of, events_from}

-- what is read after events that were read before
abbrev pub behind : List ScriptEvent → Result (List ScriptEvent) MistakeView → Result (List ScriptEvent) MistakeView
behind before (Ok events) = Ok (before ++ events)
behind before (Err f) = Err f

-- after none it is as it stands
pub behind_nothing : (rest : Result (List ScriptEvent) MistakeView) → behind [] rest ≡ rest
behind_nothing (Ok events) = refl
behind_nothing (Err f) = refl

-- after one more event
behind_push : (before : List ScriptEvent) (event : ScriptEvent) (rest : Result (List ScriptEvent) MistakeView)
    → behind (before ++ event ∷ []) rest ≡ behind before (rest >>= (λ events. Ok (event ∷ events)))
behind_push before event (Ok events) = ap (λ (l : List ScriptEvent). Ok l) (append_assoc before (event ∷ []) events)
behind_push before event (Err f) = refl

-- the walk ends at what is no table,
pub no_event : (place ports units : ℕ) (mask : Mask) (d : Data) (rest : Items) → as_table d ≡ None → events_from place ports units mask (item d rest) ≡ Err (no_table key.Event place)
unfolding events_from
no_event place ports units mask (string s) rest none = refl
no_event place ports units mask (integer z) rest none = refl
no_event place ports units mask (float x) rest none = refl
no_event place ports units mask (boolean b) rest none = refl
no_event place ports units mask (datetime t) rest none = refl
no_event place ports units mask (array items) rest none = refl
no_event place ports units mask (table ms) rest none = cc none

-- and at a table that is refused,
pub bad_event : (place ports units : ℕ) (mask : Mask) (ms : Members) (rest : Items) (m : TableMistakeView) → event_of ports units mask ms ≡ Err m
    → events_from place ports units mask (item (table ms) rest) ≡ Err (inside (places.Event place) m)
unfolding events_from
bad_event place ports units mask ms rest m says = simp says

-- and goes on behind one that is read
pub next_event : (before : List ScriptEvent) (place ports units : ℕ) (mask : Mask) (ms : Members) (rest : Items) (event : ScriptEvent) → event_of ports units mask ms ≡ Ok event
    → behind (before ++ event ∷ []) (events_from (place + 1) ports units mask rest) ≡ behind before (events_from place ports units mask (item (table ms) rest))
unfolding events_from
next_event before place ports units mask ms rest event says =
    behind_push before event (events_from (place + 1) ports units mask rest)
    ∙ ap (λ (r : Result ScriptEvent TableMistakeView). behind before (in_table (places.Event place) r >>= (λ e. events_from (place + 1) ports units mask rest >>= (λ events. Ok (e ∷ events))))) (sym says)
