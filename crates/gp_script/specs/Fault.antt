-- A walk that ends at its first fault, and what a function of the walk returned against it (this profile's own rule).
use Rattle.std.specs.Prelude.{◌≡◌, Bool, true, false, Result, Ok, Err, string_bytes}
use Rattle.gp_script.specs.declared.fault.ScriptFault.{ScriptFault}
use Rattle.gp_script.specs.declared.fault.ScriptError.{ScriptError}
use Rattle.gp_script.specs.declared.fault.ScriptError.TheVariants as errors
use Rattle.gp_script.specs.declared.mistake.Mistake.{Mistake}
use Rattle.gp_script.specs.declared.mistake.Mistake.TheVariants as mistakes
use Rattle.gp_script.specs.declared.mistake.TableMistake.{TableMistake}
use Rattle.gp_script.specs.declared.mistake.TableMistake.TheVariants as owned
use Rattle.gp_script.specs.declared.mistake.PlacedError.{PlacedError}
use Rattle.gp_script.specs.declared.mistake.PlacedError.TheVariants as placed
use Rattle.gp_script.specs.declared.walk.TableFault.{TableFault}
use Rattle.gp_script.specs.declared.walk.TableFault.TheVariants as borrowed
use Rattle.gp_script.specs.declared.walk.WalkError.{WalkError}
use Rattle.gp_script.specs.declared.walk.WalkError.TheVariants as walks
use Rattle.gp_script.specs.Mistake.{TableMistakeView, unknown_key, unmet, MistakeView, no_text, no_toml, inside, fault_of}

-- the next step of the walk, unless there was a fault
infixl 10 ◌>>=◌
abbrev pub ◌>>=◌ : {A B F : Type 0} → Result A F → (A → Result B F) → Result B F
(Ok value) >>= next = next value
(Err fault) >>= next = Err fault

-- a test that has to hold
abbrev pub needs : {F : Type 0} → F → Bool → Result (Unit {0}) F
needs fault true = Ok tt
needs fault false = Err fault

-- the fault is the one of what the script says, unless memory ran out
abbrev pub Fails : {Y : Type 0} → ScriptError → Result Y ScriptFault → Type 0
Fails errors.OutOfMemory says = Unit {0}
Fails (errors.Fault fault) says = says ≡ Err fault

-- what was returned, seen by view, is what the script says, unless memory ran out
abbrev pub Gives : {X Y : Type 0} → (X → Y) → Result X ScriptError → Result Y ScriptFault → Type 0
Gives view (Ok value) says = says ≡ Ok (view value)
Gives view (Err error) says = Fails error says

-- what is wrong in a table, without where its key lies in memory
abbrev pub table_fault_view : TableFault → TableMistakeView
table_fault_view (borrowed.UnknownKey name) = unknown_key name.now
table_fault_view (borrowed.Unmet spot want) = unmet spot want

-- the same of a function that reads in a table and needs no memory
abbrev pub Sees : {X Y : Type 0} → (X → Y) → Result X TableFault → Result Y TableMistakeView → Type 0
Sees view (Ok value) says = says ≡ Ok (view value)
Sees view (Err fault) says = says ≡ Err (table_fault_view fault)

-- the mistake is the one of what the tables say, unless memory ran out
abbrev pub Stops : {Y : Type 0} → WalkError → Result Y MistakeView → Type 0
Stops walks.OutOfMemory says = Unit {0}
Stops (walks.Inside place fault) says = says ≡ Err (inside place (table_fault_view fault))

-- the same of a function that reads tables
abbrev pub Walks : {X Y : Type 0} → (X → Y) → Result X WalkError → Result Y MistakeView → Type 0
Walks view (Ok value) says = says ≡ Ok (view value)
Walks view (Err error) says = Stops error says

-- what is wrong in a table, without where it lies in memory
abbrev pub table_mistake_view : TableMistake → TableMistakeView
table_mistake_view (owned.UnknownKey name) = unknown_key (string_bytes name)
table_mistake_view (owned.Unmet spot want) = unmet spot want

-- what is wrong in a script, without where it lies in memory
abbrev pub mistake_view : Mistake → MistakeView
mistake_view mistakes.NoText = no_text
mistake_view (mistakes.NoToml syntax) = no_toml
mistake_view (mistakes.Inside place mistake) = inside place (table_mistake_view mistake)

-- the mistake is the one of what the script says, unless memory ran out
abbrev pub Errs : {Y : Type 0} → PlacedError → Result Y MistakeView → Type 0
Errs placed.OutOfMemory says = Unit {0}
Errs (placed.Wrong mistake) says = says ≡ Err (mistake_view mistake)

-- the same of a function that reads a script and tells the place of a mistake
abbrev pub GivesPlaced : {X Y : Type 0} → (X → Y) → Result X PlacedError → Result Y MistakeView → Type 0
GivesPlaced view (Ok value) says = says ≡ Ok (view value)
GivesPlaced view (Err error) says = Errs error says

-- the text is no TOML, unless memory ran out
abbrev pub IsSyntax : PlacedError → Type 0
IsSyntax placed.OutOfMemory = Unit {0}
IsSyntax (placed.Wrong mistake) = mistake_view mistake ≡ no_toml

-- the fault of a mistake whose place is not asked for
abbrev pub error_without_place : PlacedError → ScriptError
error_without_place placed.OutOfMemory = errors.OutOfMemory
error_without_place (placed.Wrong mistake) = errors.Fault (fault_of (mistake_view mistake))

-- the mistake is owned, unless memory ran out
abbrev pub IsOwned : WalkError → PlacedError → Type 0
IsOwned error placed.OutOfMemory = Unit {0}
IsOwned walks.OutOfMemory (placed.Wrong mistake) = ⊥
IsOwned (walks.Inside place fault) (placed.Wrong mistake) = mistake_view mistake ≡ inside place (table_fault_view fault)
