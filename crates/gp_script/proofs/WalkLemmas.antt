-- What a function of the walk returned against what the script says: a fault that a `?` hands on, a test, no memory.
use Rattle.std.proofs.Common.{◌≡◌, Bool, true, false, Result, Ok, Err, IfOk, refl, ap, sym, ◌∙◌}
use Rattle.std.specs.Result.{IsErrAnd}
use Rattle.gp_script.specs.declared.walk.TableFault.{TableFault}
use Rattle.gp_script.specs.declared.walk.WalkError.{WalkError}
use Rattle.gp_script.specs.declared.walk.WalkError.TheVariants as walks
use Rattle.gp_script.specs.Fault.{◌>>=◌, Sees, Stops, Walks, needs, table_fault_view}
use Rattle.gp_script.specs.Mistake.{MistakeView, TableMistakeView}

-- a step's fault is what the whole answers
pub handed_on : {X Y : Type 0} (view : X → Y) (r : Result X TableFault) (says : Result Y TableMistakeView) (fault : TableFault)
    → IsErrAnd r (λ e. e ≡ fault) → says ≡ Err (table_fault_view fault) → Sees view r says
handed_on view (Ok x) says fault is says_so = absurd is
handed_on view (Err e) says fault is says_so = says_so ∙ ap (λ f. Err (table_fault_view f)) (sym is)

-- a test that has to hold is the same of a table at hand
pub needed : (fault : TableFault) (test : Bool) → Sees (λ (u : Unit {0}). u) (needs fault test) (needs (table_fault_view fault) test)
needed fault true = refl
needed fault false = refl

-- and what follows from the test holds where there is no fault
pub where_needed : (fault : TableFault) (test : Bool) (P : Type 0) → (test ≡ true → P) → IfOk (needs fault test) (λ _. P)
where_needed fault true P follows = follows refl
where_needed fault false P follows = tt

-- memory ran out
pub ran_out : {X Y : Type 0} (view : X → Y) (r : Result X WalkError) (says : Result Y MistakeView) → IsErrAnd r (λ e. e ≡ walks.OutOfMemory) → Walks view r says
ran_out view (Ok x) says out = absurd out
ran_out view (Err e) says out = rw out tt

-- why a step ended is why the whole does
pub walked_on : {X Y : Type 0} (view : X → Y) (r : Result X WalkError) (says : Result Y MistakeView) (error : WalkError) → IsErrAnd r (λ e. e ≡ error) → Stops error says → Walks view r says
walked_on view (Ok x) says error is stops = absurd is
walked_on view (Err e) says error is stops = rw is stops

-- where a step stops, nothing behind it is read
pub stopped : {A B : Type 0} (error : WalkError) (step : Result A MistakeView) (next : A → Result B MistakeView) → Stops error step → Stops error (step >>= next)
stopped walks.OutOfMemory step next stops = tt
stopped (walks.Inside place fault) step next stops = rw stops
