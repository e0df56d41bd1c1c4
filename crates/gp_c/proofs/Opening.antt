-- What opening a chassis leaves of a handle.
use Rattle.std.proofs.Common.{◌≡◌, ◌⊎◌, inl, inr, ℕ, refl, sym, ap, ◌∙◌, subst, Bool, true, false, Option, None, Some, Result, Ok, Err}
use lib.Dec.{T}
use Rattle.std.specs.Prelude.{is_some, is_ok}
use Rattle.gp_chassis.specs.declared.config.ChassisConfig.{ChassisConfig}
use Rattle.gp_chassis.specs.Core.{CoreState}
use Rattle.gp_c.specs.declared.fault.Fault.{Fault}
use Rattle.gp_c.specs.declared.fault.Fault.TheVariants.{Serials, Limit, OutOfMemory}
use Rattle.gp_c.specs.Settings.{ports_of}
use Rattle.gp_c.specs.Serves.{Opens}
use Rattle.gp_c.specs.Calls.{Asked, OpensHandle, free_at}
use Rattle.gp_c.proofs.Limits.{same_within}

abbrev is_serials : Fault → Bool
is_serials Serials = true
is_serials _ = false

abbrev fault_in : Result Unit Fault → Fault
fault_in (Ok done) = Serials
fault_in (Err fault) = fault

not_serials : (fault : Fault) → (fault ≡ Limit) ⊎ (fault ≡ OutOfMemory) → Serials ≡ fault → ⊥
not_serials fault (inl is) same = subst (λ (f : Fault). T (is_serials f)) (same ∙ is) tt
not_serials fault (inr is) same = subst (λ (f : Fault). T (is_serials f)) (same ∙ is) tt

pub opened : (asked : Asked) (config : ChassisConfig) (before after : Option CoreState) (done : Result Unit Fault) → before ≡ None
    → ports_of asked.ports asked.serials ≡ Some config.ports.items → config.licences ≡ asked.settings.licences → config.journal_limit ≡ asked.settings.journal_limit
    → Opens config after done → OpensHandle asked before after done
opened asked config before after (Ok told) none ports licences journal opens =
    let closed : (core : CoreState) → before ≡ Some core → ⊥ = λ core is. subst (λ (o : Option CoreState). T (is_some o)) (sym is ∙ none) tt in
    let fine : (fault : Fault) → Ok told ≡ Err fault → ⊥ = λ fault is. subst (λ (r : Result Unit Fault). T (is_ok r)) is tt in (
      (none, record { configs = config.ports.items; are = ports; within = λ outside. opens.1 (outside config refl licences journal); core = rw licences at (rw journal at opens.0) }),
      tt,
      (λ core is. absurd (closed core is)),
      (λ is. absurd (fine Serials is)),
      (λ is. absurd (fine Limit is)),
    )
opened asked config before after (Err fault) none ports licences journal opens =
    let closed : (core : CoreState) → before ≡ Some core → ⊥ = λ core is. subst (λ (o : Option CoreState). T (is_some o)) (sym is ∙ none) tt in (
      tt,
      opens.2 ∙ sym none,
      (λ core is. absurd (closed core is)),
      (λ is. absurd (not_serials fault opens.4 (sym (ap fault_in is)))),
      (λ is. record {
        configs = config.ports.items;
        are = ports;
        outside = λ other items total limit within.
            opens.3 is (same_within other config items (total ∙ sym licences) (limit ∙ sym journal) within);
      }),
    )

-- a handle that has no licences to tell of is closed
pub closed_where : (before : Option CoreState) (told : Result ℕ Fault) → told ≡ free_at before → is_ok told ≡ false → before ≡ None
closed_where None told is not = refl
closed_where (Some core) told is not = absurd (subst (λ (b : Bool). T b) (ap (λ (r : Result ℕ Fault). is_ok r) (sym is) ∙ not) tt)
