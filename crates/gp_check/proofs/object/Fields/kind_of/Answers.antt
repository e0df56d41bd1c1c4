use Rattle.std.proofs.Common.{◌≡◌, ℕ, List, ◌++◌, OnOk, subst, sym, ap, ◌∙◌}
use Rattle.gp_script.specs.declared.fault.ScriptFault.TheVariants.{Shape}
use Rattle.gp_check.specs.Keys.{unknown_key_text}
use Rattle.gp_check.specs.Object.{kind_fields, kind_of_mistake}
use Rattle.gp_check.proofs.object.Fields.kind_of.Goals as goal

pub returns-in_ok-told-in-UnknownKey : goal.returns-in_ok-told-in-UnknownKey
returns-in_ok-told-in-UnknownKey c =
    subst (λ (z : List ℕ). OnOk c.kind.result (c.kind.new.self.octets.items ≡ c.args.self.now.octets.items ++ z))
    (ap (λ (t : List ℕ). kind_fields Shape t) (c.as_str-in-UnknownKey.ensures.value ∙ c.in_ok-told-in-UnknownKey.ensures ∙ ap (λ (k : List ℕ). unknown_key_text c.args.table k) c.as_str.ensures.value)
    ∙ sym (ap (kind_of_mistake c.args.table) c.in-UnknownKey.is))
    c.kind.ensures
