use Rattle.std.proofs.Common.{◌≡◌, ℕ, List, IfOk, string_bytes, subst, sym, ap, ◌∙◌}
use Rattle.gp_script.specs.Mistake.{fault_of_wanted}
use Rattle.gp_check.specs.Words.{fault_text, place_text, table_mistake_text, wanted_text}
use Rattle.gp_check.proofs.KeysLemmas.{unknown_line}
use Rattle.gp_check.proofs.TextLemmas.{told}
use Rattle.gp_check.proofs.text.table_mistake_text.Goals as goal

pub returns-in_ok-want-in-Unmet : goal.returns-in_ok-want-in-Unmet
returns-in_ok-want-in-Unmet c =
    subst (λ (z : List ℕ). IfOk c.format-in-Unmet.result (λ text. string_bytes text ≡ z))
    (sym (ap (table_mistake_text c.args.table) c.in-Unmet.is
    ∙ told (place_text c.args.table c.in-Unmet.spot) (fault_text (fault_of_wanted c.in-Unmet.want)) (wanted_text c.in-Unmet.spot c.in-Unmet.want) (string_bytes c.in_ok-place-in-Unmet.place) c.fault_text-fault.result.now (string_bytes c.in_ok-want-in-Unmet.want)
    c.in_ok-place-in-Unmet.ensures (c.fault_text-fault.ensures ∙ ap fault_text c.fault.ensures) c.in_ok-want-in-Unmet.ensures))
    c.format-in-Unmet.ensures.ok

pub returns-in_ok-told-in-UnknownKey : goal.returns-in_ok-told-in-UnknownKey
returns-in_ok-told-in-UnknownKey c =
    subst (λ (z : List ℕ). IfOk c.format.result (λ text. string_bytes text ≡ z))
    (sym (ap (table_mistake_text c.args.table) c.in-UnknownKey.is
    ∙ unknown_line c.args.table _ _ (string_bytes c.in-UnknownKey.key) _ _ c.as_str.ensures.value c.as_str-in-UnknownKey.ensures.value
    c.in_ok-place-in-UnknownKey.ensures c.in_ok-told-in-UnknownKey.ensures))
    c.format.ensures.ok
