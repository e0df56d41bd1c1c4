use Rattle.std.proofs.Common.{◌≡◌, ℕ, List, IfOk, string_bytes, subst, sym}
use Rattle.gp_check.proofs.KeysLemmas.{unknown_told}
use Rattle.gp_check.proofs.keys.unknown_key_text.Goals as goal

pub returns : goal.returns
returns c =
    subst (λ (z : List ℕ). IfOk c.format.result (λ text. string_bytes text ≡ z))
    (sym (unknown_told c.args.table c.args.name.now _ _ _ _ _ _ c.keys-keys.ensures c.is_key_of.ensures c.if-is_key_of.false c.is_of_top.ensures c.if-is_of_top.false c.meant.ensures
    c.in_ok-meant.ensures c.keys_text-there_are.ensures))
    c.format.ensures.ok
