-- The code of each message that is sent is heard as this message.
use Rattle.std.proofs.Common.{◌≡◌, ℕ, List, [], ◌∷◌, ◌++◌, Option, None, Some, sym, ap, subst}
use Rattle.std.specs.Prelude.{All}
use Rattle.std.proofs.lemmas.List.Elements.{All-nil, All-cons, All-head, All-tail}
use Rattle.gp_ploam.specs.declared.message.Down.{Down}
use Rattle.gp_ploam.specs.Down.{IsProperDown, code_of_down}
use Rattle.gp_ploam.specs.Mask.{mask_value}
use Rattle.gp_ploam.proofs.DownRows.{down_reads_once, down_code_reads}
use Rattle.gp_machine.specs.Messages.{sent_in}
use Rattle.gp_laws.proofs.ProperMessages.{only_proper}
use Rattle.gp_observer.specs.Fibre.{HearsDown, IsHeardRight, SentCodesAreHeard}

heard_right : (mask : ℕ) (m : Down) → IsProperDown m → IsHeardRight mask m
heard_right mask m proper None = (λ h. absurd (h (down_code_reads m mask proper).check), λ e. absurd (none_some e))
  where
    none_some : ◌≡◌ {A = Option Down} None (Some m) → ⊥
    none_some e = cc
heard_right mask m proper (Some n) =
    let reads = down_code_reads m mask proper in
    (λ h. ap Some (down_reads_once _ n m h.proper proper h.row reads.row), λ e. subst (λ (x : Option Down). HearsDown mask (code_of_down m mask) x) (sym e) reads)

all_right : (mask : ℕ) (ms ns : List Down) → All IsProperDown (ms ++ ns) → All (IsHeardRight mask) ms
all_right mask [] ns h = All-nil (IsHeardRight mask)
all_right mask (m ∷ ms) ns h = All-cons (IsHeardRight mask) m ms (heard_right mask m (All-head IsProperDown m (ms ++ ns) h)) (all_right mask ms ns (All-tail IsProperDown m (ms ++ ns) h))

pub codes_heard : SentCodesAreHeard
codes_heard c q es typed run = all_right (mask_value c.mask) (sent_in es) q.owed (only_proper c q es typed run)
