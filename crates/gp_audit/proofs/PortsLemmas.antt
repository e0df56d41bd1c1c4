-- A port behind a line of a trace, among the others.
use Rattle.std.specs.Prelude.{slice_index_or}
use Rattle.std.proofs.Common.{◌≡◌, ◌<◌, ℕ, Bool, List, Option, Result, Ok, Err, OnOk, length, slice_set, sym, ap, ◌∙◌}
use Rattle.std.proofs.lemmas.List.{get_or_default}
use Rattle.gp_log.specs.declared.said.Said.{Said}
use Rattle.gp_audit.specs.declared.options.AuditOptions.{AuditOptions}
use Rattle.gp_audit.specs.Hearing.{port_at, port_ticked, port_traced}
use Rattle.gp_audit.specs.Port.{PortState, port_begun}

pub set_traced : {T E : Type 0} (r : Result T E) (options : AuditOptions) (ports now : List PortState) (at port : ℕ) (is_frame : Bool) (first second : Option Said) (heard new : PortState)
    → now ≡ ports → at ≡ port → port < length ports → heard ≡ slice_index_or ports at heard
    → OnOk r (new ≡ port_traced options (port_ticked heard is_frame) first second)
    → OnOk r (slice_set ports at new ≡ slice_set now port (port_traced options (port_ticked (port_at options now port) is_frame) first second))
set_traced (Err e) options ports now at port is_frame first second heard new same is within read noted = tt
set_traced (Ok x) options ports now at port is_frame first second heard new same is within read noted =
    let here : heard ≡ port_at options now port =
    read ∙ ap (λ (n : ℕ). slice_index_or ports n heard) is ∙ get_or_default ports port heard (port_begun options.midway) within
    ∙ ap (λ (l : List PortState). slice_index_or l port (port_begun options.midway)) (sym same) in
    ap (λ (n : ℕ). slice_set ports n new) is
    ∙ ap (λ (p : PortState). slice_set ports port p) (noted ∙ ap (λ (p : PortState). port_traced options (port_ticked p is_frame) first second) here)
    ∙ ap (λ (l : List PortState). slice_set l port (port_traced options (port_ticked (port_at options now port) is_frame) first second)) (sym same)
