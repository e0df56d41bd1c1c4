use Rattle.std.proofs.Common.{◌≡◌, ◌∙◌, IfOk, List, ℕ, Some, ap, length, rules, subst, sym}
use Rattle.gp_ploam.specs.declared.check.Mask.{Mask}
use Rattle.gp_machine.specs.Config.{max_ports}
use Rattle.gp_audit.specs.Port.{PortState}
use Rattle.gp_summary.specs.Heard.{TellsHeard}
use Rattle.gp_summary.specs.Summary.{IsFresh}
use Rattle.gp_tally.specs.Counting.{CountingState}
use Rattle.gp_summed.specs.Codes.{codes_of}
use Rattle.gp_summed.specs.Hearing.{AreHeard, HearerState, HearingState}
use Rattle.gp_summed.proofs.explaining.explain_summed.Goals as goal

pub returns-clause-explained : goal.returns-clause-explained
returns-clause-explained g c =
    let W = g.row.W.Denot in
    let form = c.args.form in
    let mask = c.args.mask in
    let hearing : HearingState W = c.into_inner.result in
    let counting : CountingState W = c.into_parts-counting.result.0 in
    let hearer : HearerState = c.into_parts-counting.result.1 in
    let counter = c.counter-2.result.now in
    let summary = c.summary_of-summary.result in
    let counts : counting ≡ hearing.counting = ap (λ (p : CountingState W × HearerState). p.0) c.into_parts-counting.ensures.parts in
    let hears : hearer ≡ hearing.hearer = ap (λ (p : CountingState W × HearerState). p.1) c.into_parts-counting.ensures.parts in
    let taken : hearer.taken ≡ counting.counter.taken =
    ap (λ (h : HearerState). h.taken) hears ∙ c.into_parts-counting.ensures.taken ∙ sym (ap (λ (k : CountingState W). k.counter.taken) counts) in
    let under : hearer.mask ≡ mask = ap (λ (h : HearerState). h.mask) hears ∙ c.into_parts-counting.ensures.mask ∙ c.requires.mask in
    let fresh : IsFresh c.in_ok-sink.sink = search rules in
    let masked = subst (λ (m : Mask). IfOk summary (λ text. (ports : List PortState) × AreHeard m hearer.taken ports × TellsHeard form counter.mask counter.taken (length counter.ports) ports text.items))
    under c.summary_of-summary.ensures in
    let counted = subst (λ (m : Mask). IfOk summary (λ text. (ports : List PortState) × AreHeard mask hearer.taken ports × TellsHeard form m counter.taken (length counter.ports) ports text.items))
    (c.counter-2.ensures.mask ∙ c.requires.mask) masked in
    let wide = subst (λ (n : ℕ). IfOk summary (λ text. (ports : List PortState) × AreHeard mask hearer.taken ports × TellsHeard form mask counter.taken n ports text.items))
    (c.counter-2.ensures.ports ∙ c.requires.ports) counted in
    let heard = subst (λ (t : List ℕ). IfOk summary (λ text. (ports : List PortState) × AreHeard mask t ports × TellsHeard form mask counter.taken max_ports ports text.items)) taken wide in
    record {
      before = c.in_ok-sink.sink;
      after = c.explain_trace-told.new.sink;
      fresh = fresh;
      explains = rw (c.new-telling.ensures) at c.explain_trace-told.ensures;
      writer = counts ∙ ap (λ (h : HearingState W). h.counting) c.into_inner.ensures.writer;
      took = sym c.into_inner.ensures.held ∙ ap (λ (k : CountingState W). Some k.counter.taken) (sym counts);
      tells = subst (λ (t : List ℕ). IfOk summary (λ text. (ports : List PortState) × AreHeard mask counting.counter.taken ports × TellsHeard form mask t max_ports ports text.items))
          (ap (λ s. s.taken) c.counter-2.ensures.counter) heard;
    }

pub returns-clause-codes : goal.returns-clause-codes
returns-clause-codes g c =
    let W = g.row.W.Denot in
    let mask = c.args.mask in
    let hearing : HearingState W = c.into_inner.result in
    let counting : CountingState W = c.into_parts-counting.result.0 in
    let hearer : HearerState = c.into_parts-counting.result.1 in
    let codes = c.heard_codes-codes.result in
    let counts : counting ≡ hearing.counting = ap (λ (p : CountingState W × HearerState). p.0) c.into_parts-counting.ensures.parts in
    let hears : hearer ≡ hearing.hearer = ap (λ (p : CountingState W × HearerState). p.1) c.into_parts-counting.ensures.parts in
    let taken : hearer.taken ≡ counting.counter.taken =
    ap (λ (h : HearerState). h.taken) hears ∙ c.into_parts-counting.ensures.taken ∙ sym (ap (λ (k : CountingState W). k.counter.taken) counts) in
    let under : hearer.mask ≡ mask = ap (λ (h : HearerState). h.mask) hears ∙ c.into_parts-counting.ensures.mask ∙ c.requires.mask in
    let masked = subst (λ (m : Mask). IfOk codes (λ heard. (ports : List PortState) × AreHeard m hearer.taken ports × (heard ≡ codes_of ports 16))) under c.heard_codes-codes.ensures in
    subst (λ (t : List ℕ). IfOk codes (λ heard. (ports : List PortState) × AreHeard mask t ports × (heard ≡ codes_of ports 16))) taken masked
