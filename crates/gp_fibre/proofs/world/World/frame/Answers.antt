use Rattle.std.proofs.Common.{◌≡◌, ◌+◌, ℕ, ap, sym, subst, refl, ◌∙◌}
use Rattle.gp_machine.specs.declared.event.Event.TheVariants as event
use Rattle.gp_fibre.specs.Fibre.{FibreStand}
use Rattle.gp_fibre.specs.Flights.{AreInReach}
use Rattle.gp_fibre.specs.World.{FibreWorld}
use Rattle.gp_fibre.specs.Step.{PortTakes}
use Rattle.gp_fibre.specs.Schedule.{flights_after}
use Rattle.gp_fibre.proofs.Coming.{left_in_reach}
use Rattle.gp_fibre.proofs.Playing.{left_kept}
use Rattle.gp_fibre.proofs.world.World.frame.Goals as goal

pub remove_due-requires : goal.remove_due-requires
remove_due-requires g c =
    let i = c.self.inside in subst (λ (n : ℕ). AreInReach n i.flights.flights) (sym c.frames-frame.ensures.value) c.self.invariant.1

pub invariant_of-self-2 : goal.invariant_of-self-2
invariant_of-self-2 g c =
    let i = c.self.inside in
    let frame = c.frames-frame.result in
    let taken = c.take-entry.ensures.taken in
    let ended = c.end_frame.ensures in
    let reserved : c.reserve.new.self.world ≡ i.fibre.world = c.in_ok-reserve.ensures.world in
    let bursts : c.end_frame.new.self.world.bursts ≡ i.fibre.world.bursts =
    ap (λ (s : FibreStand). s.world.bursts) ended ∙ taken.bursts ∙ ap (λ (w : FibreWorld). w.bursts) reserved in
    let forgotten : c.end_frame.new.self.world.forgotten ≡ i.fibre.world.forgotten =
    ap (λ (s : FibreStand). s.world.forgotten) ended ∙ taken.forgotten ∙ ap (λ (w : FibreWorld). w.forgotten) reserved in
    let reach : AreInReach frame i.flights.flights = subst (λ (n : ℕ). AreInReach n i.flights.flights) (sym c.frames-frame.ensures.value) c.self.invariant.1 in
    let frames : c.end_frame.new.self.frames ≡ frame + 1 =
    ap (λ (s : FibreStand). s.frames) ended ∙ ap (λ (n : ℕ). n + 1) (c.take-entry.ensures.frames ∙ c.in_ok-reserve.ensures.frames ∙ sym c.frames-frame.ensures.value) in (
      left_kept frame i.fibre.world c.end_frame.new.self.world i.flights.flights c.remove_due.new.self.flights c.self.invariant.0 forgotten bursts c.remove_due.ensures,
      subst (λ (n : ℕ). AreInReach n c.remove_due.new.self.flights) (sym frames) (left_in_reach frame i.flights.flights c.remove_due.new.self.flights reach c.remove_due.ensures),
    )

pub returns-clause-made : goal.returns-clause-made
returns-clause-made g c =
    let i = c.self.inside in
    let reserved = c.in_ok-reserve.ensures in
    let taken = subst (λ (w : FibreWorld). PortTakes w event.Frame c.take-entry.result c.take-entry.new.self.world) reserved.world c.take-entry.ensures.taken in
    rw (← c.self.view_is)
    (record {
      made = (c.take-entry.result, c.take-entry.new.self.world, refl, taken, ap (λ (s : FibreStand). s.world) c.end_frame.ensures);
      licences = ap (λ (s : FibreStand). s.total) c.end_frame.ensures ∙ c.take-entry.ensures.total ∙ reserved.total;
      frames = ap (λ (s : FibreStand). s.frames) c.end_frame.ensures ∙ ap (λ (n : ℕ). n + 1) (c.take-entry.ensures.frames ∙ reserved.frames);
      flights = c.remove_due.ensures ∙ ap (λ (n : ℕ). flights_after n i.flights.flights) c.frames-frame.ensures.value;
    })
