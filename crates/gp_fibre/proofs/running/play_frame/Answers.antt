use Rattle.std.proofs.Common.{◌≡◌, ◌+◌, ℕ, length, ap, sym, subst, ◌∙◌, arith}
use Rattle.gp_fibre.specs.Fibre.{FibreStand}
use Rattle.gp_fibre.specs.Flights.{AreInReach}
use Rattle.gp_fibre.specs.Parts.{Asks, Comes, PortPuts, world_state}
use Rattle.gp_fibre.specs.Schedule.{arrivals, flights_after}
use Rattle.gp_fibre.proofs.Coming.{left_in_reach}
use Rattle.gp_fibre.proofs.Playing.{answered_kept, asks_bursts, answered_length, left_kept, played}
use Rattle.gp_fibre.proofs.running.play_frame.Goals as goal

pub land-requires-clause-room : goal.land-requires-clause-room
land-requires-clause-room g c =
    let bounds = asks_bursts c.args.lost_copies.now c.args.fibre.now.world c.args.entries.now.items c.ask.new.entries.items c.ask.new.fibre.world c.ask.ensures.asks in
    let most = bounds.1 in
    let many = answered_length c.frames-frame.result (length c.args.fibre.now.world.bursts) c.args.flights.now.flights c.ask.new.flights.flights c.ask.new.fibre.world.bursts c.ask.ensures.comes in
    let room = c.requires.room in
    let took = c.ask.ensures.room in
    record {
      copies = let a = room.copies in let b = took.copies in omega arith;
      grants = let a = room.grants in let b = took.grants in omega arith;
      entries = let a = room.entries in let b = took.entries in let e = took.capacity in omega arith;
    }

pub land-requires-clause-kept : goal.land-requires-clause-kept
land-requires-clause-kept g c =
    let old = c.args.fibre.now.world in
    let asks = c.ask.ensures.asks in
    let bounds = asks_bursts c.args.lost_copies.now old c.args.entries.now.items c.ask.new.entries.items c.ask.new.fibre.world asks in
    answered_kept c.frames-frame.result old c.ask.new.fibre.world c.args.flights.now.flights c.ask.new.flights.flights c.requires.kept (asks.reaches.forgotten ∙ asks.port.forgotten) bounds.0
    c.ask.ensures.comes

pub ask-requires-clause-reach : goal.ask-requires-clause-reach
ask-requires-clause-reach g c = subst (λ (n : ℕ). AreInReach n c.args.flights.now.flights) (sym c.frames-frame.ensures.value) c.requires.reach

pub returns-clause-puts : goal.returns-clause-puts
returns-clause-puts g c =
    let old = world_state c.args.fibre.now c.args.flights.now in
    let new = world_state c.end_frame.new.self c.land.new.flights in
    let lc = c.args.lost_copies.now in
    let lb = c.args.lost_bursts.now in
    let mid = c.ask.new.entries.items in
    let flights = c.ask.new.flights.flights in
    let frame = c.frames-frame.ensures.value in
    let asks : Asks lc old.fibre c.args.entries.now.items mid c.ask.new.fibre.world = c.ask.ensures.asks in
    let comes : Comes old.frames old.fibre old.flights c.ask.new.fibre.world flights = subst (λ (n : ℕ). Comes n old.fibre old.flights c.ask.new.fibre.world flights) frame c.ask.ensures.comes in
    let puts : PortPuts c.ask.new.fibre.world (arrivals lb old.frames flights) mid c.land.new.entries.items c.land.new.fibre.world =
    subst (λ (n : ℕ). PortPuts c.ask.new.fibre.world (arrivals lb n flights) mid c.land.new.entries.items c.land.new.fibre.world) frame
    c.land.ensures.puts in
    played lc lb old new c.args.entries.now.items mid c.land.new.entries.items c.ask.new.fibre.world c.land.new.fibre.world flights asks comes puts
    (ap (λ (s : FibreStand). s.world) c.end_frame.ensures)
    (ap (λ (s : FibreStand). s.total) c.end_frame.ensures ∙ c.land.ensures.counts.total ∙ c.ask.ensures.counts.total)
    (ap (λ (s : FibreStand). s.frames) c.end_frame.ensures ∙ ap (λ (n : ℕ). n + 1) (c.land.ensures.counts.frames ∙ c.ask.ensures.counts.frames))
    (c.land.ensures.left ∙ ap (λ (n : ℕ). flights_after n flights) frame)

pub returns-clause-kept : goal.returns-clause-kept
returns-clause-kept g c =
    let old = c.args.fibre.now.world in
    let asked = c.ask.new.fibre.world in
    let asks = c.ask.ensures.asks in
    let bounds = asks_bursts c.args.lost_copies.now old c.args.entries.now.items c.ask.new.entries.items asked asks in
    let kept = answered_kept c.frames-frame.result old asked c.args.flights.now.flights c.ask.new.flights.flights c.requires.kept (asks.reaches.forgotten ∙ asks.port.forgotten) bounds.0 c.ask.ensures.comes in
    let ended = c.end_frame.ensures in
    left_kept c.frames-frame.result asked c.end_frame.new.self.world c.ask.new.flights.flights c.land.new.flights.flights kept
    (ap (λ (s : FibreStand). s.world.forgotten) ended ∙ c.land.ensures.puts.forgotten) (ap (λ (s : FibreStand). s.world.bursts) ended ∙ c.land.ensures.puts.bursts) c.land.ensures.left

pub returns-clause-reach : goal.returns-clause-reach
returns-clause-reach g c =
    let flights = c.ask.new.flights.flights in
    let left : AreInReach (c.frames-frame.result + 1) c.land.new.flights.flights = left_in_reach c.frames-frame.result flights c.land.new.flights.flights c.ask.ensures.reach c.land.ensures.left in
    let frames : c.end_frame.new.self.frames ≡ c.frames-frame.result + 1 =
    ap (λ (s : FibreStand). s.frames) c.end_frame.ensures ∙ ap (λ (n : ℕ). n + 1) (c.land.ensures.counts.frames ∙ c.ask.ensures.counts.frames ∙ sym c.frames-frame.ensures.value) in
    subst (λ (n : ℕ). AreInReach n c.land.new.flights.flights) (sym frames) left
