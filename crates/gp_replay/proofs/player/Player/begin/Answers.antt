use Rattle.std.proofs.Common.{◌≡◌, All, List, map, sym, ap, ◌∙◌, subst}
use Rattle.gp_licence.specs.Book.{BookState}
use Rattle.gp_machine.specs.declared.config.PortConfig.{PortConfig}
use Rattle.gp_replay.specs.Chassis.{IsSoundPort}
use Rattle.gp_replay.specs.Seats.{SeatState, play_on, seat_opened}
use Rattle.gp_replay.proofs.SeatLemmas.{opened_shows, opened_stand}
use Rattle.gp_replay.proofs.player.Player.begin.Goals as goal

pub invariant_of-result : goal.invariant_of-result
invariant_of-result g c =
    let seats : c.in_ok-seats.seats.items ≡ map seat_opened c.args.config.now.ports.items =
    c.in_ok-seats.ensures.0 ∙ ap (λ (configs : List PortConfig). map seat_opened configs) c.as_slice.ensures.value in
    subst (λ (l : List SeatState). All (λ (s : SeatState). IsSoundPort s.port) l) (sym seats) (opened_stand c.args.config.now.ports.items c.requires.within.limits)

pub returns : goal.returns
returns g c =
    let seats : c.in_ok-seats.seats.items ≡ map seat_opened c.args.config.now.ports.items =
    c.in_ok-seats.ensures.0 ∙ ap (λ (configs : List PortConfig). map seat_opened configs) c.as_slice.ensures.value in
    ap (λ (l : List SeatState). play_on l c.in_ok-seats.book.free) seats
    ∙ ap (play_on (map seat_opened c.args.config.now.ports.items)) (ap (λ (b : BookState). b.free) c.in_ok-seats.ensures.1 ∙ c.new-book.ensures.free)
    ∙ opened_shows c.args.config.now.ports.items c.args.config.now.licences
