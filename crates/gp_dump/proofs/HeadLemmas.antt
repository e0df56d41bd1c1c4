-- The declarations, lane by lane and port by port.
use Rattle.std.proofs.Common.{◌≡◌, ℕ, ◌+◌, ◌<◌, List, [], ◌∷◌, ◌++◌, Option, None, Some, length, get_or, drop, sym, ap, ◌∙◌, append_assoc, add-one, drop-cons, arith, suc}
use Rattle.std.proofs.lemmas.List.{append-nil}
use Rattle.gp_dump.specs.Head.{lane_text, lanes_text, port_if, ports_text}

-- one lane more
pub lanes_more : (port lane : ℕ) (first mid new : List ℕ) → mid ≡ first ++ lanes_text port lane → new ≡ mid ++ lane_text port lane
    → new ≡ first ++ lanes_text port (lane + 1)
lanes_more port lane first mid new one other =
    let step : lanes_text port (lane + 1) ≡ lanes_text port lane ++ lane_text port lane = ap (λ (n : ℕ). lanes_text port n) (add-one lane) in
    other ∙ ap (λ (l : List ℕ). l ++ lane_text port lane) one ∙ append_assoc first (lanes_text port lane) (lane_text port lane)
    ∙ ap (λ (l : List ℕ). first ++ l) (sym step)

-- the ports from this one on
pub ports_from : (port : ℕ) (ports : List (Option ℕ)) → port < length ports
    → ports_text port (drop port ports) ≡ port_if port (get_or ports port None) ++ ports_text (port + 1) (drop (port + 1) ports)
ports_from port ports near =
    ap (λ (l : List (Option ℕ)). ports_text port l) (drop-cons ports port None near)
    ∙ ap (λ (n : ℕ). port_if port (get_or ports port None) ++ ports_text (port + 1) (drop n ports)) (sym (add-one port))

-- one port more
pub ports_more : (port : ℕ) (ports : List (Option ℕ)) (first mid new : List ℕ) → port < length ports
    → mid ++ ports_text port (drop port ports) ≡ first ++ ports_text 0 ports → new ≡ mid ++ port_if port (get_or ports port None)
    → new ++ ports_text (port + 1) (drop (port + 1) ports) ≡ first ++ ports_text 0 ports
ports_more port ports first mid new near one other =
    let rest = ports_text (port + 1) (drop (port + 1) ports) in
    ap (λ (l : List ℕ). l ++ rest) other ∙ append_assoc mid (port_if port (get_or ports port None)) rest
    ∙ ap (λ (l : List ℕ). mid ++ l) (sym (ports_from port ports near)) ∙ one

-- behind the last port
pub ports_all : (port : ℕ) (ports : List (Option ℕ)) (first out : List ℕ) → drop port ports ≡ []
    → out ++ ports_text port (drop port ports) ≡ first ++ ports_text 0 ports → out ≡ first ++ ports_text 0 ports
ports_all port ports first out none is =
    sym (append-nil out) ∙ ap (λ (l : List (Option ℕ)). out ++ ports_text port l) (sym none) ∙ is
