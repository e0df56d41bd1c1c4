use Rattle.std.proofs.Common.{◌≡◌, ◌≤◌, length, take}
use Rattle.gp_observer.specs.Heard.{broken_of}
use Rattle.gp_watch.proofs.broken.BrokenRules.of.Given as goal

-- those so far are found
abbrev pub invariant-loop-at : goal.invariant-loop-at
invariant-loop-at l = record {
  found : l.found ≡ broken_of (take l.at l.rules);
  few : length l.found ≤ l.at;
}
