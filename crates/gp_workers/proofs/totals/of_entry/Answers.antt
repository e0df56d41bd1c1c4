use Rattle.gp_alarms.specs.declared.alarm.AlarmKind.TheVariants.{Los, Loam, Loa, Suf, Df, Dg}
use Rattle.gp_workers.specs.Totals.{is_frame, is_burst, is_command, raises}
use Rattle.gp_workers.proofs.Counts.{counted}
use Rattle.gp_workers.proofs.totals.of_entry.Goals as goal

pub returns-clause-counts : goal.returns-clause-counts
returns-clause-counts c = record {
  frames = counted is_frame c.args.entry.now _ _ c.one_if.ensures c.is_frame.ensures;
  bursts = counted is_burst c.args.entry.now _ _ c.one_if-2.ensures c.is_burst.ensures;
  commands = counted is_command c.args.entry.now _ _ c.one_if-3.ensures c.is_command.ensures;
  los = counted (raises Los) c.args.entry.now _ _ c.one_if-4.ensures c.raises.ensures;
  loam = counted (raises Loam) c.args.entry.now _ _ c.one_if-5.ensures c.raises-2.ensures;
  loa = counted (raises Loa) c.args.entry.now _ _ c.one_if-6.ensures c.raises-3.ensures;
  suf = counted (raises Suf) c.args.entry.now _ _ c.one_if-7.ensures c.raises-4.ensures;
  df = counted (raises Df) c.args.entry.now _ _ c.one_if-8.ensures c.raises-5.ensures;
  dg = counted (raises Dg) c.args.entry.now _ _ c.one_if-9.ensures c.raises-6.ensures;
}
