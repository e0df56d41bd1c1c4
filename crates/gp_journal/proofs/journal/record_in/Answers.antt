use Rattle.std.proofs.Common.{◌≡◌, length, rules}
use Rattle.gp_journal.proofs.Recording.{written_last}
use Rattle.gp_journal.proofs.journal.record_in.Goals as goal

pub returns-clause-records : goal.returns-clause-records
returns-clause-records g c =
    let before = c.args.entries.now.items in
    let entry = c.step_entry.new.entry in
    let told = c.step_entry.ensures in
    let place : c.len-place.result ≡ length before = search (rules, c.len-place.ensures) in
    record {
      entry = entry;
      purse_in = told.purse_in;
      event_is = told.event;
      purse_out = told.purse_out;
      step = told.step;
      sound = told.makes.sound;
      proper = told.makes.proper;
      grants = told.makes.grants;
      after_is = written_last before c.push_within.new.items.items c.blank.result entry c.len-place.result c.push_within.ensures.items place;
    }
