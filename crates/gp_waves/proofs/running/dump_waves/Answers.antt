use Rattle.std.proofs.Common.{rules}
use Rattle.gp_waves.proofs.OutcomeLemmas.{IsOpened, all_read, all_to, dumped_as, line_fault_at, opens, unread_at, unwritten_as, unwritten_at}
use Rattle.gp_waves.proofs.running.dump_waves.Goals as goal

pub write_rest-requires : goal.write_rest-requires
write_rest-requires g c =
    all_to c.args.options.now.frames c.args.options.now.mask _ _ _ _ c.run_lines.new.sink c.in-Ok.field-0 c.in_ok-dumper.dumper c.run_lines.new.work (opens _ _ _ c.in_ok-dumper.ensures) c.in-Ok.ensures.ok

pub write_rest-requires-in-Err-Read : goal.write_rest-requires-in-Err-Read
write_rest-requires-in-Err-Read g c =
    all_read c.args.options.now.frames c.args.options.now.mask _ _ _ _ c.run_lines.new.sink c.in-Err-Read.field-0 c.in_ok-dumper.dumper c.run_lines.new.work c.in-Err-Read.field-0-is
    (opens _ _ _ c.in_ok-dumper.ensures) c.in-Err-Read.ensures

pub returns-in_err-write_rest-in-Ok : goal.returns-in_err-write_rest-in-Ok
returns-in_err-write_rest-in-Ok g c =
    let o : IsOpened c.args.options.now.frames c.args.options.now.mask c.in_ok-dumper.dumper = opens _ _ _ c.in_ok-dumper.ensures in
    unwritten_as _ _ _ _ _ _ _ c.in-Ok.field-0 c.in_ok-dumper.dumper c.run_lines.new.work c.write_rest.new.dumper c.in_err-write_rest-in-Ok.field-0.0 _ o c.in-Ok.ensures.ok
    c.in_err-write_rest-in-Ok.ensures (search rules)

pub returns-in-Ok : goal.returns-in-Ok
returns-in-Ok g c =
    let o : IsOpened c.args.options.now.frames c.args.options.now.mask c.in_ok-dumper.dumper = opens _ _ _ c.in_ok-dumper.ensures in
    dumped_as _ _ _ _ _ _ _ c.in-Ok.field-0 c.in_ok-dumper.dumper c.run_lines.new.work c.write_rest.new.dumper _ o c.in-Ok.ensures.ok c.in_ok-write_rest-in-Ok.ensures c.finding.ensures

pub returns-in_err-write_rest-in-Err-Read : goal.returns-in_err-write_rest-in-Err-Read
returns-in_err-write_rest-in-Err-Read g c =
    let o : IsOpened c.args.options.now.frames c.args.options.now.mask c.in_ok-dumper.dumper = opens _ _ _ c.in_ok-dumper.ensures in
    unwritten_at _ _ _ _ _ _ _ c.in-Err-Read.field-0 c.in_ok-dumper.dumper c.run_lines.new.work c.write_rest-in-Err-Read.new.dumper c.in_err-write_rest-in-Err-Read.field-0.0 _
    c.in-Err-Read.field-0-is o c.in-Err-Read.ensures c.in_err-write_rest-in-Err-Read.ensures (search rules)

pub returns-in-Err-Read : goal.returns-in-Err-Read
returns-in-Err-Read g c =
    let o : IsOpened c.args.options.now.frames c.args.options.now.mask c.in_ok-dumper.dumper = opens _ _ _ c.in_ok-dumper.ensures in
    unread_at c.args.options.now.frames _ _ _ _ _ _ c.in-Err-Read.field-0 c.in_ok-dumper.dumper c.run_lines.new.work c.write_rest-in-Err-Read.new.dumper c.in-Err-Read.field-0-is o c.in-Err-Read.ensures
    c.in_ok-write_rest-in-Err-Read.ensures

pub returns : goal.returns
returns g c =
    let o : IsOpened c.args.options.now.frames c.args.options.now.mask c.in_ok-dumper.dumper = opens _ _ _ c.in_ok-dumper.ensures in
    line_fault_at c.args.options.now.frames _ _ _ _ _ c.in-Err-Line.field-0 c.in-Err-Line.fault c.in_ok-dumper.dumper c.run_lines.new.work c.in-Err-Line.field-0-is o c.in-Err-Line.ensures
