use Rattle.std.proofs.Common.{rules, arith, refl, ◌++◌, take, length-append}
use Rattle.std.proofs.KnownBytes.{Consumes-trans}
use Rattle.gp_stream.specs.Source.{ReadsTooMuch, max_bytes}
use Rattle.gp_stream.proofs.SourceLemmas.{too_long_known}
use Rattle.gp_stream.proofs.reading.read_all.Goals as goal

pub returns-then-count-len : goal.returns-then-count-len
returns-then-count-len g c =
    let many = length-append c.reads.bytes.items (take c.in-Ok.count c.read.new.buffer) in
    let much : ReadsTooMuch max_bytes c.args.source.now c.read.new.self = record {
      bytes = c.reads.bytes.items ++ take c.in-Ok.count c.read.new.buffer;
      consumed = Consumes-trans _ _ _ _ _ c.reads.invariant.consumed c.in-Ok.ensures.bytes.0;
      more = omega (arith, many, c.in-Ok.ensures.bound.1, c.if-count-len.true, c.reads.invariant.short, c.len.ensures);
      unfailed = search rules;
    } in record {
      whole = search rules;
      short = search rules;
      memory = search rules;
      too_long = λ _. much;
      read = search rules;
      failed = search rules;
      refused = search rules;
      counted = search rules;
      exact = λ input was _. (λ _. refl, λ _. too_long_known max_bytes _ _ input much was.known);
    }

pub returns-in_err-extend_from_slice-in-Ok : goal.returns-in_err-extend_from_slice-in-Ok
returns-in_err-extend_from_slice-in-Ok g c =
    let many = length-append c.reads.bytes.items (take c.in-Ok.count c.read.new.buffer) in record {
      whole = search rules;
      short = search rules;
      memory = λ _. record {
        bytes = c.reads.bytes.items ++ take c.in-Ok.count c.read.new.buffer;
        consumed = Consumes-trans _ _ _ _ _ c.reads.invariant.consumed c.in-Ok.ensures.bytes.0;
        some = omega (arith, many, c.in-Ok.ensures.bound.1, c.in-Ok.count-test);
        few = omega (arith, many, c.in-Ok.ensures.bound.1, c.if-count-len.false, c.reads.invariant.short, c.len.ensures);
        unfailed = search rules;
      };
      too_long = search rules;
      read = search rules;
      failed = search rules;
      refused = search rules;
      counted = search rules;
      exact = search rules;
    }
