use Rattle.std.proofs.Common.{rules, ◌-◌, length}
use Rattle.std.proofs.KnownBytes.{Consumes-trans}
use Rattle.console.proofs.Laws.Reading.{take_read}
use Rattle.console.proofs.reading.read_full.Goals as goal

pub loop-done-preserved : goal.loop-done-preserved
loop-done-preserved g c =
    let l = c.loop-done in
    record {
      count = search rules;
      same = search rules;
      read =
          rw (take_read l.done (length l.bytes - l.done) _ l.bytes c.read.new.buf l.invariant.count c.in-Ok.ensures.bound.0)
          (Consumes-trans _ _ _ _ _ l.invariant.read c.in-Ok.ensures.bytes.0);
    }
