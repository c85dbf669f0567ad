use Rattle.std.proofs.Common.{◌≡◌, ◌+◌, length, drop, slice_index}
use Rattle.sheets.specs.Records.{Test, TestsBy, first_fault}
use Rattle.sheets.proofs.record.Record.test_all.Given as goal

abbrev pub invariant-loop-i : goal.invariant-loop-i
invariant-loop-i g l = record {
  ready : (goal.iterator-loop-i g).can_next l.i-iterator;
  ends : (goal.iterator-loop-i g).is_finite l.i-iterator;
  walked : (by : Test) → TestsBy (goal.F-post g l.test) by l.self.widths.now (slice_index l.self.bytes.now 1)
      → first_fault by l.self.widths.now 1 l.fields l.self.bytes.now ≡ first_fault by l.self.widths.now (length l.yielded + 1) (drop (length l.yielded) l.fields) l.self.bytes.now;
}
