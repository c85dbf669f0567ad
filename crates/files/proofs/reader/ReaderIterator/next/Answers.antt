use Rattle.std.proofs.Common.{length, sym, ap, arith}
use Rattle.files.proofs.Cuts.{at_end, at_record}
use Rattle.files.proofs.reader.ReaderIterator.next.Goals as goal

pub returns-in_err-first-clause-steps : goal.returns-in_err-first-clause-steps
returns-in_err-first-clause-steps c =
    let r = c.args.self.now in
    let e = at_end r.file.now r.offset (sym c.in_err-first.ensures.value) in
    rw c.from_residual.ensures (e, e)

pub returns-clause-steps : goal.returns-clause-steps
returns-clause-steps c =
    let r = c.args.self.now in
    at_record r.file.now r.offset _ _ _ (sym c.in_ok-first.ensures.value) c.size_of.ensures c.min-size.ensures

pub returns-clause-goes : goal.returns-clause-goes
returns-clause-goes c = record { on = λ x. (tt, tt, omega (arith, ap length (returns-clause-steps c))); keeps = tt; rests = λ x. tt }
