use Rattle.std.proofs.Common.{rules, length, refl}
use Rattle.std.proofs.lemmas.Iterator.{YieldsList-from_slice, YieldsList-from_zip}
use Rattle.std.proofs.lemmas.Iterator.Consumers.{YieldsList-from_enumerate, YieldsList-turn}
use Rattle.std.proofs.lemmas.List.{length_push}
use Rattle.sheets.proofs.Walk.{body, pair_at, fault_more, fault_here}
use Rattle.sheets.proofs.record.Record.test_all.Goals as goal

pub returns-in-Some-test : goal.returns-in-Some-test
returns-in-Some-test g c =
    let xs = c.args.fields.now in
    let bs = c.args.self.now.bytes.now in
    let it = c.into_iter-i-iterator.result in
    let e = YieldsList-from_enumerate {s = it} (YieldsList-from_zip {s = it.iter} (YieldsList-from_slice {s = it.iter.a} xs (cc)) (YieldsList-from_slice {s = it.iter.b} (body xs bs c.requires.fits) (cc))) (cc) in
    let t = YieldsList-turn e c.loop-i.yielded c.loop-i.i-iterator c.loop-i.yielded_by c.next.result c.next.new.self _ c.in-Some.is c.next.ensures.steps in
    let p = pair_at xs bs c.requires.fits (length c.loop-i.yielded) _ t.0 t.1 in
    λ by k.
    let r = k c.in-Some.field.now c.in-Some.byte.now c.test.result (search rules) c.test.ensures in
    let f = fault_here by c.args.self.now.widths.now xs bs (length c.loop-i.yielded) c.in-Some.field.now c.in-Some.byte.now p.0 p.2 p.3 _ r _ _ p.1 c.in-Some-test.is in
    rw (c.loop-i.invariant.walked by k, f) (rw c.at.ensures refl)

pub loop-i-preserved : goal.loop-i-preserved
loop-i-preserved g c = record {
  ready = search rules;
  ends = search rules;
  walked = let xs = c.args.fields.now in
      let bs = c.args.self.now.bytes.now in
      let it = c.into_iter-i-iterator.result in
      let e = YieldsList-from_enumerate {s = it} (YieldsList-from_zip {s = it.iter} (YieldsList-from_slice {s = it.iter.a} xs (cc)) (YieldsList-from_slice {s = it.iter.b} (body xs bs c.requires.fits) (cc))) (cc) in
      let t = YieldsList-turn e c.loop-i.yielded c.loop-i.i-iterator c.loop-i.yielded_by c.next.result c.next.new.self _ c.in-Some.is c.next.ensures.steps in
      let p = pair_at xs bs c.requires.fits (length c.loop-i.yielded) _ t.0 t.1 in
      λ by k.
      let r = k c.in-Some.field.now c.in-Some.byte.now c.test.result (search rules) c.test.ensures in
      let n = length_push c.loop-i.yielded (c.in-Some.i, (c.in-Some.field, c.in-Some.byte)) in
      rw (n, c.loop-i.invariant.walked by k) (fault_more by _ _ _ _ _ _ p.0 p.2 p.3 _ r c.in_default.is);
}
