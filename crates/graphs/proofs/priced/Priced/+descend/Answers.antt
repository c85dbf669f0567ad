use Rattle.std.proofs.Common.{◌≡◌, ◌+◌, ◌<◌, true, length, slice_set, sym, ap, ◌∙◌, arith}
use Rattle.graphs.specs.Masks.{has, members_from, members_below}
use Rattle.graphs.specs.Model.{beside}
use Rattle.graphs.specs.Search.{search, tried, each}
use Rattle.graphs.specs.Stored.{model_at, pick_of}
use Rattle.graphs.specs.Holding.{found_in}
use Rattle.graphs.specs.Reading.{count_read}
use Rattle.graphs.proofs.Stepping.{each_more, search_done, search_in, search_out, tried_deeper, tried_passed}
use Rattle.graphs.proofs.priced.Priced.+descend.Goals as goal

pub returns-in_default : goal.returns-in_default
returns-in_default g t c =
    let s = c.args.self.now in
    let end : c.args.from ≡ 12 = omega (arith, c.requires.0, c.in_default.ensures) in
    sym (search_done g.P.Price (model_at g.P.Price s) s.graph.present c.args.from (pick_of c.args.taken) c.args.price (found_in c.args.best.now) end)

pub returns-then-not-has : goal.returns-then-not-has
returns-then-not-has g t c =
    let s = c.args.self.now in
    let off = ap (has s.graph.present) (sym c.in-Some.ensures.1) ∙ sym c.if-not-has.ensures.value in
    c.descend.ensures
    ∙ sym (search_out g.P.Price (model_at g.P.Price s) s.graph.present c.args.from (pick_of c.args.taken) c.args.price (found_in c.args.best.now) c.in-Some.ensures.0 off)

pub loop-i-preserved-then-not-at_most : goal.loop-i-preserved-then-not-at_most
loop-i-preserved-then-not-at_most g t c =
    let k = g.P.Price in
    let s = c.args.self.now in
    let md = model_at k s in
    let p = s.graph.present in
    let v = c.args.from in
    let i = c.in-Some-i.i in
    let xs = c.args.taken in
    let step = c.in-Some-i.ensures.steps in
    let inv = c.loop-i.invariant in
    let here : has p v ≡ true = ap (has p) (sym c.in-Some.ensures.1) ∙ sym c.if-not-has.ensures.value in
    let f = tried k md v (members_from p (v + 1)) (members_below p v) (pick_of xs) c.args.price in
    let is = c.add-next.ensures ∙ ap (λ x. k.sum x c.args.price) (c.beside.ensures ∙ ap (λ n. beside k md.entries n (members_below p n) i (pick_of xs)) c.in-Some.ensures.1) in
    let long : v < length xs = omega (arith, c.in-Some.ensures.0) in
    let n : c.number.result ≡ i = c.number.ensures.value in
    let more : c.loop-i.i-iterator.next + 1 ≡ c.next.new.self.next = omega (arith, step.2) in (
      step.3 ∙ inv.0,
      omega (arith, step.0, step.2, step.3),
      c.descend-then-not-at_most.ensures
          ∙ ap (λ m. search k md (members_from p (v + 1)) (members_below p (v + 1)) (pick_of (slice_set xs v m)) c.add-next.result (found_in c.loop-i.best)) n
          ∙ tried_deeper k md p v i xs c.args.price c.add-next.result is (found_in c.loop-i.best) long here (sym c.if-not-at_most.ensures)
          ∙ ap (λ m. f m (found_in c.loop-i.best)) step.1
          ∙ ap (f c.loop-i.i-iterator.next) inv.2 ∙ sym (each_more f c.loop-i.i-iterator.next (found_in c.args.best.now))
          ∙ ap (λ m. each f m (found_in c.args.best.now)) more,
    )

pub loop-i-preserved : goal.loop-i-preserved
loop-i-preserved g t c =
    let k = g.P.Price in
    let s = c.args.self.now in
    let md = model_at k s in
    let p = s.graph.present in
    let v = c.args.from in
    let i = c.in-Some-i.i in
    let xs = c.args.taken in
    let step = c.in-Some-i.ensures.steps in
    let inv = c.loop-i.invariant in
    let f = tried k md v (members_from p (v + 1)) (members_below p v) (pick_of xs) c.args.price in
    let is = c.add-next.ensures ∙ ap (λ x. k.sum x c.args.price) (c.beside.ensures ∙ ap (λ n. beside k md.entries n (members_below p n) i (pick_of xs)) c.in-Some.ensures.1) in
    let more : c.loop-i.i-iterator.next + 1 ≡ c.next.new.self.next = omega (arith, step.2) in (
      step.3 ∙ inv.0,
      omega (arith, step.0, step.2, step.3),
      tried_passed k md p v i xs c.args.price c.add-next.result is (found_in c.loop-i.best) (sym c.if-not-at_most.ensures)
          ∙ ap (λ m. f m (found_in c.loop-i.best)) step.1
          ∙ ap (f c.loop-i.i-iterator.next) inv.2 ∙ sym (each_more f c.loop-i.i-iterator.next (found_in c.args.best.now))
          ∙ ap (λ m. each f m (found_in c.args.best.now)) more,
    )

pub returns : goal.returns
returns g t c =
    let k = g.P.Price in
    let s = c.args.self.now in
    let md = model_at k s in
    let p = s.graph.present in
    let v = c.args.from in
    let inv = c.loop-i.invariant in
    let done = c.in-None.ensures.steps in
    let here : has p v ≡ true = ap (has p) (sym c.in-Some.ensures.1) ∙ sym c.if-not-has.ensures.value in
    let f = tried k md v (members_from p (v + 1)) (members_below p v) (pick_of c.args.taken) c.args.price in
    let count = count_read k s.graph s.prices.now v c.in-Some.ensures.0 here in
    let e : c.loop-i.i-iterator.next ≡ md.count v = omega (arith, inv.0, inv.1, done.0) ∙ sym count in
    inv.2 ∙ ap (λ m. each f m (found_in c.args.best.now)) e
    ∙ sym (search_in k md p v (pick_of c.args.taken) c.args.price (found_in c.args.best.now) c.in-Some.ensures.0 here)
