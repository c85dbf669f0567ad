use Rattle.std.proofs.Common.{◌≡◌, ◌+◌, ◌<◌, sym, ap, ◌∙◌, ap₂, subst, arith}
use Rattle.graphs.specs.Masks.{members_below}
use Rattle.graphs.specs.Model.{beside, cost}
use Rattle.graphs.specs.Stored.{stored, model_at, pick_of}
use Rattle.graphs.specs.Taken.{HasChoice}
use Rattle.graphs.specs.Reading.{choice_five, vector_read, entry_read}
use Rattle.graphs.specs.Walk.{beside_in, beside_out}
use Rattle.graphs.proofs.priced.Priced.beside.Goals as goal

pub known-j-requires : goal.known-j-requires
known-j-requires g c =
    let s = c.args.self.now in
    let step = c.in-Some.ensures.steps in
    let inv = c.loop-u.invariant in
    let within = c.requires.1 c.in-Some.u (omega (arith, step.0, step.1, inv.0)) (sym c.if-has.ensures.value) in
    let five = choice_five g.P.Price s.graph s.prices.now c.in-Some.u (pick_of c.args.taken.now c.in-Some.u) within in
    (omega arith, subst (λ n. n < 5) (sym (c.from.ensures ∙ ap (pick_of c.args.taken.now) c.number.ensures.value)) five)

pub loop-u-preserved-then-has : goal.loop-u-preserved-then-has
loop-u-preserved-then-has g c =
    let s = c.args.self.now in
    let k = g.P.Price in
    let step = c.in-Some.ensures.steps in
    let inv = c.loop-u.invariant in
    let u = c.in-Some.u in
    let a = pick_of c.args.taken.now in
    let t = (model_at k s).entries in
    let e = sym c.if-has.ensures.value in
    let low : u < c.args.v = omega (arith, step.0, step.1, inv.0) in
    let j = c.known-j.ensures ∙ c.from.ensures ∙ ap a c.number.ensures.value in
    let there : HasChoice s.graph u (a u) = record { variable = c.if-has.ensures.variable; present = e; within = c.requires.1 u low e } in
    let more : u + 1 ≡ c.next.new.self.next = omega (arith, step.1, step.2) in (
      step.3 ∙ inv.0,
      omega (arith, step.0, step.2, inv.0),
      c.add-price.ensures
          ∙ ap₂ k.sum
          (c.entry.ensures ∙ ap (cost (stored k s.prices.now) c.args.v u c.args.i) j ∙ entry_read k s.graph s.prices.now c.args.v u c.args.i (a u) c.requires.0 there (λ q. omega (arith, low)))
          (inv.2 ∙ ap (λ n. beside k t c.args.v (members_below s.graph.present n) c.args.i a) (sym step.1))
          ∙ sym (beside_in k t s.graph.present c.args.v u c.args.i a e)
          ∙ ap (λ n. beside k t c.args.v (members_below s.graph.present n) c.args.i a) more,
    )

pub loop-u-init : goal.loop-u-init
loop-u-init g c =
    let s = c.args.self.now in
    let made = c.into_iter-u-iterator.ensures.into_iter_gives in
    let from : c.into_iter-u-iterator.result.next ≡ 0 = ap (λ r. r.next) made ∙ c.before-u-items.ensures.next in (
      ap (λ r. r.end) made ∙ c.before-u-items.ensures.end,
      omega (arith, from),
      c.vector-price.ensures ∙ vector_read g.P.Price s.graph s.prices.now c.args.v c.args.i c.requires.0
          ∙ sym (ap (λ n. beside g.P.Price (model_at g.P.Price s).entries c.args.v (members_below s.graph.present n) c.args.i (pick_of c.args.taken.now)) from),
    )

pub loop-u-preserved : goal.loop-u-preserved
loop-u-preserved g c =
    let s = c.args.self.now in
    let step = c.in-Some.ensures.steps in
    let inv = c.loop-u.invariant in
    let a = pick_of c.args.taken.now in
    let t = (model_at g.P.Price s).entries in (
      step.3 ∙ inv.0,
      omega (arith, step.0, step.2, inv.0),
      inv.2 ∙ ap (λ n. beside g.P.Price t c.args.v (members_below s.graph.present n) c.args.i a) (sym step.1)
          ∙ sym (beside_out g.P.Price t s.graph.present c.args.v c.in-Some.u c.args.i a (sym c.if-has.ensures.value))
          ∙ ap (λ n. beside g.P.Price t c.args.v (members_below s.graph.present n) c.args.i a) (omega (arith, step.1, step.2)),
    )
