use Rattle.std.proofs.Common.{◌≡◌, ◌+◌, ◌<◌, sym, ap, ◌∙◌, ap₂, subst, arith}
use Rattle.graphs.specs.Masks.{members_below}
use Rattle.graphs.specs.Model.{beside, sum_over}
use Rattle.graphs.specs.Stored.{model_at, pick_of}
use Rattle.graphs.specs.Ending.{sum_below}
use Rattle.graphs.specs.Reading.{choice_five}
use Rattle.graphs.specs.Walk.{below_in}
use Rattle.graphs.proofs.priced.Priced.summed.Goals as goal

pub known-i-requires : goal.known-i-requires
known-i-requires g c =
    let s = c.args.self.now in
    let step = c.in-Some.ensures.steps in
    let inv = c.loop-v.invariant in
    let within = c.requires c.in-Some.v (omega (arith, step.0, step.1, inv.0)) (sym c.if-has.ensures.value) in
    let five = choice_five g.P.Price s.graph s.prices.now c.in-Some.v (pick_of c.args.picks.now c.in-Some.v) within in
    (omega arith, subst (λ n. n < 5) (sym (c.from.ensures ∙ ap (pick_of c.args.picks.now) c.number.ensures.value)) five)

pub loop-v-preserved-then-has : goal.loop-v-preserved-then-has
loop-v-preserved-then-has g c =
    let s = c.args.self.now in
    let k = g.P.Price in
    let step = c.in-Some.ensures.steps in
    let inv = c.loop-v.invariant in
    let v = c.in-Some.v in
    let a = pick_of c.args.picks.now in
    let es = (model_at k s).entries in
    let i = c.known-i.ensures ∙ c.from.ensures ∙ ap a c.number.ensures.value in
    let more : v + 1 ≡ c.next.new.self.next = omega (arith, step.1, step.2) in (
      step.3 ∙ inv.0,
      omega (arith, step.0, step.2, inv.0),
      c.add-price.ensures
          ∙ ap₂ k.sum
          (c.beside.ensures ∙ ap (λ n. beside k es v (members_below s.graph.present v) n a) i)
          (inv.2 ∙ ap (λ n. sum_over k es (members_below s.graph.present n) a) (sym step.1))
          ∙ sym (ap (λ l. sum_over k es l a) (below_in s.graph.present v (sym c.if-has.ensures.value)))
          ∙ ap (λ n. sum_over k es (members_below s.graph.present n) a) more,
    )

pub returns : goal.returns
returns g c =
    let s = c.args.self.now in
    let inv = c.loop-v.invariant in
    let done = c.in-None.ensures.steps in
    let a = pick_of c.args.picks.now in
    let end : c.loop-v.v-iterator.next ≡ 12 = omega (arith, inv.0, inv.1, done.0) in
    inv.2 ∙ ap (λ n. sum_over g.P.Price (model_at g.P.Price s).entries (members_below s.graph.present n) a) end
    ∙ sum_below g.P.Price s.graph s.prices.now a
