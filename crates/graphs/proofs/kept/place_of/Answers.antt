use Rattle.std.proofs.Common.{◌≡◌, ◌+◌, ◌*◌, ◌<◌, ◌≤◌, sym, ap, ap₂, ◌∙◌, arith, rules}
use Rattle.graphs.specs.Masks.{members_below}
use Rattle.graphs.specs.Kept.{number_of}
use Rattle.graphs.specs.Stored.{pick_of}
use Rattle.graphs.specs.Fronts.{five_all, below_shorter, number_in, number_out}
use Rattle.graphs.specs.Improving.{number_below}
use Rattle.graphs.proofs.kept.place_of.Goals as goal

pub overflow_mul-place : goal.overflow_mul-place
overflow_mul-place c = let h = c.loop-u.invariant.3 in search rules

pub overflow_add-place : goal.overflow_add-place
overflow_add-place c = let h = c.loop-u.invariant.3 in search rules

pub loop-u-preserved-then-holds : goal.loop-u-preserved-then-holds
loop-u-preserved-then-holds c =
    let f = c.args.front in
    let xs = c.args.picks.now in
    let a = pick_of xs in
    let step = c.in-Some.ensures.steps in
    let inv = c.loop-u.invariant in
    let u = c.in-Some.u in
    let n = c.next.new.self.next in
    let e : u + 1 ≡ n = omega (arith, step.1, step.2) in
    let high : n ≤ c.args.v + 1 = omega (arith, step.0, step.2, inv.0) in
    let digit : c.from.result ≡ a u = c.from.ensures ∙ ap a c.number.ensures.value in
    let is : c.from.result + 5 * c.loop-u.place ≡ number_of (members_below f n) a =
    ap₂ (λ d m. d + 5 * m) digit (inv.2 ∙ ap (λ z. number_of (members_below f z) a) (sym step.1)) ∙ sym (number_in f u a (sym c.if-holds.ensures.value)) ∙ ap (λ z. number_of (members_below f z) a) e in
    let few = below_shorter f n (c.args.v + 1) high in
    let small : number_of (members_below f n) a < 125 = number_below (members_below f n) a (omega (arith, few, c.requires.0)) (five_all f n xs (λ y l b. c.requires.1 y (omega (arith, l, high)) b)) in
    (step.3 ∙ inv.0, omega (arith, high), is, omega (arith, is, small))

pub loop-u-preserved : goal.loop-u-preserved
loop-u-preserved c =
    let f = c.args.front in
    let a = pick_of c.args.picks.now in
    let step = c.in-Some.ensures.steps in
    let inv = c.loop-u.invariant in (
      step.3 ∙ inv.0,
      omega (arith, step.0, step.2, inv.0),
      inv.2 ∙ ap (λ n. number_of (members_below f n) a) (sym step.1) ∙ sym (number_out f c.in-Some.u a (sym c.if-holds.ensures.value))
          ∙ ap (λ n. number_of (members_below f n) a) (omega (arith, step.1, step.2)),
      inv.3,
    )

pub returns-clause-value : goal.returns-clause-value
returns-clause-value c =
    let inv = c.loop-u.invariant in
    let end : c.loop-u.u-iterator.next ≡ c.args.v + 1 = omega (arith, inv.0, inv.1, c.in-None.ensures.steps.0) in
    c.known.ensures ∙ inv.2 ∙ ap (λ n. number_of (members_below c.args.front n) (pick_of c.args.picks.now)) end
