use Rattle.std.proofs.Common.{◌≡◌, ℕ, ◌+◌, ◌<◌, false, set, length, sym, ap, ap₂, ◌∙◌, subst, arith}
use Rattle.graphs.specs.Masks.{members_below}
use Rattle.graphs.specs.Model.{beside, put}
use Rattle.graphs.specs.Stored.{model_at, pick_of}
use Rattle.graphs.specs.Kept.{prices_in, picks_in, KeptAt, Before}
use Rattle.graphs.specs.Reading.{count_read}
use Rattle.graphs.specs.Walk.{pick_set}
use Rattle.graphs.specs.Turning.{turn_ends, turn_skips, turn_more, picks_taken, set_small, improves}
use Rattle.graphs.proofs.priced.Priced.extend.Goals as goal

pub returns-then-at_most : goal.returns-then-at_most
returns-then-at_most g c =
    let k = g.P.Price in
    let s = c.args.self.now in
    let v = c.args.turn.now.variable in
    let fr = c.args.turn.now.front in
    let n = c.requires.next in
    let t = prices_in k c.args.old.now.prices.now in
    let l = picks_in c.args.old.now.picks in
    let j = c.args.j in
    let is = c.price-lowest.ensures in
    let top : t j ≡ k.greatest = k.laws.no_ties _ _ (k.laws.greatest _) (ap₂ k.at_most (sym c.top.ensures) (sym is) ∙ sym c.if-at_most.ensures) in
    turn_skips k s.graph s.prices.now v fr n t l c.requires.before j (prices_in k c.args.new.now.prices.now) (picks_in c.args.new.now.picks) top c.requires.after

pub beside-requires : goal.beside-requires
beside-requires g c =
    let k = g.P.Price in
    let s = c.args.self.now in
    let v = c.args.turn.now.variable in
    let fr = c.args.turn.now.front in
    let n = c.requires.next in
    let t = prices_in k c.args.old.now.prices.now in
    let l = picks_in c.args.old.now.picks in
    let j = c.args.j in
    let kept = c.price-lowest.ensures in
    let used : k.at_most k.greatest (t j) ≡ false = ap₂ k.at_most (sym c.top.ensures) (sym c.price-lowest.ensures) ∙ sym c.if-at_most.ensures in
    let low = c.chosen-chosen.ensures.place in
    let step = c.in-Some.ensures.steps in
    let inv = c.loop-i.invariant in
    let i = c.in-Some.i in
    let hi : i < (model_at k s).count v = omega (arith, step.0, step.1, inv.0, count_read k s.graph s.prices.now v n.variable n.present) in
    let xs = c.chosen-chosen.result in
    let lj = c.chosen-chosen.ensures.picks in (
      record { variable = n.variable; present = n.present; within = omega (arith, step.0, step.1, inv.0) },
      picks_taken k s.graph s.prices.now v fr n t l c.requires.before j i low used hi xs lj,
    )

pub place_of-place-requires : goal.place_of-place-requires
place_of-place-requires g c =
    let k = g.P.Price in
    let s = c.args.self.now in
    let v = c.args.turn.now.variable in
    let fr = c.args.turn.now.front in
    let n = c.requires.next in
    let t = prices_in k c.args.old.now.prices.now in
    let l = picks_in c.args.old.now.picks in
    let j = c.args.j in
    let kept = c.price-lowest.ensures in
    let used : k.at_most k.greatest (t j) ≡ false = ap₂ k.at_most (sym c.top.ensures) (sym c.price-lowest.ensures) ∙ sym c.if-at_most.ensures in
    let low = c.chosen-chosen.ensures.place in
    let step = c.in-Some.ensures.steps in
    let inv = c.loop-i.invariant in
    let i = c.in-Some.i in
    let hi : i < (model_at k s).count v = omega (arith, step.0, step.1, inv.0, count_read k s.graph s.prices.now v n.variable n.present) in
    let xs = c.chosen-chosen.result in
    let lj = c.chosen-chosen.ensures.picks in
    let at = c.number-in-loop-i.result in
    let long : v < length xs = omega (arith, n.variable, c.chosen-chosen.ensures.twelve) in
    let is : pick_of (set xs at c.number.result) ≡ put (l j) v i =
    ap₂ (λ a b. pick_of (set xs a b)) c.number-in-loop-i.ensures.value c.number.ensures.value ∙ pick_set xs v i long ∙ ap (λ (z : ℕ → ℕ). put z v i) lj in
    (n.narrow, set_small k s.graph s.prices.now v fr n t l c.requires.before j i low used hi (set xs at c.number.result) is)

pub loop-i-preserved : goal.loop-i-preserved
loop-i-preserved g c =
    let k = g.P.Price in
    let s = c.args.self.now in
    let v = c.args.turn.now.variable in
    let fr = c.args.turn.now.front in
    let n = c.requires.next in
    let t = prices_in k c.args.old.now.prices.now in
    let l = picks_in c.args.old.now.picks in
    let j = c.args.j in
    let kept = c.price-lowest.ensures in
    let used : k.at_most k.greatest (t j) ≡ false = ap₂ k.at_most (sym c.top.ensures) (sym c.price-lowest.ensures) ∙ sym c.if-at_most.ensures in
    let low = c.chosen-chosen.ensures.place in
    let step = c.in-Some.ensures.steps in
    let inv = c.loop-i.invariant in
    let i = c.in-Some.i in
    let hi : i < (model_at k s).count v = omega (arith, step.0, step.1, inv.0, count_read k s.graph s.prices.now v n.variable n.present) in
    let xs = c.chosen-chosen.result in
    let lj = c.chosen-chosen.ensures.picks in
    let at = c.number-in-loop-i.result in
    let set-xs = set xs at c.number.result in
    let long : v < length xs = omega (arith, n.variable, c.chosen-chosen.ensures.twelve) in
    let is : pick_of set-xs ≡ put (l j) v i =
    ap₂ (λ a b. pick_of (set xs a b)) c.number-in-loop-i.ensures.value c.number.ensures.value ∙ pick_set xs v i long ∙ ap (λ (z : ℕ → ℕ). put z v i) lj in
    let price = c.add-price.ensures ∙ ap₂ k.sum (c.beside.ensures ∙ ap (beside k (model_at k s).entries v (members_below s.graph.present v) i) lj) kept in
    let before = c.loop-i.new in
    let after = c.improve.new.self in
    let way = improves k before.prices.now after.prices.now before.picks after.picks c.place_of-place.result c.add-price.result set-xs (omega (arith, c.place_of-place.ensures.within, before.room)) (omega (arith, c.place_of-place.ensures.within, before.beside)) c.improve.ensures.prices c.improve.ensures.picks in
    let more : i + 1 ≡ c.next.new.self.next = omega (arith, step.1, step.2) in (
      step.3 ∙ inv.0,
      omega (arith, step.0, step.2, step.3),
      subst (λ m. KeptAt k s.graph s.prices.now (v + 1) (prices_in k after.prices.now) (picks_in after.picks) (Before k s.graph s.prices.now v j m)) more
          (turn_more k s.graph s.prices.now v fr n t l c.requires.before j i low used hi (prices_in k before.prices.now) (picks_in before.picks)
          (subst (λ m. KeptAt k s.graph s.prices.now (v + 1) (prices_in k before.prices.now) (picks_in before.picks) (Before k s.graph s.prices.now v j m)) (sym step.1) inv.2)
          c.add-price.result price (pick_of set-xs) is c.place_of-place.result c.place_of-place.ensures.value (prices_in k after.prices.now) (picks_in after.picks) way),
    )

pub returns : goal.returns
returns g c =
    let k = g.P.Price in
    let s = c.args.self.now in
    let v = c.args.turn.now.variable in
    let fr = c.args.turn.now.front in
    let n = c.requires.next in
    let t = prices_in k c.args.old.now.prices.now in
    let l = picks_in c.args.old.now.picks in
    let j = c.args.j in
    let inv = c.loop-i.invariant in
    let end : c.loop-i.i-iterator.next ≡ (model_at k s).count v = omega (arith, inv.0, inv.1, c.in-None.ensures.steps.0) ∙ sym (count_read k s.graph s.prices.now v n.variable n.present) in
    turn_ends k s.graph s.prices.now v fr n t l c.requires.before j c.loop-i.i-iterator.next (prices_in k c.loop-i.new.prices.now) (picks_in c.loop-i.new.picks) end inv.2
