use Rattle.std.proofs.Common.{◌<◌, ◌≤◌, get_or, sym, ap, ◌∙◌, subst, arith}
use Rattle.std.proofs.lemmas.List.{get_or_default}
use Rattle.graphs.specs.Twelve.{count_fits}
use Rattle.graphs.proofs.graph.Graph.count.Goals as goal

pub returns : goal.returns
returns c =
    let xs = c.args.self.now.counts in
    let b = count_fits xs c.args.v c.args.self.now.counted in
    let e = c.from.ensures ∙ get_or_default xs c.number.result 0 1 (omega (arith, c.number.ensures.within)) ∙ ap (λ n. get_or xs n 1) c.number.ensures.value in
    record { value = e; some = subst (λ n. 0 < n) (sym e) b.0; few = subst (λ n. n ≤ 5) (sym e) b.1 }
