use Rattle.std.proofs.Common.{ℕ, rules, tests, ◌∙◌}
use Rattle.graphs.proofs.Chains.{any_of_run, any_run}
use Rattle.graphs.specs.Masks.{some_below}
use Rattle.graphs.specs.Stored.{stored, count_at}
use Rattle.graphs.specs.Edges.{priced_in}
use Rattle.graphs.proofs.priced.Priced.are_linked.Goals as goal

pub returns : goal.returns
returns g c =
    let s = c.args.self.now in
    let t = λ (i : ℕ). some_below (count_at s.graph c.args.v) (priced_in g.P.Price (stored g.P.Price s.prices.now) c.args.u c.args.v i) in
    any_of_run (λ r. r.next) (λ r. r.end) t c.choices.result c.any.new.self _ c.any.result _ _ c.choices.ensures.next c.choices.ensures.end c.any.ensures.ran (λ x b q k. search (rules, tests))
    ∙ any_run t (count_at s.graph c.args.u)
