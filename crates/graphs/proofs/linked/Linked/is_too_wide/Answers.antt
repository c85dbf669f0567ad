use Rattle.std.proofs.Common.{◌&&◌, count_ones, nat_lt, sym, ap, ◌∙◌}
use Rattle.graphs.specs.Frontier.{frontier}
use Rattle.graphs.specs.Reading.{mem_members}
use Rattle.graphs.specs.Stored.{model_at}
use Rattle.graphs.proofs.linked.Linked.is_too_wide.Goals as goal

pub returns-then-has : goal.returns-then-has
returns-then-has g c =
    let md = model_at g.P.Price c.args.self.now.priced in
    let here = c.if-has.ensures in
    ap (λ n. nat_lt 3 (count_ones n)) c.frontier.ensures
    ∙ ap (λ b. b && nat_lt 3 (count_ones (frontier g.P.Price md c.args.v))) (here.value ∙ sym (mem_members c.args.self.now.priced.graph.present c.args.v here.variable))

pub returns-else-has : goal.returns-else-has
returns-else-has g c =
    let md = model_at g.P.Price c.args.self.now.priced in
    let here = c.if-has.ensures in
    c.if-has.false ∙ ap (λ b. b && nat_lt 3 (count_ones (frontier g.P.Price md c.args.v))) (here.value ∙ sym (mem_members c.args.self.now.priced.graph.present c.args.v here.variable))
