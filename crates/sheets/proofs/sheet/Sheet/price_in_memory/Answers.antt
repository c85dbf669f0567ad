use Rattle.std.proofs.Common.{sym, ap, ◌∙◌}
use Rattle.sheets.specs.Placement.{price, everything_in_memory}
use Rattle.sheets.proofs.Totals.{price_more, price_all}
use Rattle.sheets.proofs.sheet.Sheet.price_in_memory.Goals as goal

pub loop-line-preserved : goal.loop-line-preserved
loop-line-preserved g c =
    let k = g.P.Price in
    sym (price_more k everything_in_memory _ _ _ _ c.loop-line-test.true _ _ c.line_in_memory.ensures c.add-total.ensures) ∙ c.loop-line.invariant

pub returns : goal.returns
returns g c =
    let k = g.P.Price in
    sym (price_all k everything_in_memory _ _ _ c.loop-line-test.false) ∙ c.loop-line.invariant ∙ ap (λ ls. price k ls everything_in_memory) c.lines-line-items.ensures.value
