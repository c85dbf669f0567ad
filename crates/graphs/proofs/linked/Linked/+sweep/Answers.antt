use Rattle.std.proofs.Common.{◌≡◌, ◌+◌, ◌≤◌, true, length, sym, ap, ◌∙◌, subst, arith}
use Rattle.graphs.specs.Masks.{has, members_below}
use Rattle.graphs.specs.Stored.{pick_of}
use Rattle.graphs.specs.Kept.{prices_in, picks_in, TableAt, Every, Swept}
use Rattle.graphs.specs.Fronts.{front_members}
use Rattle.graphs.specs.Ending.{ended, skip_front, skip_kept, narrow_front}
use Rattle.graphs.proofs.linked.Linked.+sweep.Goals as goal

pub returns-in_default : goal.returns-in_default
returns-in_default g t c =
    let k = g.P.Price in
    let s = c.args.self.now.priced in
    let tb = prices_in k c.args.old.now.prices.now in
    let l = picks_in c.args.old.now.picks in
    let end : c.args.from ≡ 12 = omega (arith, c.requires.end, c.in_default.ensures) in
    let w = ended k s.graph s.prices.now c.args.from tb l end c.requires.before in
    let p = sym (c.kept.ensures.price ∙ ap tb c.known.ensures) in
    let a = sym (c.kept.ensures.picks ∙ ap l c.known.ensures) in
    subst (λ z. Swept k s.graph s.prices.now z (pick_of c.kept.result.picks)) p (subst (λ z. Swept k s.graph s.prices.now (tb 0) z) a w)

pub sweep-requires : goal.sweep-requires
sweep-requires g t c κs within =
    let k = g.P.Price in
    let s = c.args.self.now.priced in
    let low = c.in-Some.ensures.0 in
    let off = ap (has s.graph.present) (sym c.in-Some.ensures.1) ∙ sym c.if-not-has.ensures.value in
    let slim = subst (λ f. length f ≤ 3) (sym (skip_front k s.graph s.prices.now c.args.from low off)) c.requires.slim in
    (omega arith, (within, (omega (arith, low), (c.requires.narrow, (slim, skip_kept k s.graph s.prices.now c.args.from _ _ low off c.requires.before)))))

pub advance-requires-clause-next : goal.advance-requires-clause-next
advance-requires-clause-next g t c =
    let k = g.P.Price in
    let s = c.args.self.now.priced in
    let v = c.in-Some.v in
    let here = c.if-not-has.ensures in
    let m = ap (λ x. members_below x (v + 1)) c.frontier.ensures ∙ front_members k s.graph s.prices.now v here.variable in
    record { variable = here.variable; present = sym here.value; members = m; narrow = subst (λ f. length f ≤ 3) (sym m) (narrow_front k s.graph s.prices.now c.requires.narrow v here.variable (sym here.value)) }

pub advance-requires-clause-before : goal.advance-requires-clause-before
advance-requires-clause-before g t c = subst (λ n. TableAt g.P.Price c.args.self.now.priced n c.args.old.now Every) (sym c.in-Some.ensures.1) c.requires.before

pub sweep-requires-2 : goal.sweep-requires-2
sweep-requires-2 g t c κs within =
    let k = g.P.Price in
    let s = c.args.self.now.priced in
    let low = c.in-Some.ensures.0 in
    let here : has s.graph.present c.args.from ≡ true = ap (has s.graph.present) (sym c.in-Some.ensures.1) ∙ sym c.if-not-has.ensures.value in
    let next = subst (λ n. TableAt k s (n + 1) c.advance.new.new Every) c.in-Some.ensures.1 c.advance.ensures in
    (omega arith, (within, (omega (arith, low), (c.requires.narrow, (narrow_front k s.graph s.prices.now c.requires.narrow c.args.from low here, next)))))
