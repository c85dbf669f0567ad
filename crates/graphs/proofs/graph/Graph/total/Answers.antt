use Rattle.std.proofs.Common.{ltb, length, take, Some, sym, ap, ap₂, ◌∙◌, subst}
use Rattle.std.proofs.lemmas.Bool.{cond-true, cond-false, le-ltb}
use Rattle.graphs.specs.Asked.{assigns}
use Rattle.graphs.specs.Model.{total}
use Rattle.graphs.specs.Stored.{model_in, model_of, pick_of}
use Rattle.graphs.specs.Taken.{Taken}
use Rattle.graphs.proofs.Asking.{assigns_is, all_taken, lowest_stands, unread}
use Rattle.graphs.proofs.graph.Graph.total.Goals as goal

pub returns-then-not-is_assignment-clause-value : goal.returns-then-not-is_assignment-clause-value
returns-then-not-is_assignment-clause-value g c =
    let m = c.args.memory.now in
    let xs = c.args.picks.now in
    let md = model_of g.P.Price c.args.self.now m in
    let off = assigns_is g.P.Price c.args.self.now (take 1710 m) xs ∙ sym c.if-not-is_assignment.ensures in
    sym (cond-false (ltb (length m) 1710) _ _ (le-ltb (length m) 1710 c.in_ok-priced.ensures.0) ∙ cond-false (assigns md (pick_of xs)) _ _ off)

pub summed-requires : goal.summed-requires
summed-requires g c = subst (λ gr. Taken gr 12 c.args.picks.now) (sym c.in_ok-priced.ensures.1) (all_taken c.args.self.now c.args.picks.now (sym c.if-not-is_assignment.ensures))

pub returns-clause-value : goal.returns-clause-value
returns-clause-value g c =
    let m = c.args.memory.now in
    let xs = c.args.picks.now in
    let is = c.in_ok-priced.ensures in
    let md = model_of g.P.Price c.args.self.now m in
    let on = assigns_is g.P.Price c.args.self.now (take 1710 m) xs ∙ sym c.if-not-is_assignment.ensures in
    ap Some (c.summed.ensures ∙ ap (λ z. total g.P.Price z (pick_of xs)) (ap₂ (model_in g.P.Price) is.1 is.2))
    ∙ sym (cond-false (ltb (length m) 1710) _ _ (le-ltb (length m) 1710 is.0) ∙ cond-true (assigns md (pick_of xs)) _ _ on)

-- # The theorems on totals hold wherever the call ends
pub returns-in_err-priced-clause-lowest : goal.returns-in_err-priced-clause-lowest
returns-in_err-priced-clause-lowest g c = lowest_stands g.P.Price c.args.self.now c.args.memory.now

pub returns-in_err-priced-clause-unread : goal.returns-in_err-priced-clause-unread
returns-in_err-priced-clause-unread g c = unread g.P.Price

pub returns-then-not-is_assignment-clause-lowest : goal.returns-then-not-is_assignment-clause-lowest
returns-then-not-is_assignment-clause-lowest g c = lowest_stands g.P.Price c.args.self.now c.args.memory.now

pub returns-then-not-is_assignment-clause-unread : goal.returns-then-not-is_assignment-clause-unread
returns-then-not-is_assignment-clause-unread g c = unread g.P.Price

pub returns-clause-lowest : goal.returns-clause-lowest
returns-clause-lowest g c = lowest_stands g.P.Price c.args.self.now c.args.memory.now

pub returns-clause-unread : goal.returns-clause-unread
returns-clause-unread g c = unread g.P.Price
