use Rattle.std.proofs.Common.{sym, ◌∙◌, rules}
use Rattle.sheets.specs.Records.{Test}
use Rattle.sheets.proofs.Walk.{stops, goes}
use Rattle.sheets.proofs.record.Record.checked.Goals as goal

pub returns-in_err-test_all : goal.returns-in_err-test_all
returns-in_err-test_all g c =
    let f = c.fields-fields.ensures.value in
    let ranges = rw f at (c.test_all.ensures Test.InRange (λ x b r h p. search rules)) in
    search rules ∙ sym (stops _ _ _ ranges _ c.in_err-test_all.was)

pub returns-in_err-test_all-2 : goal.returns-in_err-test_all-2
returns-in_err-test_all-2 g c =
    let f = c.fields-fields.ensures.value in
    let ranges = rw f at (c.test_all.ensures Test.InRange (λ x b r h p. search rules)) in
    let declared = rw f at (c.test_all-2.ensures Test.Declared (λ x b r h p. search rules)) in
    search rules ∙ sym (goes _ _ _ ranges _ c.in_ok-test_all.was ∙ stops _ _ _ declared _ c.in_err-test_all-2.was)

pub returns-in_err-test_all-3 : goal.returns-in_err-test_all-3
returns-in_err-test_all-3 g c =
    let f = c.fields-fields.ensures.value in
    let ranges = rw f at (c.test_all.ensures Test.InRange (λ x b r h p. search rules)) in
    let declared = rw f at (c.test_all-2.ensures Test.Declared (λ x b r h p. search rules)) in
    let widths = rw f at (c.test_all-3.ensures Test.OfWidth (λ x b r h p. search rules)) in
    search rules ∙ sym (goes _ _ _ ranges _ c.in_ok-test_all.was ∙ goes _ _ _ declared _ c.in_ok-test_all-2.was ∙ stops _ _ _ widths _ c.in_err-test_all-3.was)

pub returns : goal.returns
returns g c =
    let f = c.fields-fields.ensures.value in
    let ranges = rw f at (c.test_all.ensures Test.InRange (λ x b r h p. search rules)) in
    let declared = rw f at (c.test_all-2.ensures Test.Declared (λ x b r h p. search rules)) in
    let widths = rw f at (c.test_all-3.ensures Test.OfWidth (λ x b r h p. search rules)) in
    sym (goes _ _ _ ranges _ c.in_ok-test_all.was ∙ goes _ _ _ declared _ c.in_ok-test_all-2.was ∙ goes _ _ _ widths _ c.in_ok-test_all-3.was)
