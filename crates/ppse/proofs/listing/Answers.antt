use Rattle.std.proofs.Common.{◌≤◌, length, sym, ap, ◌∙◌, arith}
use Rattle.std.specs.Option.{option_map}
use Rattle.ep_base.specs.Cards.Apdu.{data_of}
use Rattle.ep_base.specs.Objects.Reading.{forest_of}
use Rattle.ep_base.specs.declared.limits.TheConstants.{DATA}
use Rattle.ppse.proofs.Path.{data_fit, directory_not, directory_is, no_template, no_proprietary, to_entries, IfSome-map}
use Rattle.ppse.proofs.listing.Goals as goal

pub returns-then-sw-ne-SUCCESS-clause-entries : goal.returns-then-sw-ne-SUCCESS-clause-entries
returns-then-sw-ne-SUCCESS-clause-entries c = directory_not c.args.answer.now (λ q. c.if-sw-ne-SUCCESS.true (c.sw.ensures.value ∙ q))

pub returns-in_err-template-clause-entries : goal.returns-in_err-template-clause-entries
returns-in_err-template-clause-entries c =
    let r = c.args.answer.now in
    let none = rw c.data.ensures.bytes at c.in_err-template.ensures in
    rw c.from_residual.ensures (directory_is r (sym c.sw.ensures.value ∙ c.if-sw-ne-SUCCESS.false) ∙ no_template (forest_of (data_of r)) none)

pub returns-in_err-proprietary-clause-entries : goal.returns-in_err-proprietary-clause-entries
returns-in_err-proprietary-clause-entries c =
    let r = c.args.answer.now in
    let few : length (data_of r) ≤ DATA = omega (arith, c.data.ensures.most, ap length c.data.ensures.bytes) in
    let fits = data_fit c.one_reading.ensures.only (data_of r) DATA few in
    let template = rw c.data.ensures.bytes at c.in_ok-template.ensures in
    rw c.from_residual-in_err-proprietary.ensures
    (directory_is r (sym c.sw.ensures.value ∙ c.if-sw-ne-SUCCESS.false)
    ∙ no_proprietary c.one_reading.ensures.all DATA (forest_of (data_of r)) c.in_ok-template.template.now fits template c.in_err-proprietary.ensures)

pub returns-clause-entries : goal.returns-clause-entries
returns-clause-entries c =
    let r = c.args.answer.now in
    let few : length (data_of r) ≤ DATA = omega (arith, c.data.ensures.most, ap length c.data.ensures.bytes) in
    let fits = data_fit c.one_reading.ensures.only (data_of r) DATA few in
    let template = rw c.data.ensures.bytes at c.in_ok-template.ensures in
    let here = to_entries c.one_reading.ensures.all DATA (forest_of (data_of r)) c.in_ok-template.template.now c.in_ok-proprietary.proprietary.now
    (option_map (λ v. v.now) c.first-3.result) fits template c.in_ok-proprietary.ensures c.first-3.ensures in
    directory_is r (sym c.sw.ensures.value ∙ c.if-sw-ne-SUCCESS.false) ∙ here.0

pub returns-clause-most : goal.returns-clause-most
returns-clause-most c =
    let r = c.args.answer.now in
    let few : length (data_of r) ≤ DATA = omega (arith, c.data.ensures.most, ap length c.data.ensures.bytes) in
    let fits = data_fit c.one_reading.ensures.only (data_of r) DATA few in
    let template = rw c.data.ensures.bytes at c.in_ok-template.ensures in
    let here = to_entries c.one_reading.ensures.all DATA (forest_of (data_of r)) c.in_ok-template.template.now c.in_ok-proprietary.proprietary.now
    (option_map (λ v. v.now) c.first-3.result) fits template c.in_ok-proprietary.ensures c.first-3.ensures in
    IfSome-map (λ v. v.now) DATA c.first-3.result here.1
