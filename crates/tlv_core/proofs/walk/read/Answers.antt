use Rattle.std.proofs.Common.{Ok, Err, ap, ◌∙◌}
use Rattle.std.proofs.lemmas.Result.{err_from_is_err_and}
use Rattle.tlv_core.specs.Scan.{nodes_of}
use Rattle.tlv_core.proofs.Whole.{without_fault, with_fault, one_forest, not_both, one_fault, AllWithin-read}
use Rattle.tlv_core.proofs.Forest.{read_some, read_none}
use Rattle.tlv_core.proofs.walk.read.Goals as goal

pub returns-in_err-check-clause-fault : goal.returns-in_err-check-clause-fault
returns-in_err-check-clause-fault c =
    let p = err_from_is_err_and c.from_residual.result c.from_residual.ensures.1 in
    let e = c.in_err-check.field-0.0 in
    rw (p.1, p.2) (with_fault c.args.bytes.now e.0 e.1 c.in_err-check.ensures.fault)

pub returns-in_err-check-clause-accepts : goal.returns-in_err-check-clause-accepts
returns-in_err-check-clause-accepts c =
    let e = c.in_err-check.field-0.0 in
    λ nodes reads. absurd (not_both c.args.bytes.now nodes e.0 e.1 reads (with_fault c.args.bytes.now e.0 e.1 c.in_err-check.ensures.fault))

pub returns-in_err-check-clause-refuses : goal.returns-in_err-check-clause-refuses
returns-in_err-check-clause-refuses c =
    let p = err_from_is_err_and c.from_residual.result c.from_residual.ensures.1 in
    let e = c.in_err-check.field-0.0 in
    λ fault at breaks. p.1 ∙ ap Err (p.2 ∙ one_fault c.args.bytes.now e.0 fault e.1 at (with_fault c.args.bytes.now e.0 e.1 c.in_err-check.ensures.fault) breaks)

pub returns-clause-found : goal.returns-clause-found
returns-clause-found c = rw c.new.ensures.left (without_fault c.args.bytes.now c.in_ok-check.ensures.good)

pub returns-clause-accepts : goal.returns-clause-accepts
returns-clause-accepts c =
    λ nodes reads. ap Ok (ap nodes_of c.new.ensures.left ∙ one_forest c.args.bytes.now _ nodes (without_fault c.args.bytes.now c.in_ok-check.ensures.good) reads)

pub returns-clause-refuses : goal.returns-clause-refuses
returns-clause-refuses c =
    λ fault at breaks. absurd (not_both c.args.bytes.now _ fault at (without_fault c.args.bytes.now c.in_ok-check.ensures.good) breaks)

pub returns-clause-within : goal.returns-clause-within
returns-clause-within c = rw c.new.ensures.left (AllWithin-read c.args.bytes.now _ (without_fault c.args.bytes.now c.in_ok-check.ensures.good))

pub returns-clause-some : goal.returns-clause-some
returns-clause-some c = rw c.new.ensures.left (read_some c.args.bytes.now _ (without_fault c.args.bytes.now c.in_ok-check.ensures.good))

pub returns-in_err-check-clause-none : goal.returns-in_err-check-clause-none
returns-in_err-check-clause-none c =
    let p = err_from_is_err_and c.from_residual.result c.from_residual.ensures.1 in
    let e = c.in_err-check.field-0.0 in
    rw p.1 (read_none c.args.bytes.now e.0 e.1 (with_fault c.args.bytes.now e.0 e.1 c.in_err-check.ensures.fault))
