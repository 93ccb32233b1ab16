use Rattle.std.proofs.Common.{◌≡◌, ◌≤◌, ◌∙◌, length, ap, subst, arith}
use Rattle.inventory.specs.Finds.{Finds}
use Rattle.inventory.specs.Tags.{in_order}
use Rattle.inventory.proofs.Ending.{order_length}
use Rattle.inventory.proofs.TellsCards.{clean_tells}
use Rattle.inventory_run.specs.Listing.{held}
use Rattle.inventory_run.proofs.Finding.{is_found, all_found}
use Rattle.inventory_run.proofs.writing.find_all.Goals as goal

pub unwrap-exchanges-requires : goal.unwrap-exchanges-requires
unwrap-exchanges-requires c =
    is_found (held c.args.field) c.inventory.new.found.items c.inventory.result c.requires.field.few c.inventory.ensures.cause
    (c.inventory.ensures.finds (λ s. s) clean_tells c.requires.field.tags)

pub returns : goal.returns
returns c =
    let all : c.inventory.new.found.items ≡ in_order (held c.args.field) =
    all_found (held c.args.field) c.inventory.new.found.items c.inventory.result c.requires.field.few c.inventory.ensures.cause
    (c.inventory.ensures.finds (λ s. s) clean_tells c.requires.field.tags) in
    let count : length c.inventory.new.found.items ≡ length (held c.args.field) = ap length all ∙ order_length (held c.args.field) in
    record { found = all; count = count; few = omega (arith, count, c.requires.field.few) }
